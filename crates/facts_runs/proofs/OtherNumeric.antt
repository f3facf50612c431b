-- Trap 46, both ways. The lines of specs/Arithmetic.antt stand at the codes of the list, so a code has a line exactly where it is
-- in the list; and nothing but a code without a line says 46.
use Prim.Native.Nat.{ℕ}
use native.Mathlib.Omega.{arith}
use mathlib.Core.Path.{◌≡◌, refl, sym, ◌∙◌, subst}
use mathlib.Core.Bool.{Bool, true, false, cond}
use mathlib.Core.Option.{Option, none, some}
use mathlib.Core.List.{List, [], ◌∷◌, map}
use lib.Dec.{eqb}
use borrow.Author.Tests.{eq-eqb, eqb-true}
use Rattle.scope.specs.Refusals.{trap_other_numeric}
use Rattle.scope.specs.Instructions.{Op, find}
use Rattle.scope.specs.Arithmetic.{Deed, deeds, deed_of}
use Rattle.scope.specs.Machine.{Value, Machine, Program, traps, do_numeric, do_op}
use Rattle.scope.proofs.Truths.{none_is_not-some}
use Rattle.facts_codes.specs.Numeric.{Among, is_first_lem, is_later}
use Rattle.facts_runs.specs.OtherNumeric.{done_codes, OtherNumeric, other_numeric, FortySix}
use Rattle.facts_runs.proofs.Trapping.{told, Each, other_op}

-- the codes of a table, in its order
abbrev codes_of : {A : Type 0} → List (ℕ × A) → List ℕ
codes_of rows = map (λ r. r.0) rows

found_among : {A : Type 0} (b : ℕ) (rows : List (ℕ × A)) {x : A} → find b rows ≡ some x → Among b (codes_of rows)
found_among b [] e = absurd (none_is_not-some e)
found_among {A} b (r ∷ rows) {x} e = go (eqb b r.0) refl e (λ f. found_among b rows f)
  where
    go : (t : Bool) → eqb b r.0 ≡ t → cond t (some r.1) (find b rows) ≡ some x → (find b rows ≡ some x → Among b (codes_of rows)) → Among b (r.0 ∷ codes_of rows)
    go true is e later = rw (eqb-true b r.0 is) is_first_lem
    go false is e later = is_later (later e)

missing_among : {A : Type 0} (b : ℕ) (rows : List (ℕ × A)) → find b rows ≡ none → Among b (codes_of rows) → ⊥
missing_among {A = A} b [] e x = elim x [ ]
missing_among b (r ∷ rows) e is_first_lem =
    let there : find r.0 (r ∷ rows) ≡ some r.1 = rw (eq-eqb r.0 r.0 refl) in
    none_is_not-some (sym e ∙ there)
missing_among b (r ∷ rows) e (is_later among) = go (eqb b r.0) e (λ f. missing_among b rows f among)
  where
    go : (t : Bool) → cond t (some r.1) (find b rows) ≡ none → (find b rows ≡ none → ⊥) → ⊥
    go true e later = none_is_not-some (sym e)
    go false e later = later e

-- the lines stand at the codes of the list, each once and in order
pub lines_are_done : codes_of deeds ≡ done_codes
lines_are_done = refl

pub no_line : (b : ℕ) → deed_of b ≡ none → ¬ Among b done_codes
unfolding deed_of
no_line b e among = missing_among b deeds e (rw lines_are_done among)

pub not_listed : (b : ℕ) → ¬ Among b done_codes → deed_of b ≡ none
unfolding deed_of
not_listed b no' = go (find b deeds) refl
  where
    go : (o : Option Deed) → find b deeds ≡ o → o ≡ none
    go none e = refl
    go (some deed) e = absurd (no' (rw lines_are_done at (found_among b deeds e)))

-- a trap of this number tells that the instruction is such a code
abbrev Tells : Op → ℕ → Type 0
Tells o n = n ≡ trap_other_numeric → OtherNumeric o

each_tells : (o : Op) → Each (Tells o)
each_tells o =
    record {
      unreachable = λ f. absurd (let none-such : ⊥ = omega arith in none-such);
      null = λ f. absurd (let none-such : ⊥ = omega arith in none-such);
      null_descriptor = λ f. absurd (let none-such : ⊥ = omega arith in none-such);
      cast = λ f. absurd (let none-such : ⊥ = omega arith in none-such);
    }

says_46 : (p : Program) (m : Machine) (vs : List Value) (o : Op) → do_op p m vs o ≡ traps trap_other_numeric → OtherNumeric o
says_46 p m vs o e =
    told {P = Tells o}
    (other_op (each_tells o) p m vs o
    (λ makes f. absurd (let none-such : ⊥ = omega arith in none-such))
    (λ b is line f. subst OtherNumeric (sym is) (other_numeric (no_line b line))))
    e refl

comes_46 : (p : Program) (m : Machine) (vs : List Value) {o : Op} → OtherNumeric o → do_op p m vs o ≡ traps trap_other_numeric
unfolding do_op do_numeric
comes_46 p m vs (other_numeric {b = b} no') = rw (not_listed b no')

pub forty_six : FortySix
forty_six = record { exactly = λ p m vs o. (says_46 p m vs o, comes_46 p m vs) }
