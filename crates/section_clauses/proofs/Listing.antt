-- The list of supertypes. The loop and the definition walk the same numbers; of those that are done the loop holds the
-- first link and the greatest of the others, and one more number changes just what the kept list's links change by.
use Prim.Native.Nat.{ℕ, ◌+◌, ◌-◌, ◌≤◌, ◌<◌, max}
use mathlib.Core.Path.{◌≡◌, refl, sym, ap, ap₂, ◌∙◌}
use mathlib.Core.List.{List, [], ◌∷◌, ◌++◌, append-nil}
use native.Mathlib.Omega.{arith}
use lib.ListN.{length, length-append}
use borrow.Author.Tests.{eq-eqb, ne_eqb}
use mir.Syntax.{w64}
use mir.Val.{Fits}
use Rattle.std.specs.Prelude.{Result, Ok, Err}
use Rattle.scope.specs.declared.Refused.{Refused}
use Rattle.scope.specs.Reading.{got, entries}
use Rattle.scope.specs.Numbers.{u32}
use Rattle.scope.specs.Sections.{supers_at}
use Rattle.scope.specs.Told.{told}
use Rattle.scope.proofs.Told.{passed}
use Rattle.number_values.specs.Values.{natural_is}
use Rattle.number_values.proofs.Laws.{natural_got, natural_refused}
use Rattle.type_table.specs.Kept.{kept, greatest}
use Rattle.section_forms.proofs.Lists.{onto, onto-none, onto_more, entries-step, entries_refused, entries-done}
use Rattle.section_clauses.specs.Links.{first_link, further_link, first_of_kept, further_of_kept, links_of}
use Rattle.section_clauses.specs.declared.Links.{Links}

-- first_link and further_link

module _ (count first link : ℕ) where
  pub first_now : count ≡ 0 → link ≡ first_link count first link
  first_now e = rw (eq-eqb count 0 e)

  pub first_before : (count ≡ 0 → ⊥) → first ≡ first_link count first link
  first_before e = rw (ne_eqb count 0 e)

module _ (count further link : ℕ) where
  pub further_none : count ≡ 0 → further ≡ further_link count further link
  further_none e = rw (eq-eqb count 0 e)

  pub further_greater : (count ≡ 0 → ⊥) → further < link → link ≡ further_link count further link
  further_greater e h = rw (ne_eqb count 0 e) (omega arith)

  pub further_before : (count ≡ 0 → ⊥) → link ≤ further → further ≡ further_link count further link
  further_before e h = rw (ne_eqb count 0 e) (omega arith)

pub ruleset link_exits = (first_now, first_before, further_none, further_greater, further_before)

-- one more supertype

kept-max : (x y : ℕ) → kept (max x y) + 1 ≡ max (kept x + 1) (kept y + 1)
kept-max x y = omega arith

greatest_more : (n : ℕ) (xs : List ℕ) (x : ℕ) → greatest n (xs ++ x ∷ []) ≡ max (greatest n xs) x
greatest_more n [] x = refl
greatest_more n (y ∷ ys) x = greatest_more (max n y) ys x

first_more : (done : List ℕ) (x : ℕ) → first_of_kept (done ++ x ∷ []) ≡ first_link (length done) (first_of_kept done) (kept x + 1)
first_more [] x = refl
first_more (a ∷ []) x = refl
first_more (a ∷ b ∷ more) x = rw (ne_eqb (length (a ∷ b ∷ more)) 0 (λ e. omega arith))

further_more : (done : List ℕ) (x : ℕ) → further_of_kept (done ++ x ∷ []) ≡ further_link (length done) (further_of_kept done) (kept x + 1)
further_more [] x = refl
further_more (a ∷ []) x = omega arith
further_more (a ∷ b ∷ more) x = rw (ne_eqb (length (a ∷ b ∷ more)) 0 (λ e. omega arith)) (ap (λ (n : ℕ). kept n + 1) (greatest_more b more x) ∙ kept-max (greatest b more) x)

-- super_entries

pub record Linked (n : ℕ) (s : List ℕ) (at next count first further : ℕ) : Type 0 where
  pub done : List ℕ
  pub counted : length done ≡ count
  pub fewer : count ≤ n
  pub same : entries u32 n n s at ≡ onto done (entries u32 (n - count) (n - count) s next)
  pub firsts : first ≡ first_of_kept done
  pub furthers : further ≡ further_of_kept done

pub linked_first : (n : ℕ) (s : List ℕ) (at : ℕ) → Linked n s at at 0 0 0
linked_first n s at =
    record {
      done = [];
      counted = refl;
      fewer = omega arith;
      same = let e : n - 0 ≡ n = omega arith in rw e (onto-none (entries u32 n n s at));
      firsts = refl;
      furthers = refl;
    }

module _ {n : ℕ} {s : List ℕ} {at next count first further : ℕ} (p : Linked n s at next count first further) where
  pub linked_done : n ≤ count → let links : Links = record { first = first; further = further } in Ok (links, next) ≡ told links_of (entries u32 n n s at)
  linked_done h =
      let all : entries u32 n n s at ≡ got (p.done ++ []) next = p.same ∙ ap (onto p.done) (entries-done u32 (n - count) (n - count) s next (omega arith)) in
      rw (all, append-nil, p.firsts, p.furthers)

  module _ (more : count < n) where
    pub linked_refused : {no : Refused} → Err no ≡ natural_is (u32 s next) → Err no ≡ told links_of (entries u32 n n s at)
    linked_refused e =
        rw (p.same, entries_refused u32 (n - count) (n - count) s next (omega arith) (omega arith) (natural_refused (u32 s next) e refl))

    pub linked_turn : {x after k first' further' : ℕ} → Ok (x, after) ≡ natural_is (u32 s next) → k ≡ kept x → first' ≡ first_link count first (k + 1) → further' ≡ further_link count further (k + 1) → Linked n s at after (count + 1) first' further'
    linked_turn {x} {after} {k} e same-k f g =
        let q : length p.done ≡ count = p.counted in
        record {
          done = p.done ++ x ∷ [];
          counted = length-append p.done (x ∷ []) ∙ (omega arith);
          fewer = omega arith;
          same =
              p.same
              ∙ ap (onto p.done) (entries-step u32 (n - count) (n - count) s next (omega arith) (omega arith) (natural_got (u32 s next) e refl))
              ∙ onto_more p.done x (entries u32 (n - count - 1) (n - count - 1) s after)
              ∙ ap₂ (λ (i j : ℕ). onto (p.done ++ x ∷ []) (entries u32 i j s after)) (omega arith) (omega arith);
          firsts = f ∙ rw (same-k, p.firsts, ← q) (sym (first_more p.done x));
          furthers = g ∙ rw (same-k, p.furthers, ← q) (sym (further_more p.done x));
        }

pub link_fits : (x : ℕ) {k : ℕ} → k ≡ kept x → Fits w64 (k + 1)
link_fits x e = record { fits = omega arith }

pub ruleset super_exits = (linked_first, linked_turn, link_fits)

-- supers_at

module _ (s : List ℕ) (at : ℕ) where
  pub supers_refused : {no : Refused} → Err no ≡ natural_is (u32 s at) → Err no ≡ told links_of (supers_at s at)
  unfolding supers_at
  supers_refused e = rw (natural_refused (u32 s at) e refl)

  pub supers_got : {n next : ℕ} {r : Result (Links × ℕ) Refused} → Ok (n, next) ≡ natural_is (u32 s at) → r ≡ told links_of (entries u32 n n s next) → r ≡ told links_of (supers_at s at)
  unfolding supers_at
  supers_got e f = f ∙ sym (rw (natural_got (u32 s at) e refl))

pub ruleset supers_exits = (passed, supers_refused, supers_got)
