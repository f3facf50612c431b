-- How many supertypes the definitions of a list name: two at most where they are kept for the table, one at most where
-- the section is accepted. So the two links of a row say all supertypes.
use Prim.Native.Nat.{ℕ, zero, suc, ◌≤◌}
use native.Mathlib.Omega.{arith}
use mathlib.Core.Path.{◌≡◌, refl}
use mathlib.Core.Bool.{true, false≢true}
use mathlib.Core.List.{List, [], ◌∷◌, map, ◌++◌}
use lib.ListN.{length}
use Rattle.scope.specs.Lists.{as_list}
use Rattle.scope.specs.Syntax.{Definition, Types, types_of, first_of}
use Rattle.scope.specs.TypeRules.{one_super, super_earlier_and_open}
use Rattle.scope.specs.Judging.{accepted, judge_types}
use Rattle.scope.proofs.Accepted.{judged-kept}
use Rattle.type_table.specs.Kept.{kept_supers, kept_definition}
use Rattle.type_table.specs.View.{further_of}

pub record SupersAtMost (n : ℕ) (ds : List Definition) : Type 0 where
  pub few : (x : ℕ) → length (types_of ds x).supers ≤ n

pub first_few : {n : ℕ} {d : Definition} {ds : List Definition} → SupersAtMost n (d ∷ ds) → length d.supers ≤ n
first_few h = h.few zero

pub later_few : {n : ℕ} {d : Definition} {ds : List Definition} → SupersAtMost n (d ∷ ds) → SupersAtMost n ds
later_few h = record { few = λ x. h.few (suc x) }

kept-two : (supers : List ℕ) → length (kept_supers supers) ≤ 2
kept-two [] = omega arith
kept-two (x ∷ []) = omega arith
kept-two (x ∷ y ∷ more) = omega arith

kept-two-at : (ds : List Definition) (x : ℕ) → length (types_of (map kept_definition ds) x).supers ≤ 2
unfolding kept_definition
kept-two-at [] x = omega arith
kept-two-at (d ∷ ds) zero = kept-two d.supers
kept-two-at (d ∷ ds) (suc x) = kept-two-at ds x

pub kept_few : (ds : List Definition) → SupersAtMost 2 (map kept_definition ds)
kept_few ds = record { few = kept-two-at ds }

pub two_links : (supers : List ℕ) → length supers ≤ 2 → as_list (first_of supers) ++ as_list (further_of supers) ≡ supers
two_links [] h = refl
two_links (x ∷ []) h = refl
two_links (x ∷ y ∷ []) h = refl
two_links (x ∷ y ∷ z ∷ more) h = absurd (omega arith)

one_super_lem : (ts : Types) (x : ℕ) (supers : List ℕ) → one_super ts x supers ≡ true → length supers ≤ 1
one_super_lem ts x [] e = omega arith
one_super_lem ts x (p ∷ []) e = omega arith
one_super_lem ts x (p ∷ q ∷ more) e = absurd (false≢true e)

pub super_alone : (ts : Types) (x : ℕ) → super_earlier_and_open ts x ≡ true → length (ts x).supers ≤ 1
unfolding super_earlier_and_open
super_alone ts x e = one_super_lem ts x (ts x).supers e

pub accepted_few : (ds : List Definition) {n : ℕ} → judge_types (types_of ds) (length ds) ≡ accepted n → SupersAtMost 1 ds
accepted_few ds e = record { few = λ x. super_alone (types_of ds) x ((judged-kept ds e).links x).super }
