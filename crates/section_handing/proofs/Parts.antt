-- The part of a list between two places, as much of it as there is: by where the two places lie, what is cut out between the
-- nearest places inside is what lies between them. And which part an answer names.
use Prim.Native.Nat.{ℕ, ◌-◌, ◌≤◌, ◌<◌, min}
use mathlib.Core.Path.{◌≡◌}
use mathlib.Core.Bool.{true, false}
use mathlib.Core.List.{List, []}
use native.Mathlib.Omega.{arith}
use lib.ListN.{length, take, drop, length-drop, drop_of_length-le}
use lib.Seq.{take_all, take-nil}
use lib.Dec.{leb, ltb}
use mathlib.Core.Logic.{◌⊎◌, inl, inr}
use borrow.Author.Tests.{leb-true, leb-false, ltb-true, ltb-false}
use Rattle.scope.specs.declared.Place.{Place}
use Rattle.scope.specs.declared.Asked.{Asked}
use Rattle.scope.specs.declared.Asked
use Rattle.scope.proofs.Truths.{decided}
use Rattle.section_handing.specs.Handing.{bytes_named}

module _ (s : List ℕ) (from to start end : ℕ) (e : end ≡ min to (length s)) (f : start ≡ min from end) where
  -- nothing lies between
  none_between : to ≤ from → take (end - start) (drop start s) ≡ take (to - from) (drop from s)
  none_between h = let a : end - start ≡ 0 = omega arith in let b : to - from ≡ 0 = omega arith in rw (a, b)

  -- the first place lies beyond the end
  beyond-end : length s < from → take (end - start) (drop start s) ≡ take (to - from) (drop from s)
  beyond-end h =
      let a : end - start ≡ 0 = omega arith in
      let over : length s ≤ from = omega arith in
      let b : drop from s ≡ [] = drop_of_length-le s over in
      rw (a, b, take-nil)

  -- the last place does
  all_left : from ≤ length s → length s ≤ to → take (end - start) (drop start s) ≡ take (to - from) (drop from s)
  all_left g h =
      let a : start ≡ from = omega arith in
      let l = length-drop from s in
      let b : end - start ≡ length s - from = omega arith in
      rw (b, a, take_all (length s - from) (drop from s) (omega arith), take_all (to - from) (drop from s) (omega arith))

  -- both lie inside
  inside : from ≤ to → to ≤ length s → take (end - start) (drop start s) ≡ take (to - from) (drop from s)
  inside g h = let a : start ≡ from = omega arith in let b : end - start ≡ to - from = omega arith in rw (b, a)

  pub part_between : take (end - start) (drop start s) ≡ take (to - from) (drop from s)
  part_between = go (decided (leb to from)) (decided (ltb (length s) from)) (decided (leb (length s) to))
    where
      go : (leb to from ≡ true) ⊎ (leb to from ≡ false) → (ltb (length s) from ≡ true) ⊎ (ltb (length s) from ≡ false) → (leb (length s) to ≡ true) ⊎ (leb (length s) to ≡ false) → take (end - start) (drop start s) ≡ take (to - from) (drop from s)
      go (inl a) b c = none_between (leb-true to from a)
      go (inr a) (inl b) c = beyond-end (ltb-true (length s) from b)
      go (inr a) (inr b) (inl c) = all_left (ltb-false (length s) from b) (leb-true (length s) to c)
      go (inr a) (inr b) (inr c) = inside (let h = leb-false to from a in omega arith) (let h = leb-false (length s) to c in omega arith)

-- bytes_of

module _ (library section : List ℕ) {q : List ℕ} {r : Asked} where
  pub named_none : {k : ℕ} {p : Place} → r ≡ Asked.TheVariants.Refused k p → q ≡ take (0 - 0) (drop 0 section) → q ≡ bytes_named library section r
  unfolding bytes_named
  named_none e b = rw e b

  pub named_library : {f t : ℕ} → r ≡ Asked.TheVariants.Library f t → q ≡ take (t - f) (drop f library) → q ≡ bytes_named library section r
  unfolding bytes_named
  named_library e b = rw e b

  pub named_addon : {f t : ℕ} → r ≡ Asked.TheVariants.Addon f t → q ≡ take (t - f) (drop f section) → q ≡ bytes_named library section r
  unfolding bytes_named
  named_addon e b = rw e b

pub ruleset named_exits = (named_none, named_library, named_addon)
