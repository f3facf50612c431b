-- The order of whole numbers and a test of it say the same.
use Prim.Native.Nat.{◌+◌}
use mathlib.Core.Path.{◌≡◌}
use mathlib.Core.Bool.{Bool, true, false}
use lib.Dec.{ltb}
use borrow.Author.Tests.{lt-ltb, ltb-true}
use Rattle.scope.specs.Numbers.{Whole, plus, minus}
use Rattle.scope.specs.Integers.{WholeLess, both_above, both_below, across_zero}
use Rattle.scope.proofs.Impossible.{impossible}

abbrev pub whole_test : Whole → Whole → Bool
whole_test (plus m) (plus n) = ltb m n
whole_test (plus m) (minus n) = false
whole_test (minus m) (plus n) = ltb 0 (m + n)
whole_test (minus m) (minus n) = ltb n m

pub whole-tested : {x y : Whole} → WholeLess x y → whole_test x y ≡ true
whole-tested (both_above {m} {n} h) = lt-ltb m n h
whole-tested (both_below {m} {n} h) = lt-ltb n m h
whole-tested (across_zero {m} {n} h) = lt-ltb 0 (m + n) h

pub tested-whole : (x y : Whole) → whole_test x y ≡ true → WholeLess x y
tested-whole (plus m) (plus n) e = both_above (ltb-true m n e)
tested-whole (plus m) (minus n) e = impossible cc
tested-whole (minus m) (plus n) e = across_zero (ltb-true 0 (m + n) e)
tested-whole (minus m) (minus n) e = both_below (ltb-true n m e)
