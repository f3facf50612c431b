-- Signs and tests: laws of two Bools that the proofs of the operations share.
use mathlib.Core.Path.{◌≡◌, refl}
use mathlib.Core.Bool.{Bool, true, false, not, ◌&&◌, ◌||◌, beq}
use Rattle.scope.specs.Floats.{unlike}
use Rattle.facts_floats.specs.Standard.{sign_of}

pub or_true : (x : Bool) → (x || true) ≡ true
or_true true = refl
or_true false = refl

pub and_true : (s : Bool) → (s && true) ≡ s
and_true true = refl
and_true false = refl

pub and_false : (s : Bool) → (s && false) ≡ false
and_false true = refl
and_false false = refl

pub not-not : (s : Bool) → not (not s) ≡ s
not-not true = refl
not-not false = refl

pub same_sign : (s : Bool) → beq s s ≡ true
same_sign true = refl
same_sign false = refl

pub other_sign : (s : Bool) → beq s (not s) ≡ false
other_sign true = refl
other_sign false = refl

pub signs_both_ways : (s t : Bool) → beq s t ≡ beq t s
signs_both_ways true true = refl
signs_both_ways true false = refl
signs_both_ways false true = refl
signs_both_ways false false = refl

pub unlike_sign : (s t : Bool) → unlike s t ≡ sign_of s t
unlike_sign true true = refl
unlike_sign true false = refl
unlike_sign false true = refl
unlike_sign false false = refl
