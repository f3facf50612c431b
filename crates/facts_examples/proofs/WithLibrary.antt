-- Every case of specs/WithLibrary.antt is answered as request 5 of document 02 says. The checker computes the definitions.
use mathlib.Core.Path.{◌≡◌, refl}
use mathlib.Core.Bool.{true}
use Rattle.scope.specs.Lists.{every}
use Rattle.scope.proofs.Computes.{computes}
use Rattle.facts_examples.specs.WithLibrary.{agree, places, numbers, handed, bodies}

pub places-agree : every agree places ≡ true
unfolding computes
places-agree = refl

pub numbers-agree : every agree numbers ≡ true
unfolding computes
numbers-agree = refl

pub handed-agree : every agree handed ≡ true
unfolding computes
handed-agree = refl

pub bodies-agree : every agree bodies ≡ true
unfolding computes
bodies-agree = refl
