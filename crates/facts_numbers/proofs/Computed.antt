-- Every vector of specs/Vectors.antt and every sample of specs/Samples.antt is answered as it says. The checker computes the
-- definitions.
use mathlib.Core.Path.{◌≡◌, refl}
use mathlib.Core.Bool.{true}
use mathlib.Core.List.{◌++◌}
use Rattle.scope.specs.Lists.{every}
use Rattle.scope.proofs.Computes.{computes}
use Rattle.facts_numbers.specs.Vectors.{agrees, tests, integers, floats}
use Rattle.facts_numbers.specs.Samples.{answered, samples}

pub vectors_hold : every agrees (tests ++ integers ++ floats) ≡ true
unfolding computes
vectors_hold = refl

pub samples_hold : every answered samples ≡ true
unfolding computes
samples_hold = refl
