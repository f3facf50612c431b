-- Every example of specs/Pinned.antt is answered as document 01 says. The checker computes the definitions.
use mathlib.Core.Path.{◌≡◌, refl}
use mathlib.Core.Bool.{true}
use Rattle.scope.specs.Lists.{every}
use Rattle.scope.proofs.Computes.{computes}
use Rattle.facts_examples.specs.Pinned.{sizes, codes, thin_bodies, thin_sections, holds}

pub sizes_hold : every holds sizes ≡ true
unfolding computes
sizes_hold = refl

pub codes_hold : every holds codes ≡ true
unfolding computes
codes_hold = refl

pub thin_bodies_hold : every holds thin_bodies ≡ true
unfolding computes
thin_bodies_hold = refl

pub thin_sections_hold : every holds thin_sections ≡ true
unfolding computes
thin_sections_hold = refl
