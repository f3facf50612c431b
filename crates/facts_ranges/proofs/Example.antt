-- The places of two small families, worked out by hand. The checker computes the definitions.
use Prim.Native.Nat.{ℕ}
use mathlib.Core.Path.{◌≡◌, refl}
use mathlib.Core.List.{List, [], ◌∷◌, map}
use Rattle.scope.specs.Syntax.{types_of}
use Rattle.scope.specs.Judging.{accepted, judge_types}
use Rattle.scope.specs.Memory.{starts_of, ends_of}
use Rattle.scope.proofs.Computes.{computes}
use Rattle.facts_types.proofs.Judge.{judged_allowed}
use Rattle.facts_ranges.specs.Tell.{RangesTell}
use Rattle.facts_ranges.specs.Example.{a_family, with_a_stranger}
use Rattle.facts_ranges.proofs.Tell.{ranges_tell}

abbrev four : List ℕ
four = 0 ∷ 1 ∷ 2 ∷ 3 ∷ []

pub family_starts : map (starts_of a_family) four ≡ 1 ∷ 2 ∷ 3 ∷ 4 ∷ []
unfolding computes
family_starts = refl

pub family_ends : map (ends_of a_family) four ≡ 5 ∷ 4 ∷ 4 ∷ 5 ∷ []
unfolding computes
family_ends = refl

-- type 3 stands before type 2, and type 2 after all that is below type 0
pub stranger-starts : map (starts_of with_a_stranger) four ≡ 1 ∷ 2 ∷ 4 ∷ 3 ∷ []
unfolding computes
stranger-starts = refl

pub stranger_ends : map (ends_of with_a_stranger) four ≡ 4 ∷ 4 ∷ 5 ∷ 4 ∷ []
unfolding computes
stranger_ends = refl

-- both are allowed, so the theorem speaks of them

family_allowed : judge_types (types_of a_family) 4 ≡ accepted 4
unfolding computes
family_allowed = refl

pub family_tells : RangesTell a_family
family_tells = ranges_tell a_family (judged_allowed a_family family_allowed)

stranger_allowed : judge_types (types_of with_a_stranger) 4 ≡ accepted 4
unfolding computes
stranger_allowed = refl

pub stranger_tells : RangesTell with_a_stranger
stranger_tells = ranges_tell with_a_stranger (judged_allowed with_a_stranger stranger_allowed)
