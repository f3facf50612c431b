-- Every refusal of a section, 1 to 13 and 32, is given at the first fault in document 01's order: of the two faults of each case of
-- specs/FaultCases.antt the earlier one is said, with its place, and once that is mended the later one. The checker
-- computes the verdicts. proofs/FaultOrder.antt of facts_sections has the law for the rules, 6 to 13 and the chain.
use mathlib.Core.Path.{◌≡◌, refl}
use mathlib.Core.Bool.{true}
use Rattle.scope.specs.Lists.{every}
use Rattle.scope.proofs.Computes.{computes}
use Rattle.facts_examples.specs.FaultCases.{cases, first_said, section_refusals, said_first}

pub first_faults : every first_said cases ≡ true
unfolding computes
first_faults = refl

pub each_number-first : every said_first section_refusals ≡ true
each_number-first = refl
