-- The theorems at the examples of specs/Examples.antt. Outcomes and verdicts are computed.
use mathlib.Core.Path.{◌≡◌, refl}
use mathlib.Core.List.{map}
use Rattle.scope.specs.Sections.{empty_library}
use Rattle.scope.specs.Abstract.{NONE}
use Rattle.scope.specs.Refusals.{no_match, bad_operand, only_null}
use Rattle.scope.specs.Syntax.{Heap, abstract, defined, nullable, non_null}
use Rattle.scope.specs.Order.{ValOrder}
use Rattle.scope.specs.Judging.{plain, accepted, rejected, judge_joined}
use Rattle.scope.specs.Bodies.{instructions, judge_body}
use Rattle.scope.proofs.Computes.{computes}
use Rattle.facts_refusals.specs.Bodies.{BodySaysNo}
use Rattle.facts_refusals.proofs.Bodies.{body-no}
use Rattle.facts_nulls.specs.Before.{take_before, do_plan_before, judge_end_before, judge_instr_before, judge_from_before, body_before, judge_body_before}
use Rattle.facts_nulls.specs.Outcomes.{Below, BelowButForNull, NotBelow}
use Rattle.facts_nulls.specs.Examples.{two_structs, joined_of, types, outcome, tested, gives_one, null_on_top, topmost_null, null_below, deeper_null, verdict, verdict_before, said, said_before, bodies, made_to_fit, body_of, wider_field}
use Rattle.facts_nulls.proofs.Outcomes.{three_outcomes}
use Rattle.facts_nulls.proofs.Same.{nothing_else_lem}

-- the outcomes

pub types_accepted : judge_joined empty_library two_structs ≡ accepted (joined_of (judge_joined empty_library two_structs))
unfolding computes
types_accepted = refl

pub outcomes_hold : map outcome tested ≡ map (λ t. t.comes_to) tested
unfolding computes
outcomes_hold = refl

-- each side of the three laws, of (ref 0) and (ref null 0), of (ref null none) and (ref 1), of (ref null 0) and (ref 1)

pub below : Below types (non_null (defined 0)) (nullable (defined 0))
unfolding computes
below = (three_outcomes.fits types (non_null (defined 0)) (nullable (defined 0))).0 refl

pub bottom_below_but_for_null : BelowButForNull types (nullable (abstract NONE)) (non_null (defined 1))
unfolding computes
bottom_below_but_for_null = (three_outcomes.would types (nullable (abstract NONE)) (non_null (defined 1))).0 refl

pub not-below : NotBelow types (nullable (defined 0)) (non_null (defined 1))
unfolding computes
not-below = (three_outcomes.not types (nullable (defined 0)) (non_null (defined 1))).0 refl

-- the same by the relation: (ref null none) is not below (ref 1), and (ref none) is
pub bottom_related : ¬ ValOrder types (nullable (abstract NONE)) (non_null (defined 1)) × ((h : Heap) × (nullable (abstract NONE) ≡ nullable h) × ValOrder types (non_null h) (non_null (defined 1)))
unfolding computes
bottom_related = (three_outcomes.related empty_library two_structs (joined_of (judge_joined empty_library two_structs)) types_accepted (nullable (abstract NONE)) (non_null (defined 1))).1.0 refl

-- the verdicts, now and before

pub verdicts_hold : (map verdict bodies ≡ map said bodies) × (map verdict_before bodies ≡ map said_before bodies)
unfolding computes take_before do_plan_before judge_end_before judge_instr_before judge_from_before body_before judge_body_before
verdicts_hold = (refl, refl)

-- by the relations of facts_refusals: the null on top decides, and the null below does not

pub null_decides : BodySaysNo empty_library null_on_top topmost_null 1 only_null (plain 5)
unfolding computes
null_decides = body-no empty_library _ _ 1 refl

pub null_does_not : BodySaysNo empty_library null_below deeper_null 1 bad_operand (plain 5)
unfolding computes
null_does_not = body-no empty_library _ _ 1 refl

-- "what is accepted": three instructions, and so it was

pub made_to_fit_lem : (judge_body empty_library gives_one made_to_fit 1 ≡ accepted (body_of (judge_body empty_library gives_one made_to_fit 1))) × (instructions (body_of (judge_body empty_library gives_one made_to_fit 1)) ≡ 3)
unfolding computes
made_to_fit_lem = (refl, refl)

pub fitted_before : judge_body_before empty_library gives_one made_to_fit 1 ≡ accepted (body_of (judge_body empty_library gives_one made_to_fit 1))
fitted_before = (nothing_else_lem.accepts empty_library gives_one made_to_fit 1 (body_of (judge_body empty_library gives_one made_to_fit 1))).0 made_to_fit_lem.0

-- "Type-section refusals": 8 at type 2

pub section_refused : judge_joined empty_library wider_field ≡ rejected no_match (plain 2)
unfolding computes
section_refused = refl
