-- The samples, computed; and the theorem at machines that meet its premises: a rule that says what the step does, a trap, and a
-- machine of which no rule speaks.
use Prim.Native.Nat.{ℕ}
use mathlib.Core.Path.{◌≡◌, refl}
use mathlib.Core.List.{List, [], ◌∷◌}
use Rattle.scope.specs.Instructions.{drop_value, ref_eq, ref_as_non_null, op, end}
use Rattle.scope.specs.Order.{up_table, climbs, heap_below}
use Rattle.scope.specs.Integers.{int_sub}
use Rattle.scope.specs.Numeric.{numeric_of}
use Rattle.scope.specs.Arithmetic.{deed_of}
use Rattle.scope.specs.Machine.{Value, null, object, open_block, Machine, Outcome, goes, traps, stuck, split_top, defaults_of, do_numeric, past_ends, jump, do_op, do_instr, step}
use Rattle.scope.proofs.Impossible.{contradiction}
use Rattle.facts_steps.specs.Places.{state}
use Rattle.facts_steps.specs.Trapping.{NullUsed, by_as_non_null}
use Rattle.facts_steps.specs.Rules.{Steps, does_eq_two_objects, steps_op, steps_block_end}
use Rattle.facts_steps.specs.Laws.{StepOf}
use Rattle.facts_steps.specs.Samples.{program, heap, locals, blocks, after, on, no, Sample, sample, machine, AllDo, none_left_lem, also_does, control, plain_ones, references, structs, casts, branching_casts}
use Rattle.facts_steps.proofs.Laws.{step_laws, trap_laws}

pub control_does : AllDo control
unfolding step do_instr do_op jump split_top past_ends
control_does = also_does refl (also_does refl (also_does refl (also_does refl (also_does refl (also_does refl (also_does refl (also_does refl (also_does refl (also_does refl (also_does refl (also_does refl (also_does refl (also_does refl (none_left_lem))))))))))))))

pub plain_does : AllDo plain_ones
unfolding step do_instr do_op do_numeric deed_of numeric_of int_sub
plain_does = also_does refl (also_does refl (also_does refl (also_does refl (also_does refl (also_does refl (also_does refl (also_does refl (also_does refl (also_does refl (none_left_lem))))))))))

pub references_do : AllDo references
unfolding step do_instr do_op
references_do = also_does refl (also_does refl (also_does refl (also_does refl (also_does refl (also_does refl (also_does refl (also_does refl (also_does refl (also_does refl (also_does refl (also_does refl (none_left_lem))))))))))))

pub structs_do : AllDo structs
unfolding step do_instr do_op split_top defaults_of
structs_do = also_does refl (also_does refl (also_does refl (also_does refl (also_does refl (also_does refl (also_does refl (also_does refl (also_does refl (also_does refl (also_does refl (also_does refl (also_does refl (also_does refl (also_does refl (none_left_lem)))))))))))))))

pub casts_do : AllDo casts
unfolding step do_instr do_op heap_below up_table climbs
casts_do = also_does refl (also_does refl (also_does refl (also_does refl (also_does refl (also_does refl (also_does refl (also_does refl (also_does refl (also_does refl (also_does refl (also_does refl (also_does refl (also_does refl (also_does refl (also_does refl (none_left_lem))))))))))))))))

pub branching-casts_do : AllDo branching_casts
unfolding step do_instr do_op jump split_top past_ends heap_below up_table climbs
branching-casts_do = also_does refl (also_does refl (also_does refl (also_does refl (also_does refl (also_does refl (also_does refl (also_does refl (also_does refl (also_does refl (also_does refl (also_does refl (also_does refl (also_does refl (also_does refl (also_does refl (also_does refl (none_left_lem)))))))))))))))))

-- ref.eq of two objects: the rule, and so the step
abbrev two_objects : Machine
two_objects = machine (sample (object 0 ∷ object 1 ∷ []) ref_eq (on (no ∷ [])))

pub two_objects_ruled : StepOf program two_objects (on (no ∷ []))
two_objects_ruled = steps_op (does_eq_two_objects contradiction)

pub two_objects_step : step program two_objects ≡ on (no ∷ [])
two_objects_step = (step_laws.goes_on_lem program two_objects _).1 two_objects_ruled

-- a step, and so its rule; `end` of a block puts its operands on top of what lay below
abbrev at_end : Machine
at_end = state heap locals (no ∷ []) (open_block 20 1 (null ∷ []) ∷ []) ((42, end) ∷ after)

pub end_ruled : StepOf program at_end (goes (state heap locals (no ∷ null ∷ []) [] after))
unfolding step do_instr
end_ruled = (step_laws.goes_on_lem program at_end _).0 refl

-- 42, both ways
abbrev on_null : Machine
on_null = machine (sample (null ∷ []) ref_as_non_null (traps 42))

pub null_traps : do_op program on_null on_null.operands ref_as_non_null ≡ traps 42
null_traps = (trap_laws.forty_two program on_null ref_as_non_null).1 by_as_non_null

pub null_used : NullUsed on_null.operands ref_as_non_null
unfolding do_op
null_used = (trap_laws.forty_two program on_null ref_as_non_null).0 refl

-- no operand for drop: no rule
abbrev nothing_there : Machine
nothing_there = machine (sample [] drop_value stuck)

pub no_rule : (r : Outcome) → ¬ StepOf program nothing_there r
unfolding step do_instr do_op
no_rule = (step_laws.nowhere program nothing_there).0 refl
