-- Every definition of specs/ that a computed example looks through, under one name: an example says `unfolding computes`
-- and is proved by `refl`.
use Prim.Native.Nat.{ℕ}
use lib.Ieee.{size}
use Rattle.scope.specs.Reading.{entries}
use Rattle.scope.specs.Numbers.{bits_at, unsigned, signed, little_endian, float_bytes}
use Rattle.scope.specs.Sections.{heap_at, val_at, field_at, few_at, supers_at, head_at, clause_at, form_at, definition_at, group_at, groups_at, read_after}
use Rattle.scope.specs.Order.{up_table, climbs, heap_below, val_below, val_fit, same_heap, same_val}
use Rattle.scope.specs.TypeRules.{names, in_reach, super_earlier_and_open, short_chain, form_matches, matches_super, clauses_on_struct, describes_earlier, clauses_agree, descriptor_follows, describes_follows}
use Rattle.scope.specs.Judging.{links_fault, rule_fault, scan, judge_types, judge_library, judge_joined, judge_sections, ask_type}
use Rattle.scope.specs.Rounding.{units, rounded}
use Rattle.scope.specs.Floats.{float_neg, float_add, float_sub, float_mul, float_div, float_equal, float_less}
use Rattle.scope.specs.Integers.{int_add, int_sub, int_less_signed, int_at_most_signed}
use Rattle.scope.specs.Numeric.{numeric_of}
use Rattle.scope.specs.Arithmetic.{deed_of}
use Rattle.scope.specs.Instructions.{block_type_at, cast_at, instr_at}
use Rattle.scope.specs.BodyRules.{last_of, plan_of}
use Rattle.scope.specs.Bodies.{fits, fit, take_all, put, do_plan, judge_end, judge_instr, judge_from, locals_at, body_at, judge_body}
use Rattle.scope.specs.Machine.{split_top, defaults_of, do_numeric, past_ends, jump, do_op, do_instr, step}
use Rattle.scope.specs.Running.{run_by, run, trial_run}
use Rattle.scope.specs.Ranges.{total, size_of, start_of}
use Rattle.scope.specs.Memory.{parents, row_words, rows_from, objects_from, block_words, state_words}

unfoldable pub computes : ℕ
unfolding entries bits_at unsigned signed little_endian float_bytes heap_at val_at field_at few_at supers_at head_at clause_at form_at definition_at group_at groups_at read_after up_table climbs heap_below val_below val_fit same_heap same_val names in_reach super_earlier_and_open short_chain form_matches matches_super clauses_on_struct describes_earlier clauses_agree descriptor_follows describes_follows links_fault rule_fault scan judge_types judge_library judge_joined judge_sections ask_type size units rounded float_neg float_add float_sub float_mul float_div float_equal float_less int_add int_sub int_less_signed int_at_most_signed numeric_of deed_of block_type_at cast_at instr_at last_of plan_of fits fit take_all put do_plan judge_end judge_instr judge_from locals_at body_at judge_body split_top defaults_of do_numeric past_ends jump do_op do_instr step run_by run trial_run total size_of start_of parents row_words rows_from objects_from block_words state_words
computes = 0
