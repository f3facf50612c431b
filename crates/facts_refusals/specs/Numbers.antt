-- The numbers of a refusal, by what was judged: the rows of document 01's table "When the loader says no".
use Rattle.std.specs.Prelude.{ℕ}
use Rattle.scope.specs.Refusals.{bytes_end, bad_number, not_listed, oversize, left_over, out_of_reach, bad_supertype, no_match, clause_not_on_struct, describes_not_earlier, clauses_disagree, bad_descriptor, bad_describes, bad_operand, only_null, padded, absent, not_set, bad_struct, field_fixed, bad_branch, values_left, no_default}

-- "byte faults (1 to 5)", and 32 of request 10 of document 02
pub data ByteFault : ℕ → Type 0 where
  is_bytes_end : ByteFault bytes_end
  is_bad_number : ByteFault bad_number
  is_not_listed : ByteFault not_listed
  is_oversize : ByteFault oversize
  is_left_over : ByteFault left_over
  is_padded : ByteFault padded

-- of a section's rules: "type by type, 6, 7 and the chain; then, type by type again, 8 to 13 in rising number"
pub data RuleFault : ℕ → Type 0 where
  is_out_of_reach : RuleFault out_of_reach
  is_bad_supertype : RuleFault bad_supertype
  is_long_chain : RuleFault oversize
  is_no_match : RuleFault no_match
  is_clause_not_on_struct : RuleFault clause_not_on_struct
  is_describes_not_earlier : RuleFault describes_not_earlier
  is_clauses_disagree : RuleFault clauses_disagree
  is_bad_descriptor : RuleFault bad_descriptor
  is_bad_describes : RuleFault bad_describes

-- of an instruction: "6, 21, 23, 24, 25, 29, 22, operands from the top (20), 28, 4", and 31 of request 9 where 20 is
pub data InstructionFault : ℕ → Type 0 where
  type_out_of_reach : InstructionFault out_of_reach
  is_absent : InstructionFault absent
  is_bad_struct : InstructionFault bad_struct
  is_field_fixed : InstructionFault field_fixed
  is_bad_branch : InstructionFault bad_branch
  is_no_default : InstructionFault no_default
  is_not_set : InstructionFault not_set
  is_only_null : InstructionFault only_null
  is_bad_operand : InstructionFault bad_operand
  is_values_left : InstructionFault values_left
  is_too_many : InstructionFault oversize

-- of a locals entry: "(bytes, 6, 4)"
pub data EntryNumber : ℕ → Type 0 where
  entry_out_of_reach : EntryNumber out_of_reach
  entry_too_many : EntryNumber oversize
