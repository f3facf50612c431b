-- 14 is no number of a section's or of a body's own refusals.
use Prim.Native.Nat.{ℕ}
use native.Mathlib.Omega.{arith}
use mathlib.Core.Path.{◌≡◌, refl}
use mathlib.Core.List.{List}
use Rattle.scope.specs.Refusals.{buffer_too_small}
use Rattle.scope.specs.declared.Place.{Place}
use Rattle.scope.specs.Judging.{rejected, judge_joined}
use Rattle.scope.specs.Bodies.{judge_body}
use Rattle.facts_refusals.specs.Numbers.{ByteFault, is_bytes_end, is_bad_number, is_not_listed, is_oversize, is_left_over, is_padded, RuleFault, is_out_of_reach, is_bad_supertype, is_long_chain, is_no_match, is_clause_not_on_struct, is_describes_not_earlier, is_clauses_disagree, is_bad_descriptor, is_bad_describes, InstructionFault, type_out_of_reach, is_absent, is_bad_struct, is_field_fixed, is_bad_branch, is_no_default, is_not_set, is_only_null, is_bad_operand, is_values_left, is_too_many, EntryNumber, entry_out_of_reach, entry_too_many}
use Rattle.facts_refusals.specs.Sections as sections
use Rattle.facts_refusals.specs.Bodies as bodies
use Rattle.facts_refusals.proofs.Sections.{says_no_lem}
use Rattle.facts_refusals.proofs.Places.{body_refusals}

abbrev Fourteen : ℕ → Type 0
Fourteen n = n ≡ buffer_too_small

byte_fault : {n : ℕ} → ByteFault n → ¬ Fourteen n
byte_fault is_bytes_end e = omega arith
byte_fault is_bad_number e = omega arith
byte_fault is_not_listed e = omega arith
byte_fault is_oversize e = omega arith
byte_fault is_left_over e = omega arith
byte_fault is_padded e = omega arith

rule_fault_lem : {n : ℕ} → RuleFault n → ¬ Fourteen n
rule_fault_lem is_out_of_reach e = omega arith
rule_fault_lem is_bad_supertype e = omega arith
rule_fault_lem is_long_chain e = omega arith
rule_fault_lem is_no_match e = omega arith
rule_fault_lem is_clause_not_on_struct e = omega arith
rule_fault_lem is_describes_not_earlier e = omega arith
rule_fault_lem is_clauses_disagree e = omega arith
rule_fault_lem is_bad_descriptor e = omega arith
rule_fault_lem is_bad_describes e = omega arith

instruction_fault : {n : ℕ} → InstructionFault n → ¬ Fourteen n
instruction_fault type_out_of_reach e = omega arith
instruction_fault is_absent e = omega arith
instruction_fault is_bad_struct e = omega arith
instruction_fault is_field_fixed e = omega arith
instruction_fault is_bad_branch e = omega arith
instruction_fault is_no_default e = omega arith
instruction_fault is_not_set e = omega arith
instruction_fault is_only_null e = omega arith
instruction_fault is_bad_operand e = omega arith
instruction_fault is_values_left e = omega arith
instruction_fault is_too_many e = omega arith

entry_fault : {n : ℕ} → EntryNumber n → ¬ Fourteen n
entry_fault entry_out_of_reach e = omega arith
entry_fault entry_too_many e = omega arith

section_fault : {library s : List ℕ} {n : ℕ} {p : Place} → sections.SaysNo library s n p → ¬ Fourteen n
section_fault (sections.of_library_bytes unwritten fault inside) = byte_fault fault
section_fault (sections.of_library_rules section first fault inside) = rule_fault_lem fault
section_fault (sections.of_bytes shared unwritten fault inside) = byte_fault fault
section_fault (sections.of_rules shared section first fault own inside) = rule_fault_lem fault

body_fault : {library section s : List ℕ} {x n : ℕ} {p : Place} → bodies.BodyPlace library section s x n p → ¬ Fourteen n
body_fault (bodies.of_section no') = section_fault no'
body_fault bodies.of_whole_size = λ e. omega arith
body_fault bodies.of_type_number = λ e. omega arith
body_fault (bodies.of_bytes fault inside) = byte_fault fault
body_fault (bodies.of_entry fault inside) = entry_fault fault
body_fault (bodies.of_instruction fault read) = instruction_fault fault

pub section_never_14 : (library s : List ℕ) (p : Place) → judge_joined library s ≡ rejected buffer_too_small p → ⊥
section_never_14 library s p e = section_fault (says_no_lem library s buffer_too_small p e) refl

pub body_never_14 : (library section s : List ℕ) (x : ℕ) (p : Place) → judge_body library section s x ≡ rejected buffer_too_small p → ⊥
body_never_14 library section s x p e = body_fault (body_refusals.places library section s x buffer_too_small p e) refl
