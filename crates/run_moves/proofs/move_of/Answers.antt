-- `run_moves::move_of` meets its contract: each arm's move is what its instruction comes to.
use borrow.Author.Rules.{rules}
use Rattle.body_decoded.specs.Decoded.{instr_of}
use Rattle.body_decoded.specs.Named.{number_of}
use Rattle.run_moves.proofs.Arms.{arm_exits}
use Rattle.run_moves.proofs.move_of.Goals as goal

pub enum_told-1 : goal.enum_told-1
enum_told-1 c = search (arm_exits, rules)

pub enum_told-in-Nop : goal.enum_told-in-Nop
enum_told-in-Nop c = search (arm_exits, rules)

pub enum_told-in-Block : goal.enum_told-in-Block
enum_told-in-Block c = search (arm_exits, rules)

pub enum_told-in-Loop : goal.enum_told-in-Loop
enum_told-in-Loop c = search (arm_exits, rules)

pub enum_told-in-End : goal.enum_told-in-End
enum_told-in-End c = search (arm_exits, rules)

pub enum_known-i : goal.enum_known-i
enum_known-i c = search (arm_exits, rules)

pub enum_known-i-in-BrIf-1 : goal.enum_known-i-in-BrIf-1
enum_known-i-in-BrIf-1 c = search (arm_exits, rules)

pub top-first-requires : goal.top-first-requires
top-first-requires c = search (arm_exits, rules)

pub branch_move-requires : goal.branch_move-requires
branch_move-requires c = search (arm_exits, rules)

pub enum_told-in-Return : goal.enum_told-in-Return
enum_told-in-Return c = search (arm_exits, rules)

pub enum_told-in-Drop : goal.enum_told-in-Drop
enum_told-in-Drop c = search (arm_exits, rules)

pub top-first-requires-in-Drop : goal.top-first-requires-in-Drop
top-first-requires-in-Drop c = search (arm_exits, rules)

pub drop_move-requires : goal.drop_move-requires
drop_move-requires c = search (arm_exits, rules)

pub enum_known-i-in-LocalGet-1 : goal.enum_known-i-in-LocalGet-1
enum_known-i-in-LocalGet-1 c = search (arm_exits, rules)

pub get_move-requires : goal.get_move-requires
get_move-requires c = search (arm_exits, rules)

pub enum_known-i-in-LocalSet-1 : goal.enum_known-i-in-LocalSet-1
enum_known-i-in-LocalSet-1 c = search (arm_exits, rules)

pub top-first-requires-in-LocalSet : goal.top-first-requires-in-LocalSet
top-first-requires-in-LocalSet c = search (arm_exits, rules)

pub set_move-requires : goal.set_move-requires
set_move-requires c = search (arm_exits, rules)

pub enum_known-i-in-LocalTee-1 : goal.enum_known-i-in-LocalTee-1
enum_known-i-in-LocalTee-1 c = search (arm_exits, rules)

pub top-first-requires-in-LocalTee : goal.top-first-requires-in-LocalTee
top-first-requires-in-LocalTee c = search (arm_exits, rules)

pub tee_move-requires : goal.tee_move-requires
tee_move-requires c = search (arm_exits, rules)

pub enum_known-i-in-I32Const-1 : goal.enum_known-i-in-I32Const-1
enum_known-i-in-I32Const-1 c = search (arm_exits, rules)

pub enum_known-i-in-I64Const-1 : goal.enum_known-i-in-I64Const-1
enum_known-i-in-I64Const-1 c = search (arm_exits, rules)

pub enum_known-i-in-F32Const-1 : goal.enum_known-i-in-F32Const-1
enum_known-i-in-F32Const-1 c = search (arm_exits, rules)

pub single-v-requires : goal.single-v-requires
single-v-requires c = search (arm_exits, rules)

pub enum_known-i-in-F64Const-1 : goal.enum_known-i-in-F64Const-1
enum_known-i-in-F64Const-1 c = search (arm_exits, rules)

pub double-v-requires : goal.double-v-requires
double-v-requires c = search (arm_exits, rules)

pub enum_known-i-in-Numeric-1 : goal.enum_known-i-in-Numeric-1
enum_known-i-in-Numeric-1 c = search (arm_exits, rules)

pub top-first-requires-in-Numeric : goal.top-first-requires-in-Numeric
top-first-requires-in-Numeric c = search (arm_exits, rules)

pub second_of-second-requires : goal.second_of-second-requires
second_of-second-requires c = search (arm_exits, rules)

pub numeric_move-requires : goal.numeric_move-requires
numeric_move-requires c = search (arm_exits, rules)

pub enum_told-in-RefNull : goal.enum_told-in-RefNull
enum_told-in-RefNull c = search (arm_exits, rules)

pub enum_told-in-RefIsNull : goal.enum_told-in-RefIsNull
enum_told-in-RefIsNull c = search (arm_exits, rules)

pub top-first-requires-in-RefIsNull : goal.top-first-requires-in-RefIsNull
top-first-requires-in-RefIsNull c = search (arm_exits, rules)

pub is_null_move-requires : goal.is_null_move-requires
is_null_move-requires c = search (arm_exits, rules)

pub enum_told-in-RefEq : goal.enum_told-in-RefEq
enum_told-in-RefEq c = search (arm_exits, rules)

pub top-first-requires-in-RefEq : goal.top-first-requires-in-RefEq
top-first-requires-in-RefEq c = search (arm_exits, rules)

pub second_of-second-requires-in-RefEq : goal.second_of-second-requires-in-RefEq
second_of-second-requires-in-RefEq c = search (arm_exits, rules)

pub eq_move-requires : goal.eq_move-requires
eq_move-requires c = search (arm_exits, rules)

pub enum_told-in-RefAsNonNull : goal.enum_told-in-RefAsNonNull
enum_told-in-RefAsNonNull c = search (arm_exits, rules)

pub top-first-requires-in-RefAsNonNull : goal.top-first-requires-in-RefAsNonNull
top-first-requires-in-RefAsNonNull c = search (arm_exits, rules)

pub as_non_null_move-requires : goal.as_non_null_move-requires
as_non_null_move-requires c = search (arm_exits, rules)

pub enum_known-i-in-StructNew-1 : goal.enum_known-i-in-StructNew-1
enum_known-i-in-StructNew-1 c = search (arm_exits, rules)

pub top-first-requires-in-StructNew : goal.top-first-requires-in-StructNew
top-first-requires-in-StructNew c = search (arm_exits, rules)

pub new_move-requires : goal.new_move-requires
unfolding number_of
new_move-requires c = search (arm_exits, rules)

pub enum_known-i-in-StructNewDefault-1 : goal.enum_known-i-in-StructNewDefault-1
enum_known-i-in-StructNewDefault-1 c = search (arm_exits, rules)

pub top-first-requires-in-StructNewDefault : goal.top-first-requires-in-StructNewDefault
top-first-requires-in-StructNewDefault c = search (arm_exits, rules)

pub new_default_move-requires : goal.new_default_move-requires
unfolding number_of
new_default_move-requires c = search (arm_exits, rules)

pub enum_known-i-in-StructGet-1 : goal.enum_known-i-in-StructGet-1
enum_known-i-in-StructGet-1 c = search (arm_exits, rules)

pub top-first-requires-in-StructGet : goal.top-first-requires-in-StructGet
top-first-requires-in-StructGet c = search (arm_exits, rules)

pub get_field_move-requires : goal.get_field_move-requires
get_field_move-requires c = search (arm_exits, rules)

pub enum_known-i-in-StructSet-1 : goal.enum_known-i-in-StructSet-1
enum_known-i-in-StructSet-1 c = search (arm_exits, rules)

pub top-first-requires-in-StructSet : goal.top-first-requires-in-StructSet
top-first-requires-in-StructSet c = search (arm_exits, rules)

pub second_of-second-requires-in-StructSet : goal.second_of-second-requires-in-StructSet
second_of-second-requires-in-StructSet c = search (arm_exits, rules)

pub set_field_move-requires : goal.set_field_move-requires
set_field_move-requires c = search (arm_exits, rules)

pub enum_known-i-in-RefTest-1 : goal.enum_known-i-in-RefTest-1
enum_known-i-in-RefTest-1 c = search (arm_exits, rules)

pub top-first-requires-in-RefTest : goal.top-first-requires-in-RefTest
top-first-requires-in-RefTest c = search (arm_exits, rules)

pub test_move-requires : goal.test_move-requires
test_move-requires c = search (arm_exits, rules)

pub enum_known-i-in-RefCast-1 : goal.enum_known-i-in-RefCast-1
enum_known-i-in-RefCast-1 c = search (arm_exits, rules)

pub top-first-requires-in-RefCast : goal.top-first-requires-in-RefCast
top-first-requires-in-RefCast c = search (arm_exits, rules)

pub cast_move-requires : goal.cast_move-requires
cast_move-requires c = search (arm_exits, rules)

pub enum_known-i-in-BrOnCast-1 : goal.enum_known-i-in-BrOnCast-1
enum_known-i-in-BrOnCast-1 c = search (arm_exits, rules)

pub top-first-requires-in-BrOnCast : goal.top-first-requires-in-BrOnCast
top-first-requires-in-BrOnCast c = search (arm_exits, rules)

pub on_cast_move-requires : goal.on_cast_move-requires
on_cast_move-requires c = search (arm_exits, rules)

pub enum_known-i-in-BrOnCastFail-1 : goal.enum_known-i-in-BrOnCastFail-1
enum_known-i-in-BrOnCastFail-1 c = search (arm_exits, rules)

pub top-first-requires-in-BrOnCastFail : goal.top-first-requires-in-BrOnCastFail
top-first-requires-in-BrOnCastFail c = search (arm_exits, rules)

pub on_cast_fail_move-requires : goal.on_cast_fail_move-requires
on_cast_fail_move-requires c = search (arm_exits, rules)

pub enum_known-i-in-StructNewDesc-1 : goal.enum_known-i-in-StructNewDesc-1
enum_known-i-in-StructNewDesc-1 c = search (arm_exits, rules)

pub top-first-requires-in-StructNewDesc : goal.top-first-requires-in-StructNewDesc
top-first-requires-in-StructNewDesc c = search (arm_exits, rules)

pub new_desc_move-requires : goal.new_desc_move-requires
unfolding number_of
new_desc_move-requires c = search (arm_exits, rules)

pub enum_known-i-in-StructNewDefaultDesc-1 : goal.enum_known-i-in-StructNewDefaultDesc-1
enum_known-i-in-StructNewDefaultDesc-1 c = search (arm_exits, rules)

pub top-first-requires-in-StructNewDefaultDesc : goal.top-first-requires-in-StructNewDefaultDesc
top-first-requires-in-StructNewDefaultDesc c = search (arm_exits, rules)

pub new_default_desc_move-requires : goal.new_default_desc_move-requires
unfolding number_of
new_default_desc_move-requires c = search (arm_exits, rules)

pub enum_known-i-in-RefGetDesc-1 : goal.enum_known-i-in-RefGetDesc-1
enum_known-i-in-RefGetDesc-1 c = search (arm_exits, rules)

pub top-first-requires-in-RefGetDesc : goal.top-first-requires-in-RefGetDesc
top-first-requires-in-RefGetDesc c = search (arm_exits, rules)

pub get_descriptor_move-requires : goal.get_descriptor_move-requires
get_descriptor_move-requires c = search (arm_exits, rules)

pub enum_known-i-in-RefCastDescEq-1 : goal.enum_known-i-in-RefCastDescEq-1
enum_known-i-in-RefCastDescEq-1 c = search (arm_exits, rules)

pub top-first-requires-in-RefCastDescEq : goal.top-first-requires-in-RefCastDescEq
top-first-requires-in-RefCastDescEq c = search (arm_exits, rules)

pub second_of-second-requires-in-RefCastDescEq : goal.second_of-second-requires-in-RefCastDescEq
second_of-second-requires-in-RefCastDescEq c = search (arm_exits, rules)

pub descriptor_cast_move-requires : goal.descriptor_cast_move-requires
descriptor_cast_move-requires c = search (arm_exits, rules)

pub enum_known-i-in-BrOnCastDescEq-1 : goal.enum_known-i-in-BrOnCastDescEq-1
enum_known-i-in-BrOnCastDescEq-1 c = search (arm_exits, rules)

pub top-first-requires-in-BrOnCastDescEq : goal.top-first-requires-in-BrOnCastDescEq
top-first-requires-in-BrOnCastDescEq c = search (arm_exits, rules)

pub second_of-second-requires-in-BrOnCastDescEq : goal.second_of-second-requires-in-BrOnCastDescEq
second_of-second-requires-in-BrOnCastDescEq c = search (arm_exits, rules)

pub on_descriptor_move-requires : goal.on_descriptor_move-requires
on_descriptor_move-requires c = search (arm_exits, rules)

pub enum_known-i-in-BrOnCastDescEqFail-1 : goal.enum_known-i-in-BrOnCastDescEqFail-1
enum_known-i-in-BrOnCastDescEqFail-1 c = search (arm_exits, rules)

pub top-first-requires-in-BrOnCastDescEqFail : goal.top-first-requires-in-BrOnCastDescEqFail
top-first-requires-in-BrOnCastDescEqFail c = search (arm_exits, rules)

pub second_of-second-requires-in-BrOnCastDescEqFail : goal.second_of-second-requires-in-BrOnCastDescEqFail
second_of-second-requires-in-BrOnCastDescEqFail c = search (arm_exits, rules)

pub on_descriptor_fail_move-requires : goal.on_descriptor_fail_move-requires
on_descriptor_fail_move-requires c = search (arm_exits, rules)

pub returns-in-Unreachable : goal.returns-in-Unreachable
unfolding instr_of
returns-in-Unreachable c = search (arm_exits, rules)

pub returns-in-Nop : goal.returns-in-Nop
unfolding instr_of
returns-in-Nop c = search (arm_exits, rules)

pub returns-in-Block : goal.returns-in-Block
unfolding instr_of
returns-in-Block c = search (arm_exits, rules)

pub returns-in-Loop : goal.returns-in-Loop
unfolding instr_of
returns-in-Loop c = search (arm_exits, rules)

pub returns-in-End : goal.returns-in-End
unfolding instr_of
returns-in-End c = search (arm_exits, rules)

pub returns-in-Br : goal.returns-in-Br
unfolding instr_of
returns-in-Br c = search (arm_exits, rules)

pub returns-in-BrIf : goal.returns-in-BrIf
unfolding instr_of
returns-in-BrIf c = search (arm_exits, rules)

pub returns-in-Return : goal.returns-in-Return
unfolding instr_of
returns-in-Return c = search (arm_exits, rules)

pub returns-in-Drop : goal.returns-in-Drop
unfolding instr_of
returns-in-Drop c = search (arm_exits, rules)

pub returns-in-LocalGet : goal.returns-in-LocalGet
unfolding instr_of
returns-in-LocalGet c = search (arm_exits, rules)

pub returns-in-LocalSet : goal.returns-in-LocalSet
unfolding instr_of
returns-in-LocalSet c = search (arm_exits, rules)

pub returns-in-LocalTee : goal.returns-in-LocalTee
unfolding instr_of
returns-in-LocalTee c = search (arm_exits, rules)

pub returns-in-I32Const : goal.returns-in-I32Const
unfolding instr_of
returns-in-I32Const c = search (arm_exits, rules)

pub returns-in-I64Const : goal.returns-in-I64Const
unfolding instr_of
returns-in-I64Const c = search (arm_exits, rules)

pub returns-in-F32Const : goal.returns-in-F32Const
unfolding instr_of
returns-in-F32Const c = search (arm_exits, rules)

pub returns-in-F64Const : goal.returns-in-F64Const
unfolding instr_of
returns-in-F64Const c = search (arm_exits, rules)

pub returns-in-Numeric : goal.returns-in-Numeric
unfolding instr_of
returns-in-Numeric c = search (arm_exits, rules)

pub returns-in-RefNull : goal.returns-in-RefNull
unfolding instr_of
returns-in-RefNull c = search (arm_exits, rules)

pub returns-in-RefIsNull : goal.returns-in-RefIsNull
unfolding instr_of
returns-in-RefIsNull c = search (arm_exits, rules)

pub returns-in-RefEq : goal.returns-in-RefEq
unfolding instr_of
returns-in-RefEq c = search (arm_exits, rules)

pub returns-in-RefAsNonNull : goal.returns-in-RefAsNonNull
unfolding instr_of
returns-in-RefAsNonNull c = search (arm_exits, rules)

pub returns-in-StructNew : goal.returns-in-StructNew
unfolding instr_of
returns-in-StructNew c = search (arm_exits, rules)

pub returns-in-StructNewDefault : goal.returns-in-StructNewDefault
unfolding instr_of
returns-in-StructNewDefault c = search (arm_exits, rules)

pub returns-in-StructGet : goal.returns-in-StructGet
unfolding instr_of
returns-in-StructGet c = search (arm_exits, rules)

pub returns-in-StructSet : goal.returns-in-StructSet
unfolding instr_of
returns-in-StructSet c = search (arm_exits, rules)

pub returns-in-RefTest : goal.returns-in-RefTest
unfolding instr_of
returns-in-RefTest c = search (arm_exits, rules)

pub returns-in-RefCast : goal.returns-in-RefCast
unfolding instr_of
returns-in-RefCast c = search (arm_exits, rules)

pub returns-in-BrOnCast : goal.returns-in-BrOnCast
unfolding instr_of
returns-in-BrOnCast c = search (arm_exits, rules)

pub returns-in-BrOnCastFail : goal.returns-in-BrOnCastFail
unfolding instr_of
returns-in-BrOnCastFail c = search (arm_exits, rules)

pub returns-in-StructNewDesc : goal.returns-in-StructNewDesc
unfolding instr_of
returns-in-StructNewDesc c = search (arm_exits, rules)

pub returns-in-StructNewDefaultDesc : goal.returns-in-StructNewDefaultDesc
unfolding instr_of
returns-in-StructNewDefaultDesc c = search (arm_exits, rules)

pub returns-in-RefGetDesc : goal.returns-in-RefGetDesc
unfolding instr_of
returns-in-RefGetDesc c = search (arm_exits, rules)

pub returns-in-RefCastDescEq : goal.returns-in-RefCastDescEq
unfolding instr_of
returns-in-RefCastDescEq c = search (arm_exits, rules)

pub returns-in-BrOnCastDescEq : goal.returns-in-BrOnCastDescEq
unfolding instr_of
returns-in-BrOnCastDescEq c = search (arm_exits, rules)

pub returns-in-BrOnCastDescEqFail : goal.returns-in-BrOnCastDescEqFail
unfolding instr_of
returns-in-BrOnCastDescEqFail c = search (arm_exits, rules)
