-- `body_plans::act_of` meets its contract: the instruction of each arm that takes immediates is the one whose rule its plan follows.
use Rattle.body_plan_branches.specs.Branches.{cast_op, desc_op}
use Rattle.body_decoded.specs.Decoded.{instr_of}
use Rattle.body_plans.proofs.Arms.{goes, uses, sets, takes_const, takes_i64, takes_f32, takes_f64, everywhere, anywhere, follows, tests, branches}
use Rattle.body_plans.proofs.act_of.Goals as goal

pub returns-in-Br : goal.returns-in-Br
unfolding instr_of
returns-in-Br c = search goes

pub returns-in-BrIf : goal.returns-in-BrIf
unfolding instr_of
returns-in-BrIf c = search goes

pub returns-in-LocalGet : goal.returns-in-LocalGet
unfolding instr_of
returns-in-LocalGet c = search uses

pub returns-in-LocalSet : goal.returns-in-LocalSet
unfolding instr_of
returns-in-LocalSet c = search sets

pub returns-in-LocalTee : goal.returns-in-LocalTee
unfolding instr_of
returns-in-LocalTee c = search sets

pub returns-in-I32Const : goal.returns-in-I32Const
returns-in-I32Const c = search takes_const

pub returns-in-I64Const : goal.returns-in-I64Const
returns-in-I64Const c = search takes_i64

pub returns-in-F32Const : goal.returns-in-F32Const
returns-in-F32Const c = search takes_f32

pub returns-in-F64Const : goal.returns-in-F64Const
returns-in-F64Const c = search takes_f64

pub returns-in-Numeric : goal.returns-in-Numeric
unfolding instr_of
returns-in-Numeric c = search everywhere

pub returns-in-RefNull : goal.returns-in-RefNull
unfolding instr_of
returns-in-RefNull c = search anywhere

pub returns-in-StructNew : goal.returns-in-StructNew
unfolding instr_of
returns-in-StructNew c = search follows

pub returns-in-StructNewDefault : goal.returns-in-StructNewDefault
unfolding instr_of
returns-in-StructNewDefault c = search follows

pub returns-in-StructGet : goal.returns-in-StructGet
unfolding instr_of
returns-in-StructGet c = search follows

pub returns-in-StructSet : goal.returns-in-StructSet
unfolding instr_of
returns-in-StructSet c = search follows

pub returns-in-RefTest : goal.returns-in-RefTest
returns-in-RefTest c = search tests

pub returns-in-RefCast : goal.returns-in-RefCast
unfolding instr_of
returns-in-RefCast c = search follows

pub returns-in-BrOnCast : goal.returns-in-BrOnCast
unfolding instr_of cast_op
returns-in-BrOnCast c = search branches

pub returns-in-BrOnCastFail : goal.returns-in-BrOnCastFail
unfolding instr_of cast_op
returns-in-BrOnCastFail c = search branches

pub returns-in-StructNewDesc : goal.returns-in-StructNewDesc
unfolding instr_of
returns-in-StructNewDesc c = search follows

pub returns-in-StructNewDefaultDesc : goal.returns-in-StructNewDefaultDesc
unfolding instr_of
returns-in-StructNewDefaultDesc c = search follows

pub returns-in-RefGetDesc : goal.returns-in-RefGetDesc
unfolding instr_of
returns-in-RefGetDesc c = search follows

pub returns-in-RefCastDescEq : goal.returns-in-RefCastDescEq
unfolding instr_of
returns-in-RefCastDescEq c = search follows

pub returns-in-BrOnCastDescEq : goal.returns-in-BrOnCastDescEq
unfolding instr_of desc_op
returns-in-BrOnCastDescEq c = search branches

pub returns-in-BrOnCastDescEqFail : goal.returns-in-BrOnCastDescEqFail
unfolding instr_of desc_op
returns-in-BrOnCastDescEqFail c = search branches
