-- What a caller learns from an answer of the readers of instructions: the instruction that the definition read.
use Prim.Native.Nat.{ℕ}
use mathlib.Core.Path.{◌≡◌, sym, ◌∙◌}
use Rattle.std.specs.Prelude.{Result, Ok, Err}
use Rattle.scope.specs.declared.Refused.{Refused}
use Rattle.scope.specs.Reading.{Read, got, refused}
use Rattle.scope.specs.Instructions.{Instr}
use Rattle.scope.proofs.Told.{told_got, told_refused}
use Rattle.body_immediates.specs.declared.Instruction.{Instruction}
use Rattle.body_immediates.specs.Coding.{instruction_of, instruction_is}

pub instruction_got : (o : Read Instr) {r : Result (Instruction × ℕ) Refused} {i : Instruction} {next : ℕ} → r ≡ instruction_is o → r ≡ Ok (i, next) → (j : Instr) × (o ≡ got j next) × (i ≡ instruction_of j)
instruction_got o p q = told_got instruction_of o (sym q ∙ p)

pub instruction_refused : (o : Read Instr) {r : Result (Instruction × ℕ) Refused} {no : Refused} → r ≡ instruction_is o → r ≡ Err no → o ≡ refused no.number no.at
instruction_refused o p q = told_refused instruction_of o (sym q ∙ p)
