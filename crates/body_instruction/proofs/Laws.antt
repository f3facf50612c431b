-- What a caller learns from `instruction_at` besides the instruction: it took a byte at least, all of them inside the input.
use Prim.Native.Nat.{ℕ, ◌≤◌, ◌<◌}
use mathlib.Core.Path.{◌≡◌}
use mathlib.Core.List.{List}
use lib.ListN.{length}
use Rattle.std.specs.Prelude.{Result, Ok}
use Rattle.scope.specs.declared.Refused.{Refused}
use Rattle.scope.specs.Instructions.{instr_at}
use Rattle.scope.proofs.Forward.{never_back}
use Rattle.scope.proofs.ForwardBodies.{instr_takes}
use Rattle.body_immediates.specs.declared.Instruction.{Instruction}
use Rattle.body_immediates.specs.Coding.{instruction_is}
use Rattle.body_immediates.proofs.Laws.{instruction_got}

pub record Ahead (s : List ℕ) (at next : ℕ) : Type 0 where
  pub forward : at < next
  pub inside : next ≤ length s

pub instruction_ahead : {s : List ℕ} {at next : ℕ} {i : Instruction} {r : Result (Instruction × ℕ) Refused} → r ≡ instruction_is (instr_at s at) → r ≡ Ok (i, next) → Ahead s at next
instruction_ahead {s} {at} p q =
    let (j, read, same) = instruction_got (instr_at s at) p q in
    let ends = never_back instr_takes s at read in
    record { forward = ends.0; inside = ends.1 }
