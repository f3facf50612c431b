-- What the code of a run may take for granted of every machine that it comes to: its operands and open blocks fit the
-- memory that is lent for them, it is never astray, there is an instruction left, and what the code holds of that
-- instruction is the instruction itself.
use Rattle.std.specs.Prelude.{ℕ, ◌≤◌, ◌≡◌, List, [], ◌∷◌, length}
use Rattle.scope.specs.Sizes.{most_operands, most_blocks}
use Rattle.scope.specs.Reading.{got}
use Rattle.scope.specs.Instructions.{Instr, instr_at}
use Rattle.scope.specs.Bodies.{Code}
use Rattle.scope.specs.Machine.{Machine, Program, step}
use Rattle.scope.specs.Memory.{all_operands}
use Rattle.scope.proofs.Soundness.{Reaches}
use Rattle.body_immediates.specs.Coding.{instruction_of}
use Rattle.body_decoded.specs.Decoded.{instr_of}
use Rattle.run_state.specs.Moved.{Astray}

-- of a machine: 512 operands in all frames; 64 frames, the function's own counted
pub record Fitting (m : Machine) : Type 0 where
  pub operands : length (all_operands m) ≤ most_operands
  pub blocks : length m.blocks ≤ most_blocks

-- of the run of the program p from the machine m₀, whose body has the bytes s
pub record Sound (s : List ℕ) (p : Program) (m₀ : Machine) : Type 0 where
  pub bounds : {n : ℕ} {m : Machine} → Reaches p m₀ n m → Fitting m
  pub never : {n : ℕ} {m : Machine} → Reaches p m₀ n m → Astray m (step p m) → ⊥
  pub more : {n : ℕ} {m : Machine} → Reaches p m₀ n m → m.code ≡ [] → ⊥
  pub back :
      {n at next : ℕ} {m : Machine} {i : Instr} {code : Code} → Reaches p m₀ n m → m.code ≡ (at, i) ∷ code → instr_at s at ≡ got i next
      → instr_of (instruction_of i) ≡ i
