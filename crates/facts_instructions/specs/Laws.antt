-- An instruction is read exactly where a writing of it lies: the bytes from the place up to the next one.
use Rattle.std.specs.Prelude.{ℕ, ◌≡◌, ◌↔◌, List}
use Rattle.scope.specs.Reading.{got}
use Rattle.scope.specs.Instructions.{Instr, instr_at}
use Rattle.facts_sections.specs.Between.{Between}
use Rattle.facts_instructions.specs.Writing.{WritesInstruction}

pub record Lies (s : List ℕ) (at : ℕ) (i : Instr) (next : ℕ) : Type 0 where
  pub bytes : List ℕ
  pub between : Between s at bytes next
  pub writes : WritesInstruction bytes i

pub record InstructionsRead : Type 0 where
  pub exactly : (s : List ℕ) (at : ℕ) (i : Instr) (next : ℕ) → (instr_at s at ≡ got i next) ↔ Lies s at i next
