-- What one instruction does to the open blocks, which are linked inside the memory of the matching ends.
use Rattle.std.specs.Prelude.{ℕ, zero, suc, ◌+◌, ◌%◌, ◌≡◌, Bool, true, false, List, get_or, set, None, Some}
use Rattle.scope.specs.Told.{Maybe}
use Rattle.scope.specs.Reading.{Read, got, refused}
use Rattle.scope.specs.Instructions.{Instr, block, loop, end, op}
use Rattle.lent_u16.specs.Words.{word_limit}
use Rattle.body_immediates.specs.declared.Instruction.{Instruction}
use Rattle.body_immediates.specs.Coding.{instruction_of}
use Rattle.run_ends.specs.declared.Kind.{Kind}
use Rattle.run_ends.specs.declared.Kind

abbrev pub kind_of : Instr → Kind
kind_of (block rs) = Kind.TheVariants.Opens
kind_of (loop rs) = Kind.TheVariants.Opens
kind_of end = Kind.TheVariants.Closes
kind_of (op o) = Kind.TheVariants.Inside

-- the kind of the instruction that the code holds as i
pub record KindIs (i : Instruction) (r : Kind) : Type 0 where
  pub is : (j : Instr) → i ≡ instruction_of j → r ≡ kind_of j

-- the word of the innermost open block, 0 for none and else one more than its place, after an instruction at `at`; none
-- after the function's own end
abbrev pub open_after : Kind → List ℕ → ℕ → ℕ → Maybe ℕ
open_after Kind.TheVariants.Opens ends innermost at = Some (at + 1)
open_after Kind.TheVariants.Closes ends zero at = None
open_after Kind.TheVariants.Closes ends (suc p) at = Some (get_or ends p 0)
open_after Kind.TheVariants.Inside ends innermost at = Some innermost

-- an opening one keeps at its place what is open around it; at its end the place after that `end` is kept there
abbrev pub ends_after : Kind → List ℕ → ℕ → ℕ → ℕ → List ℕ
ends_after Kind.TheVariants.Opens ends innermost at after = set ends at (innermost % word_limit)
ends_after Kind.TheVariants.Closes ends zero at after = ends
ends_after Kind.TheVariants.Closes ends (suc p) at after = set ends p (after % word_limit)
ends_after Kind.TheVariants.Inside ends innermost at after = ends

pub record NotedAt (ends ends' : List ℕ) (innermost at after : ℕ) (k : Kind) (r : Maybe ℕ) : Type 0 where
  pub answer : r ≡ open_after k ends innermost at
  pub memory : ends' ≡ ends_after k ends innermost at after

-- nothing was read
abbrev pub none_there : Read Instr → Bool
none_there (got i next) = false
none_there (refused n p) = true
