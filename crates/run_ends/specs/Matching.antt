-- The matching ends of a body: for each block and loop that is reached by reading one instruction after the other, the
-- place from which the code is what comes after its `end`.
use Rattle.std.specs.Prelude.{ℕ, zero, suc, ◌≤◌, ◌≡◌, Bool, true, List, [], ◌∷◌, get_or, length}
use Rattle.scope.specs.Sizes.{most_bytes}
use Rattle.scope.specs.Reading.{Read, got, refused}
use Rattle.scope.specs.Syntax.{Val}
use Rattle.scope.specs.Instructions.{Op, Instr, block, loop, end, op, instr_at}
use Rattle.scope.specs.Bodies.{Code}
use Rattle.scope.specs.Machine.{past_ends}

-- code by its place

abbrev pub on_read : {A B : Type 0} → Read A → B → (A → ℕ → B) → B
on_read (got x next) other f = f x next
on_read (refused n p) other f = other

-- the instructions from a place on, up to where none can be read: `left` of them at most
unfoldable pub code_from : ℕ → List ℕ → ℕ → Code
code_from zero s at = []
code_from (suc left) s at = on_read (instr_at s at) [] (λ i next. (at, i) ∷ code_from left s next)

-- there are no more instructions than bytes
unfoldable pub code_at : List ℕ → ℕ → Code
code_at s at = code_from (length s) s at

-- the ends close what is open, so many blocks and the function itself, and nothing follows the last
pub data Balanced : ℕ → Code → Type 0 where
  last : {at : ℕ} → Balanced 0 ((at, end) ∷ [])
  closing : {n at : ℕ} {code : Code} → Balanced n code → Balanced (suc n) ((at, end) ∷ code)
  opening_block : {n at : ℕ} {rs : List Val} {code : Code} → Balanced (suc n) code → Balanced n ((at, block rs) ∷ code)
  opening_loop : {n at : ℕ} {rs : List Val} {code : Code} → Balanced (suc n) code → Balanced n ((at, loop rs) ∷ code)
  inside : {n at : ℕ} {o : Op} {code : Code} → Balanced n code → Balanced n ((at, op o) ∷ code)

-- the places that are reached from the first by reading
pub data Reached (s : List ℕ) : ℕ → ℕ → Type 0 where
  here : {at : ℕ} → Reached s at at
  further : {first next at : ℕ} {i : Instr} → instr_at s first ≡ got i next → Reached s next at → Reached s first at

-- a block or a loop stands at the place `at`, and its code begins at `next`
pub data Opener (s : List ℕ) (at next : ℕ) : Type 0 where
  is_block : {rs : List Val} → instr_at s at ≡ got (block rs) next → Opener s at next
  is_loop : {rs : List Val} → instr_at s at ≡ got (loop rs) next → Opener s at next

-- from the place `to` the code is what comes after the `end` that closes what is open at `next`
pub record Lands (s : List ℕ) (first next to : ℕ) : Type 0 where
  pub code : code_at s to ≡ past_ends 1 (code_at s next)
  pub reached : Reached s first to
  pub inside : to ≤ length s

-- at the place of a block or loop, the place after its matching `end`
pub record EndsOf (s ends : List ℕ) (first : ℕ) : Type 0 where
  pub lands : {at next : ℕ} → Reached s first at → Opener s at next → Lands s first next (get_or ends at 0)

-- what is lent has a word for each byte, and a place fits a word
pub record Fillable (s ends : List ℕ) (first : ℕ) : Type 0 where
  pub short : length s ≤ most_bytes
  pub room : length s ≤ length ends
  pub inside : first ≤ length s

pub record Filled (s ends ends' : List ℕ) (first : ℕ) (r : Bool) : Type 0 where
  pub matching : r ≡ true → EndsOf s ends' first
  pub balanced : r ≡ true → Balanced 0 (code_at s first)
  pub told : Balanced 0 (code_at s first) → r ≡ true
  pub size : length ends' ≡ length ends
