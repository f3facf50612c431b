-- Where a branch goes. "A branch out goes past the `end`, one to a loop to the instruction after its `loop`": label 0 is the
-- innermost open block, and the label after the outermost one is the function's own.
use Rattle.std.specs.Prelude.{ℕ, zero, suc, ◌≡◌, List, [], ◌∷◌, ◌++◌, length}
use Rattle.std.proofs.Math.Option.{Option}
use Rattle.scope.specs.Syntax.{Val}
use Rattle.scope.specs.Instructions.{Op, block, loop, end, op}
use Rattle.scope.specs.Bodies.{Code}
use Rattle.scope.specs.Machine.{Value, Store, Block, open_block, open_loop, Program, Outcome, goes, ends}
use Rattle.facts_steps.specs.Places.{Splits, state}

-- label l names this block, outside of which these are open
pub data Labelled : ℕ → List Block → Block → List Block → Type 0 where
  innermost : {b : Block} {outer : List Block} → Labelled zero (b ∷ outer) b outer
  further_out : {l : ℕ} {c b : Block} {bs outer : List Block} → Labelled l bs b outer → Labelled (suc l) (c ∷ bs) b outer

-- with so many blocks open, the code after the `end` that closes the last of them; what is opened on the way is closed first
pub data PastEnds : ℕ → Code → Code → Type 0 where
  none_open : {code : Code} → PastEnds zero code code
  closes : {n at : ℕ} {code rest : Code} → PastEnds n code rest → PastEnds (suc n) ((at, end) ∷ code) rest
  opens_block : {n at : ℕ} {rs : List Val} {code rest : Code} → PastEnds (suc (suc n)) code rest → PastEnds (suc n) ((at, block rs) ∷ code) rest
  opens_loop : {n at : ℕ} {rs : List Val} {code rest : Code} → PastEnds (suc (suc n)) code rest → PastEnds (suc n) ((at, loop rs) ∷ code) rest
  passes : {n at : ℕ} {o : Op} {code rest : Code} → PastEnds (suc n) code rest → PastEnds (suc n) ((at, op o) ∷ code) rest
  -- of no accepted body, whose ends close all that is open
  no_end : {n : ℕ} → PastEnds (suc n) [] []

-- the run is done: the results are the operands, no block is open
pub data Finishes (p : Program) (heap : Store) (locals : List (Option Value)) (vs : List Value) : Outcome → Type 0 where
  finishes : {top below : List Value} → Splits p.results vs top below → Finishes p heap locals vs (ends (state heap locals top [] []))

pub data Branches (p : Program) (heap : Store) (locals : List (Option Value)) (blocks : List Block) (code : Code) (l : ℕ) (vs : List Value) : Outcome → Type 0 where
  -- the label's values go on top of what lay below the block
  out_of_block : {at n : ℕ} {below top rest : List Value} {outer : List Block} {after : Code}
      → Labelled l blocks (open_block at n below) outer → Splits n vs top rest → PastEnds (suc l) code after
      → Branches p heap locals blocks code l vs (goes (state heap locals (top ++ below) outer after))
  -- the loop stays open, with no operands of its own
  to_loop : {at : ℕ} {below : List Value} {again : Code} {outer : List Block}
      → Labelled l blocks (open_loop at below again) outer
      → Branches p heap locals blocks code l vs (goes (state heap locals [] (open_loop at below again ∷ outer) again))
  out_of_function : {r : Outcome} → l ≡ length blocks → Finishes p heap locals vs r → Branches p heap locals blocks code l vs r
