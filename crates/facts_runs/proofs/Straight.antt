-- Straight code: no `loop` stands in it, and its ends close what is open, the last one the function itself. Going past an
-- instruction, or past the ends of open blocks, leaves straight code that is no longer than before.
use Prim.Native.Nat.{ℕ, zero, suc, ◌+◌, ◌≤◌}
use native.Mathlib.Omega.{arith}
use native.Mathlib.Nat.{le_refl}
use mathlib.Core.Path.{◌≡◌, refl}
use mathlib.Core.List.{List, [], ◌∷◌}
use lib.ListN.{length}
use Rattle.scope.specs.Syntax.{Val}
use Rattle.scope.specs.Instructions.{Op, block, loop, end, op}
use Rattle.scope.specs.Bodies.{Code}
use Rattle.scope.specs.Machine.{Value, Block, open_block, open_loop, ends_left, past_ends}

-- with so many blocks open
pub data Ahead : ℕ → Code → Type 0 where
  last : {at : ℕ} → Ahead zero ((at, end) ∷ [])
  closing : {d at : ℕ} {code : Code} → Ahead d code → Ahead (suc d) ((at, end) ∷ code)
  opening : {d at : ℕ} {rs : List Val} {code : Code} → Ahead (suc d) code → Ahead d ((at, block rs) ∷ code)
  plain : {d at : ℕ} {o : Op} {code : Code} → Ahead d code → Ahead d ((at, op o) ∷ code)

-- the open blocks are so many, and none is a loop
pub data Blocks : List Block → ℕ → Type 0 where
  none_open : Blocks [] zero
  one_more_lem : {at n d : ℕ} {below : List Value} {bs : List Block} → Blocks bs d → Blocks (open_block at n below ∷ bs) (suc d)

pub no-loop_open : {at d : ℕ} {below : List Value} {again : Code} {bs : List Block} → Blocks (open_loop at below again ∷ bs) d → ⊥
no-loop_open = elim [ ]

pub record Straight (bs : List Block) (code : Code) : Type 0 where
  pub depth : ℕ
  pub blocks : Blocks bs depth
  pub ahead : Ahead depth code

past_none : (code : Code) → past_ends zero code ≡ code
unfolding past_ends
past_none [] = refl
past_none (i ∷ code) = refl

pub past_ahead : {e : ℕ} {code : Code} → Ahead e code → (n d : ℕ) → e ≡ suc n + d → Ahead d (past_ends (suc n) code)
unfolding past_ends
past_ahead last n d q = absurd (omega arith)
past_ahead (closing {d = e} {code = code} a) zero d q = let same : d ≡ e = omega arith in rw (past_none code, same) a
past_ahead (closing a) (suc n) d q = past_ahead a n d (omega arith)
past_ahead (opening a) n d q = past_ahead a (suc n) d (omega arith)
past_ahead (plain a) n d q = past_ahead a n d q

pub past_no_longer : (n : ℕ) (code : Code) → length (past_ends n code) ≤ length code
unfolding past_ends
past_no_longer n [] = le_refl 0
past_no_longer zero (i ∷ code) = le_refl _
past_no_longer (suc n) (i ∷ code) = let h : length (past_ends (ends_left i.1 n) code) ≤ length code = past_no_longer _ code in omega arith

pub straight_some : {bs : List Block} {code : Code} → Straight bs code → 1 ≤ length code
straight_some s = go s.ahead
  where
    go : {d : ℕ} {code : Code} → Ahead d code → 1 ≤ length code
    go last = le_refl 1
    go (closing a) = omega arith
    go (opening a) = omega arith
    go (plain a) = omega arith

-- Past an instruction

module _ {bs : List Block} {at : ℕ} {code : Code} where
  pub straight_op : {o : Op} → Straight bs ((at, op o) ∷ code) → Straight bs code
  straight_op {o} s = go s.blocks s.ahead
    where
      go : {d : ℕ} → Blocks bs d → Ahead d ((at, op o) ∷ code) → Straight bs code
      go b (plain a) = record { depth = _; blocks = b; ahead = a }

  pub straight_block : {rs : List Val} (n : ℕ) (vs : List Value) → Straight bs ((at, block rs) ∷ code) → Straight (open_block at n vs ∷ bs) code
  straight_block {rs} n vs s = go s.blocks s.ahead
    where
      go : {d : ℕ} → Blocks bs d → Ahead d ((at, block rs) ∷ code) → Straight (open_block at n vs ∷ bs) code
      go b (opening a) = record { depth = _; blocks = one_more_lem b; ahead = a }

  pub straight_no-loop : {rs : List Val} → Straight bs ((at, loop rs) ∷ code) → ⊥
  straight_no-loop {rs} s = go s.ahead
    where
      go : {d : ℕ} → Ahead d ((at, loop rs) ∷ code) → ⊥
      go = elim [ ]

  pub straight_end : {place n : ℕ} {vs : List Value} → Straight (open_block place n vs ∷ bs) ((at, end) ∷ code) → Straight bs code
  straight_end {place} {n} {vs} s = go s.blocks s.ahead
    where
      go : {d : ℕ} → Blocks (open_block place n vs ∷ bs) d → Ahead d ((at, end) ∷ code) → Straight bs code
      go (one_more_lem b) (closing a) = record { depth = _; blocks = b; ahead = a }

-- Out of blocks: a branch to label l looks for its block; `k` more are to be left, and `bs` are those from there on

pub record Seeks (l : ℕ) (code : Code) (bs : List Block) (k : ℕ) : Type 0 where
  pub depth : ℕ
  pub ahead : Ahead depth code
  pub left : ℕ
  pub blocks : Blocks bs left
  pub same : depth + k ≡ l + left

pub seeks_first : {bs : List Block} {code : Code} (l : ℕ) → Straight bs code → Seeks l code bs l
seeks_first l s = record { depth = s.depth; ahead = s.ahead; left = s.depth; blocks = s.blocks; same = omega arith }

one_fewer : {b : Block} {bs : List Block} {d : ℕ} → Blocks (b ∷ bs) d → (e : ℕ) × Blocks bs e × (d ≡ suc e)
one_fewer (one_more_lem {d = e} outer) = (e, outer, refl)

module _ {l : ℕ} {code : Code} {bs : List Block} where
  pub seeks_next : {b : Block} {k : ℕ} → Seeks l code (b ∷ bs) (suc k) → Seeks l code bs k
  seeks_next s =
      let (e, outer, q) = one_fewer s.blocks in
      record { depth = s.depth; ahead = s.ahead; left = e; blocks = outer; same = omega arith }

  pub found_block : {at n : ℕ} {below : List Value} → Seeks l code (open_block at n below ∷ bs) zero → Straight bs (past_ends (suc l) code)
  found_block s =
      let (e, outer, q) = one_fewer s.blocks in
      record { depth = e; blocks = outer; ahead = past_ahead s.ahead l e (omega arith) }

  pub found_no-loop : {at k : ℕ} {below : List Value} {again : Code} → Seeks l code (open_loop at below again ∷ bs) k → ⊥
  found_no-loop s = no-loop_open s.blocks
