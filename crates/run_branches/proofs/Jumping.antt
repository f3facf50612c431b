-- What the machine of document 01 comes to by a branch to open block d, which is read from its words: the blocks between are
-- passed over; out of a block the code goes on past its end, and a loop is kept open.
use Prim.Native.Nat.{ℕ, zero, suc, ◌+◌, ◌-◌, ◌≤◌, ◌<◌}
use mathlib.Core.Path.{◌≡◌, refl, ap, ◌∙◌}
use mathlib.Core.List.{List, [], ◌∷◌, ◌++◌}
use native.Mathlib.Omega.{arith}
use lib.ListN.{length}
use Rattle.scope.specs.Reading.{got, given}
use Rattle.scope.specs.Syntax.{Val}
use Rattle.scope.specs.Instructions.{block, loop, instr_at}
use Rattle.scope.specs.Bodies.{Code}
use Rattle.scope.specs.Machine.{Value, Block, open_block, open_loop, Machine, Program, goes, stuck, with_control, split_top, past_ends, finish, jump, branch}
use Rattle.scope.proofs.Impossible.{impossible}
use Rattle.run_values.specs.Layout.{kind_word, place_word, below_word}
use Rattle.run_stack.specs.Pile.{pile}
use Rattle.run_ends.specs.Matching.{code_at}
use Rattle.run_state.specs.declared.Stage.{Stage}
use Rattle.run_state.specs.Machines.{block_word, lower, code_after, block_of, blocks_at, Opened, a_block, a_loop, Framed}
use Rattle.run_state.specs.Controlled.{Controls}
use Rattle.run_state.proofs.Open.{Around, around}

-- over the blocks between

module _ (p : Program) (m : Machine) (label : ℕ) (vs : List Value) where
  pub jump_out : (bs : List Block) (l : ℕ) → length bs < l → jump p m label bs vs l ≡ stuck
  unfolding jump
  jump_out [] zero h = absurd (omega arith)
  jump_out [] (suc l) h = refl
  jump_out (b ∷ bs) zero h = absurd (omega arith)
  jump_out (open_block at n below ∷ bs) (suc l) h = jump_out bs l (omega arith)
  jump_out (open_loop at below again ∷ bs) (suc l) h = jump_out bs l (omega arith)

  jump-one : (b : Block) (bs : List Block) (l : ℕ) → jump p m label (b ∷ bs) vs (suc l) ≡ jump p m label bs vs l
  unfolding jump
  jump-one (open_block at n below) bs l = refl
  jump-one (open_loop at below again) bs l = refl

  pub jump_over : (s blocks operands : List ℕ) (d l : ℕ) → jump p m label (blocks_at s blocks operands (d + l)) vs l ≡ jump p m label (blocks_at s blocks operands d) vs 0
  unfolding blocks_at
  jump_over s blocks operands d zero = let same : d + 0 ≡ d = omega arith in rw same refl
  jump_over s blocks operands d (suc l) =
      let more : d + suc l ≡ suc (d + l) = omega arith in
      rw more (jump-one _ (blocks_at s blocks operands (d + l)) l ∙ jump_over s blocks operands d l)

  pub jump_last : jump p m label [] vs 0 ≡ finish p m vs
  unfolding jump
  jump_last = refl

  jump_block :
      (at n : ℕ) (below : List Value) (bs : List Block)
      → jump p m label (open_block at n below ∷ bs) vs 0 ≡ given (split_top n vs) stuck (λ s. goes (with_control m (s.0 ++ below) bs (past_ends (suc label) m.code)))
  unfolding jump
  jump_block at n below bs = refl

  jump-loop :
      (at : ℕ) (below : List Value) (again : Code) (bs : List Block)
      → jump p m label (open_loop at below again ∷ bs) vs 0 ≡ goes (with_control m [] (open_loop at below again ∷ bs) again)
  unfolding jump
  jump-loop at below again bs = refl

-- the block that is read from its words

module _ {s : List ℕ} {kind at next : ℕ} {rs : List Val} where
  opened_block_lem : Opened s kind at next → {onto : ℕ} → instr_at s at ≡ got (block rs) onto → (vs : List Value) → block_of s kind at vs ≡ open_block at (length rs) vs
  unfolding block_of
  opened_block_lem (a_block k e) read vs = rw (k, read) refl
  opened_block_lem (a_loop k e) read vs = impossible cc

  opened-loop : Opened s kind at next → {onto : ℕ} → instr_at s at ≡ got (loop rs) onto → (vs : List Value) → block_of s kind at vs ≡ open_loop at vs (code_at s onto)
  unfolding block_of code_after
  opened-loop (a_block k e) read vs = impossible cc
  opened-loop (a_loop k e) read vs = rw (k, read) refl

-- the operands below open block d
abbrev pub lying : List ℕ → List ℕ → ℕ → List Value
lying operands blocks d = pile operands (lower blocks d) (block_word blocks d below_word - lower blocks d)

-- to the label of block d

module _ {s ends blocks : List ℕ} {st : Stage} (d l : ℕ) (is : st.depth ≡ d + 1 + l) (f : Framed s ends blocks st) where
  pub target : Around s ends blocks d l (code_at s st.place)
  target = around d l (rw is at f.nested)

  pub low_target : block_word blocks d below_word ≤ st.base
  low_target = rw (f.base, is) target.high

module _ {s ends operands blocks : List ℕ} {st : Stage} (p : Program) (m : Machine) (d l : ℕ) (is : st.depth ≡ d + 1 + l) (f : Framed s ends blocks st) (c : Controls s operands blocks st m) where
  reaches : (vs : List Value) → branch p m l vs ≡ jump p m l (block_of s (block_word blocks d kind_word) (block_word blocks d place_word) (lying operands blocks d) ∷ blocks_at s blocks operands d) vs 0
  unfolding blocks_at
  reaches vs =
      let one : d + 1 + l ≡ suc d + l = omega arith in
      ap (λ (bs : List Block). jump p m l bs vs l) (c.opened ∙ ap (blocks_at s blocks operands) (is ∙ one)) ∙ jump_over p m l vs s blocks operands (suc d) l

  pub reaches_block :
      (vs : List Value) {rs : List Val} {next : ℕ} → instr_at s (block_word blocks d place_word) ≡ got (block rs) next
      → branch p m l vs ≡ given (split_top (length rs) vs) stuck (λ parts. goes (with_control m (parts.0 ++ lying operands blocks d) (blocks_at s blocks operands d) (past_ends (suc l) m.code)))
  reaches_block vs {rs} read =
      reaches vs
      ∙ ap (λ (b : Block). jump p m l (b ∷ blocks_at s blocks operands d) vs 0) (opened_block_lem (target d l is f).opened read (lying operands blocks d))
      ∙ jump_block p m l vs (block_word blocks d place_word) (length rs) (lying operands blocks d) (blocks_at s blocks operands d)

  -- the loop is kept open
  pub reaches_loop :
      (vs : List Value) {rs : List Val} {next : ℕ} → instr_at s (block_word blocks d place_word) ≡ got (loop rs) next
      → branch p m l vs ≡ goes (with_control m [] (blocks_at s blocks operands (d + 1)) (code_at s next))
  unfolding blocks_at
  reaches_loop vs {rs} {next} read =
      let one : d + 1 ≡ suc d = omega arith in
      let it : block_of s (block_word blocks d kind_word) (block_word blocks d place_word) (lying operands blocks d) ≡ open_loop (block_word blocks d place_word) (lying operands blocks d) (code_at s next) = opened-loop (target d l is f).opened read (lying operands blocks d) in
      reaches vs
      ∙ ap (λ (b : Block). jump p m l (b ∷ blocks_at s blocks operands d) vs 0) it
      ∙ jump-loop p m l vs (block_word blocks d place_word) (lying operands blocks d) (code_at s next) (blocks_at s blocks operands d)
      ∙ (rw (one, it) refl)
