-- A branch goes where the rules say. The machine walks the open blocks down to its label and the code up to the end of that block;
-- the rules' words for both are followed step by step.
use Prim.Native.Nat.{ℕ, zero, suc}
use native.Mathlib.Omega.{arith}
use mathlib.Core.Path.{◌≡◌, refl, sym, ◌∙◌, ap}
use mathlib.Core.Option.{Option, some}
use mathlib.Core.List.{List, [], ◌∷◌, ◌++◌}
use lib.ListN.{length}
use Rattle.scope.specs.Instructions.{block, loop, end, op}
use Rattle.scope.specs.Bodies.{Code}
use Rattle.scope.specs.Machine.{Value, Store, Block, open_block, open_loop, Program, Outcome, goes, split_top, past_ends, finish, jump, branch}
use Rattle.facts_steps.specs.Places.{state}
use Rattle.facts_steps.specs.Branches.{Labelled, innermost, further_out, PastEnds, none_open, closes, opens_block, opens_loop, passes, no_end, Finishes, finishes, Branches, out_of_block, to_loop, out_of_function}
use Rattle.facts_steps.proofs.Places.{split_found, found_split}
use Rattle.facts_steps.proofs.Said.{Said, said, silent, also_said, on_some}

-- past the ends

past_none : (code : Code) → past_ends zero code ≡ code
unfolding past_ends
past_none [] = refl
past_none (i ∷ code) = refl

past_said : (n : ℕ) (code : Code) → PastEnds n code (past_ends n code)
unfolding past_ends
past_said zero [] = none_open
past_said zero (i ∷ code) = none_open
past_said (suc n) [] = no_end
past_said (suc n) ((at, block rs) ∷ code) = opens_block (past_said (suc (suc n)) code)
past_said (suc n) ((at, loop rs) ∷ code) = opens_loop (past_said (suc (suc n)) code)
past_said (suc n) ((at, end) ∷ code) = closes (past_said n code)
past_said (suc n) ((at, op o) ∷ code) = passes (past_said (suc n) code)

past_is : {n : ℕ} {code rest : Code} → PastEnds n code rest → past_ends n code ≡ rest
unfolding past_ends
past_is (none_open {code = code}) = past_none code
past_is (closes more) = past_is more
past_is (opens_block more) = past_is more
past_is (opens_loop more) = past_is more
past_is (passes more) = past_is more
past_is no_end = refl

-- the end of the run

module _ (p : Program) (heap : Store) (locals : List (Option Value)) (ops : List Value) (blocks : List Block) (code : Code) where
  pub finish-said : (vs : List Value) → Said (Finishes p heap locals vs) (finish p (state heap locals ops blocks code) vs)
  finish-said vs = on_some (split_top p.results vs) (λ s e. said (finishes (found_split p.results vs e)))

  pub finish_is : {vs : List Value} {r : Outcome} → Finishes p heap locals vs r → finish p (state heap locals ops blocks code) vs ≡ r
  finish_is (finishes s) = rw (split_found s)

-- to the label

-- what is still to be passed of the blocks: what the rules say there, they say of all
record Sought (blocks : List Block) (l : ℕ) (bs : List Block) (k : ℕ) : Type 0 where
  found : {b : Block} {outer : List Block} → Labelled k bs b outer → Labelled l blocks b outer
  last : k ≡ length bs → l ≡ length blocks

sought_first : {blocks : List Block} {l : ℕ} → Sought blocks l blocks l
sought_first = record { found = λ x. x; last = λ e. e }

sought_next : {blocks : List Block} {l : ℕ} {c : Block} {bs : List Block} {k : ℕ} → Sought blocks l (c ∷ bs) (suc k) → Sought blocks l bs k
sought_next s = record { found = λ x. s.found (further_out x); last = λ e. s.last (ap suc e) }

module _ (p : Program) (heap : Store) (locals : List (Option Value)) (ops : List Value) (blocks : List Block) (code : Code) (l : ℕ) (vs : List Value) where
  jump-said : (bs : List Block) (k : ℕ) → Sought blocks l bs k → Said (Branches p heap locals blocks code l vs) (jump p (state heap locals ops blocks code) l bs vs k)
  unfolding jump
  jump-said [] zero s = also_said (λ r f. out_of_function (s.last refl) f) (finish-said p heap locals ops blocks code vs)
  jump-said [] (suc k) s = silent
  jump-said (open_block at n below ∷ bs) zero s =
      on_some (split_top n vs) (λ t e. said (out_of_block (s.found innermost) (found_split n vs e) (past_said (suc l) code)))
  jump-said (open_loop at below again ∷ bs) zero s = said (to_loop (s.found innermost))
  jump-said (b ∷ bs) (suc k) s = jump-said bs k (sought_next s)

  pub branch-said : Said (Branches p heap locals blocks code l vs) (branch p (state heap locals ops blocks code) l vs)
  branch-said = jump-said blocks l sought_first

  jump_block : {k at n : ℕ} {below top rest : List Value} {bs outer : List Block} {after : Code}
      → Labelled k bs (open_block at n below) outer → split_top n vs ≡ some (top, rest) → past_ends (suc l) code ≡ after
      → jump p (state heap locals ops blocks code) l bs vs k ≡ goes (state heap locals (top ++ below) outer after)
  unfolding jump
  jump_block innermost e q = rw (e, q)
  jump_block (further_out w) e q = jump_block w e q

  jump-loop : {k at : ℕ} {below : List Value} {bs outer : List Block} {again : Code}
      → Labelled k bs (open_loop at below again) outer
      → jump p (state heap locals ops blocks code) l bs vs k ≡ goes (state heap locals [] (open_loop at below again ∷ outer) again)
  unfolding jump
  jump-loop innermost = refl
  jump-loop (further_out w) = jump-loop w

  jump_out : (bs : List Block) (k : ℕ) → k ≡ length bs → jump p (state heap locals ops blocks code) l bs vs k ≡ finish p (state heap locals ops blocks code) vs
  unfolding jump
  jump_out [] zero e = refl
  jump_out [] (suc k) e = absurd (omega arith)
  jump_out (b ∷ bs) zero e = absurd (omega arith)
  jump_out (b ∷ bs) (suc k) e = jump_out bs k (omega arith)

  pub branch_is : {r : Outcome} → Branches p heap locals blocks code l vs r → branch p (state heap locals ops blocks code) l vs ≡ r
  branch_is (out_of_block w s e) = jump_block w (split_found s) (past_is e)
  branch_is (to_loop w) = jump-loop w
  branch_is (out_of_function e f) = jump_out blocks l e ∙ finish_is p heap locals ops blocks code f
