-- Where a branch goes. Down the open blocks, paired with the checker's frames, to the label's: past the end of a block the
-- values of the label's types lie on the operands below it; a loop begins again as it began; the function's own label is
-- the end of the run, with results of the declared types.
use Prim.Native.Nat.{ℕ, zero, suc}
use mathlib.Core.Path.{◌≡◌, refl}
use mathlib.Core.Bool.{false}
use mathlib.Core.Option.{some}
use mathlib.Core.List.Forall₂
use mathlib.Core.List.{List, [], ◌∷◌, ◌++◌, map, reverse}
use lib.ListN.{get_elem?}
use Rattle.scope.specs.Syntax.{Val, types_of}
use Rattle.scope.specs.Bodies.{Operand, Frame, of_block, label_of, Body}
use Rattle.scope.specs.Machine.{Value, Block, Machine, finish, jump, past_ends}
use Rattle.scope.specs.Running.{program_of}
use Rattle.scope.proofs.Truths.{none_is_not-some}
use Rattle.scope.proofs.Pairs.{some_is_one, append-both}
use Rattle.scope.proofs.HeapLaws.{grows_itself}
use Rattle.scope.proofs.Taking.{Tops, as_operands, split_tops}
use Rattle.scope.proofs.Standing.{left_of, Opens, innermost, deeper}
use Rattle.scope.proofs.Soundness.{Stands, BlocksTyped, no_block, in_block, in_loop, loop_state, StoreTyped, Proceeds, proceeds, is_over}

module _ {b : Body} (m : Machine) (store : StoreTyped b m.heap m.locals) {left : List Operand} {vs below : List Value} where
  pub finishes : Tops (types_of b.types) m.heap (reverse b.function.results) left vs below → Proceeds b m.heap (finish (program_of b) m vs)
  finishes t =
      rw (split_tops b.function.results t)
      (is_over (record { store = store; results = t.typed; closed = refl; over = refl }) (grows_itself m.heap))

  pub jumps :
      (l k : ℕ) {frames : List Frame} {bs : List Block} (rs : List Val)
      → BlocksTyped b m.heap m.locals frames bs
      → get_elem? (map label_of frames ++ b.function.results ∷ []) k ≡ some rs
      → Tops (types_of b.types) m.heap (reverse rs) left vs below
      → ((f : Frame) (fs : List Frame) → Opens k frames f fs → Stands b (left_of f fs) (past_ends (suc l) m.code))
      → Proceeds b m.heap (jump (program_of b) m l bs vs k)
  unfolding jump
  jumps l zero rs no_block e t lands = finishes (rw (some_is_one e) t)
  jumps l (suc k) rs no_block e t lands = absurd (none_is_not-some e)
  jumps l zero rs (in_block {rs = qs} {os = os} {set = set} {fs = fs} under covers rest) e t lands =
      let q : qs ≡ rs = some_is_one e in
      let t' : Tops (types_of b.types) m.heap (reverse qs) left vs below = rw q t in
      rw (split_tops qs t')
      (proceeds
      (record {
        state = left_of (of_block qs os false set) fs;
        stands = lands _ _ innermost;
        alive = refl;
        typed = record { store = store; operands = append-both (as_operands t'.typed) under; set = covers; blocks = rest };
      })
      (grows_itself m.heap))
  jumps l zero rs (in_loop {rs = qs} {os = os} {set = set} {fs = fs} under covers stands rest) e t lands =
      proceeds
      (record {
        state = loop_state qs os set fs;
        stands = stands;
        alive = refl;
        typed = record { store = store; operands = Forall₂.nil; set = covers; blocks = in_loop under covers stands rest };
      })
      (grows_itself m.heap)
  jumps l (suc k) rs (in_block under covers rest) e t lands = jumps l k rs rest e t (λ f fs o. lands f fs (deeper o))
  jumps l (suc k) rs (in_loop under covers stands rest) e t lands = jumps l k rs rest e t (λ f fs o. lands f fs (deeper o))
