-- Each way out of `end` and of the end of the run.
use Prim.Native.Nat.{ℕ, suc, ◌+◌, ◌-◌, ◌≤◌, ◌<◌}
use mathlib.Core.Path.{◌≡◌, refl, sym, ap, ap₂, ◌∙◌}
use mathlib.Core.List.{List, [], ◌∷◌, ◌++◌}
use native.Mathlib.Omega.{arith}
use native.Mathlib.Nat.{le_refl}
use lib.ListN.{length}
use mir.Syntax.{w32}
use mir.Val.{Fits}
use Rattle.scope.specs.Bodies.{Code}
use Rattle.scope.specs.Machine.{Value, Block, Machine, Program, goes, ends, with_control, finish, do_end, do_instr}
use Rattle.run_values.specs.Layout.{kind_word, place_word, below_word}
use Rattle.run_stack.specs.Pile.{pile, Lower, Moved}
use Rattle.run_stack.proofs.Laws.{pile_join, split_some, split_none}
use Rattle.run_ends.proofs.Codes.{code-none}
use Rattle.run_state.specs.declared.Stage.{Stage}
use Rattle.run_state.specs.declared.Stepped.{Stepped}
use Rattle.run_state.specs.declared.Stepped
use Rattle.run_state.specs.Machines.{block_word, lower, block_of, blocks_at, at_height}
use Rattle.run_state.specs.Controlled.{Piled, controlled}
use Rattle.run_state.proofs.Open.{either_block, lower_more, charted_next, nested_end}
use Rattle.run_blocks.specs.Blocks.{Finishes, Closable, Closes}
use Rattle.run_blocks.proofs.Answers.{restaged, control_for, control_stuck, control_goes, control_ends}

-- the run is done

pub finish_short : (operands : List ℕ) {st : Stage} {left results bytes : ℕ} → left < results → Finishes operands operands st left results bytes Stepped.TheVariants.Astray
finish_short operands {st} {left} {results} h =
    record { is = λ s ends blocks p m r b. control_stuck (rw (r, split_none operands st.base h)) }

module _ {operands : List ℕ} (st : Stage) {left results : ℕ} (piled : Piled operands (at_height st left)) (h : results ≤ left) where
  pub finish-fits : Fits w32 (st.base + (left - results))
  finish-fits = record { fits = omega (arith, piled.high) }

  pub finish-lower : Lower operands (st.base + (left - results)) 0 results
  finish-lower = record { room = piled.room; few = omega (arith, piled.high); down = omega arith }

  pub finish-done :
      {operands' : List ℕ} {bytes : ℕ} → Moved operands operands' (st.base + (left - results)) 0 results
      → Finishes operands operands' st left results bytes (Stepped.TheVariants.Ends (restaged st bytes 0 results 0))
  unfolding controlled blocks_at
  finish-done {operands'} {bytes} d =
      let all : st.base + (left - results) + results ≡ st.base + left = omega arith in
      record {
        is = λ s ends blocks p m r b.
            control_ends _
            (rw (r, split_some operands st.base h, d.top, ← b, code-none s (length s) (le_refl (length s))) refl)
            (record { room = omega (arith, piled.room, d.size); canon = d.canon (rw all piled.canon); high = omega (arith, piled.high) })
            (record { place = sym b; base = refl; depth = refl })
            (record { objects = refl; cells = refl });
      }

pub ruleset finish_exits = (finish_short, finish-fits, finish-lower, finish-done)

-- an end

-- the innermost block is left, whatever its kind
close_block :
    (s : List ℕ) (p : Program) (m : Machine) (kind at : ℕ) (below : List Value) (bs : List Block)
    → do_end p m (block_of s kind at below ∷ bs) ≡ goes (with_control m (m.operands ++ below) bs m.code)
close_block s p m kind at below bs =
    either_block (λ b. do_end p m (b ∷ bs) ≡ goes (with_control m (m.operands ++ below) bs m.code)) s kind at below (λ again. refl) (λ n. refl)

pub close_piled : {operands blocks : List ℕ} {st : Stage} → Closable operands blocks st → Piled operands (at_height st st.height)
close_piled c = record { room = c.piled.room; canon = c.piled.canon; high = c.piled.high }

pub close_last :
    {operands operands' : List ℕ} {st : Stage} {results bytes : ℕ} {r : Stepped} → st.depth ≡ 0 → Finishes operands operands' st st.height results bytes r
    → (blocks : List ℕ) (next : ℕ) → Closes operands operands' blocks st next results bytes r
unfolding do_instr blocks_at
close_last {operands} {st = st} e f blocks next =
    record {
      is = λ s ends p m framed read results bytes c.
          let none : m.blocks ≡ [] = c.opened ∙ ap (blocks_at s blocks operands) e in
          control_for (ap (do_end p m) none ∙ ap (finish p m) c.values) (f.is s ends blocks p m results bytes);
    }

module _ {operands blocks : List ℕ} {st : Stage} (c : Closable operands blocks st) (n : st.depth ≡ 0 → ⊥) {lowest : ℕ} (l : lowest ≡ lower blocks (st.depth - 1)) where
  pub close_fits : lowest ≤ st.base
  close_fits = omega (arith, c.low)

  pub close_high : Fits w32 (st.base - lowest + st.height)
  close_high = record { fits = omega (arith, c.piled.high) }

  pub close_goes :
      (next results bytes : ℕ)
      → Closes operands operands blocks st next results bytes (Stepped.TheVariants.Goes (restaged st next lowest (st.base - lowest + st.height) (st.depth - 1)))
  unfolding do_instr blocks_at controlled
  close_goes next results bytes =
      record {
        is = λ s ends p m f read r b k.
            let one : st.depth ≡ suc (st.depth - 1) = omega (arith, n) in
            let low : lowest ≤ st.base = omega (arith, c.low) in
            let base : st.base ≡ block_word blocks (st.depth - 1) below_word = f.base ∙ ap (lower blocks) one ∙ lower_more blocks (st.depth - 1) in
            let all : lowest + (st.base - lowest + st.height) ≡ st.base + st.height = omega arith in
            let from : lowest + (st.base - lowest) ≡ st.base = omega arith in
            let opened : m.blocks ≡ block_of s (block_word blocks (st.depth - 1) kind_word) (block_word blocks (st.depth - 1) place_word) (pile operands lowest (st.base - lowest)) ∷ blocks_at s blocks operands (st.depth - 1) =
            k.opened ∙ ap (blocks_at s blocks operands) one ∙ (rw (l, base) refl) in
            let values : m.operands ++ pile operands lowest (st.base - lowest) ≡ pile operands lowest (st.base - lowest + st.height) =
            ap (λ (vs : List Value). vs ++ pile operands lowest (st.base - lowest)) (k.values ∙ ap (λ (x : ℕ). pile operands x st.height) (sym from)) ∙ pile_join operands lowest (st.base - lowest) st.height in
            control_goes _
            (sym
            (ap (do_end p m) opened
            ∙ close_block s p m (block_word blocks (st.depth - 1) kind_word) (block_word blocks (st.depth - 1) place_word) (pile operands lowest (st.base - lowest)) (blocks_at s blocks operands (st.depth - 1))
            ∙ ap₂ (λ (vs : List Value) (code : Code). goes (with_control m vs (blocks_at s blocks operands (st.depth - 1)) code)) values k.code))
            (record { room = c.piled.room; canon = rw all c.piled.canon; high = rw all c.piled.high })
            (record {
              short = f.short;
              room = f.room;
              deep = omega (arith, f.deep);
              base = l;
              charted = charted_next f.charted read;
              nested = nested_end st.place read (rw one at f.nested);
            })
            (record { objects = refl; cells = refl });
      }

pub ruleset close_exits = (close_piled, close_last, close_fits, close_high, close_goes)
