-- Each way out of a branch that leaves a block: its values go down onto the operands below it, and the code goes on at the
-- place that is kept for its end.
use Prim.Native.Nat.{ℕ, suc, ◌+◌, ◌-◌, ◌*◌, ◌≤◌, ◌<◌}
use mathlib.Core.Path.{◌≡◌, refl, sym, ap, ◌∙◌}
use mathlib.Core.List.{List, [], ◌∷◌, ◌++◌}
use native.Mathlib.Omega.{arith}
use lib.ListN.{length, get_or}
use mir.Syntax.{w32}
use mir.Val.{Fits}
use borrow.Author.Tests.{eq-eqb, ne_eqb}
use Rattle.scope.specs.Layout.{block_span}
use Rattle.scope.specs.Syntax.{Val}
use Rattle.scope.specs.Machine.{past_ends}
use Rattle.run_values.specs.Layout.{place_word, below_word}
use Rattle.lent_u16.specs.Words.{WordAt}
use Rattle.body_immediates.specs.Coding.{result_code}
use Rattle.body_decoded.specs.Decoded.{block_results}
use Rattle.run_stack.specs.Pile.{pile, Lower, Moved}
use Rattle.run_stack.proofs.Laws.{split_some, split_none}
use Rattle.run_stack.proofs.GoingDown.{moved-onto}
use Rattle.run_ends.specs.Matching.{code_at}
use Rattle.run_state.specs.declared.Stage.{Stage}
use Rattle.run_state.specs.declared.Stepped.{Stepped}
use Rattle.run_state.specs.declared.Stepped
use Rattle.run_state.specs.Machines.{block_word, lower, blocks_at}
use Rattle.run_state.specs.Controlled.{controlled}
use Rattle.run_state.proofs.Open.{charted_end, opener_of, operands_same}
use Rattle.run_branches.specs.Branches.{Descends, BranchesOut}
use Rattle.run_blocks.proofs.Answers.{restaged, control_stuck, control_goes}
use Rattle.run_branches.proofs.Jumping.{target, reaches_block}

-- how many values a label takes

pub takes_none : {w : ℕ} → w ≡ 0 → 0 ≡ length (block_results w)
takes_none {w} e = rw (eq-eqb w 0 e) refl

pub takes_one : {w : ℕ} → (w ≡ 0 → ⊥) → 1 ≡ length (block_results w)
takes_one {w} n = rw (ne_eqb w 0 n) refl

pub ruleset takes_exits = (takes_none, takes_one)

-- a block that was read has one result at most
pub takes_as_read : (rs : List Val) → length rs ≤ 1 → length (block_results (result_code rs)) ≡ length rs
takes_as_read [] h = refl
takes_as_read (v ∷ []) h = let n : (result_code (v ∷ []) ≡ 0 → ⊥) = λ e. omega arith in rw (ne_eqb (result_code (v ∷ [])) 0 n) refl
takes_as_read (v ∷ w ∷ rs) h = absurd (omega arith)

-- out of a block

pub out_short : (ends operands blocks : List ℕ) {st : Stage} {left takes : ℕ} (d : ℕ) → left < takes → BranchesOut ends operands operands blocks st left d takes Stepped.TheVariants.Astray
out_short ends operands blocks {st} {left} d h =
    record {
      is = λ s rs next f read many.
          record {
            is = λ p m l is c.
                let short : left < length rs = omega arith in
                control_stuck (reaches_block p m d l is f c (pile operands st.base left) read ∙ (rw (split_none operands st.base short) refl));
          };
    }

module _ {operands blocks : List ℕ} (st : Stage) {left d : ℕ} (e : Descends operands blocks st left d) {takes : ℕ} (h : takes ≤ left) where
  pub descend_from : Fits w32 (st.base + (left - takes))
  descend_from = record { fits = omega (arith, e.piled.high) }

  module _ {below : ℕ} (b : WordAt blocks (block_span * d + below_word) below) where
    pub descend_lower : Lower operands (st.base + (left - takes)) below takes
    descend_lower =
        let high : block_word blocks d below_word ≤ st.base = e.high in
        record { room = e.piled.room; few = omega (arith, e.piled.high); down = omega (arith, b.is) }

    module _ {lowest : ℕ} (low : lowest ≡ lower blocks d) where
      pub descend_low : lowest ≤ below
      descend_low = omega (arith, e.low, b.is)

      pub descend_high : Fits w32 (below - lowest + takes)
      descend_high = record { fits = omega (arith, e.high, e.piled.high, b.is) }

      pub out_goes :
          {ends operands' : List ℕ} {place to : ℕ} → WordAt blocks (block_span * d + place_word) place → WordAt ends place to → Moved operands operands' (st.base + (left - takes)) below takes
          → BranchesOut ends operands operands' blocks st left d takes (Stepped.TheVariants.Goes (restaged st to lowest (below - lowest + takes) d))
      unfolding controlled
      out_goes {ends} {operands'} {place} {to} w v moved =
          record {
            is = λ s rs next f read many.
                record {
                  is = λ p m l is c.
                      let t = target d l is f in
                      let under : lowest ≤ below = descend_low in
                      let whole : lowest + (below - lowest) ≡ below = omega arith in
                      let high : lowest + (below - lowest + takes) ≡ below + takes = omega arith in
                      let all : st.base + (left - takes) + takes ≡ st.base + left = omega arith in
                      let inside : below ≤ st.base = omega (arith, e.high, b.is) in
                      let enough : length rs ≤ left = omega arith in
                      let at : to ≡ get_or ends (block_word blocks d place_word) 0 = v.is ∙ ap (λ (k : ℕ). get_or ends k 0) w.is in
                      let values : pile operands' lowest (below - lowest + takes) ≡ pile operands (st.base + (left - takes)) takes ++ pile operands lowest (below - lowest) = moved-onto lowest (below - lowest) (rw whole moved) in
                      let same : blocks_at s blocks operands' d ≡ blocks_at s blocks operands d = operands_same operands operands' d t.nested (λ i k. moved.below i (omega (arith, b.is, t.low))) in
                      let code : past_ends (suc l) m.code ≡ code_at s to = ap (past_ends (suc l)) c.code ∙ t.landing ∙ ap (code_at s) (sym at) in
                      control_goes _
                      (sym
                      (reaches_block p m d l is f c (pile operands st.base left) read
                      ∙ (rw (split_some operands st.base enough, ← many, ← b.is, ← low, ← values, ← same, code) refl)))
                      (record { room = omega (arith, e.piled.room, moved.size); canon = rw high (moved.canon (rw all e.piled.canon)); high = rw high (omega (arith, e.piled.high)) })
                      (record {
                        short = f.short;
                        room = f.room;
                        deep = omega (arith, f.deep);
                        base = low;
                        charted = rw at (charted_end t.charted (opener_of t.opened));
                        nested = rw at t.nested;
                      })
                      (record { objects = refl; cells = refl });
                };
          }

pub ruleset out_exits = (out_short, descend_from, descend_lower, descend_low, descend_high, out_goes)
