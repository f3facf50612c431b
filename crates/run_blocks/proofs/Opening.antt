-- Each way out of opening a block.
use Prim.Native.Nat.{ℕ, suc, ◌+◌, ◌-◌, ◌*◌, ◌%◌, ◌≤◌, ◌<◌}
use mathlib.Core.Path.{◌≡◌, refl, sym, ap, ◌∙◌}
use mathlib.Core.List.{List, [], ◌∷◌}
use native.Mathlib.Omega.{arith}
use lib.ListN.{length, get_or, set}
use mir.Syntax.{w32}
use mir.Val.{Fits}
use Rattle.scope.specs.Layout.{block_span, blocks_size}
use Rattle.scope.specs.Sizes.{most_blocks}
use Rattle.scope.specs.Reading.{got}
use Rattle.scope.specs.Instructions.{Instr, instr_at}
use Rattle.scope.specs.Machine.{Value, Machine, Program, goes, with_control, Block, do_instr}
use Rattle.scope.proofs.Forward.{never_back}
use Rattle.scope.proofs.ForwardBodies.{instr_takes}
use Rattle.lent_u16.specs.Words.{word_limit}
use Rattle.run_values.specs.Layout.{kind_word, place_word, below_word}
use Rattle.lent_u16.proofs.Stores.{Stored, stored}
use Rattle.run_stack.specs.Pile.{pile}
use Rattle.run_ends.specs.Matching.{code_at}
use Rattle.run_state.specs.declared.Stage.{Stage}
use Rattle.run_state.specs.declared.Stepped.{Stepped}
use Rattle.run_state.specs.declared.Stepped
use Rattle.run_state.specs.Machines.{block_word, lower, code_after, block_of, blocks_at, at_place, Opened, a_block, a_loop, Charted, Nested, Framed}
use Rattle.run_state.specs.Moved.{Astray, too_deep}
use Rattle.run_state.specs.Controlled.{Controls, controlled}
use Rattle.run_state.proofs.Open.{blocks-length, blocks_same, lower_same, lower_more, charted_next, opener_of, nested_same, nested_first, nested_opener}
use Rattle.run_blocks.specs.Blocks.{OpensAs, as_block, as_loop, Low, Opens}
use Rattle.run_blocks.proofs.Answers.{restaged, control_astray, control_goes}

-- too many are open

one_more_lem : {m : Machine} {b : Block} {vs : List Value} → most_blocks ≤ length m.blocks → Astray m (goes (with_control m vs (b ∷ m.blocks) m.code))
one_more_lem {m} {b} h = let many : most_blocks < length (b ∷ m.blocks) = omega arith in too_deep many

opens_one : (p : Program) (m : Machine) (at : ℕ) {kind : ℕ} {i : Instr} → OpensAs kind i → most_blocks ≤ length m.blocks → Astray m (do_instr p m at i)
unfolding do_instr
opens_one p m at as_block h = one_more_lem h
opens_one p m at as_loop h = one_more_lem h

pub open_deep : {st : Stage} (blocks : List ℕ) {next kind : ℕ} → most_blocks ≤ st.depth → Opens blocks blocks st next kind Stepped.TheVariants.Astray
open_deep {st} blocks h =
    record {
      is = λ s ends operands i p m f piled read o c.
          let many : length m.blocks ≡ st.depth = ap length c.opened ∙ blocks-length s blocks operands st.depth in
          control_astray (opens_one p m st.place o (omega arith));
    }

-- one more is open

module _ {st : Stage} (l : Low st) where
  pub open_fits : Fits w32 (st.base + st.height)
  open_fits = record { fits = omega (arith, l.high) }

opened_as_lem : {s : List ℕ} {kind at next : ℕ} {i : Instr} → OpensAs kind i → instr_at s at ≡ got i next → Opened s kind at next
opened_as_lem as_block e = a_block refl e
opened_as_lem as_loop e = a_loop refl e

kind_small : {kind : ℕ} {i : Instr} → OpensAs kind i → kind < word_limit
kind_small as_block = omega arith
kind_small as_loop = omega arith

-- what the new block's words say
block_of_lem : (s : List ℕ) (p : Program) (m : Machine) (at : ℕ) {kind next : ℕ} {i : Instr} → OpensAs kind i → instr_at s at ≡ got i next → m.code ≡ code_at s next
    → goes (with_control m [] (block_of s kind at m.operands ∷ m.blocks) (code_at s next)) ≡ do_instr p m at i
unfolding block_of code_after do_instr
block_of_lem s p m at (as_block {rs}) e c = rw (e, c)
block_of_lem s p m at (as_loop {rs}) e c = rw (e, c)

-- the words of block d, and those of the blocks below
record Written (blocks blocks' : List ℕ) (d kind at below : ℕ) : Type 0 where
  kind_word_lem : block_word blocks' d kind_word ≡ kind
  place_word_lem : block_word blocks' d place_word ≡ at
  below_word_lem : block_word blocks' d below_word ≡ below
  others : (i : ℕ) → i < block_span * d → get_or blocks' i 0 ≡ get_or blocks i 0
  size : length blocks' ≡ length blocks

module _ {blocks blocks₁ blocks₂ blocks₃ : List ℕ} {d kind at below : ℕ} (first : blocks₁ ≡ set blocks (block_span * d) (kind % word_limit)) (second : blocks₂ ≡ set blocks₁ (block_span * d + place_word) (at % word_limit)) (third : blocks₃ ≡ set blocks₂ (block_span * d + below_word) (below % word_limit)) where
  written : blocks_size ≤ length blocks → d < most_blocks → kind < word_limit → at < word_limit → below < word_limit → Written blocks blocks₃ d kind at below
  written room deep k a b =
      let one : Stored blocks blocks₁ (block_span * d) kind = stored word_limit first k (omega arith) in
      let two : Stored blocks₁ blocks₂ (block_span * d + place_word) at = stored word_limit second a (omega (arith, one.size)) in
      let three : Stored blocks₂ blocks₃ (block_span * d + below_word) below = stored word_limit third b (omega (arith, one.size, two.size)) in
      let here : block_span * d + kind_word ≡ block_span * d = omega arith in
      record {
        kind_word_lem = rw here (three.others (block_span * d) (λ e. omega arith) ∙ two.others (block_span * d) (λ e. omega arith) ∙ one.here);
        place_word_lem = three.others (block_span * d + place_word) (λ e. omega arith) ∙ two.here;
        below_word_lem = three.here;
        others = λ i h. three.others i (λ e. omega arith) ∙ two.others i (λ e. omega arith) ∙ one.others i (λ e. omega arith);
        size = three.size ∙ two.size ∙ one.size;
      }

module _ (s ends operands : List ℕ) {blocks blocks' : List ℕ} (st : Stage) {kind next : ℕ} {i : Instr} (w : Written blocks blocks' st.depth kind st.place (st.base + st.height)) (f : Framed s ends blocks st) (read : instr_at s st.place ≡ got i next) (o : OpensAs kind i) where
  abbrev later : Stage
  later = restaged st next (st.base + st.height) 0 (st.depth + 1)

  low : lower blocks' st.depth ≡ st.base
  low = lower_same blocks blocks' st.depth w.others ∙ sym f.base

  now_framed : st.depth < most_blocks → Framed s ends blocks' later
  now_framed deep =
      let more : st.depth + 1 ≡ suc st.depth = omega arith in
      let opened : Opened s kind st.place next = opened_as_lem o read in
      let around : Nested s ends blocks' st.depth (code_at s (get_or ends st.place 0)) = nested_same st.depth w.others (nested_opener f.charted (opener_of opened) f.nested) in
      let charted' : Charted s ends (block_word blocks' st.depth place_word) = rw w.place_word_lem f.charted in
      let opened' : Opened s (block_word blocks' st.depth kind_word) (block_word blocks' st.depth place_word) next = rw (w.kind_word_lem, w.place_word_lem) opened in
      let low' : lower blocks' st.depth ≤ block_word blocks' st.depth below_word = rw (low, w.below_word_lem) (omega arith) in
      let around' : Nested s ends blocks' st.depth (code_at s (get_or ends (block_word blocks' st.depth place_word) 0)) = rw w.place_word_lem around in
      record {
        short = f.short;
        room = omega (arith, f.room, w.size);
        deep = omega arith;
        base = rw (more, lower_more blocks' st.depth, w.below_word_lem) refl;
        charted = charted_next f.charted read;
        nested = rw more (nested_first {d = st.depth} charted' opened' low' around');
      }

  new_blocks : blocks_at s blocks' operands (st.depth + 1) ≡ block_of s kind st.place (pile operands st.base st.height) ∷ blocks_at s blocks operands st.depth
  unfolding blocks_at
  new_blocks =
      let more : st.depth + 1 ≡ suc st.depth = omega arith in
      let many : st.base + st.height - st.base ≡ st.height = omega arith in
      rw (more, w.kind_word_lem, w.place_word_lem, w.below_word_lem, low, many, blocks_same blocks blocks' s operands st.depth w.others) refl

  now_goes : (p : Program) (m : Machine) → Controls s operands blocks (at_place st next) m → controlled s operands blocks' m (Stepped.TheVariants.Goes later) ≡ do_instr p m st.place i
  unfolding controlled pile
  now_goes p m c =
      rw (new_blocks, ← c.values, ← c.opened) (block_of_lem s p m st.place o read c.code)

pub open_goes :
    {st : Stage} → Low st → st.depth < most_blocks → {blocks blocks₁ blocks₂ blocks₃ : List ℕ} {next kind : ℕ}
    → blocks₁ ≡ set blocks (block_span * st.depth) (kind % word_limit)
    → blocks₂ ≡ set blocks₁ (block_span * st.depth + place_word) (st.place % word_limit)
    → blocks₃ ≡ set blocks₂ (block_span * st.depth + below_word) ((st.base + st.height) % word_limit)
    → Opens blocks blocks₃ st next kind (Stepped.TheVariants.Goes (restaged st next (st.base + st.height) 0 (st.depth + 1)))
open_goes {st} low deep {blocks} {blocks₁} {blocks₂} {blocks₃} {next} {kind} e₁ e₂ e₃ =
    record {
      is = λ s ends operands i p m f piled read o c.
          let (forward, ends-inside) = never_back instr_takes s st.place read in
          let w : Written blocks blocks₃ st.depth kind st.place (st.base + st.height) = written e₁ e₂ e₃ f.room deep (kind_small o) (omega (arith, f.short)) (omega (arith, low.high)) in
          let same : st.base + st.height + 0 ≡ st.base + st.height = omega arith in
          control_goes (later s ends operands st w f read o) (now_goes s ends operands st w f read o p m c)
          (record { room = piled.room; canon = rw same piled.canon; high = rw same piled.high })
          (now_framed s ends operands st w f read o deep)
          (record { objects = refl; cells = refl });
    }

pub ruleset open_exits = (open_deep, open_fits, open_goes)
