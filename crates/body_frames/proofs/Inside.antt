-- A block is opened: its frame is written above the others, which stay as they are. Its stamp is the place of this
-- instruction, which no local has yet, so the locals that are set inside it are those that were set around it.
use Prim.Native.Nat.{ℕ, suc, ◌+◌, ◌-◌, ◌*◌, ◌%◌, ◌^◌, ◌≤◌, ◌<◌}
use mathlib.Core.Path.{◌≡◌, refl, sym, ap, ap₂, ◌∙◌}
use mathlib.Core.Logic.{◌⊎◌, inl, inr}
use mathlib.Core.Bool.{Bool, true, false, not, ◌&&◌}
use mathlib.Core.List.{List, [], ◌∷◌, map, append-nil}
use native.Mathlib.Omega.{arith}
use native.Mathlib.Nat.{mod-eq_of_lt}
use native.Mathlib.Numerals.{add-one}
use lib.ListN.{length, get_or}
use lib.Dec.{eqb, ltb, leb}
use borrow.Author.Tests.{not-true, not-false, ne_eqb, lt-ltb, le-ltb, leb-true, leb-false, eqb-true, eqb-false}
use mir.Syntax.{w16, w32}
use mir.Val.{Fits}
use Rattle.scope.specs.Sizes.{most_locals, most_frames, most_blocks}
use Rattle.scope.specs.Refusals.{oversize, out_of_reach}
use Rattle.scope.specs.Lists.{joined}
use Rattle.scope.specs.Memory.{flag}
use Rattle.scope.specs.TypeRules.{val_names}
use Rattle.scope.specs.BodyRules.{allowed, fault}
use Rattle.scope.specs.Bodies.{State, goes_on}
use Rattle.scope.proofs.Truths.{decided}
use Rattle.scope.proofs.Impossible.{impossible}
use Rattle.type_table.specs.View.{val_at_code}
use Rattle.type_reach.specs.Names.{all_below}
use Rattle.body_decoded.specs.Decoded.{block_results}
use Rattle.type_reach.proofs.Small.{val_small}
use Rattle.body_state.specs.declared.Check.{Check}
use Rattle.body_state.specs.declared.Scene.{Scene}
use Rattle.body_state.specs.declared.Step.{Step}
use Rattle.body_state.specs.declared.Step
use Rattle.body_state.specs.Layout.{marks_from, stamps_from, frames_from, frame_span, loop_word, result_word, base_word, height_word, dead_word, stamp_word, code_bound}
use Rattle.body_state.specs.State.{val_at_word, results_at, frame_word, stack, is_set_at, sets_at, frame_of, frame_at, frames_at, state_at, Rests, above, Upright, Stamped}
use Rattle.body_state.proofs.Alike.{Alike, alike_less, stack_same, sets_same, sets_alike, rests_alike, frames_alike, frames_length, frames_more}
use Rattle.body_frame_words.specs.FrameWords.{FrameRoom, ThreePut}
use Rattle.body_frames.specs.Frames.{Entering, Entered, Opening, opens, Opened}

-- the block's result

pub no_result : (types : ℕ) {result : ℕ} → result ≡ 0 → true ≡ all_below types (joined (map val_names (block_results result)))
unfolding all_below
no_result types e = rw e refl

pub one_result : (types result : ℕ) {r : Bool} → r ≡ all_below types (val_names (val_at_code (result - 1))) → (result ≡ 0 → ⊥) → r ≡ all_below types (joined (map val_names (block_results result)))
unfolding all_below
one_result types result a g = rw (ne_eqb result 0 g, append-nil (val_names (val_at_code (result - 1)))) a

-- the frame's words

pub first_room : {work : List ℕ} {st : Check} → Entering work st → FrameRoom work (st.depth + 2)
first_room e = record { room = omega (arith, e.room, e.deep) }

module _ {work : List ℕ} {st : Check} (e : Entering work st) {work₁ : List ℕ} {l r s : ℕ} (p : ThreePut work work₁ (st.depth + 2) loop_word result_word stamp_word l r s) where
  pub second_room : FrameRoom work₁ (st.depth + 2)
  second_room = record { room = omega (arith, e.room, e.deep, p.size) }

  pub deeper_fits : Fits w16 (st.depth + 1)
  deeper_fits = record { fits = omega (arith, e.deep) }

  pub higher_fits : Fits w32 (st.base + st.height)
  higher_fits = record { fits = omega (arith, e.low) }

module _ {work : List ℕ} {st : Check} (e : Entering work st) {work₁ : List ℕ} (is_loop : Bool) {result at : ℕ} (p : ThreePut work work₁ (st.depth + 2) loop_word result_word stamp_word (flag is_loop) result at) where
  pub entered_as : {work₂ : List ℕ} → ThreePut work₁ work₂ (st.depth + 2) base_word height_word dead_word st.base st.height (flag st.dead) → Entered work work₂ st is_loop result at (record { depth = st.depth + 1; base = st.base + st.height; height = 0; dead = false })
  entered_as {work₂} q =
      let m = st.depth + 2 in
      let kept : (k : ℕ) → (k ≡ 2 → ⊥) → (k ≡ 3 → ⊥) → (k ≡ 4 → ⊥) → frame_word work₂ m k ≡ frame_word work₁ m k = λ k f g h. q.others (frames_from + (frame_span * m + k)) (λ z. f (omega arith)) (λ z. g (omega arith)) (λ z. h (omega arith)) in
      record {
        is_loop' = kept 0 (λ z. omega arith) (λ z. omega arith) (λ z. omega arith) ∙ p.first;
        result' = kept 1 (λ z. omega arith) (λ z. omega arith) (λ z. omega arith) ∙ p.second;
        base' = q.first;
        height' = q.second;
        dead' = q.third;
        stamp' = kept 5 (λ z. omega arith) (λ z. omega arith) (λ z. omega arith) ∙ p.third;
        below = λ i h. q.others i (λ z. omega arith) (λ z. omega arith) (λ z. omega arith) ∙ p.others i (λ z. omega arith) (λ z. omega arith) (λ z. omega arith);
        size = q.size ∙ p.size;
        check = refl;
      }

-- what is set inside is what was set around

module _ {work : List ℕ} (work' : List ℕ) {count d at : ℕ} (same : (i : ℕ) → i < frames_from + frame_span * (d + 2) → get_or work' i 0 ≡ get_or work i 0) (stamp : frame_word work' (d + 2) stamp_word ≡ at) (few : count ≤ most_locals) (stamped : Stamped work count d at) where
  set-inside : (i : ℕ) → i < count → is_set_at work' (d + 2) i ≡ is_set_at work (d + 1) i
  unfolding is_set_at
  set-inside i h = rw (same (marks_from + i) (omega arith), same (stamps_from + i) (omega arith)) (go (decided (leb n (d + 1))) (decided (leb n (d + 2))))
    where
      n : ℕ
      n = get_or work (marks_from + i) 0

      kept : ℕ
      kept = get_or work (stamps_from + i) 0

      newest : n ≡ d + 2 → eqb (frame_word work' n stamp_word) kept ≡ false
      newest e = ne_eqb (frame_word work' n stamp_word) kept (λ z. let w : frame_word work' n stamp_word ≡ at = rw e stamp in let l : kept < at = stamped.locals i h in omega arith)

      go : (leb n (d + 1) ≡ true) ⊎ (leb n (d + 1) ≡ false) → (leb n (d + 2) ≡ true) ⊎ (leb n (d + 2) ≡ false) → ltb 0 n && (leb n (d + 2) && eqb (frame_word work' n stamp_word) kept) ≡ ltb 0 n && (leb n (d + 1) && eqb (frame_word work n stamp_word) kept)
      go (inl p) (inl q) = let l : n ≤ d + 1 = leb-true n (d + 1) p in rw (p, q, same (frames_from + (frame_span * n + stamp_word)) (omega arith))
      go (inl p) (inr q) = absurd (let l : n ≤ d + 1 = leb-true n (d + 1) p in let g : d + 2 < n = leb-false n (d + 2) q in omega arith)
      go (inr p) (inl q) =
          let l : d + 1 < n = leb-false n (d + 1) p in
          let g : n ≤ d + 2 = leb-true n (d + 2) q in
          let e : n ≡ d + 2 = omega arith in
          rw (p, q, newest e)
      go (inr p) (inr q) = rw (p, q)

  sets_inside : sets_at work' (d + 2) 0 count ≡ sets_at work (d + 1) 0 count
  sets_inside = sets_same work work' (d + 1) (d + 2) 0 count (λ k l h. set-inside k (omega arith))

-- the check stands in the new frame

-- a code of a block's result is small
code-small : (types result : ℕ) → types < 2 ^ 16 → (result ≡ 0 → ⊥) → all_below types (joined (map val_names (block_results result))) ≡ true → result < code_bound
unfolding all_below
code-small types result few some' reached =
    let one : all_below types (val_names (val_at_code (result - 1))) ≡ true = rw (ne_eqb result 0 some', append-nil (val_names (val_at_code (result - 1)))) at reached in
    let l : result - 1 < 28 + 4 * types = val_small types (result - 1) one in
    omega arith

result_is : (result : ℕ) → result < code_bound → results_at result ≡ block_results result
unfolding results_at val_at_word
result_is result small = let low : (result - 1) % code_bound ≡ result - 1 = mod-eq_of_lt (omega arith) in rw low

flag_back : (b : Bool) → eqb (flag b) 1 ≡ b
flag_back true = refl
flag_back false = refl

module _ {work work' : List ℕ} {count at : ℕ} {st : Check} (o : Opening work count st at) {is_loop : Bool} {result : ℕ} {r : Check} (e : Entered work work' st is_loop result at r) (small : result < code_bound) (deep : st.depth < most_blocks) where
  alike : Alike work work' (st.base + st.height) st.depth
  alike = record { low = λ i h. e.below i (omega (arith, o.upright.low)); frames = λ i h. e.below (frames_from + i) (omega arith) }

  below : Alike work work' st.base st.depth
  below = alike_less alike (omega arith) (omega arith)

  around : frames_at work' count st.depth ≡ frames_at work count st.depth
  around = frames_alike st.depth o.upright.few below o.upright.rests

  frame : frame_at work' count (st.depth + 2) ≡ frame_of is_loop (block_results result) (stack work st.base st.height) st.dead (sets_at work (st.depth + 1) 0 count)
  unfolding frame_at
  frame =
      let os : stack work' st.base st.height ≡ stack work st.base st.height = stack_same work work' st.base st.height alike.low in
      let outer : st.depth + 2 - 1 ≡ st.depth + 1 = omega arith in
      rw
      (e.is_loop', e.result', e.base', e.height', e.dead', flag_back is_loop, flag_back st.dead, result_is result small, os, outer, sets_alike alike o.upright.few (st.depth + 1) (omega arith))

  pub opened : state_at work' count r ≡ record { frames = frame_of is_loop (block_results result) (stack work st.base st.height) st.dead (sets_at work (st.depth + 1) 0 count) ∷ frames_at work count st.depth; operands = []; dead = false; is_set = sets_at work (st.depth + 1) 0 count }
  unfolding state_at frames_at stack
  opened =
      let deeper : st.depth + 1 + 1 ≡ st.depth + 2 = omega arith in
      let frames = frames_more work' count st.depth ∙ ap₂ ◌∷◌ frame around in
      let sets = ap (λ (m : ℕ). sets_at work' m 0 count) deeper ∙ sets_inside work' e.below e.stamp' o.upright.few o.stamped in
      rw e.check (λ i. record { frames = frames i; operands = []; dead = false; is_set = sets i })

  pub opened_upright : Upright work' count r
  opened_upright =
      let under : Rests work' st.depth (frame_word work' (st.depth + 2) base_word) = rw e.base' (rests_alike st.depth below o.upright.rests) in
      let sum : st.base + st.height ≡ frame_word work' (st.depth + 2) base_word + frame_word work' (st.depth + 2) height_word = rw (e.base', e.height') in
      let rests : Rests work' (suc st.depth) (st.base + st.height) = above under sum in
      rw e.check
      (record {
        room = omega (arith, o.upright.room, e.size);
        few = o.upright.few;
        deep = omega arith;
        low = omega (arith, o.upright.low);
        rests = rw (add-one st.depth) rests;
      })

  pub opened_stamped : Stamped work' count r.depth (at + 1)
  opened_stamped = rw e.check (record { locals = locals; frames = frames })
    where
      locals : (i : ℕ) → i < count → get_or work' (stamps_from + i) 0 < at + 1
      locals i h = let l = o.stamped.locals i h in omega (arith, e.below (stamps_from + i) (omega (arith, o.upright.few)))

      frames : (m : ℕ) → m ≤ st.depth + 1 + 1 → frame_word work' m stamp_word < at + 1
      frames m h = go (decided (leb m (st.depth + 1)))
        where
          go : (leb m (st.depth + 1) ≡ true) ⊎ (leb m (st.depth + 1) ≡ false) → frame_word work' m stamp_word < at + 1
          go (inl p) =
              let l : m ≤ st.depth + 1 = leb-true m (st.depth + 1) p in
              let old = o.stamped.frames m l in
              omega (arith, e.below (frames_from + (frame_span * m + stamp_word)) (omega arith))
          go (inr p) =
              let l : st.depth + 1 < m = leb-false m (st.depth + 1) p in
              let newest : m ≡ st.depth + 2 = omega arith in
              let same : frame_word work' m stamp_word ≡ at = rw newest e.stamp' in
              omega arith

-- each way out of `open`

module _ {work : List ℕ} {st : Check} {at : ℕ} (k : Scene) (o : Opening work k.locals st at) (is_loop : Bool) (result : ℕ) {reached : Bool} (a : reached ≡ all_below k.types (joined (map val_names (block_results result)))) where
  -- a refusal writes nothing
  refused : {n : ℕ} {work' : List ℕ} → work' ≡ work → fault n ≡ opens k.types (state_at work k.locals st) is_loop (block_results result) → Opened work work' k st is_loop result at (Step.TheVariants.Fault n)
  refused e want =
      record {
        answer = want;
        upright = λ st' f. impossible cc;
        stamped = λ st' f. impossible cc;
        types = λ i h. rw e;
        size = rw e;
      }

  pub open_out : not reached ≡ true → {work' : List ℕ} → work' ≡ work → Opened work work' k st is_loop result at (Step.TheVariants.Fault out_of_reach)
  unfolding all_below
  open_out g e = refused e (rw (sym a ∙ not-true reached g))

  module _ (g : not reached ≡ false) where
    pub open_full : most_blocks ≤ st.depth → {work' : List ℕ} → work' ≡ work → Opened work work' k st is_loop result at (Step.TheVariants.Fault oversize)
    unfolding all_below state_at
    open_full h e = refused e (rw (sym a ∙ not-false reached g, frames_length work k.locals st.depth, le-ltb (st.depth + 1) most_frames (omega arith)))

    small : k.types < 2 ^ 16 → result < code_bound
    small few = go (decided (eqb result 0))
      where
        go : (eqb result 0 ≡ true) ⊎ (eqb result 0 ≡ false) → result < code_bound
        go (inl e) = let z : result ≡ 0 = eqb-true result 0 e in omega arith
        go (inr e) = code-small k.types result few (eqb-false result 0 e) (sym a ∙ not-false reached g)

    pub result_fits : k.types < 2 ^ 16 → result < 2 ^ 32
    result_fits few = let l = small few in omega arith

    module _ (h : st.depth < most_blocks) where
      pub place_fits : at < 2 ^ 32
      place_fits = omega (arith, o.early)

      pub may_enter : Entering work st
      may_enter = record { room = o.upright.room; deep = h; low = o.upright.low }

      pub open_on : {work' : List ℕ} {r : Check} → Entered work work' st is_loop result at r → k.types < 2 ^ 16 → Opened work work' k st is_loop result at (Step.TheVariants.On r)
      unfolding all_below state_at
      open_on {work'} {r} e few =
          let stands = ap (λ (s : State). allowed (goes_on s)) (opened o e (small few) h) in
          let room : ltb (length (frames_at work k.locals st.depth) + 1) most_frames ≡ true = rw (frames_length work k.locals st.depth) (lt-ltb (st.depth + 1) most_frames (omega arith)) in
          record {
            answer = rw (sym a ∙ not-false reached g, room) stands;
            upright = λ st' f. let same : r ≡ st' = cc in rw (← same) (opened_upright o e (small few) h);
            stamped = λ st' f. let same : r ≡ st' = cc in rw (← same) (opened_stamped o e (small few) h);
            types = λ i l. e.below i (omega arith);
            size = e.size;
          }

pub ruleset inside_exits = (no_result, one_result, first_room, second_room, deeper_fits, higher_fits, entered_as)

pub ruleset open_exits = (open_out, open_full, result_fits, place_fits, may_enter, open_on)
