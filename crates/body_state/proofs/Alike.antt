-- What of the scratch a reading looks at: memories that are alike there say the same. The operands of a frame lie below
-- `base`, and the frames up to depth d have the numbers up to d + 1.
use Prim.Native.Nat.{ℕ, zero, suc, ◌+◌, ◌-◌, ◌*◌, ◌≤◌, ◌<◌}
use mathlib.Core.Path.{◌≡◌, refl, ap, ap₂, ◌∙◌}
use mathlib.Core.Logic.{◌⊎◌, inl, inr}
use mathlib.Core.Bool.{Bool, true, false, ◌&&◌}
use mathlib.Core.List.{List, ◌∷◌, map}
use native.Mathlib.Omega.{arith}
use native.Mathlib.Numerals.{add-one}
use lib.ListN.{get_or, length}
use lib.Dec.{eqb, ltb, leb}
use borrow.Author.Tests.{leb-true, leb-false}
use Rattle.scope.specs.Sizes.{most_locals}
use Rattle.scope.specs.Lists.{sum}
use Rattle.scope.specs.Syntax.{Val}
use Rattle.scope.specs.Bodies.{Operand, outer_of}
use Rattle.scope.proofs.Truths.{decided}
use Rattle.body_state.specs.Layout.{marks_from, stamps_from, operands_from, frames_from, frame_span, loop_word, result_word, base_word, height_word, dead_word, stamp_word}
use Rattle.body_state.specs.State.{operand_at_code, results_at, frame_word, stack, is_set_at, sets_at, frame_of, frame_at, frames_at, Rests, floor, above}

pub record Alike (work work' : List ℕ) (base d : ℕ) : Type 0 where
  pub low : (i : ℕ) → i < operands_from + base → get_or work' i 0 ≡ get_or work i 0
  pub frames : (i : ℕ) → i < frame_span * (d + 2) → get_or work' (frames_from + i) 0 ≡ get_or work (frames_from + i) 0

pub alike_less : {work work' : List ℕ} {base d base' d' : ℕ} → Alike work work' base d → base' ≤ base → d' ≤ d → Alike work work' base' d'
alike_less a h g = record { low = λ i l. a.low i (omega arith); frames = λ i l. a.frames i (omega arith) }

-- a word of a frame
pub word_alike : {work work' : List ℕ} {base d : ℕ} → Alike work work' base d → (m k : ℕ) → m ≤ d + 1 → k < frame_span → frame_word work' m k ≡ frame_word work m k
word_alike a m k h g = a.frames (frame_span * m + k) (omega arith)

-- operands

pub stack_alike : (work work' : List ℕ) (base h : ℕ) → ((i : ℕ) → i < base + h → get_or work' (operands_from + i) 0 ≡ get_or work (operands_from + i) 0) → stack work' base h ≡ stack work base h
unfolding stack
stack_alike work work' base zero same = refl
stack_alike work work' base (suc h) same =
    ap₂ (λ (w : ℕ) (os : List Operand). operand_at_code w ∷ os) (same (base + h) (omega arith)) (stack_alike work work' base h (λ i l. same i (omega arith)))

pub stack_same : (work work' : List ℕ) (base h : ℕ) → ((i : ℕ) → i < operands_from + (base + h) → get_or work' i 0 ≡ get_or work i 0) → stack work' base h ≡ stack work base h
stack_same work work' base h same = stack_alike work work' base h (λ i l. same (operands_from + i) (omega arith))

pub stack-length : (work : List ℕ) (base h : ℕ) → length (stack work base h) ≡ h
unfolding stack
stack-length work base zero = refl
stack-length work base (suc h) = ap suc (stack-length work base h)

-- locals

module _ (work work' : List ℕ) (m i : ℕ) (mark : get_or work' (marks_from + i) 0 ≡ get_or work (marks_from + i) 0) (stamp : get_or work' (stamps_from + i) 0 ≡ get_or work (stamps_from + i) 0) where
  pub is_set_same : ((n : ℕ) → n ≤ m → frame_word work' n stamp_word ≡ frame_word work n stamp_word) → is_set_at work' m i ≡ is_set_at work m i
  unfolding is_set_at
  is_set_same frames = rw (mark, stamp) (go (decided (leb (get_or work (marks_from + i) 0) m)))
    where
      n : ℕ
      n = get_or work (marks_from + i) 0

      go : (leb n m ≡ true) ⊎ (leb n m ≡ false) → ltb 0 n && (leb n m && eqb (frame_word work' n stamp_word) (get_or work (stamps_from + i) 0)) ≡ ltb 0 n && (leb n m && eqb (frame_word work n stamp_word) (get_or work (stamps_from + i) 0))
      go (inl h) = rw (frames n (leb-true n m h))
      go (inr h) = rw h

pub sets_same : (work work' : List ℕ) (m m' i n : ℕ) → ((k : ℕ) → i ≤ k → k < i + n → is_set_at work' m' k ≡ is_set_at work m k) → sets_at work' m' i n ≡ sets_at work m i n
unfolding sets_at
sets_same work work' m m' i zero same = refl
sets_same work work' m m' i (suc n) same = ap₂ ◌∷◌ (same i (omega arith) (omega arith)) (sets_same work work' m m' (i + 1) n (λ k h l. same k (omega arith) (omega arith)))

module _ {work work' : List ℕ} {base d : ℕ} (a : Alike work work' base d) where
  pub sets_alike : {count : ℕ} → count ≤ most_locals → (m : ℕ) → m ≤ d + 1 → sets_at work' m 0 count ≡ sets_at work m 0 count
  sets_alike few m h =
      sets_same work work' m m 0 _ (λ k l g. is_set_same work work' m k (a.low (marks_from + k) (omega arith)) (a.low (stamps_from + k) (omega arith)) (λ n j. word_alike a n 5 (omega arith) (omega arith)))

-- frames

-- what the frames around the innermost look at: the operands below it, the words of the frames up to it, and what was set
-- in those around it
pub record Around (work work' : List ℕ) (count base d : ℕ) : Type 0 where
  pub operands : (i : ℕ) → i < base → get_or work' (operands_from + i) 0 ≡ get_or work (operands_from + i) 0
  pub frames : (i : ℕ) → i < frame_span * (d + 2) → get_or work' (frames_from + i) 0 ≡ get_or work (frames_from + i) 0
  pub sets : (m : ℕ) → m ≤ d → sets_at work' m 0 count ≡ sets_at work m 0 count

pub around_alike : {work work' : List ℕ} {count base d : ℕ} → count ≤ most_locals → Alike work work' base d → Around work work' count base d
around_alike few a = record { operands = λ i h. a.low (operands_from + i) (omega arith); frames = a.frames; sets = λ m h. sets_alike a few m (omega arith) }

around_less : {work work' : List ℕ} {count base d base' d' : ℕ} → Around work work' count base d → base' ≤ base → d' ≤ d → Around work work' count base' d'
around_less a h g = record { operands = λ i l. a.operands i (omega arith); frames = λ i l. a.frames i (omega arith); sets = λ m l. a.sets m (omega arith) }

module _ {work work' : List ℕ} {count base d : ℕ} (a : Around work work' count base d) where
  word_around : (m k : ℕ) → m ≤ d + 1 → k < frame_span → frame_word work' m k ≡ frame_word work m k
  word_around m k h g = a.frames (frame_span * m + k) (omega arith)

  frame_around : (m : ℕ) → m ≤ d + 1 → frame_word work m base_word + frame_word work m height_word ≤ base → frame_at work' count m ≡ frame_at work count m
  unfolding frame_at
  frame_around m h low =
      let b = word_around m 2 h (omega arith) in
      let n = word_around m 3 h (omega arith) in
      let os : stack work' (frame_word work m base_word) (frame_word work m height_word) ≡ stack work (frame_word work m base_word) (frame_word work m height_word) = stack_alike work work' (frame_word work m base_word) (frame_word work m height_word) (λ i l. a.operands i (omega arith)) in
      rw (word_around m 0 h (omega arith), word_around m 1 h (omega arith), b, n, word_around m 4 h (omega arith), os, a.sets (m - 1) (omega arith))

pub rests_around : {work work' : List ℕ} {count : ℕ} (d : ℕ) {base : ℕ} → Around work work' count base d → Rests work d base → Rests work' d base
rests_around zero a floor = floor
rests_around {work} {work'} (suc d) {base} a (above r e) =
    let b : frame_word work' (d + 2) base_word ≡ frame_word work (d + 2) base_word = word_around a (d + 2) 2 (omega arith) (omega arith) in
    let h : frame_word work' (d + 2) height_word ≡ frame_word work (d + 2) height_word = word_around a (d + 2) 3 (omega arith) (omega arith) in
    let below : Rests work' d (frame_word work (d + 2) base_word) = rests_around d (around_less a (omega arith) (omega arith)) r in
    let sum : base ≡ frame_word work' (d + 2) base_word + frame_word work' (d + 2) height_word = rw (b, h) e in
    let rest : Rests work' d (frame_word work' (d + 2) base_word) = rw b below in
    above rest sum

pub frames_around : {work work' : List ℕ} {count : ℕ} (d : ℕ) {base : ℕ} → Around work work' count base d → Rests work d base → frames_at work' count d ≡ frames_at work count d
unfolding frames_at
frames_around zero a floor = refl
frames_around {work} {work'} (suc d) {base} a (above r e) =
    ap₂ ◌∷◌ (frame_around a (d + 2) (omega arith) (omega arith)) (frames_around d (around_less a (omega arith) (omega arith)) r)

pub rests_alike : {work work' : List ℕ} (d : ℕ) {base : ℕ} → Alike work work' base d → Rests work d base → Rests work' d base
rests_alike d a r = rests_around {count = 0} d (around_alike (omega arith) a) r

pub frames_alike : {work work' : List ℕ} (d : ℕ) {base count : ℕ} → count ≤ most_locals → Alike work work' base d → Rests work d base → frames_at work' count d ≡ frames_at work count d
frames_alike d few a r = frames_around d (around_alike few a) r

-- the operands in all frames

outer_frame : (is_loop : Bool) (rs : List Val) (os : List Operand) (dead : Bool) (is_set : List Bool) → outer_of (frame_of is_loop rs os dead is_set) ≡ os
outer_frame true rs os dead is_set = refl
outer_frame false rs os dead is_set = refl

outer_length : (work : List ℕ) (count m : ℕ) → length (outer_of (frame_at work count m)) ≡ frame_word work m height_word
unfolding frame_at
outer_length work count m =
    ap length (outer_frame (eqb (frame_word work m loop_word) 1) (results_at (frame_word work m result_word)) (stack work (frame_word work m base_word) (frame_word work m height_word)) (eqb (frame_word work m dead_word) 1) (sets_at work (m - 1) 0 count))
    ∙ stack-length work (frame_word work m base_word) (frame_word work m height_word)

pub below_all : {work : List ℕ} (count d : ℕ) {base : ℕ} → Rests work d base → sum (map (λ f. length (outer_of f)) (frames_at work count d)) ≡ base
unfolding frames_at
below_all count zero floor = refl
below_all {work} count (suc d) {base} (above r e) = omega (arith, e, outer_length work count (d + 2), below_all count d r)

pub frames_length : (work : List ℕ) (count d : ℕ) → length (frames_at work count d) ≡ d
unfolding frames_at
frames_length work count zero = refl
frames_length work count (suc d) = ap suc (frames_length work count d)

pub frames_more : (work : List ℕ) (count d : ℕ) → frames_at work count (d + 1) ≡ frame_at work count (d + 2) ∷ frames_at work count d
unfolding frames_at
frames_more work count d = rw (add-one d) refl

-- which locals are set, as a list

pub both_false : (b : Bool) → b && false ≡ false
both_false true = refl
both_false false = refl

pub sets_length : (work : List ℕ) (m i n : ℕ) → length (sets_at work m i n) ≡ n
unfolding sets_at
sets_length work m i zero = refl
sets_length work m i (suc n) = ap suc (sets_length work m (i + 1) n)

pub sets_there : (work : List ℕ) (m i n k : ℕ) → k < n → get_or (sets_at work m i n) k false ≡ is_set_at work m (i + k)
unfolding sets_at
sets_there work m i zero k h = absurd (omega arith)
sets_there work m i (suc n) zero h = let same : i + 0 ≡ i = omega arith in rw same
sets_there work m i (suc n) (suc k) h = let same : i + 1 + k ≡ i + suc k = omega arith in sets_there work m (i + 1) n k (omega arith) ∙ ap (is_set_at work m) same

-- what is set in the frames around is set here
pub set_further : (work : List ℕ) (n m i : ℕ) → n ≤ m → is_set_at work m i ≡ false → is_set_at work n i ≡ false
unfolding is_set_at
set_further work n m i h e = go (decided (leb k n)) (decided (leb k m))
  where
    k : ℕ
    k = get_or work (marks_from + i) 0

    go : (leb k n ≡ true) ⊎ (leb k n ≡ false) → (leb k m ≡ true) ⊎ (leb k m ≡ false) → ltb 0 k && (leb k n && eqb (frame_word work k stamp_word) (get_or work (stamps_from + i) 0)) ≡ false
    go (inl p) (inl q) = rw p (rw q at e)
    go (inl p) (inr q) = absurd (let l : k ≤ n = leb-true k n p in let g : m < k = leb-false k m q in omega arith)
    go (inr p) q = rw p (both_false (ltb 0 k))
