-- Three words of a frame, one store after the other.
use Prim.Native.Nat.{ℕ, ◌+◌, ◌*◌, ◌%◌, ◌^◌, ◌<◌}
use mathlib.Core.Path.{◌≡◌, ◌∙◌}
use mathlib.Core.Bool.{Bool}
use mathlib.Core.List.{List}
use native.Mathlib.Omega.{arith}
use lib.ListN.{set}
use Rattle.scope.specs.Memory.{flag}
use Rattle.type_table.proofs.CodesBack.{flag_small}
use Rattle.lent_u16.proofs.Stores.{Stored, stored}
use Rattle.body_state.specs.Layout.{frames_from, frame_span, loop_word, result_word, base_word, height_word, dead_word, stamp_word, word_bound}
use Rattle.body_frame_words.specs.FrameWords.{FrameRoom, ThreePut}

module _ {work work₁ work₂ work₃ : List ℕ} {m : ℕ} (r : FrameRoom work m) {j k l : ℕ} (a : j < k) (b : k < l) (c : l < frame_span) {x y z : ℕ} where
  three : Stored work work₁ (frames_from + frame_span * m + j) x → Stored work₁ work₂ (frames_from + frame_span * m + k) y → Stored work₂ work₃ (frames_from + frame_span * m + l) z → ThreePut work work₃ m j k l x y z
  three p q s =
      let place : (i : ℕ) → frames_from + (frame_span * m + i) ≡ frames_from + frame_span * m + i = λ i. omega arith in
      record {
        first = rw (place j) (s.others (frames_from + frame_span * m + j) (λ e. omega arith) ∙ q.others (frames_from + frame_span * m + j) (λ e. omega arith) ∙ p.here);
        second = rw (place k) (s.others (frames_from + frame_span * m + k) (λ e. omega arith) ∙ q.here);
        third = rw (place l) s.here;
        others = λ i f g h. s.others i (λ e. h (omega arith)) ∙ q.others i (λ e. g (omega arith)) ∙ p.others i (λ e. f (omega arith));
        size = s.size ∙ q.size ∙ p.size;
      }

module _ {work : List ℕ} {m : ℕ} (r : FrameRoom work m) (b : Bool) {kind : ℕ} (e : kind ≡ flag b) {work₁ work₂ work₃ : List ℕ} where
  pub own_put : work₁ ≡ set work (frames_from + frame_span * m + loop_word) (kind % word_bound) → {result : ℕ} → work₂ ≡ set work₁ (frames_from + frame_span * m + result_word) (result % word_bound) → {stamp : ℕ} → work₃ ≡ set work₂ (frames_from + frame_span * m + stamp_word) (stamp % word_bound) → result < 2 ^ 32 → stamp < 2 ^ 32 → ThreePut work work₃ m 0 1 5 (flag b) result stamp
  own_put p {result} q {stamp} s g h =
      let first : Stored work work₁ (frames_from + frame_span * m + loop_word) (flag b) = stored word_bound (rw e at p) (omega (arith, flag_small b)) (omega (arith, r.room)) in
      let second : Stored work₁ work₂ (frames_from + frame_span * m + result_word) result = stored word_bound q (omega arith) (omega (arith, r.room, first.size)) in
      let third : Stored work₂ work₃ (frames_from + frame_span * m + stamp_word) stamp = stored word_bound s (omega arith) (omega (arith, r.room, first.size, second.size)) in
      three r (omega arith) (omega arith) (omega arith) first second third

  pub around_put : {base : ℕ} → work₁ ≡ set work (frames_from + frame_span * m + base_word) (base % word_bound) → {height : ℕ} → work₂ ≡ set work₁ (frames_from + frame_span * m + height_word) (height % word_bound) → work₃ ≡ set work₂ (frames_from + frame_span * m + dead_word) (kind % word_bound) → base < 2 ^ 32 → height < 2 ^ 32 → ThreePut work work₃ m 2 3 4 base height (flag b)
  around_put {base} p {height} q s g h =
      let first : Stored work work₁ (frames_from + frame_span * m + base_word) base = stored word_bound p (omega arith) (omega (arith, r.room)) in
      let second : Stored work₁ work₂ (frames_from + frame_span * m + height_word) height = stored word_bound q (omega arith) (omega (arith, r.room, first.size)) in
      let third : Stored work₂ work₃ (frames_from + frame_span * m + dead_word) (flag b) = stored word_bound (rw e at s) (omega (arith, flag_small b)) (omega (arith, r.room, first.size, second.size)) in
      three r (omega arith) (omega arith) (omega arith) first second third

pub ruleset write_exits = (own_put, around_put)
