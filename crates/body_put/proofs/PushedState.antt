-- The state with operands put on top of those that are left of a frame's: the frames around it, what is set and the stamps
-- say what they said.
use Prim.Native.Nat.{ℕ, ◌+◌, ◌*◌, ◌≤◌, ◌<◌}
use mathlib.Core.Path.{◌≡◌}
use mathlib.Core.Bool.{Bool}
use mathlib.Core.List.{List, ◌++◌}
use native.Mathlib.Omega.{arith}
use lib.ListN.{get_or, length}
use Rattle.scope.specs.Sizes.{most_locals, most_operands, most_frames}
use Rattle.scope.specs.Bodies.{Operand}
use Rattle.body_state.specs.Layout.{stamps_from, frames_from, frame_span, stamp_word, used_size}
use Rattle.body_state.specs.State.{stack, sets_at, frames_at, state_at, Rests, Upright, Stamped}
use Rattle.body_state.proofs.Alike.{Alike, alike_less, sets_alike, rests_alike, frames_alike}
use Rattle.body_put.specs.Putting.{Pushed}

module _ {work work' : List ℕ} {base height h : ℕ} {os : List Operand} (p : Pushed work work' base height h os) where
  pub pushed_alike : (d : ℕ) → Alike work work' (base + height) d
  pushed_alike d = record { low = p.below; frames = λ i l. p.beyond (frames_from + i) (omega arith) }

  pub pushed_types : (i : ℕ) → i < most_locals → get_or work' i 0 ≡ get_or work i 0
  pushed_types i l = p.below i (omega arith)

  -- no stamp is new
  pub pushed_stamped : {count depth d at : ℕ} → count ≤ most_locals → d ≤ depth → Stamped work count depth at → Stamped work' count d at
  pushed_stamped few l s =
      record {
        locals = λ i j. rw (p.below (stamps_from + i) (omega arith)) (s.locals i j);
        frames = λ m j. rw (p.beyond (frames_from + (frame_span * m + stamp_word)) (omega arith)) (s.frames m (omega arith));
      }

  module _ {count d : ℕ} (few : count ≤ most_locals) (rests : Rests work d base) where
    below : Alike work work' base d
    below = alike_less (pushed_alike d) (omega arith) (omega arith)

    pub pushed_state : (dead : Bool) → state_at work' count (record { depth = d; base = base; height = h; dead = dead }) ≡ record { frames = frames_at work count d; operands = os ++ stack work base height; dead = dead; is_set = sets_at work (d + 1) 0 count }
    unfolding state_at
    pushed_state dead =
        let frames = frames_alike d few below rests in
        let sets = sets_alike below few (d + 1) (omega arith) in
        let operands = p.top in
        λ i. record { frames = frames i; operands = operands i; dead = dead; is_set = sets i }

    pub pushed_upright : used_size ≤ length work → d < most_frames → base + h ≤ most_operands → (dead : Bool) → Upright work' count (record { depth = d; base = base; height = h; dead = dead })
    pushed_upright room deep low dead =
        record { room = omega (arith, p.size); few = few; deep = deep; low = low; rests = rests_alike d below rests }
