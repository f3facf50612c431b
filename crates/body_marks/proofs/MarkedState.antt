-- The state with a local set: only which locals are set is another.
use Prim.Native.Nat.{ℕ, ◌+◌, ◌*◌}
use mathlib.Core.Path.{◌≡◌}
use mathlib.Core.Option.{Option}
use mathlib.Core.List.{List}
use native.Mathlib.Omega.{arith}
use Rattle.scope.specs.Bodies.{marked}
use Rattle.body_state.specs.declared.Check.{Check}
use Rattle.body_state.specs.Layout.{operands_from, frames_from, frame_span, stamp_word}
use Rattle.body_state.specs.State.{stack, sets_at, frames_at, state_at, Upright, Stamped}
use Rattle.body_state.proofs.Alike.{Around, stack_alike, rests_around, frames_around}
use Rattle.body_marks.specs.Marks.{Ready, Marked}

module _ {work : List ℕ} {count : ℕ} {st : Check} (u : Upright work count st) where
  pub may_mark : Ready work count (st.depth + 1)
  may_mark = record { room = u.room; few = u.few; some' = omega arith }

  module _ {work' : List ℕ} {marks : Option ℕ} (k : Marked work work' count (st.depth + 1) marks) where
    around : Around work work' count st.base st.depth
    around = record { operands = λ i h. k.beyond (operands_from + i) (omega arith); frames = λ i h. k.beyond (frames_from + i) (omega arith); sets = λ m h. k.around m (omega arith) }

    pub marked-state : state_at work' count st ≡ record { frames = frames_at work count st.depth; operands = stack work st.base st.height; dead = st.dead; is_set = marked marks (sets_at work (st.depth + 1) 0 count) }
    unfolding state_at
    marked-state =
        let frames = frames_around st.depth around u.rests in
        let operands = stack_alike work work' st.base st.height (λ i h. k.beyond (operands_from + i) (omega arith)) in
        λ i. record { frames = frames i; operands = operands i; dead = st.dead; is_set = k.here i }

    pub marked_upright : Upright work' count st
    marked_upright = record { room = omega (arith, u.room, k.size); few = u.few; deep = u.deep; low = u.low; rests = rests_around st.depth around u.rests }

    pub marked_stamped : (at : ℕ) → Stamped work count st.depth at → Stamped work' count st.depth at
    marked_stamped at s =
        record {
          locals = k.early at (s.frames (st.depth + 1) (omega arith)) s.locals;
          frames = λ m h. let old = s.frames m h in omega (arith, k.beyond (frames_from + (frame_span * m + stamp_word)) (omega arith));
        }
