-- What every move that is carried out relies on: how an answer is told, and that fewer operands, or one more, over a heap and
-- locals that are orderly are as orderly as before.
use Prim.Native.Nat.{ℕ, ◌+◌, ◌*◌, ◌≤◌, ◌<◌}
use mathlib.Core.Path.{◌≡◌, refl, sym, ap, ◌∙◌}
use mathlib.Core.List.{List, ◌++◌, map}
use native.Mathlib.Omega.{arith}
use lib.ListN.{length, length-append}
use Rattle.scope.specs.Layout.{value_span}
use Rattle.scope.specs.Sizes.{most_operands}
use Rattle.scope.specs.Machine.{Value, Machine, Outcome, goes}
use Rattle.scope.specs.Lists.{joined}
use Rattle.scope.specs.Memory.{below_of}
use Rattle.scope.proofs.Impossible.{impossible}
use Rattle.run_values.specs.Values.{AllHeldCanon}
use Rattle.run_value.specs.declared.Value.{Value as Carrier}
use Rattle.run_values.proofs.Laws.{all_less}
use Rattle.run_objects.specs.Objects.{Kept}
use Rattle.run_stack.specs.Pile.{Pushed, LocalRoom}
use Rattle.run_stack.proofs.Laws.{pile-length}
use Rattle.run_state.specs.declared.Stage.{Stage}
use Rattle.run_state.specs.declared.Move.{Move}
use Rattle.run_state.specs.declared.Stepped.{Stepped}
use Rattle.run_state.specs.declared.Stepped
use Rattle.run_state.specs.Machines.{Words, words, lower, blocks_at, machine_at, at_height, Valued, Framed, Orderly}
use Rattle.run_state.specs.Moved.{Astray, outcome_at, StepIs}
use Rattle.run_state.proofs.Open.{operands_same, belows}
use Rattle.run_step.specs.Carried.{Movable}

-- the answers

pub goes_stage : {st later : Stage} → Stepped.TheVariants.Goes st ≡ Stepped.TheVariants.Goes later → st ≡ later
goes_stage e = cc

module _ {s ends : List ℕ} {count : ℕ} {w : Words} {m : Machine} where
  pub step_astray : {want : Outcome} (w' : Words) → Astray m want → StepIs s ends count w w' m want Stepped.TheVariants.Astray
  step_astray w' a =
      record {
        is = λ n. absurd (n refl);
        astray = λ e. a;
        orderly = λ st e. impossible cc;
        valued = λ st e. impossible cc;
        over = λ st e. impossible cc;
        same = λ n e. impossible cc;
      }

  pub step_goes :
      {want : Outcome} (w' : Words) (later : Stage) → goes (machine_at s count w' later) ≡ want → Orderly s ends count w' later
      → StepIs s ends count w w' m want (Stepped.TheVariants.Goes later)
  unfolding outcome_at
  step_goes w' later is o =
      record {
        is = λ n. is;
        astray = λ e. impossible cc;
        orderly = λ st e. let same : later ≡ st = cc in rw (← same) o;
        valued = λ st e. impossible cc;
        over = λ st e. impossible cc;
        same = λ n e. impossible cc;
      }

-- what a move leaves as it was

-- what is orderly about open blocks does not hang on the height
pub framed_height : {s ends blocks : List ℕ} {st : Stage} (left : ℕ) → Framed s ends blocks st → Framed s ends blocks (at_height st left)
framed_height left f =
    record { short = f.short; room = f.room; deep = f.deep; base = f.base; charted = f.charted; nested = f.nested }

module _ {s ends : List ℕ} {count : ℕ} {w : Words} {st : Stage} {it : Move} (may : Movable s ends count w st it) where
  pub high : length (machine_at s count w st).operands ≡ st.height
  unfolding machine_at
  high = pile-length w.operands st.base st.height

  pub values : Valued count w st
  values = may.orderly.valued

  pub frames : Framed s ends w.blocks st
  frames = may.orderly.framed

  -- fewer operands are as orderly, over a heap and locals that are
  pub less_orderly :
      {left : ℕ} {c' l' : List ℕ} → left ≤ st.height → Kept w.objects c' st.objects st.cells → LocalRoom l' count → AllHeldCanon l' count
      → Orderly s ends count (words w.objects c' l' w.operands w.blocks) (at_height st left)
  less_orderly {left} l heap room canon =
      record {
        valued =
            record {
              heap = heap;
              local_room = room;
              local_canon = canon;
              room = values.room;
              canon = all_less values.canon (omega (arith, l));
              high = omega (arith, values.high, l);
            };
        framed = framed_height left frames;
      }

  -- so many operands lie in all frames where these lie in the innermost
  pub all_high : (vs : List Value) → length (vs ++ joined (map below_of (machine_at s count w st).blocks)) ≡ length vs + st.base
  unfolding machine_at
  all_high vs =
      length-append vs (joined (map below_of (blocks_at s w.blocks w.operands st.depth)))
      ∙ ap (λ (n : ℕ). length vs + n) (ap length (belows w.operands st.depth frames.nested) ∙ pile-length w.operands 0 (lower w.blocks st.depth) ∙ sym frames.base)

  -- operands that were pushed leave the open blocks as they were
  module _ {p' : List ℕ} {left : ℕ} {v : Carrier} (pushed : Pushed w.operands p' st.base left v) where
    pub blocks-kept : blocks_at s w.blocks p' st.depth ≡ blocks_at s w.blocks w.operands st.depth
    blocks-kept =
        operands_same w.operands p' st.depth frames.nested (λ i h.
        let low : i < value_span * st.base = rw frames.base h in
        pushed.below i (omega arith))

    pub pushed_valued :
        {o' c' : List ℕ} {n total : ℕ} → Kept o' c' n total → left ≤ st.height → st.base + left < most_operands
        → Valued count (words o' c' w.locals p' w.blocks) (record { place = st.place; objects = n; cells = total; base = st.base; height = left + 1; depth = st.depth })
    pushed_valued kept l h =
        record {
          heap = kept;
          local_room = values.local_room;
          local_canon = values.local_canon;
          room = omega (arith, values.room, pushed.size);
          canon = pushed.canon (all_less values.canon (omega (arith, l)));
          high = omega (arith, h);
        }
