-- A step that opens, closes or leaves a block: the heap and the locals stay as they are, so what it does to the operands, the
-- open blocks and the code is the whole step.
use Prim.Native.Nat.{ℕ}
use mathlib.Core.Path.{◌≡◌, refl, ◌∙◌}
use mathlib.Core.List.{List}
use Rattle.scope.specs.Machine.{Outcome, goes, ends}
use Rattle.run_values.specs.Values.{held_from}
use Rattle.run_objects.specs.Objects.{store_at}
use Rattle.run_stack.specs.Pile.{pile}
use Rattle.run_ends.specs.Matching.{code_at}
use Rattle.run_state.specs.declared.Stage.{Stage}
use Rattle.run_state.specs.declared.Stepped.{Stepped}
use Rattle.run_state.specs.declared.Stepped
use Rattle.run_state.specs.Machines.{Words, words, blocks_at, machine_at, at_place, Valued}
use Rattle.run_state.specs.Moved.{Astray, is_stuck, too_high, too_deep, dangling, outcome_at, StepIs}
use Rattle.run_state.specs.Controlled.{Controls, Piled, controlled, SameHeap, ControlIs}

-- where a machine is astray does not hang on its place
pub astray_here :
    (s : List ℕ) (count : ℕ) (w : Words) (st : Stage) (next : ℕ) {want : Outcome} → Astray (machine_at s count w (at_place st next)) want
    → Astray (machine_at s count w st) want
unfolding machine_at
astray_here s count w st next is_stuck = is_stuck
astray_here s count w st next (too_high h) = too_high h
astray_here s count w st next (too_deep h) = too_deep h
astray_here s count w st next (dangling i o e h) = dangling i o e h

-- the operands, the open blocks and the code that a machine is made of
pub machine_controls : (s : List ℕ) (count : ℕ) (w : Words) (st : Stage) → Controls s w.operands w.blocks st (machine_at s count w st)
unfolding machine_at
machine_controls s count w st = record { values = refl; opened = refl; code = refl }

now_valued :
    {count : ℕ} {w : Words} {st later : Stage} {p' : List ℕ} (b' : List ℕ) → Valued count w st → SameHeap st later → Piled p' later
    → Valued count (words w.objects w.cells w.locals p' b') later
now_valued b' values same piled =
    record {
      heap = rw (same.objects, same.cells) values.heap;
      local_room = values.local_room;
      local_canon = values.local_canon;
      room = piled.room;
      canon = piled.canon;
      high = piled.high;
    }

module _ (s ends' : List ℕ) (count : ℕ) (w : Words) (st : Stage) (next : ℕ) (p' b' : List ℕ) {want : Outcome} where
  told :
      (r : Stepped) → ControlIs s ends' p' b' st (machine_at s count w (at_place st next)) want r
      → outcome_at s count (words w.objects w.cells w.locals p' b') r ≡ controlled s p' b' (machine_at s count w (at_place st next)) r
  unfolding outcome_at controlled machine_at
  told (Stepped.TheVariants.Goes later) a =
      let same = (a.heap later refl).objects in
      λ i. goes (record { heap = store_at w.objects w.cells (same i); locals = held_from w.locals 0 count; operands = pile p' later.base later.height; blocks = blocks_at s b' p' later.depth; code = code_at s later.place })
  told (Stepped.TheVariants.Ends later) a =
      let same = (a.last_heap later refl).objects in
      λ i. ends (record { heap = store_at w.objects w.cells (same i); locals = held_from w.locals 0 count; operands = pile p' later.base later.height; blocks = blocks_at s b' p' later.depth; code = code_at s later.place })
  told (Stepped.TheVariants.Traps number) a = refl
  told Stepped.TheVariants.Astray a = refl

  pub controlled-step :
      Valued count w st → (r : Stepped) → ControlIs s ends' p' b' st (machine_at s count w (at_place st next)) want r
      → StepIs s ends' count w (words w.objects w.cells w.locals p' b') (machine_at s count w st) want r
  controlled-step values r a =
      record {
        is = λ n. told r a ∙ a.is n;
        astray = λ e. astray_here s count w st next (a.astray e);
        orderly = λ later e. record { valued = now_valued b' values (a.heap later e) (a.piled later e); framed = a.framed later e };
        valued = λ later e. now_valued b' values (a.last_heap later e) (a.results later e);
        over = λ later e. a.over later e;
        same = λ number e. absurd (a.traps_not number e);
      }
