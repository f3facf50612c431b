-- Each way out of carrying out a move that makes no object: what the words then say is what the move means, and they are as
-- orderly as before.
use Prim.Native.Nat.{ℕ, ◌+◌, ◌-◌, ◌≤◌, ◌<◌}
use mathlib.Core.Path.{◌≡◌, refl, sym, ap, ap₂, subst, ◌∙◌}
use mathlib.Core.Bool.{Bool, true, false}
use mathlib.Core.Option.{Option}
use mathlib.Core.List.{List, ◌∷◌}
use native.Mathlib.Omega.{arith}
use lib.ListN.{length, set, drop, length-drop}
use lib.Dec.{leb}
use borrow.Author.Tests.{leb-true, leb-false}
use Rattle.scope.specs.Sizes.{most_operands}
use Rattle.scope.specs.Machine.{Value, Object, Block, Program, Store, goes, stuck, with_operands, with_heap, with_locals, with_control, with_field}
use Rattle.scope.specs.Reading.{given}
use Rattle.scope.proofs.Impossible.{impossible}
use Rattle.run_value.specs.declared.Value.{Value as Carrier}
use Rattle.run_value.specs.Carried.{decoded}
use Rattle.run_objects.specs.Objects.{object_at, store_at, FieldSet}
use Rattle.run_objects.proofs.Packs.{store_there, store_found}
use Rattle.run_stack.specs.Pile.{pile, Room, Pushed, LocalRoom, LocalSet}
use Rattle.run_stack.proofs.Laws.{drop-pile}
use Rattle.run_ends.specs.Matching.{code_at}
use Rattle.run_state.specs.declared.Stage.{Stage}
use Rattle.run_state.specs.declared.Move.{Move}
use Rattle.run_state.specs.declared.Move
use Rattle.run_state.specs.declared.Stepped.{Stepped}
use Rattle.run_state.specs.declared.Stepped
use Rattle.run_state.specs.Machines.{Words, words, machine_at, at_height}
use Rattle.run_state.specs.Moved.{moved, Taking, SettingLocal, SettingField, Ready, is_stuck, too_high, outcome_at, StepIs}
use Rattle.run_step.specs.Carried.{Movable, Carried}
use Rattle.run_step.proofs.Keeping.{step_astray, step_goes, framed_height, high, values, frames, less_orderly, all_high, blocks-kept, pushed_valued}

module _ {s ends : List ℕ} {count : ℕ} {w : Words} {st : Stage} {it : Move} (may : Movable s ends count w st it) where
  pub carry_astray : {codes : List ℕ} {results : ℕ} → it ≡ Move.TheVariants.Astray → {w' : Words} → Carried s codes ends count w w' st results it Stepped.TheVariants.Astray
  unfolding moved
  carry_astray e {w'} = record { is = λ p q. rw e (step_astray w' is_stuck) }

  pub carry_traps :
      {codes : List ℕ} {results : ℕ} {number : ℕ} → it ≡ Move.TheVariants.Traps number → {o' c' l' p' : List ℕ} → o' ≡ w.objects → c' ≡ w.cells
      → l' ≡ w.locals → p' ≡ w.operands → Carried s codes ends count w (words o' c' l' p' w.blocks) st results it (Stepped.TheVariants.Traps number)
  unfolding moved outcome_at
  carry_traps e a b c d =
      record {
        is = λ p q.
            rw e
            (record {
              is = λ n. refl;
              astray = λ f. impossible cc;
              orderly = λ later f. impossible cc;
              valued = λ later f. impossible cc;
              over = λ later f. impossible cc;
              same = λ n f. λ i. words (a i) (b i) (c i) (d i) w.blocks;
            });
      }

  module _ {n : ℕ} (e : it ≡ Move.TheVariants.Leaves n) where
    pub leaves_low : n ≤ st.height
    unfolding Ready
    leaves_low = let t : Taking (machine_at s count w st) n = subst (Ready (machine_at s count w st)) e may.ready in omega (arith, t.low, high may)

    leaves :
        (codes : List ℕ) (p : Program)
        → StepIs s ends count w w (machine_at s count w st) (moved p codes (machine_at s count w st) (Move.TheVariants.Leaves n)) (Stepped.TheVariants.Goes (at_height st (st.height - n)))
    unfolding moved machine_at
    leaves codes p =
        step_goes w (at_height st (st.height - n))
        (ap (λ (vs : List Value). goes (with_operands (machine_at s count w st) vs)) (sym (drop-pile w.operands st.base st.height n leaves_low)))
        (less_orderly may (omega arith) (values may).heap (values may).local_room (values may).local_canon)

    pub carry_leaves :
        {codes : List ℕ} {results : ℕ} {later : Stage} → later ≡ at_height st (st.height - n) → {o' c' l' p' : List ℕ} → o' ≡ w.objects → c' ≡ w.cells
        → l' ≡ w.locals → p' ≡ w.operands → Carried s codes ends count w (words o' c' l' p' w.blocks) st results it (Stepped.TheVariants.Goes later)
    carry_leaves {codes} f a b c d = record { is = λ p q. rw (e, f, a, b, c, d) (leaves codes p) }

  module _ {n : ℕ} {v : Carrier} (e : it ≡ Move.TheVariants.Gives n v) where
    giving : Taking (machine_at s count w st) n
    unfolding Ready
    giving = subst (Ready (machine_at s count w st)) e may.ready

    pub gives-low : n ≤ st.height
    gives-low = omega (arith, giving.low, high may)

    module _ {full : Bool} (is : full ≡ leb most_operands (st.base + (st.height - n))) where
      pub carry_gives_full : {codes : List ℕ} {results : ℕ} → full ≡ true → {w' : Words} → Carried s codes ends count w w' st results it Stepped.TheVariants.Astray
      unfolding moved
      carry_gives_full f {w'} =
          let many : most_operands ≤ st.base + (st.height - n) = leb-true most_operands (st.base + (st.height - n)) (sym is ∙ f) in
          let all = all_high may (decoded v ∷ drop n (machine_at s count w st).operands) in
          let left : length (drop n (machine_at s count w st).operands) ≡ st.height - n = length-drop n (machine_at s count w st).operands ∙ ap (λ (h : ℕ). h - n) (high may) in
          record { is = λ p q. rw e (step_astray w' (too_high (omega (arith, all, left, many)))) }

      gives_room : full ≡ false → Room w.operands st.base (st.height - n) 1
      gives_room f = let h : st.base + (st.height - n) < most_operands = leb-false most_operands (st.base + (st.height - n)) (sym is ∙ f) in record { room = (values may).room; few = omega arith }

      module _ (f : full ≡ false) {p' : List ℕ} (pushed : Pushed w.operands p' st.base (st.height - n) v) where
        gives :
            (codes : List ℕ) (p : Program)
            → StepIs s ends count w (words w.objects w.cells w.locals p' w.blocks) (machine_at s count w st) (moved p codes (machine_at s count w st) (Move.TheVariants.Gives n v)) (Stepped.TheVariants.Goes (at_height st (st.height - n + 1)))
        unfolding moved machine_at
        gives codes p =
            step_goes (words w.objects w.cells w.locals p' w.blocks) (at_height st (st.height - n + 1))
            (ap₂ (λ (vs : List Value) (bs : List Block). goes (with_control (machine_at s count w st) vs bs (code_at s st.place)))
            (pushed.top ∙ ap (λ (vs : List Value). decoded v ∷ vs) (sym (drop-pile w.operands st.base st.height n gives-low)))
            (blocks-kept may pushed))
            (record { valued = pushed_valued may pushed (values may).heap (omega arith) (leb-false most_operands (st.base + (st.height - n)) (sym is ∙ f)); framed = framed_height (st.height - n + 1) (frames may) })

        pub carry_gives :
            {codes : List ℕ} {results : ℕ} {later : Stage} → later ≡ at_height st (st.height - n + 1) → {o' c' l' : List ℕ} → o' ≡ w.objects → c' ≡ w.cells
            → l' ≡ w.locals → Carried s codes ends count w (words o' c' l' p' w.blocks) st results it (Stepped.TheVariants.Goes later)
        carry_gives {codes} g a c d = record { is = λ p q. rw (e, g, a, c, d) (gives codes p) }

  module _ {n x : ℕ} {v : Carrier} (e : it ≡ Move.TheVariants.SetsLocal n x v) where
    setting_local : SettingLocal (machine_at s count w st) n x
    unfolding Ready
    setting_local = subst (Ready (machine_at s count w st)) e may.ready

    pub sets_local_low : n ≤ st.height
    sets_local_low = omega (arith, setting_local.low, high may)

    pub local_room_lem : LocalRoom w.locals count
    local_room_lem = (values may).local_room

    module _ {l' : List ℕ} (put : LocalSet w.locals l' count x v) where
      sets_local :
          (codes : List ℕ) (p : Program)
          → StepIs s ends count w (words w.objects w.cells l' w.operands w.blocks) (machine_at s count w st) (moved p codes (machine_at s count w st) (Move.TheVariants.SetsLocal n x v)) (Stepped.TheVariants.Goes (at_height st (st.height - n)))
      unfolding moved machine_at
      sets_local codes p =
          step_goes (words w.objects w.cells l' w.operands w.blocks) (at_height st (st.height - n))
          (ap₂ (λ (ls : List (Option Value)) (vs : List Value). goes (with_operands (with_locals (machine_at s count w st) ls) vs))
          put.is
          (sym (drop-pile w.operands st.base st.height n sets_local_low)))
          (less_orderly may (omega arith) (values may).heap
          (record { room = omega (arith, (values may).local_room.room, put.size); few = (values may).local_room.few })
          (put.canon (values may).local_canon))

      pub carry_sets_local :
          {codes : List ℕ} {results : ℕ} {later : Stage} → later ≡ at_height st (st.height - n) → {o' c' p' : List ℕ} → o' ≡ w.objects → c' ≡ w.cells
          → p' ≡ w.operands → Carried s codes ends count w (words o' c' l' p' w.blocks) st results it (Stepped.TheVariants.Goes later)
      carry_sets_local {codes} g a c d = record { is = λ p q. rw (e, g, a, c, d) (sets_local codes p) }

  module _ {n o i : ℕ} {v : Carrier} (e : it ≡ Move.TheVariants.SetsField n o i v) where
    setting_field : SettingField (machine_at s count w st) n o i
    unfolding Ready
    setting_field = subst (Ready (machine_at s count w st)) e may.ready

    pub sets_field_low : n ≤ st.height
    sets_field_low = omega (arith, setting_field.low, high may)

    module _ {c' : List ℕ} (put : FieldSet w.objects w.cells c' o i v) where
      field_there : (o < st.objects) × (setting_field.it ≡ object_at w.objects w.cells o)
      unfolding machine_at
      field_there = store_found w.objects w.cells st.objects o setting_field.there

      field_inside : i < length (object_at w.objects w.cells o).fields
      field_inside = let same : setting_field.it ≡ object_at w.objects w.cells o = field_there.1 in rw (← same) setting_field.field

      sets_field :
          (codes : List ℕ) (p : Program)
          → StepIs s ends count w (words w.objects c' w.locals w.operands w.blocks) (machine_at s count w st) (moved p codes (machine_at s count w st) (Move.TheVariants.SetsField n o i v)) (Stepped.TheVariants.Goes (at_height st (st.height - n)))
      unfolding moved machine_at
      sets_field codes p =
          step_goes (words w.objects c' w.locals w.operands w.blocks) (at_height st (st.height - n))
          (ap₂ (λ (os : Store) (vs : List Value). goes (with_operands (with_heap (machine_at s count w st) os) vs))
          (put.store st.objects st.cells (values may).heap field_there.0 field_inside)
          (sym (drop-pile w.operands st.base st.height n sets_field_low))
          ∙ sym (ap (λ (found : Option Object). given found stuck (λ it'. goes (with_operands (with_heap (machine_at s count w st) (set (store_at w.objects w.cells st.objects) o (with_field it' i (decoded v)))) (drop n (pile w.operands st.base st.height))))) (store_there w.objects w.cells st.objects o field_there.0)))
          (less_orderly may (omega arith)
          (put.kept st.objects st.cells (values may).heap field_there.0 field_inside)
          (values may).local_room
          (values may).local_canon)

      pub carry_sets_field :
          {codes : List ℕ} {results : ℕ} {later : Stage} → later ≡ at_height st (st.height - n) → {o' l' p' : List ℕ} → o' ≡ w.objects → l' ≡ w.locals
          → p' ≡ w.operands → Carried s codes ends count w (words o' c' l' p' w.blocks) st results it (Stepped.TheVariants.Goes later)
      carry_sets_field {codes} g a c d = record { is = λ p q. rw (e, g, a, c, d) (sets_field codes p) }

-- what the calls require, by the slices that they are lent

module _ {s ends : List ℕ} {count : ℕ} {o c l p b : List ℕ} {st : Stage} {it : Move} (may : Movable s ends count (words o c l p b) st it) where
  pub push_room :
      {n : ℕ} {v : Carrier} → it ≡ Move.TheVariants.Gives n v → {full : Bool} → full ≡ leb most_operands (st.base + (st.height - n)) → full ≡ false
      → Room p st.base (st.height - n) 1
  push_room e is f = gives_room may e is f

pub ruleset carry_exits = (carry_astray, carry_traps, leaves_low, carry_leaves, gives-low, carry_gives_full, push_room, carry_gives, sets_local_low, local_room_lem, carry_sets_local, sets_field_low, carry_sets_field)
