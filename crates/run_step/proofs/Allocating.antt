-- Each way out of carrying out a move that makes an object: it has room, so it stands in the heap after the others, and its
-- reference lies on the operands that are left.
use Prim.Native.Nat.{ℕ, ◌+◌, ◌-◌, ◌≤◌, ◌<◌}
use mathlib.Core.Path.{◌≡◌, refl, sym, ap, ap₂, subst, ◌∙◌}
use mathlib.Core.Bool.{true}
use mathlib.Core.List.{List, ◌∷◌, reverse}
use native.Mathlib.Omega.{arith}
use lib.ListN.{length, take, drop}
use lib.Dec.{ltb, leb}
use borrow.Author.Tests.{ltb-true, leb-true}
use Rattle.scope.specs.Sizes.{most_operands, most_objects, most_cells}
use Rattle.scope.specs.Machine.{Value, object, Program, goes, cells_of, has_room}
use Rattle.scope.proofs.Truths.{from_both}
use Rattle.scope.proofs.Impossible.{contradiction}
use Rattle.run_values.specs.Values.{values_from, held_from, AllCanon}
use Rattle.type_table.specs.View.{link_at}
use Rattle.run_values.proofs.Laws.{all_less}
use Rattle.run_objects.specs.Objects.{store_at}
use Rattle.run_objects.proofs.Packs.{store_length, packed_cells}
use Rattle.run_heap.proofs.Made.{store_made, kept_more}
use Rattle.run_stack.specs.Pile.{pile}
use Rattle.run_stack.proofs.Laws.{pile-length, drop-pile, values-above}
use Rattle.run_ends.specs.Matching.{code_at}
use Rattle.run_state.specs.declared.Stage.{Stage}
use Rattle.run_state.specs.declared.Move.{Move}
use Rattle.run_state.specs.declared.Move
use Rattle.run_state.specs.declared.Stepped.{Stepped}
use Rattle.run_state.specs.declared.Stepped
use Rattle.run_state.specs.Machines.{Words, words, machine_at, Orderly}
use Rattle.run_state.specs.Moved.{with_object, defaults_at, moved, Making, Ready, too_high, StepIs}
use Rattle.run_make.specs.Made.{made_stage, Makable, MakableGiven, Made, MadeIs}
use Rattle.run_make.proofs.Objects.{not_astray}
use Rattle.run_step.specs.Carried.{Movable, Carried}
use Rattle.run_step.proofs.Keeping.{goes_stage, step_astray, step_goes, high, values, frames, all_high, blocks-kept, pushed_valued}

module _ {s ends : List ℕ} {count : ℕ} {w : Words} {st : Stage} {it : Move} (may : Movable s ends count w st it) where
  heap-length : length (machine_at s count w st).heap ≡ st.objects
  unfolding machine_at
  heap-length = store_length w.objects w.cells st.objects

  room_objects : (k : ℕ) → has_room (machine_at s count w st).heap k ≡ true → st.objects < most_objects
  room_objects k e =
      let (few, most) = from_both (ltb (length (machine_at s count w st).heap) most_objects) (leb (cells_of (machine_at s count w st).heap + k) most_cells) e in
      omega (arith, ltb-true (length (machine_at s count w st).heap) most_objects few, heap-length)

  room_cells : (k : ℕ) → has_room (machine_at s count w st).heap k ≡ true → st.cells + k ≤ most_cells
  unfolding machine_at
  room_cells k e =
      let (few, most) = from_both (ltb (length (store_at w.objects w.cells st.objects)) most_objects) (leb (cells_of (store_at w.objects w.cells st.objects) + k) most_cells) e in
      omega (arith, leb-true (cells_of (store_at w.objects w.cells st.objects) + k) most_cells most, packed_cells (values may).heap.packed w.cells)

  makable : {n : ℕ} (left k : ℕ) → left ≤ st.height → Making (machine_at s count w st) n k → Makable w.objects w.cells w.operands st left k
  makable left k l may_make =
      record {
        kept = (values may).heap;
        room = (values may).room;
        few = room_objects k may_make.room;
        most = room_cells k may_make.room;
        high = omega (arith, (values may).high, l);
      }

  module _ {left x d k : ℕ} (fields : List Value) (l : left ≤ st.height) (may_make : Makable w.objects w.cells w.operands st left k) where
    module _ {o' c' p' : List ℕ} (made : Made w.objects o' w.cells c' w.operands p' st left x d k fields) (canon : AllCanon c' (st.cells + k)) where
      made_machine : goes (machine_at s count (words o' c' w.locals p' w.blocks) (made_stage st left k)) ≡ goes (with_object (machine_at s count w st) x (link_at d) fields (pile w.operands st.base left))
      unfolding machine_at
      made_machine =
          let reference : object st.objects ≡ object (length (store_at w.objects w.cells st.objects)) = ap object (sym heap-length) in
          let heap = store_made may_make.kept.packed made.row made.filled in
          let operands = made.pushed.top ∙ ap (λ (v : Value). v ∷ pile w.operands st.base left) reference in
          let blocks = blocks-kept may made.pushed in
          λ i. goes (record { heap = heap i; locals = held_from w.locals 0 count; operands = operands i; blocks = blocks i; code = code_at s st.place })

      made_orderly : Orderly s ends count (words o' c' w.locals p' w.blocks) (made_stage st left k)
      made_orderly =
          record {
            valued = pushed_valued may made.pushed (kept_more may_make.kept made.row may_make.few may_make.most made.filled.size canon) l made.low;
            framed = record { short = (frames may).short; room = (frames may).room; deep = (frames may).deep; base = (frames may).base; charted = (frames may).charted; nested = (frames may).nested };
          }

    made_step :
        {o' c' p' : List ℕ} (r : Stepped) → MadeIs w.objects o' w.cells c' w.operands p' st left x d k fields r
        → StepIs s ends count w (words o' c' w.locals p' w.blocks) (machine_at s count w st) (goes (with_object (machine_at s count w st) x (link_at d) fields (pile w.operands st.base left))) r
    made_step Stepped.TheVariants.Astray a =
        let all = all_high may (object (length (machine_at s count w st).heap) ∷ pile w.operands st.base left) in
        let many : most_operands ≤ st.base + left = a.astray refl in
        step_astray _ (too_high (omega (arith, all, pile-length w.operands st.base left, many)))
    made_step (Stepped.TheVariants.Goes later) a =
        let n : Stepped.TheVariants.Goes later ≡ Stepped.TheVariants.Astray → ⊥ = not_astray in
        let same : later ≡ made_stage st left k = goes_stage (a.stage n) in
        rw same (step_goes _ (made_stage st left k) (made_machine (a.made n) (a.canon n)) (made_orderly (a.made n) (a.canon n)))
    made_step (Stepped.TheVariants.Ends later) a = absurd (let f = a.stage (λ z. contradiction cc) in contradiction cc)
    made_step (Stepped.TheVariants.Traps number) a = absurd (let f = a.stage (λ z. contradiction cc) in contradiction cc)

  module _ {n x d k : ℕ} (e : it ≡ Move.TheVariants.Makes n x d k) where
    making : Making (machine_at s count w st) (n + k) k
    unfolding Ready
    making = subst (Ready (machine_at s count w st)) e may.ready

    pub makes_taken : n ≤ st.height
    makes_taken = omega (arith, making.low, high may)

    pub makes_low : k ≤ st.height - n
    makes_low = omega (arith, making.low, high may)

    may_make : MakableGiven w.objects w.cells w.operands st (st.height - n - k) k
    may_make =
        record {
          makable = makable (st.height - n - k) k (omega arith) making;
          above = all_less (values may).canon (omega (arith, making.low, high may));
        }

    makes_means :
        (codes : List ℕ) (p : Program)
        → moved p codes (machine_at s count w st) (Move.TheVariants.Makes n x d k) ≡ goes (with_object (machine_at s count w st) x (link_at d) (values_from w.operands (st.base + (st.height - n - k)) k) (pile w.operands st.base (st.height - n - k)))
    unfolding moved machine_at
    makes_means codes p =
        let whole : st.height ≡ st.height - n - k + k + n = omega (arith, making.low, high may) in
        let fields = ap (λ (h : ℕ). reverse (take k (drop n (pile w.operands st.base h)))) whole ∙ values-above w.operands st.base (st.height - n - k) n k in
        let less : st.height - (n + k) ≡ st.height - n - k = omega arith in
        let below = drop-pile w.operands st.base st.height (n + k) (omega (arith, making.low, high may)) ∙ ap (pile w.operands st.base) less in
        ap₂ (λ (fs : List Value) (vs : List Value). goes (with_object (machine_at s count w st) x (link_at d) fs vs)) fields below

    pub carry_makes :
        {codes : List ℕ} {results : ℕ} {o' c' p' : List ℕ} {r : Stepped}
        → MadeIs w.objects o' w.cells c' w.operands p' st (st.height - n - k) x d k (values_from w.operands (st.base + (st.height - n - k)) k) r
        → {l' : List ℕ} → l' ≡ w.locals → Carried s codes ends count w (words o' c' l' p' w.blocks) st results it r
    carry_makes {codes} {r = r} a g =
        record { is = λ p q. rw (e, g, makes_means codes p) (made_step _ (omega arith) may_make.makable r a) }

  module _ {n x d first k : ℕ} (e : it ≡ Move.TheVariants.MakesDefault n x d first k) where
    making_default : Making (machine_at s count w st) n k
    unfolding Ready
    making_default = subst (Ready (machine_at s count w st)) e may.ready

    pub default_low : n ≤ st.height
    default_low = omega (arith, making_default.low, high may)

    may_make_default : Makable w.objects w.cells w.operands st (st.height - n) k
    may_make_default = makable (st.height - n) k (omega arith) making_default

    default_means :
        (codes : List ℕ) (p : Program)
        → moved p codes (machine_at s count w st) (Move.TheVariants.MakesDefault n x d first k) ≡ goes (with_object (machine_at s count w st) x (link_at d) (defaults_at codes first k) (pile w.operands st.base (st.height - n)))
    unfolding moved machine_at
    default_means codes p =
        ap (λ (vs : List Value). goes (with_object (machine_at s count w st) x (link_at d) (defaults_at codes first k) vs)) (drop-pile w.operands st.base st.height n default_low)

    pub carry_default :
        {codes : List ℕ} {results : ℕ} {o' c' p' : List ℕ} {r : Stepped}
        → MadeIs w.objects o' w.cells c' w.operands p' st (st.height - n) x d k (defaults_at codes first k) r → {l' : List ℕ} → l' ≡ w.locals
        → Carried s codes ends count w (words o' c' l' p' w.blocks) st results it r
    carry_default {codes} {r = r} a g = record { is = λ p q. rw (e, g, default_means codes p) (made_step _ (omega arith) may_make_default r a) }

-- what the calls require, by the slices that they are lent

module _ {s ends : List ℕ} {count : ℕ} {o c l p b : List ℕ} {st : Stage} {it : Move} (may : Movable s ends count (words o c l p b) st it) where
  pub given_makable : {n x d k : ℕ} → it ≡ Move.TheVariants.Makes n x d k → MakableGiven o c p st (st.height - n - k) k
  given_makable e = may_make may e

  pub default_makable : {n x d first k : ℕ} → it ≡ Move.TheVariants.MakesDefault n x d first k → Makable o c p st (st.height - n) k
  default_makable e = may_make_default may e

pub ruleset allocate_exits = (makes_taken, makes_low, given_makable, carry_makes, default_low, default_makable, carry_default)
