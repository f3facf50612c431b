-- Each way out of making an object: its cells are filled, its row is put after the others', and its reference is pushed.
use Prim.Native.Nat.{ℕ, ◌+◌, ◌^◌, ◌<◌}
use mathlib.Core.Path.{◌≡◌, refl, sym, ap, ◌∙◌}
use mathlib.Core.Bool.{Bool, true, false}
use mathlib.Core.List.{List}
use native.Mathlib.Omega.{arith}
use mir.Syntax.{w32}
use mir.Val.{Fits}
use lib.ListN.{length}
use lib.Dec.{leb}
use borrow.Author.Tests.{leb-true, leb-false}
use Rattle.scope.specs.Sizes.{most_operands}
use Rattle.scope.specs.Machine.{Value}
use Rattle.scope.proofs.Impossible.{impossible}
use Rattle.run_value.specs.declared.Value
use Rattle.run_values.specs.Values.{values_from, AllCanon}
use Rattle.run_cells.specs.Cells.{CellRoom, Filled, CellsCopied, CellsDefault}
use Rattle.run_heap.specs.Heap.{with_row}
use Rattle.run_heap.proofs.Made.{row_put}
use Rattle.run_stack.specs.Pile.{Room, Pushed}
use Rattle.run_state.specs.declared.Stage.{Stage}
use Rattle.run_state.specs.declared.Stepped.{Stepped}
use Rattle.run_state.specs.declared.Stepped
use Rattle.run_state.specs.Moved.{defaults_at}
use Rattle.run_make.specs.Made.{PutRoom, made_stage, PutMade, Makable, MakableGiven, MadeIs}

module _ {objects operands : List ℕ} {st : Stage} {left k : ℕ} (room : PutRoom objects operands st left k) where
  pub reference_room : Room operands st.base left 1
  reference_room = record { room = room.operand_room; few = omega (arith, room.low) }

  pub total-fits : st.cells < 2 ^ 16
  total-fits = omega (arith, room.most)

  pub count_fits : k < 2 ^ 16
  count_fits = omega (arith, room.most)

  pub put_made :
      {objects' operands' : List ℕ} {x d : ℕ} → objects' ≡ with_row objects st.objects x d st.cells k
      → Pushed operands operands' st.base left (Value.TheVariants.Object st.objects) → PutMade objects objects' operands operands' st left x d k (made_stage st left k)
  put_made e pushed = record { later = refl; row = row_put e (omega (arith, room.few, room.object_room)); pushed = pushed }

pub not_astray : {later : Stage} {A : Type 0} → Stepped.TheVariants.Goes later ≡ Stepped.TheVariants.Astray → A
not_astray e = impossible cc

module _ {objects cells operands : List ℕ} {st : Stage} {left k : ℕ} (may : Makable objects cells operands st left k) where
  pub cell_room_lem : CellRoom cells st.cells k
  cell_room_lem = record { room = may.kept.cell_room; few = may.most }

  module _ {full : Bool} (is : full ≡ leb most_operands (st.base + left)) where
    pub make_full :
        full ≡ true → (objects' cells' operands' : List ℕ) (x d : ℕ) (fields : List Value)
        → MadeIs objects objects' cells cells' operands operands' st left x d k fields Stepped.TheVariants.Astray
    make_full e objects' cells' operands' x d fields =
        record {
          stage = λ n. absurd (n refl);
          made = λ n. absurd (n refl);
          canon = λ n. absurd (n refl);
          astray = λ e'. leb-true most_operands (st.base + left) (sym is ∙ e);
        }

    module _ (e : full ≡ false) where
      low : st.base + left < most_operands
      low = leb-false most_operands (st.base + left) (sym is ∙ e)

      pub put_room : {objects₁ operands₁ : List ℕ} → length objects₁ ≡ length objects → length operands₁ ≡ length operands → PutRoom objects₁ operands₁ st left k
      put_room f g = record { object_room = omega (arith, may.kept.object_room, f); operand_room = omega (arith, may.room, g); few = may.few; most = may.most; low = low }

      module _ {objects' cells' operands' : List ℕ} {x d : ℕ} {later : Stage} (put : PutMade objects objects' operands operands' st left x d k later) where
        made_of :
            {fields : List Value} → Filled cells cells' st.cells k fields → AllCanon cells' (st.cells + k)
            → MadeIs objects objects' cells cells' operands operands' st left x d k fields (Stepped.TheVariants.Goes later)
        made_of filled canon =
            record {
              stage = λ n. ap Stepped.TheVariants.Goes put.later;
              made = λ n. record { row = put.row; filled = filled; pushed = put.pushed; low = low };
              canon = λ n. canon;
              astray = not_astray;
            }

        pub made_default :
            {codes : List ℕ} {first : ℕ} → CellsDefault codes cells cells' first k st.cells
            → MadeIs objects objects' cells cells' operands operands' st left x d k (defaults_at codes first k) (Stepped.TheVariants.Goes later)
        made_default default = made_of default.filled (default.canon may.kept.canon)

module _ {objects cells operands : List ℕ} {st : Stage} {left k : ℕ} (may : MakableGiven objects cells operands st left k) where
  pub given_room : CellRoom cells st.cells k
  given_room = cell_room_lem may.makable

  pub given-fits : Fits w32 (st.base + left)
  given-fits = omega (arith, may.makable.high)

  module _ {full : Bool} (is : full ≡ leb most_operands (st.base + left)) where
    pub given_full :
        full ≡ true → (objects' cells' operands' : List ℕ) (x d : ℕ) (fields : List Value)
        → MadeIs objects objects' cells cells' operands operands' st left x d k fields Stepped.TheVariants.Astray
    given_full e = make_full may.makable is e

    pub given-put : full ≡ false → {objects₁ operands₁ : List ℕ} → length objects₁ ≡ length objects → length operands₁ ≡ length operands → PutRoom objects₁ operands₁ st left k
    given-put e = put_room may.makable is e

    pub made_given :
        full ≡ false → {objects' cells' operands' : List ℕ} {x d : ℕ} {later : Stage} → PutMade objects objects' operands operands' st left x d k later
        → CellsCopied operands cells cells' (st.base + left) st.cells k
        → MadeIs objects objects' cells cells' operands operands' st left x d k (values_from operands (st.base + left) k) (Stepped.TheVariants.Goes later)
    made_given e put copied =
        let same : st.base + (left + k) ≡ st.base + left + k = omega arith in
        made_of may.makable is e put copied.filled (copied.canon (rw same at may.above) may.makable.kept.canon)

pub ruleset make_exits = (reference_room, total-fits, count_fits, put_made, cell_room_lem, make_full, put_room, made_default, given_room, given-fits, given_full, given-put, made_given)
