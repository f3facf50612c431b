-- Each way out of the questions that are asked of an object, and of a store in a field.
use Prim.Native.Nat.{ℕ, ◌+◌, ◌-◌, ◌*◌, ◌%◌, ◌≤◌, ◌<◌}
use mathlib.Core.Path.{◌≡◌, sym, ap, ap₂, ◌∙◌}
use mathlib.Core.Option.{none, some}
use mathlib.Core.List.{List}
use native.Mathlib.Omega.{arith}
use native.Mathlib.Nat.{mod-eq_of_lt}
use lib.ListN.{length, get_or, get_elem?, set}
use borrow.Author.Tests.{ne_eqb}
use Rattle.scope.specs.Told.{Maybe}
use Rattle.std.specs.Prelude.{None, Some}
use Rattle.scope.specs.Layout.{object_span}
use Rattle.scope.specs.Sizes.{most_cells}
use Rattle.scope.specs.Machine.{Value, with_field}
use Rattle.lent_u16.specs.Words.{WordAt}
use Rattle.run_values.specs.Values.{Word64At, value_at, entry_in}
use Rattle.run_value.specs.declared.Value.{Value as Carrier}
use Rattle.run_value.specs.Carried.{decoded, value_kind, value_bits, with_value, ValueIs}
use Rattle.run_value.proofs.Laws.{said, canon_said}
use Rattle.run_values.proofs.Numbered.{numbered-length, numbered_there, numbered-none}
use Rattle.run_values.proofs.Laws.{put_long}
use Rattle.run_objects.specs.Objects.{object_word, object_at, store_at, TypeOf, DescriptorOf, FieldCount, held_option, HeldField, FieldSet}
use Rattle.run_objects.proofs.Packs.{packed-inside, store_set, set_canon}
use Rattle.scope.proofs.Impossible.{impossible}
use Rattle.lent_u32.specs.Scratch.{word32_limit}
use Rattle.run_values.specs.Layout.{kind_place, bits_place, type_word, descriptor_word, first_word, count_word}

module _ {objects : List ℕ} {o : ℕ} where
  pub type_is : {r : ℕ} → WordAt objects (object_span * o + type_word) r → TypeOf objects o r
  unfolding object_at
  type_is a = record { is = λ cells. sym a.is; small = a.small }

  module _ {w : ℕ} (a : WordAt objects (object_span * o + descriptor_word) w) where
    pub descriptor_none : w ≡ 0 → DescriptorOf objects o None
    unfolding object_at
    descriptor_none e = record { is = λ cells. rw (← a.is, e) }

    pub descriptor_some : (w ≡ 0 → ⊥) → DescriptorOf objects o (Some (w - 1))
    unfolding object_at
    descriptor_some d = record { is = λ cells. rw (← a.is, ne_eqb w 0 d) }

-- how many fields
pub fields_length : (objects cells : List ℕ) (o : ℕ) → length (object_at objects cells o).fields ≡ object_word objects o count_word
unfolding object_at
fields_length objects cells o = numbered-length (entry_in value_at cells) (object_word objects o first_word) (object_word objects o count_word)

module _ {objects : List ℕ} {o count : ℕ} (a : WordAt objects (object_span * o + count_word) count) where
  pub count_is : FieldCount objects o count
  count_is = record { is = λ cells. fields_length objects cells o ∙ sym a.is; small = a.small }

  module _ (cells : List ℕ) {i : ℕ} where
    pub field_absent : count ≤ i → HeldField objects cells o i None
    unfolding object_at
    field_absent h =
        let past : object_word objects o count_word ≤ i = rw (← a.is) h in
        record {
          is = sym (numbered-none (entry_in value_at cells) (object_word objects o first_word) (object_word objects o count_word) i past);
          inside = λ v e. impossible cc;
        }

    module _ (h : i < count) {first : ℕ} (b : WordAt objects (object_span * o + first_word) first) {kind bits : ℕ} where
      pub field_held : Word64At cells (kind_place (first + i)) kind → Word64At cells (bits_place (first + i)) bits → {v : Carrier} → ValueIs kind bits v → HeldField objects cells o i (Some v)
      unfolding object_at entry_in
      field_held c d q =
          let there : i < object_word objects o count_word = rw (← a.is) h in
          let place : first ≡ object_word objects o first_word = b.is in
          let kind' : kind ≡ get_or cells (kind_place (object_word objects o first_word + i)) 0 = c.is ∙ ap (λ (f : ℕ). get_or cells (kind_place (f + i)) 0) place in
          let bits' : bits ≡ get_or cells (bits_place (object_word objects o first_word + i)) 0 = d.is ∙ ap (λ (f : ℕ). get_or cells (bits_place (f + i)) 0) place in
          record {
            is = ap some (q.is ∙ ap₂ value_at kind' bits') ∙ sym (numbered_there (entry_in value_at cells) (object_word objects o first_word) (object_word objects o count_word) i there);
            inside = λ v e. rw (fields_length objects cells o) there;
          }

-- the answer, taken apart

module _ {objects cells : List ℕ} {o i : ℕ} {r : Maybe Carrier} (a : HeldField objects cells o i r) where
  pub field_got : {v : Carrier} → r ≡ Some v → get_elem? (object_at objects cells o).fields i ≡ some (decoded v)
  field_got e = sym a.is ∙ ap held_option e

  pub field_missed : r ≡ None → get_elem? (object_at objects cells o).fields i ≡ none
  field_missed e = sym a.is ∙ ap held_option e

-- a store in a field

module _ {objects : List ℕ} {o first : ℕ} (a : WordAt objects (object_span * o + first_word) first) {cells cells' : List ℕ} {i : ℕ} (v : Carrier) where
  pub field_set : cells' ≡ with_value cells ((first + i) % word32_limit) v → FieldSet objects cells cells' o i v
  field_set e =
      record {
        store = λ n total p h l.
            let there : i < object_word objects o count_word = rw (fields_length objects cells o) at l in
            let same = where_it_is (packed-inside p.packed o h) p.most there in
            ap (λ (m : List ℕ). store_at objects m n) same
            ∙ store_set p.packed cells (omega (arith, p.cell_room, p.most)) o i h there (value_kind v) (value_bits v)
            ∙ ap (λ (w : Value). set (store_at objects cells n) o (with_field (object_at objects cells o) i w)) (said v);
        kept = λ n total p h l.
            let there : i < object_word objects o count_word = rw (fields_length objects cells o) at l in
            let same = where_it_is (packed-inside p.packed o h) p.most there in
            record {
              object_room = p.object_room;
              cell_room = omega (arith, p.cell_room, long);
              few = p.few;
              most = p.most;
              packed = p.packed;
              canon = rw same (set_canon p.packed cells (omega (arith, p.cell_room, p.most)) o i h there (value_kind v) (value_bits v) (canon_said v) p.canon);
            };
        size = long;
      }
    where
      long : length cells' ≡ length cells
      long = rw e (put_long cells ((first + i) % word32_limit) (value_kind v) (value_bits v))

      where_it_is : {total : ℕ} → object_word objects o first_word + object_word objects o count_word ≤ total → total ≤ most_cells → i < object_word objects o count_word → cells' ≡ with_value cells (object_word objects o first_word + i) v
      where_it_is low most there =
          let place : first ≡ object_word objects o first_word = a.is in
          let small : (first + i) % word32_limit ≡ first + i = mod-eq_of_lt (omega arith) in
          e ∙ ap (λ (j : ℕ). with_value cells j v) (small ∙ ap (λ (f : ℕ). f + i) place)

pub ruleset ask_exits = (type_is, descriptor_none, descriptor_some, count_is, field_absent, field_held, field_set)
