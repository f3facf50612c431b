-- Each way out of the instructions that make an object: struct.new and its default, both with a descriptor too.
use Prim.Native.Nat.{ℕ, ◌+◌, ◌-◌, ◌%◌, ◌≤◌, ◌<◌}
use mathlib.Core.Path.{◌≡◌, refl, sym, ap, ◌∙◌}
use mathlib.Core.Bool.{Bool, true, false, not}
use mathlib.Core.Option.{Option, none, some}
use mathlib.Core.List.{List, reverse}
use native.Mathlib.Omega.{arith}
use native.Mathlib.Nat.{mod-eq_of_lt}
use lib.ListN.{length, take, drop, length-drop, length-reverse, length-map}
use lib.Seq.{drop-drop, length-take-le}
use borrow.Author.Tests.{not-true, not-false}
use Rattle.scope.specs.Told.{Maybe}
use Rattle.scope.specs.Refusals.{trap_null_descriptor, trap_no_room}
use Rattle.scope.specs.Sizes.{most_objects}
use Rattle.scope.specs.Syntax.{Field}
use Rattle.scope.specs.BodyRules.{fields_of, holds_of}
use Rattle.scope.specs.Instructions.{Op, struct_new, struct_new_default, struct_new_desc, struct_new_default_desc}
use Rattle.scope.specs.Machine.{Value, Store, Machine, Program, traps, goes, stuck, has_room, make, make_given, make_default, do_op}
use Rattle.run_value.specs.declared.Value.{Value as Carrier}
use Rattle.lent_u16.specs.Words.{word_limit}
use Rattle.type_table.specs.View.{view, link_at, field_at_code, codes_at}
use Rattle.type_table.specs.Answers.{shape_form}
use Rattle.type_table.specs.declared.Shape.{Shape}
use Rattle.type_table.specs.declared.Shape
use Rattle.body_state.proofs.Answers.{codes-length}
use Rattle.body_plan_defaults.specs.Defaults.{all_default}
use Rattle.run_cells.specs.Cells.{start_of}
use Rattle.run_cells.proofs.Filling.{every_default, some_without}
use Rattle.run_objects.specs.Objects.{store_at, Kept}
use Rattle.run_objects.proofs.Packs.{heap-length}
use Rattle.run_heap.specs.Heap.{RoomFor}
use Rattle.run_heap.proofs.Made.{link_more}
use Rattle.run_stack.proofs.Laws.{take_split, few_split}
use Rattle.run_state.specs.declared.Move.{Move}
use Rattle.run_state.specs.declared.Move
use Rattle.run_state.specs.declared.Reference.{Reference}
use Rattle.run_state.specs.declared.Reference
use Rattle.run_state.specs.Moved.{with_object, defaults_at}
use Rattle.run_state.specs.Planned.{reference_at, MakePlans}
use Rattle.run_state.proofs.Tops.{on_top_lem, top_low, head_there, wrong_top, null_top, object_top}
use Rattle.run_state.proofs.Moving.{strays, dangles, trapping, making, making_default, same_want}
use Rattle.run_move_new.specs.Makes.{MakesGiven, MakesDefaults}

-- defaults

defaults_length : (codes : List ℕ) (first k : ℕ) → length (defaults_at codes first k) ≡ k
defaults_length codes first k =
    length-map (holds_of (codes_at field_at_code codes first k)) start_of
    ∙ length-map (codes_at field_at_code codes first k) (λ f. f.holds)
    ∙ codes-length field_at_code codes first k

-- room

module _ {n total need : ℕ} {room : Bool} (a : RoomFor n total need room) (m : Machine) (objects cells : List ℕ) (heap : m.heap ≡ store_at objects cells n) (kept : Kept objects cells n total) where
  room_is : {b : Bool} → room ≡ b → has_room m.heap need ≡ b
  room_is e = ap (λ (os : Store). has_room os need) heap ∙ sym (a.is objects cells kept.packed) ∙ e

make_room :
    (m : Machine) (x : ℕ) (d : Option ℕ) (fields below : List Value) (k : ℕ) → length fields ≡ k → has_room m.heap k ≡ true
    → make m x d fields below ≡ goes (with_object m x d fields below)
make_room m x d fields below k long room = rw (long, room)

make-none : (m : Machine) (x : ℕ) (d : Option ℕ) (fields below : List Value) (k : ℕ) → length fields ≡ k → has_room m.heap k ≡ false → make m x d fields below ≡ traps trap_no_room
make-none m x d fields below k long room = rw (long, room)

-- the fields of the type

module _ (rows codes : List ℕ) (p : Program) (types : p.types ≡ view rows codes) (x : ℕ) {shape : Shape} (form : (view rows codes x).form ≡ shape_form codes shape) where
  fields_none : {f k s l : ℕ} → shape ≡ Shape.TheVariants.Func f k s l → fields_of (p.types x).form ≡ none
  fields_none e = rw (types, form, e) refl

  fields_are : {f k : ℕ} → shape ≡ Shape.TheVariants.Struct f k → fields_of (p.types x).form ≡ some (codes_at field_at_code codes f k)
  fields_are e = rw (types, form, e) refl

-- of given values

module _ (p : Program) (m : Machine) (x : ℕ) (d : Option ℕ) (vs : List Value) {fs : List Field} (fields : fields_of (p.types x).form ≡ some fs) {k : ℕ} (long : length fs ≡ k) where
  given_all : k ≤ length vs → make_given p m x d vs ≡ make m x d (reverse (take k vs)) (drop k vs)
  given_all h = let parts = take_split k vs h in rw (fields, long, parts)

  given_few : length vs < k → make_given p m x d vs ≡ stuck
  given_few h = let parts = few_split vs k h in rw (fields, long, parts)

reversed_length : (k : ℕ) (vs : List Value) → k ≤ length vs → length (reverse (take k vs)) ≡ k
reversed_length k vs h = length-reverse (take k vs) ∙ length-take-le k vs h

module _ {rows codes : List ℕ} {n total height taken x d : ℕ} {shape : Shape} (form : (view rows codes x).form ≡ shape_form codes shape) where
  pub given_func : {f k s l : ℕ} → shape ≡ Shape.TheVariants.Func f k s l → MakesGiven rows codes n total height taken x d Move.TheVariants.Astray
  given_func e = record { is = λ p m objects cells types long low heap kept. strays (rw (fields_none rows codes p types x form e)) }

  module _ {f k : ℕ} (e : shape ≡ Shape.TheVariants.Struct f k) where
    pub given_short : height < taken + k → MakesGiven rows codes n total height taken x d Move.TheVariants.Astray
    given_short h =
        record {
          is = λ p m objects cells types long low heap kept.
              let left = length-drop taken m.operands in
              strays
              (given_few p m x (link_at d) (drop taken m.operands) (fields_are rows codes p types x form e) (codes-length field_at_code codes f k) (omega arith));
        }

    module _ (h : taken + k ≤ height) {room : Bool} (a : RoomFor n total k room) where
      pub given_made : room ≡ true → MakesGiven rows codes n total height taken x d (Move.TheVariants.Makes taken x d k)
      given_made b =
          record {
            is = λ p m objects cells types long low heap kept.
                let vs : List Value = drop taken m.operands in
                let left = length-drop taken m.operands in
                let enough : k ≤ length vs = omega arith in
                let free = room_is a m objects cells heap kept b in
                making taken x d k
                (given_all p m x (link_at d) vs (fields_are rows codes p types x form e) (codes-length field_at_code codes f k) enough
                ∙ make_room m x (link_at d) (reverse (take k vs)) (drop k vs) k (reversed_length k vs enough) free
                ∙ ap (λ (below : List Value). goes (with_object m x (link_at d) (reverse (take k vs)) below)) (drop-drop k taken m.operands))
                (omega arith)
                free;
          }

      pub given_full : room ≡ false → MakesGiven rows codes n total height taken x d (Move.TheVariants.Traps trap_no_room)
      given_full b =
          record {
            is = λ p m objects cells types long low heap kept.
                let vs : List Value = drop taken m.operands in
                let left = length-drop taken m.operands in
                let enough : k ≤ length vs = omega arith in
                trapping
                (given_all p m x (link_at d) vs (fields_are rows codes p types x form e) (codes-length field_at_code codes f k) enough
                ∙ make-none m x (link_at d) (reverse (take k vs)) (drop k vs) k (reversed_length k vs enough) (room_is a m objects cells heap kept b));
          }

-- of defaults

module _ (p : Program) (m : Machine) (x : ℕ) (d : Option ℕ) (vs : List Value) (codes : List ℕ) (f k : ℕ) (fields : fields_of (p.types x).form ≡ some (codes_at field_at_code codes f k)) {all : Bool} (defaults : all ≡ all_default true codes f k) where
  default_all : not all ≡ false → make_default p m x d vs ≡ make m x d (defaults_at codes f k) vs
  unfolding all_default
  default_all q =
      let has = every_default (holds_of (codes_at field_at_code codes f k)) (sym defaults ∙ not-false all q) in rw (fields, has)

  default_few : not all ≡ true → make_default p m x d vs ≡ stuck
  unfolding all_default
  default_few q =
      let lacks = some_without (holds_of (codes_at field_at_code codes f k)) (sym defaults ∙ not-true all q) in rw (fields, lacks)

module _ {rows codes : List ℕ} {n total taken x d : ℕ} {shape : Shape} (form : (view rows codes x).form ≡ shape_form codes shape) where
  pub default_func : {f k s l : ℕ} → shape ≡ Shape.TheVariants.Func f k s l → MakesDefaults rows codes n total taken x d Move.TheVariants.Astray
  default_func e = record { is = λ p m objects cells types low heap kept. strays (rw (fields_none rows codes p types x form e)) }

  module _ {f k : ℕ} (e : shape ≡ Shape.TheVariants.Struct f k) {all : Bool} (defaults : all ≡ all_default true codes f k) where
    pub default_without : not all ≡ true → MakesDefaults rows codes n total taken x d Move.TheVariants.Astray
    default_without q =
        record {
          is = λ p m objects cells types low heap kept.
              strays (default_few p m x (link_at d) (drop taken m.operands) codes f k (fields_are rows codes p types x form e) defaults q);
        }

    module _ (q : not all ≡ false) {room : Bool} (a : RoomFor n total k room) where
      pub default_made : room ≡ true → MakesDefaults rows codes n total taken x d (Move.TheVariants.MakesDefault taken x d f k)
      default_made b =
          record {
            is = λ p m objects cells types low heap kept.
                let vs : List Value = drop taken m.operands in
                let free = room_is a m objects cells heap kept b in
                making_default taken x d f k
                (default_all p m x (link_at d) vs codes f k (fields_are rows codes p types x form e) defaults q
                ∙ make_room m x (link_at d) (defaults_at codes f k) vs k (defaults_length codes f k) free)
                low
                free;
          }

      pub default_full : room ≡ false → MakesDefaults rows codes n total taken x d (Move.TheVariants.Traps trap_no_room)
      default_full b =
          record {
            is = λ p m objects cells types low heap kept.
                let vs : List Value = drop taken m.operands in
                trapping
                (default_all p m x (link_at d) vs codes f k (fields_are rows codes p types x form e) defaults q
                ∙ make-none m x (link_at d) (defaults_at codes f k) vs k (defaults_length codes f k) (room_is a m objects cells heap kept b));
          }

pub ruleset make_exits = (given_func, given_short, given_made, given_full, default_func, default_without, default_made, default_full)

-- struct.new and struct.new_default

module _ {rows codes : List ℕ} {n total height : ℕ} {first : Maybe Carrier} {x : ℕ} {r : Move} where
  pub new_plan : MakesGiven rows codes n total height 0 x 0 r → MakePlans rows codes n total height first (struct_new x) r
  unfolding do_op
  new_plan a =
      record { is = λ p m objects cells types long knows. a.is p m objects cells types long (omega arith) knows.heap knows.kept }

  pub new_default_plan : MakesDefaults rows codes n total 0 x 0 r → MakePlans rows codes n total height first (struct_new_default x) r
  unfolding do_op
  new_default_plan a =
      record { is = λ p m objects cells types long knows. a.is p m objects cells types (omega arith) knows.heap knows.kept }

-- struct.new_desc and struct.new_default_desc

-- the word of a descriptor that is there says its number
link_is_lem : {d n : ℕ} → d < n → n ≤ most_objects → link_at ((d + 1) % word_limit) ≡ some d
link_is_lem {d} h few = let small : (d + 1) % word_limit ≡ d + 1 = mod-eq_of_lt (omega arith) in ap link_at small ∙ link_more d

module _ {rows codes : List ℕ} {n total height : ℕ} {first : Maybe Carrier} (x : ℕ) {to : Reference} (is : to ≡ reference_at first) where
  pub new_desc_wrong : to ≡ Reference.TheVariants.Wrong → MakePlans rows codes n total height first (struct_new_desc x) Move.TheVariants.Astray
  unfolding do_op
  new_desc_wrong e = record { is = λ p m objects cells types long knows. strays (wrong_top knows.top is e _) }

  pub new_default_desc_wrong : to ≡ Reference.TheVariants.Wrong → MakePlans rows codes n total height first (struct_new_default_desc x) Move.TheVariants.Astray
  unfolding do_op
  new_default_desc_wrong e = record { is = λ p m objects cells types long knows. strays (wrong_top knows.top is e _) }

  pub new_desc_null : to ≡ Reference.TheVariants.Null → MakePlans rows codes n total height first (struct_new_desc x) (Move.TheVariants.Traps trap_null_descriptor)
  unfolding do_op
  new_desc_null e =
      record { is = λ p m objects cells types long knows. trapping (on_top_lem m.operands (null_top knows.top is e) _) }

  pub new_default_desc_null : to ≡ Reference.TheVariants.Null → MakePlans rows codes n total height first (struct_new_default_desc x) (Move.TheVariants.Traps trap_null_descriptor)
  unfolding do_op
  new_default_desc_null e =
      record { is = λ p m objects cells types long knows. trapping (on_top_lem m.operands (null_top knows.top is e) _) }

  module _ {d : ℕ} (e : to ≡ Reference.TheVariants.To d) where
    -- whatever the instruction comes to
    pub desc_past : n ≤ d → (o : Op) → MakePlans rows codes n total height first o Move.TheVariants.Astray
    desc_past h o =
        record {
          is = λ p m objects cells types long knows.
              let size = heap-length objects cells knows.heap in
              dangles 0 d (head_there m.operands (object_top knows.top is e)) (omega arith);
        }

    module _ (h : d < n) {r : Move} where
      pub new_desc_plan : MakesGiven rows codes n total height 1 x ((d + 1) % word_limit) r → MakePlans rows codes n total height first (struct_new_desc x) r
      unfolding do_op
      new_desc_plan a =
          record {
            is = λ p m objects cells types long knows.
                let top = object_top knows.top is e in
                let low = top_low m.operands top in
                same_want
                (on_top_lem m.operands top _
                ∙ ap (λ (link : Option ℕ). make_given p m x link (drop 1 m.operands)) (sym (link_is_lem h knows.kept.few)))
                (a.is p m objects cells types long (omega arith) knows.heap knows.kept);
          }

      pub new_default_desc_plan : MakesDefaults rows codes n total 1 x ((d + 1) % word_limit) r → MakePlans rows codes n total height first (struct_new_default_desc x) r
      unfolding do_op
      new_default_desc_plan a =
          record {
            is = λ p m objects cells types long knows.
                let top = object_top knows.top is e in
                same_want
                (on_top_lem m.operands top _
                ∙ ap (λ (link : Option ℕ). make_default p m x link (drop 1 m.operands)) (sym (link_is_lem h knows.kept.few)))
                (a.is p m objects cells types (top_low m.operands top) knows.heap knows.kept);
          }

pub ruleset new_exits = (new_plan, new_default_plan, new_desc_wrong, new_default_desc_wrong, new_desc_null, new_default_desc_null, desc_past, new_desc_plan, new_default_desc_plan)
