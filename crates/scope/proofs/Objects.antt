-- Objects: made as their type declares, read and written inside. The object that a reference to x names has a type that
-- climbs to x; its fields are at least x's, in x's places, so a field of x is there. Its descriptor is exactly the declared
-- one, which climbs to the descriptor of x.
use Prim.Native.Nat.{ℕ, zero, suc, ◌<◌}
use mathlib.Core.Path.{◌≡◌, refl, sym, ap, ◌∙◌, subst}
use mathlib.Core.Bool.{true, false, false≢true}
use mathlib.Core.Option.{Option, some}
use mathlib.Core.List
use mathlib.Core.List.{List, [], ◌∷◌, map, reverse, reverse-reverse, Forall₂}
use lib.ListN.{length, get_elem?, length-map}
use borrow.Author.Tests.{eq-eqb}
use Rattle.scope.specs.Sizes.{most_steps}
use Rattle.scope.specs.Lists.{every}
use Rattle.scope.specs.Syntax.{defined, exact, Val, num, ref, non_null, Field, Definition, Types, types_of}
use Rattle.scope.specs.Order.{heap_below}
use Rattle.scope.specs.BodyRules.{fields_of, holds_of, has_default}
use Rattle.scope.specs.Bodies.{Operand, known, State, Body}
use Rattle.scope.specs.Machine.{Value, number, null, object, Object, Store, object_of, Machine, split_top, default_of, defaults_of, has_room, make, make_given, make_default}
use Rattle.scope.specs.Running.{program_of}
use Rattle.scope.proofs.Truths.{none_is_not-some, from_both}
use Rattle.scope.proofs.Accepted.{Kept, kept_passes}
use Rattle.scope.proofs.Chains.{Chain, climb_is_chain, chain_climbs}
use Rattle.scope.proofs.Order.{below_reflexive}
use Rattle.scope.proofs.Pairs.{some_is_one, at_second, turn_both}
use Rattle.scope.proofs.Stores.{new_there}
use Rattle.scope.proofs.HeapLaws.{one_more_grows, one_more_typed, operands_later}
use Rattle.scope.proofs.Descent.{FieldBelow, field_along, descriptor_along}
use Rattle.scope.proofs.Taking.{Tops, split_tops}
use Rattle.scope.proofs.Acting.{either_side, changes}
use Rattle.scope.proofs.Soundness.{Has, of_number, of_null, of_object, HasOperand, of_known, Described, no_descriptor, its_descriptor, WellMade, Stands, Typed, Proceeds, is_trap, is_no_room}

-- defaults

pub default_has : {ts : Types} {heap : Store} (t : Val) → has_default t ≡ true → (v : Value) × (default_of t ≡ some v) × Has ts heap v t
default_has (num k) e = (number k 0, refl, of_number)
default_has (ref true h) e = (null, refl, of_null)
default_has (ref false h) e = absurd (false≢true e)

pub defaults_have :
    {ts : Types} {heap : Store} (types : List Val) → every has_default types ≡ true
    → (vs : List Value) × (defaults_of types ≡ some vs) × Forall₂ (Has ts heap) vs types
unfolding defaults_of
defaults_have [] e = ([], refl, List.Forall₂.nil)
defaults_have {ts} {heap} (t ∷ types) e =
    let (one, more) = from_both (has_default t) (every has_default types) e in
    let (v, is, has) = default_has {ts = ts} {heap = heap} t one in
    let (vs, are, have) = defaults_have {ts = ts} {heap = heap} types more in
    (v ∷ vs, rw (is, are), List.Forall₂.cons has have)

-- making

module _ {b : Body} {st : State} (m : Machine) (typed : Typed b st m) (alive : st.dead ≡ false) where
  pub makes :
      (x : ℕ) (d : Option ℕ) (fields : List Value) {below : List Value} {left : List Operand}
      → WellMade b.types m.heap (record { type = x; descriptor = d; fields = fields })
      → Stands b (record { frames = st.frames; operands = known (non_null (exact x)) ∷ left; dead = st.dead; is_set = st.is_set }) m.code
      → Forall₂ (HasOperand (types_of b.types) m.heap) below left
      → Proceeds b m.heap (make m x d fields below)
  unfolding heap_below
  makes x d fields {below} made stands has =
      let it : Object = record { type = x; descriptor = d; fields = fields } in
      let grows = one_more_grows m.heap it in
      either_side (has_room m.heap (length fields))
      (λ room. changes m typed alive stands grows (one_more_typed it typed.store.objects made)
      (List.Forall₂.cons (of_known (of_object (new_there m.heap it) (below_reflexive (types_of b.types) (exact x)))) (operands_later grows has)))
      (λ full. is_trap is_no_room)

  pub makes_given :
      (x : ℕ) (d : Option ℕ) {fs : List Field} {vs below : List Value} {left : List Operand}
      → x < length b.types → fields_of (types_of b.types x).form ≡ some fs → Described m.heap (types_of b.types x).descriptor d
      → Tops (types_of b.types) m.heap (reverse (holds_of fs)) left vs below
      → Stands b (record { frames = st.frames; operands = known (non_null (exact x)) ∷ left; dead = st.dead; is_set = st.is_set }) m.code
      → Proceeds b m.heap (make_given (program_of b) m x d vs)
  makes_given x d {fs} {vs} {below} inside declared described tops stands =
      let many : split_top (length fs) vs ≡ some (tops.tops, below) = subst (λ (n : ℕ). split_top n vs ≡ some (tops.tops, below)) (length-map fs (λ f. f.holds)) (split_tops (holds_of fs) tops) in
      let held : Forall₂ (Has (types_of b.types) m.heap) (reverse tops.tops) (holds_of fs) = rw reverse-reverse at (turn_both tops.typed) in
      rw (declared, many)
      (makes x d (reverse tops.tops) (record { in_section = inside; fields = fs; declared = declared; held = held; described = described }) stands tops.rest)

  pub makes_default :
      (x : ℕ) (d : Option ℕ) {fs : List Field} {vs : List Value} {left : List Operand}
      → x < length b.types → fields_of (types_of b.types x).form ≡ some fs → Described m.heap (types_of b.types x).descriptor d
      → every has_default (holds_of fs) ≡ true
      → Forall₂ (HasOperand (types_of b.types) m.heap) vs left
      → Stands b (record { frames = st.frames; operands = known (non_null (exact x)) ∷ left; dead = st.dead; is_set = st.is_set }) m.code
      → Proceeds b m.heap (make_default (program_of b) m x d vs)
  makes_default x d {fs} inside declared described have has stands =
      let (values, are, held) = defaults_have {ts = types_of b.types} {heap = m.heap} (holds_of fs) have in
      rw (declared, are)
      (makes x d values (record { in_section = inside; fields = fs; declared = declared; held = held; described = described }) stands has)

-- reading

map_at : {A B : Type 0} (f : A → B) (xs : List A) (i : ℕ) {x : A} → get_elem? xs i ≡ some x → get_elem? (map f xs) i ≡ some (f x)
map_at f [] i e = absurd (none_is_not-some e)
map_at f (y ∷ xs) zero e = ap (λ z. some (f z)) (some_is_one e)
map_at f (y ∷ xs) (suc i) e = map_at f xs i e

pub climb_of : (ts : Types) (t x : ℕ) → heap_below ts (exact t) (defined x) ≡ true → Chain ts t x
unfolding heap_below
climb_of ts t x e = climb_is_chain most_steps ts t x e

-- the field g of x at place i, in an object of a type below x
pub record Inside {ds : List Definition} {heap : Store} {it : Object} (made : WellMade ds heap it) (i : ℕ) (g : Field) : Type 0 where
  pub field : Field
  pub declared : get_elem? (holds_of made.fields) i ≡ some field.holds
  pub below : FieldBelow (types_of ds) field g
  pub value : Value
  pub at_place : get_elem? it.fields i ≡ some value
  pub has : Has (types_of ds) heap value field.holds

module _ (ds : List Definition) (kept : Kept (types_of ds)) {heap : Store} where
  pub field_inside :
      {it : Object} {x : ℕ} (i : ℕ) {gs : List Field} {g : Field} (made : WellMade ds heap it)
      → Chain (types_of ds) it.type x → fields_of (types_of ds x).form ≡ some gs → get_elem? gs i ≡ some g → Inside made i g
  field_inside {it} i made chain declared place =
      let at = field_along ds kept i chain declared place in
      let same : at.fields ≡ made.fields = some_is_one (sym at.declared ∙ made.declared) in
      let holds = map_at (λ (f : Field). f.holds) made.fields i (rw same at at.at_place) in
      let (v, there, has) = at_second i made.held holds in
      record { field = at.field; declared = holds; below = at.is_below; value = v; at_place = there; has = has }

-- descriptors

described_there :
    {heap : Store} {o q : Option ℕ} {y : ℕ} → Described heap o q → o ≡ some y
    → (d : ℕ) × (e : Object) × (q ≡ some d) × (object_of heap d ≡ some e) × (e.type ≡ y)
described_there no_descriptor f = absurd (none_is_not-some f)
described_there (its_descriptor {d = d} {it = e} there is) f = (d, e, refl, there, is ∙ some_is_one f)

-- the descriptor of an object of a type below x, whose descriptor is y: of a type below y, and y itself where the object is x's
pub record Descriptor (ds : List Definition) (heap : Store) (it : Object) (x y : ℕ) : Type 0 where
  pub number : ℕ
  pub object : Object
  pub carried : it.descriptor ≡ some number
  pub there : object_of heap number ≡ some object
  pub below : heap_below (types_of ds) (exact object.type) (defined y) ≡ true
  pub exactly : it.type ≡ x → heap_below (types_of ds) (exact object.type) (exact y) ≡ true

module _ (ds : List Definition) (kept : Kept (types_of ds)) {heap : Store} where
  pub descriptor_there : {it : Object} {x y : ℕ} → WellMade ds heap it → Chain (types_of ds) it.type x → (types_of ds x).descriptor ≡ some y → Descriptor ds heap it x y
  unfolding heap_below
  descriptor_there {it} {x} {y} made chain e =
      let (z, is, up) = descriptor_along ds kept chain e in
      let (d, found, carried, there, type) = described_there made.described is in
      record {
        number = d;
        object = found;
        carried = carried;
        there = there;
        below = chain_climbs (kept_passes ds kept) (rw (← type) at up);
        exactly = λ same. eq-eqb found.type y (type ∙ some_is_one (sym is ∙ ap (λ (t : ℕ). (types_of ds t).descriptor) same ∙ e));
      }
