-- The instructions that make objects, look into them or ask for their descriptor. One lemma each, from what the plan's
-- tests say: a new object is made as declared, a field that is read or written is there, and a descriptor has the type that
-- the checker gives it.
use Prim.Native.Nat.{ℕ, ◌<◌}
use mathlib.Core.Path.{◌≡◌, refl, sym, subst}
use mathlib.Core.Bool.{Bool, true, false, cond}
use mathlib.Core.Option.{none, some}
use mathlib.Core.List.Forall₂
use mathlib.Core.List.{List, [], ◌∷◌, ◌++◌, reverse}
use lib.ListN.{length, get_elem?}
use Rattle.scope.specs.Lists.{every}
use Rattle.scope.specs.Syntax.{defined, exact, nullable, non_null, Field, Definition, types_of}
use Rattle.scope.specs.Instructions.{struct_new, struct_new_default, struct_get, struct_set, struct_new_desc, struct_new_default_desc, ref_get_desc}
use Rattle.scope.specs.BodyRules.{value, from_top, fields_of, holds_of, has_default, its_descriptor}
use Rattle.scope.specs.Bodies.{Operand, known, fits, put, State, Body}
use Rattle.scope.specs.Machine.{Value, object, Object, Store, object_of, Machine, do_op}
use Rattle.scope.proofs.Accepted.{Kept, Passes, kept_passes}
use Rattle.scope.proofs.HeapLaws.{has_above, exact_type, exact_very, other_field_grows, other_field_typed, operands_later}
use Rattle.scope.proofs.Taking.{of_type, done, also, tops_of}
use Rattle.scope.proofs.Acting.{stays, changes}
use Rattle.scope.proofs.Objects.{makes_given, makes_default, climb_of, field_inside, Descriptor, descriptor_there}
use Rattle.scope.proofs.Plain.{leaving, Does, On}
use Rattle.scope.proofs.Soundness.{Has, of_null, of_object, HasOperand, of_known, Described, no_descriptor, its_descriptor as has_descriptor, Stands, Typed, is_trap, is_null, is_null_descriptor}

-- an operand below (ref null (exact x)) names an object of x itself
exact_operand :
    {ds : List Definition} (passes : Passes ds) {heap : Store} {operand : Operand} {o x : ℕ} {it : Object}
    → HasOperand (types_of ds) heap (object o) operand → fits (types_of ds) operand (value (nullable (exact x))) ≡ true → object_of heap o ≡ some it
    → it.type ≡ x
unfolding fits
exact_operand passes {x} (of_known h) e q = exact_very (has_above passes (nullable (exact x)) h e) q

module _ {b : Body} {st : State} (m : Machine) (typed : Typed b st m) (alive : st.dead ≡ false) where
  -- making

  module _ (x : ℕ) {fs : List Field} (inside : x < length b.types) (declared : fields_of (types_of b.types x).form ≡ some fs) where
    undescribed : (types_of b.types x).descriptor ≡ none → Described m.heap (types_of b.types x).descriptor none
    undescribed e = rw e no_descriptor

    described_by :
        {y o : ℕ} → (types_of b.types x).descriptor ≡ some y → Has (types_of b.types) m.heap (object o) (nullable (exact y))
        → Described m.heap (types_of b.types x).descriptor (some o)
    described_by {y} e (of_object {it = it} q below) = rw e (has_descriptor q (exact_type (types_of b.types) it.type y below))

    pub news :
        {taken left : List Operand} {vs below : List Value} → (types_of b.types x).descriptor ≡ none
        → On b m (from_top (holds_of fs)) taken left vs below → Stands b (leaving st (known (non_null (exact x)) ∷ left)) m.code
        → Does b m vs (struct_new x)
    unfolding do_op
    news e takes stands = makes_given m typed alive x none inside declared (undescribed e) (tops_of (reverse (holds_of fs)) takes) stands

    pub news_default :
        {taken left : List Operand} {vs below : List Value} → (types_of b.types x).descriptor ≡ none → every has_default (holds_of fs) ≡ true
        → On b m [] taken left vs below → Stands b (leaving st (known (non_null (exact x)) ∷ left)) m.code → Does b m vs (struct_new_default x)
    unfolding do_op
    news_default e have (done has) stands = makes_default m typed alive x none inside declared (undescribed e) have has stands

    pub news_desc :
        {taken left : List Operand} {vs below : List Value} {y : ℕ} → (types_of b.types x).descriptor ≡ some y
        → On b m (value (nullable (exact y)) ∷ from_top (holds_of fs)) taken left vs below
        → Stands b (leaving st (known (non_null (exact x)) ∷ left)) m.code → Does b m vs (struct_new_desc x)
    unfolding do_op
    news_desc e (also (of_type of_null) is more) stands = is_trap is_null_descriptor
    news_desc e (also (of_type (of_object {o = o} q below)) is more) stands =
        makes_given m typed alive x (some o) inside declared (described_by e (of_object q below)) (tops_of (reverse (holds_of fs)) more) stands

    pub news_default_desc :
        {taken left : List Operand} {vs below : List Value} {y : ℕ} → (types_of b.types x).descriptor ≡ some y → every has_default (holds_of fs) ≡ true
        → On b m (value (nullable (exact y)) ∷ []) taken left vs below → Stands b (leaving st (known (non_null (exact x)) ∷ left)) m.code
        → Does b m vs (struct_new_default_desc x)
    unfolding do_op
    news_default_desc e have (also (of_type of_null) is (done has)) stands = is_trap is_null_descriptor
    news_default_desc e have (also (of_type (of_object {o = o} q below)) is (done has)) stands =
        makes_default m typed alive x (some o) inside declared (described_by e (of_object q below)) have has stands

  -- reading and writing

  module _ (kept : Kept (types_of b.types)) where
    passes : Passes b.types
    passes = kept_passes b.types kept

    pub reads :
        {taken left : List Operand} {vs below : List Value} (x i : ℕ) {fs : List Field} {f : Field} → fields_of (types_of b.types x).form ≡ some fs
        → get_elem? fs i ≡ some f → On b m (value (nullable (defined x)) ∷ []) taken left vs below
        → Stands b (leaving st (known f.holds ∷ left)) m.code → Does b m vs (struct_get x i)
    unfolding do_op
    reads x i declared place (also (of_type of_null) is (done has)) stands = is_trap is_null
    reads x i {f = f} declared place (also (of_type (of_object {o = o} {it = it} q climb)) is (done has)) stands =
        let here = field_inside b.types kept i (typed.store.objects.well_made o q) (climb_of (types_of b.types) it.type x climb) declared place in
        rw (q, here.at_place) (stays m typed alive stands (Forall₂.cons (of_known (has_above passes f.holds here.has here.below.below)) has))

    pub writes :
        {taken left : List Operand} {vs below : List Value} (x i : ℕ) {fs : List Field} {f : Field} → fields_of (types_of b.types x).form ≡ some fs
        → get_elem? fs i ≡ some f → f.mutable ≡ true → On b m (value f.holds ∷ value (nullable (defined x)) ∷ []) taken left vs below
        → Stands b (leaving st left) m.code → Does b m vs (struct_set x i)
    unfolding do_op
    writes x i declared place mutable (also (of_type new) is (also (of_type of_null) too (done has))) stands = is_trap is_null
    writes x i declared place mutable (also {v = v} (of_type new) is (also (of_type (of_object {o = o} {it = it} q climb)) too (done has))) stands =
        let made = typed.store.objects.well_made o q in
        let here = field_inside b.types kept i made (climb_of (types_of b.types) it.type x climb) declared place in
        let suits = subst (Has (types_of b.types) m.heap v) (sym (here.below.identical mutable)) new in
        let grows = other_field_grows m.heap o i v q in
        rw (q, here.at_place)
        (changes m typed alive stands grows (other_field_typed o i typed.store.objects q made here.declared suits) (operands_later grows has))

    -- descriptors

    pub describes :
        {taken left : List Operand} {vs below : List Value} (x : ℕ) {y : ℕ} → (types_of b.types x).descriptor ≡ some y
        → On b m (value (nullable (defined x)) ∷ []) taken left vs below
        → Stands b (leaving st (put (types_of b.types) (its_descriptor x y) taken ++ left)) m.code → Does b m vs (ref_get_desc x)
    unfolding do_op put
    describes x e (also (of_type of_null) is (done has)) stands = is_trap is_null
    describes x {y} e (also {o = operand} (of_type (of_object {o = o} {it = it} q climb)) is (done has)) stands =
        let its = descriptor_there b.types kept (typed.store.objects.well_made o q) (climb_of (types_of b.types) it.type x climb) e in
        rw (q, its.carried) (stays m typed alive stands (Forall₂.cons (of_known (go its (fits (types_of b.types) operand (value (nullable (exact x)))) refl)) has))
      where
        go :
            (its : Descriptor b.types m.heap it x y) (t : Bool) → fits (types_of b.types) operand (value (nullable (exact x))) ≡ t
            → Has (types_of b.types) m.heap (object its.number) (non_null (cond t (exact y) (defined y)))
        go its true f = of_object its.there (its.exactly (exact_operand passes is f q))
        go its false f = of_object its.there its.below
