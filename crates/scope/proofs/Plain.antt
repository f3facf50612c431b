-- The instructions that neither make nor look into an object: control, locals, numbers, null. One lemma each: from operands
-- that the plan takes, the machine goes on typed against the state after the plan, branches, ends or traps.
use Prim.Native.Nat.{ℕ}
use mathlib.Core.Path.{◌≡◌, refl}
use mathlib.Core.Bool.{true, false}
use mathlib.Core.Option.{some}
use mathlib.Core.List.Forall₂
use mathlib.Core.List.{List, [], ◌∷◌, ◌++◌, map, reverse}
use lib.ListN.{get_elem?, get_or, set}
use lib.Dec.{eqb}
use Rattle.scope.specs.Abstract.{EQ}
use Rattle.scope.specs.Syntax.{Heap, abstract, Number, i32, Val, num, nullable, types_of}
use Rattle.scope.specs.Instructions.{Op, nop, return, drop_value, br, br_if, local_get, local_set, local_tee, ref_null, ref_is_null, ref_eq, ref_as_non_null}
use Rattle.scope.specs.BodyRules.{Wanted, value, any_value, any_reference, from_top, it_non_null}
use Rattle.scope.specs.Bodies.{Operand, known, label_of, State, on_top, put, Body, start_state}
use Rattle.scope.specs.Machine.{Value, number, Machine, goes, do_op, with_operands}
use Rattle.scope.specs.Running.{program_of}
use Rattle.scope.proofs.Pairs.{at_second}
use Rattle.scope.proofs.Taking.{of_type, a_null, an_object, Takes, done, also, tops_of, tops_kept}
use Rattle.scope.proofs.Standing.{Accepts}
use Rattle.scope.proofs.Branching.{finishes}
use Rattle.scope.proofs.Acting.{either_side, stays, sets, branches_to, covered}
use Rattle.scope.proofs.Soundness.{of_number, of_null, of_object, HasOperand, of_known, HasLocal, its_value, Stands, context_for, Typed, Proceeds, is_trap, is_null}

-- the state after a plan that leaves these operands
abbrev pub leaving : State → List Operand → State
leaving st os = record { frames = st.frames; operands = os; dead = st.dead; is_set = st.is_set }

-- and marks a local
abbrev pub marking : State → ℕ → List Operand → State
marking st x os = record { frames = st.frames; operands = os; dead = st.dead; is_set = set st.is_set x true }

-- what a step of this instruction on the operands `vs` comes to
abbrev pub Does : Body → Machine → List Value → Op → Type 0
Does b m vs o = Proceeds b m.heap (do_op (program_of b) (with_operands m vs) vs o)

abbrev pub On : Body → Machine → List Wanted → List Operand → List Operand → List Value → List Value → Type 0
On b m ws taken left vs below = Takes (types_of b.types) m.heap ws taken left vs below

-- the labels of the open blocks, innermost first, and the function's own
abbrev pub labels_of : Body → State → List (List Val)
labels_of b st = map label_of st.frames ++ b.function.results ∷ []

module _ {b : Body} {st : State} (m : Machine) (typed : Typed b st m) (alive : st.dead ≡ false) where
  pub skips : {taken left : List Operand} {vs below : List Value} → On b m [] taken left vs below → Stands b (leaving st left) m.code → Does b m vs nop
  unfolding do_op
  skips (done has) stands = stays m typed alive stands has

  pub returns : {taken left : List Operand} {vs below : List Value} → On b m (from_top b.function.results) taken left vs below → Does b m vs return
  unfolding do_op
  returns {vs} takes = finishes (with_operands m vs) typed.store (tops_of (reverse b.function.results) takes)

  pub drops :
      {taken left : List Operand} {vs below : List Value} → On b m (any_value ∷ []) taken left vs below → Stands b (leaving st left) m.code
      → Does b m vs drop_value
  unfolding do_op
  drops (also any is (done has)) stands = stays m typed alive stands has

  -- locals

  pub gets :
      {taken left : List Operand} {vs below : List Value} (x : ℕ) {t : Val} → get_elem? (context_for b).locals x ≡ some t
      → get_or st.is_set x false ≡ true → On b m [] taken left vs below → Stands b (leaving st (known t ∷ left)) m.code → Does b m vs (local_get x)
  unfolding do_op
  gets x {t} e set (done has) stands =
      let (held, there, is) = at_second x typed.store.values e in
      let (v, same) = covered x typed.set set there in
      let itself : HasLocal (types_of b.types) m.heap (some v) t = rw same at is in
      rw (there, same) (stays m typed alive stands (Forall₂.cons (go itself) has))
    where
      go : {v : Value} → HasLocal (types_of b.types) m.heap (some v) t → HasOperand (types_of b.types) m.heap v (known t)
      go (its_value h) = of_known h

  pub sets_local :
      {taken left : List Operand} {vs below : List Value} (x : ℕ) {t : Val} → get_elem? (context_for b).locals x ≡ some t
      → On b m (value t ∷ []) taken left vs below → Stands b (marking st x left) m.code → Does b m vs (local_set x)
  unfolding do_op
  sets_local x e (also (of_type h) is (done has)) stands =
      let (held, there, old) = at_second x typed.store.values e in
      rw there (sets m typed alive x e h stands has)

  pub tees_local :
      {taken left : List Operand} {vs below : List Value} (x : ℕ) {t : Val} → get_elem? (context_for b).locals x ≡ some t
      → On b m (value t ∷ []) taken left vs below → Stands b (marking st x (known t ∷ left)) m.code → Does b m vs (local_tee x)
  unfolding do_op
  tees_local x e (also (of_type h) is (done has)) stands =
      let (held, there, old) = at_second x typed.store.values e in
      rw there (sets m typed alive x e h stands (Forall₂.cons (of_known h) has))

  -- values

  -- a constant of any kind
  pub numbers :
      {taken left : List Operand} {vs below : List Value} (k : Number) (n : ℕ) → On b m [] taken left vs below
      → Stands b (leaving st (known (num k) ∷ left)) m.code → Proceeds b m.heap (goes (with_operands m (number k n ∷ vs)))
  numbers k n (done has) stands = stays m typed alive stands (Forall₂.cons (of_known of_number) has)

  pub nulls :
      {taken left : List Operand} {vs below : List Value} (h : Heap) → On b m [] taken left vs below
      → Stands b (leaving st (known (nullable h) ∷ left)) m.code → Does b m vs (ref_null h)
  unfolding do_op
  nulls h (done has) stands = stays m typed alive stands (Forall₂.cons (of_known of_null) has)

  pub asks_null :
      {taken left : List Operand} {vs below : List Value} → On b m (any_reference ∷ []) taken left vs below
      → Stands b (leaving st (known (num i32) ∷ left)) m.code → Does b m vs ref_is_null
  unfolding do_op
  asks_null (also a_null is (done has)) stands = stays m typed alive stands (Forall₂.cons (of_known of_number) has)
  asks_null (also (an_object e) is (done has)) stands = stays m typed alive stands (Forall₂.cons (of_known of_number) has)

  pub compares :
      {taken left : List Operand} {vs below : List Value}
      → On b m (value (nullable (abstract EQ)) ∷ value (nullable (abstract EQ)) ∷ []) taken left vs below
      → Stands b (leaving st (known (num i32) ∷ left)) m.code → Does b m vs ref_eq
  unfolding do_op
  compares (also (of_type of_null) is (also (of_type of_null) too (done has))) stands = stays m typed alive stands (Forall₂.cons (of_known of_number) has)
  compares (also (of_type of_null) is (also (of_type (of_object f q)) too (done has))) stands = stays m typed alive stands (Forall₂.cons (of_known of_number) has)
  compares (also (of_type (of_object e p)) is (also (of_type of_null) too (done has))) stands = stays m typed alive stands (Forall₂.cons (of_known of_number) has)
  compares (also (of_type (of_object e p)) is (also (of_type (of_object f q)) too (done has))) stands = stays m typed alive stands (Forall₂.cons (of_known of_number) has)

  -- the reference that was taken, not null
  pub refuses_null :
      {taken left : List Operand} {vs below : List Value} → On b m (any_reference ∷ []) taken left vs below
      → Stands b (leaving st (put (types_of b.types) it_non_null taken ++ left)) m.code → Does b m vs ref_as_non_null
  unfolding do_op put
  refuses_null (also a_null is (done has)) stands = is_trap is_null
  refuses_null (also (an_object e) (of_known (of_object f q)) (done has)) stands = stays m typed alive stands (Forall₂.cons (of_known (of_object f q)) has)

  -- branches

  module _ (accepts : Accepts (context_for b) (start_state b.function b.locals) b.code) where
    pub branches_always :
        {taken left : List Operand} {vs below : List Value} (l : ℕ) (rs : List Val) {later : State} → get_elem? (labels_of b st) l ≡ some rs
        → On b m (from_top rs) taken left vs below → Stands b later m.code → later.frames ≡ st.frames → Does b m vs (br l)
    unfolding do_op
    branches_always {vs} l rs e takes stands same = branches_to m typed alive accepts l rs vs e (tops_of (reverse rs) takes) stands same

    pub branches_if :
        {taken left : List Operand} {vs below : List Value} (l : ℕ) (rs : List Val) → get_elem? (labels_of b st) l ≡ some rs
        → On b m (value (num i32) ∷ from_top rs) taken left vs below → Stands b (leaving st (on_top rs ++ left)) m.code → Does b m vs (br_if l)
    unfolding do_op
    branches_if l rs e (also (of_type (of_number {n = n})) is more) stands =
        let tops = tops_of (reverse rs) more in
        either_side (eqb n 0) (λ falls. stays m typed alive stands (tops_kept rs tops)) (λ goes. branches_to m typed alive accepts l rs _ e tops stands refl)
