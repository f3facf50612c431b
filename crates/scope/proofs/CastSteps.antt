-- The instructions that cast: ref.test, ref.cast, the descriptor cast and the four that branch. One lemma each, from what
-- proofs/Casting.antt says of a reference that passes and of one that fails.
use mathlib.Core.Path.{◌≡◌, refl}
use mathlib.Core.Bool.{Bool, true, false, cond}
use mathlib.Core.Option.{some}
use mathlib.Core.List.Forall₂
use mathlib.Core.List.{List, [], ◌∷◌, ◌++◌, reverse}
use lib.ListN.{get_elem?}
use Rattle.scope.specs.Abstract.{Abstract, ANY}
use Rattle.scope.specs.Syntax.{Heap, abstract, i32, Val, num, ref, nullable, types_of}
use Rattle.scope.specs.Order.{val_below}
use Rattle.scope.specs.Instructions.{Cast, ref_test, ref_cast, br_on_cast, br_on_cast_fail, ref_cast_desc_eq, br_on_cast_desc_eq, br_on_cast_desc_eq_fail}
use Rattle.scope.specs.BodyRules.{value, from_top, descriptor_for, last_of, source_of, target_of, rest_of}
use Rattle.scope.specs.Bodies.{Operand, known, State, on_top, Body, start_state}
use Rattle.scope.specs.Machine.{Value, Machine, goes, traps, truth, do_op, branch, with_operands}
use Rattle.scope.specs.Refusals.{trap_cast}
use Rattle.scope.specs.Running.{program_of}
use Rattle.scope.proofs.Accepted.{Kept, kept_passes}
use Rattle.scope.proofs.HeapLaws.{has_above}
use Rattle.scope.proofs.Taking.{of_type, done, also, Tops, tops_of, tops_kept}
use Rattle.scope.proofs.Standing.{Accepts}
use Rattle.scope.proofs.Acting.{stays, branches_to}
use Rattle.scope.proofs.Casting.{cast_decided, descriptor_cast_decided, last_of_lem, one-on_top}
use Rattle.scope.proofs.Plain.{leaving, Does, On, labels_of}
use Rattle.scope.proofs.Soundness.{Has, of_number, of_null, of_object, of_known, Stands, context_for, Typed, Proceeds, is_trap, is_null_descriptor, is_cast}

module _ {b : Body} {st : State} (m : Machine) (typed : Typed b st m) (alive : st.dead ≡ false) where
  pub tests :
      {taken left : List Operand} {vs below : List Value} (n : Bool) (h : Heap) {a : Abstract}
      → On b m (value (nullable (abstract a)) ∷ []) taken left vs below → Stands b (leaving st (known (num i32) ∷ left)) m.code
      → Does b m vs (ref_test n h)
  unfolding do_op
  tests n h (also {vs = others} (of_type has_it) is (done has)) stands =
      let on : (t : Bool) → Proceeds b m.heap (goes (with_operands m (truth t ∷ others))) = λ t. stays m typed alive stands (Forall₂.cons (of_known of_number) has) in
      cast_decided n h (λ t. goes (with_operands m (truth t ∷ others))) has_it (λ passed. on true) (λ failed. on false)

  pub casts :
      {taken left : List Operand} {vs below : List Value} (n : Bool) (h : Heap) {a : Abstract}
      → On b m (value (nullable (abstract a)) ∷ []) taken left vs below → Stands b (leaving st (known (ref n h) ∷ left)) m.code
      → Does b m vs (ref_cast n h)
  unfolding do_op
  casts n h (also {v = v} {vs = others} (of_type has_it) is (done has)) stands =
      cast_decided n h (λ t. cond t (goes (with_operands m (v ∷ others))) (traps trap_cast)) has_it
      (λ passed. stays m typed alive stands (Forall₂.cons (of_known passed) has))
      (λ failed. is_trap is_cast)

  pub casts_desc :
      {taken left : List Operand} {vs below : List Value} (n : Bool) (h : Heap) {k : Heap} → Kept (types_of b.types)
      → descriptor_for (types_of b.types) h ≡ some k → On b m (value (nullable k) ∷ value (nullable (abstract ANY)) ∷ []) taken left vs below
      → Stands b (leaving st (known (ref n h) ∷ left)) m.code → Does b m vs (ref_cast_desc_eq n h)
  unfolding do_op
  casts_desc n h kept asked (also (of_type of_null) is (also (of_type has_it) too (done has))) stands = is_trap is_null_descriptor
  casts_desc n h kept asked (also (of_type (of_object q below)) is (also {v = v} {vs = others} (of_type has_it) too (done has))) stands =
      descriptor_cast_decided b.types kept n h (λ t. cond t (goes (with_operands m (v ∷ others))) (traps trap_cast)) typed.store.objects asked (of_object q below) has_it
      (λ passed. stays m typed alive stands (Forall₂.cons (of_known passed) has))
      (λ failed. is_trap is_cast)

  -- the branching ones: `init` are the values that the label takes below what is carried
  module _ (kept : Kept (types_of b.types)) (accepts : Accepts (context_for b) (start_state b.function b.locals) b.code)
      (k : Cast) (rs : List Val) {init : List Val} {last : Val}
      (label : get_elem? (labels_of b st) k.label ≡ some rs) (split : last_of rs ≡ some (init, last)) where
    carries :
        {carried : Val} {later : State} {v : Value} {left : List Operand} (ws : List Value) {vs below : List Value}
        → val_below (types_of b.types) carried last ≡ true → Has (types_of b.types) m.heap v carried
        → Tops (types_of b.types) m.heap (reverse init) left vs below
        → Stands b later m.code → later.frames ≡ st.frames
        → Proceeds b m.heap (branch (program_of b) (with_operands m ws) k.label (v ∷ vs))
    carries {v} {left} ws {vs} {below} takes has tops stands same =
        let all : Tops (types_of b.types) m.heap (reverse rs) left (v ∷ vs) below =
        rw (last_of_lem rs split) (one-on_top init last (has_above (kept_passes b.types kept) last has takes) tops) in
        branches_to m typed alive accepts k.label rs ws label all stands same

    falls_through :
        {falls : Val} {v : Value} {left : List Operand} {vs below : List Value}
        → Has (types_of b.types) m.heap v falls → Tops (types_of b.types) m.heap (reverse init) left vs below
        → Stands b (leaving st (on_top (init ++ falls ∷ []) ++ left)) m.code
        → Proceeds b m.heap (goes (with_operands m (v ∷ vs)))
    falls_through {falls} has tops stands = stays m typed alive stands (tops_kept (init ++ falls ∷ []) (one-on_top init falls has tops))

    pub branches_cast :
        {taken left : List Operand} {vs below : List Value} → val_below (types_of b.types) (target_of k) last ≡ true
        → On b m (value (source_of k) ∷ from_top init) taken left vs below → Stands b (leaving st (on_top (init ++ rest_of k ∷ []) ++ left)) m.code
        → Does b m vs (br_on_cast k)
    unfolding do_op
    branches_cast takes (also {v = v} {vs = others} (of_type has_it) is more) stands =
        let tops = tops_of (reverse init) more in
        cast_decided k.target_null k.target (λ t. cond t (branch (program_of b) (with_operands m (v ∷ others)) k.label (v ∷ others)) (goes (with_operands m (v ∷ others)))) has_it
        (λ passed. carries (v ∷ others) takes passed tops stands refl)
        (λ failed. falls_through failed tops stands)

    pub branches_cast_fail :
        {taken left : List Operand} {vs below : List Value} → val_below (types_of b.types) (rest_of k) last ≡ true
        → On b m (value (source_of k) ∷ from_top init) taken left vs below → Stands b (leaving st (on_top (init ++ target_of k ∷ []) ++ left)) m.code
        → Does b m vs (br_on_cast_fail k)
    unfolding do_op
    branches_cast_fail takes (also {v = v} {vs = others} (of_type has_it) is more) stands =
        let tops = tops_of (reverse init) more in
        cast_decided k.target_null k.target (λ t. cond t (goes (with_operands m (v ∷ others))) (branch (program_of b) (with_operands m (v ∷ others)) k.label (v ∷ others))) has_it
        (λ passed. falls_through passed tops stands)
        (λ failed. carries (v ∷ others) takes failed tops stands refl)

    pub branches_desc :
        {taken left : List Operand} {vs below : List Value} {d : Heap} → descriptor_for (types_of b.types) k.target ≡ some d
        → val_below (types_of b.types) (target_of k) last ≡ true → On b m (value (nullable d) ∷ value (source_of k) ∷ from_top init) taken left vs below
        → Stands b (leaving st (on_top (init ++ rest_of k ∷ []) ++ left)) m.code → Does b m vs (br_on_cast_desc_eq k)
    unfolding do_op
    branches_desc asked takes (also (of_type of_null) is more) stands = is_trap is_null_descriptor
    branches_desc asked takes (also {v = d} (of_type (of_object q below)) is (also {v = v} {vs = others} (of_type has_it) too more)) stands =
        let tops = tops_of (reverse init) more in
        descriptor_cast_decided b.types kept k.target_null k.target
        (λ t. cond t (branch (program_of b) (with_operands m (d ∷ v ∷ others)) k.label (v ∷ others)) (goes (with_operands m (v ∷ others))))
        typed.store.objects asked (of_object q below) has_it
        (λ passed. carries (d ∷ v ∷ others) takes passed tops stands refl)
        (λ failed. falls_through failed tops stands)

    pub branches_desc_fail :
        {taken left : List Operand} {vs below : List Value} {d : Heap} → descriptor_for (types_of b.types) k.target ≡ some d
        → val_below (types_of b.types) (rest_of k) last ≡ true → On b m (value (nullable d) ∷ value (source_of k) ∷ from_top init) taken left vs below
        → Stands b (leaving st (on_top (init ++ target_of k ∷ []) ++ left)) m.code → Does b m vs (br_on_cast_desc_eq_fail k)
    unfolding do_op
    branches_desc_fail asked takes (also (of_type of_null) is more) stands = is_trap is_null_descriptor
    branches_desc_fail asked takes (also {v = d} (of_type (of_object q below)) is (also {v = v} {vs = others} (of_type has_it) too more)) stands =
        let tops = tops_of (reverse init) more in
        descriptor_cast_decided b.types kept k.target_null k.target
        (λ t. cond t (goes (with_operands m (v ∷ others))) (branch (program_of b) (with_operands m (d ∷ v ∷ others)) k.label (v ∷ others)))
        typed.store.objects asked (of_object q below) has_it
        (λ passed. falls_through passed tops stands)
        (λ failed. carries (d ∷ v ∷ others) takes failed tops stands refl)
