-- Which traps an outcome may be. The machine's combinators say no trap of their own but 42, 43 and 44, `unreachable` 41, an
-- allocation 45, and a numeric code that has no line in specs/Arithmetic.antt 46. So what holds of those numbers holds of every
-- trap; one line for each instruction.
use Prim.Native.Nat.{ℕ, zero, suc}
use mathlib.Core.Path.{◌≡◌, refl, subst}
use mathlib.Core.Bool.{Bool, true, false, cond}
use mathlib.Core.Option.{Option, none, some}
use mathlib.Core.List.{List, [], ◌∷◌, reverse}
use lib.Dec.{eqb}
use lib.ListN.{length, get_elem?}
use Rattle.scope.specs.Refusals.{trap_unreachable, trap_null, trap_null_descriptor, trap_cast, trap_no_room, trap_other_numeric}
use Rattle.scope.specs.Reading.{given}
use Rattle.scope.specs.Syntax.{Heap, Number, i32, i64, f32, f64, Types}
use Rattle.scope.specs.BodyRules.{fields_of, holds_of}
use Rattle.scope.specs.Order.{same_number}
use Rattle.scope.specs.Numeric.{Numeric, numeric_of}
use Rattle.scope.specs.Arithmetic.{Deed, of_one, of_two, deed_of}
use Rattle.scope.specs.Instructions.{Op, unreachable, nop, return, drop_value, br, br_if, local_get, local_set, local_tee, i32_const, i64_const, f32_const, f64_const, numeric, ref_null, ref_is_null, ref_eq, ref_as_non_null, struct_new, struct_new_default, struct_get, struct_set, ref_test, ref_cast, br_on_cast, br_on_cast_fail, struct_new_desc, struct_new_default_desc, ref_get_desc, ref_cast_desc_eq, br_on_cast_desc_eq, br_on_cast_desc_eq_fail}
use Rattle.scope.specs.Machine.{Value, number, null, object, Object, Store, Block, open_block, open_loop, Machine, Program, Outcome, goes, ends, traps, stuck, with_operands, on_i32, on_number, on_reference, on_object, on_taken, truth, calculate, do_numeric, split_top, has_room, make, make_given, defaults_of, make_default, on_descriptor, cast_passes, descriptor_cast_passes, on_set, finish, jump, do_op}
use Rattle.scope.proofs.Impossible.{contradiction}
use Rattle.facts_runs.specs.Counting.{makes_object}

-- of a trap, P of its number
pub data Other (P : ℕ → Type 0) : Outcome → Type 0 where
  goes_on_lem : {m : Machine} → Other P (goes m)
  is_done_lem : {m : Machine} → Other P (ends m)
  is_stuck : Other P stuck
  other_trap : {n : ℕ} → P n → Other P (traps n)

same_trap : {n k : ℕ} → ◌≡◌ {A = Outcome} (traps n) (traps k) → n ≡ k
same_trap e = cc

pub told : {P : ℕ → Type 0} {o : Outcome} {n : ℕ} → Other P o → o ≡ traps n → P n
told goes_on_lem e = absurd (contradiction cc)
told is_done_lem e = absurd (contradiction cc)
told is_stuck e = absurd (contradiction cc)
told {P} (other_trap p) e = subst P (same_trap e) p

-- of the four that any instruction may say
pub record Each (P : ℕ → Type 0) : Type 0 where
  pub unreachable : P trap_unreachable
  pub null : P trap_null
  pub null_descriptor : P trap_null_descriptor
  pub cast : P trap_cast

module _ {P : ℕ → Type 0} (each : Each P) where
  other_given : {A : Type 0} (o : Option A) {f : A → Outcome} → ((x : A) → Other P (f x)) → Other P (given o stuck f)
  other_given none k = is_stuck
  other_given (some x) k = k x

  other_cond : (t : Bool) {a b : Outcome} → Other P a → Other P b → Other P (cond t a b)
  other_cond true a b = a
  other_cond false a b = b

  other_taken : (vs : List Value) {f : Value → List Value → Outcome} → ((v : Value) (below : List Value) → Other P (f v below)) → Other P (on_taken vs f)
  other_taken [] k = is_stuck
  other_taken (v ∷ vs) k = k v vs

  other_reference : (v : Value) {f : Option ℕ → Outcome} → ((r : Option ℕ) → Other P (f r)) → Other P (on_reference v f)
  other_reference (number k n) f = is_stuck
  other_reference null f = f none
  other_reference (object o) f = f (some o)

  other_i32 : (v : Value) {f : ℕ → Outcome} → ((n : ℕ) → Other P (f n)) → Other P (on_i32 v f)
  other_i32 (number i32 n) f = f n
  other_i32 (number i64 n) f = is_stuck
  other_i32 (number f32 n) f = is_stuck
  other_i32 (number f64 n) f = is_stuck
  other_i32 null f = is_stuck
  other_i32 (object o) f = is_stuck

  other_number_lem : (k : Number) (v : Value) {f : ℕ → Outcome} → ((n : ℕ) → Other P (f n)) → Other P (on_number k v f)
  other_number_lem k (number j n) f = other_cond (same_number j k) (f n) is_stuck
  other_number_lem k null f = is_stuck
  other_number_lem k (object o) f = is_stuck

  other_calculate : (m : Machine) (kinds : Numeric) (vs : List Value) (deed : Deed) → Other P (calculate m kinds vs deed)
  other_calculate m kinds vs (of_one f) = other_taken vs (λ v below. other_number_lem kinds.kind v (λ a. goes_on_lem))
  other_calculate m kinds vs (of_two f) =
      other_taken vs (λ w others. other_taken others (λ v below. other_number_lem kinds.kind w (λ b. other_number_lem kinds.kind v (λ a. goes_on_lem))))

  other_numeric : (m : Machine) (vs : List Value) (b : ℕ) → (deed_of b ≡ none → P trap_other_numeric) → Other P (do_numeric m vs b)
  unfolding do_numeric
  other_numeric m vs b last = go (deed_of b) refl
    where
      go : (o : Option Deed) → deed_of b ≡ o → Other P (given o (traps trap_other_numeric) (λ deed. given (numeric_of b) stuck (λ kinds. calculate m kinds vs deed)))
      go none e = other_trap (last e)
      go (some deed) e = other_given (numeric_of b) (λ kinds. other_calculate m kinds vs deed)

  other_null : (r : Option ℕ) {f : ℕ → Outcome} → ((o : ℕ) → Other P (f o)) → Other P (given r (traps trap_null) f)
  other_null none k = other_trap each.null
  other_null (some o) k = k o

  other_object : (os : Store) (v : Value) {f : ℕ → Object → Outcome} → ((o : ℕ) (it : Object) → Other P (f o it)) → Other P (on_object os trap_null v f)
  other_object os v k = other_reference v (λ r. other_null r (λ o. other_given (get_elem? os o) (λ it. k o it)))

  other_descriptor : (vs : List Value) {f : ℕ → List Value → Outcome} → ((d : ℕ) (below : List Value) → Other P (f d below)) → Other P (on_descriptor vs f)
  other_descriptor vs {f} k = other_taken vs (λ v below. other_reference v (λ r. go r below))
    where
      go : (r : Option ℕ) (below : List Value) → Other P (given r (traps trap_null_descriptor) (λ o. f o below))
      go none below = other_trap each.null_descriptor
      go (some o) below = k o below

  other_passes : (ts : Types) (os : Store) (n : Bool) (h : Heap) (v : Value) {f : Bool → Outcome} → ((b : Bool) → Other P (f b)) → Other P (cast_passes ts os n h v f)
  other_passes ts os n h (number k m) f = is_stuck
  other_passes ts os n h null f = f n
  other_passes ts os n h (object o) f = other_given (get_elem? os o) (λ x. f _)

  other_passes_descriptor : (os : Store) (n : Bool) (d : ℕ) (v : Value) {f : Bool → Outcome} → ((b : Bool) → Other P (f b)) → Other P (descriptor_cast_passes os n d v f)
  other_passes_descriptor os n d (number k m) f = is_stuck
  other_passes_descriptor os n d null f = f n
  other_passes_descriptor os n d (object o) f = other_given (get_elem? os o) (λ x. f _)

  other_finish : (p : Program) (m : Machine) (vs : List Value) → Other P (finish p m vs)
  other_finish p m vs = other_given (split_top p.results vs) (λ s. is_done_lem)

  other_jump : (p : Program) (m : Machine) (l : ℕ) (bs : List Block) (vs : List Value) (k : ℕ) → Other P (jump p m l bs vs k)
  unfolding jump
  other_jump p m l [] vs zero = other_finish p m vs
  other_jump p m l [] vs (suc k) = is_stuck
  other_jump p m l (open_block at n below ∷ bs) vs zero = other_given (split_top n vs) (λ s. goes_on_lem)
  other_jump p m l (open_loop at below again ∷ bs) vs zero = goes_on_lem
  other_jump p m l (b ∷ bs) vs (suc k) = other_jump p m l bs vs k

  other_set : (m : Machine) (x : ℕ) (v : Value) {f : Machine → Outcome} → ((after : Machine) → Other P (f after)) → Other P (on_set m x v f)
  other_set m x v k = other_given (get_elem? m.locals x) (λ old. k _)

  other_make : (m : Machine) (x : ℕ) (d : Option ℕ) (fields below : List Value) → P trap_no_room → Other P (make m x d fields below)
  other_make m x d fields below room = other_cond (has_room m.heap (length fields)) goes_on_lem (other_trap room)

  other_given_fields : (p : Program) (m : Machine) (x : ℕ) (d : Option ℕ) (vs : List Value) → P trap_no_room → Other P (make_given p m x d vs)
  other_given_fields p m x d vs room =
      other_given (fields_of (p.types x).form) (λ fs. other_given (split_top (length fs) vs) (λ s. other_make m x d (reverse s.0) s.1 room))

  other_default_fields : (p : Program) (m : Machine) (x : ℕ) (d : Option ℕ) (vs : List Value) → P trap_no_room → Other P (make_default p m x d vs)
  other_default_fields p m x d vs room =
      other_given (fields_of (p.types x).form) (λ fs. other_given (defaults_of (holds_of fs)) (λ values. other_make m x d values vs room))

  -- an instruction: 45 is said by an allocation, 46 by a numeric code that has no line
  pub other_op :
      (p : Program) (m : Machine) (vs : List Value) (o : Op) → (makes_object o ≡ true → P trap_no_room)
      → ((b : ℕ) → o ≡ numeric b → deed_of b ≡ none → P trap_other_numeric) → Other P (do_op p m vs o)
  unfolding do_op
  other_op p m vs unreachable room last = other_trap each.unreachable
  other_op p m vs nop room last = goes_on_lem
  other_op p m vs return room last = other_finish p m vs
  other_op p m vs drop_value room last = other_taken vs (λ v below. goes_on_lem)
  other_op p m vs (br l) room last = other_jump p m l m.blocks vs l
  other_op p m vs (br_if l) room last = other_taken vs (λ v below. other_i32 v (λ n. other_cond (eqb n 0) (goes_on_lem {m = with_operands m below}) (other_jump p m l m.blocks below l)))
  other_op p m vs (local_get x) room last = other_given (get_elem? m.locals x) (λ held. other_given held (λ v. goes_on_lem))
  other_op p m vs (local_set x) room last = other_taken vs (λ v below. other_set m x v (λ after. goes_on_lem {m = with_operands after below}))
  other_op p m vs (local_tee x) room last = other_taken vs (λ v below. other_set m x v (λ after. goes_on_lem {m = after}))
  other_op p m vs (i32_const n) room last = goes_on_lem
  other_op p m vs (i64_const n) room last = goes_on_lem
  other_op p m vs (f32_const n) room last = goes_on_lem
  other_op p m vs (f64_const n) room last = goes_on_lem
  other_op p m vs (numeric b) room last = other_numeric m vs b (last b refl)
  other_op p m vs (ref_null h) room last = goes_on_lem
  other_op p m vs ref_is_null room last = other_taken vs (λ v below. other_reference v (λ r. goes_on_lem))
  other_op p m vs ref_eq room last = other_taken vs (λ v others. other_taken others (λ w below. other_reference v (λ r. other_reference w (λ q. goes_on_lem))))
  other_op p m vs ref_as_non_null room last = other_taken vs (λ v below. other_reference v (λ r. other_null r (λ o. goes_on_lem)))
  other_op p m vs (struct_new x) room last = other_given_fields p m x none vs (room refl)
  other_op p m vs (struct_new_default x) room last = other_default_fields p m x none vs (room refl)
  other_op p m vs (struct_get x i) room last = other_taken vs (λ v below. other_object m.heap v (λ o it. other_given (get_elem? it.fields i) (λ held. goes_on_lem)))
  other_op p m vs (struct_set x i) room last = other_taken vs (λ new others. other_taken others (λ v below. other_object m.heap v (λ o it. other_given (get_elem? it.fields i) (λ old. goes_on_lem))))
  other_op p m vs (ref_test n h) room last = other_taken vs (λ v below. other_passes p.types m.heap n h v (λ b. goes_on_lem {m = with_operands m (truth b ∷ below)}))
  other_op p m vs (ref_cast n h) room last = other_taken vs (λ v below. other_passes p.types m.heap n h v (λ b. other_cond b (goes_on_lem {m = with_operands m (v ∷ below)}) (other_trap each.cast)))
  other_op p m vs (br_on_cast k) room last = other_taken vs (λ v below. other_passes p.types m.heap k.target_null k.target v (λ b. other_cond b (other_jump p m k.label m.blocks vs k.label) (goes_on_lem {m = m})))
  other_op p m vs (br_on_cast_fail k) room last = other_taken vs (λ v below. other_passes p.types m.heap k.target_null k.target v (λ b. other_cond b (goes_on_lem {m = m}) (other_jump p m k.label m.blocks vs k.label)))
  other_op p m vs (struct_new_desc x) room last = other_descriptor vs (λ d below. other_given_fields p m x (some d) below (room refl))
  other_op p m vs (struct_new_default_desc x) room last = other_descriptor vs (λ d below. other_default_fields p m x (some d) below (room refl))
  other_op p m vs (ref_get_desc x) room last = other_taken vs (λ v below. other_object m.heap v (λ o it. other_given it.descriptor (λ d. goes_on_lem)))
  other_op p m vs (ref_cast_desc_eq n h) room last = other_descriptor vs (λ d others. other_taken others (λ v below. other_passes_descriptor m.heap n d v (λ b. other_cond b (goes_on_lem {m = with_operands m others}) (other_trap each.cast))))
  other_op p m vs (br_on_cast_desc_eq k) room last = other_descriptor vs (λ d others. other_taken others (λ v below. other_passes_descriptor m.heap k.target_null d v (λ b. other_cond b (other_jump p m k.label m.blocks others k.label) (goes_on_lem {m = with_operands m others}))))
  other_op p m vs (br_on_cast_desc_eq_fail k) room last = other_descriptor vs (λ d others. other_taken others (λ v below. other_passes_descriptor m.heap k.target_null d v (λ b. other_cond b (goes_on_lem {m = with_operands m others}) (other_jump p m k.label m.blocks others k.label))))
