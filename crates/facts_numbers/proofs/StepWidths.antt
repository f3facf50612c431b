-- A step keeps every number within its width. The machine's combinators keep it, so an instruction is one line: what is pushed was
-- there before, is a constant that was read, a test's 0 or 1, or the result of a numeric code, which fits.
use Prim.Native.Nat.{ℕ, zero, suc}
use native.Mathlib.Omega.{arith}
use mathlib.Core.Path.{◌≡◌, refl, subst}
use mathlib.Core.Bool.{Bool, true, false, cond}
use mathlib.Core.Option.{Option, none, some}
use mathlib.Core.List.{List, [], ◌∷◌, ◌++◌, reverse, reverse_aux}
use lib.ListN.{length, get_elem?, set}
use lib.Dec.{eqb}
use Rattle.scope.specs.Reading.{given}
use Rattle.scope.specs.Refusals.{trap_null, trap_cast}
use Rattle.scope.specs.Lists.{is_none}
use Rattle.scope.specs.Syntax.{Heap, Number, i32, i64, f32, f64, Val, num, ref, Types}
use Rattle.scope.specs.Order.{same_number}
use Rattle.scope.specs.Numeric.{Numeric, numeric_of}
use Rattle.scope.specs.Arithmetic.{Deed, deed_of}
use Rattle.scope.specs.Instructions.{Op, unreachable, nop, return, drop_value, br, br_if, local_get, local_set, local_tee, i32_const, i64_const, f32_const, f64_const, numeric, ref_null, ref_is_null, ref_eq, ref_as_non_null, struct_new, struct_new_default, struct_get, struct_set, ref_test, ref_cast, br_on_cast, br_on_cast_fail, struct_new_desc, struct_new_default_desc, ref_get_desc, ref_cast_desc_eq, br_on_cast_desc_eq, br_on_cast_desc_eq_fail, Instr, block, loop, end, op}
use Rattle.scope.specs.BodyRules.{fields_of, holds_of}
use Rattle.scope.specs.Bodies.{Code}
use Rattle.scope.specs.Machine.{Value, number, null, object, Object, Store, object_of, Block, Machine, Program, Outcome, goes, ends, traps, stuck, with_operands, with_control, on_i32, on_number, on_reference, on_object, on_taken, truth, split_top, has_room, make, make_given, default_of, defaults_of, make_default, on_descriptor, cast_passes, descriptor_cast_passes, same_reference, on_set, ends_left, past_ends, finish, calculate, do_numeric, jump, do_end, do_op, do_instr, step_on, step}
use Rattle.scope.proofs.Impossible.{impossible}
use Rattle.facts_codes.specs.Proper.{AreBytes, width_of, ProperOp, Proper}
use Rattle.facts_numbers.specs.Fitting.{Fits, fits_one, fits_two}
use Rattle.facts_numbers.specs.Widths.{Every, of_none, of_first, Within, number_within, null_within, object_within, LocalWithin, no_value, its_value_lem, ObjectWithin, its_fields, ProperCode, BlockWithin, block_within, loop_within, MachineWithin}
use Rattle.facts_numbers.proofs.Fitting.{results_fit}

-- lists

same_some : {A : Type 0} {x y : A} → some x ≡ some y → x ≡ y
same_some e = cc

module _ {A : Type 0} {P : A → Type 0} where
  at_place : {xs : List A} (i : ℕ) {x : A} → Every P xs → get_elem? xs i ≡ some x → P x
  at_place i of_none e = impossible cc
  at_place zero (of_first p ps) e = subst P (same_some e) p
  at_place (suc i) (of_first p ps) e = at_place i ps e

  set_place : {xs : List A} (i : ℕ) {x : A} → Every P xs → P x → Every P (set xs i x)
  set_place i of_none q = of_none
  set_place zero (of_first p ps) q = of_first q ps
  set_place (suc i) (of_first p ps) q = of_first p (set_place i ps q)

  both : {xs ys : List A} → Every P xs → Every P ys → Every P (xs ++ ys)
  both of_none qs = qs
  both (of_first p ps) qs = of_first p (both ps qs)

  turned_onto : {xs ys : List A} → Every P xs → Every P ys → Every P (reverse_aux xs ys)
  turned_onto of_none qs = qs
  turned_onto (of_first p ps) qs = turned_onto ps (of_first p qs)

  turned : {xs : List A} → Every P xs → Every P (reverse xs)
  turned ps = turned_onto ps of_none

split_within : (n : ℕ) {vs : List Value} {split : List Value × List Value} → Every Within vs → split_top n vs ≡ some split → Every Within split.0 × Every Within split.1
unfolding split_top
split_within zero {vs} ps e = subst (λ (s : List Value × List Value). Every Within s.0 × Every Within s.1) (same_some e) (of_none, ps)
split_within (suc n) of_none e = impossible cc
split_within (suc n) {vs = v ∷ vs} {split} (of_first p ps) e = go (split_top n vs) refl (λ s f. split_within n ps f) e
  where
    go : (o : Option (List Value × List Value)) → split_top n vs ≡ o → ((s : List Value × List Value) → split_top n vs ≡ some s → Every Within s.0 × Every Within s.1)
        → given o none (λ r. some (v ∷ r.0, r.1)) ≡ some split → Every Within split.0 × Every Within split.1
    go none f later e = impossible cc
    go (some s) f later e =
        let (tops, below) = later s f in
        subst (λ (s : List Value × List Value). Every Within s.0 × Every Within s.1) (same_some e) (of_first p tops, below)

past_proper : {s : List ℕ} (n : ℕ) {code : Code} → ProperCode s code → ProperCode s (past_ends n code)
unfolding past_ends
past_proper n of_none = of_none
past_proper zero (of_first p ps) = of_first p ps
past_proper (suc n) (of_first {x = i} p ps) = past_proper (ends_left i.1 n) ps

-- values

bit_within : (t : Bool) → Within (truth t)
bit_within true = number_within {k = i32} {n = 1} (omega arith)
bit_within false = number_within {k = i32} {n = 0} (omega arith)

zero-within : (k : Number) → Within (number k 0)
zero-within i32 = number_within {k = i32} {n = 0} (omega arith)
zero-within i64 = number_within {k = i64} {n = 0} (omega arith)
zero-within f32 = number_within {k = f32} {n = 0} (omega arith)
zero-within f64 = number_within {k = f64} {n = 0} (omega arith)

pub default_within : (v : Val) → LocalWithin (default_of v)
default_within (num k) = its_value_lem (zero-within k)
default_within (ref true h) = its_value_lem null_within
default_within (ref false h) = no_value

held : {v : Value} → LocalWithin (some v) → Within v
held (its_value_lem p) = p

defaults_within : (vs : List Val) {values : List Value} → defaults_of vs ≡ some values → Every Within values
unfolding defaults_of
defaults_within [] e = subst (Every Within) (same_some e) of_none
defaults_within (v ∷ vs) {values} e = go (default_of v) (default_within v) (defaults_of vs) (λ ds f. defaults_within vs f) e
  where
    go : (o : Option Value) → LocalWithin o → (r : Option (List Value)) → ((ds : List Value) → r ≡ some ds → Every Within ds)
        → given o none (λ d. given r none (λ ds. some (d ∷ ds))) ≡ some values → Every Within values
    go none p r later e = impossible cc
    go (some d) p none later e = impossible cc
    go (some d) p (some ds) later e = subst (Every Within) (same_some e) (of_first (held p) (later ds refl))

-- what a step comes to

pub data Keeps (s : List ℕ) : Outcome → Type 0 where
  going : {m : Machine} → MachineWithin s m → Keeps s (goes m)
  ending : {m : Machine} → MachineWithin s m → Keeps s (ends m)
  trapping : {n : ℕ} → Keeps s (traps n)
  failing : Keeps s stuck

fields_of_lem : {it : Object} → ObjectWithin it → Every Within it.fields
fields_of_lem (its_fields ps) = ps

module _ {s : List ℕ} where
  on-given : {A : Type 0} (o : Option A) {other : Outcome} {f : A → Outcome} → Keeps s other → ((x : A) → o ≡ some x → Keeps s (f x)) → Keeps s (given o other f)
  on-given none other k = other
  on-given (some x) other k = k x refl

  on-cond : (t : Bool) {a b : Outcome} → Keeps s a → Keeps s b → Keeps s (cond t a b)
  on-cond true a b = a
  on-cond false a b = b

  on-taken : {vs : List Value} {f : Value → List Value → Outcome} → Every Within vs → ((v : Value) (below : List Value) → Within v → Every Within below → Keeps s (f v below)) → Keeps s (on_taken vs f)
  on-taken of_none k = failing
  on-taken (of_first {x = v} {xs = below} p ps) k = k v below p ps

  on_i32_lem : (v : Value) {f : ℕ → Outcome} → ((n : ℕ) → Keeps s (f n)) → Keeps s (on_i32 v f)
  on_i32_lem (number i32 n) k = k n
  on_i32_lem (number i64 n) k = failing
  on_i32_lem (number f32 n) k = failing
  on_i32_lem (number f64 n) k = failing
  on_i32_lem null k = failing
  on_i32_lem (object o) k = failing

  on-number : (j : Number) (v : Value) {f : ℕ → Outcome} → ((n : ℕ) → Keeps s (f n)) → Keeps s (on_number j v f)
  on-number j (number i n) k = on-cond (same_number i j) (k n) failing
  on-number j null k = failing
  on-number j (object o) k = failing

  on_reference_lem : (v : Value) {f : Option ℕ → Outcome} → ((r : Option ℕ) → Keeps s (f r)) → Keeps s (on_reference v f)
  on_reference_lem (number k n) f = failing
  on_reference_lem null f = f none
  on_reference_lem (object o) f = f (some o)

  on_object_lem : {os : Store} (trap : ℕ) (v : Value) {f : ℕ → Object → Outcome} → Every ObjectWithin os → ((o : ℕ) (it : Object) → ObjectWithin it → Keeps s (f o it)) → Keeps s (on_object os trap v f)
  on_object_lem {os} trap v heap k = on_reference_lem v (λ r. on-given r trapping (λ o e. on-given (object_of os o) failing (λ it f. k o it (at_place o heap f))))

  on_descriptor_lem : {vs : List Value} {f : ℕ → List Value → Outcome} → Every Within vs → ((d : ℕ) (below : List Value) → Every Within below → Keeps s (f d below)) → Keeps s (on_descriptor vs f)
  on_descriptor_lem ps k = on-taken ps (λ v below p qs. on_reference_lem v (λ r. on-given r trapping (λ o e. k o below qs)))

  on_passes : (ts : Types) (os : Store) (n : Bool) (h : Heap) (v : Value) {f : Bool → Outcome} → ((b : Bool) → Keeps s (f b)) → Keeps s (cast_passes ts os n h v f)
  on_passes ts os n h v k = on_reference_lem v (λ r. on-given r (k n) (λ o e. on-given (object_of os o) failing (λ it f. k _)))

  on_descriptor_passes : (os : Store) (n : Bool) (d : ℕ) (v : Value) {f : Bool → Outcome} → ((b : Bool) → Keeps s (f b)) → Keeps s (descriptor_cast_passes os n d v f)
  on_descriptor_passes os n d v k = on_reference_lem v (λ r. on-given r (k n) (λ o e. on-given (object_of os o) failing (λ it f. k _)))

module _ {s : List ℕ} (p : Program) (m : Machine) (w : MachineWithin s m) where
  -- other operands
  leaves : {vs : List Value} → Every Within vs → Keeps s (goes (with_operands m vs))
  leaves ps = going (record { heap = w.heap; locals = w.locals; operands = ps; blocks = w.blocks; code = w.code })

  finishes : {vs : List Value} → Every Within vs → Keeps s (finish p m vs)
  finishes {vs} ps =
      on-given (split_top p.results vs) failing (λ split e.
      ending (record { heap = w.heap; locals = w.locals; operands = (split_within p.results ps e).0; blocks = of_none; code = of_none }))

  jumps : (l : ℕ) {bs : List Block} {vs : List Value} (k : ℕ) → Every (BlockWithin s) bs → Every Within vs → Keeps s (jump p m l bs vs k)
  unfolding jump
  jumps l zero of_none ps = finishes ps
  jumps l (suc k) of_none ps = failing
  jumps l {vs = vs} zero (of_first (block_within {n = n} below) bs) ps =
      on-given (split_top n vs) failing (λ split e.
      going (record { heap = w.heap; locals = w.locals; operands = both (split_within n ps e).0 below; blocks = bs; code = past_proper (suc l) w.code }))
  jumps l zero (of_first (loop_within below again) bs) ps =
      going (record { heap = w.heap; locals = w.locals; operands = of_none; blocks = of_first (loop_within below again) bs; code = again })
  jumps l (suc k) (of_first (block_within below) bs) ps = jumps l k bs ps
  jumps l (suc k) (of_first (loop_within below again) bs) ps = jumps l k bs ps

  branches : (l : ℕ) {vs : List Value} → Every Within vs → Keeps s (jump p m l m.blocks vs l)
  branches l ps = jumps l l w.blocks ps

  sets : (x : ℕ) {v : Value} {vs : List Value} → Within v → Every Within vs → Keeps s (on_set m x v (λ after. goes (with_operands after vs)))
  sets x q ps =
      on-given (get_elem? m.locals x) failing (λ old e.
      going (record { heap = w.heap; locals = set_place x w.locals (its_value_lem q); operands = ps; blocks = w.blocks; code = w.code }))

  makes : (x : ℕ) (d : Option ℕ) {fields below : List Value} → Every Within fields → Every Within below → Keeps s (make m x d fields below)
  makes x d {fields} fs ps =
      on-cond (has_room m.heap (length fields))
      (going (record { heap = both w.heap (of_first (its_fields fs) of_none); locals = w.locals; operands = of_first object_within ps; blocks = w.blocks; code = w.code }))
      trapping

  makes_given : (x : ℕ) (d : Option ℕ) {vs : List Value} → Every Within vs → Keeps s (make_given p m x d vs)
  makes_given x d {vs} ps =
      on-given (fields_of (p.types x).form) failing (λ fs declared.
      on-given (split_top (length fs) vs) failing (λ split e.
      let (tops, below) = split_within (length fs) ps e in
      makes x d (turned tops) below))

  makes_default : (x : ℕ) (d : Option ℕ) {vs : List Value} → Every Within vs → Keeps s (make_default p m x d vs)
  makes_default x d ps =
      on-given (fields_of (p.types x).form) failing (λ fs declared.
      on-given (defaults_of (holds_of fs)) failing (λ values e. makes x d (defaults_within (holds_of fs) e) ps))

  calculates : (kinds : Numeric) {deed : Deed} {vs : List Value} → Fits (width_of kinds.result) deed → Every Within vs → Keeps s (calculate m kinds vs deed)
  calculates kinds (fits_one fits) ps =
      on-taken ps (λ v below q qs. on-number kinds.kind v (λ a. leaves (of_first (number_within {k = kinds.result} (fits a)) qs)))
  calculates kinds (fits_two fits) ps =
      on-taken ps (λ u others q qs.
      on-taken qs (λ v below r rs.
      on-number kinds.kind u (λ b. on-number kinds.kind v (λ a. leaves (of_first (number_within {k = kinds.result} (fits a b)) rs)))))

  numerically : (code : ℕ) {vs : List Value} → Every Within vs → Keeps s (do_numeric m vs code)
  unfolding do_numeric
  numerically code ps =
      on-given (deed_of code) trapping (λ deed e.
      on-given (numeric_of code) failing (λ kinds is. calculates kinds (results_fit.results code e is) ps))

  op_keeps : AreBytes s → {vs : List Value} → Every Within vs → (o : Op) → ProperOp s o → Keeps s (do_op p m vs o)
  unfolding do_op
  op_keeps bytes ps unreachable proper = trapping
  op_keeps bytes ps nop proper = going w
  op_keeps bytes ps return proper = finishes ps
  op_keeps bytes ps drop_value proper = on-taken ps (λ v below q qs. leaves qs)
  op_keeps bytes ps (br l) proper = branches l ps
  op_keeps bytes ps (br_if l) proper = on-taken ps (λ v below q qs. on_i32_lem v (λ n. on-cond (eqb n 0) (leaves qs) (branches l qs)))
  op_keeps bytes ps (local_get x) proper =
      on-given (get_elem? m.locals x) failing (λ it e. on-given it failing (λ v f. leaves (of_first (held (subst LocalWithin f (at_place x w.locals e))) ps)))
  op_keeps bytes ps (local_set x) proper = on-taken ps (λ v below q qs. sets x q qs)
  op_keeps bytes ps (local_tee x) proper = on-taken ps (λ v below q qs. sets x q w.operands)
  op_keeps bytes ps (i32_const n) proper = leaves (of_first (number_within {k = i32} proper) ps)
  op_keeps bytes ps (i64_const n) proper = leaves (of_first (number_within {k = i64} proper) ps)
  op_keeps bytes ps (f32_const n) proper = leaves (of_first (number_within {k = f32} (proper bytes)) ps)
  op_keeps bytes ps (f64_const n) proper = leaves (of_first (number_within {k = f64} (proper bytes)) ps)
  op_keeps bytes ps (numeric code) proper = numerically code ps
  op_keeps bytes ps (ref_null h) proper = leaves (of_first null_within ps)
  op_keeps bytes ps ref_is_null proper = on-taken ps (λ v below q qs. on_reference_lem v (λ r. leaves (of_first (bit_within (is_none r)) qs)))
  op_keeps bytes ps ref_eq proper =
      on-taken ps (λ v others q qs. on-taken qs (λ u below r rs. on_reference_lem v (λ x. on_reference_lem u (λ y. leaves (of_first (bit_within (same_reference x y)) rs)))))
  op_keeps bytes ps ref_as_non_null proper = on-taken ps (λ v below q qs. on_reference_lem v (λ r. on-given r trapping (λ o e. leaves (of_first object_within qs))))
  op_keeps bytes ps (struct_new x) proper = makes_given x none ps
  op_keeps bytes ps (struct_new_default x) proper = makes_default x none ps
  op_keeps bytes ps (struct_get x i) proper =
      on-taken ps (λ v below q qs.
      on_object_lem trap_null v w.heap (λ o it within. on-given (get_elem? it.fields i) failing (λ u e. leaves (of_first (at_place i (fields_of_lem within) e) qs))))
  op_keeps bytes ps (struct_set x i) proper =
      on-taken ps (λ new others q qs.
      on-taken qs (λ v below r rs.
      on_object_lem trap_null v w.heap (λ o it within.
      on-given (get_elem? it.fields i) failing (λ old e.
      going (record {
        heap = set_place o w.heap (its_fields (set_place i (fields_of_lem within) q));
        locals = w.locals;
        operands = rs;
        blocks = w.blocks;
        code = w.code;
      })))))
  op_keeps bytes ps (ref_test n h) proper = on-taken ps (λ v below q qs. on_passes p.types m.heap n h v (λ b. leaves (of_first (bit_within b) qs)))
  op_keeps bytes ps (ref_cast n h) proper = on-taken ps (λ v below q qs. on_passes p.types m.heap n h v (λ b. on-cond b (leaves (of_first q qs)) (trapping {n = trap_cast})))
  op_keeps bytes ps (br_on_cast k) proper =
      on-taken ps (λ v below q qs. on_passes p.types m.heap k.target_null k.target v (λ b. on-cond b (branches k.label ps) (going w)))
  op_keeps bytes ps (br_on_cast_fail k) proper =
      on-taken ps (λ v below q qs. on_passes p.types m.heap k.target_null k.target v (λ b. on-cond b (going w) (branches k.label ps)))
  op_keeps bytes ps (struct_new_desc x) proper = on_descriptor_lem ps (λ d below qs. makes_given x (some d) qs)
  op_keeps bytes ps (struct_new_default_desc x) proper = on_descriptor_lem ps (λ d below qs. makes_default x (some d) qs)
  op_keeps bytes ps (ref_get_desc x) proper =
      on-taken ps (λ v below q qs. on_object_lem trap_null v w.heap (λ o it within. on-given it.descriptor failing (λ d e. leaves (of_first object_within qs))))
  op_keeps bytes ps (ref_cast_desc_eq n h) proper =
      on_descriptor_lem ps (λ d others qs. on-taken qs (λ v below r rs. on_descriptor_passes m.heap n d v (λ b. on-cond b (leaves qs) (trapping {n = trap_cast}))))
  op_keeps bytes ps (br_on_cast_desc_eq k) proper =
      on_descriptor_lem ps (λ d others qs.
      on-taken qs (λ v below r rs. on_descriptor_passes m.heap k.target_null d v (λ b. on-cond b (branches k.label qs) (leaves qs))))
  op_keeps bytes ps (br_on_cast_desc_eq_fail k) proper =
      on_descriptor_lem ps (λ d others qs.
      on-taken qs (λ v below r rs. on_descriptor_passes m.heap k.target_null d v (λ b. on-cond b (leaves qs) (branches k.label qs))))

  closes : {bs : List Block} → Every (BlockWithin s) bs → Keeps s (do_end p m bs)
  closes of_none = finishes w.operands
  closes (of_first (block_within below) bs) = going (record { heap = w.heap; locals = w.locals; operands = both w.operands below; blocks = bs; code = w.code })
  closes (of_first (loop_within below again) bs) = going (record { heap = w.heap; locals = w.locals; operands = both w.operands below; blocks = bs; code = w.code })

  instr_keeps : AreBytes s → (at : ℕ) (i : Instr) → Proper s i → Keeps s (do_instr p m at i)
  unfolding do_instr
  instr_keeps bytes at (block rs) proper =
      going (record { heap = w.heap; locals = w.locals; operands = of_none; blocks = of_first (block_within w.operands) w.blocks; code = w.code })
  instr_keeps bytes at (loop rs) proper =
      going (record { heap = w.heap; locals = w.locals; operands = of_none; blocks = of_first (loop_within w.operands w.code) w.blocks; code = w.code })
  instr_keeps bytes at end proper = closes w.blocks
  instr_keeps bytes at (op o) proper = op_keeps bytes w.operands o proper

pub step_keeps : {s : List ℕ} → AreBytes s → (p : Program) {m : Machine} → MachineWithin s m → Keeps s (step p m)
unfolding step
step_keeps {s} bytes p {m} w = go w.code
  where
    go : {code : Code} → ProperCode s code → Keeps s (step_on p m code)
    go of_none = failing
    go (of_first {x = i} {xs = code} proper ps) =
        instr_keeps p (with_control m m.operands m.blocks code) (record { heap = w.heap; locals = w.locals; operands = w.operands; blocks = w.blocks; code = ps }) bytes i.0 i.1 proper
