-- What a step does. An outcome goes on or ends with a machine of which something is said, or it traps or is stuck. The
-- machine's own combinators keep that, so each instruction is one line: every one but a branch keeps blocks and code, and
-- every one but the four allocations keeps the number of objects, which they raise by one.
use Prim.Native.Nat.{ℕ, zero, suc, ◌≤◌, ◌<◌}
use native.Mathlib.Omega.{arith}
use native.Mathlib.Nat.{le_refl}
use mathlib.Core.Path.{◌≡◌, refl}
use mathlib.Core.Bool.{Bool, true, false, cond}
use mathlib.Core.Option.{Option, none, some}
use mathlib.Core.List.{List, [], ◌∷◌, reverse}
use lib.ListN.{length, get_elem?, length-append, length-set}
use lib.Dec.{eqb}
use Rattle.scope.specs.Reading.{given}
use Rattle.scope.specs.Refusals.{trap_null}
use Rattle.scope.specs.Syntax.{Heap, exact, Types, Number, i32, i64, f32, f64}
use Rattle.scope.specs.Order.{same_number, heap_below}
use Rattle.scope.specs.Numeric.{Numeric, numeric_of}
use Rattle.scope.specs.Arithmetic.{Deed, of_one, of_two, deed_of}
use Rattle.scope.specs.Instructions.{Op, unreachable, nop, return, drop_value, br, br_if, local_get, local_set, local_tee, i32_const, i64_const, f32_const, f64_const, numeric, ref_null, ref_is_null, ref_eq, ref_as_non_null, struct_new, struct_new_default, struct_get, struct_set, ref_test, ref_cast, br_on_cast, br_on_cast_fail, struct_new_desc, struct_new_default_desc, ref_get_desc, ref_cast_desc_eq, br_on_cast_desc_eq, br_on_cast_desc_eq_fail, Instr, block, loop, end, op}
use Rattle.scope.specs.BodyRules.{fields_of, holds_of}
use Rattle.scope.specs.Bodies.{Code}
use Rattle.scope.specs.Machine.{Value, number, null, object, Object, Store, object_of, with_new, Block, open_block, open_loop, Machine, Program, Outcome, goes, ends, traps, stuck, truth, with_control, on_i32, on_number, on_reference, on_object, on_taken, split_top, calculate, do_numeric, make, has_room, defaults_of, make_given, make_default, on_descriptor, cast_passes, is_very, descriptor_cast_passes, finish, jump, branch, do_end, do_op, do_instr, step_on, step}
use Rattle.facts_runs.specs.Counting.{makes_object, is_allocation, starts_with_allocation, allocates, one_more_if}
use Rattle.facts_runs.proofs.Straight.{Straight, past_no_longer, straight_op, straight_block, straight_no-loop, straight_end, no-loop_open, Seeks, seeks_first, seeks_next, found_block, found_no-loop}

-- where the run goes on, P; where it ends, Q
pub data Comes (P Q : Machine → Type 0) : Outcome → Type 0 where
  going : {n : Machine} → P n → Comes P Q (goes n)
  ending : {n : Machine} → Q n → Comes P Q (ends n)
  trapping : {number : ℕ} → Comes P Q (traps number)
  failing : Comes P Q stuck

module _ {P R Q : Machine → Type 0} where
  comes_also : {o : Outcome} → ((n : Machine) → P n → R n) → Comes P Q o → Comes R Q o
  comes_also f (going x) = going (f _ x)
  comes_also f (ending x) = ending x
  comes_also f trapping = trapping
  comes_also f failing = failing

module _ {P Q : Machine → Type 0} where
  on-given : {A : Type 0} (a : Option A) {other : Outcome} {f : A → Outcome} → Comes P Q other → ((x : A) → Comes P Q (f x)) → Comes P Q (given a other f)
  on-given none other f = other
  on-given (some x) other f = f x

  on-cond : (b : Bool) {yes' no' : Outcome} → Comes P Q yes' → Comes P Q no' → Comes P Q (cond b yes' no')
  on-cond true first second = first
  on-cond false first second = second

  on-taken : (vs : List Value) {f : Value → List Value → Outcome} → ((v : Value) (below : List Value) → Comes P Q (f v below)) → Comes P Q (on_taken vs f)
  on-taken [] f = failing
  on-taken (v ∷ vs) f = f v vs

  on_i32_lem : (v : Value) {f : ℕ → Outcome} → ((n : ℕ) → Comes P Q (f n)) → Comes P Q (on_i32 v f)
  on_i32_lem (number i32 n) f = f n
  on_i32_lem (number i64 n) f = failing
  on_i32_lem (number f32 n) f = failing
  on_i32_lem (number f64 n) f = failing
  on_i32_lem null f = failing
  on_i32_lem (object o) f = failing

  on-number : (k : Number) (v : Value) {f : ℕ → Outcome} → ((n : ℕ) → Comes P Q (f n)) → Comes P Q (on_number k v f)
  on-number k (number j n) f = on-cond (same_number j k) (f n) failing
  on-number k null f = failing
  on-number k (object o) f = failing

  on_reference_lem : (v : Value) {f : Option ℕ → Outcome} → ((r : Option ℕ) → Comes P Q (f r)) → Comes P Q (on_reference v f)
  on_reference_lem (number k n) f = failing
  on_reference_lem null f = f none
  on_reference_lem (object o) f = f (some o)

  on_object_lem : (os : Store) (trap : ℕ) (v : Value) {f : ℕ → Object → Outcome} → ((o : ℕ) (it : Object) → Comes P Q (f o it)) → Comes P Q (on_object os trap v f)
  on_object_lem os trap v f = on_reference_lem v (λ r. on-given r trapping (λ o. on-given (object_of os o) failing (f o)))

  -- a cast, by this test of the object
  on-tested : (os : Store) (null_too : Bool) (test : Object → Bool) (v : Value) {f : Bool → Outcome} → ((b : Bool) → Comes P Q (f b)) → Comes P Q (on_reference v (λ r. given r (f null_too) (λ o. given (object_of os o) stuck (λ it. f (test it)))))
  on-tested os null_too test v f =
      on_reference_lem v (λ r. on-given r (f null_too) (λ o. on-given (object_of os o) failing (λ it. f (test it))))

  on_passes : (ts : Types) (os : Store) (null_too : Bool) (h : Heap) (v : Value) {f : Bool → Outcome} → ((b : Bool) → Comes P Q (f b)) → Comes P Q (cast_passes ts os null_too h v f)
  on_passes ts os null_too h v f = on-tested os null_too (λ it. heap_below ts (exact it.type) h) v f

  on_descriptor_passes : (os : Store) (null_too : Bool) (d : ℕ) (v : Value) {f : Bool → Outcome} → ((b : Bool) → Comes P Q (f b)) → Comes P Q (descriptor_cast_passes os null_too d v f)
  on_descriptor_passes os null_too d v f = on-tested os null_too (λ it. is_very it.descriptor d) v f

  on_descriptor_lem : (vs : List Value) {f : ℕ → List Value → Outcome} → ((d : ℕ) (below : List Value) → Comes P Q (f d below)) → Comes P Q (on_descriptor vs f)
  on_descriptor_lem vs f = on-taken vs (λ d below. on_reference_lem d (λ r. on-given r trapping (λ o. f o below)))

-- The number of objects, and the way ahead

-- as many objects as before, or one more
abbrev pub Grown : Bool → Machine → Machine → Type 0
Grown new m n = length n.heap ≡ one_more_if new (length m.heap)

-- straight code, no longer than before
pub record Onward (m n : Machine) : Type 0 where
  pub straight : Straight n.blocks n.code
  pub no_longer : length n.code ≤ length m.code

-- the objects counted, and, where all was fine, onward
pub record Went (new : Bool) (fine : Type 0) (m n : Machine) : Type 0 where
  pub objects : Grown new m n
  pub onward : fine → Onward m n

-- of an instruction inside its block: `m` is the machine past it
abbrev Does : Bool → Machine → Outcome → Type 0
Does new m o = Comes (Went new (Straight m.blocks m.code) m) (Grown new m) o

module _ {m : Machine} where
  -- in its place: another heap, locals and operands
  changed : {new : Bool} {os : Store} {ls : List (Option Value)} {vs : List Value}
      → length os ≡ one_more_if new (length m.heap)
      → Does new m (goes (record { heap = os; locals = ls; operands = vs; blocks = m.blocks; code = m.code }))
  changed objects =
      going (record { objects = objects; onward = λ fine. record { straight = fine; no_longer = le_refl _ } })

  kept : {ls : List (Option Value)} {vs : List Value} → Does false m (goes (record { heap = m.heap; locals = ls; operands = vs; blocks = m.blocks; code = m.code }))
  kept = changed refl

module _ (p : Program) (m : Machine) where
  finishes : {fine : Type 0} (vs : List Value) → Comes (Went false fine m) (Grown false m) (finish p m vs)
  finishes vs = on-given (split_top p.results vs) failing (λ s. ending refl)

  jumps : (l : ℕ) (bs : List Block) (vs : List Value) (k : ℕ) → (Straight m.blocks m.code → Seeks l m.code bs k) → Does false m (jump p m l bs vs k)
  unfolding jump
  jumps l [] vs zero seeks = finishes vs
  jumps l [] vs (suc k) seeks = failing
  jumps l (open_block at n below ∷ bs) vs zero seeks =
      on-given (split_top n vs) failing (λ s.
      going (record { objects = refl; onward = λ fine. record { straight = found_block (seeks fine); no_longer = past_no_longer _ _ } }))
  jumps l (open_loop at below again ∷ bs) vs zero seeks =
      going (record { objects = refl; onward = λ fine. absurd (found_no-loop (seeks fine)) })
  jumps l (b ∷ bs) vs (suc k) seeks = jumps l bs vs k (λ fine. seeks_next (seeks fine))

  branches : (l : ℕ) (vs : List Value) → Does false m (branch p m l vs)
  branches l vs = jumps l m.blocks vs l (seeks_first l)

  makes : (x : ℕ) (d : Option ℕ) (fields below : List Value) → Does true m (make m x d fields below)
  makes x d fields below =
      let one : length (with_new m.heap (record { type = x; descriptor = d; fields = fields })) ≡ suc (length m.heap) = rw length-append (omega arith) in
      on-cond (has_room m.heap (length fields)) (changed one) trapping

  makes_given : (x : ℕ) (d : Option ℕ) (vs : List Value) → Does true m (make_given p m x d vs)
  makes_given x d vs =
      on-given (fields_of (p.types x).form) failing (λ fs. on-given (split_top (length fs) vs) failing (λ s. makes x d (reverse s.0) s.1))

  makes_default : (x : ℕ) (d : Option ℕ) (vs : List Value) → Does true m (make_default p m x d vs)
  makes_default x d vs =
      on-given (fields_of (p.types x).form) failing (λ fs. on-given (defaults_of (holds_of fs)) failing (λ values. makes x d values vs))

  -- a numeric instruction: 46, or a result in place of its operands
  numerically : (b : ℕ) (vs : List Value) → Does false m (do_numeric m vs b)
  unfolding do_numeric
  numerically b vs = on-given (deed_of b) trapping (λ deed. on-given (numeric_of b) failing (λ kinds. go kinds deed))
    where
      go : (kinds : Numeric) (deed : Deed) → Does false m (calculate m kinds vs deed)
      go kinds (of_one f) = on-taken vs (λ v below. on-number kinds.kind v (λ a. kept))
      go kinds (of_two f) =
          on-taken vs (λ w others. on-taken others (λ v below. on-number kinds.kind w (λ b. on-number kinds.kind v (λ a. kept))))

  pub op_does : (vs : List Value) (o : Op) → Does (makes_object o) m (do_op p m vs o)
  unfolding do_op
  op_does vs unreachable = trapping
  op_does vs nop = kept
  op_does vs return = finishes vs
  op_does vs drop_value = on-taken vs (λ v below. kept)
  op_does vs (br l) = branches l vs
  op_does vs (br_if l) = on-taken vs (λ v below. on_i32_lem v (λ n. on-cond (eqb n 0) kept (branches l below)))
  op_does vs (local_get x) = on-given (get_elem? m.locals x) failing (λ held. on-given held failing (λ v. kept))
  op_does vs (local_set x) = on-taken vs (λ v below. on-given (get_elem? m.locals x) failing (λ old. kept))
  op_does vs (local_tee x) = on-taken vs (λ v below. on-given (get_elem? m.locals x) failing (λ old. kept))
  op_does vs (i32_const n) = kept
  op_does vs (i64_const n) = kept
  op_does vs (f32_const n) = kept
  op_does vs (f64_const n) = kept
  op_does vs (numeric b) = numerically b vs
  op_does vs (ref_null h) = kept
  op_does vs ref_is_null = on-taken vs (λ v below. on_reference_lem v (λ r. kept))
  op_does vs ref_eq =
      on-taken vs (λ v others. on-taken others (λ w below. on_reference_lem v (λ r. on_reference_lem w (λ q. kept))))
  op_does vs ref_as_non_null =
      on-taken vs (λ v below. on_reference_lem v (λ r. on-given r trapping (λ o. kept)))
  op_does vs (struct_new x) = makes_given x none vs
  op_does vs (struct_new_default x) = makes_default x none vs
  op_does vs (struct_get x i) =
      on-taken vs (λ v below. on_object_lem m.heap trap_null v (λ o it. on-given (get_elem? it.fields i) failing (λ held. kept)))
  op_does vs (struct_set x i) =
      on-taken vs (λ new others.
      on-taken others (λ v below.
      on_object_lem m.heap trap_null v (λ o it.
      on-given (get_elem? it.fields i) failing (λ old. changed (length-set m.heap o _)))))
  op_does vs (ref_test n h) = on-taken vs (λ v below. on_passes p.types m.heap n h v (λ b. kept {vs = truth b ∷ below}))
  op_does vs (ref_cast n h) = on-taken vs (λ v below. on_passes p.types m.heap n h v (λ b. on-cond b kept trapping))
  op_does vs (br_on_cast k) =
      on-taken vs (λ v below. on_passes p.types m.heap k.target_null k.target v (λ b. on-cond b (branches k.label vs) kept))
  op_does vs (br_on_cast_fail k) =
      on-taken vs (λ v below. on_passes p.types m.heap k.target_null k.target v (λ b. on-cond b kept (branches k.label vs)))
  op_does vs (struct_new_desc x) = on_descriptor_lem vs (λ d below. makes_given x (some d) below)
  op_does vs (struct_new_default_desc x) = on_descriptor_lem vs (λ d below. makes_default x (some d) below)
  op_does vs (ref_get_desc x) =
      on-taken vs (λ v below. on_object_lem m.heap trap_null v (λ o it. on-given it.descriptor failing (λ d. kept)))
  op_does vs (ref_cast_desc_eq n h) =
      on_descriptor_lem vs (λ d others. on-taken others (λ v below. on_descriptor_passes m.heap n d v (λ b. on-cond b kept trapping)))
  op_does vs (br_on_cast_desc_eq k) =
      on_descriptor_lem vs (λ d others.
      on-taken others (λ v below. on_descriptor_passes m.heap k.target_null d v (λ b. on-cond b (branches k.label others) kept)))
  op_does vs (br_on_cast_desc_eq_fail k) =
      on_descriptor_lem vs (λ d others.
      on-taken others (λ v below. on_descriptor_passes m.heap k.target_null d v (λ b. on-cond b kept (branches k.label others))))

  -- One step: `m` is the machine past its instruction, and what is fine is said of the machine before it

  closes : (at : ℕ) (bs : List Block) → Comes (Went false (Straight bs ((at, end) ∷ m.code)) m) (Grown false m) (do_end p m bs)
  closes at [] = finishes m.operands
  closes at (open_block place n below ∷ bs) = going (record { objects = refl; onward = λ fine. record { straight = straight_end fine; no_longer = le_refl _ } })
  closes at (open_loop place below again ∷ bs) = going (record { objects = refl; onward = λ fine. absurd (no-loop_open fine.blocks) })

  instr_does : (at : ℕ) (i : Instr) → Comes (Went (is_allocation i) (Straight m.blocks ((at, i) ∷ m.code)) m) (Grown (is_allocation i) m) (do_instr p m at i)
  unfolding do_instr
  instr_does at (block rs) = going (record { objects = refl; onward = λ fine. record { straight = straight_block _ _ fine; no_longer = le_refl _ } })
  instr_does at (loop rs) = going (record { objects = refl; onward = λ fine. absurd (straight_no-loop fine) })
  instr_does at end = closes at m.blocks
  instr_does at (op o) = comes_also (λ n w. record { objects = w.objects; onward = λ fine. w.onward (straight_op fine) }) (op_does m.operands o)

-- of the machine before the step: from straight code to straight code that is shorter
pub record Stepped (code : Code) (m n : Machine) : Type 0 where
  pub objects : Grown (starts_with_allocation code) m n
  pub straight : Straight m.blocks code → Straight n.blocks n.code
  pub shorter : Straight m.blocks code → length n.code < length code

pub step_does : (p : Program) (m : Machine) → Comes (Stepped m.code m) (Grown (allocates m) m) (step p m)
unfolding step
step_does p m = go m.code
  where
    went : {i : ℕ × Instr} {code : Code} (n : Machine) → Went (is_allocation i.1) (Straight m.blocks (i ∷ code)) (with_control m m.operands m.blocks code) n → Stepped (i ∷ code) m n
    went n w =
        record {
          objects = w.objects;
          straight = λ fine. (w.onward fine).straight;
          shorter = λ fine. let h = (w.onward fine).no_longer in omega arith;
        }

    go : (code : Code) → Comes (Stepped code m) (Grown (starts_with_allocation code) m) (step_on p m code)
    go [] = failing
    go (i ∷ code) = comes_also went (instr_does p (with_control m m.operands m.blocks code) i.0 i.1)
