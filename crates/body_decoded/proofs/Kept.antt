-- What is kept of an instruction is judged as the instruction is. A type number, or a type by its code, reads back as what
-- the table keeps of it; that is as much in reach as what was read, and is the same where it is in reach. And every rule
-- that names a type asks first whether it is in reach.
use Prim.Native.Nat.{ℕ, ◌+◌, ◌-◌, ◌≤◌}
use mathlib.Core.Path.{◌≡◌, refl, sym, ap, ap₂, ◌∙◌}
use mathlib.Core.Logic.{◌⊎◌, inl, inr}
use mathlib.Core.Bool.{Bool, true, false, ◌&&◌, and_assoc}
use mathlib.Core.List.{List, [], ◌∷◌, ◌++◌, map, append-nil}
use native.Mathlib.Omega.{arith}
use lib.ListN.{length}
use lib.Dec.{eqb}
use borrow.Author.Tests.{ne_eqb}
use Rattle.scope.specs.Sizes.{most_types}
use Rattle.scope.specs.Lists.{every, joined}
use Rattle.scope.specs.Syntax.{Heap, Val}
use Rattle.scope.specs.TypeRules.{heap_names, val_names}
use Rattle.scope.specs.Instructions.{Cast, Op, unreachable, nop, return, drop_value, br, br_if, local_get, local_set, local_tee, i32_const, i64_const, f32_const, f64_const, numeric, ref_null, ref_is_null, ref_eq, ref_as_non_null, struct_new, struct_new_default, struct_get, struct_set, ref_test, ref_cast, br_on_cast, br_on_cast_fail, struct_new_desc, struct_new_default_desc, ref_get_desc, ref_cast_desc_eq, br_on_cast_desc_eq, br_on_cast_desc_eq_fail, Instr, block, loop, end, op}
use Rattle.scope.specs.BodyRules.{Context, Scope, Plan, Ruled, reached, and_ruled, plan_of}
use Rattle.scope.specs.Bodies.{Frame, of_block, of_loop, State, scope_of, do_plan, entered, judge_instr}
use Rattle.scope.proofs.Truths.{decided, from_both}
use Rattle.type_table.specs.Kept.{kept, kept_heap, kept_val}
use Rattle.type_table.specs.View.{heap_at_code, val_at_code}
use Rattle.type_table.proofs.Codes.{heap-at-code}
use Rattle.type_table.proofs.CodesBack.{val_code_lem}
use Rattle.type_table.proofs.KeptReach.{below, Keeps, number_keeps, heap_keeps, val_keeps}
use Rattle.type_read.specs.Codes.{heap_code_kept, val_code_kept}
use Rattle.body_immediates.specs.Coding.{result_code, cast_with, operation_of, instruction_of}
use Rattle.body_decoded.specs.Decoded.{block_results, cast_of, instr_of}
use Rattle.body_decoded.proofs.Short.{Short, short_block, short_loop, short_end, short_op}

-- types by their codes

heap_back : (h : Heap) → heap_at_code (heap_code_kept h) ≡ kept_heap h
unfolding heap_code_kept
heap_back h = heap-at-code (kept_heap h)

val_back : (v : Val) → val_at_code (val_code_kept v) ≡ kept_val v
unfolding val_code_kept
val_back v = val_code_lem (kept_val v)

pub one_result : (v : Val) → block_results (result_code (v ∷ [])) ≡ val_at_code (val_code_kept v) ∷ []
one_result v =
    let some' : eqb (val_code_kept v + 1) 0 ≡ false = ne_eqb (val_code_kept v + 1) 0 (λ e. omega arith) in
    let code : val_code_kept v + 1 - 1 ≡ val_code_kept v = omega arith in
    rw (some', code)

unfoldable pub cast_names : Cast → List ℕ
cast_names k = heap_names k.source ++ heap_names k.target

every_append : {A : Type 0} (f : A → Bool) (xs ys : List A) → every f (xs ++ ys) ≡ every f xs && every f ys
every_append f [] ys = refl
every_append f (x ∷ xs) ys = rw (every_append f xs ys) (sym (and_assoc (f x) (every f xs) (every f ys)))

module _ {r : ℕ} (few : r ≤ 4_095) where
  pub heap_read : Keeps r heap_names (λ h. heap_at_code (heap_code_kept h))
  heap_read =
      record {
        reach = λ h. rw (heap_back h) ((heap_keeps few).reach h);
        same = λ h e. heap_back h ∙ (heap_keeps few).same h e;
      }

  pub val_read : Keeps r val_names (λ v. val_at_code (val_code_kept v))
  val_read =
      record {
        reach = λ v. rw (val_back v) ((val_keeps few).reach v);
        same = λ v e. val_back v ∙ (val_keeps few).same v e;
      }

  pub cast_read : Keeps r cast_names (cast_with (λ m n l h k. cast_of l m h n k))
  unfolding cast_names
  cast_read = record { reach = reaches; same = sames }
    where
      reaches : (k : Cast) → below r (heap_names (heap_at_code (heap_code_kept k.source)) ++ heap_names (heap_at_code (heap_code_kept k.target))) ≡ below r (heap_names k.source ++ heap_names k.target)
      reaches k = simp every_append (ap₂ ◌&&◌ (heap_read.reach k.source) (heap_read.reach k.target))

      sames : (k : Cast) → below r (heap_names k.source ++ heap_names k.target) ≡ true → cast_with (λ m n l h k. cast_of l m h n k) k ≡ k
      sames k e =
          let (source, target) = from_both (below r (heap_names k.source)) (below r (heap_names k.target)) (rw every_append at e) in
          λ i.
          record {
            label = k.label;
            source_null = k.source_null;
            source = heap_read.same k.source source i;
            target_null = k.target_null;
            target = heap_read.same k.target target i;
          }

-- what is asked after the test of reach

asked : (c : Context) {A B : Type 0} {names : A → List ℕ} {back : A → A} → Keeps c.count names back → (f : A → Ruled B) (a : A) → reached c (names (back a)) (f (back a)) ≡ reached c (names a) (f a)
asked c {A} {B} {names} {back} keeps f a = rw (keeps.reach a) (go (decided (below c.count (names a))))
  where
    go : (below c.count (names a) ≡ true) ⊎ (below c.count (names a) ≡ false) → reached c (names a) (f (back a)) ≡ reached c (names a) (f a)
    go (inl p) = rw (keeps.same a p)
    go (inr p) = rw p

module _ (c : Context) (few : c.count ≤ most_types) where
  bound : c.count ≤ 4_095
  bound = omega arith

  -- one rule, by what it names
  planned : (here : Scope) {A : Type 0} {names : A → List ℕ} {back : A → A} → Keeps c.count names back → (make : A → Op) (f : A → Ruled Plan) → ((a : A) → plan_of c here (make a) ≡ reached c (names a) (f a)) → (a : A) → plan_of c here (make (back a)) ≡ plan_of c here (make a)
  planned here {back = back} keeps make f is a = is (back a) ∙ asked c keeps f a ∙ sym (is a)

  module _ (st : State) where
    judged : {p q : Ruled Plan} → p ≡ q → and_ruled p (do_plan c st) ≡ and_ruled q (do_plan c st)
    judged e = ap (λ (p : Ruled Plan). and_ruled p (do_plan c st)) e

    by_number : (make : ℕ → Op) (f : ℕ → Ruled Plan) → ((x : ℕ) → plan_of c (scope_of c st) (make x) ≡ reached c (x ∷ []) (f x)) → (x : ℕ) → judge_instr c st (op (make (kept x))) ≡ judge_instr c st (op (make x))
    unfolding judge_instr
    by_number make f is x = judged (planned (scope_of c st) (number_keeps bound) make f is x)

    by_heap : (make : Heap → Op) (f : Heap → Ruled Plan) → ((h : Heap) → plan_of c (scope_of c st) (make h) ≡ reached c (heap_names h) (f h)) → (h : Heap) → judge_instr c st (op (make (heap_at_code (heap_code_kept h)))) ≡ judge_instr c st (op (make h))
    unfolding judge_instr
    by_heap make f is h = judged (planned (scope_of c st) (heap_read bound) make f is h)

    by_cast : (make : Cast → Op) (f : Cast → Ruled Plan) → ((k : Cast) → plan_of c (scope_of c st) (make k) ≡ reached c (cast_names k) (f k)) → (k : Cast) → judge_instr c st (op (make (cast_with (λ m n l h k. cast_of l m h n k) k))) ≡ judge_instr c st (op (make k))
    unfolding judge_instr
    by_cast make f is k = judged (planned (scope_of c st) (cast_read bound) make f is k)

    by_results : (frame : List Val → Frame) (rs : List Val) → length rs ≤ 1 → reached c (joined (map val_names (block_results (result_code rs)))) (entered st (frame (block_results (result_code rs)))) ≡ reached c (joined (map val_names rs)) (entered st (frame rs))
    by_results frame [] h = refl
    by_results frame (v ∷ []) h =
        rw (one_result v) (simp append-nil (asked c (val_read bound) (λ w. entered st (frame (w ∷ []))) v))
    by_results frame (v ∷ w ∷ vs) h = absurd (omega arith)

    op_kept : (o : Op) → judge_instr c st (instr_of (operation_of o)) ≡ judge_instr c st (op o)
    unfolding instr_of operation_of plan_of cast_names
    op_kept unreachable = refl
    op_kept nop = refl
    op_kept return = refl
    op_kept drop_value = refl
    op_kept (br l) = refl
    op_kept (br_if l) = refl
    op_kept (local_get x) = refl
    op_kept (local_set x) = refl
    op_kept (local_tee x) = refl
    op_kept (i32_const n) = refl
    op_kept (i64_const n) = refl
    op_kept (f32_const n) = refl
    op_kept (f64_const n) = refl
    op_kept (numeric b) = refl
    op_kept (ref_null h) = by_heap ref_null _ (λ k. refl) h
    op_kept ref_is_null = refl
    op_kept ref_eq = refl
    op_kept ref_as_non_null = refl
    op_kept (struct_new x) = by_number struct_new _ (λ y. refl) x
    op_kept (struct_new_default x) = by_number struct_new_default _ (λ y. refl) x
    op_kept (struct_get x i) = by_number (λ y. struct_get y i) _ (λ y. refl) x
    op_kept (struct_set x i) = by_number (λ y. struct_set y i) _ (λ y. refl) x
    op_kept (ref_test n h) = by_heap (ref_test n) _ (λ k. refl) h
    op_kept (ref_cast n h) = by_heap (ref_cast n) _ (λ k. refl) h
    op_kept (br_on_cast k) = by_cast br_on_cast _ (λ j. refl) k
    op_kept (br_on_cast_fail k) = by_cast br_on_cast_fail _ (λ j. refl) k
    op_kept (struct_new_desc x) = by_number struct_new_desc _ (λ y. refl) x
    op_kept (struct_new_default_desc x) = by_number struct_new_default_desc _ (λ y. refl) x
    op_kept (ref_get_desc x) = by_number ref_get_desc _ (λ y. refl) x
    op_kept (ref_cast_desc_eq n h) = by_heap (ref_cast_desc_eq n) _ (λ k. refl) h
    op_kept (br_on_cast_desc_eq k) = by_cast br_on_cast_desc_eq _ (λ j. refl) k
    op_kept (br_on_cast_desc_eq_fail k) = by_cast br_on_cast_desc_eq_fail _ (λ j. refl) k

    pub instr_kept : (j : Instr) → Short j → judge_instr c st (instr_of (instruction_of j)) ≡ judge_instr c st j
    unfolding instr_of instruction_of judge_instr
    instr_kept (block rs) (short_block h) = by_results (λ vs. of_block vs st.operands st.dead st.is_set) rs h
    instr_kept (loop rs) (short_loop h) = by_results (λ vs. of_loop vs st.operands st.dead st.is_set) rs h
    instr_kept end short_end = refl
    instr_kept (op o) short_op = op_kept o
