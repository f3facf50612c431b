-- The verdict on a body as it was before request 9 of document 02, when every operand at fault was 20, written out once more; and
-- what the request may change of it: a 20 may now be 31, at the same place, and nothing else.
use Rattle.std.specs.Prelude.{ℕ, zero, suc, ◌≡◌, ◌↔◌, Bool, cond, List, [], ◌∷◌, ◌++◌, map, length, eqb, ltb}
use Rattle.scope.specs.Sizes.{most_bytes}
use Rattle.scope.specs.Refusals.{bytes_end, oversize, bad_operand, not_a_function, only_null}
use Rattle.scope.specs.Reading.{Read, got, refused, Reader, given, then}
use Rattle.scope.specs.Numbers.{u32}
use Rattle.scope.specs.Lists.{joined}
use Rattle.scope.specs.Syntax.{Val, Definition, Types, types_of}
use Rattle.scope.specs.Sections.{ended}
use Rattle.scope.specs.TypeRules.{val_names}
use Rattle.scope.specs.declared.Place.{Place}
use Rattle.scope.specs.Judging.{plain, Judged, accepted, rejected, and_then, judge_joined, judge_sections}
use Rattle.scope.specs.Instructions.{Instr, block, loop, end, op, instr_at}
use Rattle.scope.specs.BodyRules.{Context, Wanted, Plan, Ruled, allowed, test, and_ruled, from_top, reached, plan_of}
use Rattle.scope.specs.Bodies.{Operand, unknown, fits, Taken, also_taken, on_top, Frame, of_block, of_loop, State, scope_of, Next, finished, within_operands, after_plan, entered, none_left, Code, on_ruled, on_next, locals_at, Function, function_of, Body, start_state, context_of, judged_of, judge_body}

-- "operands from the top (20)"
unfoldable pub take_before : Types → Bool → List Wanted → List Operand → Ruled Taken
take_before ts dead [] os = allowed (record { taken = []; left = os })
take_before ts dead (w ∷ ws) [] =
    let more = and_ruled (take_before ts dead ws []) (λ t. allowed (also_taken unknown t)) in
    test dead bad_operand more
take_before ts dead (w ∷ ws) (o ∷ os) =
    let more = and_ruled (take_before ts dead ws os) (λ t. allowed (also_taken o t)) in
    test (fits ts o w) bad_operand more

unfoldable pub do_plan_before : Context → State → Plan → Ruled Next
do_plan_before c st p = and_ruled (take_before c.types st.dead p.wants st.operands) (λ t. within_operands (after_plan c st p t))

abbrev pub ending_before : {A : Type 0} → Context → State → List Val → Ruled A → Ruled A
ending_before c st rs more =
    and_ruled (take_before c.types st.dead (from_top rs) st.operands) (λ t. none_left t.left more)

abbrev pub block_end_before : Context → State → List Frame → List Val → List Operand → Bool → List Bool → Ruled Next
block_end_before c st fs rs os dead is_set =
    ending_before c st rs (within_operands (record { frames = fs; operands = on_top rs ++ os; dead = dead; is_set = is_set }))

unfoldable pub judge_end_before : Context → State → List Frame → Ruled Next
judge_end_before c st [] = ending_before c st c.results (allowed finished)
judge_end_before c st (of_block rs os dead is_set ∷ fs) = block_end_before c st fs rs os dead is_set
judge_end_before c st (of_loop rs os dead is_set ∷ fs) = block_end_before c st fs rs os dead is_set

unfoldable pub judge_instr_before : Context → State → Instr → Ruled Next
judge_instr_before c st (block rs) = reached c (joined (map val_names rs)) (entered st (of_block rs st.operands st.dead st.is_set))
judge_instr_before c st (loop rs) = reached c (joined (map val_names rs)) (entered st (of_loop rs st.operands st.dead st.is_set))
judge_instr_before c st end = judge_end_before c st st.frames
judge_instr_before c st (op o) = and_ruled (plan_of c (scope_of c st) o) (do_plan_before c st)

unfoldable pub judge_from_before : ℕ → Context → State → Reader Code
judge_from_before zero c st s at = refused bytes_end at
judge_from_before (suc left) c st s at =
    then (instr_at s at) (λ i next.
    on_ruled (judge_instr_before c st i) (λ number. refused number at) (λ n.
    on_next n (λ later. then (judge_from_before left c later s next) (λ code stop. got ((at, i) ∷ code) stop)) (got ((at, i) ∷ []) next)))

unfoldable pub body_before : List Definition → Function → List ℕ → Read Body
body_before ds f s =
    then (u32 s 0) (λ n entries.
    then (locals_at (length ds) n (length f.parameters) s entries) (λ ls first.
    then (judge_from_before (length s) (context_of ds f ls) (start_state f ls) s first) (λ code stop.
    ended s (record { types = ds; function = f; locals = ls; code = code }) stop)))

unfoldable pub judge_body_before : List ℕ → List ℕ → List ℕ → ℕ → Judged Body
judge_body_before library section s x =
    and_then (judge_sections library section) (λ ds.
    let typed = given (function_of (types_of ds x).form) (rejected not_a_function (plain 0)) (λ f. judged_of (body_before ds f s)) in
    cond (ltb most_bytes (length s)) (rejected oversize (plain 0)) typed)

-- 31 read as 20

abbrev pub as20 : ℕ → ℕ
as20 n = cond (eqb n only_null) bad_operand n

abbrev pub read_as20 : {A : Type 0} → Judged A → Judged A
read_as20 (accepted x) = accepted x
read_as20 (rejected n p) = rejected (as20 n) p

pub record NothingElse : Type 0 where
  -- the verdict with 31 read as 20 is the verdict of before
  pub same : (library section s : List ℕ) (x : ℕ) → read_as20 (judge_body library section s x) ≡ judge_body_before library section s x
  -- "what is accepted" does not change
  pub accepts : (library section s : List ℕ) (x : ℕ) (b : Body) → (judge_body library section s x ≡ accepted b) ↔ (judge_body_before library section s x ≡ accepted b)
  -- "Type-section refusals .. don't change": no section is refused with 31
  pub sections : (library section : List ℕ) (n : ℕ) (p : Place) → judge_joined library section ≡ rejected n p → n ≡ only_null → ⊥
