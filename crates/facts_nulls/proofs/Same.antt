-- The verdict of before is today's with 31 read as 20, along the whole body.
use Prim.Native.Nat.{ℕ, zero, suc, ◌+◌, ◌≤◌}
use native.Mathlib.Omega.{arith}
use mathlib.Core.Path.{◌≡◌, refl, sym, ap, ◌∙◌}
use mathlib.Core.Bool.{Bool, true, false, cond}
use mathlib.Core.Option.{Option, none, some}
use mathlib.Core.List.{List, [], ◌∷◌, ◌++◌, map}
use lib.ListN.{length}
use lib.Dec.{eqb, leb, ltb}
use Rattle.scope.specs.Sizes.{most_bytes, most_locals, most_operands, most_frames}
use Rattle.scope.specs.Refusals.{oversize, out_of_reach, left_over, bad_operand, not_a_function, only_null}
use Rattle.scope.specs.Reading.{Read, got, refused, given, then}
use Rattle.scope.specs.Lists.{every, joined}
use Rattle.scope.specs.TypeRules.{val_names}
use Rattle.scope.specs.Order.{it_fits, but_for_null, unfit}
use Rattle.scope.specs.Syntax.{Types, Definition, Val, types_of}
use Rattle.scope.specs.Sections.{ended}
use Rattle.scope.specs.declared.Place.{Place}
use Rattle.scope.specs.Judging.{plain, Judged, accepted, rejected, and_then, Joined, judge_joined, judge_sections}
use Rattle.scope.specs.Instructions.{Instr, block, loop, end, op}
use Rattle.scope.specs.BodyRules.{Context, Wanted, Plan, Ruled, allowed, fault, and_ruled, from_top, reached, plan_of}
use Rattle.scope.specs.Bodies.{Operand, unknown, fits, non_null_of, fit, operand_test, also_taken, take_all, on_top, Frame, of_block, of_loop, State, scope_of, operands_in, Next, goes_on, finished, within_operands, after_plan, do_plan, none_left, judge_end, judge_instr, Code, on_ruled, on_next, judge_from, locals_at, Function, function_of, Body, start_state, context_of, body_at, judged_of, judge_body}
use Rattle.scope.proofs.Impossible.{impossible}
use Rattle.scope.proofs.Accepted.{accepted_passes}
use Rattle.facts_bodies.proofs.Premises.{Ordered, passes_ordered}
use Rattle.facts_refusals.specs.Numbers.{ByteFault, is_bytes_end, is_bad_number, is_not_listed, is_oversize, is_left_over, is_padded, RuleFault, is_out_of_reach, is_bad_supertype, is_long_chain, is_no_match, is_clause_not_on_struct, is_describes_not_earlier, is_clauses_disagree, is_bad_descriptor, is_bad_describes}
use Rattle.facts_refusals.specs.Sections.{SaysNo, of_library_bytes, of_library_rules, of_bytes, of_rules}
use Rattle.facts_refusals.proofs.Reading.{Heeds, refuses, goes_on_lem, unsigned_heeds, val_heeds}
use Rattle.facts_refusals.proofs.ReadingBodies.{instr_heeds}
use Rattle.facts_refusals.proofs.Sections.{says_no_lem}
use Rattle.facts_nulls.specs.Before.{take_before, do_plan_before, judge_end_before, judge_instr_before, judge_from_before, body_before, judge_body_before, as20, read_as20, NothingElse}
use Rattle.facts_nulls.proofs.Kept.{ruled20, test-kept, plan_kept}

-- one verdict after the other

and_read : {A B : Type 0} (r : Ruled A) (f : A → Ruled B) → ruled20 (and_ruled r f) ≡ and_ruled (ruled20 r) (λ x. ruled20 (f x))
and_read (allowed x) f = refl
and_read (fault n) f = refl

and_same : {A B : Type 0} (r : Ruled A) {f g : A → Ruled B} → ((x : A) → f x ≡ g x) → and_ruled r f ≡ and_ruled r g
and_same (allowed x) e = e x
and_same (fault n) e = refl

both_read : {A B : Type 0} (r s : Ruled A) (f g : A → Ruled B) → ruled20 r ≡ s → ((x : A) → ruled20 (f x) ≡ g x) → ruled20 (and_ruled r f) ≡ and_ruled s g
both_read {A} r s f g e h = and_read r f ∙ ap (λ (q : Ruled A). and_ruled q (λ x. ruled20 (f x))) e ∙ and_same s h

-- operands

take_read : (ts : Types) (dead : Bool) (ws : List Wanted) (os : List Operand) → ruled20 (take_all ts dead ws os) ≡ take_before ts dead ws os
unfolding take_all take_before fit
take_read ts dead [] os = refl
take_read ts true (w ∷ ws) [] = both_read (take_all ts true ws []) (take_before ts true ws []) (λ t. allowed (also_taken unknown t)) (λ t. allowed (also_taken unknown t)) (take_read ts true ws []) (λ t. refl)
take_read ts false (w ∷ ws) [] = refl
take_read ts dead (w ∷ ws) (o ∷ os) = go (fits ts o w) (fits ts (non_null_of o) w) (take_read ts dead ws os)
  where
    go :
        (b c : Bool) → ruled20 (take_all ts dead ws os) ≡ take_before ts dead ws os
        → ruled20 (operand_test (cond b it_fits (cond c but_for_null unfit)) (and_ruled (take_all ts dead ws os) (λ t. allowed (also_taken o t))))
        ≡ cond b (and_ruled (take_before ts dead ws os) (λ t. allowed (also_taken o t))) (fault 20)
    go true c later = both_read (take_all ts dead ws os) (take_before ts dead ws os) (λ t. allowed (also_taken o t)) (λ t. allowed (also_taken o t)) later (λ t. refl)
    go false true later = refl
    go false false later = refl

within_read : (st : State) → ruled20 (within_operands st) ≡ within_operands st
within_read st = go (leb (operands_in st) most_operands)
  where
    go : (b : Bool) → ruled20 (cond b (allowed (goes_on st)) (fault oversize)) ≡ cond b (allowed (goes_on st)) (fault oversize)
    go true = refl
    go false = refl

plan_read : (c : Context) (st : State) (p : Plan) → ruled20 (do_plan c st p) ≡ do_plan_before c st p
unfolding do_plan do_plan_before
plan_read c st p = both_read (take_all c.types st.dead p.wants st.operands) (take_before c.types st.dead p.wants st.operands) (λ t. within_operands (after_plan c st p t)) (λ t. within_operands (after_plan c st p t)) (take_read c.types st.dead p.wants st.operands) (λ t. within_read (after_plan c st p t))

left_read : {A : Type 0} (os : List Operand) (more before : Ruled A) → ruled20 more ≡ before → ruled20 (none_left os more) ≡ none_left os before
left_read [] more before e = e
left_read (o ∷ os) more before e = refl

module _ (c : Context) (st : State) where
  ending_read : {A : Type 0} (rs : List Val) (more before : Ruled A) → ruled20 more ≡ before → ruled20 (and_ruled (take_all c.types st.dead (from_top rs) st.operands) (λ t. none_left t.left more)) ≡ and_ruled (take_before c.types st.dead (from_top rs) st.operands) (λ t. none_left t.left before)
  ending_read rs more before e = both_read (take_all c.types st.dead (from_top rs) st.operands) (take_before c.types st.dead (from_top rs) st.operands) (λ t. none_left t.left more) (λ t. none_left t.left before) (take_read c.types st.dead (from_top rs) st.operands) (λ t. left_read t.left more before e)

  end_read : (fs : List Frame) → ruled20 (judge_end c st fs) ≡ judge_end_before c st fs
  unfolding judge_end judge_end_before
  end_read [] = ending_read c.results _ _ refl
  end_read (of_block rs os dead is_set ∷ fs) = ending_read rs _ _ (within_read (record { frames = fs; operands = on_top rs ++ os; dead = dead; is_set = is_set }))
  end_read (of_loop rs os dead is_set ∷ fs) = ending_read rs _ _ (within_read (record { frames = fs; operands = on_top rs ++ os; dead = dead; is_set = is_set }))

  opened-kept : (xs : List ℕ) (n : Next) → ruled20 (reached c xs (cond (ltb (length st.frames + 1) most_frames) (allowed n) (fault oversize))) ≡ reached c xs (cond (ltb (length st.frames + 1) most_frames) (allowed n) (fault oversize))
  opened-kept xs n =
      test-kept out_of_reach _ (every (λ x. ltb x c.count) xs) refl (test-kept oversize (allowed n) (ltb (length st.frames + 1) most_frames) refl refl)

  instr_read : Ordered c.types → (i : Instr) → ruled20 (judge_instr c st i) ≡ judge_instr_before c st i
  unfolding judge_instr judge_instr_before
  instr_read ordered (block rs) = opened-kept (joined (map val_names rs)) _
  instr_read ordered (loop rs) = opened-kept (joined (map val_names rs)) _
  instr_read ordered end = end_read st.frames
  instr_read ordered (op o) = both_read (plan_of c (scope_of c st) o) (plan_of c (scope_of c st) o) (do_plan c st) (do_plan_before c st) (plan_kept c (scope_of c st) ordered o) (λ p. plan_read c st p)

-- reading

abbrev read20 : {A : Type 0} → Read A → Read A
read20 (got x next) = got x next
read20 (refused n p) = refused (as20 n) p

byte_as : {n : ℕ} → ByteFault n → as20 n ≡ n
byte_as is_bytes_end = refl
byte_as is_bad_number = refl
byte_as is_not_listed = refl
byte_as is_oversize = refl
byte_as is_left_over = refl
byte_as is_padded = refl

rule_as : {n : ℕ} → RuleFault n → as20 n ≡ n
rule_as is_out_of_reach = refl
rule_as is_bad_supertype = refl
rule_as is_long_chain = refl
rule_as is_no_match = refl
rule_as is_clause_not_on_struct = refl
rule_as is_describes_not_earlier = refl
rule_as is_clauses_disagree = refl
rule_as is_bad_descriptor = refl
rule_as is_bad_describes = refl

-- refused with another number than 31, or a place up to `hi` to go on from
data Plain {A : Type 0} (hi : ℕ) : Read A → Type 0 where
  plain_no : {n p : ℕ} → as20 n ≡ n → Plain hi (refused n p)
  plain_on : {x : A} {next : ℕ} → next ≤ hi → Plain hi (got x next)

heeds_plain : {A : Type 0} {hi : ℕ} {r : Read A} → Heeds hi r → Plain hi r
heeds_plain (refuses bad inside) = plain_no (byte_as bad)
heeds_plain (goes_on_lem inside) = plain_on inside

plain_then : {A B : Type 0} {hi : ℕ} {r : Read B} {f : B → ℕ → Read A} → Plain hi r → ((x : B) (next : ℕ) → next ≤ hi → Plain hi (f x next)) → Plain hi (then r f)
plain_then (plain_no e) k = plain_no e
plain_then (plain_on {x} {next} h) k = k x next h

plain-cond : {A : Type 0} {hi : ℕ} (b : Bool) {p q : Read A} → Plain hi p → Plain hi q → Plain hi (cond b p q)
plain-cond true p q = p
plain-cond false p q = q

then_read : {A B : Type 0} {hi : ℕ} {r : Read B} (f g : B → ℕ → Read A) → Plain hi r → ((x : B) (next : ℕ) → next ≤ hi → read20 (f x next) ≡ g x next) → read20 (then r f) ≡ then r g
then_read f g (plain_no e) k = rw e
then_read f g (plain_on {x} {next} h) k = k x next h

locals-plain : (types n before : ℕ) (s : List ℕ) (at : ℕ) → at ≤ length s → Plain (length s) (locals_at types n before s at)
unfolding locals_at
locals-plain types zero before s at h = plain_on h
locals-plain types (suc n) before s at h =
    plain_then (heeds_plain ((unsigned_heeds 32).heeds s at h)) (λ k type h'.
    plain_then (heeds_plain (val_heeds.heeds s type h')) (λ v next h''.
    plain-cond (every (λ x. ltb x types) (val_names v))
    (plain-cond (leb (before + k) most_locals)
    (plain_then (locals-plain types n (before + k) s next h'') (λ vs stop h'''. plain_on h'''))
    (plain_no {n = oversize} {p = at} refl))
    (plain_no {n = out_of_reach} {p = at} refl)))

-- one instruction after the other

code_read : (i : ℕ × Instr) (r : Read Code) → read20 (then r (λ code stop. got (i ∷ code) stop)) ≡ then (read20 r) (λ code stop. got (i ∷ code) stop)
code_read i (got code stop) = refl
code_read i (refused n p) = refl

ruled_read : {A : Type 0} (at : ℕ) (r : Ruled Next) (f g : Next → Read A) → ((n : Next) → read20 (f n) ≡ g n) → read20 (on_ruled r (λ number. refused number at) f) ≡ on_ruled (ruled20 r) (λ number. refused number at) g
ruled_read at (allowed n) f g k = k n
ruled_read at (fault m) f g k = refl

from_read : (left : ℕ) (c : Context) → Ordered c.types → (st : State) (s : List ℕ) (at : ℕ) → at ≤ length s → read20 (judge_from left c st s at) ≡ judge_from_before left c st s at
unfolding judge_from judge_from_before
from_read zero c ordered st s at h = refl
from_read (suc left) c ordered st s at h =
    then_read _ _ (heeds_plain (instr_heeds.heeds s at h)) (λ i next h'.
    ruled_read at (judge_instr c st i) _ _ (λ n. on_next_lem i next n (λ later. from_read left c ordered later s next h'))
    ∙ ap (λ (r : Ruled Next). on_ruled r (λ number. refused number at) (λ n. on_next n (λ later. then (judge_from_before left c later s next) (λ code stop. got ((at, i) ∷ code) stop)) (got ((at, i) ∷ []) next))) (instr_read c st ordered i))
  where
    on_next_lem : (i : Instr) (next : ℕ) (n : Next) → ((later : State) → read20 (judge_from left c later s next) ≡ judge_from_before left c later s next) → read20 (on_next n (λ later. then (judge_from left c later s next) (λ code stop. got ((at, i) ∷ code) stop)) (got ((at, i) ∷ []) next)) ≡ on_next n (λ later. then (judge_from_before left c later s next) (λ code stop. got ((at, i) ∷ code) stop)) (got ((at, i) ∷ []) next)
    on_next_lem i next (goes_on later) so = code_read (at, i) (judge_from left c later s next) ∙ ap (λ (r : Read Code). then r (λ code stop. got ((at, i) ∷ code) stop)) (so later)
    on_next_lem i next finished so = refl

-- the body

ended_read : (s : List ℕ) (b : Body) (stop : ℕ) → read20 (ended s b stop) ≡ ended s b stop
ended_read s b stop = go (eqb stop (length s))
  where
    go : (t : Bool) → read20 (cond t (got b stop) (refused left_over stop)) ≡ cond t (got b stop) (refused left_over stop)
    go true = refl
    go false = refl

last_read : {A : Type 0} (r q : Read A) (f : A → ℕ → Read Body) → read20 r ≡ q → ((x : A) (next : ℕ) → read20 (f x next) ≡ f x next) → read20 (then r f) ≡ then q f
last_read (got x next) q f e k = k x next ∙ ap (λ (o : Read _). then o f) e
last_read (refused n p) q f e k = ap (λ (o : Read _). then o f) e

body_read : (ds : List Definition) → Ordered (types_of ds) → (f : Function) (s : List ℕ) → read20 (body_at ds f s) ≡ body_before ds f s
unfolding body_at body_before
body_read ds ordered f s =
    then_read _ _ (heeds_plain ((unsigned_heeds 32).heeds s 0 (omega arith))) (λ n entries h.
    then_read _ _ (locals-plain (length ds) n (length f.parameters) s entries h) (λ ls first h'.
    last_read (judge_from (length s) (context_of ds f ls) (start_state f ls) s first) (judge_from_before (length s) (context_of ds f ls) (start_state f ls) s first) (λ code stop. ended s (record { types = ds; function = f; locals = ls; code = code }) stop) (from_read (length s) (context_of ds f ls) ordered (start_state f ls) s first h') (λ code stop. ended_read s (record { types = ds; function = f; locals = ls; code = code }) stop)))

judged_read : {A : Type 0} (r : Read A) → read_as20 (judged_of r) ≡ judged_of (read20 r)
judged_read (got x stop) = refl
judged_read (refused n p) = refl

why_as : {library section : List ℕ} {n : ℕ} {p : Place} → SaysNo library section n p → as20 n ≡ n
why_as (of_library_bytes un bad inside) = byte_as bad
why_as (of_library_rules written first bad inside) = rule_as bad
why_as (of_bytes shared un bad inside) = byte_as bad
why_as (of_rules shared written first bad own inside) = rule_as bad

section_as : (library section : List ℕ) {n : ℕ} {p : Place} → judge_joined library section ≡ rejected n p → as20 n ≡ n
section_as library section {n} {p} e = why_as (says_no_lem library section n p e)

pub verdict_read : (library section s : List ℕ) (x : ℕ) → read_as20 (judge_body library section s x) ≡ judge_body_before library section s x
unfolding judge_body judge_body_before judge_sections
verdict_read library section s x = go (judge_joined library section) refl
  where
    typed : (ds : List Definition) → Ordered (types_of ds) → (o : Option Function) → read_as20 (given o (rejected not_a_function (plain 0)) (λ f. judged_of (body_at ds f s))) ≡ given o (rejected not_a_function (plain 0)) (λ f. judged_of (body_before ds f s))
    typed ds ordered none = refl
    typed ds ordered (some f) = judged_read (body_at ds f s) ∙ ap judged_of (body_read ds ordered f s)

    sized : (b : Bool) (more before : Judged Body) → read_as20 more ≡ before → read_as20 (cond b (rejected oversize (plain 0)) more) ≡ cond b (rejected oversize (plain 0)) before
    sized true more before e = refl
    sized false more before e = e

    go : (v : Judged Joined) → judge_joined library section ≡ v
        → read_as20 (and_then (and_then v (λ j. accepted j.types)) (λ ds. cond (ltb most_bytes (length s)) (rejected oversize (plain 0)) (given (function_of (types_of ds x).form) (rejected not_a_function (plain 0)) (λ f. judged_of (body_at ds f s)))))
        ≡ and_then (and_then v (λ j. accepted j.types)) (λ ds. cond (ltb most_bytes (length s)) (rejected oversize (plain 0)) (given (function_of (types_of ds x).form) (rejected not_a_function (plain 0)) (λ f. judged_of (body_before ds f s))))
    go (accepted j) e =
        let ds = j.types in
        sized (ltb most_bytes (length s)) (given (function_of (types_of ds x).form) (rejected not_a_function (plain 0)) (λ f. judged_of (body_at ds f s)))
        (given (function_of (types_of ds x).form) (rejected not_a_function (plain 0)) (λ f. judged_of (body_before ds f s)))
        (typed ds (passes_ordered (accepted_passes library section e)) (function_of (types_of ds x).form))
    go (rejected n p) e = rw (section_as library section e)

accepted_read : {v u : Judged Body} {b : Body} → read_as20 v ≡ u → v ≡ accepted b → u ≡ accepted b
accepted_read e f = sym e ∙ ap read_as20 f

accepted_back : (v : Judged Body) {u : Judged Body} {b : Body} → read_as20 v ≡ u → u ≡ accepted b → v ≡ accepted b
accepted_back (accepted x) e f = e ∙ f
accepted_back (rejected n p) e f = impossible cc

pub nothing_else_lem : NothingElse
nothing_else_lem =
    record {
      same = verdict_read;
      accepts = λ library section s x b. (accepted_read (verdict_read library section s x), accepted_back (judge_body library section s x) (verdict_read library section s x));
      sections = λ library section n p e is. let other : as20 n ≡ n = section_as library section e in let same : bad_operand ≡ only_null = rw is at other in absurd (omega (arith, same));
    }
