-- The verdict on a body, taken apart: its size, the function type that the number names, the locals, the instructions, and
-- that nothing is left over. Each step of it is a field of a derivation, and the other way round.
use Prim.Native.Nat.{ℕ, zero, suc}
use native.Mathlib.Omega.{arith}
use mathlib.Core.Path.{◌≡◌, refl, sym, ap, subst}
use mathlib.Core.Bool.{Bool, true, false, cond}
use mathlib.Core.Option.{Option, none, some}
use mathlib.Core.List.{List, [], ◌∷◌}
use lib.ListN.{length, get_elem?}
use lib.Dec.{ltb}
use borrow.Author.Tests.{eqb-true, eq-eqb, ltb-false, le-ltb}
use Rattle.scope.specs.Sizes.{most_bytes}
use Rattle.scope.specs.Refusals.{oversize, not_a_function}
use Rattle.scope.specs.Reading.{Read, got, refused, given}
use Rattle.scope.specs.Numbers.{u32}
use Rattle.scope.specs.Syntax.{Val, Form, struct, func, Definition, types_of}
use Rattle.scope.specs.Sections.{ended}
use Rattle.scope.specs.declared.Place.{Place}
use Rattle.scope.specs.Judging.{plain, Judged, accepted, rejected, and_then, Joined, judge_joined, judge_sections}
use Rattle.scope.specs.Instructions.{Instr}
use Rattle.scope.specs.Bodies.{State, Code, judge_from, locals_at, Function, function_of, Body, start_state, context_of, body_at, judged_of, judge_body}
use Rattle.scope.proofs.Truths.{none_is_not-some}
use Rattle.scope.proofs.Impossible.{contradiction}
use Rattle.facts_bodies.specs.Typing.{TypedBody, Entry, Locals, InstrsAt, FunctionType, Writing, Derivation}
use Rattle.facts_bodies.proofs.Premises.{same_some, Ordered}
use Rattle.facts_bodies.proofs.Apart.{start_stands, only_start}
use Rattle.facts_bodies.proofs.Bytes.{same_got, first_got, cond_got, got_locals, locals_got, instructions_of, got_walked, typed_got}

-- acceptances

rejected_is_not_accepted : {A : Type 0} {n : ℕ} {p : Place} {x : A} → rejected n p ≡ accepted x → ⊥
rejected_is_not_accepted e = contradiction cc

not_rejected : {A : Type 0} {x : A} (t : Bool) (n : ℕ) (p : Place) (more : Judged A) → cond t (rejected n p) more ≡ accepted x → (t ≡ false) × (more ≡ accepted x)
not_rejected true n p more e = absurd (rejected_is_not_accepted e)
not_rejected false n p more e = (refl, e)

then_accepted : {A B : Type 0} {y : B} (j : Judged A) (f : A → Judged B) → and_then j f ≡ accepted y → (x : A) × (j ≡ accepted x) × (f x ≡ accepted y)
then_accepted (accepted x) f e = (x, refl, e)
then_accepted (rejected n p) f e = absurd (rejected_is_not_accepted e)

given_accepted : {A B : Type 0} {y : B} (o : Option A) (n : ℕ) (p : Place) (f : A → Judged B)
    → given o (rejected n p) f ≡ accepted y
    → (x : A) × (o ≡ some x) × (f x ≡ accepted y)
given_accepted none n p f e = absurd (rejected_is_not_accepted e)
given_accepted (some x) n p f e = (x, refl, e)

judged_got : {A : Type 0} {x : A} (r : Read A) → judged_of r ≡ accepted x → (stop : ℕ) × (r ≡ got x stop)
judged_got {x = x} (got y stop) e = let same : y ≡ x = cc in (stop, rw same)
judged_got (refused n p) e = absurd (rejected_is_not_accepted e)

-- function types

form_function : (form : Form) {f : Function} → function_of form ≡ some f → form ≡ func f.parameters f.results
form_function (struct fs) e = absurd (none_is_not-some e)
form_function (func ps rs) e = ap (λ (g : Function). func g.parameters g.results) (same_some e)

pub found_function : (ds : List Definition) (x : ℕ) {f : Function} → function_of (types_of ds x).form ≡ some f → FunctionType ds x f
found_function [] x e = absurd (none_is_not-some e)
found_function (d ∷ ds) zero e = record { definition = d; present = refl; form = form_function d.form e }
found_function (d ∷ ds) (suc x) e =
    let found = found_function ds x e in
    record { definition = found.definition; present = found.present; form = found.form }

present_type : (ds : List Definition) (x : ℕ) {d : Definition} → get_elem? ds x ≡ some d → types_of ds x ≡ d
present_type [] x e = absurd (none_is_not-some e)
present_type (d ∷ ds) zero e = same_some e
present_type (d ∷ ds) (suc x) e = present_type ds x e

pub function_found : (ds : List Definition) (x : ℕ) {f : Function} → FunctionType ds x f → function_of (types_of ds x).form ≡ some f
function_found ds x t = rw (present_type ds x t.present, t.form)

-- bodies

module _ (ds : List Definition) (ordered : Ordered (types_of ds)) (s : List ℕ) where
  -- what the reading of an accepted body shows
  record Shown (f : Function) (b : Body) : Type 0 where
    same_function : b.function ≡ f
    entries : List Entry
    written : Writing s entries (instructions_of b.code)
    all_locals : Locals (length ds) (length b.function.parameters) entries b.locals
    typed : TypedBody (context_of ds b.function b.locals) (start_state b.function b.locals) (instructions_of b.code)

  -- the four readings of a body, one after the other
  read_shown : (f : Function) {b : Body} {n from first stop end : ℕ} (ls : List Val) (code : Code)
      → u32 s 0 ≡ got n from
      → locals_at (length ds) n (length f.parameters) s from ≡ got ls first
      → judge_from (length s) (context_of ds f ls) (start_state f ls) s first ≡ got code stop
      → ended s (record { types = ds; function = f; locals = ls; code = code }) stop ≡ got b end
      → Shown f b
  read_shown f {n = n} {from} {first} {stop} ls code counted locals walk last =
      let (ends, same) = cond_got _ _ _ _ last in
      let read = got_locals s (length ds) n (length f.parameters) from locals in
      let walked = got_walked (context_of ds f ls) ordered s (length s) (start_state f ls) first walk in
      let written : Writing s read.entries (instructions_of code) =
      record {
        from = from;
        first = first;
        counted = rw read.counted counted;
        entries = read.reads;
        instructions = subst (InstrsAt s first (instructions_of code)) (eqb-true stop (length s) ends) walked.reads;
      } in
      let shown : Shown f (record { types = ds; function = f; locals = ls; code = code }) =
      record { same_function = refl; entries = read.entries; written = written; all_locals = read.stands; typed = walked.typed } in
      subst (Shown f) (same_got same).0 shown

  got_shown : (f : Function) {b : Body} {stop : ℕ} → body_at ds f s ≡ got b stop → Shown f b
  unfolding body_at
  got_shown f e =
      let (n, from, counted, more) = first_got (u32 s 0) _ e in
      let (ls, first, locals, rest) = first_got (locals_at (length ds) n (length f.parameters) s from) _ more in
      let (code, stop, walk, last) = first_got (judge_from (length s) (context_of ds f ls) (start_state f ls) s first) _ rest in
      read_shown f {n = n} {from = from} {first = first} {stop = stop} ls code counted locals walk last

  pub shown_got : (f : Function) {es : List Entry} {ls : List Val} {is : List Instr}
      → Writing s es is
      → Locals (length ds) (length f.parameters) es ls
      → TypedBody (context_of ds f ls) (start_state f ls) is
      → (code : Code) × (body_at ds f s ≡ got (record { types = ds; function = f; locals = ls; code = code }) (length s)) × (instructions_of code ≡ is)
  unfolding body_at
  shown_got f {ls = ls} w l t =
      let (code, walk, same) = typed_got (context_of ds f ls) ordered s (length s) t w.instructions (omega arith) in
      (code, rw (w.counted, locals_got s (length ds) w.entries l, walk, eq-eqb (length s) (length s) refl), same)

  -- a derivation's own start is the checker's
  pub from_start : {x : ℕ} {f : Function} {ls : List Val} {is : List Instr} → Derivation ds x s f ls is → TypedBody (context_of ds f ls) (start_state f ls) is
  from_start {f = f} {ls} {is} d = subst (λ (st : State). TypedBody (context_of ds f ls) st is) (sym (only_start d.starts)) d.typed

  -- the verdict, section and all

  accepted_shown : (x : ℕ) {b : Body}
      → cond (ltb most_bytes (length s)) (rejected oversize (plain 0)) (given (function_of (types_of ds x).form) (rejected not_a_function (plain 0)) (λ f. judged_of (body_at ds f s))) ≡ accepted b
      → Derivation ds x s b.function b.locals (instructions_of b.code)
  accepted_shown x {b} e =
      let (small, more) = not_rejected _ _ _ _ e in
      let (f, is_function, rest) = given_accepted (function_of (types_of ds x).form) _ _ _ more in
      let (stop, reading) = judged_got (body_at ds f s) rest in
      let shown = got_shown f reading in
      record {
        small = ltb-false _ _ small;
        is_function = subst (FunctionType ds x) (sym shown.same_function) (found_function ds x is_function);
        entries = shown.entries;
        written = shown.written;
        all_locals = shown.all_locals;
        start = start_state b.function b.locals;
        starts = start_stands b.function b.locals;
        typed = shown.typed;
      }

  module _ (library section : List ℕ) {n : ℕ} (judged : judge_joined library section ≡ accepted (record { before = n; types = ds })) (x : ℕ) where
    pub accepted_derivation : {b : Body} → judge_body library section s x ≡ accepted b → Derivation ds x s b.function b.locals (instructions_of b.code)
    unfolding judge_body judge_sections
    accepted_derivation e = accepted_shown x (rw judged at e)

    pub derivation_accepted : {f : Function} {ls : List Val} {is : List Instr}
        → Derivation ds x s f ls is
        → (code : Code) × (judge_body library section s x ≡ accepted (record { types = ds; function = f; locals = ls; code = code })) × (instructions_of code ≡ is)
    unfolding judge_body judge_sections
    derivation_accepted {f} d =
        let (code, reading, same) = shown_got f d.written d.all_locals (from_start d) in
        (code, rw (judged, le-ltb _ _ d.small, function_found ds x d.is_function, reading), same)

-- a body's verdict is yes only where the sections' is
pub section_accepted : (library section s : List ℕ) (x : ℕ) {b : Body}
    → judge_body library section s x ≡ accepted b
    → (j : Joined) × (judge_joined library section ≡ accepted j)
unfolding judge_body judge_sections
section_accepted library section s x {b} e =
    let (ds, types, rest) = then_accepted (and_then (judge_joined library section) (λ j. accepted j.types)) _ e in
    let (j, judged, same) = then_accepted (judge_joined library section) (λ j. accepted j.types) types in
    (j, judged)

-- two yeses are one
pub same_body : {j : Judged Body} {b c : Body} → j ≡ accepted b → j ≡ accepted c → b ≡ c
same_body p q = cc
