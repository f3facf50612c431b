-- An accepted body has its parts: whatever the definition accepts passed each of its readings and tests, in order.
use Prim.Native.Nat.{ℕ, ◌≤◌}
use mathlib.Core.Path.{◌≡◌, refl}
use mathlib.Core.Bool.{Bool, true, false, cond}
use mathlib.Core.List.{List}
use lib.ListN.{length}
use lib.Dec.{ltb, eqb}
use borrow.Author.Tests.{ltb-false, eqb-true}
use Rattle.scope.specs.Sizes.{most_bytes, most_types, most_each}
use Rattle.scope.specs.Refusals.{oversize, not_a_function}
use Rattle.scope.specs.Reading.{got, given}
use Rattle.scope.specs.Numbers.{u32}
use Rattle.scope.specs.Syntax.{Form, struct, func, Definition, types_of}
use Rattle.scope.specs.Judging.{plain, Judged, accepted, rejected, judge_sections}
use Rattle.scope.specs.declared.Place.{Place}
use Rattle.scope.specs.Bodies.{Function, function_of, locals_at, judge_from, context_of, start_state, Body, body_at, judge_body}
use Rattle.scope.proofs.Telling.{Gives, gives_this, gives_nothing, gives_then, Accepting, accepts_nothing, accepts_then, accepts_read}
use Rattle.body_start.specs.Beginning.{locals_first}
use Rattle.body_start.proofs.Reached.{gives-tested}
use Rattle.run_ends.specs.Matching.{code_at, Balanced}
use Rattle.run_ends.proofs.Balance.{judged-code, judged_balanced}
use Rattle.body_call.proofs.Lending.{accepted_bounded}
use Rattle.run_prepare.specs.Parts.{Parts}

accepts_unless : {A : Type 0} {P : A → Type 0} (t : Bool) (n : ℕ) (p : Place) {j : Judged A} → (t ≡ false → Accepting P j) → Accepting P (cond t (rejected n p) j)
accepts_unless true n p k = accepts_nothing
accepts_unless false n p k = k refl

accepts_function :
    {P : Body → Type 0} (form : Form) {j : Function → Judged Body} → ((f : Function) → form ≡ func f.parameters f.results → Accepting P (j f))
    → Accepting P (given (function_of form) (rejected not_a_function (plain 0)) j)
accepts_function (struct fs) k = accepts_nothing
accepts_function (func ps rs) k = k (record { parameters = ps; results = rs }) refl

module _ (library section s : List ℕ) (x : ℕ) (ds : List Definition) (judged : judge_sections library section ≡ accepted ds) (short : length s ≤ most_bytes) where
  body_parts : (f : Function) → (types_of ds x).form ≡ func f.parameters f.results → Gives (Parts library section s x) (body_at ds f s)
  unfolding body_at locals_first
  body_parts f form =
      gives_then (u32 s 0) (λ n entries counted.
      gives_then (locals_at (length ds) n (length f.parameters) s entries) (λ ls first are.
      gives_then (judge_from (length s) (context_of ds f ls) (start_state f ls) s first) (λ code stop checked.
      gives-tested (eqb stop (length s)) (λ whole.
      let last : stop ≡ length s = eqb-true stop (length s) whole in
      let all : judge_from (length s) (context_of ds f ls) (start_state f ls) s first ≡ got code (length s) = rw last at checked in
      let is : code ≡ code_at s first = judged-code (length s) (context_of ds f ls) (start_state f ls) s first code all in
      let closed : Balanced 0 code = judged_balanced (length s) (context_of ds f ls) (start_state f ls) s first all in
      gives_this (record { judged = judged; short = short; form = form; first = first; read = rw counted are; code = is; balanced = rw is at closed }))
      gives_nothing)))

judged_parts : (library section s : List ℕ) (x : ℕ) → Accepting (Parts library section s x) (judge_body library section s x)
unfolding judge_body
judged_parts library section s x =
    accepts_then (judge_sections library section) (λ ds judged.
    accepts_unless (ltb most_bytes (length s)) oversize (plain 0) (λ sized.
    accepts_function (types_of ds x).form (λ f form.
    accepts_read (body_at ds f s) (body_parts library section s x ds judged (ltb-false most_bytes (length s) sized) f form))))

pub parts : {library section s : List ℕ} {x : ℕ} {b : Body} → judge_body library section s x ≡ accepted b → Parts library section s x b
parts {library} {section} {s} {x} {b} e = (judged_parts library section s x).tells b e

-- the sizes of its types

module _ {library section s : List ℕ} {x : ℕ} {b : Body} (p : Parts library section s x b) where
  pub few_types : length b.types ≤ most_types
  few_types = (accepted_bounded library section p.judged).types

  pub few_parameters : length b.function.parameters ≤ most_each
  few_parameters = (accepted_bounded library section p.judged).parameters x b.function.parameters b.function.results p.form
