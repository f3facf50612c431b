-- An accepted body is the body that its bytes are: the derivation's, with each instruction at its first byte. The checker's
-- walk places the instructions as the relation does, and bytes place the same instructions in one way only.
use Prim.Native.Nat.{ℕ, zero, suc}
use native.Mathlib.Omega.{arith}
use mathlib.Core.Path.{◌≡◌, refl, sym, ◌∙◌, ap, subst, subst₂}
use mathlib.Core.Logic.{◌↔◌}
use mathlib.Core.List.{List, [], ◌∷◌}
use lib.ListN.{length}
use borrow.Author.Tests.{eq-eqb, le-ltb}
use Rattle.scope.specs.Reading.{got, refused, then}
use Rattle.scope.specs.Syntax.{Val, Definition, types_of}
use Rattle.scope.specs.Judging.{accepted, judge_joined, judge_sections}
use Rattle.scope.specs.Instructions.{Instr, instr_at}
use Rattle.scope.specs.BodyRules.{Context, Ruled, allowed, fault}
use Rattle.scope.specs.Bodies.{State, Next, goes_on, finished, judge_instr, Code, on_ruled, on_next, judge_from, Function, Body, start_state, context_of, body_at, judge_body}
use Rattle.scope.proofs.Impossible.{contradiction}
use Rattle.scope.proofs.Accepted.{accepted_passes}
use Rattle.facts_sections.proofs.Exactly.{accepted_exactly}
use Rattle.facts_bodies.specs.Typing.{Derivation}
use Rattle.facts_bodies.proofs.Premises.{Ordered, passes_ordered}
use Rattle.facts_bodies.proofs.Bytes.{same_got, first_got, refused_is_not_got, locals_got, instructions_of, typed_got}
use Rattle.facts_bodies.proofs.Verdict.{from_start, function_found, section_accepted, same_body}
use Rattle.facts_bodies.proofs.Main.{accepted_is_derived}
use Rattle.facts_calls.specs.Meant.{Placed, none_placed, next_placed, IsBody}

-- the walk places

module _ (c : Context) (s : List ℕ) where
  as_placed : {at stop end : ℕ} {code more : Code} → Placed s at code stop → got code stop ≡ got more end → Placed s at more end
  as_placed {at} p e = let (codes, place) = same_got e in subst₂ (Placed s at) codes place p

  walk_placed : (left : ℕ) (st : State) (at : ℕ) {code : Code} {stop : ℕ} → judge_from left c st s at ≡ got code stop → Placed s at code stop
  unfolding judge_from
  walk_placed zero st at e = absurd (refused_is_not_got e)
  walk_placed (suc left) st at {code} {stop} e =
      let (i, next, read, more) = first_got (instr_at s at) _ e in
      ruled i next read (judge_instr c st i) more (λ later code stop. walk_placed left later next {code = code} {stop = stop})
    where
      on : (i : Instr) (next : ℕ) → instr_at s at ≡ got i next → (n : Next)
          → on_next n (λ later. then (judge_from left c later s next) (λ code stop. got ((at, i) ∷ code) stop)) (got ((at, i) ∷ []) next) ≡ got code stop
          → ((later : State) (code : Code) (stop : ℕ) → judge_from left c later s next ≡ got code stop → Placed s next code stop)
          → Placed s at code stop
      on i next read finished f more = as_placed (next_placed read none_placed) f
      on i next read (goes_on later) f more =
          let (code', stop', walk, same) = first_got (judge_from left c later s next) _ f in
          as_placed (next_placed read (more later code' stop' walk)) same

      ruled : (i : Instr) (next : ℕ) → instr_at s at ≡ got i next → (r : Ruled Next)
          → on_ruled r (λ n. refused n at) (λ n. on_next n (λ later. then (judge_from left c later s next) (λ code stop. got ((at, i) ∷ code) stop)) (got ((at, i) ∷ []) next)) ≡ got code stop
          → ((later : State) (code : Code) (stop : ℕ) → judge_from left c later s next ≡ got code stop → Placed s next code stop)
          → Placed s at code stop
      ruled i next read (fault n) f more = absurd (refused_is_not_got f)
      ruled i next read (allowed n) f more = on i next read n f more

-- in one way only

cons-one : {A : Type 0} {x y : A} {xs ys : List A} → x ∷ xs ≡ y ∷ ys → (x ≡ y) × (xs ≡ ys)
cons-one e = (cc, cc)

cons_is_not-nil : {A : Type 0} {x : A} {xs : List A} → x ∷ xs ≡ [] → ⊥
cons_is_not-nil e = contradiction cc

placed_once : {s : List ℕ} {at stop end : ℕ} {code more : Code} → Placed s at code stop → Placed s at more end → instructions_of code ≡ instructions_of more → code ≡ more
placed_once none_placed none_placed e = refl
placed_once none_placed (next_placed read p) e = absurd (cons_is_not-nil (sym e))
placed_once (next_placed read p) none_placed e = absurd (cons_is_not-nil e)
placed_once {s} {at} {end = end} (next_placed {next = next} {i = i} {code = code} read p) (next_placed {next = after} {i = j} {code = more} again q) e =
    let (same, rest) = cons-one e in
    let (one, place) = same_got (sym read ∙ again) in
    let here : Placed s next more end = subst (λ (n : ℕ). Placed s n more end) (sym place) q in
    let later : code ≡ more = placed_once p here rest in
    rw (same, later)

-- both ways

module _ (library section s : List ℕ) (x : ℕ) where
  module _ {many : ℕ} {ds : List Definition} (judged : judge_joined library section ≡ accepted (record { before = many; types = ds })) {f : Function} {ls : List Val} {is : List Instr} (d : Derivation ds x s f ls is) where
    ordered : Ordered (types_of ds)
    ordered = passes_ordered (accepted_passes library section judged)

    -- the body of a derivation
    pub derived_body : (code : Code)
        × (judge_body library section s x ≡ accepted (record { types = ds; function = f; locals = ls; code = code }))
        × Placed s d.written.first code (length s)
        × (instructions_of code ≡ is)
    unfolding judge_body judge_sections body_at
    derived_body =
        let (code, walk, same) = typed_got (context_of ds f ls) ordered s (length s) (from_start ds ordered s d) d.written.instructions (omega arith) in (
          code,
          rw (judged, le-ltb _ _ d.small, function_found ds x d.is_function, d.written.counted, locals_got s (length ds) d.written.entries d.all_locals, walk, eq-eqb (length s) (length s) refl),
          walk_placed (context_of ds f ls) s (length s) (start_state f ls) d.written.first walk,
          same,
        )

  pub accepted_body : {b : Body} → judge_body library section s x ≡ accepted b → IsBody library section s x b
  accepted_body {b} e =
      let (j, judged) = section_accepted library section s x e in
      let d = accepted_is_derived library section s x judged e in
      let (code, verdict, placed, same) = derived_body judged d in
      let one = same_body verdict e in
      subst (IsBody library section s x) one (record {
        before = j.before;
        allowed = (accepted_exactly library section j).0 judged;
        derivation = subst (Derivation j.types x s b.function b.locals) (sym same) d;
        placed = placed;
      })

  pub body_accepted : {b : Body} → IsBody library section s x b → judge_body library section s x ≡ accepted b
  body_accepted {b} is =
      let judged = (accepted_exactly library section _).1 is.allowed in
      let (code, verdict, placed, same) = derived_body judged is.derivation in
      let one : code ≡ b.code = placed_once placed is.placed same in
      verdict ∙ ap (λ (c : Code). accepted (record { types = b.types; function = b.function; locals = b.locals; code = c })) one

  pub accepted_exactly_body : (b : Body) → (judge_body library section s x ≡ accepted b) ↔ IsBody library section s x b
  accepted_exactly_body b = (accepted_body, body_accepted)
