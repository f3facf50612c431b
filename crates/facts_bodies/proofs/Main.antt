-- Accepted exactly when the rules allow it (demand 2 for bodies): the verdict on a body is yes exactly when a derivation by
-- the typing rules of specs/ exists. What is accepted has the derivation's function type, locals and instructions, and
-- these are the only ones that the bytes have a derivation for. The argument: each test of the checker passes exactly when
-- the premise that it asks for holds, and the order's test and relation agree on the types of accepted sections.
use Prim.Native.Nat.{ℕ}
use mathlib.Core.Path.{◌≡◌, sym, ◌∙◌, ap}
use mathlib.Core.Logic.{◌↔◌}
use mathlib.Core.List.{List}
use Rattle.scope.specs.Syntax.{Val, types_of}
use Rattle.scope.specs.Instructions.{Instr}
use Rattle.scope.specs.Judging.{accepted, Joined, judge_joined}
use Rattle.scope.specs.Bodies.{Function, Body, judge_body}
use Rattle.scope.proofs.Accepted.{accepted_passes}
use Rattle.facts_bodies.specs.Typing.{Derivation, AllowedBody}
use Rattle.facts_bodies.proofs.Premises.{Ordered, passes_ordered}
use Rattle.facts_bodies.proofs.Bytes.{instructions_of}
use Rattle.facts_bodies.proofs.Verdict.{accepted_derivation, derivation_accepted, section_accepted, same_body}

module _ (library section s : List ℕ) (x : ℕ) where
  -- the verdict on these bytes, as a body of type x of the joined list, is yes
  abbrev pub IsAccepted : Type 0
  IsAccepted = (b : Body) × (judge_body library section s x ≡ accepted b)

  module _ {j : Joined} (judged : judge_joined library section ≡ accepted j) where
    ordered : Ordered (types_of j.types)
    ordered = passes_ordered (accepted_passes library section judged)

    -- what is accepted is what the derivation is about
    pub accepted_is_derived : {b : Body} → judge_body library section s x ≡ accepted b → Derivation j.types x s b.function b.locals (instructions_of b.code)
    accepted_is_derived e = accepted_derivation j.types ordered s library section judged x e

    accepted_is_allowed : IsAccepted → AllowedBody j.types x s
    accepted_is_allowed (b, e) = record { function = b.function; locals = b.locals; instructions = instructions_of b.code; derivation = accepted_is_derived e }

    allowed_is_accepted : AllowedBody j.types x s → IsAccepted
    allowed_is_accepted a = let (code, verdict, same) = derivation_accepted j.types ordered s library section judged x a.derivation in (_, verdict)

    -- over the types of accepted sections: a yes exactly when a derivation exists
    pub accepted_exactly_when_allowed : IsAccepted ↔ AllowedBody j.types x s
    accepted_exactly_when_allowed = (accepted_is_allowed, allowed_is_accepted)

    -- the same bytes are not derived in two ways
    pub one_derived : {f g : Function} {ls ms : List Val} {is js : List Instr}
        → Derivation j.types x s f ls is
        → Derivation j.types x s g ms js
        → (f ≡ g) × (ls ≡ ms) × (is ≡ js)
    one_derived d e =
        let (code, verdict, same) = derivation_accepted j.types ordered s library section judged x d in
        let (other, again, equal) = derivation_accepted j.types ordered s library section judged x e in
        let one = same_body verdict again in
        (ap (λ (b : Body). b.function) one, ap (λ (b : Body). b.locals) one, sym same ∙ ap (λ (b : Body). instructions_of b.code) one ∙ equal)

  -- the sections too: a yes exactly when their own verdict is yes and the joined list allows the body
  pub accepted_exactly_when_both : IsAccepted ↔ ((j : Joined) × (judge_joined library section ≡ accepted j) × AllowedBody j.types x s)
  accepted_exactly_when_both = (
    λ (b, e). let (j, judged) = section_accepted library section s x e in (j, judged, accepted_is_allowed judged (b, e)),
    λ (j, judged, a). allowed_is_accepted judged a,
  )
