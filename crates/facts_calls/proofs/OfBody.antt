-- Demand 2 of the call on a body: as that on a section, with derivations in place of allowed types.
use Prim.Native.Nat.{ℕ}
use mathlib.Core.Path.{◌≡◌, refl, sym, ◌∙◌, ap}
use mathlib.Core.Bool.{Bool, ◌&&◌}
use mathlib.Core.List.{List, [], ◌∷◌}
use lib.ListN.{length}
use Rattle.scope.specs.Told.{no_in}
use Rattle.std.specs.Prelude.{Result, Ok, Err}
use Rattle.scope.specs.declared.Rejected.{Rejected}
use Rattle.scope.specs.Refusals.{buffer_too_small}
use Rattle.scope.specs.Layout.{work_size}
use Rattle.scope.specs.declared.Place.{Place}
use Rattle.scope.specs.Judging.{plain, Judged, accepted, rejected}
use Rattle.scope.specs.Bodies.{Code, Body, instructions, judge_body}
use Rattle.scope.specs.Answers.{holds, table_lent, verdict_of, body_call, BodyJudged}
use Rattle.facts_sections.proofs.Exactly.{accepted_exactly}
use Rattle.facts_bodies.proofs.Bytes.{instructions_of}
use Rattle.facts_refusals.proofs.Bodies.{body-no_exactly}
use Rattle.facts_refusals.proofs.Places.{body_refusals}
use Rattle.facts_calls.specs.Lent.{BodySuffices, BodyShort}
use Rattle.facts_calls.specs.Meant.{BodyOf}
use Rattle.facts_calls.specs.Calls.{OfBody}
use Rattle.facts_calls.proofs.Zero.{wiped-zero}
use Rattle.facts_calls.proofs.Lent.{body_suffices, body-lent, body_is_short, short_body}
use Rattle.facts_calls.proofs.Placed.{accepted_body, derived_body}
use Rattle.facts_calls.proofs.Verdicts.{accepted_is_not_rejected, verdict-yes, verdict-no, lent-yes, lent-call, short_call, lent-no}
use Rattle.facts_calls.proofs.Fourteen.{body_never_14}

as_many : (code : Code) → length (instructions_of code) ≡ length code
as_many [] = refl
as_many (i ∷ code) = rw (as_many code)

module _ {library section s : List ℕ} {x : ℕ} {rows shared codes work rows' shared' codes' work' : List ℕ} {r : Result ℕ Rejected} (promise : BodyJudged library section s x rows shared codes work rows' shared' codes' work' r) where
  abbrev lent : Bool
  lent = table_lent rows shared codes && holds work_size work

  abbrev call : Judged Body
  call = body_call library section s x rows shared codes work

  own_call : BodySuffices rows shared codes work → call ≡ judge_body library section s x
  own_call t = lent-call lent (judge_body library section s x) (body-lent t)

  yes_allowed : (n : ℕ) → r ≡ Ok n → BodySuffices rows shared codes work × BodyOf library section s x n
  yes_allowed n e =
      let (b, called, many) = verdict-yes instructions call (sym promise.answer ∙ e) in
      let (suffices, judged) = lent-yes lent (judge_body library section s x) called in
      let is = accepted_body library section s x judged in (
        body_suffices suffices,
        record {
          both = record { before = is.before; types = b.types };
          allowed = is.allowed;
          function = b.function;
          locals = b.locals;
          instructions = instructions_of b.code;
          derivation = is.derivation;
          many = as_many b.code ∙ many;
        },
      )

  called : (n : ℕ) → BodySuffices rows shared codes work → BodyOf library section s x n → (b : Body) × (call ≡ accepted b) × (instructions b ≡ n)
  called n t a =
      let judged = (accepted_exactly library section a.both).1 a.allowed in
      let (code, verdict, placed, same) = derived_body library section s x judged a.derivation in
      (_, own_call t ∙ verdict, sym (as_many code) ∙ ap length same ∙ a.many)

  allowed_yes : (n : ℕ) → BodySuffices rows shared codes work × BodyOf library section s x n → r ≡ Ok n
  allowed_yes n (t, a) =
      let (b, verdict, many) = called n t a in
      promise.answer ∙ ap (verdict_of instructions) verdict ∙ ap Ok many

  said : {no : Rejected} → r ≡ Err no → call ≡ rejected no.number no.place
  said e = verdict-no instructions call (sym promise.answer ∙ e)

  says : {no : Rejected} → call ≡ rejected no.number no.place → r ≡ Err no
  says e = promise.answer ∙ ap (verdict_of instructions) e

  fourteen : (place : Place) → r ≡ Err (no_in buffer_too_small place) → BodyShort rows shared codes work × (place ≡ plain 0)
  fourteen place e =
      lent-no lent (judge_body library section s x) (said e)
      (λ short at. (body_is_short short, at))
      (λ suffices no'. absurd (body_never_14 library section s x place no'))

  pub of_body : OfBody promise
  of_body =
      record {
        accepted = λ n. (yes_allowed n, allowed_yes n);
        never = λ n number place t a e. let (b, verdict, many) = called n t a in accepted_is_not_rejected (sym verdict ∙ said e);
        short = (λ e. (fourteen (plain 0) e).0, λ t. says (short_call lent (judge_body library section s x) (short_body t)));
        only = fourteen;
        refused = λ number place t. (λ e. (body-no_exactly library section s x number place).0 (sym (own_call t) ∙ said e), λ e. says (own_call t ∙ (body-no_exactly library section s x number place).1 e));
        places = λ number place t e. body_refusals.places library section s x number place (sym (own_call t) ∙ said e);
        wipes = (wiped-zero promise.rows_after, wiped-zero promise.shared_after, wiped-zero promise.codes_after, wiped-zero promise.work_after);
      }
