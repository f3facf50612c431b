-- Demand 2 of the call on a section: where the buffers suffice its verdict is that on the section, which is yes exactly when
-- the section is allowed; where one is short it is 14 at 0, which no section is refused with.
use Prim.Native.Nat.{ℕ}
use mathlib.Core.Path.{◌≡◌, sym, ◌∙◌, ap}
use mathlib.Core.List.{List}
use Rattle.scope.specs.Told.{no_in}
use Rattle.std.specs.Prelude.{Result, Ok, Err}
use Rattle.scope.specs.declared.Rejected.{Rejected}
use Rattle.scope.specs.Refusals.{buffer_too_small}
use Rattle.scope.specs.declared.Place.{Place}
use Rattle.scope.specs.Judging.{plain, accepted, rejected, Joined, judge_joined}
use Rattle.scope.specs.Memory.{joined_rows, joined_shared, joined_codes}
use Rattle.scope.specs.Answers.{table_lent, counted, verdict_of, lent_after, section_call, SectionJudged}
use Rattle.facts_sections.specs.Allowed.{Allowed}
use Rattle.facts_sections.specs.FirstFault.{Refused}
use Rattle.facts_sections.proofs.Exactly.{accepted_exactly}
use Rattle.facts_sections.proofs.FaultOrder.{refused_exactly}
use Rattle.facts_refusals.proofs.Sections.{says_no_lem}
use Rattle.facts_calls.specs.Lent.{TableSuffices, TableShort}
use Rattle.facts_calls.specs.Meant.{SectionOf}
use Rattle.facts_calls.specs.Calls.{OfSection}
use Rattle.facts_calls.proofs.Zero.{wiped-zero}
use Rattle.facts_calls.proofs.Room.{table-beyond}
use Rattle.facts_calls.proofs.Lent.{table_suffices, table-lent, table_is_short, short_table}
use Rattle.facts_calls.proofs.Verdicts.{accepted_is_not_rejected, verdict-yes, verdict-no, lent-yes, lent-call, short_call, lent-no}
use Rattle.facts_calls.proofs.RowTells.{row_tells}
use Rattle.facts_calls.proofs.Fourteen.{section_never_14}

module _ {library s rows shared codes rows' shared' codes' : List ℕ} {r : Result ℕ Rejected} (promise : SectionJudged library s rows shared codes rows' shared' codes' r) where
  own_call : TableSuffices rows shared codes → section_call library s rows shared codes ≡ judge_joined library s
  own_call t = lent-call (table_lent rows shared codes) (judge_joined library s) (table-lent t)

  too_short : TableShort rows shared codes → section_call library s rows shared codes ≡ rejected buffer_too_small (plain 0)
  too_short t = short_call (table_lent rows shared codes) (judge_joined library s) (short_table t)

  yes_allowed : (n : ℕ) → r ≡ Ok n → TableSuffices rows shared codes × SectionOf library s n
  yes_allowed n e =
      let (j, call, many) = verdict-yes counted (section_call library s rows shared codes) (sym promise.answer ∙ e) in
      let (lent, judged) = lent-yes (table_lent rows shared codes) (judge_joined library s) call in
      (table_suffices lent, record { both = j; allowed = (accepted_exactly library s j).0 judged; many = many })

  called : (j : Joined) → TableSuffices rows shared codes → Allowed library s j → section_call library s rows shared codes ≡ accepted j
  called j t a = own_call t ∙ (accepted_exactly library s j).1 a

  allowed_yes : (n : ℕ) → TableSuffices rows shared codes × SectionOf library s n → r ≡ Ok n
  allowed_yes n (t, a) = promise.answer ∙ ap (verdict_of counted) (called a.both t a.allowed) ∙ ap Ok a.many

  said : {no : Rejected} → r ≡ Err no → section_call library s rows shared codes ≡ rejected no.number no.place
  said e = verdict-no counted (section_call library s rows shared codes) (sym promise.answer ∙ e)

  says : {no : Rejected} → section_call library s rows shared codes ≡ rejected no.number no.place → r ≡ Err no
  says e = promise.answer ∙ ap (verdict_of counted) e

  fourteen : (place : Place) → r ≡ Err (no_in buffer_too_small place) → TableShort rows shared codes × (place ≡ plain 0)
  fourteen place e =
      lent-no (table_lent rows shared codes) (judge_joined library s) (said e)
      (λ short at. (table_is_short short, at))
      (λ lent no'. absurd (section_never_14 library s place no'))

  pub of_section : OfSection promise
  of_section =
      record {
        accepted = λ n. (yes_allowed n, allowed_yes n);
        table = λ j t a.
            let call = called j t a in
            table-beyond j t a (promise.rows_after ∙ ap (lent_after joined_rows rows) call) (promise.shared_after ∙ ap (lent_after joined_shared shared) call) (promise.codes_after ∙ ap (lent_after joined_codes codes) call);
        tells = λ j t a x inside.
            let after = promise.rows_after ∙ ap (lent_after joined_rows rows) (called j t a) in
            rw after (row_tells j a x inside _);
        never = λ n number place t a e. accepted_is_not_rejected (sym (called a.both t a.allowed) ∙ said e);
        short = (λ e. (fourteen (plain 0) e).0, λ t. says (too_short t));
        only = fourteen;
        refused = λ number place t. (λ e. (refused_exactly library s number place).0 (sym (own_call t) ∙ said e), λ e. says (own_call t ∙ (refused_exactly library s number place).1 e));
        places = λ number place t e. says_no_lem library s number place (sym (own_call t) ∙ said e);
        wipes = λ number place e. (wiped-zero (promise.rows_after ∙ ap (lent_after joined_rows rows) (said e)), wiped-zero (promise.shared_after ∙ ap (lent_after joined_shared shared) (said e)), wiped-zero (promise.codes_after ∙ ap (lent_after joined_codes codes) (said e)));
      }
