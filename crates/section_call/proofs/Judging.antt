-- Judging a library and an add-on. Lent memory is zero first, so what the readers put there is the table and zero beyond.
use Prim.Native.Nat.{ℕ, ◌-◌}
use mathlib.Core.Path.{◌≡◌, refl, sym, ap, ◌∙◌}
use mathlib.Core.Bool.{Bool, true, false, not}
use mathlib.Core.List.{List, ◌++◌}
use lib.ListN.{length, replicate, length-replicate}
use borrow.Author.Tests.{not-true, not-false}
use Rattle.scope.specs.Told.{no_in}
use Rattle.std.specs.Prelude.{Result, Ok, Err}
use Rattle.scope.specs.declared.Rejected.{Rejected}
use Rattle.scope.specs.Refusals.{buffer_too_small}
use Rattle.scope.specs.Judging.{plain, Judged, accepted, rejected, Joined, judge_joined}
use Rattle.scope.specs.declared.Place.{Place}
use Rattle.scope.specs.Memory.{filled, wiped, joined_rows, joined_shared, joined_codes}
use Rattle.scope.specs.Answers.{lent_enough, verdict_of, lent_after, table_lent, counted, section_call, SectionJudged}
use Rattle.scope.proofs.Impossible.{impossible}
use Rattle.scope.proofs.Told.{place_is}
use Rattle.type_table.proofs.Puts.{puts_zero}
use Rattle.lent_limits.proofs.Enough.{table-sizes}
use Rattle.section_handing.specs.Handing.{Cleared}
use Rattle.section_both.specs.Both.{joined_is, Ready, BothJudged}
use Rattle.section_call.specs.Calls.{Blank, LentJudged, TableJudged}

-- judge_lent

module _ {library addon rows shared codes rows₁ shared₁ codes₁ : List ℕ} {j : Result (ℕ × ℕ) Rejected} (blank : Blank rows shared codes) (a : BothJudged library addon rows shared codes rows₁ shared₁ codes₁ j) where
  pub lent_accepted : {b n : ℕ} → j ≡ Ok (b, n) → LentJudged library addon rows shared codes rows₁ shared₁ codes₁ (Ok (b, n))
  lent_accepted {b} {n} f = go (judge_joined library addon) refl
    where
      go : (o : Judged Joined) → judge_joined library addon ≡ o → LentJudged library addon rows shared codes rows₁ shared₁ codes₁ (Ok (b, n))
      go (accepted k) e =
          let said : Ok (b, n) ≡ Ok (k.before, (length k.types)) = sym f ∙ a.answer ∙ ap joined_is e in
          let table = a.stands k e in
          let s = puts_zero (length shared) (rw blank.shared_zero at table.shared_put) in
          let c = puts_zero (length codes) (rw blank.codes_zero at table.codes_put) in
          record { answer = rw e said; rows_after = rw e table.rows_is; shared_after = rw e s; codes_after = rw e c }
      go (rejected k p) e = let said = sym f ∙ a.answer ∙ ap joined_is e in impossible cc

  pub lent_refused : {no : Rejected} {rows₂ shared₂ codes₂ : List ℕ} → j ≡ Err no → Cleared rows₁ shared₁ codes₁ rows₂ shared₂ codes₂ → LentJudged library addon rows shared codes rows₂ shared₂ codes₂ (Err no)
  lent_refused {no} {rows₂} {shared₂} {codes₂} f c = go (judge_joined library addon) refl
    where
      zeros : {x y : ℕ} → x ≡ y → replicate {A = ℕ} x 0 ≡ replicate y 0
      zeros e = ap (λ (k : ℕ). replicate {A = ℕ} k 0) e

      go : (o : Judged Joined) → judge_joined library addon ≡ o → LentJudged library addon rows shared codes rows₂ shared₂ codes₂ (Err no)
      go (accepted k) e = let said = sym f ∙ a.answer ∙ ap joined_is e in impossible cc
      go (rejected k q) e =
          record {
            answer = sym f ∙ a.answer;
            rows_after = rw e (c.rows_after ∙ zeros a.rows_kept);
            shared_after = rw e (c.shared_after ∙ zeros a.shared_kept);
            codes_after = rw e (c.codes_after ∙ zeros a.codes_kept);
          }

pub ruleset lent_exits = (lent_accepted, lent_refused)

-- judge_table

wiped-length : (m : List ℕ) {m' : List ℕ} → m' ≡ wiped m → length m' ≡ length m
wiped-length m e = ap length e ∙ length-replicate (length m) 0

wiped-zero : (m : List ℕ) {m' : List ℕ} → m' ≡ wiped m → m' ≡ replicate (length m') 0
wiped-zero m e = e ∙ ap (λ (k : ℕ). replicate k 0) (sym (wiped-length m e))

module _ {rows shared codes rows₁ shared₁ codes₁ : List ℕ} (c : Cleared rows shared codes rows₁ shared₁ codes₁) {r : Bool} (is : r ≡ table_lent rows₁ shared₁ codes₁) where
  same_lent : table_lent rows₁ shared₁ codes₁ ≡ table_lent rows shared codes
  same_lent = rw (wiped-length rows c.rows_after, wiped-length shared c.shared_after, wiped-length codes c.codes_after)

  pub table-small : {library addon : List ℕ} → not r ≡ true → TableJudged library addon rows shared codes rows₁ shared₁ codes₁ (Err (no_in buffer_too_small (plain 0)))
  table-small h =
      let e : table_lent rows shared codes ≡ false = sym same_lent ∙ sym is ∙ not-true r h in
      record { answer = rw e; rows_after = rw e c.rows_after; shared_after = rw e c.shared_after; codes_after = rw e c.codes_after }

  module _ (h : not r ≡ false) where
    enough : table_lent rows₁ shared₁ codes₁ ≡ true
    enough = sym is ∙ not-false r h

    pub all_blank : Blank rows₁ shared₁ codes₁
    all_blank =
        let (one, two, three) = table-sizes rows₁ shared₁ codes₁ enough in
        record {
          ready = record { rows_zero = wiped-zero rows c.rows_after; rows_enough = one; shared_enough = two; codes_enough = three };
          shared_zero = wiped-zero shared c.shared_after;
          codes_zero = wiped-zero codes c.codes_after;
        }

    same_after : (words : Joined → List ℕ) (m : List ℕ) {m₁ m₂ : List ℕ} (o : Judged Joined) → m₁ ≡ wiped m → m₂ ≡ lent_after words m₁ o → m₂ ≡ lent_after words m o
    same_after words m (accepted k) e f = f ∙ ap (λ (n : ℕ). words k ++ replicate (n - length (words k)) 0) (wiped-length m e)
    same_after words m (rejected k p) e f = f ∙ ap (λ (n : ℕ). replicate n 0) (wiped-length m e)

    pub table-judged : {library addon rows₂ shared₂ codes₂ : List ℕ} {t : Result (ℕ × ℕ) Rejected} → LentJudged library addon rows₁ shared₁ codes₁ rows₂ shared₂ codes₂ t → TableJudged library addon rows shared codes rows₂ shared₂ codes₂ t
    table-judged {library} {addon} d =
        let e : table_lent rows shared codes ≡ true = sym same_lent ∙ enough in
        record {
          answer = rw e d.answer;
          rows_after = rw e (same_after joined_rows rows (judge_joined library addon) c.rows_after d.rows_after);
          shared_after = rw e (same_after joined_shared shared (judge_joined library addon) c.shared_after d.shared_after);
          codes_after = rw e (same_after joined_codes codes (judge_joined library addon) c.codes_after d.codes_after);
        }

pub ruleset table_exits = (table-small, all_blank, table-judged)

-- judge_section: the count of both alone

counted_is : (o : Judged Joined) {b n : ℕ} → Ok (b, n) ≡ joined_is o → Ok n ≡ verdict_of counted o
counted_is (accepted j) e = ap Ok (sym (place_is e refl))
counted_is (rejected k p) e = impossible cc

refused_is : (o : Judged Joined) {no : Rejected} → Err no ≡ joined_is o → Err no ≡ verdict_of counted o
refused_is (accepted j) e = impossible cc
refused_is (rejected k q) e = cc

module _ {library section rows shared codes rows₁ shared₁ codes₁ : List ℕ} {t : Result (ℕ × ℕ) Rejected} (a : TableJudged library section rows shared codes rows₁ shared₁ codes₁ t) where
  pub section_accepted : {b n : ℕ} → t ≡ Ok (b, n) → SectionJudged library section rows shared codes rows₁ shared₁ codes₁ (Ok n)
  section_accepted e =
      record { answer = counted_is (section_call library section rows shared codes) (sym e ∙ a.answer); rows_after = a.rows_after; shared_after = a.shared_after; codes_after = a.codes_after }

  pub section_refused : {no : Rejected} → t ≡ Err no → SectionJudged library section rows shared codes rows₁ shared₁ codes₁ (Err no)
  section_refused e =
      record { answer = refused_is (section_call library section rows shared codes) (sym e ∙ a.answer); rows_after = a.rows_after; shared_after = a.shared_after; codes_after = a.codes_after }

pub ruleset section_exits = (section_accepted, section_refused)
