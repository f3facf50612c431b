-- Each way out of the public call: the sizes of what is lent, the section, the body; and zero afterwards.
use Prim.Native.Nat.{ℕ, zero, suc, ◌^◌, ◌≤◌, ◌<◌}
use mathlib.Core.Path.{◌≡◌, refl, sym, ap, ◌∙◌, subst}
use mathlib.Core.Bool.{Bool, true, false, not}
use mathlib.Core.List.{List}
use native.Mathlib.Omega.{arith}
use lib.ListN.{length, replicate, length-replicate, length-append}
use lib.Dec.{leb}
use borrow.Author.Tests.{lt-leb, le-leb, not-true, not-false}
use Rattle.scope.specs.Told.{no_in}
use Rattle.std.specs.Prelude.{Result, Ok, Err}
use Rattle.scope.specs.declared.Rejected.{Rejected}
use Rattle.scope.specs.Sizes.{most_types, most_each}
use Rattle.scope.specs.Layout.{work_size}
use Rattle.scope.specs.Refusals.{buffer_too_small}
use Rattle.scope.specs.Lists.{joined}
use Rattle.scope.specs.Syntax.{Val, Form, func, Definition, types_of}
use Rattle.scope.specs.Judging.{plain, Judged, accepted, rejected, and_then, Joined, judge_joined, judge_sections}
use Rattle.scope.specs.Bodies.{Body, instructions, judge_body}
use Rattle.scope.specs.Answers.{table_lent, verdict_of, BodyJudged}
use Rattle.scope.specs.declared.Place.{Place}
use Rattle.scope.proofs.Accepted.{JoinedParts, joined_parts, sections_joined}
use Rattle.scope.proofs.Impossible.{impossible}
use Rattle.section_reader.proofs.Modest.{Each, no_more, one_more_lem, Few, few_fields, few_values, Modest, read_fits, each_append}
use Rattle.body_state.proofs.Alike.{both_false}
use Rattle.type_table.specs.View.{both_codes}
use Rattle.type_hierarchy.specs.Ranged.{Ranged}
use Rattle.lent_limits.proofs.Enough.{table-sizes}
use Rattle.section_both.specs.Both.{BothJudged}
use Rattle.section_both.proofs.Viewing.{both_refused, both_accepted, viewed}
use Rattle.body_judge.specs.Typed.{Fresh, Sized, typed_on, sized_on, SizedJudged}
use Rattle.body_clear.specs.Clearing.{Cleared}
use Rattle.body_call.specs.Calling.{Prepared, LentJudged, EnoughJudged}

-- the sizes of an accepted section

few_of : {f : Form} → Few f → {ps rs : List Val} → f ≡ func ps rs → length ps ≤ most_each
few_of (few_fields h) e = impossible cc
few_of (few_values {ps = qs} h g) {ps} e = let same : qs ≡ ps = cc in rw (← same) h

few_parameters : {ds : List Definition} → Each Modest ds → (x : ℕ) {ps rs : List Val} → (types_of ds x).form ≡ func ps rs → length ps ≤ most_each
few_parameters no_more x e = impossible cc
few_parameters (one_more_lem m more) zero e = few_of m.few e
few_parameters (one_more_lem m more) (suc x) e = few_parameters more x e

pub record Bounded (ds : List Definition) : Type 0 where
  pub types : length ds ≤ most_types
  pub parameters : (x : ℕ) (ps rs : List Val) → (types_of ds x).form ≡ func ps rs → length ps ≤ most_each

pub joined_bounded : (library section : List ℕ) {j : Joined} → judge_joined library section ≡ accepted j → Bounded j.types
joined_bounded library section {j} e = go (joined_parts library section e)
  where
    go : JoinedParts library section j → Bounded j.types
    go p =
        let first = read_fits 0 (omega arith) library p.read in
        let next = read_fits (length (joined p.gs)) (omega (arith, first.types)) section p.read_own in
        let long = length-append (joined p.gs) (joined p.more) in
        subst (λ (k : Joined). Bounded k.types) (sym p.is) (record { types = omega (arith, next.types, long); parameters = λ x ps rs f. few_parameters (each_append first.each next.each) x f })

pub accepted_bounded : (library section : List ℕ) {ds : List Definition} → judge_sections library section ≡ accepted ds → Bounded ds
accepted_bounded library section {ds} e = go (sections_joined library section e)
  where
    go : (j : Joined) × (judge_joined library section ≡ accepted j) × (j.types ≡ ds) → Bounded ds
    go (j, is, same) = rw (← same) (joined_bounded library section is)

-- the sections first

then-types : (o : Judged Joined) (f : List Definition → Judged Body) → and_then (and_then o (λ j. accepted j.types)) f ≡ and_then o (λ j. f j.types)
then-types (accepted j) f = refl
then-types (rejected n p) f = refl

body_is : (library section s : List ℕ) (x : ℕ) → judge_body library section s x ≡ and_then (judge_joined library section) (λ j. sized_on j.types s x)
unfolding judge_body judge_sections sized_on typed_on
body_is library section s x = then-types (judge_joined library section) (λ ds. sized_on ds s x)

-- what an accepted pair hands on to its bodies

module _ {library section rows shared codes rows₁ shared₁ codes₁ : List ℕ} {v : Result (ℕ × ℕ) Rejected} (a : BothJudged library section rows shared codes rows₁ shared₁ codes₁ v)
    {before count : ℕ} (e : v ≡ Ok (before, count)) where
  pub may_range : Ranged rows₁ (both_codes shared₁ codes₁)
  may_range = let (j, judged, first, many) = both_accepted (judge_joined library section) a.answer e in a.ranged j judged

  pub may_size : (x : ℕ) {work : List ℕ} → Fresh work → Sized rows₁ (both_codes shared₁ codes₁) work count x
  may_size x fresh =
      let (j, judged, first, many) = both_accepted (judge_joined library section) a.answer e in
      let b = joined_bounded library section judged in
      let seen = viewed library section judged (a.stands j judged) in
      record { fresh = fresh; known = omega (arith, b.types, many); few = λ ps rs f. b.parameters x ps rs (ap (λ (ts : ℕ → Definition). (ts x).form) (sym seen) ∙ f) }

module _ {library section rows shared codes rows₁ shared₁ codes₁ : List ℕ} {v : Result (ℕ × ℕ) Rejected} (a : BothJudged library section rows shared codes rows₁ shared₁ codes₁ v) (s : List ℕ) (x : ℕ) where
  pub lent_refused : {no : Rejected} → v ≡ Err no → LentJudged library section s x (Err no)
  lent_refused e = record { answer = rw (body_is library section s x, both_refused (judge_joined library section) a.answer e) refl }

  module _ {before count : ℕ} (e : v ≡ Ok (before, count)) where
    pub count_fits : count < 2 ^ 16
    count_fits =
        let (j, judged, first, many) = both_accepted (judge_joined library section) a.answer e in
        let b = (joined_bounded library section judged).types in
        omega (arith, b, many)

    with_types : (k : Joined) → judge_joined library section ≡ accepted k → count ≡ length k.types → {work work' : List ℕ} {r : Result ℕ Rejected} → SizedJudged rows₁ (both_codes shared₁ codes₁) work work' s count x r → LentJudged library section s x r
    with_types k judged many j =
        let call : judge_body library section s x ≡ sized_on k.types s x = body_is library section s x ∙ rw judged in
        record { answer = j.answer k.types (viewed library section judged (a.stands k judged)) (sym many) ∙ sym (ap (verdict_of instructions) call) }

    pub lent-judged : {work work' : List ℕ} {r : Result ℕ Rejected} → SizedJudged rows₁ (both_codes shared₁ codes₁) work work' s count x r → LentJudged library section s x r
    lent-judged j = let (k, judged, first, many) = both_accepted (judge_joined library section) a.answer e in with_types k judged many j

-- the whole call: 14, then memory as it has to be

wiped_long : (m : List ℕ) {m₁ : List ℕ} → m₁ ≡ replicate (length m) 0 → length m₁ ≡ length m
wiped_long m e = rw e (length-replicate (length m) 0)

wiped-zero : (m : List ℕ) {m₁ : List ℕ} → m₁ ≡ replicate (length m) 0 → m₁ ≡ replicate (length m₁) 0
wiped-zero m e = e ∙ ap (λ (n : ℕ). replicate n 0) (sym (wiped_long m e))

module _ (library section s : List ℕ) (x : ℕ) {rows shared codes : List ℕ} (work : List ℕ) {t : Bool} (is : t ≡ table_lent rows shared codes) where
  pub table-small : not t ≡ true → EnoughJudged library section s x rows shared codes work (Err (no_in buffer_too_small (plain 0)))
  table-small h = let small : table_lent rows shared codes ≡ false = sym is ∙ not-true t h in record { answer = rw small refl }

  module _ (h : not t ≡ false) where
    pub work-small : length work < work_size → EnoughJudged library section s x rows shared codes work (Err (no_in buffer_too_small (plain 0)))
    work-small g =
        let small : leb work_size (length work) ≡ false = lt-leb work_size (length work) g in
        record { answer = rw (small, both_false (table_lent rows shared codes)) refl }

    pub enough_judged : work_size ≤ length work → {v : Result ℕ Rejected} → LentJudged library section s x v → EnoughJudged library section s x rows shared codes work v
    enough_judged g j =
        let enough : leb work_size (length work) ≡ true = le-leb work_size (length work) g in
        let table : table_lent rows shared codes ≡ true = sym is ∙ not-false t h in
        record { answer = rw (enough, table) j.answer }

pub lent_prepared : (rows shared codes work : List ℕ) {rows₁ work₁ : List ℕ} {t : Bool} → t ≡ table_lent rows shared codes → not t ≡ false → work_size ≤ length work
    → rows₁ ≡ replicate (length rows) 0 → work₁ ≡ replicate (length work) 0 → Prepared rows₁ shared codes work₁
lent_prepared rows shared codes work {t = t} is h g r w =
    let (one, two, three) = table-sizes rows shared codes (sym is ∙ not-false t h) in
    let long = wiped_long rows r in
    let wide = wiped_long work w in
    record {
      ready = record { rows_zero = wiped-zero rows r; rows_enough = omega (arith, one, long); shared_enough = two; codes_enough = three };
      fresh = record { zero = wiped-zero work w; room = omega (arith, g, wide) };
    }

module _ {library section s : List ℕ} {x : ℕ} {rows shared codes work : List ℕ} {v : Result ℕ Rejected} (j : EnoughJudged library section s x rows shared codes work v) {rows₁ shared₁ codes₁ work₁ rows₂ shared₂ codes₂ work₂ : List ℕ} (z : Cleared rows₁ shared₁ codes₁ work₁ rows₂ shared₂ codes₂ work₂) where
  pub body-judged : length rows₁ ≡ length rows → length shared₁ ≡ length shared → length codes₁ ≡ length codes → length work₁ ≡ length work → BodyJudged library section s x rows shared codes work rows₂ shared₂ codes₂ work₂ v
  body-judged r h c w =
      record {
        answer = j.answer;
        rows_after = z.rows_zero ∙ ap (λ (n : ℕ). replicate n 0) r;
        shared_after = z.shared_zero ∙ ap (λ (n : ℕ). replicate n 0) h;
        codes_after = z.codes_zero ∙ ap (λ (n : ℕ). replicate n 0) c;
        work_after = z.work_zero ∙ ap (λ (n : ℕ). replicate n 0) w;
      }

pub ruleset lent_exits = (lent_refused, count_fits, may_range, may_size, lent-judged, table-small, work-small, enough_judged, lent_prepared, body-judged)
