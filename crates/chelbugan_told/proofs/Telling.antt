-- What a host is told is what the loader, the checker or the run answered.
use Prim.Native.Nat.{ℕ}
use mathlib.Core.Path.{ap, ◌∙◌}
use mathlib.Core.List.{List}
use Rattle.std.specs.Prelude.{Result}
use Rattle.scope.specs.declared.Rejected.{Rejected}
use Rattle.scope.specs.Answers.{SectionJudged, TypeAsked, BodyJudged, RunMemory, RunTried}
use Rattle.scope.specs.declared.Asked.{Asked}
use Rattle.scope.specs.declared.Ran.{Ran}
use Rattle.chelbugan_told.specs.Values.{verdict_kind, verdict_values, VerdictTold, asked_kind, asked_values, AskedTold, RanTold}
use Rattle.chelbugan_told.specs.Told.{SectionTold, TypeTold, BodyTold, RunTold}

pub section-told : {library section rows shared codes rows' shared' codes' : List ℕ} {v : Result ℕ Rejected} {r : ℕ} {answer' : List ℕ} → SectionJudged library section rows shared codes rows' shared' codes' v → VerdictTold v r answer' → SectionTold library section rows shared codes rows' shared' codes' r answer'
section-told a t =
    record {
      kind = t.kind ∙ ap verdict_kind a.answer;
      values = t.values ∙ ap verdict_values a.answer;
      rows_after = a.rows_after;
      shared_after = a.shared_after;
      codes_after = a.codes_after;
    }

pub type-told : {library section rows shared codes rows' shared' codes' : List ℕ} {x : ℕ} {v : Asked} {r : ℕ} {answer' : List ℕ} → TypeAsked library section x rows shared codes rows' shared' codes' v → AskedTold v r answer' → TypeTold library section x rows shared codes rows' shared' codes' r answer'
type-told a t =
    record {
      kind = t.kind ∙ ap asked_kind a.answer;
      values = t.values ∙ ap asked_values a.answer;
      rows_after = a.rows_after;
      shared_after = a.shared_after;
      codes_after = a.codes_after;
    }

pub body-told : {library section s rows shared codes work rows' shared' codes' work' : List ℕ} {x : ℕ} {v : Result ℕ Rejected} {r : ℕ} {answer' : List ℕ} → BodyJudged library section s x rows shared codes work rows' shared' codes' work' v → VerdictTold v r answer' → BodyTold library section s x rows shared codes work rows' shared' codes' work' r answer'
body-told a t =
    record {
      kind = t.kind ∙ ap verdict_kind a.answer;
      values = t.values ∙ ap verdict_values a.answer;
      rows_after = a.rows_after;
      shared_after = a.shared_after;
      codes_after = a.codes_after;
      work_after = a.work_after;
    }

pub run-told : {library section s : List ℕ} {x budget : ℕ} {m m' : RunMemory} {a : Ran} {r : ℕ} {answer' : List ℕ} → RunTried library section s x budget m m' a → RanTold a r answer' → RunTold library section s x budget m m' r answer'
run-told {a = a} tried t = record { ran = a; tried = tried; told = t }
