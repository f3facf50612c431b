-- Demand 2 holds: specs/Calls.antt and specs/Asked.antt, of every promise of a public call. proofs/OfSection.antt, OfAsked.antt,
-- OfBody.antt and OfRun.antt prove it.
use Prim.Native.Nat.{ℕ}
use mathlib.Core.List.{List}
use Rattle.std.specs.Prelude.{Result}
use Rattle.scope.specs.declared.Rejected.{Rejected}
use Rattle.scope.specs.declared.Ran.{Ran}
use Rattle.scope.specs.declared.Asked.{Asked}
use Rattle.scope.specs.Answers.{SectionJudged, TypeAsked, TypeHanded, BodyJudged, RunMemory, RunTried}
use Rattle.facts_calls.specs.Calls.{OfSection, OfBody, OfRun}
use Rattle.facts_calls.specs.Asked.{OfAsked, OfHanded}
use Rattle.facts_calls.proofs.OfSection.{of_section}
use Rattle.facts_calls.proofs.OfAsked.{of_asked, of_handed}
use Rattle.facts_calls.proofs.OfBody.{of_body}
use Rattle.facts_calls.proofs.OfRun.{of_run}

pub sections : {library s rows shared codes rows' shared' codes' : List ℕ} {r : Result ℕ Rejected} (promise : SectionJudged library s rows shared codes rows' shared' codes' r) → OfSection promise
sections promise = of_section promise

pub asked : {library s : List ℕ} {x : ℕ} {rows shared codes rows' shared' codes' : List ℕ} {r : Asked} (promise : TypeAsked library s x rows shared codes rows' shared' codes' r) → OfAsked promise
asked promise = of_asked promise

pub handed : {library s : List ℕ} {x : ℕ} {rows shared codes rows' shared' codes' part : List ℕ} (promise : TypeHanded library s x rows shared codes rows' shared' codes' part) → OfHanded promise
handed promise = of_handed promise

pub bodies : {library section s : List ℕ} {x : ℕ} {rows shared codes work rows' shared' codes' work' : List ℕ} {r : Result ℕ Rejected} (promise : BodyJudged library section s x rows shared codes work rows' shared' codes' work' r) → OfBody promise
bodies promise = of_body promise

pub runs : {library section s : List ℕ} {x budget : ℕ} {m m' : RunMemory} {r : Ran} (promise : RunTried library section s x budget m m' r) → OfRun promise
runs promise = of_run promise
