-- Demand 2, whole, over the public calls: what each call answers, from its own promise alone (scope's specs/Answers.antt).
-- This page is read with scope/specs, specs/Zero.antt, specs/Lent.antt and specs/Meant.antt, and the relations that these name: Allowed
-- (facts_sections), Derivation (facts_bodies), BodySaysNo (facts_refusals), RunsTo (facts_steps), EndsWell (scope's
-- proofs/Soundness.antt).
-- proofs/Holds.antt proves it.
use Rattle.std.specs.Prelude.{ℕ, ◌≤◌, ◌+◌, ◌*◌, ◌<◌, ◌≡◌, ◌↔◌, false, List, length}
use Rattle.std.proofs.Math.Option.{some}
use Rattle.std.proofs.Math.ListN.{get_elem?}
use Rattle.scope.specs.Told.{no_in}
use Rattle.std.specs.Prelude.{Result, Ok, Err}
use Rattle.scope.specs.declared.Rejected.{Rejected}
use Rattle.scope.specs.declared.Ran.{Ran}
use Rattle.scope.specs.declared.Ran
use Rattle.scope.specs.Layout.{row_span, codes_size}
use Rattle.scope.specs.Refusals.{buffer_too_small}
use Rattle.scope.specs.declared.Place.{Place}
use Rattle.scope.specs.Judging.{plain, Joined}
use Rattle.scope.specs.Bodies.{Body, instructions}
use Rattle.scope.specs.Machine.{Machine}
use Rattle.scope.specs.Running.{start_of, program_of}
use Rattle.scope.specs.Memory.{joined_rows, joined_shared, joined_codes, StateWords, state_words}
use Rattle.scope.specs.Answers.{machine_of, SectionJudged, BodyJudged, RunMemory, RunTried}
use Rattle.scope.proofs.Soundness.{Trap, RanSoundly}
use Rattle.facts_sections.specs.Allowed.{Allowed}
use Rattle.facts_sections.specs.FirstFault.{Refused}
use Rattle.facts_runs.specs.Counting.{taken, allocations, has_loop}
use Rattle.facts_steps.specs.Runs.{Begins, RunsTo}
use Rattle.facts_refusals.specs.Sections.{SaysNo}
use Rattle.facts_refusals.specs.Bodies.{BodySaysNo, BodyPlace}
use Rattle.facts_calls.specs.Zero.{Zero, Holds, ZeroBeyond}
use Rattle.facts_calls.specs.Lent.{TableSuffices, TableShort, BodySuffices, BodyShort, RunSuffices, RunShort}
use Rattle.facts_calls.specs.Meant.{SectionOf, BodyOf, CanRun, RunSaysNo}

-- judging a library and a section

-- where a row says that its type's codes begin
abbrev pub codes_begin_at : ℕ → ℕ
codes_begin_at x = x * row_span + 10

-- the row of type x tells which section holds it: the add-on's codes begin below the size of a buffer of codes, the library's from there
-- on
pub data RowTells (rows : List ℕ) (j : Joined) (x : ℕ) : Type 0 where
  a_library_row : {at : ℕ} → x < j.before → get_elem? rows (codes_begin_at x) ≡ some (codes_size + at) → at < codes_size → RowTells rows j x
  an_addon_row : {at : ℕ} → j.before ≤ x → get_elem? rows (codes_begin_at x) ≡ some at → at < codes_size → RowTells rows j x

module _ {library s rows shared codes rows' shared' codes' : List ℕ} {r : Result ℕ Rejected} where
  pub record OfSection (promise : SectionJudged library s rows shared codes rows' shared' codes' r) : Type 1 where
    -- yes exactly when the buffers suffice and some joined list of n definitions is allowed for these bytes
    pub accepted : (n : ℕ) → (r ≡ Ok n) ↔ (TableSuffices rows shared codes × SectionOf library s n)
    -- "An accepted section gives its type count and its table .., zero beyond."
    pub table : (j : Joined) → TableSuffices rows shared codes → Allowed library s j
        → ZeroBeyond (joined_rows j) rows rows' × ZeroBeyond (joined_shared j) shared shared' × ZeroBeyond (joined_codes j) codes codes'
    pub tells : (j : Joined) → TableSuffices rows shared codes → Allowed library s j → (x : ℕ) → x < length j.types → RowTells rows' j x
    -- Never no to an allowed section: "Demand 2 shuts out the loader that refuses all."
    pub never : (n number : ℕ) (place : Place) → TableSuffices rows shared codes → SectionOf library s n → ¬ (r ≡ Err (no_in number place))
    -- 14: "a lent buffer under its one size ..; never otherwise": at 0 exactly when one is short, and nowhere else
    pub short : (r ≡ Err (no_in buffer_too_small (plain 0))) ↔ TableShort rows shared codes
    pub only : (place : Place) → r ≡ Err (no_in buffer_too_small place) → TableShort rows shared codes × (place ≡ plain 0)
    -- any other no exactly when the bytes, or the rules' first fault, say it
    pub refused : (number : ℕ) (place : Place) → TableSuffices rows shared codes → (r ≡ Err (no_in number place)) ↔ Refused library s number place
    -- "A section's byte faults (1 to 5)", and 32: where nothing is written, at a byte of the library or of the add-on, or at its
    -- length; 4 and 6 to 13 at the number of a type
    pub places : (number : ℕ) (place : Place) → TableSuffices rows shared codes → r ≡ Err (no_in number place) → SaysNo library s number place
    -- "Every refusal zeroes all memory lent for writing."
    pub wipes : (number : ℕ) (place : Place) → r ≡ Err (no_in number place) → Zero rows rows' × Zero shared shared' × Zero codes codes'

-- judging a body

module _ {library section s : List ℕ} {x : ℕ} {rows shared codes work rows' shared' codes' work' : List ℕ} {r : Result ℕ Rejected} where
  pub record OfBody (promise : BodyJudged library section s x rows shared codes work rows' shared' codes' work' r) : Type 1 where
    -- yes exactly when the buffers suffice, the sections are allowed, the type is a function's, and a derivation of n instructions
    -- exists
    pub accepted : (n : ℕ) → (r ≡ Ok n) ↔ (BodySuffices rows shared codes work × BodyOf library section s x n)
    -- never no to an allowed body
    pub never : (n number : ℕ) (place : Place) → BodySuffices rows shared codes work → BodyOf library section s x n → ¬ (r ≡ Err (no_in number place))
    -- 14 at 0 exactly when a buffer is under its size, and nowhere else
    pub short : (r ≡ Err (no_in buffer_too_small (plain 0))) ↔ BodyShort rows shared codes work
    pub only : (place : Place) → r ≡ Err (no_in buffer_too_small place) → BodyShort rows shared codes work × (place ≡ plain 0)
    -- the first fault in document 01's order
    pub refused : (number : ℕ) (place : Place) → BodySuffices rows shared codes work → (r ≡ Err (no_in number place)) ↔ BodySaysNo library section s x number place
    -- "Places are byte offsets; .. An instruction's place is its first byte."
    pub places : (number : ℕ) (place : Place) → BodySuffices rows shared codes work → r ≡ Err (no_in number place) → BodyPlace library section s x number place
    -- "An accepted body .. leaves scratch zero. Every refusal zeroes all memory lent for writing."
    pub wipes : Zero rows rows' × Zero shared shared' × Zero codes codes' × Zero work work'

-- the trial run

-- done or a trap of 41 to 46, within so many steps
pub data Stops (most : ℕ) : Ran → Type 0 where
  stops_done : {steps results : ℕ} → steps ≤ most → Stops most (Ran.TheVariants.Done steps results)
  stops_at_trap : {number place steps : ℕ} → Trap number → steps ≤ most → Stops most (Ran.TheVariants.Trapped number place steps)

-- the six buffers of the state are zero
pub record Wiped (w w' : StateWords) : Type 0 where
  pub counts : Zero w.counts w'.counts
  pub objects : Zero w.objects w'.objects
  pub cells : Zero w.cells w'.cells
  pub locals : Zero w.locals w'.locals
  pub operands : Zero w.operands w'.operands
  pub blocks : Zero w.blocks w'.blocks

-- the six buffers hold the words of this state, and zero beyond
pub record HoldsState (words after : StateWords) : Type 0 where
  pub counts : Holds words.counts after.counts
  pub objects : Holds words.objects after.objects
  pub cells : Holds words.cells after.cells
  pub locals : Holds words.locals after.locals
  pub operands : Holds words.operands after.operands
  pub blocks : Holds words.blocks after.blocks

-- an answer that is no refusal
pub data Ended : Ran → Type 0 where
  ended_done : {steps results : ℕ} → Ended (Ran.TheVariants.Done steps results)
  ended_at_trap : {number place steps : ℕ} → Ended (Ran.TheVariants.Trapped number place steps)
  ended_spent : {steps : ℕ} → Ended (Ran.TheVariants.Spent steps)

module _ {library section s : List ℕ} {x budget : ℕ} {m m' : RunMemory} {r : Ran} where
  pub record OfRun (promise : RunTried library section s x budget m m' r) : Type 1 where
    -- The answer and the six buffers are those of the written steps: of a run that is done, at a trap or spent after exactly the
    -- steps that it says, each of them a `step` from `start_of b` on.
    pub ran : (b : Body) → RunSuffices m → CanRun library section s x budget b → RanSoundly s b budget m m' r
    -- By the written rules: from a machine that begins as document 01 says, a rule for each step leads to that ending.
    pub ruled : (b : Body) (t : RunSuffices m) (c : CanRun library section s x budget b) (first : Machine) → Begins b first
        → RunsTo (program_of b) budget 0 first (ran b t c).ending
    -- "Lent memory then holds the heap, .. and zero beyond"
    pub state : (b : Body) (t : RunSuffices m) (c : CanRun library section s x budget b) → HoldsState (state_words s (machine_of (ran b t c).ending)) m'.state
    -- and done, at a trap or spent only where the buffers suffice and the body can be run
    pub only_then : Ended r → RunSuffices m × ((b : Body) × CanRun library section s x budget b)
    -- "the number of objects equals the number of allocation steps that didn't trap": the second of `counts`
    pub objects : (b : Body) → RunSuffices m → CanRun library section s x budget b
        → get_elem? m'.state.counts 1 ≡ some (allocations (program_of b) (taken (program_of b) budget (start_of b)))
    -- "A body without loop stops within as many steps as it has instructions": done, or at a trap
    pub loopless : (b : Body) → RunSuffices m → CanRun library section s x budget b → has_loop b.code ≡ false → instructions b ≤ budget → Stops (instructions b) r
    -- never no to a body that can be run
    pub never : (b : Body) (number : ℕ) (place : Place) → RunSuffices m → CanRun library section s x budget b → ¬ (r ≡ Ran.TheVariants.Refused number place)
    -- 14 at 0 exactly when a buffer is under its size, and nowhere else
    pub short : (r ≡ Ran.TheVariants.Refused buffer_too_small (plain 0)) ↔ RunShort m
    pub only : (place : Place) → r ≡ Ran.TheVariants.Refused buffer_too_small place → RunShort m × (place ≡ plain 0)
    -- "A run: these, then budget, then parameters."
    pub refused : (number : ℕ) (place : Place) → RunSuffices m → (r ≡ Ran.TheVariants.Refused number place) ↔ RunSaysNo library section s x budget number place
    -- "Every refusal zeroes all memory lent for writing"; the five scratch buffers are zero after every answer
    pub wipes : (number : ℕ) (place : Place) → r ≡ Ran.TheVariants.Refused number place → Wiped m.state m'.state
    pub scratch : Zero m.rows m'.rows × Zero m.shared m'.shared × Zero m.codes m'.codes × Zero m.work m'.work × Zero m.ends m'.ends
