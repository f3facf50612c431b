-- The answers of the public calls: document 01's number and values for each case of an answer, and what each call
-- promises of its answer and of every lent word. 14 comes before all else.
use Rattle.std.specs.Prelude.{ℕ, ◌≡◌, Bool, cond, ◌&&◌, List, length, leb}
use Rattle.scope.specs.Told.{no_in}
use Rattle.std.specs.Prelude.{Result, Ok, Err}
use Rattle.scope.specs.declared.Rejected.{Rejected}
use Rattle.scope.specs.declared.Asked.{Asked}
use Rattle.scope.specs.declared.Asked
use Rattle.scope.specs.declared.Ran.{Ran}
use Rattle.scope.specs.declared.Ran
use Rattle.scope.specs.Refusals.{buffer_too_small}
use Rattle.scope.specs.Layout.{rows_size, codes_size, work_size, ends_size, counts_size, objects_size, cells_size, locals_size, operands_size, blocks_size}
use Rattle.scope.specs.Judging.{plain, Judged, accepted, rejected, and_then, Joined, judge_joined, Held, ask_type, part_of}
use Rattle.scope.specs.Bodies.{Body, instructions, judge_body}
use Rattle.scope.specs.Machine.{Machine}
use Rattle.scope.specs.Running.{Ending, done, trapped, spent, wrong, Trial, trial_run, place_of}
use Rattle.scope.specs.Memory.{filled, wiped, joined_rows, joined_shared, joined_codes, StateWords, state_words}

-- 14: a lent buffer under its one size, at 0; never otherwise
abbrev pub holds : ℕ → List ℕ → Bool
holds size buffer = leb size (length buffer)

abbrev pub lent_enough : {A : Type 0} → Bool → Judged A → Judged A
lent_enough enough judged = cond enough judged (rejected buffer_too_small (plain 0))

-- a refusal's number and place, or how many were counted
abbrev pub verdict_of : {A : Type 0} → (A → ℕ) → Judged A → Result ℕ Rejected
verdict_of count (accepted x) = Ok (count x)
verdict_of count (rejected n p) = Err (no_in n p)

-- zero after a refusal
abbrev pub lent_after : {A : Type 0} → (A → List ℕ) → List ℕ → Judged A → List ℕ
lent_after words buffer (accepted x) = filled buffer (words x)
lent_after words buffer (rejected n p) = wiped buffer

-- judging a library and a section: the count of both's types, and their table

abbrev pub table_lent : List ℕ → List ℕ → List ℕ → Bool
table_lent rows shared codes = holds rows_size rows && holds codes_size shared && holds codes_size codes

abbrev pub counted : Joined → ℕ
counted j = length j.types

abbrev pub section_call : List ℕ → List ℕ → List ℕ → List ℕ → List ℕ → Judged Joined
section_call library s rows shared codes = lent_enough (table_lent rows shared codes) (judge_joined library s)

pub record SectionJudged (library s rows shared codes rows' shared' codes' : List ℕ) (r : Result ℕ Rejected) : Type 0 where
  pub answer : r ≡ verdict_of counted (section_call library s rows shared codes)
  pub rows_after : rows' ≡ lent_after joined_rows rows (section_call library s rows shared codes)
  pub shared_after : shared' ≡ lent_after joined_shared shared (section_call library s rows shared codes)
  pub codes_after : codes' ≡ lent_after joined_codes codes (section_call library s rows shared codes)

-- asking for a type: in which section its bytes lie, and where, and the very bytes; lent memory is as after the sections alone

abbrev pub ask_call : List ℕ → List ℕ → ℕ → List ℕ → List ℕ → List ℕ → Judged Held
ask_call library s x rows shared codes = lent_enough (table_lent rows shared codes) (ask_type library s x)

abbrev pub asked_of : Judged Held → Asked
asked_of (accepted h) =
    cond h.of_library
    (Asked.TheVariants.Library h.definition.from h.definition.to)
    (Asked.TheVariants.Addon h.definition.from h.definition.to)
asked_of (rejected n p) = Asked.TheVariants.Refused n p

-- the sections' types, unless the number is refused
abbrev pub asked_types : Judged Held → Joined → Judged Joined
asked_types (accepted h) j = accepted j
asked_types (rejected n p) j = rejected n p

abbrev pub ask_table : List ℕ → List ℕ → ℕ → List ℕ → List ℕ → List ℕ → Judged Joined
ask_table library s x rows shared codes =
    and_then (section_call library s rows shared codes) (asked_types (ask_call library s x rows shared codes))

pub record TypeAsked (library s : List ℕ) (x : ℕ) (rows shared codes rows' shared' codes' : List ℕ) (r : Asked) : Type 0 where
  pub answer : r ≡ asked_of (ask_call library s x rows shared codes)
  pub rows_after : rows' ≡ lent_after joined_rows rows (ask_table library s x rows shared codes)
  pub shared_after : shared' ≡ lent_after joined_shared shared (ask_table library s x rows shared codes)
  pub codes_after : codes' ≡ lent_after joined_codes codes (ask_table library s x rows shared codes)

pub record TypeHanded (library s : List ℕ) (x : ℕ) (rows shared codes rows' shared' codes' part : List ℕ) : Type 0 where
  pub bytes : part ≡ part_of library s (ask_call library s x rows shared codes)
  pub rows_after : rows' ≡ lent_after joined_rows rows (ask_table library s x rows shared codes)
  pub shared_after : shared' ≡ lent_after joined_shared shared (ask_table library s x rows shared codes)
  pub codes_after : codes' ≡ lent_after joined_codes codes (ask_table library s x rows shared codes)

-- judging a body: its count of instructions; all lent memory is scratch, zero whatever the answer

abbrev pub body_call : List ℕ → List ℕ → List ℕ → ℕ → List ℕ → List ℕ → List ℕ → List ℕ → Judged Body
body_call library section s x rows shared codes work =
    lent_enough (table_lent rows shared codes && holds work_size work) (judge_body library section s x)

pub record BodyJudged (library section s : List ℕ) (x : ℕ) (rows shared codes work rows' shared' codes' work' : List ℕ) (r : Result ℕ Rejected) : Type 0 where
  pub answer : r ≡ verdict_of instructions (body_call library section s x rows shared codes work)
  pub rows_after : rows' ≡ wiped rows
  pub shared_after : shared' ≡ wiped shared
  pub codes_after : codes' ≡ wiped codes
  pub work_after : work' ≡ wiped work

-- the trial run: done, trap or spent, the steps, and the state after exactly those steps

-- the buffers of a run
pub record RunMemory : Type 0 where
  pub rows : List ℕ
  pub shared : List ℕ
  pub codes : List ℕ
  pub work : List ℕ
  pub ends : List ℕ
  pub state : StateWords

abbrev pub state_lent : StateWords → Bool
state_lent w =
    holds counts_size w.counts
    && holds objects_size w.objects
    && holds cells_size w.cells
    && holds locals_size w.locals
    && holds operands_size w.operands
    && holds blocks_size w.blocks

abbrev pub run_lent : RunMemory → Bool
run_lent m = table_lent m.rows m.shared m.codes && holds work_size m.work && holds ends_size m.ends && state_lent m.state

abbrev pub run_call : List ℕ → List ℕ → List ℕ → ℕ → ℕ → RunMemory → Judged Trial
run_call library section s x budget m = lent_enough (run_lent m) (trial_run library section s x budget)

-- the machine as it stands at the end
abbrev pub machine_of : Ending → Machine
machine_of (done steps m) = m
machine_of (trapped number steps m) = m
machine_of (spent steps m) = m
machine_of (wrong steps m) = m

-- `wrong` is given a number that no trap has; soundness is that no run comes to it
abbrev pub ran_as : List ℕ → Ending → Ran
ran_as s (done steps m) = Ran.TheVariants.Done steps (length m.operands)
ran_as s (trapped number steps m) = Ran.TheVariants.Trapped number (place_of s m.code) steps
ran_as s (spent steps m) = Ran.TheVariants.Spent steps
ran_as s (wrong steps m) = Ran.TheVariants.Trapped 0 (place_of s m.code) steps

abbrev pub ran_of : List ℕ → Judged Trial → Ran
ran_of s (accepted t) = ran_as s t.ending
ran_of s (rejected n p) = Ran.TheVariants.Refused n p

-- one buffer of the state afterwards
abbrev pub state_after : List ℕ → (StateWords → List ℕ) → RunMemory → Judged Trial → List ℕ
state_after s part m judged = lent_after (λ t. part (state_words s (machine_of t.ending))) (part m.state) judged

pub record RunTried (library section s : List ℕ) (x budget : ℕ) (m m' : RunMemory) (r : Ran) : Type 0 where
  pub answer : r ≡ ran_of s (run_call library section s x budget m)
  pub rows_after : m'.rows ≡ wiped m.rows
  pub shared_after : m'.shared ≡ wiped m.shared
  pub codes_after : m'.codes ≡ wiped m.codes
  pub work_after : m'.work ≡ wiped m.work
  pub ends_after : m'.ends ≡ wiped m.ends
  pub counts : m'.state.counts ≡ state_after s (λ w. w.counts) m (run_call library section s x budget m)
  pub objects : m'.state.objects ≡ state_after s (λ w. w.objects) m (run_call library section s x budget m)
  pub cells : m'.state.cells ≡ state_after s (λ w. w.cells) m (run_call library section s x budget m)
  pub locals : m'.state.locals ≡ state_after s (λ w. w.locals) m (run_call library section s x budget m)
  pub operands : m'.state.operands ≡ state_after s (λ w. w.operands) m (run_call library section s x budget m)
  pub blocks : m'.state.blocks ≡ state_after s (λ w. w.blocks) m (run_call library section s x budget m)
