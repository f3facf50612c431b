-- Promises at document 01's bytes: each theorem of specs/Calls.antt at an input that meets its premises. The answers are
-- computed; buffers are of their one size, or one is a word under it.
use Prim.Native.Nat.{ℕ}
use native.Mathlib.Omega.{arith}
use mathlib.Core.Path.{◌≡◌, refl}
use mathlib.Core.Bool.{true, false}
use mathlib.Core.Option.{none, some}
use mathlib.Core.List.{List, [], ◌∷◌}
use lib.ListN.{replicate, get_elem?}
use Rattle.scope.specs.Told.{no_in}
use Rattle.std.specs.Prelude.{Result, Ok, Err}
use Rattle.scope.specs.declared.Rejected.{Rejected}
use Rattle.scope.specs.Sections.{empty_library}
use Rattle.scope.specs.declared.Ran.{Ran}
use Rattle.scope.specs.declared.Ran
use Rattle.scope.specs.Layout.{rows_size, codes_size, work_size, ends_size, counts_size, objects_size, cells_size, locals_size, operands_size, blocks_size}
use Rattle.scope.specs.declared.Asked.{Asked}
use Rattle.scope.specs.declared.Asked
use Rattle.scope.specs.Refusals.{buffer_too_small, out_of_reach, describes_not_earlier, bad_struct, oversize}
use Rattle.scope.specs.Syntax.{struct, Definition}
use Rattle.scope.specs.Judging.{plain, accepted, Joined, judge_joined}
use Rattle.scope.specs.Bodies.{Body, judge_body}
use Rattle.scope.specs.Memory.{wiped, joined_rows, joined_shared, joined_codes}
use Rattle.scope.specs.Answers.{lent_after, section_call, SectionJudged, ask_table, TypeAsked, TypeHanded, BodyJudged, RunMemory, run_call, ran_of, state_after, RunTried}
use Rattle.scope.proofs.Computes.{computes}
use Rattle.scope.proofs.Soundness.{RanSoundly}
use Rattle.facts_sections.specs.FirstFault.{Refused}
use Rattle.facts_sections.specs.Writing.{WritesDefinition}
use Rattle.facts_sections.proofs.Exactly.{accepted_exactly}
use Rattle.facts_bodies.specs.Premises.{of_none}
use Rattle.facts_runs.specs.Samples.{F1, two_objects, null_descriptor, sample}
use Rattle.facts_runs.specs.Counting.{taken, taken_by}
use Rattle.facts_refusals.specs.Bodies.{BodySaysNo}
use Rattle.facts_calls.specs.Zero.{Zero}
use Rattle.facts_calls.specs.Lent.{TableSuffices, TableShort, BodySuffices, BodyShort, RunSuffices}
use Rattle.facts_calls.specs.Meant.{SectionOf, BodyOf, CanRun, RunSaysNo}
use Rattle.facts_calls.specs.Calls.{RowTells, Stops, Wiped, ended_at_trap}
use Rattle.facts_calls.specs.Asked.{LiesIn, library_holds, addon_holds, TypeOf, Lies, AskSaysNo}
use Rattle.facts_calls.proofs.Placed.{accepted_body}
use Rattle.facts_calls.proofs.OfAsked.{of_asked, of_handed}
use Rattle.facts_calls.proofs.Holds.{sections, bodies, runs}

-- sections

abbrev rows : List ℕ
rows = replicate rows_size 7

abbrev codes : List ℕ
codes = replicate codes_size 7

abbrev shared : List ℕ
shared = replicate codes_size 7

abbrev judged : List ℕ → List ℕ → Result ℕ Rejected → Type 0
judged s lent r =
    let call = section_call empty_library s lent shared codes in
    SectionJudged empty_library s lent shared codes (lent_after joined_rows lent call) (lent_after joined_shared shared call) (lent_after joined_codes codes call) r

-- two types, each the other's clause
abbrev pair : List ℕ
pair = 0x01 ∷ 0x4E ∷ 0x02 ∷ 0x4D ∷ 0x01 ∷ 0x5F ∷ 0x00 ∷ 0x4C ∷ 0x00 ∷ 0x5F ∷ 0x00 ∷ []

pair_promise : judged pair rows (Ok 2)
unfolding computes
pair_promise = record { answer = refl; rows_after = refl; shared_after = refl; codes_after = refl }

pub pair_accepted : TableSuffices rows shared codes × SectionOf empty_library pair 2
pair_accepted = ((sections pair_promise).accepted 2).0 refl

-- the same with the clauses the other way round: 10, type 0
abbrev swapped : List ℕ
swapped = 0x01 ∷ 0x4E ∷ 0x02 ∷ 0x4C ∷ 0x01 ∷ 0x5F ∷ 0x00 ∷ 0x4D ∷ 0x00 ∷ 0x5F ∷ 0x00 ∷ []

swapped_promise : judged swapped rows (Err (no_in describes_not_earlier (plain 0)))
unfolding computes
swapped_promise = record { answer = refl; rows_after = refl; shared_after = refl; codes_after = refl }

pub swapped_refused : Refused empty_library swapped describes_not_earlier (plain 0)
swapped_refused = ((sections swapped_promise).refused describes_not_earlier (plain 0) pair_accepted.0).0 refl

-- a word short
abbrev few_rows : List ℕ
few_rows = replicate 16_383 7

short_promise : judged pair few_rows (Err (no_in buffer_too_small (plain 0)))
unfolding computes
short_promise = record { answer = refl; rows_after = refl; shared_after = refl; codes_after = refl }

pub rows_short : TableShort few_rows shared codes
rows_short = (sections short_promise).short.0 refl

-- bodies

abbrev work : List ℕ
work = replicate work_size 7

abbrev body_judged : List ℕ → List ℕ → Result ℕ Rejected → Type 0
body_judged s lent r = BodyJudged empty_library F1 s 2 rows shared codes lent (wiped rows) (wiped shared) (wiped codes) (wiped lent) r

two_promise : body_judged two_objects work (Ok 3)
unfolding computes
two_promise = record { answer = refl; rows_after = refl; shared_after = refl; codes_after = refl; work_after = refl }

pub two_accepted : BodySuffices rows shared codes work × BodyOf empty_library F1 two_objects 2 3
two_accepted = ((bodies two_promise).accepted 3).0 refl

abbrev unwanted : List ℕ
unwanted = 0x00 ∷ 0xFB ∷ 0x00 ∷ 0x00 ∷ 0x0B ∷ []

unwanted_promise : body_judged unwanted work (Err (no_in bad_struct (plain 1)))
unfolding computes
unwanted_promise = record { answer = refl; rows_after = refl; shared_after = refl; codes_after = refl; work_after = refl }

pub unwanted_refused : BodySaysNo empty_library F1 unwanted 2 bad_struct (plain 1)
unwanted_refused = ((bodies unwanted_promise).refused bad_struct (plain 1) two_accepted.0).0 refl

work_promise : body_judged two_objects [] (Err (no_in buffer_too_small (plain 0)))
unfolding computes
work_promise = record { answer = refl; rows_after = refl; shared_after = refl; codes_after = refl; work_after = refl }

pub work_short : BodyShort rows shared codes []
work_short = (bodies work_promise).short.0 refl

-- runs

abbrev memory : RunMemory
memory =
    record {
      rows = rows;
      shared = shared;
      codes = codes;
      work = work;
      ends = replicate ends_size 7;
      state =
          record {
            counts = replicate counts_size 7;
            objects = replicate objects_size 7;
            cells = replicate cells_size 7;
            locals = replicate locals_size 7;
            operands = replicate operands_size 7;
            blocks = replicate blocks_size 7;
          };
    }

-- memory after a run of so many steps of such a body
abbrev later : List ℕ → ℕ → RunMemory
later s budget =
    let call = run_call empty_library F1 s 2 budget memory in
    record {
      rows = wiped rows;
      shared = wiped shared;
      codes = wiped codes;
      work = wiped work;
      ends = wiped memory.ends;
      state =
          record {
            counts = state_after s (λ w. w.counts) memory call;
            objects = state_after s (λ w. w.objects) memory call;
            cells = state_after s (λ w. w.cells) memory call;
            locals = state_after s (λ w. w.locals) memory call;
            operands = state_after s (λ w. w.operands) memory call;
            blocks = state_after s (λ w. w.blocks) memory call;
          };
    }

tried : (s : List ℕ) (budget : ℕ) (r : Ran) → r ≡ ran_of s (run_call empty_library F1 s 2 budget memory) → RunTried empty_library F1 s 2 budget memory (later s budget) r
tried s budget r e =
    record {
      answer = e;
      rows_after = refl;
      shared_after = refl;
      codes_after = refl;
      work_after = refl;
      ends_after = refl;
      counts = refl;
      objects = refl;
      cells = refl;
      locals = refl;
      operands = refl;
      blocks = refl;
    }

memory_suffices : RunSuffices memory
memory_suffices =
    record {
      body = two_accepted.0;
      ends_fit = omega arith;
      state = record { counts_fit = omega arith; objects_fit = omega arith; cells_fit = omega arith; locals_fit = omega arith; operands_fit = omega arith; blocks_fit = omega arith };
    }

-- done after 3 steps with one result: two objects, as many as allocation steps

two-judged : judge_body empty_library F1 two_objects 2 ≡ accepted (sample two_objects)
unfolding computes
two-judged = refl

pub two_can_run : CanRun empty_library F1 two_objects 2 3 (sample two_objects)
unfolding computes
two_can_run = record { is_body = accepted_body empty_library F1 two_objects 2 two-judged; within_budget = omega arith; defaults = of_none }

two_run : RunTried empty_library F1 two_objects 2 3 memory (later two_objects 3) (Ran.TheVariants.Done 3 1)
unfolding computes
two_run = tried two_objects 3 _ refl

pub two_objects_lem : get_elem? (later two_objects 3).state.counts 1 ≡ some 2
unfolding computes taken taken_by
two_objects_lem = (runs two_run).objects (sample two_objects) memory_suffices two_can_run

pub two_stops : Stops 3 (Ran.TheVariants.Done 3 1)
unfolding computes
two_stops = (runs two_run).loopless (sample two_objects) memory_suffices two_can_run refl (omega arith)

-- spent: with a budget of 2 the last `end` is left

pub two_can_start : CanRun empty_library F1 two_objects 2 2 (sample two_objects)
unfolding computes
two_can_start = record { is_body = accepted_body empty_library F1 two_objects 2 two-judged; within_budget = omega arith; defaults = of_none }

spent_run : RunTried empty_library F1 two_objects 2 2 memory (later two_objects 2) (Ran.TheVariants.Spent 2)
unfolding computes
spent_run = tried two_objects 2 _ refl

pub two_spent : RanSoundly two_objects (sample two_objects) 2 memory (later two_objects 2) (Ran.TheVariants.Spent 2)
two_spent = (runs spent_run).ran (sample two_objects) memory_suffices two_can_start

-- a trap: a null descriptor, 43 at byte 4 in the second step; the operands are as the first step left them

null_judged : judge_body empty_library F1 null_descriptor 2 ≡ accepted (sample null_descriptor)
unfolding computes
null_judged = refl

pub null_can_run : CanRun empty_library F1 null_descriptor 2 9 (sample null_descriptor)
unfolding computes
null_can_run = record { is_body = accepted_body empty_library F1 null_descriptor 2 null_judged; within_budget = omega arith; defaults = of_none }

trap_run : RunTried empty_library F1 null_descriptor 2 9 memory (later null_descriptor 9) (Ran.TheVariants.Trapped 43 4 2)
unfolding computes
trap_run = tried null_descriptor 9 _ refl

pub null_trapped : RanSoundly null_descriptor (sample null_descriptor) 9 memory (later null_descriptor 9) (Ran.TheVariants.Trapped 43 4 2)
null_trapped = (runs trap_run).ran (sample null_descriptor) memory_suffices null_can_run

pub only_a_body_that_can_run : RunSuffices memory × ((b : Body) × CanRun empty_library F1 null_descriptor 2 9 b)
only_a_body_that_can_run = (runs trap_run).only_then ended_at_trap

-- refused: a budget of 1,000,001, and a body that is refused by itself; the state is zero

over_run : RunTried empty_library F1 two_objects 2 1_000_001 memory (later two_objects 1_000_001) (Ran.TheVariants.Refused oversize (plain 0))
unfolding computes
over_run = tried two_objects 1_000_001 _ refl

pub over_refused : RunSaysNo empty_library F1 two_objects 2 1_000_001 oversize (plain 0)
over_refused = ((runs over_run).refused oversize (plain 0) memory_suffices).0 refl

pub over_wiped : Wiped memory.state (later two_objects 1_000_001).state
over_wiped = (runs over_run).wipes oversize (plain 0) refl

unwanted-run : RunTried empty_library F1 unwanted 2 9 memory (later unwanted 9) (Ran.TheVariants.Refused bad_struct (plain 1))
unfolding computes
unwanted-run = tried unwanted 9 _ refl

pub unwanted-not-run : RunSaysNo empty_library F1 unwanted 2 9 bad_struct (plain 1)
unwanted-not-run = ((runs unwanted-run).refused bad_struct (plain 1) memory_suffices).0 refl

-- asking: a library of one type and a section of one below it. Type 1 is `4F 01 00 5F 00`, from byte 1 to byte 6 of the section; type 0
-- is `50 00 5F 00`, from byte 1 to byte 5 of the library; there is no type 2

abbrev open_struct : List ℕ
open_struct = 0x01 ∷ 0x50 ∷ 0x00 ∷ 0x5F ∷ 0x00 ∷ []

abbrev below_it : List ℕ
below_it = 0x01 ∷ 0x4F ∷ 0x01 ∷ 0x00 ∷ 0x5F ∷ 0x00 ∷ []

abbrev first : Definition
first = record { is_open = true; supers = []; describes = none; descriptor = none; form = struct []; from = 1; to = 5; reach = 1 }

abbrev second : Definition
second = record { is_open = false; supers = 0 ∷ []; describes = none; descriptor = none; form = struct []; from = 1; to = 6; reach = 2 }

abbrev first_and_second : Joined
first_and_second = record { before = 1; types = first ∷ second ∷ [] }

both-judged : judge_joined open_struct below_it ≡ accepted first_and_second
unfolding computes
both-judged = refl

abbrev handed_out : ℕ → List ℕ → Type 0
handed_out x part =
    let call = ask_table open_struct below_it x rows shared codes in
    TypeHanded open_struct below_it x rows shared codes (lent_after joined_rows rows call) (lent_after joined_shared shared call) (lent_after joined_codes codes call) part

abbrev asked_for : ℕ → Asked → Type 0
asked_for x r =
    let call = ask_table open_struct below_it x rows shared codes in
    TypeAsked open_struct below_it x rows shared codes (lent_after joined_rows rows call) (lent_after joined_shared shared call) (lent_after joined_codes codes call) r

first-handed : handed_out 0 (0x50 ∷ 0x00 ∷ 0x5F ∷ 0x00 ∷ [])
unfolding computes
first-handed = record { bytes = refl; rows_after = refl; shared_after = refl; codes_after = refl }

second-handed : handed_out 1 (0x4F ∷ 0x01 ∷ 0x00 ∷ 0x5F ∷ 0x00 ∷ [])
unfolding computes
second-handed = record { bytes = refl; rows_after = refl; shared_after = refl; codes_after = refl }

first-asked : asked_for 0 (Asked.TheVariants.Library 1 5)
unfolding computes
first-asked = record { answer = refl; rows_after = refl; shared_after = refl; codes_after = refl }

second-asked : asked_for 1 (Asked.TheVariants.Addon 1 6)
unfolding computes
second-asked = record { answer = refl; rows_after = refl; shared_after = refl; codes_after = refl }

pub first-type : TypeOf open_struct below_it 0 true first
first-type = record { both = first_and_second; allowed = (accepted_exactly open_struct below_it first_and_second).0 both-judged; present = refl; held = library_holds (omega arith) }

pub second_type : TypeOf open_struct below_it 1 false second
second_type = record { both = first_and_second; allowed = (accepted_exactly open_struct below_it first_and_second).0 both-judged; present = refl; held = addon_holds (omega arith) }

pub first_found : TableSuffices rows shared codes × Lies open_struct below_it 0 true 1 5
first_found = ((of_asked first-asked).in_library 1 5).0 refl

pub second_found : TableSuffices rows shared codes × Lies open_struct below_it 1 false 1 6
second_found = ((of_asked second-asked).in_addon 1 6).0 refl

pub second-written : WritesDefinition 2 1 (0x4F ∷ 0x01 ∷ 0x00 ∷ 0x5F ∷ 0x00 ∷ []) second
second-written = (of_handed second-handed).writes false second pair_accepted.0 second_type

pub second_lies : LiesIn below_it (0x4F ∷ 0x01 ∷ 0x00 ∷ 0x5F ∷ 0x00 ∷ []) 1 6
second_lies = (of_handed second-handed).lies false second pair_accepted.0 second_type

pub first_lies : LiesIn open_struct (0x50 ∷ 0x00 ∷ 0x5F ∷ 0x00 ∷ []) 1 5
first_lies = (of_handed first-handed).lies true first pair_accepted.0 first-type

third_asked : asked_for 2 (Asked.TheVariants.Refused out_of_reach (plain 2))
unfolding computes
third_asked = record { answer = refl; rows_after = refl; shared_after = refl; codes_after = refl }

pub third_refused : AskSaysNo open_struct below_it 2 rows shared codes out_of_reach (plain 2)
third_refused = ((of_asked third_asked).refused out_of_reach (plain 2)).0 refl

-- and judging both: the rows tell that the library holds type 0 and the section type 1

abbrev both_rows : List ℕ
both_rows = lent_after joined_rows rows (section_call open_struct below_it rows shared codes)

both_promise : SectionJudged open_struct below_it rows shared codes both_rows (lent_after joined_shared shared (section_call open_struct below_it rows shared codes)) (lent_after joined_codes codes (section_call open_struct below_it rows shared codes)) (Ok 2)
unfolding computes
both_promise = record { answer = refl; rows_after = refl; shared_after = refl; codes_after = refl }

pub first-told : RowTells both_rows first_and_second 0
unfolding first-type
first-told = (sections both_promise).tells first_and_second pair_accepted.0 first-type.allowed 0 (omega arith)

pub second-told : RowTells both_rows first_and_second 1
unfolding first-type
second-told = (sections both_promise).tells first_and_second pair_accepted.0 first-type.allowed 1 (omega arith)

-- handed out and refused: no bytes, and the table is zero

third_handed : handed_out 2 []
unfolding computes
third_handed = record { bytes = refl; rows_after = refl; shared_after = refl; codes_after = refl }

pub third_zero : Zero rows (lent_after joined_rows rows (ask_table open_struct below_it 2 rows shared codes))
third_zero = ((of_handed third_handed).wipes out_of_reach (plain 2) third_refused).0
