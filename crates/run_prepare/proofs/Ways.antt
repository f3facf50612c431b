-- Each way out of the preparation. What was accepted is not refused when it is read again; a refusal is the verdict's own, and
-- where none is left all that the run reads is at hand.
use Prim.Native.Nat.{ℕ, ◌^◌, ◌<◌}
use mathlib.Core.Path.{◌≡◌, refl, sym, ap, ◌∙◌}
use mathlib.Core.Bool.{Bool, true, false, not, and-false, false≢true}
use mathlib.Core.List.{List}
use native.Mathlib.Omega.{arith}
use lib.ListN.{length, replicate, length-replicate}
use lib.Dec.{ltb}
use borrow.Author.Tests.{not-true, not-false, leb-true, le-leb}
use Rattle.scope.specs.Told.{no_in}
use Rattle.std.specs.Prelude.{Result, Ok, Err}
use Rattle.scope.specs.declared.Rejected.{Rejected}
use Rattle.scope.specs.Sizes.{most_budget}
use Rattle.scope.specs.Layout.{work_size, ends_size}
use Rattle.scope.specs.Refusals.{oversize, buffer_too_small, no_default}
use Rattle.scope.specs.Lists.{every}
use Rattle.scope.specs.BodyRules.{has_default}
use Rattle.scope.specs.Judging.{plain, Judged, accepted, rejected}
use Rattle.scope.specs.declared.Place.{Place}
use Rattle.scope.specs.Bodies.{Body, instructions, judge_body}
use Rattle.scope.specs.Running.{with_parameters, trial_run}
use Rattle.scope.specs.Memory.{wiped}
use Rattle.scope.specs.Answers.{table_lent, verdict_of, body_call, BodyJudged}
use Rattle.scope.proofs.Truths.{from_both}
use Rattle.scope.proofs.Impossible.{impossible}
use Rattle.scope.proofs.Told.{rejected_as}
use Rattle.type_table.specs.declared.Shape.{Shape}
use Rattle.type_table.specs.declared.Shape
use Rattle.type_table.specs.Answers.{shape_form}
use Rattle.type_table.specs.View.{view, both_codes}
use Rattle.body_plan_defaults.specs.Defaults.{all_default}
use Rattle.std.specs.Prelude.{Result, Ok, Err}
use Rattle.scope.specs.declared.Refused.{Refused}
use Rattle.body_start.specs.Beginning.{locals_first, Starting, StartedAs}
use Rattle.run_ends.specs.Matching.{Fillable, Filled}
use Rattle.lent_limits.proofs.Enough.{table-sizes}
use Rattle.section_both.specs.Both.{Ready, BothJudged}
use Rattle.run_limits.specs.Limits.{scratch_lent}
use Rattle.run_prepare.specs.Preparing.{ZeroScratch, Shaping, Shaped, BodyRead, Typing, Typed, TypeRead, Allowed, SectionRead, ScratchRoom, RunJudged, PreparedFor}
use Rattle.run_prepare.proofs.Bodily.{parts}
use Rattle.run_prepare.proofs.Again.{sections_unrefused, sections_again, count_fits, shape_not_struct, shape_again, may_start-again, start_unrefused, start-again, may_fill_again, ends_told, ends_again}

-- the locals, the parameters and the matching ends

module _ {s codes work ends : List ℕ} {types first params results : ℕ} (may : Shaped s codes work ends types first params results) where
  pub may_read_locals : Starting work types params
  may_read_locals = may_start-again may.shaping.table may.shaping.function may.scratch.zero may.scratch.room

  module _ {work₁ : List ℕ} {read : Result (ℕ × ℕ) Refused} (a : StartedAs (locals_first types params s) s codes work work₁ first params read) where
    pub locals_read :
        {no : Refused} → read ≡ Err no → {work' ends' : List ℕ} {r : Result (ℕ × ℕ × ℕ) Rejected}
        → BodyRead s codes work' ends' types first params results r
    locals_read e = absurd (start_unrefused (parts may.shaping.judged) may.shaping.table may.shaping.function a e)

    module _ {count next : ℕ} (is : read ≡ Ok (count, next)) {all : Bool} (asked : all ≡ all_default false codes first params) where
      -- all parameters have a default, by the definition's test
      defaults : {rows : List ℕ} {body : Body} → Shaping s rows codes types first params results body → every has_default body.function.parameters ≡ all
      unfolding all_default
      defaults sh = sym (asked ∙ ap (every has_default) sh.function.parameters)

      pub no_default_lem : not all ≡ true → {work' ends' : List ℕ} → BodyRead s codes work' ends' types first params results (Err (no_in no_default (plain 0)))
      no_default_lem n =
          record { is = λ rows body budget sh. let none-all : every has_default body.function.parameters ≡ false = defaults sh ∙ not-true all n in rw none-all refl }

      pub may_fill : Fillable s ends next
      may_fill =
          let sh = may.shaping in
          may_fill_again (parts sh.judged) (start-again (parts sh.judged) sh.table sh.function a is) may.scratch.ends_room

      module _ {ends₁ : List ℕ} {matched : Bool} (filled-ends : Filled s ends ends₁ next matched) where
        pub ends_match : not matched ≡ true → {work' ends' : List ℕ} {r : Result (ℕ × ℕ × ℕ) Rejected} → BodyRead s codes work' ends' types first params results r
        ends_match n =
            let sh = may.shaping in
            absurd (false≢true (let yes' : matched ≡ true = ends_told (parts sh.judged) (start-again (parts sh.judged) sh.table sh.function a is) filled-ends in rw yes' at n))

        pub body_read : not all ≡ false → BodyRead s codes work₁ ends₁ types first params results (Ok (count, results, next))
        body_read yes-all =
            record {
              is = λ rows body budget sh.
                  let all_of : every has_default body.function.parameters ≡ true = defaults sh ∙ not-false all yes-all in
                  let again = start-again (parts sh.judged) sh.table sh.function a is in
                  record {
                    body = body;
                    is = rw all_of refl;
                    placing =
                        record {
                          library = sh.library;
                          section = sh.section;
                          number = sh.number;
                          runs = record { is_accepted = sh.judged; defaults = all_of };
                          types = types;
                          table = sh.table;
                          first = first;
                          params = params;
                          second = sh.second;
                          function = sh.function;
                          locals = again;
                        };
                    matching = ends_again (parts sh.judged) again filled-ends;
                  };
            }

pub ruleset body_exits = (may_read_locals, locals_read, no_default_lem, may_fill, ends_match, body_read)

-- the function's type

module _ {s : List ℕ} {x : ℕ} {rows codes work ends : List ℕ} {types : ℕ} (may : Typed s x rows codes work ends types) {shape : Shape} where
  pub function_there :
      {first n : ℕ} → shape ≡ Shape.TheVariants.Struct first n → (view rows codes x).form ≡ shape_form codes shape
      → {work' ends' : List ℕ} {r : Result (ℕ × ℕ × ℕ) Rejected} → TypeRead s x rows codes work' ends' types r
  function_there is a = absurd (shape_not_struct (parts may.typing.judged) may.typing.table is a)

  module _ {first n second m : ℕ} (is : shape ≡ Shape.TheVariants.Func first n second m) (a : (view rows codes x).form ≡ shape_form codes shape) where
    shaping_of : (body : Body) → Typing s x rows codes types body → Shaping s rows codes types first n m body
    shaping_of body t =
        record { library = t.library; section = t.section; number = x; judged = t.judged; table = t.table; second = second; function = shape_again (parts t.judged) t.table is a }

    pub may_shape : Shaped s codes work ends types first n m
    may_shape = record { rows = rows; body = may.body; shaping = shaping_of may.body may.typing; scratch = may.scratch }

    pub type_read : {work' ends' : List ℕ} {r : Result (ℕ × ℕ × ℕ) Rejected} → BodyRead s codes work' ends' types first n m r → TypeRead s x rows codes work' ends' types r
    type_read read = record { is = λ body budget t. read.is rows body budget (shaping_of body t) }

pub ruleset type_exits = (function_there, may_shape, type_read)

-- the sections

module _ {library section s : List ℕ} {x : ℕ} {rows shared codes work ends : List ℕ} (may : Allowed library section s x rows shared codes work ends) {rows₁ shared₁ codes₁ : List ℕ} {v : Result (ℕ × ℕ) Rejected}
    (a : BothJudged library section rows shared codes rows₁ shared₁ codes₁ v) where
  pub sections_there :
      {no : Rejected} → v ≡ Err no → {rows' codes' work' ends' : List ℕ} {r : Result (ℕ × ℕ × ℕ) Rejected}
      → SectionRead library section s x rows' codes' work' ends' r
  sections_there is = absurd (sections_unrefused (parts may.judged) a is)

  module _ {before types : ℕ} (is : v ≡ Ok (before, types)) where
    pub types-fit : types < 2 ^ 16
    types-fit = count_fits (parts may.judged) a is

    typing_of : (body : Body) → judge_body library section s x ≡ accepted body → Typing s x rows₁ (both_codes shared₁ codes₁) types body
    typing_of body j = record { library = library; section = section; judged = j; table = sections_again (parts j) a is }

    pub may_type : Typed s x rows₁ (both_codes shared₁ codes₁) work ends types
    may_type = record { body = may.body; typing = typing_of may.body may.judged; scratch = may.scratch }

    pub section_read : {work' ends' : List ℕ} {r : Result (ℕ × ℕ × ℕ) Rejected} → TypeRead s x rows₁ (both_codes shared₁ codes₁) work' ends' types r → SectionRead library section s x rows₁ (both_codes shared₁ codes₁) work' ends' r
    section_read read = record { is = λ body budget j. read.is body budget (typing_of body j) }

pub ruleset section_exits = (sections_there, types-fit, may_type, section_read)

-- the verdict on the run: the body's refusal, then the budget, then the parameters

module _ (library section s : List ℕ) (x budget : ℕ) where
  trial_rejected : {n : ℕ} {p : Place} → judge_body library section s x ≡ rejected n p → trial_run library section s x budget ≡ rejected n p
  unfolding trial_run
  trial_rejected e = rw e

  trial_over : {b : Body} → judge_body library section s x ≡ accepted b → ltb most_budget budget ≡ true → trial_run library section s x budget ≡ rejected oversize (plain 0)
  unfolding trial_run
  trial_over e h = rw (e, h)

  trial_within : {b : Body} → judge_body library section s x ≡ accepted b → ltb most_budget budget ≡ false → trial_run library section s x budget ≡ with_parameters b budget
  unfolding trial_run
  trial_within e h = rw (e, h)

-- the verdict on the body

body_refused : (j : Judged Body) {v : Result ℕ Rejected} {no : Rejected} → v ≡ verdict_of instructions j → v ≡ Err no → j ≡ rejected no.number no.place
body_refused (accepted b) e f = impossible cc
body_refused (rejected n p) e f = rejected_as e f

body_accepted : (j : Judged Body) {v : Result ℕ Rejected} {k : ℕ} → v ≡ verdict_of instructions j → v ≡ Ok k → (b : Body) × (j ≡ accepted b)
body_accepted (accepted b) e f = (b, refl)
body_accepted (rejected n p) e f = impossible cc

-- a buffer that was zeroed

pub wiped_long : (m : List ℕ) {m₁ : List ℕ} → m₁ ≡ wiped m → length m₁ ≡ length m
wiped_long m e = rw e (length-replicate (length m) 0)

pub wiped-zero : (m : List ℕ) {m₁ : List ℕ} → m₁ ≡ wiped m → m₁ ≡ wiped m₁
wiped-zero m e = e ∙ ap (λ (n : ℕ). replicate n 0) (sym (wiped_long m e))

-- the body, and then the budget

module _ {rows shared codes work ends : List ℕ} (lent : ScratchRoom rows shared codes work ends) {library section s : List ℕ} {x : ℕ}
    {rows₁ shared₁ codes₁ work₁ : List ℕ} {v : Result ℕ Rejected} (a : BodyJudged library section s x rows shared codes work rows₁ shared₁ codes₁ work₁ v) where
  call_is : body_call library section s x rows shared codes work ≡ judge_body library section s x
  call_is = rw (lent.table, le-leb work_size (length work) lent.work_room)

  answer_is : v ≡ verdict_of instructions (judge_body library section s x)
  answer_is = a.answer ∙ ap (verdict_of instructions) call_is

  table_ready : Ready rows₁ shared₁ codes₁
  table_ready =
      let (one, two, three) = table-sizes rows shared codes lent.table in
      let r = wiped_long rows a.rows_after in
      let s = wiped_long shared a.shared_after in
      let c = wiped_long codes a.codes_after in
      record { rows_zero = wiped-zero rows a.rows_after; rows_enough = omega (arith, one, r); shared_enough = omega (arith, two, s); codes_enough = omega (arith, three, c) }

  scratch_zero : ZeroScratch work₁ ends
  scratch_zero =
      record { zero = wiped-zero work a.work_after; room = omega (arith, wiped_long work a.work_after, lent.work_room); ends_room = lent.ends_room }

  module _ {budget : ℕ} where
    pub run_refused :
        {no : Rejected} → v ≡ Err no → {rows' codes' work' ends' : List ℕ}
        → RunJudged library section s x budget rows' codes' work' ends' (Err no)
    run_refused f = record { is = trial_rejected library section s x budget (body_refused (judge_body library section s x) answer_is f) }

    module _ {k : ℕ} (f : v ≡ Ok k) {over : Bool} (asked : over ≡ ltb most_budget budget) where
      pub run_over : over ≡ true → {rows' codes' work' ends' : List ℕ} → RunJudged library section s x budget rows' codes' work' ends' (Err (no_in oversize (plain 0)))
      run_over h =
          let (body, judged) = body_accepted (judge_body library section s x) answer_is f in
          record { is = trial_over library section s x budget judged (sym asked ∙ h) }

      pub run-judged :
          over ≡ false → {rows' codes' work' ends' : List ℕ} {r : Result (ℕ × ℕ × ℕ) Rejected} → SectionRead library section s x rows' codes' work' ends' r
          → RunJudged library section s x budget rows' codes' work' ends' r
      run-judged h j =
          let (body, judged) = body_accepted (judge_body library section s x) answer_is f in
          record { is = rw (trial_within library section s x budget judged (sym asked ∙ h)) (j.is body budget judged) }

  pub may_read_section : {k : ℕ} → v ≡ Ok k → Allowed library section s x rows₁ shared₁ codes₁ work₁ ends
  may_read_section f =
      let (body, judged) = body_accepted (judge_body library section s x) answer_is f in
      record { body = body; judged = judged; ready = table_ready; scratch = scratch_zero }

pub ruleset judge_exits = (run_refused, run_over, run-judged, may_read_section)

-- the sizes

module _ (scratch : Bool) where
  pub scratch_small :
      {r : Bool} → r ≡ scratch → not r ≡ true → {state : Bool} {library section s : List ℕ} {x budget : ℕ} {rows' codes' work' ends' : List ℕ}
      → PreparedFor library section s x budget scratch state rows' codes' work' ends' (Err (no_in buffer_too_small (plain 0)))
  scratch_small {r} f small =
      let none : scratch ≡ false = sym f ∙ not-true r small in
      record { is = rw none refl; room = λ count results next e. impossible cc }

  pub state-small :
      {state : Bool} → not state ≡ true → {library section s : List ℕ} {x budget : ℕ} {rows' codes' work' ends' : List ℕ}
      → PreparedFor library section s x budget scratch state rows' codes' work' ends' (Err (no_in buffer_too_small (plain 0)))
  state-small {state} small =
      let none : state ≡ false = not-true state small in
      record { is = rw (none, and-false scratch) refl; room = λ count results next e. impossible cc }

  pub prepared :
      {r : Bool} → r ≡ scratch → not r ≡ false → {state : Bool} → not state ≡ false → {library section s : List ℕ} {x budget : ℕ} {rows' codes' work' ends' : List ℕ} {a : Result (ℕ × ℕ × ℕ) Rejected}
      → RunJudged library section s x budget rows' codes' work' ends' a → PreparedFor library section s x budget scratch state rows' codes' work' ends' a
  prepared {r} f is-so {state} also j =
      let both₁ : scratch ≡ true = sym f ∙ not-false r is-so in
      let both₂ : state ≡ true = not-false state also in
      record { is = rw (both₁, both₂) j.is; room = λ count results next e. both₂ }

pub scratch_room : {rows shared codes work ends : List ℕ} {r : Bool} → r ≡ scratch_lent rows shared codes work ends → not r ≡ false → ScratchRoom rows shared codes work ends
scratch_room {rows} {shared} {codes} {work} {ends} {r} f is-so =
    let (both, ends-room) = from_both _ _ (sym f ∙ not-false r is-so) in
    let (table, work-room) = from_both _ _ both in
    record { table = table; work_room = leb-true work_size (length work) work-room; ends_room = leb-true ends_size (length ends) ends-room }

pub ruleset prepare_exits = (scratch_small, state-small, prepared, scratch_room)
