-- What each part of the run answers, from the steps outwards to the call: the verdict that it is asked for, and the six buffers
-- of the state by it. What the code does not hold, the body above all, is quantified.
use Rattle.std.specs.Prelude.{ℕ, ◌≤◌, ◌≡◌, List, length}
use Rattle.std.specs.Prelude.{Result, Ok}
use Rattle.scope.specs.declared.Rejected.{Rejected}
use Rattle.scope.specs.declared.Ran.{Ran}
use Rattle.scope.specs.Judging.{Judged, accepted}
use Rattle.scope.specs.Bodies.{Body}
use Rattle.scope.specs.Running as running
use Rattle.scope.specs.Running.{run, trial_of, Trial}
use Rattle.scope.specs.Memory.{StateWords, state_words, wiped}
use Rattle.scope.specs.Answers.{lent_after, machine_of, ran_as, ran_of}
use Rattle.scope.specs.Layout.{counts_size, objects_size, cells_size, locals_size, operands_size, blocks_size}
use Rattle.type_hierarchy.specs.Ranged.{Ranged}
use Rattle.run_ends.specs.Matching.{EndsOf}
use Rattle.run_state.specs.Machines.{Words, words, machine_at, program_at, start_stage}
use Rattle.run_buffers.specs.States.{Written}
use Rattle.run_loop.specs.Runs.{Runnable}
use Rattle.run_prepare.specs.Preparing.{Placing, Prepares}

-- the state's memory

abbrev pub words_of : StateWords → Words
words_of state = words state.objects state.cells state.locals state.operands state.blocks

pub record StateRoom (state : StateWords) : Type 0 where
  pub counts : counts_size ≤ length state.counts
  pub objects : objects_size ≤ length state.objects
  pub cells : cells_size ≤ length state.cells
  pub locals : locals_size ≤ length state.locals
  pub operands : operands_size ≤ length state.operands
  pub blocks : blocks_size ≤ length state.blocks

pub record Zeroed (state : StateWords) : Type 0 where
  pub counts : state.counts ≡ wiped state.counts
  pub objects : state.objects ≡ wiped state.objects
  pub cells : state.cells ≡ wiped state.cells
  pub locals : state.locals ≡ wiped state.locals
  pub operands : state.operands ≡ wiped state.operands
  pub blocks : state.blocks ≡ wiped state.blocks

-- the answer and each buffer of the state are those of a verdict
pub record Tried (s : List ℕ) (want : Judged Trial) (state state' : StateWords) (r : Ran) : Type 0 where
  pub answer : r ≡ ran_of s want
  pub counts : state'.counts ≡ lent_after (λ t. (state_words s (machine_of t.ending)).counts) state.counts want
  pub objects : state'.objects ≡ lent_after (λ t. (state_words s (machine_of t.ending)).objects) state.objects want
  pub cells : state'.cells ≡ lent_after (λ t. (state_words s (machine_of t.ending)).cells) state.cells want
  pub locals : state'.locals ≡ lent_after (λ t. (state_words s (machine_of t.ending)).locals) state.locals want
  pub operands : state'.operands ≡ lent_after (λ t. (state_words s (machine_of t.ending)).operands) state.operands want
  pub blocks : state'.blocks ≡ lent_after (λ t. (state_words s (machine_of t.ending)).blocks) state.blocks want

-- the run

pub record Startable (s rows codes ends : List ℕ) (count : ℕ) (state : StateWords) (results first : ℕ) : Type 0 where
  pub runnable : Runnable s rows codes ends count (words_of state) results first
  pub ranged : Ranged rows codes
  pub room : counts_size ≤ length state.counts

-- the ending of the written machine's run from there
abbrev pub run_here : List ℕ → List ℕ → List ℕ → ℕ → StateWords → ℕ → ℕ → ℕ → running.Ending
run_here s rows codes count state results first budget =
    run (program_at rows codes results) budget 0 (machine_at s count (words_of state) (start_stage first))

pub record RunStarted (s rows codes : List ℕ) (count : ℕ) (state state' : StateWords) (results first budget : ℕ) (r : Ran) : Type 0 where
  pub answer : r ≡ ran_as s (run_here s rows codes count state results first budget)
  pub written : Written (state_words s (machine_of (run_here s rows codes count state results first budget))) state state'

-- the run of a body whose parts are at hand

pub record Placed (s rows codes work ends : List ℕ) (count : ℕ) (state : StateWords) (results next : ℕ) : Type 0 where
  pub body : Body
  pub placing : Placing s rows codes work count results next body
  pub matching : EndsOf s ends next
  pub room : StateRoom state

pub record RunPlaced (s rows codes work : List ℕ) (count : ℕ) (state state' : StateWords) (results next budget : ℕ) (r : Ran) : Type 0 where
  pub is : (b : Body) → Placing s rows codes work count results next b → Tried s (accepted (trial_of b budget)) state state' r

-- what was prepared

pub record Waiting (s : List ℕ) (budget : ℕ) (rows codes work ends : List ℕ) (state : StateWords) (prepared : Result (ℕ × ℕ × ℕ) Rejected) : Type 0 where
  pub want : Judged Trial
  pub prepares : Prepares want budget s rows codes work ends prepared
  pub zero : Zeroed state
  pub room : (count results next : ℕ) → prepared ≡ Ok (count, results, next) → StateRoom state

pub record RunPrepared (s : List ℕ) (budget : ℕ) (rows codes work ends : List ℕ) (state state' : StateWords) (prepared : Result (ℕ × ℕ × ℕ) Rejected) (r : Ran) : Type 0 where
  pub is : (want : Judged Trial) → Prepares want budget s rows codes work ends prepared → Tried s want state state' r
