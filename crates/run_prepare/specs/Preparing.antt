-- What each part of the preparation answers, from the body's bytes outwards to the call: the refusal, or all that the run
-- needs. What the code does not hold, the body above all, is quantified.
use Rattle.std.specs.Prelude.{ℕ, ◌≤◌, ◌≡◌, Bool, true, ◌&&◌, List, length, replicate}
use Rattle.scope.specs.Told.{no_in}
use Rattle.std.specs.Prelude.{Result, Ok, Err}
use Rattle.scope.specs.declared.Rejected.{Rejected}
use Rattle.scope.specs.Judging.{Judged, accepted, rejected}
use Rattle.scope.specs.Bodies.{Body, judge_body}
use Rattle.scope.specs.Running.{trial_of, with_parameters, Trial, trial_run}
use Rattle.scope.specs.Answers.{table_lent, lent_enough}
use Rattle.scope.specs.Layout.{work_size, ends_size}
use Rattle.scope.proofs.Soundness.{Runs}
use Rattle.section_both.specs.Both.{Ready}
use Rattle.run_ends.specs.Matching.{EndsOf}
use Rattle.run_prepare.specs.Parts.{TypesAgain, FunctionAgain, LocalsAgain}

-- the answer

-- the body's parts are at hand: its types in the table, its locals' types in the scratch, its code from a place on
pub record Placing (s rows codes work : List ℕ) (count results next : ℕ) (b : Body) : Type 0 where
  pub library : List ℕ
  pub section : List ℕ
  pub number : ℕ
  pub runs : Runs library section s number b
  pub types : ℕ
  pub table : TypesAgain b rows codes types
  pub first : ℕ
  pub params : ℕ
  pub second : ℕ
  pub function : FunctionAgain b codes first params second results
  pub locals : LocalsAgain b s work count next

-- the verdict is a run, and all that the run reads is at hand
pub record Readied (want : Judged Trial) (budget : ℕ) (s rows codes work ends : List ℕ) (count results next : ℕ) : Type 0 where
  pub body : Body
  pub is : want ≡ accepted (trial_of body budget)
  pub placing : Placing s rows codes work count results next body
  pub matching : EndsOf s ends next

-- the answer is of a verdict: the refusal is its, and of a run all is at hand
abbrev pub Prepares : Judged Trial → ℕ → List ℕ → List ℕ → List ℕ → List ℕ → List ℕ → Result (ℕ × ℕ × ℕ) Rejected → Type 0
Prepares want budget s rows codes work ends (Ok (count, results, next)) = Readied want budget s rows codes work ends count results next
Prepares want budget s rows codes work ends (Err why) = want ≡ rejected why.number why.place

-- the scratch: zero as a verdict leaves it, and room for the ends

pub record ZeroScratch (work ends : List ℕ) : Type 0 where
  pub zero : work ≡ replicate (length work) 0
  pub room : work_size ≤ length work
  pub ends_room : ends_size ≤ length ends

-- an accepted body, its section's table, and its function's codes in it

pub record Shaping (s rows codes : List ℕ) (types first params results : ℕ) (b : Body) : Type 0 where
  pub library : List ℕ
  pub section : List ℕ
  pub number : ℕ
  pub judged : judge_body library section s number ≡ accepted b
  pub table : TypesAgain b rows codes types
  pub second : ℕ
  pub function : FunctionAgain b codes first params second results

pub record Shaped (s codes work ends : List ℕ) (types first params results : ℕ) : Type 0 where
  pub rows : List ℕ
  pub body : Body
  pub shaping : Shaping s rows codes types first params results body
  pub scratch : ZeroScratch work ends

pub record BodyRead (s codes work' ends' : List ℕ) (types first params results : ℕ) (r : Result (ℕ × ℕ × ℕ) Rejected) : Type 0 where
  pub is :
      (rows : List ℕ) (b : Body) (budget : ℕ) → Shaping s rows codes types first params results b
      → Prepares (with_parameters b budget) budget s rows codes work' ends' r

-- an accepted body and its section's table

pub record Typing (s : List ℕ) (x : ℕ) (rows codes : List ℕ) (types : ℕ) (b : Body) : Type 0 where
  pub library : List ℕ
  pub section : List ℕ
  pub judged : judge_body library section s x ≡ accepted b
  pub table : TypesAgain b rows codes types

pub record Typed (s : List ℕ) (x : ℕ) (rows codes work ends : List ℕ) (types : ℕ) : Type 0 where
  pub body : Body
  pub typing : Typing s x rows codes types body
  pub scratch : ZeroScratch work ends

pub record TypeRead (s : List ℕ) (x : ℕ) (rows codes work' ends' : List ℕ) (types : ℕ) (r : Result (ℕ × ℕ × ℕ) Rejected) : Type 0 where
  pub is : (b : Body) (budget : ℕ) → Typing s x rows codes types b → Prepares (with_parameters b budget) budget s rows codes work' ends' r

-- a body that was accepted, and memory as its verdict left it

pub record Allowed (library section s : List ℕ) (x : ℕ) (rows shared codes work ends : List ℕ) : Type 0 where
  pub body : Body
  pub judged : judge_body library section s x ≡ accepted body
  pub ready : Ready rows shared codes
  pub scratch : ZeroScratch work ends

pub record SectionRead (library section s : List ℕ) (x : ℕ) (rows' codes' work' ends' : List ℕ) (r : Result (ℕ × ℕ × ℕ) Rejected) : Type 0 where
  pub is : (b : Body) (budget : ℕ) → judge_body library section s x ≡ accepted b → Prepares (with_parameters b budget) budget s rows' codes' work' ends' r

-- each buffer of the scratch has its size

pub record ScratchRoom (rows shared codes work ends : List ℕ) : Type 0 where
  pub table : table_lent rows shared codes ≡ true
  pub work_room : work_size ≤ length work
  pub ends_room : ends_size ≤ length ends

pub record RunJudged (library section s : List ℕ) (x budget : ℕ) (rows' codes' work' ends' : List ℕ) (r : Result (ℕ × ℕ × ℕ) Rejected) : Type 0 where
  pub is : Prepares (trial_run library section s x budget) budget s rows' codes' work' ends' r

-- the whole: 14 for the scratch or the state, then the verdict; and a run only where both are enough
pub record PreparedFor (library section s : List ℕ) (x budget : ℕ) (scratch state : Bool) (rows' codes' work' ends' : List ℕ) (r : Result (ℕ × ℕ × ℕ) Rejected) : Type 0 where
  pub is : Prepares (lent_enough (scratch && state) (trial_run library section s x budget)) budget s rows' codes' work' ends' r
  pub room : (count results next : ℕ) → r ≡ Ok (count, results, next) → state ≡ true
