-- What the public call on bodies comes to, part by part, by document 01's definitions.
use Rattle.std.specs.Prelude.{ℕ, ◌≡◌, List}
use Rattle.std.specs.Prelude.{Result}
use Rattle.scope.specs.declared.Rejected.{Rejected}
use Rattle.scope.specs.Bodies.{instructions, judge_body}
use Rattle.scope.specs.Answers.{verdict_of, body_call}
use Rattle.section_both.specs.Both.{Ready}
use Rattle.body_judge.specs.Typed.{Fresh}

-- lent memory of its sizes; the rows and the scratch are zero
pub record Prepared (rows shared codes work : List ℕ) : Type 0 where
  pub ready : Ready rows shared codes
  pub fresh : Fresh work

-- the sections first, in such memory
pub record LentJudged (library section s : List ℕ) (x : ℕ) (r : Result ℕ Rejected) : Type 0 where
  pub answer : r ≡ verdict_of instructions (judge_body library section s x)

-- and in any memory
pub record EnoughJudged (library section s : List ℕ) (x : ℕ) (rows shared codes work : List ℕ) (r : Result ℕ Rejected) : Type 0 where
  pub answer : r ≡ verdict_of instructions (body_call library section s x rows shared codes work)
