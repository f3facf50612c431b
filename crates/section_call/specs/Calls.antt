-- What judging a library and an add-on answers and leaves, part by part.
use Rattle.std.specs.Prelude.{ℕ, ◌≡◌, List, length, replicate}
use Rattle.std.specs.Prelude.{Result}
use Rattle.scope.specs.declared.Rejected.{Rejected}
use Rattle.scope.specs.Judging.{judge_joined}
use Rattle.scope.specs.Memory.{joined_rows, joined_shared, joined_codes}
use Rattle.scope.specs.Answers.{lent_after, section_call}
use Rattle.section_both.specs.Both.{joined_is, Ready}

-- memory of its sizes, all zero
pub record Blank (rows shared codes : List ℕ) : Type 0 where
  pub ready : Ready rows shared codes
  pub shared_zero : shared ≡ replicate (length shared) 0
  pub codes_zero : codes ≡ replicate (length codes) 0

-- both sections in such memory
pub record LentJudged (library section rows shared codes rows' shared' codes' : List ℕ) (r : Result (ℕ × ℕ) Rejected) : Type 0 where
  pub answer : r ≡ joined_is (judge_joined library section)
  pub rows_after : rows' ≡ lent_after joined_rows rows (judge_joined library section)
  pub shared_after : shared' ≡ lent_after joined_shared shared (judge_joined library section)
  pub codes_after : codes' ≡ lent_after joined_codes codes (judge_joined library section)

-- and in any memory
pub record TableJudged (library section rows shared codes rows' shared' codes' : List ℕ) (r : Result (ℕ × ℕ) Rejected) : Type 0 where
  pub answer : r ≡ joined_is (section_call library section rows shared codes)
  pub rows_after : rows' ≡ lent_after joined_rows rows (section_call library section rows shared codes)
  pub shared_after : shared' ≡ lent_after joined_shared shared (section_call library section rows shared codes)
  pub codes_after : codes' ≡ lent_after joined_codes codes (section_call library section rows shared codes)
