-- What is left of the memory that was lent.
use Rattle.std.specs.Prelude.{ℕ, ◌≡◌, List, length, replicate}

pub record Cleared (rows shared codes work rows' shared' codes' work' : List ℕ) : Type 0 where
  pub rows_zero : rows' ≡ replicate (length rows) 0
  pub shared_zero : shared' ≡ replicate (length shared) 0
  pub codes_zero : codes' ≡ replicate (length codes) 0
  pub work_zero : work' ≡ replicate (length work) 0
