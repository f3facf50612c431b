-- The scratch after a call: zero in every word.
use Rattle.std.specs.Prelude.{ℕ, ◌≡◌, List}
use Rattle.scope.specs.Memory.{wiped}

pub record ScratchCleared (rows shared codes work ends rows' shared' codes' work' ends' : List ℕ) : Type 0 where
  pub rows_zero : rows' ≡ wiped rows
  pub shared_zero : shared' ≡ wiped shared
  pub codes_zero : codes' ≡ wiped codes
  pub work_zero : work' ≡ wiped work
  pub ends_zero : ends' ≡ wiped ends
