-- What the code answers in std's own types: an Option beside the definitions' option, and a reader's answer as a Result.
use Rattle.std.specs.Prelude.{ℕ, Option, Result, Ok, Err}
use Rattle.scope.specs.declared.Place.{Place}
use Rattle.scope.specs.declared.Refused.{Refused}
use Rattle.scope.specs.declared.Rejected.{Rejected}
use Rattle.scope.specs.Reading.{Read, got, refused}

abbrev pub Maybe : Type 0 → Type 0
Maybe A = Option A

-- a refusal's number and place, as the code has them
abbrev pub no_at : ℕ → ℕ → Refused
no_at n p = record { number = n; at = p }

abbrev pub no_in : ℕ → Place → Rejected
no_in n p = record { number = n; place = p }

-- What a reader answers: the value by its code and the place after its bytes, or the refusal.
abbrev pub told : {A V : Type 0} → (A → V) → Read A → Result (V × ℕ) Refused
told code (got x next) = Ok (code x, next)
told code (refused n p) = Err (no_at n p)
