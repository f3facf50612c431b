-- The parts of the definition's reader of instructions (scope's Instructions.antt).
use Rattle.std.specs.Prelude.{ℕ, List}
use Rattle.scope.specs.Refusals.{not_listed}
use Rattle.scope.specs.Reading.{Read, got, refused, Reader, given, then}
use Rattle.scope.specs.Numbers.{u32}
use Rattle.scope.specs.Numeric.{numeric_of}
use Rattle.scope.specs.Instructions.{numeric, Instr, op, first_bytes, after_fb, find}

-- a numeric code at `at`; the next instruction stands at `next`
unfoldable pub numeric_at : ℕ → ℕ → ℕ → Read Instr
numeric_at b at next = given (numeric_of b) (refused not_listed at) (λ kinds. got (op (numeric b)) next)

-- a first byte at `at` but FB; what follows it stands at `next`
unfoldable pub single_at : ℕ → List ℕ → ℕ → ℕ → Read Instr
single_at b s at next = given (find b first_bytes) (numeric_at b at next) (λ r. r s next)

-- a number at `at` after FB; what follows it stands at `next`
unfoldable pub listed_at : ℕ → List ℕ → ℕ → ℕ → Read Instr
listed_at n s at next = given (find n after_fb) (refused not_listed at) (λ r. r s next)

unfoldable pub prefixed_at : Reader Instr
prefixed_at s at = then (u32 s at) (λ n next. listed_at n s at next)
