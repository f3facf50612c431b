-- What a numeric code takes and gives, by the ranges of the checker and by the code's line in the list by name: the same at every
-- line, by one computation over the whole list.
use mathlib.Core.Path.{◌≡◌, refl}
use mathlib.Core.Option.{Option, none, some}
use mathlib.Core.List.{List, map}
use Rattle.scope.specs.Syntax.{Val, num}
use Rattle.scope.specs.Numeric.{Numeric, numeric_of}
use Rattle.scope.specs.BodyRules.{Wanted, from_top, operands_of}
use Rattle.scope.proofs.Computes.{computes}
use Rattle.facts_codes.specs.Numeric.{Code, codes, Among}
use Rattle.facts_codes.proofs.Numeric.{read_off}

-- by the ranges
abbrev pub taken : Numeric → List Wanted × Val
taken kinds = (operands_of kinds, num kinds.result)

abbrev pub taken_by : Option Numeric → Option (List Wanted × Val)
taken_by none = none
taken_by (some kinds) = some (taken kinds)

-- by the list: the last operand is on top
abbrev pub line_taken : Code → List Wanted × Val
line_taken c = (from_top (map num c.typed.takes), num c.typed.gives)

all_taken : map (λ c. taken_by (numeric_of c.byte)) codes ≡ map (λ c. some (line_taken c)) codes
unfolding computes
all_taken = refl

pub listed-taken : {c : Code} → Among c codes → taken_by (numeric_of c.byte) ≡ some (line_taken c)
listed-taken among = read_off (λ c. taken_by (numeric_of c.byte)) (λ c. some (line_taken c)) all_taken among
