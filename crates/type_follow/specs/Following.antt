-- A part of rule 4, under a name of its own.
use Rattle.std.specs.Prelude.{ℕ, Bool, false}
use Rattle.scope.specs.Reading.{given}
use Rattle.scope.specs.Syntax.{Types, super_of}
use Rattle.scope.specs.TypeRules.{is_the}

-- x has a descriptor whose supertype is y
unfoldable pub descriptor_under : Types → ℕ → ℕ → Bool
descriptor_under ts x y = given (ts x).descriptor false (λ d. is_the (super_of (ts d)) y)
