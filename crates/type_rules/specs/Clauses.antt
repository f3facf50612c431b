-- Parts of rule 3, under names of their own.
use Rattle.std.specs.Prelude.{ℕ, Bool, true}
use Rattle.scope.specs.Reading.{given}
use Rattle.scope.specs.Syntax.{Types}
use Rattle.scope.specs.TypeRules.{is_the}

-- if x has descriptor y then y describes x
unfoldable pub descriptor_agrees : Types → ℕ → Bool
descriptor_agrees ts x = given (ts x).descriptor true (λ y. is_the (ts y).describes x)

-- if x describes y then y has descriptor x
unfoldable pub described_agrees : Types → ℕ → Bool
described_agrees ts x = given (ts x).describes true (λ y. is_the (ts y).descriptor x)
