-- "The ten abstract heap types are a fixed table": code, the top and the bottom of its hierarchy, the types directly above.
use Rattle.std.specs.Prelude.{ℕ, Bool, cond, List, [], ◌∷◌, eqb}
use Rattle.std.proofs.Math.Option.{Option, none, some}
use Rattle.scope.specs.Lists.{some_of}

pub data Abstract : Type 0 where
  NOFUNC NOEXTERN NONE FUNC EXTERN ANY EQ I31 STRUCT ARRAY : Abstract

pub record Row : Type 0 where
  pub code : ℕ
  pub top : Abstract
  pub bottom : Abstract
  pub above : List Abstract

abbrev pub row : Abstract → Row
row NOFUNC = record { code = 0x73; top = FUNC; bottom = NOFUNC; above = FUNC ∷ [] }
row NOEXTERN = record { code = 0x72; top = EXTERN; bottom = NOEXTERN; above = EXTERN ∷ [] }
row NONE = record { code = 0x71; top = ANY; bottom = NONE; above = I31 ∷ STRUCT ∷ ARRAY ∷ [] }
row FUNC = record { code = 0x70; top = FUNC; bottom = NOFUNC; above = [] }
row EXTERN = record { code = 0x6F; top = EXTERN; bottom = NOEXTERN; above = [] }
row ANY = record { code = 0x6E; top = ANY; bottom = NONE; above = [] }
row EQ = record { code = 0x6D; top = ANY; bottom = NONE; above = ANY ∷ [] }
row I31 = record { code = 0x6C; top = ANY; bottom = NONE; above = EQ ∷ [] }
row STRUCT = record { code = 0x6B; top = ANY; bottom = NONE; above = EQ ∷ [] }
row ARRAY = record { code = 0x6A; top = ANY; bottom = NONE; above = EQ ∷ [] }

abbrev pub ten : List Abstract
ten = NOFUNC ∷ NOEXTERN ∷ NONE ∷ FUNC ∷ EXTERN ∷ ANY ∷ EQ ∷ I31 ∷ STRUCT ∷ ARRAY ∷ []

abbrev pub same_abstract : Abstract → Abstract → Bool
same_abstract a b = eqb (row a).code (row b).code

-- b stands among the types directly above a
abbrev pub directly_above : Abstract → Abstract → Bool
directly_above a b = some_of (same_abstract b) (row a).above

abbrev pub first_with : ℕ → List Abstract → Option Abstract
first_with b [] = none
first_with b (a ∷ more) = cond (eqb b (row a).code) (some a) (first_with b more)

-- the abstract type that has this code
abbrev pub abstract_of : ℕ → Option Abstract
abstract_of b = first_with b ten
