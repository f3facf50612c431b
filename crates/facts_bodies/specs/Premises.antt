-- What the body rules ask of types and operands, each as a relation over type rule 6's order: type numbers in reach, types
-- with a default, an operand's type below another, what is taken from the stack and what is put there.
use Rattle.std.specs.Prelude.{ℕ, ◌<◌, ◌≡◌, Bool, true, List, [], ◌∷◌}
use Rattle.std.proofs.Math.Option.{some}
use Rattle.scope.specs.Abstract.{Abstract}
use Rattle.scope.specs.Syntax.{Heap, abstract, defined, exact, Number, Val, num, ref, nullable, non_null, Types}
use Rattle.scope.specs.Order.{ValOrder}
use Rattle.scope.specs.BodyRules.{Wanted, value, any_value, any_reference, Gives, values, it_non_null, its_descriptor}
use Rattle.scope.specs.Bodies.{Operand, known, unknown, unknown_reference, on_top}

-- it holds of each element
pub data Each {A : Type 0} (P : A → Type 0) : List A → Type 0 where
  of_none : Each P []
  of_first : {x : A} {xs : List A} → P x → Each P xs → Each P (x ∷ xs)

-- types

-- its type number, where it has one, names a type of the section: there are `count` of them
pub data HeapReached (count : ℕ) : Heap → Type 0 where
  abstract_reached : {a : Abstract} → HeapReached count (abstract a)
  defined_reached : {x : ℕ} → x < count → HeapReached count (defined x)
  exact_reached : {x : ℕ} → x < count → HeapReached count (exact x)

pub data ValReached (count : ℕ) : Val → Type 0 where
  number_reached : {n : Number} → ValReached count (num n)
  reference_reached : {null : Bool} {h : Heap} → HeapReached count h → ValReached count (ref null h)

-- numbers and nullable references have a default
pub data Default : Val → Type 0 where
  zero_default : {n : Number} → Default (num n)
  null_default : {h : Heap} → Default (nullable h)

-- "The target is a defined type with a descriptor": the cast to this target takes (ref null y), exact y when the target is
-- exact.
pub data CastTakes (ts : Types) : Heap → Heap → Type 0 where
  its_descriptor_lem : {x y : ℕ} → (ts x).descriptor ≡ some y → CastTakes ts (defined x) (defined y)
  its_exact_descriptor : {x y : ℕ} → (ts x).descriptor ≡ some y → CastTakes ts (exact x) (exact y)

-- operands

-- An operand's type is below a type. "An unknown is below every type"; "a non-null reference of unknown heap, below every
-- reference type and below no number type".
pub data OperandFits (ts : Types) : Operand → Val → Type 0 where
  known_below : {v w : Val} → ValOrder ts v w → OperandFits ts (known v) w
  unknown_below : {w : Val} → OperandFits ts unknown w
  unknown_reference_below : {null : Bool} {h : Heap} → OperandFits ts unknown_reference (ref null h)

-- An operand is what an instruction wants: below a type; of any type; or below some reference type.
pub data Meets (ts : Types) : Operand → Wanted → Type 0 where
  as_value : {o : Operand} {w : Val} → OperandFits ts o w → Meets ts o (value w)
  as_any : {o : Operand} → Meets ts o any_value
  as_reference : {o : Operand} {null : Bool} {h : Heap} → OperandFits ts o (ref null h) → Meets ts o any_reference

-- What is wanted, the top first, is taken: `Takes ts dead wanted operands taken left`. "After unreachable, br and return the
-- stack yields unknowns": in dead code an unknown is there where no operand is left.
pub data Takes (ts : Types) : Bool → List Wanted → List Operand → List Operand → List Operand → Type 0 where
  takes_none : {dead : Bool} {os : List Operand} → Takes ts dead [] os [] os
  takes_top : {dead : Bool} {w : Wanted} {ws : List Wanted} {o : Operand} {os taken left : List Operand}
      → Meets ts o w
      → Takes ts dead ws os taken left
      → Takes ts dead (w ∷ ws) (o ∷ os) (o ∷ taken) left
  takes_unknown : {w : Wanted} {ws : List Wanted} {taken left : List Operand}
      → Takes ts true ws [] taken left
      → Takes ts true (w ∷ ws) [] (unknown ∷ taken) left

-- What is put there, by what was taken: `Puts ts gives taken put`. "ref.as_non_null of an unknown is a non-null reference of
-- unknown heap." "ref.get_desc x .. gives (ref y), exact when the operand is below (ref null (exact x))."
pub data Puts (ts : Types) : Gives → List Operand → List Operand → Type 0 where
  puts_values : {vs : List Val} {taken : List Operand} → Puts ts (values vs) taken (on_top vs)
  puts_non_null : {null : Bool} {h : Heap} → Puts ts it_non_null (known (ref null h) ∷ []) (known (non_null h) ∷ [])
  puts_of_unknown : Puts ts it_non_null (unknown ∷ []) (unknown_reference ∷ [])
  puts_of_unknown_reference : Puts ts it_non_null (unknown_reference ∷ []) (unknown_reference ∷ [])
  puts_exact_descriptor : {x y : ℕ} {o : Operand}
      → OperandFits ts o (nullable (exact x))
      → Puts ts (its_descriptor x y) (o ∷ []) (known (non_null (exact y)) ∷ [])
  puts_descriptor : {x y : ℕ} {o : Operand}
      → ¬ OperandFits ts o (nullable (exact x))
      → Puts ts (its_descriptor x y) (o ∷ []) (known (non_null (defined y)) ∷ [])
