-- What the rules of instructions say of lists: what stands at a place, a list with one place changed, and a number of operands
-- taken from the top. Nothing of the machine's step stands in them.
use Rattle.std.specs.Prelude.{ℕ, zero, suc, ◌≡◌, List, [], ◌∷◌, ◌++◌, length}
use Rattle.std.proofs.Math.Option.{Option}
use Rattle.scope.specs.Bodies.{Code}
use Rattle.scope.specs.Machine.{Value, Store, Block, Machine}

-- x stands at place i
pub data Stands {A : Type 0} : ℕ → A → List A → Type 0 where
  stands_first : {x : A} {xs : List A} → Stands zero x (x ∷ xs)
  stands_later : {i : ℕ} {x y : A} {xs : List A} → Stands i x xs → Stands (suc i) x (y ∷ xs)

-- the second list is the first with `new` at place i, where something stood before
pub data Changed {A : Type 0} (new : A) : ℕ → List A → List A → Type 0 where
  changed_first : {old : A} {xs : List A} → Changed new zero (old ∷ xs) (new ∷ xs)
  changed_later : {i : ℕ} {y : A} {xs ys : List A} → Changed new i xs ys → Changed new (suc i) (y ∷ xs) (y ∷ ys)

-- n operands from the top, and those below
pub record Splits (n : ℕ) (vs top below : List Value) : Type 0 where
  pub is : vs ≡ top ++ below
  pub many : length top ≡ n

-- a machine by its five parts
abbrev pub state : Store → List (Option Value) → List Value → List Block → Code → Machine
state heap locals operands blocks code =
    record { heap = heap; locals = locals; operands = operands; blocks = blocks; code = code }
