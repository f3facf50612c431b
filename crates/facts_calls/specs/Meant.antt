-- What a yes means, by relations alone: a library and a section of n types, a body of n instructions, a body that can be run.
use Rattle.std.specs.Prelude.{ℕ, ◌≤◌, ◌<◌, ◌≡◌, List, [], ◌∷◌, map, length}
use Rattle.scope.specs.Sizes.{most_budget}
use Rattle.scope.specs.Refusals.{oversize, no_default}
use Rattle.scope.specs.Reading.{got}
use Rattle.scope.specs.declared.Place.{Place}
use Rattle.scope.specs.Syntax.{Val}
use Rattle.scope.specs.Judging.{plain, Joined}
use Rattle.scope.specs.Instructions.{Instr, instr_at}
use Rattle.scope.specs.Bodies.{Code, Function, Body}
use Rattle.facts_sections.specs.Allowed.{Allowed}
use Rattle.facts_bodies.specs.Premises.{Each, Default}
use Rattle.facts_bodies.specs.Typing.{Derivation}
use Rattle.facts_refusals.specs.Bodies.{BodySaysNo}

-- some joined list of n definitions is allowed for these bytes
pub record SectionOf (library s : List ℕ) (n : ℕ) : Type 0 where
  pub both : Joined
  pub allowed : Allowed library s both
  pub many : length both.types ≡ n

-- the sections are allowed, x is the number of a function's type, and a derivation of n instructions exists
pub record BodyOf (library section s : List ℕ) (x n : ℕ) : Type 0 where
  pub both : Joined
  pub allowed : Allowed library section both
  pub function : Function
  pub locals : List Val
  pub instructions : List Instr
  -- it says that x is the number of this function's type
  pub derivation : Derivation both.types x s function locals instructions
  pub many : length instructions ≡ n

-- the instructions with their places: each stands at its first byte, and the next one begins where it ends
pub data Placed (s : List ℕ) : ℕ → Code → ℕ → Type 0 where
  none_placed : {at : ℕ} → Placed s at [] at
  next_placed : {at next stop : ℕ} {i : Instr} {code : Code} → instr_at s at ≡ got i next → Placed s next code stop → Placed s at ((at, i) ∷ code) stop

-- the body that these bytes are: types, function, locals and instructions are a derivation's, and the code is placed
pub record IsBody (library section s : List ℕ) (x : ℕ) (b : Body) : Type 0 where
  pub before : ℕ
  pub allowed : Allowed library section (record { before = before; types = b.types })
  pub derivation : Derivation b.types x s b.function b.locals (map (λ i. i.1) b.code)
  pub placed : Placed s derivation.written.first b.code (length s)

-- "zero or null parameters and a budget of at most 1,000,000"
pub record CanRun (library section s : List ℕ) (x budget : ℕ) (b : Body) : Type 0 where
  pub is_body : IsBody library section s x b
  pub within_budget : budget ≤ most_budget
  pub defaults : Each Default b.function.parameters

-- "A run: these, then budget, then parameters." 4 and 29 at 0.
pub data RunSaysNo (library section s : List ℕ) (x budget : ℕ) : ℕ → Place → Type 1 where
  by_body : {number : ℕ} {place : Place} → BodySaysNo library section s x number place → RunSaysNo library section s x budget number place
  by_budget : {b : Body} → IsBody library section s x b → most_budget < budget → RunSaysNo library section s x budget oversize (plain 0)
  by_parameters : {b : Body} → IsBody library section s x b → budget ≤ most_budget → ¬ Each Default b.function.parameters → RunSaysNo library section s x budget no_default (plain 0)
