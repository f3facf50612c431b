-- What a pass needs of the table: the first looks at depths, the second at ranges.
use Rattle.std.specs.Prelude.{ℕ, ◌<◌, ◌≡◌, Bool, true, false, List}
use Rattle.std.proofs.Math.Option.{none}
use Rattle.scope.specs.Sizes.{most_steps}
use Rattle.scope.specs.TypeRules.{super_earlier_and_open, short_chain}
use Rattle.scope.specs.Judging.{links_fault}
use Rattle.type_table.specs.View.{view}
use Rattle.type_chain.specs.Depths.{shallow, Depths}
use Rattle.type_hierarchy.specs.Ranged.{Ranged}

-- at x: if rule 1 holds of it, its end word says whether its chain is short
pub record Chained (rows codes : List ℕ) (x : ℕ) : Type 0 where
  pub is : super_earlier_and_open (view rows codes) x ≡ true → short_chain most_steps (view rows codes) x ≡ shallow most_steps rows x

pub record Ready (links : Bool) (rows codes : List ℕ) (x : ℕ) : Type 0 where
  pub chained : links ≡ true → Chained rows codes x
  pub ranged : links ≡ false → Ranged rows codes

-- the types from `first` on of n are asked in the first pass: those before have passed it, and the end words of all are depths
pub record Linkable (first n : ℕ) (rows codes : List ℕ) : Type 0 where
  pub earlier : (x : ℕ) → x < first → links_fault (view rows codes) x ≡ none
  pub depths : Depths n codes rows

pub record Scannable (links : Bool) (first n : ℕ) (rows codes : List ℕ) : Type 0 where
  pub linkable : links ≡ true → Linkable first n rows codes
  pub ranged : links ≡ false → Ranged rows codes
