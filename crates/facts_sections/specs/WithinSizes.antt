-- The sizes that bear on a section, as relations over its syntax: 32,768 bytes; 1,024 types, with those that stand before; 64 fields,
-- parameters or results each. The chain's 63 steps stand in facts_types.
use Rattle.std.specs.Prelude.{ℕ, ◌+◌, ◌≤◌, length}
use mathlib.Core.List.{List, Memᴰ}
use Rattle.scope.specs.Sizes.{most_bytes, most_types, most_each}
use Rattle.scope.specs.Lists.{joined}
use Rattle.scope.specs.Syntax.{Val, Field, Form, struct, func, Definition, Group}

-- every element of the list is such
pub record Each {A : Type 0} (P : A → Type 0) (xs : List A) : Type 0 where
  pub such : (x : A) → Memᴰ x xs → P x

-- 64 fields, parameters or results each
pub data FormFits : Form → Type 0 where
  few_fields : {fs : List Field} → length fs ≤ most_each → FormFits (struct fs)
  few_values : {ps rs : List Val} → length ps ≤ most_each → length rs ≤ most_each → FormFits (func ps rs)

abbrev pub DefinitionFits : Definition → Type 0
DefinitionFits d = FormFits d.form

-- the sizes of a section's bytes and syntax. So many types stand before it: "1,024 for both together".
pub record WithinSizes (first : ℕ) (s : List ℕ) (gs : List Group) : Type 0 where
  pub bytes : length s ≤ most_bytes
  pub types : first + length (joined gs) ≤ most_types
  pub forms : Each DefinitionFits (joined gs)
