-- What is allowed of a library and an add-on's section, whole: the library's bytes are the writing of some syntax that is within the
-- sizes and meets type rules 1 to 6; the add-on's are the writing of some syntax that numbers its types on after the library's, is
-- within the sizes with them, and meets the rules with them. No word of refusals, of places of faults or of the order of tests.
use Rattle.std.specs.Prelude.{ℕ, ◌≡◌, List, ◌++◌, length}
use Rattle.scope.specs.Lists.{joined}
use Rattle.scope.specs.Syntax.{Definition, Group}
use Rattle.scope.specs.Judging.{Joined}
use Rattle.facts_types.specs.AllowedTypes.{AllowedTypes}
use Rattle.facts_sections.specs.WithinSizes.{WithinSizes}
use Rattle.facts_sections.specs.Writing.{WritesSection}

-- of one section after so many types: these bytes are a writing of these groups, and they are within the sizes
pub record Section (first : ℕ) (s : List ℕ) (gs : List Group) : Type 0 where
  pub writing : WritesSection first s gs
  pub sizes : WithinSizes first s gs

-- of a library: these bytes are a writing of these types. The add-on is not looked at, so no number of it is in reach.
pub record LibraryAllowed (library : List ℕ) (ls : List Definition) : Type 0 where
  pub groups : List Group
  pub section : Section 0 library groups
  -- the definitions of its groups, one group after the other
  pub types : joined groups ≡ ls
  pub rules : AllowedTypes ls

-- of a library and an add-on's section: these bytes are writings of these types, the library's first
pub record Allowed (library addon : List ℕ) (j : Joined) : Type 0 where
  pub shared : List Definition
  pub library_allowed : LibraryAllowed library shared
  pub groups : List Group
  pub section : Section (length shared) addon groups
  pub joins : record { before = length shared; types = shared ++ joined groups } ≡ j
  pub rules : AllowedTypes j.types
