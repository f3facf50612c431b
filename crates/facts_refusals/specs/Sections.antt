-- What the no to a library and a section says. "A section's byte faults (1 to 5) come before its rules", and 32 of request 10 of document 02 with
-- them. "Places are byte offsets; a missing byte lies at the input's length. .. a type number is that of the type at fault."
use Rattle.std.specs.Prelude.{ℕ, ◌≤◌, ◌<◌, ◌≡◌, ◌↔◌, List, ◌++◌, length}
use Rattle.scope.specs.Lists.{joined}
use Rattle.scope.specs.Reading.{refused}
use Rattle.scope.specs.declared.Place.{Place}
use Rattle.scope.specs.declared.Place
use Rattle.scope.specs.Sizes.{most_types}
use Rattle.scope.specs.Syntax.{Definition, Group, types_of}
use Rattle.scope.specs.Sections.{read_after}
use Rattle.scope.specs.Judging.{rejected, judge_joined}
use Rattle.facts_sections.specs.Allowed.{Section, LibraryAllowed}
use Rattle.facts_sections.specs.FirstFault.{FirstFault}
use Rattle.facts_refusals.specs.Numbers.{ByteFault, RuleFault}

-- after so many types no list of groups within the sizes has these bytes as its writing
abbrev pub Unwritten : ℕ → List ℕ → Type 0
Unwritten first s = (gs : List Group) → Section first s gs → ⊥

-- the bytes are refused
abbrev pub BytesRefused : ℕ → List ℕ → Type 0
BytesRefused first s = (number : ℕ) × (place : ℕ) × (read_after first s ≡ refused number place)

-- Why a library and a section are refused. The library's bytes write nothing, and the fault is one of 1 to 5 or 32 at a byte of it or
-- at its length; or they write types, and the fault is the first of their rules, at the number of one of these types. Or the library
-- is allowed and the same is so of the add-on's bytes after it; or of the rules of the joined list, at the number of one of the add-on's
-- types.
pub data SaysNo (library addon : List ℕ) (number : ℕ) : Place → Type 1 where
  of_library_bytes : {p : ℕ} → Unwritten 0 library → ByteFault number → p ≤ length library → SaysNo library addon number (Place.TheVariants.Library p)
  of_library_rules : {gs : List Group} {x : ℕ} → Section 0 library gs → FirstFault (types_of (joined gs)) (length (joined gs)) number x
      → RuleFault number → x < length (joined gs) → SaysNo library addon number (Place.TheVariants.Plain x)
  of_bytes : {ls : List Definition} {p : ℕ} → LibraryAllowed library ls → Unwritten (length ls) addon → ByteFault number → p ≤ length addon
      → SaysNo library addon number (Place.TheVariants.Addon p)
  of_rules : {ls : List Definition} {gs : List Group} {x : ℕ} → LibraryAllowed library ls → Section (length ls) addon gs
      → FirstFault (types_of (ls ++ joined gs)) (length (ls ++ joined gs)) number x
      → RuleFault number → length ls ≤ x → x < length (ls ++ joined gs) → SaysNo library addon number (Place.TheVariants.Plain x)

pub record SectionRefusals : Type 1 where
  -- refused for bytes exactly when no list within the sizes has these bytes as its writing
  pub unwritten : (first : ℕ) → first ≤ most_types → (s : List ℕ) → BytesRefused first s ↔ Unwritten first s
  -- "byte faults (1 to 5)" and 32; the place lies inside the input or at its length
  pub byte_faults : (first : ℕ) (s : List ℕ) (number place : ℕ) → read_after first s ≡ refused number place → ByteFault number × (place ≤ length s)
  pub says_no : (library addon : List ℕ) (number : ℕ) (place : Place) → judge_joined library addon ≡ rejected number place → SaysNo library addon number place
