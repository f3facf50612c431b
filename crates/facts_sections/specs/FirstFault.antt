-- Which fault of the rules is the first, in document 01's order: "type by type, 6, 7 and the chain; then, type by
-- type again, 8 to 13 in rising number." The rules are the relations, each with the number that is said where it is
-- broken. Rule 2 is asked by each type's own form (OwnForms.antt of facts_types): the order of rule 6 says the same only of a table
-- whose forms are equal along supertypes, and a fault may be said before that is known.
use Rattle.std.specs.Prelude.{ℕ, ◌<◌, ◌≡◌, List, [], ◌∷◌, ◌++◌, length}
use Rattle.scope.specs.Lists.{joined}
use Rattle.scope.specs.Reading.{refused}
use Rattle.scope.specs.Refusals.{oversize, out_of_reach, bad_supertype, no_match, clause_not_on_struct, describes_not_earlier, clauses_disagree, bad_descriptor, bad_describes}
use Rattle.scope.specs.declared.Place.{Place}
use Rattle.scope.specs.declared.Place
use Rattle.scope.specs.Syntax.{Definition, Group, Types, types_of}
use Rattle.scope.specs.Sections.{read_after}
use Rattle.facts_types.specs.TypeRelations.{InReach, SupertypesOf, OnStruct, DescribesEarlier, ClausesAgree, Descriptors, Described}
use Rattle.facts_types.specs.Chains.{ShortChain}
use Rattle.facts_types.specs.OwnForms.{OwnMatches}
use Rattle.facts_sections.specs.Allowed.{Section, LibraryAllowed}

-- what a rule says, and the number of its refusal
pub record Rule : Type 1 where
  pub says : Type 0
  pub number : ℕ

pub data AllKept : List Rule → Type 1 where
  all_kept : AllKept []
  kept_and : {r : Rule} {more : List Rule} → r.says → AllKept more → AllKept (r ∷ more)

-- the first rule that is broken: those before it are kept
pub data FirstBroken : List Rule → ℕ → Type 1 where
  broken : {r : Rule} {more : List Rule} → ¬ r.says → FirstBroken (r ∷ more) r.number
  kept_then : {r : Rule} {more : List Rule} {n : ℕ} → r.says → FirstBroken more n → FirstBroken (r ∷ more) n

-- 6, 7 and the chain
abbrev pub link_rules : Types → ℕ → List Rule
link_rules ts x =
    record { says = InReach (ts x); number = out_of_reach }
    ∷ record { says = SupertypesOf ts x (ts x).supers; number = bad_supertype }
    ∷ record { says = ShortChain ts x; number = oversize }
    ∷ []

-- 8 to 13 in rising number
abbrev pub type_rules : Types → ℕ → List Rule
type_rules ts x =
    record { says = OwnMatches ts x; number = no_match }
    ∷ record { says = OnStruct ts x; number = clause_not_on_struct }
    ∷ record { says = DescribesEarlier ts x; number = describes_not_earlier }
    ∷ record { says = ClausesAgree ts x; number = clauses_disagree }
    ∷ record { says = Descriptors ts x; number = bad_descriptor }
    ∷ record { says = Described ts x; number = bad_describes }
    ∷ []

-- type by type: the first type that breaks one of its rules, and the number of the first of them that it breaks
pub record FirstAmong (rules : ℕ → List Rule) (n number place : ℕ) : Type 1 where
  pub inside : place < n
  pub earlier : (y : ℕ) → y < place → AllKept (rules y)
  pub here : FirstBroken (rules place) number

-- all of the first kind before any of the second
pub data FirstFault (ts : Types) (n number place : ℕ) : Type 1 where
  in_links : FirstAmong (link_rules ts) n number place → FirstFault ts n number place
  in_rules : ((y : ℕ) → y < n → AllKept (link_rules ts y)) → FirstAmong (type_rules ts) n number place → FirstFault ts n number place

-- a library is refused for its bytes, at a place in the library, or, where these are a writing within the sizes, for the first fault of
-- its rules, at the number of a type
pub data LibraryRefused (library : List ℕ) (number : ℕ) : Place → Type 1 where
  library_bytes : {p : ℕ} → read_after 0 library ≡ refused number p → LibraryRefused library number (Place.TheVariants.Library p)
  library_rules : {gs : List Group} {x : ℕ} → Section 0 library gs → FirstFault (types_of (joined gs)) (length (joined gs)) number x → LibraryRefused library number (Place.TheVariants.Plain x)

-- "All the library's faults, rules included, come .. before any of the add-on's": the add-on is refused only after a library that is
-- allowed, for its own bytes, at a place in its own input, or for the first fault of the rules of the joined list
pub data Refused (library addon : List ℕ) (number : ℕ) : Place → Type 1 where
  by_library : {p : Place} → LibraryRefused library number p → Refused library addon number p
  by_bytes : {ls : List Definition} {p : ℕ} → LibraryAllowed library ls → read_after (length ls) addon ≡ refused number p → Refused library addon number (Place.TheVariants.Addon p)
  by_rules : {ls : List Definition} {gs : List Group} {x : ℕ} → LibraryAllowed library ls → Section (length ls) addon gs
      → FirstFault (types_of (ls ++ joined gs)) (length (ls ++ joined gs)) number x → Refused library addon number (Place.TheVariants.Plain x)
