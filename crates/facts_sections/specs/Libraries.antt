-- Request 5 of document 02, as laws of the verdict on a library and an add-on's section.
use Rattle.std.specs.Prelude.{ℕ, ◌<◌, ◌≤◌, ◌≡◌, List, ◌++◌, length, take}
use Rattle.scope.specs.declared.Place.{Place}
use Rattle.scope.specs.Sizes.{most_bytes, most_types}
use Rattle.scope.specs.Refusals.{oversize}
use Rattle.scope.specs.Lists.{joined}
use Rattle.scope.specs.Syntax.{Definition, Group, types_of}
use Rattle.scope.specs.Judging.{in_library, in_addon, plain, accepted, rejected, judge_library, Joined, judge_joined}
use Rattle.facts_types.specs.TypeRelations.{Names}
use Rattle.facts_types.specs.Chains.{ShortChain}
use Rattle.facts_types.specs.AllowedTypes.{AllowedTypes}
use Rattle.facts_sections.specs.Allowed.{Section}

pub record LibraryLaws : Type 0 where
  -- "all the library's faults, rules included, come .. before any of the add-on's": its no is the answer, whatever the add-on is
  pub first : (library addon : List ℕ) (n : ℕ) (p : Place) → judge_library library ≡ rejected n p → judge_joined library addon ≡ rejected n p
  -- the whole size of each before its bytes: the library's before all else, the add-on's after the library's yes
  pub library_size : (library addon : List ℕ) → most_bytes < length library → judge_joined library addon ≡ rejected oversize (in_library 0)
  pub addon_size : (library addon : List ℕ) (ls : List Definition) → judge_library library ≡ accepted ls → most_bytes < length addon → judge_joined library addon ≡ rejected oversize (in_addon 0)
  -- "the answer says in which": a place in the library is the library's own no; a place in the add-on comes after the library's yes
  pub own : (library addon : List ℕ) (n p : ℕ) → judge_joined library addon ≡ rejected n (in_library p) → judge_library library ≡ rejected n (in_library p)
  pub after : (library addon : List ℕ) (n p : ℕ) → judge_joined library addon ≡ rejected n (in_addon p) → (ls : List Definition) × (judge_library library ≡ accepted ls)
  -- after the library's yes a type at fault is the add-on's
  pub second : (library addon : List ℕ) (ls : List Definition) (n x : ℕ) → judge_library library ≡ accepted ls → judge_joined library addon ≡ rejected n (plain x) → length ls ≤ x
  -- "the add-on's own numbers run on after it": an accepted pair begins with the library's own types
  pub head : (library addon : List ℕ) (j : Joined) → judge_joined library addon ≡ accepted j → judge_library library ≡ accepted (take j.before j.types)
  -- "1,024 for both together", and 63 steps up a supertype chain, from the one section's types into the other's
  pub together : (library addon : List ℕ) (j : Joined) → judge_joined library addon ≡ accepted j → length j.types ≤ most_types
  pub chains : (library addon : List ℕ) (j : Joined) (x : ℕ) → judge_joined library addon ≡ accepted j → x < length j.types → ShortChain (types_of j.types) x
  -- "The library may not mention the add-on's numbers."
  pub unmentioned : (library addon : List ℕ) (j : Joined) (x y : ℕ) → judge_joined library addon ≡ accepted j → x < j.before → Names (types_of j.types x) y → y < j.before
  -- a library that keeps the rules with an add-on keeps them without: to be judged by itself costs it no yes
  pub alone : (library : List ℕ) (gs : List Group) (more : List Definition) → Section 0 library gs → AllowedTypes (joined gs ++ more) → AllowedTypes (joined gs)
