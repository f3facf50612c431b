-- The laws of specs/Libraries.antt at pairs that meet their premises. The verdicts are computed, but for those of 32,769 bytes.
use Prim.Native.Nat.{ℕ, ◌+◌, ◌<◌, ◌≤◌}
use native.Mathlib.Omega.{arith}
use mathlib.Core.Path.{◌≡◌, refl}
use mathlib.Core.Bool.{false}
use mathlib.Core.Option.{none}
use mathlib.Core.List.{List, [], ◌∷◌}
use lib.ListN.{length, replicate, length-replicate}
use Rattle.scope.specs.Sizes.{most_bytes, most_types}
use Rattle.scope.specs.Refusals.{not_listed, oversize, out_of_reach, clause_not_on_struct}
use Rattle.scope.specs.Reading.{got}
use Rattle.scope.specs.Lists.{joined}
use Rattle.scope.specs.Syntax.{defined, nullable, struct, Definition, Group, types_of}
use Rattle.scope.specs.Sections.{read_after}
use Rattle.scope.specs.Judging.{in_library, in_addon, plain, accepted, rejected, and_then, links_fault, rule_fault, scan, judge_types, judge_library, Joined, judge_joined}
use Rattle.scope.proofs.Computes.{computes}
use Rattle.facts_types.specs.TypeRelations.{of_defined, of_holds, this_names, in_field, Names, in_form}
use Rattle.facts_types.specs.Chains.{ShortChain}
use Rattle.facts_types.specs.AllowedTypes.{AllowedTypes}
use Rattle.facts_types.proofs.Reaches.{read_skips_library}
use Rattle.facts_sections.proofs.SectionReading.{section_found}
use Rattle.facts_sections.proofs.Verdict.{accepted_allowed}
use Rattle.facts_sections.proofs.Libraries.{library_laws}

-- the library's byte fault comes before the add-on's, and before the add-on's size

abbrev unlisted : List ℕ
unlisted = 0x01 ∷ 0x7B ∷ []

abbrev large : List ℕ
large = replicate (most_bytes + 1) 0x00

large-bytes : most_bytes < length large
large-bytes = let long = length-replicate {A = ℕ} (most_bytes + 1) 0x00 in omega arith

library_unlisted : judge_library unlisted ≡ rejected not_listed (in_library 1)
unfolding computes
library_unlisted = refl

pub library_before_addon : judge_joined unlisted unlisted ≡ rejected not_listed (in_library 1)
library_before_addon = library_laws.first unlisted unlisted not_listed (in_library 1) library_unlisted

pub library_before_size : judge_joined unlisted large ≡ rejected not_listed (in_library 1)
library_before_size = library_laws.first unlisted large not_listed (in_library 1) library_unlisted

-- and so do its rules

abbrev clause_on_function : List ℕ
clause_on_function = 0x01 ∷ 0x4C ∷ 0x00 ∷ 0x60 ∷ 0x00 ∷ 0x00 ∷ []

library_clause : judge_library clause_on_function ≡ rejected clause_not_on_struct (plain 0)
unfolding computes
library_clause = refl

pub rules_before_size : judge_joined clause_on_function large ≡ rejected clause_not_on_struct (plain 0)
rules_before_size = library_laws.first clause_on_function large clause_not_on_struct (plain 0) library_clause

pub large_library : judge_joined large unlisted ≡ rejected oversize (in_library 0)
large_library = library_laws.library_size large unlisted large-bytes

pub its_own_no : judge_library unlisted ≡ rejected not_listed (in_library 1)
its_own_no = library_laws.own unlisted unlisted not_listed 1 library_before_addon

-- after the library's yes: the add-on's size, its bytes, and the rules at the number of a type of the add-on's

abbrev one_struct : List ℕ
one_struct = 0x01 ∷ 0x5F ∷ 0x00 ∷ []

abbrev one_type : List Definition
one_type = record { is_open = false; supers = []; describes = none; descriptor = none; form = struct []; from = 1; to = 3; reach = 1 } ∷ []

one_accepted : judge_library one_struct ≡ accepted one_type
unfolding computes
one_accepted = refl

pub large_addon : judge_joined one_struct large ≡ rejected oversize (in_addon 0)
large_addon = library_laws.addon_size one_struct large one_type one_accepted large-bytes

addon_unlisted : judge_joined one_struct unlisted ≡ rejected not_listed (in_addon 1)
unfolding computes
addon_unlisted = refl

pub yes_before : (ls : List Definition) × (judge_library one_struct ≡ accepted ls)
yes_before = library_laws.after one_struct unlisted not_listed 1 addon_unlisted

addon_clause : judge_joined one_struct clause_on_function ≡ rejected clause_not_on_struct (plain 1)
unfolding computes
addon_clause = refl

pub addons_number : 1 ≤ 1
addons_number = library_laws.second one_struct clause_on_function one_type clause_not_on_struct 1 one_accepted addon_clause

-- an accepted pair: the library's type names itself, and the add-on's names the library's

abbrev names_first : List ℕ
names_first = 0x01 ∷ 0x5F ∷ 0x01 ∷ 0x63 ∷ 0x00 ∷ 0x00 ∷ []

abbrev names_first_at : ℕ → Definition
names_first_at reach = record { is_open = false; supers = []; describes = none; descriptor = none; form = struct (record { holds = nullable (defined 0); mutable = false } ∷ []); from = 1; to = 6; reach = reach }

abbrev twice : Joined
twice = record { before = 1; types = names_first_at 1 ∷ names_first_at 2 ∷ [] }

twice_accepted : judge_joined names_first names_first ≡ accepted twice
unfolding computes
twice_accepted = refl

names-itself : Names (names_first_at 1) 0
names-itself = in_form (in_field (this_names (of_holds of_defined)))

pub its_own_types : judge_library names_first ≡ accepted (names_first_at 1 ∷ [])
its_own_types = library_laws.head names_first names_first twice twice_accepted

pub both-within : 2 ≤ most_types
both-within = library_laws.together names_first names_first twice twice_accepted

pub both_short : ShortChain (types_of twice.types) 1
both_short = library_laws.chains names_first names_first twice 1 twice_accepted (omega arith)

pub names_its_own : 0 < 1
names_its_own = library_laws.unmentioned names_first names_first twice 0 0 twice_accepted (omega arith) names-itself

-- and without the add-on it is allowed too

abbrev one_group : List Group
one_group = (names_first_at 1 ∷ []) ∷ []

first_read : read_after 0 names_first ≡ got one_group 6
unfolding computes
first_read = refl

pub allowed_alone : AllowedTypes (names_first_at 1 ∷ [])
allowed_alone =
    library_laws.alone names_first one_group (names_first_at 2 ∷ []) (section_found 0 (omega arith) names_first first_read).section (accepted_allowed names_first names_first twice twice_accepted).rules

-- the joined list is judged from the add-on's first type on

first-judged : judge_types (types_of (joined one_group)) 1 ≡ accepted 1
unfolding computes
first-judged = refl

pub judged_from_the_addon : judge_types (types_of twice.types) 2 ≡ and_then (scan (links_fault (types_of twice.types)) 1 1) (λ all. scan (rule_fault (types_of twice.types)) 1 1)
judged_from_the_addon = read_skips_library names_first one_group (names_first_at 2 ∷ []) first_read first-judged

-- "The library may not mention the add-on's numbers": with a 1 in place of the 0 it is refused, though the add-on has a type 1

abbrev names_second : List ℕ
names_second = 0x01 ∷ 0x5F ∷ 0x01 ∷ 0x63 ∷ 0x01 ∷ 0x00 ∷ []

pub mentioned_refused : judge_joined names_second one_struct ≡ rejected out_of_reach (plain 0)
unfolding computes
mentioned_refused = refl
