-- Two tables for the order of heap types. A section with a supertype is accepted, so a table that passes does exist. And
-- equal forms are needed: a function type below a struct type keeps refusals 6, 7 and the chain's 4, the relation puts it
-- below struct by way of its supertype, and the test, which asks its own kind, says no. Refusal 8 is what shuts it out.
use Prim.Native.Nat.{ℕ}
use mathlib.Core.Path.{◌≡◌, refl}
use mathlib.Core.Bool.{true, false}
use mathlib.Core.Option.{none, some}
use mathlib.Core.List.{List, [], ◌∷◌}
use Rattle.scope.specs.Sections.{empty_library}
use Rattle.scope.specs.Refusals.{no_match}
use Rattle.scope.specs.Abstract.{STRUCT}
use Rattle.scope.specs.Syntax.{abstract, defined, struct, func, Definition, types_of, super_of}
use Rattle.scope.specs.Order.{HeapOrder, supertype, kind, transitive, heap_below}
use Rattle.scope.specs.Judging.{Judged, accepted, rejected, links_fault, judge_types, Joined, judge_joined, plain}
use Rattle.scope.proofs.Computes.{computes}
use Rattle.scope.proofs.Accepted.{Passes, accepted_passes}

abbrev joined_of : Judged Joined → Joined
joined_of (accepted j) = j
joined_of (rejected n p) = record { before = 0; types = [] }

-- document 01's example of 3 types: type 1 is below type 0, and type 2 is its descriptor
abbrev three_types : List ℕ
three_types = 0x02 ∷ 0x50 ∷ 0x00 ∷ 0x5F ∷ 0x00 ∷ 0x4E ∷ 0x02 ∷ 0x4F ∷ 0x01 ∷ 0x00 ∷ 0x4D ∷ 0x02 ∷ 0x5F ∷ 0x00 ∷ 0x4C ∷ 0x01 ∷ 0x5F ∷ 0x00 ∷ []

pub three_accepted : judge_joined empty_library three_types ≡ accepted (joined_of (judge_joined empty_library three_types))
unfolding computes
three_accepted = refl

pub three_pass : Passes (joined_of (judge_joined empty_library three_types)).types
three_pass = accepted_passes empty_library three_types three_accepted

pub one-below-zero : super_of (types_of (joined_of (judge_joined empty_library three_types)).types 1) ≡ some 0
unfolding computes
one-below-zero = refl

-- an open struct, and a function type below it
abbrev unequal_forms : List Definition
unequal_forms =
    record { is_open = true; supers = []; describes = none; descriptor = none; form = struct []; from = 1; to = 5; reach = 1 }
    ∷ record { is_open = false; supers = 0 ∷ []; describes = none; descriptor = none; form = func [] []; from = 5; to = 11; reach = 2 }
    ∷ []

pub keeps_links : (links_fault (types_of unequal_forms) 0 ≡ none) × (links_fault (types_of unequal_forms) 1 ≡ none)
unfolding computes
keeps_links = (refl, refl)

pub relation_holds : HeapOrder (types_of unequal_forms) (defined 1) (abstract STRUCT)
relation_holds = transitive (supertype {y = 0} refl) (kind refl)

pub test_says_no : heap_below (types_of unequal_forms) (defined 1) (abstract STRUCT) ≡ false
unfolding computes
test_says_no = refl

pub refused_by_rule_2 : judge_types (types_of unequal_forms) 2 ≡ rejected no_match (plain 1)
unfolding computes
refused_by_rule_2 = refl
