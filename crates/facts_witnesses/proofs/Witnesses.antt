-- The rules at the samples of specs/Samples.antt: where the verdict is yes the theorem gives the derivation, where it is no it says
-- that there is none. The verdicts are computed; numbers and places were worked out from document 01.
use Prim.Native.Nat.{ℕ}
use mathlib.Core.Path.{◌≡◌, refl, sym, ◌∙◌}
use mathlib.Core.Bool.{Bool, true, false, false≢true}
use mathlib.Core.List.{List, []}
use lib.ListN.{length}
use borrow.Author.Tests.{ltb-true}
use Rattle.scope.specs.Sections.{empty_library}
use Rattle.scope.specs.Abstract.{NOEXTERN, NONE, FUNC, ANY, EQ, I31, STRUCT}
use Rattle.scope.specs.Syntax.{Heap, abstract, defined, exact, Val, ref, nullable, non_null, Definition, types_of}
use Rattle.scope.specs.Order.{listed, supertype, heaps, nulls, chained}
use Rattle.scope.specs.declared.Place.{Place}
use Rattle.scope.specs.Judging.{plain, Judged, accepted, rejected, Joined, judge_joined}
use Rattle.scope.specs.BodyRules.{one_hierarchy}
use Rattle.scope.specs.Bodies.{Body, instructions, judge_body}
use Rattle.scope.proofs.Computes.{computes}
use Rattle.scope.proofs.Impossible.{contradiction}
use Rattle.facts_bodies.specs.Premises.{abstract_reached, defined_reached}
use Rattle.facts_bodies.specs.Apart.{ShareSupertype, OneHierarchy}
use Rattle.facts_bodies.specs.Typing.{AllowedBody}
use Rattle.facts_witnesses.specs.Samples.{W, every_kind, every_number, other_number, mixed_numbers, test_gives_no_other, forgotten, remembered, unwanted_descriptor, missing_descriptor, fixed_field, target_above, target_beside, other_hierarchy, label_without_types, values_left, no_default, number_as_reference, unknown_as_number, block_starts_empty, label_absent}
use Rattle.facts_bodies.proofs.Hierarchies.{tested_shares, matching_shares, shared_exactly_in_one_hierarchy, one_hierarchy_exactly_tested}
use Rattle.facts_bodies.proofs.Main.{accepted_exactly_when_allowed}

abbrev joined_of : Judged Joined → Joined
joined_of (accepted j) = j
joined_of (rejected n p) = record { before = 0; types = [] }

abbrev both : Joined
both = joined_of (judge_joined empty_library W)

abbrev types : List Definition
types = both.types

abbrev is_yes : {A : Type 0} → Judged A → Bool
is_yes (accepted x) = true
is_yes (rejected n p) = false

said-yes : {A : Type 0} (j : Judged A) → is_yes j ≡ true → (x : A) × (j ≡ accepted x)
said-yes (accepted x) e = (x, refl)
said-yes (rejected n p) e = absurd (false≢true e)

abbrev count_of : Judged Body → ℕ
count_of (accepted b) = instructions b
count_of (rejected n p) = 0

W-accepted : judge_joined empty_library W ≡ accepted both
unfolding computes
W-accepted = refl

derived : (s : List ℕ) → is_yes (judge_body empty_library W s 6) ≡ true → AllowedBody types 6 s
derived s e = (accepted_exactly_when_allowed empty_library W s 6 W-accepted).0 (said-yes _ e)

underivable : (s : List ℕ) {n : ℕ} {p : Place} → judge_body empty_library W s 6 ≡ rejected n p → ¬ AllowedBody types 6 s
underivable s e a =
    let (b, yes') = (accepted_exactly_when_allowed empty_library W s 6 W-accepted).1 a in
    contradiction cc

-- a yes: 87 instructions of every kind; 44 with numbers of every kind; a local that is set around a block; branching casts to a type above the source, and to one
-- beside it that may be null

pub every_kind_allowed : AllowedBody types 6 every_kind
unfolding computes
every_kind_allowed = derived every_kind refl

pub every_kind_counted : count_of (judge_body empty_library W every_kind 6) ≡ 87
unfolding computes
every_kind_counted = refl

pub every-number_allowed : AllowedBody types 6 every_number
unfolding computes
every-number_allowed = derived every_number refl

pub every-number-counted : count_of (judge_body empty_library W every_number 6) ≡ 44
unfolding computes
every-number-counted = refl

pub remembered_allowed : AllowedBody types 6 remembered
unfolding computes
remembered_allowed = derived remembered refl

pub target_above_allowed : AllowedBody types 6 target_above
unfolding computes
target_above_allowed = derived target_above refl

pub target_beside_allowed : AllowedBody types 6 target_beside
unfolding computes
target_beside_allowed = derived target_beside refl

-- a no

pub forgotten-not_allowed : ¬ AllowedBody types 6 forgotten
unfolding computes
forgotten-not_allowed = underivable forgotten {n = 22} {p = plain 25} refl

pub unwanted_descriptor_not_allowed : ¬ AllowedBody types 6 unwanted_descriptor
unfolding computes
unwanted_descriptor_not_allowed = underivable unwanted_descriptor {n = 23} {p = plain 1} refl

pub missing_descriptor_not_allowed : ¬ AllowedBody types 6 missing_descriptor
unfolding computes
missing_descriptor_not_allowed = underivable missing_descriptor {n = 23} {p = plain 1} refl

pub fixed_field_not_allowed : ¬ AllowedBody types 6 fixed_field
unfolding computes
fixed_field_not_allowed = underivable fixed_field {n = 24} {p = plain 5} refl

pub other_hierarchy_not_allowed : ¬ AllowedBody types 6 other_hierarchy
unfolding computes
other_hierarchy_not_allowed = underivable other_hierarchy {n = 25} {p = plain 5} refl

pub label_without_types-not_allowed : ¬ AllowedBody types 6 label_without_types
unfolding computes
label_without_types-not_allowed = underivable label_without_types {n = 25} {p = plain 5} refl

pub values-left-not_allowed : ¬ AllowedBody types 6 values_left
unfolding computes
values-left-not_allowed = underivable values_left {n = 28} {p = plain 3} refl

pub no_default_not_allowed : ¬ AllowedBody types 6 no_default
unfolding computes
no_default_not_allowed = underivable no_default {n = 29} {p = plain 4} refl

pub number_as_reference_not_allowed : ¬ AllowedBody types 6 number_as_reference
unfolding computes
number_as_reference_not_allowed = underivable number_as_reference {n = 20} {p = plain 3} refl

pub unknown_as_number-not_allowed : ¬ AllowedBody types 6 unknown_as_number
unfolding computes
unknown_as_number-not_allowed = underivable unknown_as_number {n = 20} {p = plain 3} refl

pub other_number-not_allowed : ¬ AllowedBody types 6 other_number
unfolding computes
other_number-not_allowed = underivable other_number {n = 20} {p = plain 4} refl

pub mixed_numbers-not_allowed : ¬ AllowedBody types 6 mixed_numbers
unfolding computes
mixed_numbers-not_allowed = underivable mixed_numbers {n = 20} {p = plain 15} refl

pub test-gives-no_other : ¬ AllowedBody types 6 test_gives_no_other
unfolding computes
test-gives-no_other = underivable test_gives_no_other {n = 20} {p = plain 4} refl

pub block_starts-empty-not_allowed : ¬ AllowedBody types 6 block_starts_empty
unfolding computes
block_starts-empty-not_allowed = underivable block_starts_empty {n = 20} {p = plain 5} refl

pub label_absent-not_allowed : ¬ AllowedBody types 6 label_absent
unfolding computes
label_absent-not_allowed = underivable label_absent {n = 21} {p = plain 1} refl

-- supertypes that types share

abbrev Share : Val → Val → Type 0
Share source target = ShareSupertype (length types) (types_of types) source target

-- struct and i31 share eq, whether they may be null or not
pub struct_and_i31_share : Share (nullable (abstract STRUCT)) (non_null (abstract I31))
struct_and_i31_share =
    record { null = true; heap = abstract EQ; valid = abstract_reached; above_source = heaps (listed refl); above_target = chained nulls (heaps (listed refl)) }

pub struct_and_i31_in_one_hierarchy : OneHierarchy (types_of types) (abstract STRUCT) (abstract I31)
struct_and_i31_in_one_hierarchy = (shared_exactly_in_one_hierarchy empty_library W W-accepted (abstract STRUCT) (abstract I31) true false).0 struct_and_i31_share

-- where the target matches the source, the source is shared: type 2 is below type 0
pub matching_share : Share (nullable (defined 0)) (nullable (defined 2))
unfolding computes
matching_share = matching_shares (defined_reached (ltb-true 0 (length types) refl)) (heaps (supertype refl))

-- by the tops: a type and one beside it; a bottom and an exact type
pub beside_share : Share (non_null (defined 2)) (nullable (defined 3))
unfolding computes
beside_share = tested_shares false true (defined 2) (defined 3) refl

pub bottom_shares : Share (nullable (abstract NONE)) (non_null (exact 0))
unfolding computes
bottom_shares = tested_shares true false (abstract NONE) (exact 0) refl

-- nothing is above both of two hierarchies
share_none : (h k : Heap) → one_hierarchy (types_of types) h k ≡ false → {n m : Bool} → ¬ Share (ref n h) (ref m k)
share_none h k e {n} {m} shared =
    let one = (shared_exactly_in_one_hierarchy empty_library W W-accepted h k n m).0 shared in
    false≢true (sym e ∙ (one_hierarchy_exactly_tested empty_library W W-accepted h k).0 one)

pub func_and_any_share_none : ¬ Share (nullable (abstract FUNC)) (nullable (abstract ANY))
func_and_any_share_none = share_none (abstract FUNC) (abstract ANY) refl

pub extern_and_any_share_none : ¬ Share (nullable (abstract NOEXTERN)) (nullable (abstract NONE))
extern_and_any_share_none = share_none (abstract NOEXTERN) (abstract NONE) refl

pub struct_and-function_share_none : ¬ Share (non_null (defined 0)) (non_null (exact 4))
unfolding computes
struct_and-function_share_none = share_none (defined 0) (exact 4) refl
