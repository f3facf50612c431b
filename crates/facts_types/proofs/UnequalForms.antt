-- Why FirstFault.antt of facts_sections asks rule 2 by each type's own form. In this section type 3, a function, stands below type 0, a
-- struct, and type 2 has a field of type 3 where its supertype has one of struct. By the order's relation type 3 is below
-- struct, by way of type 0; so type 2 keeps rule 2 and only type 3 breaks it. By its own form type 3 is not: 8 of type 2.
use Prim.Native.Nat.{ℕ}
use mathlib.Core.Path.{◌≡◌, refl}
use mathlib.Core.Option.{some}
use mathlib.Core.List.{List, [], ◌∷◌}
use Rattle.scope.specs.Refusals.{no_match}
use Rattle.scope.specs.Order.{heaps, transitive, supertype, kind}
use Rattle.scope.specs.Lists.{joined}
use Rattle.scope.specs.Reading.{Read, got, refused}
use Rattle.scope.specs.Syntax.{Val, Field, struct, func, Group, Types, types_of}
use Rattle.scope.specs.Sections.{read_after, empty_library}
use Rattle.scope.specs.Judging.{plain, rejected, judge_joined}
use Rattle.scope.proofs.Computes.{computes}
use Rattle.facts_types.specs.TypeRelations.{Matches, structs, one_and_more, any_more, fixed_subtype, FormMatches}

abbrev function_below_struct : List ℕ
function_below_struct =
    0x01 ∷ 0x4E ∷ 0x04 ∷ 0x50 ∷ 0x00 ∷ 0x5F ∷ 0x00 ∷ 0x50 ∷ 0x00 ∷ 0x5F ∷ 0x01 ∷ 0x6B ∷ 0x00 ∷ 0x4F ∷ 0x01 ∷ 0x01 ∷ 0x5F ∷ 0x01 ∷ 0x63 ∷ 0x03 ∷ 0x00 ∷ 0x4F ∷ 0x01 ∷ 0x00 ∷ 0x60 ∷ 0x00 ∷ 0x00 ∷ []

abbrev types_read : Read (List Group) → Types
types_read (got gs end) = types_of (joined gs)
types_read (refused n p) = types_of []

pub said_of_type_2 : judge_joined empty_library function_below_struct ≡ rejected no_match (plain 2)
unfolding computes
said_of_type_2 = refl

pub type_2_matches : Matches (types_read (read_after 0 function_below_struct)) 2
unfolding computes
type_2_matches = record { matched = λ {p} e. go p e }
  where
    go : (p : ℕ) → some 1 ≡ some p → FormMatches (types_read (read_after 0 function_below_struct)) (types_read (read_after 0 function_below_struct) 2).form (types_read (read_after 0 function_below_struct) p).form
    go p e = let q : 1 ≡ p = cc in rw (← q) (structs (one_and_more (fixed_subtype (heaps (transitive (supertype {y = 0} refl) (kind refl)))) any_more))

function_is_no_struct : {ts : Types} {ps rs : List Val} {fs : List Field} → FormMatches ts (func ps rs) (struct fs) → ⊥
function_is_no_struct m = elim m [ ]

pub type_3_does_not : Matches (types_read (read_after 0 function_below_struct)) 3 → ⊥
unfolding computes
type_3_does_not m = function_is_no_struct (m.matched {p = 0} refl)
