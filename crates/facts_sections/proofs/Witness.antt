-- An allowed section with something of everything: fields of both mutabilities, functions, exact types, both clauses, supertypes of
-- structs and of functions. Its types are written out; the verdict is computed, and the theorem says that they are allowed.
use Prim.Native.Nat.{ℕ}
use mathlib.Core.Path.{◌≡◌, refl}
use mathlib.Core.Bool.{true, false}
use mathlib.Core.Option.{none, some}
use mathlib.Core.List.{List, [], ◌∷◌, ◌++◌}
use Rattle.scope.specs.Sections.{empty_library}
use Rattle.scope.specs.Abstract.{STRUCT}
use Rattle.scope.specs.Syntax.{abstract, defined, exact, i32, Val, num, nullable, non_null, Field, struct, func, Definition}
use Rattle.scope.specs.Judging.{accepted, Joined, judge_joined}
use Rattle.scope.proofs.Computes.{computes}
use Rattle.facts_sections.specs.Allowed.{Allowed}
use Rattle.facts_sections.proofs.Exactly.{accepted_exactly}

abbrev fixed : Val → Field
fixed v = record { holds = v; mutable = false }

abbrev changing : Val → Field
changing v = record { holds = v; mutable = true }

abbrev pub many_types : List ℕ
many_types =
    -- four groups, the first of four types
    (0x04 ∷ 0x4E ∷ 0x04 ∷ [])
    ++ (0x50 ∷ 0x00 ∷ 0x4D ∷ 0x01 ∷ 0x5F ∷ 0x02 ∷ 0x7F ∷ 0x00 ∷ 0x63 ∷ 0x02 ∷ 0x01 ∷ [])
    ++ (0x50 ∷ 0x00 ∷ 0x4C ∷ 0x00 ∷ 0x5F ∷ 0x00 ∷ [])
    ++ (0x50 ∷ 0x01 ∷ 0x00 ∷ 0x4D ∷ 0x03 ∷ 0x5F ∷ 0x03 ∷ 0x7F ∷ 0x00 ∷ 0x63 ∷ 0x02 ∷ 0x01 ∷ 0x64 ∷ 0x62 ∷ 0x00 ∷ 0x00 ∷ [])
    ++ (0x50 ∷ 0x01 ∷ 0x01 ∷ 0x4C ∷ 0x02 ∷ 0x5F ∷ 0x00 ∷ [])
    ++ (0x50 ∷ 0x00 ∷ 0x60 ∷ 0x01 ∷ 0x63 ∷ 0x02 ∷ 0x01 ∷ 0x64 ∷ 0x00 ∷ [])
    ++ (0x4F ∷ 0x01 ∷ 0x04 ∷ 0x60 ∷ 0x01 ∷ 0x6B ∷ 0x01 ∷ 0x64 ∷ 0x62 ∷ 0x02 ∷ [])
    ++ (0x60 ∷ 0x00 ∷ 0x00 ∷ [])

abbrev pub many_definitions : List Definition
many_definitions =
    -- open, descriptor 1: a fixed i32 and a mutable (ref null 2)
    record { is_open = true; supers = []; describes = none; descriptor = some 1; form = struct (fixed (num i32) ∷ changing (nullable (defined 2)) ∷ []); from = 3; to = 14; reach = 4 }
    -- open, describes 0
    ∷ record { is_open = true; supers = []; describes = some 0; descriptor = none; form = struct []; from = 14; to = 20; reach = 4 }
    -- below 0, descriptor 3: one field more, a fixed (ref (exact 0))
    ∷ record { is_open = true; supers = 0 ∷ []; describes = none; descriptor = some 3; form = struct (fixed (num i32) ∷ changing (nullable (defined 2)) ∷ fixed (non_null (exact 0)) ∷ []); from = 20; to = 36; reach = 4 }
    -- below 1, describes 2
    ∷ record { is_open = true; supers = 1 ∷ []; describes = some 2; descriptor = none; form = struct []; from = 36; to = 43; reach = 4 }
    -- an open function from (ref null 2) to (ref 0)
    ∷ record { is_open = true; supers = []; describes = none; descriptor = none; form = func (nullable (defined 2) ∷ []) (non_null (defined 0) ∷ []); from = 43; to = 52; reach = 5 }
    -- below it: from (ref null struct) to (ref (exact 2))
    ∷ record { is_open = false; supers = 4 ∷ []; describes = none; descriptor = none; form = func (nullable (abstract STRUCT) ∷ []) (non_null (exact 2) ∷ []); from = 52; to = 62; reach = 6 }
    -- neither open nor final with a list: a function of nothing
    ∷ record { is_open = false; supers = []; describes = none; descriptor = none; form = func [] []; from = 62; to = 65; reach = 7 }
    ∷ []

abbrev pub many_joined : Joined
many_joined = record { before = 0; types = many_definitions }

many_accepted : judge_joined empty_library many_types ≡ accepted many_joined
unfolding computes
many_accepted = refl

pub many_allowed : Allowed empty_library many_types many_joined
many_allowed = (accepted_exactly empty_library many_types many_joined).0 many_accepted
