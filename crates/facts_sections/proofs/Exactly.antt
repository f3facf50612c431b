-- Demand 2 for sections: the verdict on a library and an add-on's section is yes exactly when the bytes of each are the writing of
-- some syntax, and both together are within the sizes and meet type rules 1 to 6. specs/Allowed.antt says what that is; proofs/Verdict.antt proves both
-- ways. proofs/FaultOrder.antt says the same of no: the first fault in document 01's order.
use Prim.Native.Nat.{ℕ}
use mathlib.Core.Path.{◌≡◌, refl}
use mathlib.Core.Logic.{◌↔◌}
use mathlib.Core.Bool.{true, false}
use mathlib.Core.Option.{none, some}
use mathlib.Core.List.{List, [], ◌∷◌}
use Rattle.scope.specs.Sections.{empty_library}
use Rattle.scope.specs.Refusals.{clause_not_on_struct}
use Rattle.scope.specs.Syntax.{struct, Definition}
use Rattle.scope.specs.Judging.{plain, accepted, rejected, judge_library, Joined, judge_joined}
use Rattle.scope.proofs.Computes.{computes}
use Rattle.scope.proofs.Impossible.{contradiction}
use Rattle.facts_sections.specs.Allowed.{LibraryAllowed, Allowed}
use Rattle.facts_sections.proofs.Verdict.{library_allowed_lem, allowed_library, accepted_allowed, allowed_accepted}

-- The theorem

pub library_exactly : (library : List ℕ) (ls : List Definition) → (judge_library library ≡ accepted ls) ↔ LibraryAllowed library ls
library_exactly library ls = (library_allowed_lem library ls, allowed_library)

pub accepted_exactly : (library addon : List ℕ) (j : Joined) → (judge_joined library addon ≡ accepted j) ↔ Allowed library addon j
accepted_exactly library addon j = (accepted_allowed library addon j, allowed_accepted)

pub yes_exactly : (library addon : List ℕ) → ((j : Joined) × (judge_joined library addon ≡ accepted j)) ↔ ((j : Joined) × Allowed library addon j)
yes_exactly library addon = (λ y. (y.0, accepted_allowed library addon y.0 y.1), λ a. (a.0, allowed_accepted a.1))

-- bytes are a writing of one list of types at most
pub one_meaning : {library addon : List ℕ} (j k : Joined) → Allowed library addon j → Allowed library addon k → j ≡ k
one_meaning {library} {addon} j k a b = let p = allowed_accepted a in let q = allowed_accepted b in cc

-- Examples: document 01's section of 3 types is allowed, and these are its types; a clause on a function is not

abbrev three_types : List ℕ
three_types = 0x02 ∷ 0x50 ∷ 0x00 ∷ 0x5F ∷ 0x00 ∷ 0x4E ∷ 0x02 ∷ 0x4F ∷ 0x01 ∷ 0x00 ∷ 0x4D ∷ 0x02 ∷ 0x5F ∷ 0x00 ∷ 0x4C ∷ 0x01 ∷ 0x5F ∷ 0x00 ∷ []

abbrev three_definitions : List Definition
three_definitions =
    record { is_open = true; supers = []; describes = none; descriptor = none; form = struct []; from = 1; to = 5; reach = 1 }
    ∷ record { is_open = false; supers = 0 ∷ []; describes = none; descriptor = some 2; form = struct []; from = 7; to = 14; reach = 3 }
    ∷ record { is_open = false; supers = []; describes = some 1; descriptor = none; form = struct []; from = 14; to = 18; reach = 3 }
    ∷ []

abbrev three_joined : Joined
three_joined = record { before = 0; types = three_definitions }

three_accepted : judge_joined empty_library three_types ≡ accepted three_joined
unfolding computes
three_accepted = refl

pub three_allowed : Allowed empty_library three_types three_joined
three_allowed = (accepted_exactly empty_library three_types three_joined).0 three_accepted

abbrev clause_on_function : List ℕ
clause_on_function = 0x01 ∷ 0x4C ∷ 0x00 ∷ 0x60 ∷ 0x00 ∷ 0x00 ∷ []

function_refused : judge_joined empty_library clause_on_function ≡ rejected clause_not_on_struct (plain 0)
unfolding computes
function_refused = refl

pub function-not_allowed : (j : Joined) → Allowed empty_library clause_on_function j → ⊥
function-not_allowed j a =
    let yes-to-it = (accepted_exactly empty_library clause_on_function j).1 a in
    let no-to-it = function_refused in
    contradiction cc
