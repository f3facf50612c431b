-- Two lists of four types. In the first all are below type 0: 1 and 3 right below it, 2 below 1. In the second type 2 has no supertype,
-- and 3 is below 1.
use Rattle.std.specs.Prelude.{ℕ, true, List, [], ◌∷◌}
use Rattle.std.proofs.Math.Option.{none}
use Rattle.scope.specs.Syntax.{Definition, struct}

abbrev type : List ℕ → Definition
type supers = record { is_open = true; supers = supers; describes = none; descriptor = none; form = struct []; from = 0; to = 0; reach = 4 }

-- 1 below 0, 2 below 1, 3 below 0
abbrev pub a_family : List Definition
a_family = type [] ∷ type (0 ∷ []) ∷ type (1 ∷ []) ∷ type (0 ∷ []) ∷ []

-- 1 below 0, 2 alone, 3 below 1
abbrev pub with_a_stranger : List Definition
with_a_stranger = type [] ∷ type (0 ∷ []) ∷ type [] ∷ type (1 ∷ []) ∷ []
