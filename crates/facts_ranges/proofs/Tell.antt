-- Steps up the chain are ways up the forest of supertypes, and of a forest the ranges tell who is below whom.
use Prim.Native.Nat.{ℕ, zero, suc, ◌+◌, ◌≤◌, ◌<◌}
use native.Mathlib.Omega.{arith}
use native.Mathlib.Numerals.{add-one}
use mathlib.Core.Path.{◌≡◌, refl, ap, ◌∙◌}
use mathlib.Core.Option.{Option, none, some}
use mathlib.Core.List.{List, [], ◌∷◌}
use lib.ListN.{length}
use Rattle.scope.specs.Syntax.{Definition, types_of, super_of, first_of}
use Rattle.scope.specs.Memory.{or_zero, parents, starts_of, ends_of}
use Rattle.scope.specs.Ranges.{base}
use Rattle.type_forest.specs.Forest.{Up, here, above, Lower, Sizes, Starts}
use Rattle.type_forest.proofs.Within.{up_within, within_is_up}
use Rattle.type_forest.proofs.Holds.{sizes_hold, starts_hold}
use Rattle.facts_types.specs.TypeRelations.{SupertypesOf, no_supertype, one_supertype}
use Rattle.facts_types.specs.Chains.{Steps, stay, step}
use Rattle.facts_types.specs.AllowedTypes.{AllowedTypes}
use Rattle.facts_ranges.specs.Tell.{RangesTell}

earlier : {x : ℕ} {ts : ℕ → Definition} (supers : List ℕ) → SupertypesOf ts x supers → or_zero (first_of supers) ≤ x
earlier [] no_supertype = omega arith
earlier (p ∷ []) (one_supertype less o) = omega arith
earlier {ts = ts} (p ∷ (_ ∷ _)) x6 = elim x6 [ ]

module _ (ds : List Definition) where
  parent_some : (x : ℕ) {q : ℕ} → super_of (types_of ds x) ≡ some q → parents ds x ≡ suc q
  unfolding parents
  parent_some x {q} e = ap or_zero e ∙ add-one q

  some_parent : (x : ℕ) {q : ℕ} → parents ds x ≡ suc q → super_of (types_of ds x) ≡ some q
  unfolding parents
  some_parent x {q} e = go (super_of (types_of ds x)) e
    where
      go : (o : Option ℕ) → or_zero o ≡ suc q → o ≡ some q
      go none f = absurd (omega arith)
      go (some p) f = let same : p ≡ q = omega arith in ap some same

  steps_up : {m x y : ℕ} → Steps (types_of ds) m x y → Up (parents ds) x y
  steps_up stay = here
  steps_up (step {x = x} e more) = above (parent_some x e) (steps_up more)

  up_steps : {x y : ℕ} → Up (parents ds) x y → (m : ℕ) × Steps (types_of ds) m x y
  up_steps here = (0, stay)
  up_steps (above {x = x} e up) = let (m, more) = up_steps up in (suc m, step (some_parent x e) more)

  module _ (allowed : AllowedTypes ds) where
    lower : Lower (parents ds) (length ds)
    unfolding parents
    lower = record { each = λ x h. earlier (types_of ds x).supers (allowed.valid.each x h).supertypes }

    ends_up : {x y : ℕ} → Up (parents ds) x y → x < length ds → y ≤ x
    ends_up here h = omega arith
    ends_up (above {x = x} e up) h = let l = lower.each x h in let more = ends_up up (omega arith) in omega arith

    base-some : (start : ℕ → ℕ) (o : ℕ) → 0 < base start o
    base-some start zero = omega arith
    base-some start (suc q) = omega arith

    pub ranges_tell : RangesTell ds
    ranges_tell =
        record {
          below = λ {x} {y} h steps. (
              let up = steps_up steps in
              let w = up_within lower (sizes_hold lower) (starts_hold lower) up h in
              let size = (sizes_hold lower).each x h in
              (omega arith, omega arith)
              );
          nothing_else = λ x y h g low high. up_steps (within_is_up lower (sizes_hold lower) (starts_hold lower) x y h g low high);
          some = λ x h. omega (arith, (starts_hold lower).each x h, base-some (starts_of ds) (parents ds x));
        }
