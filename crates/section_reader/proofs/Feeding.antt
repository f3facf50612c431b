-- What a group that was read tells: there is a row for each of its definitions, and their codes took a byte each.
use Prim.Native.Nat.{ℕ, zero, suc, ◌+◌, ◌-◌, ◌≤◌, ◌<◌}
use mathlib.Core.Path.{◌≡◌, refl, ap}
use mathlib.Core.Bool.{Bool, true, false, cond}
use mathlib.Core.Option.{Option, none, some}
use mathlib.Core.List.{List, [], ◌∷◌}
use native.Mathlib.Omega.{arith}
use lib.ListN.{length, length-append, get_elem?}
use lib.Dec.{ltb, eqb}
use borrow.Author.Tests.{ltb-true}
use Rattle.scope.specs.Refusals.{bytes_end, oversize}
use Rattle.scope.specs.Sizes.{most_types}
use Rattle.scope.specs.Reading.{Read, got, refused, given, then, entries}
use Rattle.scope.specs.Syntax.{Definition}
use Rattle.scope.specs.Sections.{definition_at, group_at}
use Rattle.scope.specs.Memory.{form_codes}
use Rattle.scope.proofs.Forward.{Ends, stops, reaches, unsigned-takes}
use Rattle.scope.proofs.Impossible.{impossible}
use Rattle.type_table.specs.Kept.{kept_form, kept_definition}
use Rattle.type_table.specs.View.{codes_of}
use Rattle.section_group.specs.Lent.{entries_at, several_at, alone_at, kept_all}
use Rattle.section_group.proofs.Grouping.{one-codes}
use Rattle.section_definition.proofs.Defining.{definition_ahead}

-- at most `room` definitions, whose codes end before the place after
data Fed (room at : ℕ) : Read (List Definition) → Type 0 where
  unfed : {k place : ℕ} → Fed room at (refused k place)
  fed : {ds : List Definition} {next : ℕ} → length ds ≤ room → at + length (codes_of (kept_all ds)) ≤ next → Fed room at (got ds next)

first-codes : (d : Definition) (ds : List Definition) → length (codes_of (kept_all (d ∷ ds))) ≡ length (form_codes (kept_form d.form)) + length (codes_of (kept_all ds))
unfolding codes_of kept_definition
first-codes d ds = length-append (form_codes (kept_form d.form)) (codes_of (kept_all ds))

no-codes : (at : ℕ) → at + length (codes_of (kept_all [])) ≤ at
unfolding codes_of
no-codes at = omega arith

one_more_lem : {room at next : ℕ} (d : Definition) {o : Read (List Definition)} → at + length (form_codes (kept_form d.form)) ≤ next → Fed room next o → Fed (suc room) at (then o (λ ds stop. got (d ∷ ds) stop))
one_more_lem d h unfed = unfed
one_more_lem {room} {at} d h (fed {ds = ds} {next = stop} a b) =
    let c = first-codes d ds in
    let few : length (d ∷ ds) ≤ suc room = omega arith in
    let far : at + length (codes_of (kept_all (d ∷ ds))) ≤ stop = omega arith in
    fed few far

entries_fed : (reach room n : ℕ) (s : List ℕ) (at : ℕ) → Fed room at (entries (definition_at reach) room n s at)
unfolding entries
entries_fed reach room zero s at = fed {ds = []} (omega arith) (no-codes at)
entries_fed reach zero (suc n) s at = unfed
entries_fed reach (suc room) (suc n) s at = go (definition_at reach s at) refl (λ next. entries_fed reach room n s next)
  where
    go : (o : Read Definition) → definition_at reach s at ≡ o → ((next : ℕ) → Fed room next (entries (definition_at reach) room n s next)) → Fed (suc room) at (then o (λ x next. then (entries (definition_at reach) room n s next) (λ xs stop. got (x ∷ xs) stop)))
    go (refused k p) e later = unfed
    go (got d next) e later = let h = definition_ahead reach s at e in one_more_lem d (omega arith) (later next)

earlier : {room at next : ℕ} {o : Read (List Definition)} → at ≤ next → Fed room next o → Fed room at o
earlier h unfed = unfed
earlier {at = at} h (fed {ds = ds} {next = stop} a b) = let far : at + length (codes_of (kept_all ds)) ≤ stop = omega arith in fed a far

several_fed : (first : ℕ) (s : List ℕ) (at : ℕ) → Fed (most_types - first) at (several_at first s at)
several_fed first s at = go ((unsigned-takes 32).takes s at)
  where
    go : {o : Read ℕ} → Ends (at + 1) (length s) o → Fed (most_types - first) at (then o (λ n next. entries_at (first + n) first n s next))
    go stops = unfed
    go (reaches {x = n} {next = next} a b) = earlier (omega arith) (entries_fed (first + n) (most_types - first) n s next)

alone_fed : (first : ℕ) (s : List ℕ) (at : ℕ) → Fed (most_types - first) at (alone_at first s at)
alone_fed first s at = go (ltb first most_types) refl
  where
    one : (o : Read Definition) → definition_at (first + 1) s at ≡ o → first < most_types → Fed (most_types - first) at (then o (λ d next. got (d ∷ []) next))
    one (refused k p) e h = unfed
    one (got d next) e h =
        let ahead = definition_ahead (first + 1) s at e in
        let c : length (codes_of (kept_all (d ∷ []))) ≡ length (form_codes (kept_form d.form)) = ap length (one-codes d) in
        let few : length (d ∷ []) ≤ most_types - first = omega arith in
        let far : at + length (codes_of (kept_all (d ∷ []))) ≤ next = omega arith in
        fed few far

    go : (t : Bool) → ltb first most_types ≡ t → Fed (most_types - first) at (cond t (then (definition_at (first + 1) s at) (λ d next. got (d ∷ []) next)) (refused oversize at))
    go true e = one (definition_at (first + 1) s at) refl (ltb-true first most_types e)
    go false e = unfed

group_fed : (first : ℕ) (s : List ℕ) (at : ℕ) → Fed (most_types - first) at (group_at first s at)
unfolding group_at
group_fed first s at = go (get_elem? s at)
  where
    either : (t : Bool) → Fed (most_types - first) at (cond t (several_at first s (at + 1)) (alone_at first s at))
    either true = earlier (omega arith) (several_fed first s (at + 1))
    either false = alone_fed first s at

    go : (o : Option ℕ) → Fed (most_types - first) at (given o (refused bytes_end at) (λ b. cond (eqb b 0x4E) (several_at first s (at + 1)) (alone_at first s at)))
    go none = unfed
    go (some b) = either (eqb b 0x4E)

pub record Ate (first at : ℕ) (g : List Definition) (next : ℕ) : Type 0 where
  pub few : length g ≤ most_types - first
  pub ahead : at + length (codes_of (kept_all g)) ≤ next

pub group_ate : (first : ℕ) (s : List ℕ) (at : ℕ) {g : List Definition} {next : ℕ} → group_at first s at ≡ got g next → Ate first at g next
group_ate first s at {g} {next} e = go (group_fed first s at) e
  where
    go : {o : Read (List Definition)} → Fed (most_types - first) at o → o ≡ got g next → Ate first at g next
    go unfed q = impossible cc
    go (fed {ds = ds} {next = stop} a b) q =
        let same : ds ≡ g = cc in
        let there : stop ≡ next = cc in
        let long : length ds ≡ length g = ap length same in
        let codes : length (codes_of (kept_all ds)) ≡ length (codes_of (kept_all g)) = ap (λ es. length (codes_of (kept_all es))) same in
        record { few = omega arith; ahead = omega arith }
