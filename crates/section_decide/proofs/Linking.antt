-- What the first pass lets through is linked, so ranges can be put, and they say who climbs to whom.
use Prim.Native.Nat.{ℕ, zero, suc, ◌+◌, ◌-◌, ◌≤◌, ◌<◌}
use native.Mathlib.Omega.{arith}
use mathlib.Core.Path.{◌≡◌, refl, sym, ◌∙◌, ap}
use mathlib.Core.Bool.{Bool, true, false}
use mathlib.Core.Option.{Option, none, some}
use mathlib.Core.List.{List}
use borrow.Author.Tests.{ltb-true, ltb-false}
use lib.Dec.{ltb}
use Rattle.scope.specs.Sizes.{most_steps}
use Rattle.scope.specs.Syntax.{super_of}
use Rattle.scope.specs.TypeRules.{short_chain}
use Rattle.scope.specs.Judging.{accepted, links_fault, scan}
use Rattle.scope.specs.Memory.{or_zero}
use Rattle.scope.proofs.Accepted.{LinksKept, links_kept, scan_met_none, super_earlier_and_open_lem}
use Rattle.type_table.specs.View.{word_of, view}
use Rattle.type_numbering.specs.Ranges.{parent_of, Numberable, Numbered}
use Rattle.type_hierarchy.specs.Ranged.{Ranged}
use Rattle.type_ranges.specs.Linked.{Linked}
use Rattle.type_ranges.proofs.Climbs.{numbered_ranged}
use Rattle.section_decide.specs.Deciding.{Decidable}

module _ {first n : ℕ} (codes : List ℕ) {rows : List ℕ} (ok : Decidable first n codes rows) {m : ℕ} (e : scan (links_fault (view rows codes)) first (n - first) ≡ accepted m) where
  no_fault : (x : ℕ) → x < n → (t : Bool) → ltb x first ≡ t → links_fault (view rows codes) x ≡ none
  no_fault x h true q = ok.earlier x (ltb-true x first q)
  no_fault x h false q = let late = ltb-false x first q in scan_met_none (links_fault (view rows codes)) first (n - first) e x late (omega arith)

  kept : (x : ℕ) → x < n → LinksKept (view rows codes) x
  kept x h = links_kept (view rows codes) x (no_fault x h (ltb x first) refl)

  parent_lower : (x : ℕ) → x < n → parent_of rows codes x ≤ x
  unfolding parent_of
  parent_lower x h = go (super_of (view rows codes x)) refl
    where
      go : (o : Option ℕ) → super_of (view rows codes x) ≡ o → or_zero o ≤ x
      go none q = omega arith
      go (some p) q = let less = (super_earlier_and_open_lem (view rows codes) x (kept x h).super q).0 in omega arith

  past_super : (x : ℕ) → n ≤ x → super_of (view rows codes x) ≡ none
  unfolding view
  past_super x h = rw (ok.past x 4 h, ok.past x 11 h)

  past_short : (x : ℕ) → n ≤ x → short_chain most_steps (view rows codes) x ≡ true
  unfolding short_chain
  past_short x h = rw (past_super x h)

  pub passed_linked : Linked n codes rows
  passed_linked = record { lower = record { each = parent_lower }; short = λ x. short x (ltb x n) refl; past = ok.past }
    where
      short : (x : ℕ) (t : Bool) → ltb x n ≡ t → short_chain most_steps (view rows codes) x ≡ true
      short x true q = (kept x (ltb-true x n q)).short
      short x false q = past_short x (ltb-false x n q)

  pub passed_numberable : Numberable n codes rows
  passed_numberable = record { room = ok.room; count = ok.count; lower = passed_linked.lower }

  pub passed_ranged : {rows' : List ℕ} → Numbered n codes rows rows' → Ranged rows' codes
  passed_ranged t = numbered_ranged passed_linked t
