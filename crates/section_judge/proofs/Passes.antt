-- What each pass needs is there: in the first, the types before the one that is asked have passed, so their supertypes are earlier and
-- the depths say which chains are short.
use Prim.Native.Nat.{ℕ, ◌≤◌, ◌<◌}
use native.Mathlib.Omega.{arith}
use mathlib.Core.Path.{◌≡◌, refl, sym, ◌∙◌, ap}
use mathlib.Core.Bool.{Bool, true, false, false≢true}
use mathlib.Core.Option.{none, some}
use mathlib.Core.List.{List}
use borrow.Author.Tests.{eqb-true, eqb-false, ltb-true, ltb-false}
use lib.Dec.{eqb, ltb}
use Rattle.scope.specs.Sizes.{most_steps}
use Rattle.scope.specs.Syntax.{Types, super_of}
use Rattle.scope.specs.TypeRules.{super_earlier_and_open}
use Rattle.scope.specs.Judging.{links_fault}
use Rattle.scope.proofs.Accepted.{links_kept, super_earlier_and_open_lem}
use Rattle.type_table.specs.View.{view}
use Rattle.type_chain.specs.Depths.{Upward}
use Rattle.type_hierarchy.specs.Ranged.{Ranged}
use Rattle.section_judge.specs.Verdict.{fault_of}
use Rattle.section_judge.specs.Ready.{Chained, Ready, Linkable, Scannable}
use Rattle.section_judge.proofs.Scanning.{Pass}

pub scannable_links : {first n : ℕ} {rows codes : List ℕ} → Linkable first n rows codes → Scannable true first n rows codes
scannable_links l = record { linkable = λ e. l; ranged = λ e. absurd (false≢true (sym e)) }

pub scannable_rules : (first n : ℕ) {rows codes : List ℕ} → Ranged rows codes → Scannable false first n rows codes
scannable_rules first n r = record { linkable = λ e. absurd (false≢true e); ranged = λ e. r }

pub ready_chained : {links : Bool} {rows codes : List ℕ} {x : ℕ} → Ready links rows codes x → links ≡ true → Chained rows codes x
ready_chained r e = r.chained e

pub ready_ranged : {links : Bool} {rows codes : List ℕ} {x : ℕ} → Ready links rows codes x → links ≡ false → Ranged rows codes
ready_ranged r e = r.ranged e

-- types that have passed have earlier supertypes

module _ {first n : ℕ} {rows codes : List ℕ} (l : Linkable first n rows codes) {x : ℕ} (p : Pass (links_fault (view rows codes)) first n x) where
  passed : (y : ℕ) → y < x → (b : Bool) → ltb y first ≡ b → links_fault (view rows codes) y ≡ none
  passed y less true q = l.earlier y (ltb-true y first q)
  passed y less false q = p.met y less (ltb-false y first q)

  upward : super_earlier_and_open (view rows codes) x ≡ true → Upward (view rows codes) x
  upward here = record { each = λ y q most e. go y q most e (eqb y x) refl }
    where
      go : (y q : ℕ) → y ≤ x → super_of (view rows codes y) ≡ some q → (b : Bool) → eqb y x ≡ b → q < y
      go y q most e true same = (super_earlier_and_open_lem (view rows codes) y (ap (super_earlier_and_open (view rows codes)) (eqb-true y x same) ∙ here) e).0
      go y q most e false same =
          let other = eqb-false y x same in
          let less : y < x = omega arith in
          (super_earlier_and_open_lem (view rows codes) y (links_kept (view rows codes) y (passed y less (ltb y first) refl)).super e).0

  pass_chained : x < n → Chained rows codes x
  pass_chained inside = record { is = λ here. l.depths.deep x inside (upward here) most_steps }

links_pass : {links : Bool} (types : Types) {first n x : ℕ} → Pass (fault_of links types) first n x → links ≡ true → Pass (links_fault types) first n x
unfolding fault_of
links_pass {links = true} types p e = p
links_pass {links = false} types p e = absurd (false≢true e)

pub scan_ready : {links : Bool} {first n : ℕ} {rows codes : List ℕ} {x : ℕ} → Scannable links first n rows codes → Pass (fault_of links (view rows codes)) first n x → x < n → Ready links rows codes x
scan_ready {rows = rows} {codes = codes} s p inside = record { chained = λ e. pass_chained (s.linkable e) (links_pass (view rows codes) p e) inside; ranged = λ e. s.ranged e }

pub ruleset ready_exits = (scannable_links, scannable_rules, ready_chained, ready_ranged, scan_ready)
