-- Rows that have their ranges are ranged: the test over ranges says of any two numbers what the climb says.
use Prim.Native.Nat.{ℕ, zero, suc, ◌+◌, ◌≤◌, ◌<◌}
use native.Mathlib.Omega.{arith}
use native.Mathlib.Numerals.{add-one}
use mathlib.Core.Path.{◌≡◌, refl, sym, ◌∙◌, ap, fun_ext}
use mathlib.Core.Logic.{◌⊎◌, inl, inr}
use mathlib.Core.Bool.{Bool, true, false, not, ◌&&◌, ◌||◌, false≢true}
use mathlib.Core.Option.{Option, none, some}
use mathlib.Core.List.{List}
use borrow.Author.Tests.{eqb-true, eqb-false, eq-eqb, ne_eqb, lt-ltb, le-ltb, ltb-true, ltb-false, not-true}
use lib.Dec.{eqb, ltb}
use Rattle.scope.specs.Sizes.{most_steps}
use Rattle.scope.specs.Syntax.{Types, super_of}
use Rattle.scope.specs.Order.{climbs}
use Rattle.scope.specs.Memory.{or_zero}
use Rattle.scope.proofs.Truths.{from_both, both}
use Rattle.scope.proofs.Chains.{Chain, here, above, climb_is_chain, climbs_to_itself, chain_is_climbed}
use Rattle.scope.specs.Ranges.{base}
use Rattle.type_forest.specs.Forest.{Up, here as up-here, above as up_above, Lower, Sizes, Starts}
use Rattle.type_forest.proofs.Within.{up_within, within_is_up}
use Rattle.type_table.specs.View.{word_of, view}
use Rattle.type_span.specs.Span.{start_word, end_word, start_at, end_at, Beside}
use Rattle.type_span.proofs.Stores.{beside_view}
use Rattle.type_numbering.specs.Ranges.{parent_of, Numbered}
use Rattle.type_hierarchy.specs.Ranged.{within, Ranged}
use Rattle.type_ranges.specs.Linked.{Linked}

same_truth : (a b : Bool) → (a ≡ true → b ≡ true) → (b ≡ true → a ≡ true) → a ≡ b
same_truth true b f g = sym (f refl)
same_truth false true f g = g refl
same_truth false false f g = refl

-- chains of supertypes are ways up the forest

module _ (rows codes : List ℕ) where
  link_up : (x : ℕ) {q : ℕ} → super_of (view rows codes x) ≡ some q → parent_of rows codes x ≡ suc q
  unfolding parent_of
  link_up x {q} e = ap or_zero e ∙ add-one q

  up_link : (x : ℕ) {q : ℕ} → parent_of rows codes x ≡ suc q → super_of (view rows codes x) ≡ some q
  unfolding parent_of
  up_link x {q} e = go (super_of (view rows codes x)) e
    where
      go : (o : Option ℕ) → or_zero o ≡ suc q → o ≡ some q
      go none f = absurd (omega arith)
      go (some p) f = let same : p ≡ q = omega arith in ap some same

  chain_up : {x y : ℕ} → Chain (view rows codes) x y → Up (parent_of rows codes) x y
  chain_up here = up-here
  chain_up (above {x = x} e c) = up_above (link_up x e) (chain_up c)

  up_chain : {x y : ℕ} → Up (parent_of rows codes) x y → Chain (view rows codes) x y
  up_chain up-here = here
  up_chain (up_above {x = x} e u) = above (up_link x e) (up_chain u)

up_lower : {p : ℕ → ℕ} {n : ℕ} → Lower p n → {x y : ℕ} → Up p x y → x < n → y ≤ x
up_lower lower up-here inside = omega arith
up_lower lower (up_above {x = x} {q = q} e u) inside =
    let l = lower.each x inside in
    let more = up_lower lower u (omega arith) in
    omega arith

up_top : {p : ℕ → ℕ} {x y : ℕ} → Up p x y → p x ≡ zero → x ≡ y
up_top up-here e = refl
up_top (up_above f u) e = absurd (omega arith)

base-some : (start : ℕ → ℕ) (o : ℕ) → 0 < base start o
base-some start zero = omega arith
base-some start (suc q) = omega arith

module _ {n : ℕ} {codes rows rows' : List ℕ} (linked : Linked n codes rows) (numbered : Numbered n codes rows rows') where
  past_start : (x : ℕ) → n ≤ x → start_at rows' x ≡ 0
  past_start x h = numbered.beside.past x start_word h ∙ linked.past x start_word h

  past_end : (x : ℕ) → n ≤ x → end_at rows' x ≡ 0
  past_end x h = numbered.beside.past x end_word h ∙ linked.past x end_word h

  past_parent : (x : ℕ) → n ≤ x → parent_of rows codes x ≡ zero
  unfolding parent_of view
  past_parent x h = rw (linked.past x 4 h, linked.past x 11 h)

  start-some : (y : ℕ) → y < n → 0 < start_at rows' y
  start-some y h = omega (arith, numbered.starts.each y h, base-some (start_at rows') (parent_of rows codes y))

  in_range_lem : (x y : ℕ) → Up (parent_of rows codes) x y → (x ≡ y → ⊥) → (start_at rows' y ≤ start_at rows' x) × (start_at rows' x < end_at rows' y)
  in_range_lem x y u other = go (ltb x n) refl
    where
      go : (t : Bool) → ltb x n ≡ t → (start_at rows' y ≤ start_at rows' x) × (start_at rows' x < end_at rows' y)
      go false e = absurd (other (up_top u (past_parent x (ltb-false x n e))))
      go true e =
          let inside = ltb-true x n e in
          let low = up_lower linked.lower u inside in
          let w = up_within linked.lower numbered.sizes numbered.starts u inside in
          let size = numbered.sizes.each x inside in
          let end = numbered.ends y (omega arith) in
          (omega arith, omega arith)

  range_up : (x y : ℕ) → start_at rows' y ≤ start_at rows' x → start_at rows' x < end_at rows' y → Up (parent_of rows codes) x y
  range_up x y low high = go (ltb y n) (ltb x n) refl refl
    where
      go : (s t : Bool) → ltb y n ≡ s → ltb x n ≡ t → Up (parent_of rows codes) x y
      go false t e f = absurd (let z = past_end y (ltb-false y n e) in omega arith)
      go true false e f = absurd (let z = past_start x (ltb-false x n f) in let s = start-some y (ltb-true y n e) in omega arith)
      go true true e f =
          let yn = ltb-true y n e in
          let end = numbered.ends y yn in
          within_is_up linked.lower numbered.sizes numbered.starts x y (ltb-true x n f) yn low (omega arith)

  climbs-within : (x y : ℕ) (t : Bool) → eqb x y ≡ t → climbs most_steps (view rows codes) x y ≡ true → within rows' x y ≡ true
  unfolding within
  climbs-within x y true e c = rw e
  climbs-within x y false e c =
      let u = chain_up rows codes (climb_is_chain most_steps (view rows codes) x y c) in
      let r = in_range_lem x y u (eqb-false x y e) in
      rw (e, le-ltb (start_at rows' x) (start_at rows' y) r.0, lt-ltb (start_at rows' x) (end_at rows' y) r.1)

  within-climbs : (x y : ℕ) (t : Bool) → eqb x y ≡ t → within rows' x y ≡ true → climbs most_steps (view rows codes) x y ≡ true
  unfolding within
  within-climbs x y true e w = rw (eqb-true x y e) (climbs_to_itself most_steps (view rows codes) y)
  within-climbs x y false e w =
      let w' = rw e at w in
      let (low, high) = from_both (not (ltb (start_at rows' x) (start_at rows' y))) (ltb (start_at rows' x) (end_at rows' y)) w' in
      let u = range_up x y (ltb-false _ _ (not-true _ low)) (ltb-true _ _ high) in
      chain_is_climbed most_steps (up_chain rows codes u) (linked.short x)

  same_view : view rows' codes ≡ view rows codes
  same_view = beside_view numbered.beside codes

  pub numbered_ranged : Ranged rows' codes
  numbered_ranged =
      record { is = λ x y. rw same_view (same_truth (within rows' x y) (climbs most_steps (view rows codes) x y) (within-climbs x y (eqb x y) refl) (climbs-within x y (eqb x y) refl)) }
