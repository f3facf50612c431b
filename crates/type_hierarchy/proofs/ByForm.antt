-- Each way out of what a type's form says: a form that is no struct is a function, the number of a kind is read as that kind,
-- and the bottom of a type's hierarchy has one number.
use Prim.Native.Nat.{ℕ, ◌≤◌}
use mathlib.Core.Path.{◌≡◌, refl, sym, ap, ◌∙◌}
use mathlib.Core.Bool.{Bool, true, false}
use mathlib.Core.Logic.{◌⊎◌, inl, inr}
use borrow.Author.Tests.{eqb-true, eqb-false, ltb-true, ltb-false}
use lib.Dec.{eqb, ltb}
use lib.ListN.{get_or-eq_default}
use Rattle.scope.specs.Abstract.{Abstract, ARRAY, row, same_abstract, ten}
use Rattle.scope.specs.Syntax.{Form, struct, func}
use Rattle.scope.specs.Memory.{abstract_code}
use Rattle.scope.specs.Order.{kind_of, bottom_of, abstract_below}
use Rattle.scope.specs.TypeRules.{is_struct}
use Rattle.scope.proofs.Truths.{decided}
use Rattle.scope.proofs.TenRows.{same_equal, equal_same}
use Rattle.scope.proofs.Impossible.{contradiction, impossible}
use Rattle.type_abstract.specs.Heaps.{abstract_at}
use Rattle.type_abstract.proofs.Laws.{at_code, code_at}

-- a type's kind

module _ (f : Form) {s : Bool} (e : s ≡ is_struct f) where
  pub kind_struct : s ≡ true → 8 ≡ abstract_code (kind_of f)
  kind_struct q = go f (sym e ∙ q)
    where
      go : (g : Form) → is_struct g ≡ true → 8 ≡ abstract_code (kind_of g)
      go (struct fs) p = refl
      go (func ps rs) p = impossible cc

  pub kind_func : s ≡ false → 3 ≡ abstract_code (kind_of f)
  kind_func q = go f (sym e ∙ q)
    where
      go : (g : Form) → is_struct g ≡ false → 3 ≡ abstract_code (kind_of g)
      go (struct fs) p = impossible cc
      go (func ps rs) p = refl

module _ (f : Form) {kind : ℕ} (e : kind ≡ abstract_code (kind_of f)) where
  at_kind : abstract_at kind ≡ kind_of f
  at_kind = ap abstract_at e ∙ at_code (kind_of f)

  pub kind_below_is : (b : ℕ) {r : Bool} → r ≡ abstract_below (abstract_at kind) (abstract_at b) → r ≡ abstract_below (kind_of f) (abstract_at b)
  kind_below_is b q = q ∙ ap (λ (a : Abstract). abstract_below a (abstract_at b)) at_kind

-- the last row's type is the bottom of no type's hierarchy

past_rows : {a : ℕ} → 10 ≤ a → abstract_at a ≡ ARRAY
unfolding abstract_at
past_rows h = get_or-eq_default ten ARRAY h

last_is_no_bottom : (f : Form) → ARRAY ≡ bottom_of f → ⊥
last_is_no_bottom (struct fs) e = contradiction cc
last_is_no_bottom (func ps rs) e = contradiction cc

bottom_has_one-number : (f : Form) (a : ℕ) → abstract_at a ≡ bottom_of f → a ≡ abstract_code (bottom_of f)
bottom_has_one-number f a e = go (decided (ltb a 10))
  where
    go : (ltb a 10 ≡ true) ⊎ (ltb a 10 ≡ false) → a ≡ abstract_code (bottom_of f)
    go (inl small) = sym (code_at a (ltb-true a 10 small)) ∙ ap abstract_code e
    go (inr large) = absurd (last_is_no_bottom f (sym (past_rows (ltb-false a 10 large)) ∙ e))

same_as_bottom : (f : Form) (a : ℕ) → eqb a (abstract_code (bottom_of f)) ≡ same_abstract (abstract_at a) (bottom_of f)
same_as_bottom f a = go (decided (eqb a (abstract_code (bottom_of f)))) (decided (same_abstract (abstract_at a) (bottom_of f)))
  where
    go : (eqb a (abstract_code (bottom_of f)) ≡ true) ⊎ (eqb a (abstract_code (bottom_of f)) ≡ false)
        → (same_abstract (abstract_at a) (bottom_of f) ≡ true) ⊎ (same_abstract (abstract_at a) (bottom_of f) ≡ false)
        → eqb a (abstract_code (bottom_of f)) ≡ same_abstract (abstract_at a) (bottom_of f)
    go (inl p) other = p ∙ sym (equal_same _ _ (ap abstract_at (eqb-true a _ p) ∙ at_code (bottom_of f)))
    go (inr p) (inl q) = absurd (eqb-false a _ p (bottom_has_one-number f a (same_equal _ _ q)))
    go (inr p) (inr q) = p ∙ sym q

pub bottom_tested : (f : Form) (a : ℕ) {kind bottom : ℕ} → kind ≡ abstract_code (kind_of f) → bottom ≡ abstract_code (row (abstract_at kind)).bottom → eqb a bottom ≡ same_abstract (abstract_at a) (bottom_of f)
bottom_tested f a e q = ap (eqb a) (q ∙ ap (λ (k : Abstract). abstract_code (row k).bottom) (at_kind f e)) ∙ same_as_bottom f a

pub ruleset kind_exits = (kind_struct, kind_func, kind_below_is, bottom_tested)
