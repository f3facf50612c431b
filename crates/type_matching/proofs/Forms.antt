-- Each way out of a form's match is a case of rule 2. Parameters go against, so their lists change places.
use Prim.Native.Nat.{ℕ}
use mathlib.Core.Path.{◌≡◌, refl, sym, ap, ◌∙◌}
use mathlib.Core.Bool.{Bool, true, false, not, ◌&&◌}
use mathlib.Core.List.{List, [], ◌∷◌}
use borrow.Author.Tests.{not-true, not-false}
use Rattle.scope.specs.Told.{Maybe}
use Rattle.std.specs.Prelude.{None, Some}
use Rattle.scope.specs.Lists.{pairwise}
use Rattle.scope.specs.Syntax.{Form, struct, func, Types, super_of}
use Rattle.scope.specs.Order.{val_below}
use Rattle.scope.specs.TypeRules.{form_matches, matches_super}
use Rattle.type_table.specs.View.{val_at_code, field_at_code, codes_at}
use Rattle.type_table.specs.declared.Shape.{Shape}
use Rattle.type_table.specs.declared.Shape
use Rattle.type_table.specs.Answers.{link_is, shape_form}
use Rattle.type_table.proofs.Laws.{link_nothing, link_to}
use Rattle.type_matching.specs.Lists.{codes_match}

-- against: the lists change places
pairs_swapped : {A : Type 0} (t : A → A → Bool) (xs ys : List A) → pairwise (λ x y. t y x) xs ys ≡ pairwise t ys xs
pairs_swapped t [] [] = refl
pairs_swapped t [] (y ∷ ys) = refl
pairs_swapped t (x ∷ xs) [] = refl
pairs_swapped t (x ∷ xs) (y ∷ ys) = ap (λ (s : Bool). t y x && s) (pairs_swapped t xs ys)

-- the upper form was read

module _ (ts : Types) (codes : List ℕ) (f : Form) {u : Shape} (e : f ≡ shape_form codes u) where
  module _ (i n : ℕ) where
    pub struct_on_struct : {j m : ℕ} {r : Bool} → u ≡ Shape.TheVariants.Struct j m → r ≡ codes_match true ts codes i n j m → r ≡ form_matches ts (struct (codes_at field_at_code codes i n)) f
    unfolding form_matches codes_match
    struct_on_struct q p = rw (e, q) p

    pub struct_on_func : {j m l o : ℕ} → u ≡ Shape.TheVariants.Func j m l o → false ≡ form_matches ts (struct (codes_at field_at_code codes i n)) f
    unfolding form_matches
    struct_on_func q = rw (e, q)

  module _ (i n k o : ℕ) where
    pub func_on_struct : {j m : ℕ} → u ≡ Shape.TheVariants.Struct j m → false ≡ form_matches ts (func (codes_at val_at_code codes i n) (codes_at val_at_code codes k o)) f
    unfolding form_matches
    func_on_struct q = rw (e, q)

    module _ {j m l s : ℕ} (q : u ≡ Shape.TheVariants.Func j m l s) {r : Bool} (p : r ≡ codes_match false ts codes j m i n) where
      func_on_func : form_matches ts (func (codes_at val_at_code codes i n) (codes_at val_at_code codes k o)) f ≡ (r && codes_match false ts codes k o l s)
      unfolding form_matches codes_match
      func_on_func =
          rw (e, q, p)
          (ap (λ (t : Bool). t && pairwise (val_below ts) (codes_at val_at_code codes k o) (codes_at val_at_code codes l s))
          (pairs_swapped (val_below ts) (codes_at val_at_code codes i n) (codes_at val_at_code codes j m)))

      pub parameters_differ : not r ≡ true → false ≡ form_matches ts (func (codes_at val_at_code codes i n) (codes_at val_at_code codes k o)) f
      parameters_differ t = sym (func_on_func ∙ ap (λ (b : Bool). b && codes_match false ts codes k o l s) (not-true r t))

      pub results_decide : {a : Bool} → not r ≡ false → a ≡ codes_match false ts codes k o l s → a ≡ form_matches ts (func (codes_at val_at_code codes i n) (codes_at val_at_code codes k o)) f
      results_decide t d = d ∙ sym (func_on_func ∙ ap (λ (b : Bool). b && codes_match false ts codes k o l s) (not-false r t))

pub ruleset upper_exits = (struct_on_struct, struct_on_func, func_on_struct, parameters_differ, results_decide)

-- the lower form was read

module _ (ts : Types) (codes : List ℕ) (f g : Form) {u : Shape} (e : f ≡ shape_form codes u) where
  pub lower_struct : {i n : ℕ} {r : Bool} → u ≡ Shape.TheVariants.Struct i n → r ≡ form_matches ts (struct (codes_at field_at_code codes i n)) g → r ≡ form_matches ts f g
  lower_struct q p = rw (e, q) p

  pub lower_func : {i n k o : ℕ} {r : Bool} → u ≡ Shape.TheVariants.Func i n k o → r ≡ form_matches ts (func (codes_at val_at_code codes i n) (codes_at val_at_code codes k o)) g → r ≡ form_matches ts f g
  lower_func q p = rw (e, q) p

pub ruleset lower_exits = (lower_struct, lower_func)

-- rule 2

module _ (ts : Types) (x : ℕ) {l : Maybe ℕ} (e : l ≡ link_is (super_of (ts x))) where
  pub no_super : l ≡ None → true ≡ matches_super ts x
  unfolding matches_super
  no_super q = rw (link_nothing (super_of (ts x)) e q)

  pub super_matched : {p : ℕ} {r : Bool} → l ≡ Some p → r ≡ form_matches ts (ts x).form (ts p).form → r ≡ matches_super ts x
  unfolding matches_super
  super_matched q s = rw (link_to (super_of (ts x)) e q) s

pub ruleset super_exits = (no_super, super_matched)
