-- The walk over codes and the list of names: the first code's names stand before the others'.
use Prim.Native.Nat.{ℕ, zero, suc, ◌+◌, ◌-◌, ◌≤◌}
use mathlib.Core.Path.{◌≡◌, refl, sym, ap, ◌∙◌}
use mathlib.Core.Bool.{Bool, true, false, ◌&&◌}
use mathlib.Core.List.{List, [], ◌++◌, map}
use lib.Dec.{ltb}
use lib.ListN.{get_or}
use Rattle.std.specs.List.{list_all, range_with_len}
use Rattle.scope.specs.Layout.{codes_size}
use Rattle.scope.specs.Lists.{joined}
use Rattle.scope.specs.Syntax.{Val, Field}
use Rattle.scope.specs.TypeRules.{val_names, field_names}
use Rattle.lent_u16.specs.Words.{WordAt}
use Rattle.type_table.specs.View.{val_at_code, field_at_code, codes_at, both_codes}
use Rattle.type_table.proofs.Sides.{own_codes, shared-codes}
use Rattle.type_reach.specs.Names.{all_below, code_names, codes_names, Limit}
use Rattle.type_reach.proofs.Naming.{below_none, below-append}

names_first : (fields : Bool) (codes : List ℕ) (at n : ℕ) → codes_names fields codes at (suc n) ≡ code_names fields (get_or codes at 0) ++ codes_names fields codes (at + 1) n
unfolding codes_names code_names codes_at
names_first true codes at n = refl
names_first false codes at n = refl

names_none : (fields : Bool) (codes : List ℕ) (at : ℕ) → codes_names fields codes at 0 ≡ []
unfolding codes_names codes_at
names_none true codes at = refl
names_none false codes at = refl

module _ (fields : Bool) (codes : List ℕ) (reach : ℕ) where
  -- what the code at a place names is in reach
  abbrev pub code_below : ℕ → Bool
  code_below at = all_below reach (code_names fields (get_or codes at 0))

  pub all_codes_below : (i n : ℕ) → list_all code_below (range_with_len i n) ≡ all_below reach (codes_names fields codes i n)
  all_codes_below i zero = below_none reach ∙ ap (all_below reach) (sym (names_none fields codes i))
  all_codes_below i (suc n) =
      ap (λ (t : Bool). code_below i && t) (all_codes_below (i + 1) n)
      ∙ sym (ap (all_below reach) (names_first fields codes i n) ∙ below-append reach (code_names fields (get_or codes i 0)) (codes_names fields codes (i + 1) n))

  pub code_answers : {at limit w : ℕ} → Limit fields reach limit → WordAt codes at w → ltb w limit ≡ code_below at
  code_answers l p = sym (rw (← p.is) (l.is _ p.small))

-- codes that all lie in one part

own_names : (fields : Bool) (shared codes : List ℕ) (i n : ℕ) → i + n ≤ codes_size → codes_names fields (both_codes shared codes) i n ≡ codes_names fields codes i n
unfolding codes_names
own_names true shared codes i n h = ap (λ (fs : List Field). joined (map field_names fs)) (own_codes field_at_code shared codes i n h)
own_names false shared codes i n h = ap (λ (vs : List Val). joined (map val_names vs)) (own_codes val_at_code shared codes i n h)

shared-names : (fields : Bool) (shared codes : List ℕ) (i n : ℕ) → codes_size ≤ i → codes_names fields (both_codes shared codes) i n ≡ codes_names fields shared (i - codes_size) n
unfolding codes_names
shared-names true shared codes i n h = ap (λ (fs : List Field). joined (map field_names fs)) (shared-codes field_at_code shared codes i n h)
shared-names false shared codes i n h = ap (λ (vs : List Val). joined (map val_names vs)) (shared-codes val_at_code shared codes i n h)

module _ (fields : Bool) (shared codes : List ℕ) (i n reach : ℕ) {r : Bool} where
  pub own_walked : i + n ≤ codes_size → r ≡ all_below reach (codes_names fields codes i n) → r ≡ all_below reach (codes_names fields (both_codes shared codes) i n)
  own_walked h e = e ∙ ap (all_below reach) (sym (own_names fields shared codes i n h))

  pub shared_walked : codes_size ≤ i → r ≡ all_below reach (codes_names fields shared (i - codes_size) n) → r ≡ all_below reach (codes_names fields (both_codes shared codes) i n)
  shared_walked h e = e ∙ ap (all_below reach) (sym (shared-names fields shared codes i n h))

pub ruleset side_exits = (own_walked, shared_walked)
