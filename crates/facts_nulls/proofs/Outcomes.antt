-- Each outcome of a type's test is what the order says: by the two tests that it looks at. Of an accepted section's types the
-- order's relation says the same as its test.
use mathlib.Core.Path.{◌≡◌, refl, sym, ◌∙◌}
use mathlib.Core.Logic.{◌⊎◌, inl, inr, ◌↔◌}
use mathlib.Core.Bool.{Bool, true, false, cond, false≢true}
use mathlib.Core.List.{List}
use Rattle.scope.specs.Syntax.{Heap, Val, num, ref, nullable, non_null, Definition, Types, types_of}
use Rattle.scope.specs.Order.{Fit, it_fits, but_for_null, unfit, ValOrder, made_non_null, val_below, val_fit}
use Rattle.scope.proofs.Impossible.{impossible}
use Rattle.scope.proofs.Truths.{decided}
use Rattle.scope.proofs.Accepted.{Passes, accepted_passes}
use Rattle.scope.proofs.Order.{tested_value_order, value_order-tested}
use Rattle.scope.specs.BodyRules.{value}
use Rattle.scope.specs.Bodies.{known, fits, fit}
use Rattle.facts_nulls.specs.Outcomes.{Below, BelowButForNull, NotBelow, ThreeOutcomes}

-- of a type that is not below, only a nullable reference becomes another by being made non-null
made_other : (ts : Types) (v w : Val) → val_below ts v w ≡ false → val_below ts (made_non_null v) w ≡ true → (h : Heap) × (v ≡ nullable h) × (val_below ts (non_null h) w ≡ true)
made_other ts (num n) w e f = absurd (false≢true (sym e ∙ f))
made_other ts (ref true h) w e f = (h, refl, f)
made_other ts (ref false h) w e f = absurd (false≢true (sym e ∙ f))

made_same : (ts : Types) (v w : Val) → val_below ts v w ≡ false → ((h : Heap) → v ≡ nullable h → val_below ts (non_null h) w ≡ false) → val_below ts (made_non_null v) w ≡ false
made_same ts (num n) w e f = e
made_same ts (ref true h) w e f = f h refl
made_same ts (ref false h) w e f = e

module _ (ts : Types) (v w : Val) where
  -- what the outcome says of the two tests
  said : (b c : Bool) → val_below ts v w ≡ b → val_below ts (made_non_null v) w ≡ c → val_fit ts v w ≡ cond b it_fits (cond c but_for_null unfit)
  unfolding val_fit
  said b c e f = rw (e, f)

  fits_below : val_fit ts v w ≡ it_fits → val_below ts v w ≡ true
  fits_below q = go (val_below ts v w) (val_below ts (made_non_null v) w) refl refl
    where
      go : (b c : Bool) → val_below ts v w ≡ b → val_below ts (made_non_null v) w ≡ c → b ≡ true
      go true c e f = refl
      go false true e f = let other : but_for_null ≡ it_fits = sym (said false true e f) ∙ q in impossible cc
      go false false e f = let other : unfit ≡ it_fits = sym (said false false e f) ∙ q in impossible cc

  below-fits : val_below ts v w ≡ true → val_fit ts v w ≡ it_fits
  unfolding val_fit
  below-fits e = rw e

  would_tests : val_fit ts v w ≡ but_for_null → (val_below ts v w ≡ false) × (val_below ts (made_non_null v) w ≡ true)
  would_tests q = go (val_below ts v w) (val_below ts (made_non_null v) w) refl refl
    where
      go : (b c : Bool) → val_below ts v w ≡ b → val_below ts (made_non_null v) w ≡ c → (b ≡ false) × (c ≡ true)
      go true c e f = let other : it_fits ≡ but_for_null = sym (said true c e f) ∙ q in impossible cc
      go false true e f = (refl, refl)
      go false false e f = let other : unfit ≡ but_for_null = sym (said false false e f) ∙ q in impossible cc

  not-tests : val_fit ts v w ≡ unfit → (val_below ts v w ≡ false) × (val_below ts (made_non_null v) w ≡ false)
  not-tests q = go (val_below ts v w) (val_below ts (made_non_null v) w) refl refl
    where
      go : (b c : Bool) → val_below ts v w ≡ b → val_below ts (made_non_null v) w ≡ c → (b ≡ false) × (c ≡ false)
      go true c e f = let other : it_fits ≡ unfit = sym (said true c e f) ∙ q in impossible cc
      go false true e f = let other : but_for_null ≡ unfit = sym (said false true e f) ∙ q in impossible cc
      go false false e f = (refl, refl)

  would_said : val_fit ts v w ≡ but_for_null → BelowButForNull ts v w
  would_said q = let (e, f) = would_tests q in (e, made_other ts v w e f)

  would_back : BelowButForNull ts v w → val_fit ts v w ≡ but_for_null
  would_back t = said false true t.0 (rw t.1.1 t.1.2)

  not-said : val_fit ts v w ≡ unfit → NotBelow ts v w
  not-said q = let (e, f) = not-tests q in (e, λ h is. rw is at f)

  not_back : NotBelow ts v w → val_fit ts v w ≡ unfit
  not_back t = said false false t.0 (made_same ts v w t.0 t.1)

  one_of : (val_fit ts v w ≡ it_fits) ⊎ ((val_fit ts v w ≡ but_for_null) ⊎ (val_fit ts v w ≡ unfit))
  one_of = go (val_fit ts v w)
    where
      go : (f : Fit) → (f ≡ it_fits) ⊎ ((f ≡ but_for_null) ⊎ (f ≡ unfit))
      go it_fits = inl refl
      go but_for_null = inr (inl refl)
      go unfit = inr (inr refl)

  -- below or not, and the same reference made non-null below or not
  fits-or_would : ¬ (Below ts v w × BelowButForNull ts v w)
  fits-or_would (yes', (no', made)) = false≢true (sym no' ∙ yes')

  fits-or-not : ¬ (Below ts v w × NotBelow ts v w)
  fits-or-not (yes', (no', made)) = false≢true (sym no' ∙ yes')

  would_or-not : ¬ (BelowButForNull ts v w × NotBelow ts v w)
  would_or-not ((no', (h, is, made)), (also, never)) = false≢true (sym (never h is) ∙ made)

-- the relation and the test say the same of an accepted section's types
module _ {ds : List Definition} (passes : Passes ds) (v w : Val) where
  not_related : val_below (types_of ds) v w ≡ false → ¬ ValOrder (types_of ds) v w
  not_related e order = false≢true (sym e ∙ value_order-tested passes v w order)

  not_tested : ¬ ValOrder (types_of ds) v w → val_below (types_of ds) v w ≡ false
  not_tested other = go (decided (val_below (types_of ds) v w))
    where
      go : (val_below (types_of ds) v w ≡ true) ⊎ (val_below (types_of ds) v w ≡ false) → val_below (types_of ds) v w ≡ false
      go (inl e) = absurd (other (tested_value_order (types_of ds) v w e))
      go (inr e) = e

  fits_related : (val_fit (types_of ds) v w ≡ it_fits) ↔ ValOrder (types_of ds) v w
  fits_related = (
    λ q. tested_value_order (types_of ds) v w (fits_below (types_of ds) v w q),
    λ order. below-fits (types_of ds) v w (value_order-tested passes v w order),
  )

  would_related : (val_fit (types_of ds) v w ≡ but_for_null) ↔ (¬ ValOrder (types_of ds) v w × ((h : Heap) × (v ≡ nullable h) × ValOrder (types_of ds) (non_null h) w))
  would_related = (
    λ q. let (e, (h, is, made)) = would_said (types_of ds) v w q in (not_related e, (h, is, tested_value_order (types_of ds) (non_null h) w made)),
    λ t. would_back (types_of ds) v w (not_tested t.0, (t.1.0, t.1.1, value_order-tested passes (non_null t.1.0) w t.1.2)),
  )

of_operand : (ts : Types) (v w : Val) → fit ts (known v) (value w) ≡ val_fit ts v w
unfolding fit fits val_fit
of_operand ts v w = refl

pub three_outcomes : ThreeOutcomes
three_outcomes =
    record {
      fits = λ ts v w. (fits_below ts v w, below-fits ts v w);
      would = λ ts v w. (would_said ts v w, would_back ts v w);
      not = λ ts v w. (not-said ts v w, not_back ts v w);
      operand = of_operand;
      one = one_of;
      apart = λ ts v w. (fits-or_would ts v w, fits-or-not ts v w, would_or-not ts v w);
      related = λ library section j e v w. (fits_related (accepted_passes library section e) v w, would_related (accepted_passes library section e) v w);
    }
