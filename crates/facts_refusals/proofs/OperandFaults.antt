-- What is not taken is 31 or 20, by the first operand at fault: each operand has one of the three outcomes, and from the top the
-- first that does not fit decides.
use mathlib.Core.Path.{◌≡◌, refl, sym, ◌∙◌}
use mathlib.Core.Bool.{Bool, true, false, cond, false≢true}
use mathlib.Core.List.{List, [], ◌∷◌}
use Rattle.scope.specs.Refusals.{bad_operand, only_null}
use Rattle.scope.specs.Syntax.{num, ref, nullable, non_null, Types}
use Rattle.scope.specs.Order.{Fit, it_fits, but_for_null, unfit}
use Rattle.scope.specs.BodyRules.{Wanted, Ruled, allowed, fault, and_ruled}
use Rattle.scope.specs.Bodies.{Operand, known, unknown, unknown_reference, fits, non_null_of, fit, operand_test, Taken, also_taken, take_all}
use Rattle.scope.proofs.Impossible.{contradiction}
use Rattle.facts_sections.specs.FirstFault as rules
use Rattle.facts_bodies.specs.Premises.{Meets}
use Rattle.facts_bodies.proofs.Premises.{Ordered, tested_meets, meets_tested}
use Rattle.facts_refusals.specs.Bodies.{ButForNull, but_for_null_lem, NullFirst, null_here, null_below_lem}

module _ {ts : Types} (ordered : Ordered ts) where
  -- the outcome of one operand, by the relation
  data Outcome (o : Operand) (w : Wanted) : Fit → Type 0 where
    it_meets : Meets ts o w → Outcome o w it_fits
    null_alone : ButForNull ts o w → Outcome o w but_for_null
    no_way : ¬ Meets ts o w → ¬ ButForNull ts o w → Outcome o w unfit

  not_met : (o : Operand) (w : Wanted) → fits ts o w ≡ false → ¬ Meets ts o w
  not_met o w e m = false≢true (sym e ∙ meets_tested ordered m)

  -- made non-null, only a nullable reference becomes another operand
  null_only : (o : Operand) (w : Wanted) → fits ts o w ≡ false → fits ts (non_null_of o) w ≡ true → ButForNull ts o w
  unfolding fits
  null_only (known (num n)) w e f = absurd (false≢true (sym e ∙ f))
  null_only (known (ref true h)) w e f = but_for_null_lem (not_met (known (nullable h)) w e) (tested_meets ts (known (non_null h)) w f)
  null_only (known (ref false h)) w e f = absurd (false≢true (sym e ∙ f))
  null_only unknown w e f = absurd (false≢true (sym e))
  null_only unknown_reference w e f = absurd (false≢true (sym e ∙ f))

  not_null_only : (o : Operand) (w : Wanted) → fits ts (non_null_of o) w ≡ false → ¬ ButForNull ts o w
  not_null_only (known (ref true h)) w f (but_for_null_lem no' yes') = false≢true (sym f ∙ meets_tested ordered yes')
  not_null_only (known (num _)) w f x6 = elim x6 [ ]
  not_null_only (known (ref false h)) w f x9 = elim x9 [ ]
  not_null_only unknown w f x3 = elim x3 [ ]
  not_null_only unknown_reference w f x4 = elim x4 [ ]

  outcome : (o : Operand) (w : Wanted) → Outcome o w (fit ts o w)
  unfolding fit
  outcome o w = go (fits ts o w) (fits ts (non_null_of o) w) refl refl
    where
      go : (b c : Bool) → fits ts o w ≡ b → fits ts (non_null_of o) w ≡ c → Outcome o w (cond b it_fits (cond c but_for_null unfit))
      go true c e f = it_meets (tested_meets ts o w e)
      go false true e f = null_alone (null_only o w e f)
      go false false e f = no_way (not_met o w e) (not_null_only o w f)

  pub data TakenOr (ws : List Wanted) (os : List Operand) : Ruled Taken → Type 0 where
    taken_so : {t : Taken} → (NullFirst ts ws os → ⊥) → TakenOr ws os (allowed t)
    thirty_one : NullFirst ts ws os → TakenOr ws os (fault only_null)
    twenty : (NullFirst ts ws os → ⊥) → TakenOr ws os (fault bad_operand)

  no_null_below : {w : Wanted} {ws : List Wanted} {o : Operand} {os : List Operand} → Meets ts o w → (NullFirst ts ws os → ⊥) → NullFirst ts (w ∷ ws) (o ∷ os) → ⊥
  no_null_below m none_of (null_here (but_for_null_lem no' yes')) = no' m
  no_null_below m none_of (null_below_lem n more) = none_of more

  no_null_unfit : {w : Wanted} {ws : List Wanted} {o : Operand} {os : List Operand} → ¬ Meets ts o w → ¬ ButForNull ts o w → NullFirst ts (w ∷ ws) (o ∷ os) → ⊥
  no_null_unfit no' other (null_here b) = other b
  no_null_unfit no' other (null_below_lem m more) = no' m

  also_or : {w : Wanted} {ws : List Wanted} {o : Operand} {os : List Operand} (f : Taken → Taken) {r : Ruled Taken} → Meets ts o w → TakenOr ws os r → TakenOr (w ∷ ws) (o ∷ os) (and_ruled r (λ t. allowed (f t)))
  also_or f m (taken_so none_of) = taken_so (no_null_below m none_of)
  also_or f m (thirty_one n) = thirty_one (null_below_lem m n)
  also_or f m (twenty none_of) = twenty (no_null_below m none_of)

  -- such an operand is there, and is asked for
  there_some : {ws : List Wanted} {os : List Operand} → NullFirst ts ws os → os ≡ [] → ⊥
  there_some (null_here b) e = contradiction cc
  there_some (null_below_lem m more) e = contradiction cc

  asked-some : {ws : List Wanted} {os : List Operand} → NullFirst ts ws os → ws ≡ [] → ⊥
  asked-some (null_here b) e = contradiction cc
  asked-some (null_below_lem m more) e = contradiction cc

  nothing_there_lem : {ws : List Wanted} → NullFirst ts ws [] → ⊥
  nothing_there_lem n = there_some n refl

  unknowns_or : (ws : List Wanted) (f : Taken → Taken) {r : Ruled Taken} → TakenOr ws [] r → {w : Wanted} → TakenOr (w ∷ ws) [] (and_ruled r (λ t. allowed (f t)))
  unknowns_or ws f (taken_so none_of) = taken_so nothing_there_lem
  unknowns_or ws f (thirty_one n) = absurd (nothing_there_lem n)
  unknowns_or ws f (twenty none_of) = twenty nothing_there_lem

  pub take-or : (dead : Bool) (ws : List Wanted) (os : List Operand) → TakenOr ws os (take_all ts dead ws os)
  unfolding take_all
  take-or dead [] os = taken_so (λ n. asked-some n refl)
  take-or true (w ∷ ws) [] = unknowns_or ws (also_taken unknown) (take-or true ws [])
  take-or false (w ∷ ws) [] = twenty nothing_there_lem
  take-or dead (w ∷ ws) (o ∷ os) = go (fit ts o w) (outcome o w) (take-or dead ws os)
    where
      go : (f : Fit) → Outcome o w f → TakenOr ws os (take_all ts dead ws os) → TakenOr (w ∷ ws) (o ∷ os) (operand_test f (and_ruled (take_all ts dead ws os) (λ t. allowed (also_taken o t))))
      go it_fits (it_meets m) later = also_or (also_taken o) m later
      go but_for_null (null_alone b) later = thirty_one (null_here b)
      go unfit (no_way no' other) later = twenty (no_null_unfit no' other)
