-- Each way out of a numeric instruction's move.
use Prim.Native.Nat.{ℕ, ◌≤◌}
use mathlib.Core.Path.{◌≡◌, refl, sym, ap, ap₂, ◌∙◌}
use Rattle.std.specs.Prelude.{Ok, Err}
use mathlib.Core.Option.{Option, none, some}
use mathlib.Core.List.{List, [], ◌∷◌}
use native.Mathlib.Omega.{arith}
use lib.ListN.{length, get_or, drop}
use Rattle.scope.specs.Told.{Maybe}
use Rattle.scope.specs.Reading.{given}
use Rattle.scope.specs.Refusals.{trap_other_numeric}
use Rattle.scope.specs.Numeric.{Numeric, numeric_of}
use Rattle.scope.specs.Arithmetic.{Deed, of_one, of_two, deed_of}
use Rattle.scope.specs.Instructions.{numeric}
use Rattle.scope.specs.Machine.{Value, null, number, Machine, Program, do_op}
use Rattle.scope.proofs.Impossible.{contradiction}
use Rattle.run_value.specs.declared.Value.{Value as Carrier}
use Rattle.run_value.specs.Carried.{decoded}
use Rattle.run_calculated.specs.declared.Calculated
use Rattle.run_calculated.specs.declared.Uncalculated
use Rattle.run_calculated.specs.Calculations.{Calculation, Comes, one_gives, two_give, other, wrong, bits_as, by_one, by_two, by_deed, comes_to, told, CalculatedIs}
use Rattle.run_calculated.proofs.Laws.{done, numeric_is}
use Rattle.run_stack.specs.Pile.{head_of}
use Rattle.run_state.specs.declared.Move
use Rattle.run_state.specs.Planned.{Seen, PairPlans}
use Rattle.run_state.proofs.Moving.{strays, trapping, giving}
use Rattle.run_move_numbers.specs.Operands.{OperandIs}

-- an operand

topmost_is : (vs : List Value) → given (head_of vs) null (λ v. v) ≡ get_or vs 0 null
topmost_is [] = refl
topmost_is (v ∷ vs) = refl

under_is : (vs : List Value) → given (head_of (drop 1 vs)) null (λ v. v) ≡ get_or vs 1 null
under_is [] = refl
under_is (v ∷ []) = refl
under_is (v ∷ w ∷ vs) = refl

seen_is : {vs : List Value} {t : Maybe Carrier} {x : Carrier} → Seen vs t → OperandIs t x → decoded x ≡ given (head_of vs) null (λ v. v)
seen_is s a = a.is ∙ ap (λ (v : Option Value). given v null (λ u. u)) s.is

-- a result has the operands that it is of

no_result : (k : Numeric) (deed : Deed) → by_deed k null null deed ≡ wrong
unfolding by_one by_two
no_result k (of_one f) = refl
no_result k (of_two f) = refl

no-two : (k : Numeric) (deed : Deed) (v : Value) {r : Value} → two_give r ≡ by_deed k v null deed → ⊥
unfolding by_one by_two
no-two k (of_one f) v {r} e = go (bits_as k.kind v) e
  where
    go : (b : Option ℕ) → two_give r ≡ given b wrong (λ a. one_gives (number k.result (f a))) → ⊥
    go none e = contradiction cc
    go (some a) e = contradiction cc
no-two k (of_two f) v {r} e = go (bits_as k.kind v) e
  where
    go : (b : Option ℕ) → two_give r ≡ given b wrong (λ a. wrong) → ⊥
    go none e = contradiction cc
    go (some a) e = contradiction cc

-- whatever a code does, a result comes by a deed
by_a_deed :
    (code : ℕ) (first second : Value) {want : Comes} → want ≡ comes_to code first second
    → (want ≡ other → ⊥) → (want ≡ wrong → ⊥) → ((k : Numeric) (deed : Deed) → want ≡ by_deed k first second deed → ⊥) → ⊥
unfolding comes_to
by_a_deed code first second {want} e others wrongs deeds = go (deed_of code) (numeric_of code) e
  where
    go : (deed : Option Deed) (kinds : Option Numeric) → want ≡ given deed other (λ d. given kinds wrong (λ k. by_deed k first second d)) → ⊥
    go none kinds e = others e
    go (some d) none e = wrongs e
    go (some d) (some k) e = deeds k d e

one-low : (vs : List Value) (code : ℕ) {r : Value} → one_gives r ≡ comes_to code (get_or vs 0 null) (get_or vs 1 null) → 1 ≤ length vs
one-low [] code e =
    absurd (by_a_deed code null null e (λ q. contradiction cc) (λ q. contradiction cc) (λ k d q. let none_of = q ∙ no_result k d in contradiction cc))
one-low (v ∷ vs) code e = omega arith

two-low : (vs : List Value) (code : ℕ) {r : Value} → two_give r ≡ comes_to code (get_or vs 0 null) (get_or vs 1 null) → 2 ≤ length vs
two-low [] code e =
    absurd (by_a_deed code null null e (λ q. contradiction cc) (λ q. contradiction cc) (λ k d q. no-two k d null q))
two-low (v ∷ []) code e =
    absurd (by_a_deed code v null e (λ q. contradiction cc) (λ q. contradiction cc) (λ k d q. no-two k d v q))
two-low (v ∷ w ∷ vs) code e = omega arith

-- the move

module _ {first second : Maybe Carrier} {code : ℕ} {x y : Carrier} (a : OperandIs first x) (b : OperandIs second y) {r : Calculation} (c : CalculatedIs code x y r) where
  comes : (m : Machine) → Seen m.operands first → Seen (drop 1 m.operands) second → {q : Calculation} → r ≡ q → told q ≡ comes_to code (get_or m.operands 0 null) (get_or m.operands 1 null)
  comes m top next e =
      ap told (sym e)
      ∙ c.is
      ∙ ap₂ (comes_to code) (seen_is top a ∙ topmost_is m.operands) (seen_is next b ∙ under_is m.operands)

  does : (p : Program) (m : Machine) → Seen m.operands first → Seen (drop 1 m.operands) second → {q : Calculation} → r ≡ q → do_op p m m.operands (numeric code) ≡ done m m.operands (told q)
  unfolding do_op
  does p m top next e =
      numeric_is m m.operands code ∙ ap (done m m.operands) (sym (comes m top next e))

  pub gives_one : {v : Carrier} → r ≡ Ok (Calculated.TheVariants.OfOne v) → PairPlans first second (numeric code) (Move.TheVariants.Gives 1 v)
  gives_one {v} e =
      record { is = λ p codes m top next. giving 1 v (does p m top next e) (one-low m.operands code (comes m top next e)) }

  pub gives-two : {v : Carrier} → r ≡ Ok (Calculated.TheVariants.OfTwo v) → PairPlans first second (numeric code) (Move.TheVariants.Gives 2 v)
  gives-two {v} e =
      record { is = λ p codes m top next. giving 2 v (does p m top next e) (two-low m.operands code (comes m top next e)) }

  pub traps_other : r ≡ Err Uncalculated.TheVariants.Other → PairPlans first second (numeric code) (Move.TheVariants.Traps trap_other_numeric)
  traps_other e = record { is = λ p codes m top next. trapping (does p m top next e) }

  pub strays_wrong : r ≡ Err Uncalculated.TheVariants.Wrong → PairPlans first second (numeric code) Move.TheVariants.Astray
  strays_wrong e = record { is = λ p codes m top next. strays (does p m top next e) }

pub ruleset numeric_exits = (gives_one, gives-two, traps_other, strays_wrong)
