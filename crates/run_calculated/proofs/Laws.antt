-- What a numeric code comes to on the two topmost operands is what the machine does with it (`do_numeric`). An operand that is
-- missing counts as null, which is of no number's kind.
use Prim.Native.Nat.{ℕ}
use mathlib.Core.Path.{◌≡◌, refl}
use mathlib.Core.Bool.{Bool, true, false, cond}
use mathlib.Core.Option.{Option, none, some}
use mathlib.Core.List.{List, [], ◌∷◌}
use lib.ListN.{get_or, drop}
use Rattle.scope.specs.Reading.{given}
use Rattle.scope.specs.Syntax.{Number}
use Rattle.scope.specs.Order.{same_number}
use Rattle.scope.specs.Refusals.{trap_other_numeric}
use Rattle.scope.specs.Numeric.{Numeric, numeric_of}
use Rattle.scope.specs.Arithmetic.{Deed, of_one, of_two, deed_of}
use Rattle.scope.specs.Machine.{Value, number, null, object, Machine, Outcome, goes, traps, stuck, with_operands, on_number, calculate, do_numeric}
use Rattle.run_calculated.specs.Calculations.{Comes, one_gives, two_give, other, wrong, bits_as, by_one, by_two, by_deed, comes_to}

-- what the machine does by it, with these operands
abbrev pub done : Machine → List Value → Comes → Outcome
done m vs (one_gives r) = goes (with_operands m (r ∷ drop 1 vs))
done m vs (two_give r) = goes (with_operands m (r ∷ drop 2 vs))
done m vs other = traps trap_other_numeric
done m vs wrong = stuck

-- a number of the kind, and so on as with its bits
as_number : (k : Number) (v : Value) (m : Machine) (vs : List Value) (f : ℕ → Outcome) (g : ℕ → Comes) → ((n : ℕ) → f n ≡ done m vs (g n)) → on_number k v f ≡ done m vs (given (bits_as k v) wrong g)
as_number k (number j n) m vs f g same = go (same_number j k)
  where
    go : (t : Bool) → cond t (f n) stuck ≡ done m vs (given (cond t (some n) none) wrong g)
    go true = same n
    go false = refl
as_number k null m vs f g same = refl
as_number k (object o) m vs f g same = refl

-- none of that kind, whatever the first is
second_missing : (k : Number) (v : Value) (m : Machine) (vs : List Value) (g : ℕ → Comes) → stuck ≡ done m vs (given (bits_as k v) wrong (λ b. given (bits_as k null) wrong g))
second_missing k (number j n) m vs g = go (same_number j k)
  where
    go : (t : Bool) → stuck ≡ done m vs (given (cond t (some n) none) wrong (λ b. wrong))
    go true = refl
    go false = refl
second_missing k null m vs g = refl
second_missing k (object o) m vs g = refl

deed_is : (m : Machine) (kinds : Numeric) (vs : List Value) (deed : Deed) → calculate m kinds vs deed ≡ done m vs (by_deed kinds (get_or vs 0 null) (get_or vs 1 null) deed)
unfolding by_one by_two
deed_is m kinds [] (of_one f) = refl
deed_is m kinds (v ∷ vs) (of_one f) =
    as_number kinds.kind v m (v ∷ vs) (λ a. goes (with_operands m (number kinds.result (f a) ∷ vs))) (λ a. one_gives (number kinds.result (f a))) (λ a. refl)
deed_is m kinds [] (of_two f) = refl
deed_is m kinds (w ∷ []) (of_two f) = second_missing kinds.kind w m (w ∷ []) (λ a. two_give (number kinds.result (f a a)))
deed_is m kinds (w ∷ v ∷ vs) (of_two f) =
    as_number kinds.kind w m (w ∷ v ∷ vs)
    (λ b. on_number kinds.kind v (λ a. goes (with_operands m (number kinds.result (f a b) ∷ vs))))
    (λ b. given (bits_as kinds.kind v) wrong (λ a. two_give (number kinds.result (f a b))))
    (λ b.
    as_number kinds.kind v m (w ∷ v ∷ vs)
    (λ a. goes (with_operands m (number kinds.result (f a b) ∷ vs)))
    (λ a. two_give (number kinds.result (f a b)))
    (λ a. refl))

pub numeric_is : (m : Machine) (vs : List Value) (code : ℕ) → do_numeric m vs code ≡ done m vs (comes_to code (get_or vs 0 null) (get_or vs 1 null))
unfolding do_numeric comes_to
numeric_is m vs code = go (deed_of code) (numeric_of code)
  where
    go :
        (deed : Option Deed) (kinds : Option Numeric)
        → given deed (traps trap_other_numeric) (λ d. given kinds stuck (λ k. calculate m k vs d))
        ≡ done m vs (given deed other (λ d. given kinds wrong (λ k. by_deed k (get_or vs 0 null) (get_or vs 1 null) d)))
    go none kinds = refl
    go (some d) none = refl
    go (some d) (some k) = deed_is m k vs d
