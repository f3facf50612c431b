-- Each way out of the function that splits the last type off a list.
use Prim.Native.Nat.{ℕ, zero, suc, ◌+◌, ◌-◌, ◌/◌, ◌%◌}
use mathlib.Core.Path.{◌≡◌, refl, sym, ap}
use mathlib.Core.Option.{some}
use mathlib.Core.List.{List, ◌∷◌}
use native.Mathlib.Omega.{arith}
use native.Mathlib.Nat.{add-zero}
use native.Mathlib.Numerals.{sub-one}
use lib.ListN.{get_or}
use Rattle.std.specs.Prelude.{None, Some}
use Rattle.scope.specs.Syntax.{Val}
use Rattle.scope.specs.BodyRules.{holds_of, last_of}
use Rattle.lent_u16.specs.Words.{WordAt}
use Rattle.type_table.specs.View.{val_at_code, field_at_code, codes_at}
use Rattle.type_table.proofs.Laws.{no-codes}
use Rattle.body_state.specs.declared.Values.{Values}
use Rattle.body_state.specs.declared.Values
use Rattle.body_state.specs.Layout.{code_bound}
use Rattle.body_state.specs.State.{val_at_word, values_of}
use Rattle.body_plan_carried.specs.Carried.{SplitOf}

module _ {A : Type 0} (f : ℕ → A) (codes : List ℕ) where
  last_code : (at n : ℕ) → last_of (codes_at f codes at (suc n)) ≡ some (codes_at f codes at n, f (get_or codes (at + n) 0))
  unfolding codes_at last_of
  last_code at zero = rw add-zero
  last_code at (suc n) =
      let same : at + 1 + n ≡ at + suc n = omega arith in rw (last_code (at + 1) n, same)

  last_of_lem : (at n : ℕ) {w : ℕ} → (n ≡ 0 → ⊥) → WordAt codes (at + (n - 1)) w → last_of (codes_at f codes at n) ≡ some (codes_at f codes at (n - 1), f w)
  last_of_lem at zero h a = absurd (h refl)
  last_of_lem at (suc n) h a = rw (a.is, sub-one (suc n)) (last_code at n)

-- fields, by what they hold

held : (codes : List ℕ) (at n : ℕ) → holds_of (codes_at field_at_code codes at n) ≡ codes_at (λ c. val_at_code (c / 2)) codes at n
unfolding codes_at field_at_code
held codes at zero = refl
held codes at (suc n) = ap (λ (vs : List Val). val_at_code (get_or codes at 0 / 2) ∷ vs) (held codes (at + 1) n)

module _ (codes : List ℕ) (values : Values) {first n : ℕ} where
  module _ (e : values ≡ Values.TheVariants.Types first n) where
    pub no_types : n ≡ 0 → SplitOf codes values None
    unfolding values_of last_of
    no_types z = record { is = rw (e, no-codes val_at_code codes first n (omega arith)) }

    pub last_type : (n ≡ 0 → ⊥) → {w : ℕ} → WordAt codes (first + (n - 1)) w → SplitOf codes values (Some (Values.TheVariants.Types first (n - 1), w))
    unfolding values_of
    last_type some' a = record { is = rw e (sym (last_of_lem val_at_code codes first n some' a)) }

  module _ (e : values ≡ Values.TheVariants.Fields first n) where
    pub no_fields : n ≡ 0 → SplitOf codes values None
    unfolding values_of last_of
    no_fields z = record { is = rw (e, no-codes field_at_code codes first n (omega arith)) }

    pub last_field : (n ≡ 0 → ⊥) → {w : ℕ} → WordAt codes (first + (n - 1)) w → SplitOf codes values (Some (Values.TheVariants.Fields first (n - 1), w / 2))
    unfolding values_of
    last_field some' a =
        record { is = rw (e, held codes first n, held codes first (n - 1)) (sym (last_of_lem (λ c. val_at_code (c / 2)) codes first n some' a)) }

pub only_type : (codes : List ℕ) (values : Values) {c : ℕ} → values ≡ Values.TheVariants.One c → SplitOf codes values (Some (Values.TheVariants.Types 0 0, c % code_bound))
unfolding values_of val_at_word last_of codes_at
only_type codes values e = record { is = rw e }

pub ruleset last_exits = (no_types, last_type, no_fields, last_field, only_type)
