-- Each way out of the functions on values.
use Prim.Native.Nat.{ℕ, ◌-◌, ◌*◌, ◌%◌, ◌^◌, ◌≤◌, ◌<◌}
use mathlib.Core.Path.{◌≡◌, refl, sym, ap, ◌∙◌}
use mathlib.Core.Bool.{Bool, false}
use native.Mathlib.Omega.{arith}
use lib.Ieee.{Float, Format, binary32, binary64, top, of_bits, to_bits, is_nan}
use lib.Ieee.Bits.{to_bits-of_bits}
use borrow.Author.Tests.{ne_eqb}
use Rattle.scope.specs.Syntax.{i32, f32, f64}
use Rattle.scope.specs.Machine.{number}
use Rattle.run_values.specs.Layout.{i32_kind, i64_kind, f32_kind, null_kind, object_kind}
use Rattle.run_values.specs.Values.{within, value_at}
use Rattle.run_values.proofs.Laws.{value_null, value_object, value_number}
use Rattle.run_value.specs.declared.Value
use Rattle.run_value.specs.declared.Value.{Value as Carrier}
use Rattle.run_value.specs.Carried.{SingleIs, DoubleIs, ValueIs}
use Rattle.run_value.proofs.Laws.{within-twice}

-- floats and their bits, once over the format

written_back : (f : Format) (b : ℕ) {q : Bool} → b < 2 * top f → q ≡ is_nan (of_bits f b) → q ≡ false → to_bits f (of_bits f b) ≡ b
written_back f b h e z = to_bits-of_bits f b h (rw (← e, z) tt)

-- single, double

module _ (b : ℕ) {x : Float} {q : Bool} where
  pub single-number : x ≡ of_bits binary32 b → q ≡ is_nan x → q ≡ false → b < 2 ^ 32 → SingleIs b (Value.TheVariants.F32 x)
  single-number is e z h = record { is = rw is (ap (λ (n : ℕ). number f32 (within f32 n)) (written_back binary32 b h (e ∙ ap is_nan is) z)) }

  pub double-number : x ≡ of_bits binary64 b → q ≡ is_nan x → q ≡ false → b < 2 ^ 64 → DoubleIs b (Value.TheVariants.F64 x)
  double-number is e z h = record { is = rw is (ap (λ (n : ℕ). number f64 (within f64 n)) (written_back binary64 b h (e ∙ ap is_nan is) z)) }

pub ruleset float_exits = (single-number, double-number)

-- value_of

module _ {k n : ℕ} where
  pub from_i32 : k ≤ i32_kind → ValueIs k n (Value.TheVariants.I32 (n % 4294967296))
  from_i32 h =
      let low : k - 1 ≡ 0 = omega arith in
      record { is = ap (number i32) (within-twice i32 n) ∙ sym (value_number {k = k} n (λ e. omega arith) (λ e. omega arith) ∙ rw low refl) }

  pub from_object : k ≡ object_kind → ValueIs k n (Value.TheVariants.Object n)
  from_object e = record { is = sym (value_object n e) }

  pub from_null : k ≡ null_kind → ValueIs k n Value.TheVariants.Null
  from_null e = record { is = sym (value_null n e) }

  pub from_i64 : k ≡ i64_kind → ValueIs k n (Value.TheVariants.I64 n)
  unfolding value_at
  from_i64 e = record { is = rw e refl }

  pub from_f32 : {r : Carrier} → k ≡ f32_kind → SingleIs (n % 4294967296) r → ValueIs k n r
  unfolding value_at
  from_f32 e a = record { is = a.is ∙ rw e (ap (number f32) (within-twice f32 n)) }

  pub from_f64 : {r : Carrier} → i32_kind < k → (k ≡ object_kind → ⊥) → (k ≡ null_kind → ⊥) → (k ≡ i64_kind → ⊥) → (k ≡ f32_kind → ⊥) → DoubleIs n r → ValueIs k n r
  from_f64 h o z i s a =
      record {
        is =
            a.is
            ∙ sym
            (value_number {k = k} n z o
            ∙ rw (ne_eqb (k - 1) 0 (λ e. omega arith), ne_eqb (k - 1) 1 (λ e. i (omega arith)), ne_eqb (k - 1) 2 (λ e. s (omega arith))) refl);
      }

pub ruleset value_exits = (from_i32, from_object, from_null, from_i64, from_f32, from_f64)
