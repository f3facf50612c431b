-- Each way out of an instruction, over the format.
use Rattle.std.proofs.Common.{◌≡◌, ℕ, ◌+◌, ◌-◌, ◌^◌, Bool, true, false, cond, refl, ap, ◌∙◌, inl, inr, arith, le-leb}
use mathlib.Core.Option.{none, some}
use lib.Ieee.{Float, Format, binary32, binary64, fits, to_bits, is_nan}
use borrow.Author.Tests.{lt-leb}
use Rattle.std.specs.Prelude.{Some, Ok, Err, IsErr, IsErrAnd}
use Rattle.scope.specs.Syntax.{Number, i32, i64, f32, f64}
use Rattle.scope.specs.Order.{same_number}
use Rattle.scope.specs.Integers.{top_turned}
use Rattle.scope.specs.Floats.{float_neg}
use Rattle.scope.specs.Machine.{number}
use Rattle.scope.proofs.Impossible.{impossible}
use Rattle.scope.proofs.Order.{same_number_equal}
use Rattle.scope.proofs.Pairs.{some_is_one}
use Rattle.scope.proofs.Units.{lt-or-le}
use Rattle.run_values.specs.Values.{within, width}
use Rattle.run_float_bits.specs.Formats.{width_of}
use Rattle.run_value.specs.declared.Value
use Rattle.run_value.specs.declared.Value.{Value as Carrier}
use Rattle.run_value.specs.Carried.{decoded}
use Rattle.run_value.proofs.Laws.{within-twice}
use Rattle.run_calculated.specs.declared.Calculated
use Rattle.run_calculated.specs.declared.Uncalculated.{Uncalculated}
use Rattle.run_calculated.specs.Calculations.{Calculation, OneIs, TwoIs, bits_as}
use Rattle.run_words.specs.Words.{WordTaken}
use Rattle.run_calculated.proofs.Exits.{one_is, first_wrong, second_wrong}
use Rattle.run_floats.specs.declared.FloatDeed.{FloatDeed}
use Rattle.run_floats.specs.FloatDeeds.{operated, deed_bits, kind_of}
use Rattle.run_floats.specs.Reals.{RealIs, RealTaken, CarriedIs}
use Rattle.run_floats.proofs.Bits.{read_back, only_nan, none_of, bits_of, reckoned}

-- an operand, read

own : (f : Format) (n : ℕ) → bits_as (kind_of f) (number (kind_of f) n) ≡ some n
own binary32 n = refl
own binary64 n = refl

pub real_is : (f : Format) {v : Carrier} {x : Float} → decoded v ≡ number (kind_of f) (within (kind_of f) (to_bits f x)) → fits f x ≡ true → RealIs f (λ y. y) v (Some x)
real_is f {v} {x} e h = record { is = rw (e, own f (within (kind_of f) (to_bits f x))) (ap some (read_back f x h)) }

-- a result that is no number

pub nan_carried_32 : (x : Float) → is_nan x ≡ true → CarriedIs binary32 (to_bits binary32 x) (Value.TheVariants.Nan32 0x7fc0_0000)
unfolding to_bits
nan_carried_32 x e = record { is = ap (λ y. number (kind_of binary32) (within (kind_of binary32) (to_bits binary32 y))) (only_nan x e) }

pub nan_carried_64 : (x : Float) → is_nan x ≡ true → CarriedIs binary64 (to_bits binary64 x) (Value.TheVariants.Nan64 0x7ff8_0000_0000_0000)
unfolding to_bits
nan_carried_64 x e = record { is = ap (λ y. number (kind_of binary64) (within (kind_of binary64) (to_bits binary64 y))) (only_nan x e) }

pub ruleset reads = (real_is, nan_carried_32, nan_carried_64)

-- an operand of another kind

module _ {X : Type 0} (float : X → Float) (f : Format) {v : Carrier} {e : Uncalculated} (not : RealTaken f float v (Err e)) (j : Number) where
  pub no_first : (g : ℕ → ℕ → ℕ) {second : Carrier} {q : Calculation} → IsErr q × IsErrAnd q (λ x. x ≡ e) → TwoIs (kind_of f) j g v second q
  no_first g {second} {q = Ok a} (b, n) = absurd n
  no_first g {second} {q = Err x} (b, is) = rw (is, not.wrong e refl) (first_wrong (kind_of f) j g (none_of f v (not.missing e refl)))

  pub no_second : (g : ℕ → ℕ → ℕ) {first : Carrier} {b : X} {q : Calculation} → RealTaken f float first (Ok b) → IsErr q × IsErrAnd q (λ x. x ≡ e) → TwoIs (kind_of f) j g first v q
  no_second g {first} {b} {q = Ok a} there (c, n) = absurd n
  no_second g {first} {b} {q = Err x} there (c, is) =
      rw (is, not.wrong e refl) (second_wrong (kind_of f) j g (bits_of f first (there.is b refl)).are (none_of f v (not.missing e refl)))

-- of the kind

pub reckoned_is : {X : Type 0} (float : X → Float) (f : Format) (deed : FloatDeed) {first second : Carrier} {x y z : X} {r : Carrier} → RealTaken f float first (Ok y) → RealTaken f float second (Ok x) → float z ≡ operated f deed (float x) (float y) → CarriedIs f (to_bits f (float z)) r → TwoIs (kind_of f) (kind_of f) (deed_bits deed (width_of f)) first second (Ok (Calculated.TheVariants.OfTwo r))
reckoned_is float f deed {x = x} {y = y} top under h is = reckoned f deed (top.is y refl) (under.is x refl) h is.is

-- the sign's bit turned: half of all patterns further, and round

turned : (f : Format) (b : ℕ) → within (kind_of f) b ≡ b → top_turned (width (kind_of f)) b ≡ float_neg (width_of f) b
unfolding float_neg
turned binary32 b h = elim (lt-or-le b 0x8000_0000) [
  | inl l ↦ rw (lt-leb 0x8000_0000 b l) (omega arith)
  | inr l ↦ rw (le-leb 0x8000_0000 b l) (omega arith)
]
turned binary64 b h = elim (lt-or-le b 0x8000_0000_0000_0000) [
  | inl l ↦ rw (lt-leb 0x8000_0000_0000_0000 b l) (omega arith)
  | inr l ↦ rw (le-leb 0x8000_0000_0000_0000 b l) (omega arith)
]

-- a value's bits are within its width
kept : (k j : Number) (m : ℕ) {n : ℕ} → cond (same_number j k) (some (within j m)) none ≡ some n → within k n ≡ n
kept k j m {n} e = go (same_number j k) (same_number_equal j k) e
  where
    go : (b : Bool) → (b ≡ true → j ≡ k) → cond b (some (within j m)) none ≡ some n → within k n ≡ n
    go true same h = rw (← some_is_one h, ← same refl) (within-twice j m)
    go false same h = impossible cc

bits_within : (k : Number) (v : Carrier) {n : ℕ} → bits_as k (decoded v) ≡ some n → within k n ≡ n
bits_within k (Value.TheVariants.I32 n) e = kept k i32 n e
bits_within k (Value.TheVariants.I64 n) e = kept k i64 n e
bits_within k (Value.TheVariants.F32 x) e = kept k f32 (to_bits binary32 x) e
bits_within k (Value.TheVariants.F64 x) e = kept k f64 (to_bits binary64 x) e
bits_within k (Value.TheVariants.Nan32 n) e = kept k f32 n e
bits_within k (Value.TheVariants.Nan64 n) e = kept k f64 n e
bits_within k Value.TheVariants.Null e = impossible cc
bits_within k (Value.TheVariants.Object o) e = impossible cc

pub negated_is : {B : Type 0} (bits : B → ℕ) (f : Format) {v : Carrier} {b t : B} {n : ℕ} {r : Carrier} → WordTaken (kind_of f) bits v (Ok b) → bits t ≡ top_turned n (bits b) → n ≡ width (kind_of f) → CarriedIs f (bits t) r → OneIs (kind_of f) (kind_of f) (float_neg (width_of f)) v (Ok (Calculated.TheVariants.OfOne r))
negated_is bits f {v} {b} {t} taken e w is =
    let k = kind_of f in
    let there = taken.is b refl in
    let round : bits t ≡ top_turned (width k) (bits b) = e ∙ ap (λ (m : ℕ). top_turned m (bits b)) w in
    let kept : within k (bits t) ≡ top_turned (width k) (bits b) = ap (within k) round ∙ within-twice k (bits b + 2 ^ (width k - 1)) in
    one_is k k (float_neg (width_of f)) there (is.is ∙ ap (number k) (kept ∙ turned f (bits b) (bits_within k v there)))

pub ruleset exits = (no_first, no_second, reckoned_is, negated_is)
