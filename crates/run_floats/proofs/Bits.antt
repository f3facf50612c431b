-- Floats and their bits, once over the format: what a value is read as, and what an operation's result is written as.
use Prim.Native.Nat.{ℕ}
use mathlib.Core.Path.{◌≡◌, refl, sym, ap, ap₂, ◌∙◌}
use mathlib.Core.Bool.{true}
use mathlib.Core.Option.{Option, none, some}
use Rattle.std.specs.Prelude.{Ok}
use native.Mathlib.Nat.{mod-eq_of_lt}
use lib.Dec.{T}
use lib.Ieee.{Float, nan, inf, fin, Format, binary32, binary64, fits, of_bits, to_bits, is_nan}
use lib.Ieee.Bits.{of_bits-to_bits, to_bits-lt}
use lib.Ieee.Fits.{add-fits, sub-fits, mul-fits, div-fits}
use denote.Floats.{passes}
use Rattle.scope.specs.Reading.{given}
use Rattle.scope.specs.Machine.{number}
use Rattle.scope.proofs.Impossible.{impossible}
use Rattle.scope.proofs.Pairs.{some_is_one}
use Rattle.run_values.specs.Values.{within}
use Rattle.run_float_bits.specs.Formats.{width_of}
use Rattle.run_float_bits.proofs.Tied.{add_is, sub_is, mul_is, div_is}
use Rattle.run_value.specs.declared.Value.{Value as Carrier}
use Rattle.run_value.specs.Carried.{decoded}
use Rattle.run_calculated.specs.declared.Calculated
use Rattle.run_calculated.specs.Calculations.{bits_as, TwoIs}
use Rattle.run_calculated.proofs.Exits.{two_is}
use Rattle.run_floats.specs.declared.FloatDeed
use Rattle.run_floats.specs.declared.FloatDeed.{FloatDeed}
use Rattle.run_floats.specs.FloatDeeds.{operated, deed_bits, kind_of, float_of}

-- a float that fits is written within its width, and read back
pub in_width : (f : Format) (x : Float) → T (fits f x) → within (kind_of f) (to_bits f x) ≡ to_bits f x
in_width binary32 x h = mod-eq_of_lt (to_bits-lt binary32 x h)
in_width binary64 x h = mod-eq_of_lt (to_bits-lt binary64 x h)

pub read_back : (f : Format) (x : Float) → fits f x ≡ true → of_bits f (within (kind_of f) (to_bits f x)) ≡ x
read_back f x e = ap (of_bits f) (in_width f x (passes (fits f x) e)) ∙ of_bits-to_bits f x (passes (fits f x) e)

-- the one float that is no number
pub only_nan : (x : Float) → is_nan x ≡ true → nan ≡ x
unfolding is_nan
only_nan nan e = refl
only_nan (inf s) e = impossible cc
only_nan (fin s m g) e = impossible cc

-- an operation, on what two patterns are read as
deed_is : (f : Format) (deed : FloatDeed) (a b : ℕ) → to_bits f (operated f deed (of_bits f a) (of_bits f b)) ≡ deed_bits deed (width_of f) a b
deed_is f FloatDeed.TheVariants.Add a b = add_is f a b
deed_is f FloatDeed.TheVariants.Sub a b = sub_is f b a
deed_is f FloatDeed.TheVariants.Mul a b = mul_is f a b
deed_is f FloatDeed.TheVariants.Div a b = div_is f a b

deed_fits : (f : Format) (deed : FloatDeed) (x y : Float) → T (fits f (operated f deed x y))
deed_fits f FloatDeed.TheVariants.Add x y = add-fits f x y
deed_fits f FloatDeed.TheVariants.Sub x y = sub-fits f x y
deed_fits f FloatDeed.TheVariants.Mul x y = mul-fits f x y
deed_fits f FloatDeed.TheVariants.Div x y = div-fits f x y

-- the bits of a value that is read as a float
pub record BitsOf (f : Format) (v : Carrier) (x : Float) : Type 0 where
  pub bits : ℕ
  pub are : bits_as (kind_of f) (decoded v) ≡ some bits
  pub read : of_bits f bits ≡ x

pub bits_of : (f : Format) (v : Carrier) {x : Float} → float_of f (decoded v) ≡ some x → BitsOf f v x
bits_of f v {x} e = go (bits_as (kind_of f) (decoded v)) refl e
  where
    go : (o : Option ℕ) → bits_as (kind_of f) (decoded v) ≡ o → given o none (λ n. some (of_bits f n)) ≡ some x → BitsOf f v x
    go none is h = impossible cc
    go (some n) is h = record { bits = n; are = is; read = some_is_one h }

pub none_of : (f : Format) (v : Carrier) → float_of f (decoded v) ≡ none → bits_as (kind_of f) (decoded v) ≡ none
none_of f v e = go (bits_as (kind_of f) (decoded v)) e
  where
    go : (o : Option ℕ) → given o none (λ n. some (of_bits f n)) ≡ none → o ≡ none
    go none h = refl
    go (some n) h = impossible cc

-- its result, as a value of the machine
pub reckoned : (f : Format) (deed : FloatDeed) {first second : Carrier} {x y z : Float} {r : Carrier} → float_of f (decoded first) ≡ some y → float_of f (decoded second) ≡ some x → z ≡ operated f deed x y → decoded r ≡ number (kind_of f) (within (kind_of f) (to_bits f z)) → TwoIs (kind_of f) (kind_of f) (deed_bits deed (width_of f)) first second (Ok (Calculated.TheVariants.OfTwo r))
reckoned f deed {first} {second} {x} {y} {z} {r} e g h is =
    let top = bits_of f first e in
    let below = bits_of f second g in
    let result : to_bits f z ≡ deed_bits deed (width_of f) below.bits top.bits =
    ap (to_bits f) (h ∙ ap₂ (operated f deed) (sym below.read) (sym top.read)) ∙ deed_is f deed below.bits top.bits in
    let small : T (fits f z) = rw h (deed_fits f deed x y) in
    two_is (kind_of f) (kind_of f) (deed_bits deed (width_of f)) top.are below.are (is ∙ ap (number (kind_of f)) (in_width f z small ∙ result))
