-- The bytes of a float, read from the highest down: what was read so far is what the definition reads from here. And where the
-- input ends before them, the definition finds a byte missing too.
use Prim.Native.Nat.{ℕ, zero, suc, ◌+◌, ◌-◌, ◌*◌, ◌^◌, ◌≤◌, ◌<◌}
use mathlib.Core.Path.{◌≡◌, refl, sym, ap, ap₂, ◌∙◌}
use mathlib.Core.Option.{Option, none, some}
use mathlib.Core.List.{List}
use native.Mathlib.Omega.{arith}
use lib.ListN.{length, get_or, get_elem?}
use lib.Pow.{pow-add, pow_mono}
use mir.Syntax.{w8, w64}
use mir.Val.{Fits}
use Rattle.scope.specs.Told.{no_at}
use Rattle.std.specs.Prelude.{Ok, Err}
use Rattle.scope.specs.Refusals.{bytes_end}
use Rattle.scope.specs.Reading.{given}
use Rattle.scope.specs.Numbers.{little_endian, float_bytes}
use Rattle.scope.proofs.Impossible.{impossible}
use Rattle.scope.proofs.Told.{value_is}
use Rattle.number_floats.specs.Floats.{FloatLength, FloatRead}
use Rattle.number_bytes.proofs.Exits.{element_there, element_missing}

-- a byte more, below the others
lower : (n : ℕ) (s : List ℕ) (at : ℕ) {b v : ℕ} → get_elem? s at ≡ some b → little_endian n s (at + 1) ≡ some v → little_endian (suc n) s at ≡ some (b + 256 * v)
unfolding little_endian
lower n s at e f = rw (e, f)

-- a byte missing
lacks : (n : ℕ) (s : List ℕ) (at : ℕ) (o : Option ℕ) → get_elem? s at ≡ o → length s < at + suc n → (1 ≤ n → little_endian n s (at + 1) ≡ none)
    → given o none (λ b. given (little_endian n s (at + 1)) none (λ v. some (b + 256 * v))) ≡ none
lacks n s at none e h more = refl
lacks zero s at (some b) e h more = let m : get_elem? s at ≡ none = element_missing s at (omega arith) in impossible cc
lacks (suc n) s at (some b) e h more = rw (more (omega arith))

lacking : (n : ℕ) (s : List ℕ) (at : ℕ) → 1 ≤ n → length s < at + n → little_endian n s at ≡ none
unfolding little_endian
lacking zero s at l h = absurd (omega arith)
lacking (suc n) s at l h = lacks n s at (get_elem? s at) refl h (λ m. lacking n s (at + 1) m (omega arith))

pub float_short : {n : ℕ} → FloatLength n → (s : List ℕ) (at : ℕ) {there : ℕ} → there ≡ length s - at → there < n → FloatRead (2 ^ (8 * n)) (float_bytes n s at) (Err (no_at bytes_end at))
unfolding float_bytes
float_short {n} fit s at e h =
    record { is = rw (lacking n s at fit.some (omega arith)); small = λ v next e. impossible cc }

-- what the loop holds where i bytes are left to read

pub record Lower (n : ℕ) (s : List ℕ) (at bits i : ℕ) : Type 0 where
  pub small : bits < 2 ^ (8 * (n - i))
  pub same : little_endian (n - i) s (at + i) ≡ some bits

pub float_first : (n : ℕ) (s : List ℕ) (at : ℕ) → Lower n s at 0 n
unfolding little_endian
float_first n s at = let none_read : n - n ≡ 0 = omega arith in record { small = rw none_read (omega arith); same = rw none_read refl }

module _ {n : ℕ} {s : List ℕ} {at bits i : ℕ} (p : Lower n s at bits i) where
  module _ (fit : FloatLength n) (more : 0 < i) where
    bound : i ≤ n → bits < 2 ^ 56
    bound few =
        let w : 2 ^ (8 * (n - i)) ≤ 2 ^ 56 = pow_mono {i = 8 * (n - i)} {j = 56} (omega (arith, fit.fit)) in
        omega (arith, p.small)

    pub float_product : i ≤ n → Fits w64 (bits * 256)
    float_product few = let h : bits < 2 ^ 56 = bound few in record { fits = omega arith }

    pub float_sum : i ≤ n → {b : ℕ} → b < 256 → Fits w64 (bits * 256 + b)
    float_sum few k = let h : bits < 2 ^ 56 = bound few in record { fits = omega arith }

    pub float_turn : i ≤ n → at + n ≤ length s → ((k : ℕ) → Fits w8 (get_or s k 0)) → Lower n s at (bits * 256 + get_or s (at + (i - 1)) 0) (i - 1)
    float_turn few inside bytes =
        let b : ℕ = get_or s (at + (i - 1)) 0 in
        let small : b < 256 = omega (arith, bytes (at + (i - 1))) in
        let one_more_lem : n - (i - 1) ≡ suc (n - i) = omega arith in
        let eight-more : 8 * (n - (i - 1)) ≡ 8 + 8 * (n - i) = omega arith in
        let weight : 2 ^ (8 * (n - (i - 1))) ≡ 256 * 2 ^ (8 * (n - i)) = ap (λ (x : ℕ). 2 ^ x) eight-more ∙ pow-add 2 8 (8 * (n - i)) in
        let next : at + i ≡ at + (i - 1) + 1 = omega arith in
        let value : b + 256 * bits ≡ bits * 256 + b = omega arith in
        let higher : little_endian (n - i) s (at + (i - 1) + 1) ≡ some bits = ap (λ (x : ℕ). little_endian (n - i) s x) (sym next) ∙ p.same in
        record {
          small = omega (arith, p.small);
          same =
              ap (λ (x : ℕ). little_endian x s (at + (i - 1))) one_more_lem
              ∙ lower (n - i) s (at + (i - 1)) (element_there s (at + (i - 1)) (omega arith)) higher
              ∙ ap some value;
        }

  pub float_all : i ≤ 0 → FloatRead (2 ^ (8 * n)) (float_bytes n s at) (Ok (bits, (at + n)))
  unfolding float_bytes
  float_all h =
      let every : n - i ≡ n = omega arith in
      let start : at + i ≡ at = omega arith in
      let all : little_endian n s at ≡ some bits = ap₂ (λ (k j : ℕ). little_endian k s j) (sym every) (sym start) ∙ p.same in
      let below : bits < 2 ^ (8 * n) = rw every at p.small in
      record { is = rw all; small = λ v next e. let same : bits ≡ v = value_is refl e in rw (← same) below }

pub ruleset float_exits = (float_short, float_first, float_product, float_sum, float_turn, float_all)
