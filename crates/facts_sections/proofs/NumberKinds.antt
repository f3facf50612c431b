-- Natural numbers and whole ones as two kinds of one thing: seven bits a byte with a meaning, and a test whether n bits hold a
-- number. Bytes hold as many bits as they have; a number that n bits hold has a writing of any bytes that have so many. So of k
-- bytes one is to spare, by the test, exactly where a shorter writing has the same value.
use Prim.Native.Nat.{ℕ, zero, suc, ◌+◌, ◌-◌, ◌*◌, ◌^◌, ◌/◌, ◌%◌, ◌<◌, ◌≤◌}
use native.Mathlib.Omega.{arith}
use native.Mathlib.Nat.{mod-lt}
use mathlib.Core.Path.{◌≡◌, refl, sym, ap, ◌∙◌}
use mathlib.Core.Logic.{◌↔◌}
use mathlib.Core.Bool.{Bool, true, false, cond, ◌&&◌, false≢true}
use mathlib.Core.List.{List, [], ◌∷◌}
use lib.ListN.{length}
use lib.Dec.{ltb, leb, lit<}
use lib.Pow.{pow-add, pow_mono}
use borrow.Author.Tests.{ltb-true, ltb-false, leb-true, leb-false, lt-ltb, le-ltb, le-leb}
use Rattle.scope.specs.Numbers.{Whole, plus, minus, signed_of, within_unsigned, within_signed}
use Rattle.facts_sections.specs.Writing.{Sevens, last_seven, seven_more, Twos, not_negative, negative, Shortest, none_shorter, NaturalRange, a_natural, WholeRange, from_zero_on, below-zero}

pub record Kind {A : Type 0} (value : ℕ → ℕ → A) (holds : ℕ → A → Bool) (W : List ℕ → A → Type 0) (Range : ℕ → A → Type 0) : Type 0 where
  -- the bits of bytes mean a number, and a number's writing has such bits
  pub meant : {w : List ℕ} {v : ℕ} → Sevens w v → W w (value v (length w))
  pub means : {w : List ℕ} {x : A} → W w x → (v : ℕ) × Sevens w v × (value v (length w) ≡ x)
  -- the test says the range
  pub in_range_lem : (width : ℕ) (x : A) → (holds width x ≡ true) ↔ Range width x
  -- bytes hold what they write, and more bits hold what fewer do
  pub held : {w : List ℕ} {x : A} → W w x → holds (7 * length w) x ≡ true
  pub wider : (x : A) {m n : ℕ} → m ≤ n → holds m x ≡ true → holds n x ≡ true
  -- a number that so many bytes hold has a writing of so many
  pub again : {w : List ℕ} {x : A} → W w x → (k : ℕ) → holds (7 * suc k) x ≡ true → (u : List ℕ) × W u x × (length u ≡ suc k)

-- A byte to spare

pub sevens_some : {w : List ℕ} {v : ℕ} → Sevens w v → 1 ≤ length w
sevens_some (last_seven low) = omega arith
sevens_some (seven_more high more) = omega arith

pub both_true : (b c : Bool) → (b && c) ≡ true → (b ≡ true) × (c ≡ true)
both_true true true e = (refl, refl)
both_true true false e = absurd (false≢true e)
both_true false c e = absurd (false≢true e)

-- the test, over as many bytes
pub spare_of : {A : Type 0} (holds : ℕ → A → Bool) (x : A) {k j : ℕ} {t : Bool} → k ≡ j → (ltb 1 k && holds (7 * (k - 1)) x) ≡ t → (ltb 1 j && holds (7 * (j - 1)) x) ≡ t
spare_of holds x e test = rw e at test

module _ {A : Type 0} {value : ℕ → ℕ → A} {holds : ℕ → A → Bool} {W : List ℕ → A → Type 0} {Range : ℕ → A → Type 0} (kind : Kind value holds W Range) {w : List ℕ} {x : A} (writes : W w x) where
  pub shortest_needed : Shortest W w x → (ltb 1 (length w) && holds (7 * (length w - 1)) x) ≡ false
  shortest_needed (none_shorter least) = go (ltb 1 (length w) && holds (7 * (length w - 1)) x) refl
    where
      go : (t : Bool) → (ltb 1 (length w) && holds (7 * (length w - 1)) x) ≡ t → t ≡ false
      go false q = refl
      go true q =
          let (two, held) = both_true (ltb 1 (length w)) (holds (7 * (length w - 1)) x) q in
          let more : 1 < length w = ltb-true 1 (length w) two in
          let count : length w - 1 ≡ suc (length w - 2) = omega arith in
          let (u, other, size) = kind.again writes (length w - 2) (rw count at held) in
          let no_less : length w ≤ length u = least u other in
          absurd (omega arith)

  pub needed_shortest : (ltb 1 (length w) && holds (7 * (length w - 1)) x) ≡ false → Shortest W w x
  needed_shortest e = none_shorter (λ u other. go u other (leb (length w) (length u)) refl)
    where
      go : (u : List ℕ) → W u x → (t : Bool) → leb (length w) (length u) ≡ t → length w ≤ length u
      go u other true q = leb-true (length w) (length u) q
      go u other false q =
          let shorter : length u < length w = leb-false (length w) (length u) q in
          let one : 1 ≤ length u = sevens_some (kind.means other).1 in
          let more : ltb 1 (length w) ≡ true = lt-ltb 1 (length w) (omega arith) in
          let held : holds (7 * (length w - 1)) x ≡ true = kind.wider x {m = 7 * length u} (omega arith) (kind.held other) in
          let spare : (true && true) ≡ false = rw (more, held) at e in
          absurd (false≢true (sym spare))

-- The bits of bytes

seven_bits : (k : ℕ) → 2 ^ (7 * suc k) ≡ 128 * 2 ^ (7 * k)
seven_bits k = ap (λ (n : ℕ). 2 ^ n) (let e : 7 * suc k ≡ 7 + 7 * k = omega arith in e) ∙ pow-add 2 7 (7 * k)

pub sevens_below : {w : List ℕ} {v : ℕ} → Sevens w v → v < 2 ^ (7 * length w)
sevens_below (last_seven low) = low
sevens_below (seven_more {b = b} {v = v} {w = w} high more) =
    let low : b % 128 < 128 = mod-lt b (lit< tt) in
    let rest : v < 2 ^ (7 * length w) = sevens_below more in
    rw (seven_bits (length w)) (omega arith)

-- bits of which so many bytes have room have a writing of so many
write : (k v : ℕ) → v < 2 ^ (7 * suc k) → (u : List ℕ) × Sevens u v × (length u ≡ suc k)
write zero v h = (v ∷ [], last_seven h, refl)
write (suc k) v h =
    let room : v < 128 * 2 ^ (7 * suc k) = rw (seven_bits (suc k)) at h in
    let (u, sevens, size) = write k (v / 128) (omega arith) in
    let seven : (128 + v % 128) % 128 + 128 * (v / 128) ≡ v = omega arith in
    let first : Sevens ((128 + v % 128) ∷ u) v = rw seven at (seven_more {b = 128 + v % 128} (omega arith) sevens) in
    ((128 + v % 128) ∷ u, first, ap suc size)

-- Natural numbers

natural_wider : (v : ℕ) {m n : ℕ} → m ≤ n → ltb v (2 ^ m) ≡ true → ltb v (2 ^ n) ≡ true
natural_wider v {m} {n} h e =
    let low : v < 2 ^ m = ltb-true v (2 ^ m) e in let more : 2 ^ m ≤ 2 ^ n = pow_mono h in lt-ltb v (2 ^ n) (omega arith)

pub natural_kind : Kind (λ v k. v) within_unsigned Sevens NaturalRange
natural_kind =
    record {
      meant = λ sevens. sevens;
      means = λ {w} {x} sevens. (x, sevens, refl);
      in_range_lem = λ width x. (λ e. a_natural (ltb-true x (2 ^ width) e), λ r. in_naturals r);
      held = λ {w} {x} sevens. lt-ltb x (2 ^ (7 * length w)) (sevens_below sevens);
      wider = natural_wider;
      again = λ {w} {x} sevens k e. write k x (ltb-true x (2 ^ (7 * suc k)) e);
    }
  where
    in_naturals : {width x : ℕ} → NaturalRange width x → ltb x (2 ^ width) ≡ true
    in_naturals {width} {x} (a_natural h) = lt-ltb x (2 ^ width) h

-- Whole numbers: the sign's bit halves the bits

halves : (k : ℕ) → 2 * 2 ^ (7 * suc k - 1) ≡ 2 ^ (7 * suc k)
halves k = sym (pow-add 2 1 (7 * suc k - 1)) ∙ ap (λ (n : ℕ). 2 ^ n) (let e : 1 + (7 * suc k - 1) ≡ 7 * suc k = omega arith in e)

half_of : {w : List ℕ} {v : ℕ} → Sevens w v → 2 * 2 ^ (7 * length w - 1) ≡ 2 ^ (7 * length w)
half_of {w} sevens =
    let count : length w ≡ suc (length w - 1) = (let one = sevens_some sevens in omega arith) in rw count (halves (length w - 1))

whole_meant : {w : List ℕ} {v : ℕ} → Sevens w v → Twos w (signed_of v (length w))
whole_meant {w} {v} sevens = go (ltb v (2 ^ (7 * length w - 1))) refl
  where
    go : (t : Bool) → ltb v (2 ^ (7 * length w - 1)) ≡ t → Twos w (cond t (plus v) (minus (2 ^ (7 * length w) - v)))
    go true q = not_negative sevens (ltb-true v _ q)
    go false q = negative sevens (ltb-false v _ q)

whole_means : {w : List ℕ} {x : Whole} → Twos w x → (v : ℕ) × Sevens w v × (signed_of v (length w) ≡ x)
whole_means {w} (not_negative {v = v} sevens low) = (v, sevens, rw (lt-ltb v (2 ^ (7 * length w - 1)) low))
whole_means {w} (negative {v = v} sevens high) = (v, sevens, rw (le-ltb v (2 ^ (7 * length w - 1)) high))

whole-held : {w : List ℕ} {x : Whole} → Twos w x → within_signed (7 * length w) x ≡ true
whole-held {w} (not_negative {v = v} sevens low) = lt-ltb v (2 ^ (7 * length w - 1)) low
whole-held {w} (negative {v = v} sevens high) =
    let half = half_of sevens in le-leb (2 ^ (7 * length w) - v) (2 ^ (7 * length w - 1)) (omega arith)

whole_wider : (x : Whole) {m n : ℕ} → m ≤ n → within_signed m x ≡ true → within_signed n x ≡ true
whole_wider (plus v) {m} {n} h e = natural_wider v {m = m - 1} {n = n - 1} (omega arith) e
whole_wider (minus v) {m} {n} h e =
    let low : v ≤ 2 ^ (m - 1) = leb-true v (2 ^ (m - 1)) e in
    let more : 2 ^ (m - 1) ≤ 2 ^ (n - 1) = pow_mono {i = m - 1} {j = n - 1} (omega arith) in
    le-leb v (2 ^ (n - 1)) (omega arith)

whole_again : {w : List ℕ} {x : Whole} → Twos w x → (k : ℕ) → within_signed (7 * suc k) x ≡ true → (u : List ℕ) × Twos u x × (length u ≡ suc k)
whole_again (not_negative {v = v} sevens low) k e =
    let small : v < 2 ^ (7 * suc k - 1) = ltb-true v _ e in
    let half = halves k in
    let (u, other, size) = write k v (omega arith) in
    (u, not_negative other (rw size small), size)
whole_again {w} (negative {v = v} sevens high) k e =
    let m = 2 ^ (7 * length w) - v in
    let some : 1 ≤ 2 ^ (7 * length w) - v = (let below = sevens_below sevens in omega arith) in
    let small : 2 ^ (7 * length w) - v ≤ 2 ^ (7 * suc k - 1) = leb-true m _ e in
    let half = halves k in
    let (u, other, size) = write k (2 ^ (7 * suc k) - (2 ^ (7 * length w) - v)) (omega arith) in
    let same : 2 ^ (7 * length u) - (2 ^ (7 * suc k) - (2 ^ (7 * length w) - v)) ≡ 2 ^ (7 * length w) - v = rw size (omega arith) in
    (u, rw same at (negative {w = u} other (rw size (omega arith))), size)

pub whole_kind : Kind signed_of within_signed Twos WholeRange
whole_kind =
    record {
      meant = whole_meant;
      means = whole_means;
      in_range_lem = λ width x. (ranged width x, λ r. in_wholes r);
      held = whole-held;
      wider = whole_wider;
      again = whole_again;
    }
  where
    ranged : (width : ℕ) (x : Whole) → within_signed width x ≡ true → WholeRange width x
    ranged width (plus v) e = from_zero_on (ltb-true v _ e)
    ranged width (minus v) e = below-zero (leb-true v _ e)

    in_wholes : {width : ℕ} {x : Whole} → WholeRange width x → within_signed width x ≡ true
    in_wholes {width} (from_zero_on {v = v} h) = lt-ltb v (2 ^ (width - 1)) h
    in_wholes {width} (below-zero {v = v} h) = le-leb v (2 ^ (width - 1)) h
