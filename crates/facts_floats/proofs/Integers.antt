-- Integers, over the width in bits. The signed test and the order of what patterns stand for agree: with the highest bit
-- turned, the lower half stands above the upper half, and each half in its order. Sums and differences wrap around.
use Prim.Native.Nat.{ℕ, suc, ◌+◌, ◌-◌, ◌%◌, ◌^◌, ◌≤◌, ◌<◌}
use native.Mathlib.Nat.{mod-lt, mod-eq_of_lt, add-mod_left, two-pow-succ}
use native.Mathlib.Omega.{arith}
use mathlib.Core.Path.{◌≡◌, sym, ap, ◌∙◌, subst}
use mathlib.Core.Bool.{true, cond, not}
use mathlib.Core.Logic.{inl, inr}
use lib.Dec.{ltb, leb}
use lib.Pow.{pow_pos}
use borrow.Author.Tests.{le-ltb, lt-ltb, le-leb, lt-leb}
use Rattle.scope.specs.Numbers.{Whole, plus, minus, bits32, within_signed}
use Rattle.scope.specs.Integers.{int_add, int_sub, stands_for, WholeLess, top_turned, int_less_signed, int_at_most_signed, int_greater_signed}
use Rattle.scope.proofs.Units.{lt-or-le}
use Rattle.facts_floats.proofs.Wholes.{whole_test, whole-tested, tested-whole}

same_test : (a b x y : ℕ) → (a < b → x < y) → (b ≤ a → y ≤ x) → ltb a b ≡ ltb x y
same_test a b x y f g = elim (lt-or-le a b) [ inl l ↦ rw (lt-ltb a b l, lt-ltb x y (f l)) | inr h ↦ rw (le-ltb a b h, le-ltb x y (g h)) ]

-- c is the half: a pattern lies below it, or x above it
data Split (c : ℕ) : ℕ → Type 0 where
  low : {a : ℕ} → a < c → Split c a
  high : (x : ℕ) → x < c → Split c (c + x)

split : (c a : ℕ) → a < c + c → Split c a
split c a h = elim (lt-or-le a c) [ inl l ↦ low l | inr g ↦ subst (Split c) (back g) (high (a - c) (omega arith)) ]
  where
    back : c ≤ a → c + (a - c) ≡ a
    back g = omega arith

abbrev turned_by : ℕ → ℕ → ℕ
turned_by c a = (a + c) % (c + c)

abbrev stands_by : ℕ → ℕ → Whole
stands_by c a = cond (ltb a c) (plus a) (minus (c + c - a))

module _ (c : ℕ) where
  turned_low : (a : ℕ) → a < c → turned_by c a ≡ a + c
  turned_low a h = mod-eq_of_lt (omega arith)

  turned_high : (x : ℕ) → x < c → turned_by c (c + x) ≡ x
  turned_high x h = ap (λ (y : ℕ). y % (c + c)) (over c x) ∙ add-mod_left (c + c) x ∙ mod-eq_of_lt (omega arith)
    where
      over : (c x : ℕ) → c + x + c ≡ c + c + x
      over c x = omega arith

  stands_low : (a : ℕ) → a < c → stands_by c a ≡ plus a
  stands_low a h = rw (lt-ltb a c h)

  stands_high : (x : ℕ) → stands_by c (c + x) ≡ minus (c - x)
  stands_high x = rw (le-ltb (c + x) c (omega arith)) (ap minus (less c x))
    where
      less : (c x : ℕ) → c + c - (c + x) ≡ c - x
      less c x = omega arith

  in_order_lem : {a b : ℕ} → Split c a → Split c b → ltb (turned_by c a) (turned_by c b) ≡ whole_test (stands_by c a) (stands_by c b)
  in_order_lem {a} {b} (low h) (low k) = rw (turned_low a h, turned_low b k, stands_low a h, stands_low b k) (same_test (a + c) (b + c) a b (λ l. omega arith) (λ l. omega arith))
  in_order_lem {a} (low h) (high y k) = rw (turned_low a h, turned_high y k, stands_low a h, stands_high y) (le-ltb (a + c) y (omega arith))
  in_order_lem {a} {b} (high x h) (low k) = rw (turned_high x h, turned_low b k, stands_high x, stands_low b k, lt-ltb x (b + c) (omega arith)) (sym (lt-ltb 0 (c - x + b) (omega arith)))
  in_order_lem (high x h) (high y k) = rw (turned_high x h, turned_high y k, stands_high x, stands_high y) (same_test x y (c - y) (c - x) (λ l. omega arith) (λ l. omega arith))

-- over the width
module _ (n : ℕ) where
  abbrev half : ℕ
  half = 2 ^ n

  halves : 2 ^ suc n ≡ half + half
  halves = two-pow-succ n

  less_one : suc n - 1 ≡ n
  less_one = omega arith

  module _ {a b : ℕ} (h : a < 2 ^ suc n) (k : b < 2 ^ suc n) where
    tested : int_less_signed (suc n) a b ≡ whole_test (stands_for (suc n) a) (stands_for (suc n) b)
    unfolding int_less_signed
    tested = rw (less_one, halves) (in_order_lem half (split half a (rw halves at h)) (split half b (rw halves at k)))

    pub signed_less : int_less_signed (suc n) a b ≡ true → WholeLess (stands_for (suc n) a) (stands_for (suc n) b)
    signed_less e = tested-whole (stands_for (suc n) a) (stands_for (suc n) b) (sym tested ∙ e)

    pub less_signed_lem : WholeLess (stands_for (suc n) a) (stands_for (suc n) b) → int_less_signed (suc n) a b ≡ true
    less_signed_lem l = tested ∙ whole-tested l

-- le_s and ge_s are what gt_s and lt_s are not
pub at_most_signed : (n a b : ℕ) → int_at_most_signed n a b ≡ not (int_greater_signed n a b)
unfolding int_at_most_signed int_less_signed
at_most_signed n a b = elim (lt-or-le (top_turned n b) (top_turned n a)) [
  | inl l ↦ rw (lt-leb (top_turned n a) (top_turned n b) l, lt-ltb (top_turned n b) (top_turned n a) l)
  | inr g ↦ rw (le-leb (top_turned n a) (top_turned n b) g, le-ltb (top_turned n b) (top_turned n a) g)
]

-- modulo 2 ^ n
module _ (n : ℕ) where
  pub add-fits : (a b : ℕ) → int_add n a b < 2 ^ n
  unfolding int_add
  add-fits a b = mod-lt (a + b) (pow_pos n)

  pub sub-fits : (a b : ℕ) → int_sub n a b < 2 ^ n
  unfolding int_sub
  sub-fits a b = mod-lt (a + (2 ^ n - b)) (pow_pos n)

  -- a sum that is too great comes round by 2 ^ n, a difference that is too small too
  module _ {a b : ℕ} (h : a < 2 ^ n) (k : b < 2 ^ n) where
    pub add_within : a + b < 2 ^ n → int_add n a b ≡ a + b
    unfolding int_add
    add_within l = mod-eq_of_lt l

    pub add_around : 2 ^ n ≤ a + b → int_add n a b + 2 ^ n ≡ a + b
    unfolding int_add
    add_around g = go (2 ^ n) h k g
      where
        go : (c : ℕ) → a < c → b < c → c ≤ a + b → (a + b) % c + c ≡ a + b
        go c h k g =
            let e : a + b ≡ c + (a + b - c) = omega arith in
            let r : (a + b) % c ≡ a + b - c = ap (λ (x : ℕ). x % c) e ∙ add-mod_left c (a + b - c) ∙ mod-eq_of_lt (omega arith) in
            omega arith

    pub sub_within : b ≤ a → int_sub n a b + b ≡ a
    unfolding int_sub
    sub_within g = go (2 ^ n) h k g
      where
        go : (c : ℕ) → a < c → b < c → b ≤ a → (a + (c - b)) % c + b ≡ a
        go c h k g =
            let e : a + (c - b) ≡ c + (a - b) = omega arith in
            let r : (a + (c - b)) % c ≡ a - b = ap (λ (x : ℕ). x % c) e ∙ add-mod_left c (a - b) ∙ mod-eq_of_lt (omega arith) in
            omega arith

    pub sub_around : a < b → int_sub n a b + b ≡ a + 2 ^ n
    unfolding int_sub
    sub_around g = go (2 ^ n) h k g
      where
        go : (c : ℕ) → a < c → b < c → a < b → (a + (c - b)) % c + b ≡ a + c
        go c h k g =
            let r : (a + (c - b)) % c ≡ a + (c - b) = mod-eq_of_lt (omega arith) in
            omega arith

-- an i32.const stands for the number that was written
pub const_stands_plus : (v : ℕ) → within_signed 32 (plus v) ≡ true → stands_for 32 (bits32 (plus v)) ≡ plus v
const_stands_plus v e = rw e

pub const_stands_minus : (v : ℕ) → within_signed 32 (minus v) ≡ true → stands_for 32 (bits32 (minus v)) ≡ minus v
const_stands_minus v e = rw (le-ltb (2 ^ 32 - v) (2 ^ 31) (far v (small v e))) (ap minus (back v (small v e)))
  where
    small : (v : ℕ) → leb v (2 ^ 31) ≡ true → v ≤ 2 ^ 31
    small v e = elim (lt-or-le (2 ^ 31) v) [ inl l ↦ absurd (let z = lt-leb v (2 ^ 31) l in let o : ◌≡◌ {A = ℕ} 0 1 = cc in omega arith) | inr g ↦ g ]

    far : (v : ℕ) → v ≤ 2 ^ 31 → 2 ^ 31 ≤ 2 ^ 32 - v
    far v g = omega arith

    back : (v : ℕ) → v ≤ 2 ^ 31 → 2 ^ 32 - (2 ^ 32 - v) ≡ v
    back v g = omega arith
