-- What a magnitude counts in units: by its field and its digits; and a greater magnitude counts more.
use Prim.Native.Nat.{ℕ, zero, suc, ◌+◌, ◌-◌, ◌*◌, ◌/◌, ◌%◌, ◌^◌, ◌≤◌, ◌<◌}
use native.Mathlib.Nat.{le_of_eq, le_of_lt, lt_trans, le_of_suc-le-suc, eq-or-lt_of_le, not-suc-le-zero, add-zero, zero-add, add_assoc, suc-mul, zero-mul, mul-one, mul_assoc, pow-succ', div-eq_of_lt, div-add-mod', mod-lt}
use native.Mathlib.Omega.{arith}
use mathlib.Core.Path.{◌≡◌, refl, sym, ap, ◌∙◌}
use mathlib.Core.Bool.{Bool, true, false}
use mathlib.Core.Logic.{◌⊎◌, inl, inr, ⊎_elim}
use lib.Dec.{ltb, eqb-suc-zero}
use lib.Arith.{digits_div, digits_mod}
use lib.Pow.{pow_pos}
use borrow.Author.Tests.{eq-eqb, ltb-true, ltb-false}
use Rattle.scope.specs.Rounding.{Width, lead, units}

-- one of two numbers is the lower
pub lt-or-le : (a b : ℕ) → (a < b) ⊎ (b ≤ a)
lt-or-le a b = go (ltb a b) refl
  where
    go : (t : Bool) → ltb a b ≡ t → (a < b) ⊎ (b ≤ a)
    go true e = inl (ltb-true a b e)
    go false e = inr (ltb-false a b e)

module _ (w : Width) where
  -- below the first field a magnitude counts itself
  pub units-low : (t : ℕ) → t < lead w → units w t ≡ t
  unfolding units
  units-low t h = rw (eq-eqb (t / lead w) 0 (div-eq_of_lt h))

  pred_suc : (x : ℕ) → suc x - 1 ≡ x
  pred_suc x = omega arith

  pub units_field : (x t : ℕ) → t < lead w → units w (suc x * lead w + t) ≡ (lead w + t) * 2 ^ x
  unfolding units
  units_field x t h = rw (digits_div (suc x) h, digits_mod (suc x) h, eqb-suc-zero x, pred_suc x)

  -- k is the field less one, and q the digits with the leading one; q may also be the carry into the next field
  pub record Form (k q : ℕ) : Type 0 where
    pub leads : (k ≡ 0) ⊎ (lead w ≤ q)
    pub fits : q ≤ lead w + lead w

  twice : (k : ℕ) → (lead w + 0) * 2 ^ suc k ≡ (lead w + lead w) * 2 ^ k
  twice k = rw (add-zero, pow-succ' 2 k) (sym (mul_assoc (lead w) 2 (2 ^ k)) ∙ ap (λ (x : ℕ). x * 2 ^ k) (double (lead w)))
    where
      double : (x : ℕ) → x * 2 ≡ x + x
      double x = omega arith

  -- the field and the digits, from k and q
  carry : (a l q : ℕ) → l ≤ q → a + q ≡ a + l + (q - l)
  carry a l q h = omega arith

  rest : (l q : ℕ) → l ≤ q → q < l + l → q - l < l
  rest l q h k = omega arith

  back : (l q : ℕ) → l ≤ q → l + (q - l) ≡ q
  back l q h = omega arith

  pub units-at : (k q : ℕ) → Form k q → units w (k * lead w + q) ≡ q * 2 ^ k
  units-at k q f = elim (lt-or-le q (lead w)) [
    | inl h ↦ low h f.leads
    | inr h ↦ elim (lt-or-le q (lead w + lead w)) [ inl g ↦ mid h g | inr g ↦ top (omega arith) ]
  ]
    where
      low : q < lead w → (k ≡ 0) ⊎ (lead w ≤ q) → units w (k * lead w + q) ≡ q * 2 ^ k
      low h (inl z) = rw (z, zero-mul, zero-add, units-low q h, mul-one)
      low h (inr g) = absurd (omega arith)

      mid : lead w ≤ q → q < lead w + lead w → units w (k * lead w + q) ≡ q * 2 ^ k
      mid h g =
          ap (units w) (carry (k * lead w) (lead w) q h ∙ ap (λ (x : ℕ). x + (q - lead w)) (sym (suc-mul k (lead w))))
          ∙ units_field k (q - lead w) (rest (lead w) q h g)
          ∙ ap (λ (x : ℕ). x * 2 ^ k) (back (lead w) q h)

      top : q ≡ lead w + lead w → units w (k * lead w + q) ≡ q * 2 ^ k
      top e =
          ap (units w) (ap (λ (x : ℕ). k * lead w + x) e ∙ more (k * lead w) (lead w) ∙ ap (λ (x : ℕ). x + 0) (ap (λ (x : ℕ). x + lead w) (sym (suc-mul k (lead w))) ∙ sym (suc-mul (suc k) (lead w))))
          ∙ units_field (suc k) 0 (pow_pos w.digits)
          ∙ twice k
          ∙ ap (λ (x : ℕ). x * 2 ^ k) (sym e)
        where
          more : (a l : ℕ) → a + (l + l) ≡ a + l + l + 0
          more a l = omega arith

  -- every magnitude has such a form, short of the carry
  pub record Formed (m : ℕ) : Type 0 where
    pub field : ℕ
    pub digits : ℕ
    pub is : m ≡ field * lead w + digits
    pub form : Form field digits
    pub short : digits < lead w + lead w

  pub formed : (m : ℕ) → Formed m
  formed m = go (m / lead w) (m % lead w) (sym (div-add-mod' m (lead w))) (mod-lt m (pow_pos w.digits))
    where
      go : (x t : ℕ) → m ≡ x * lead w + t → t < lead w → Formed m
      go zero t e h = record { field = 0; digits = t; is = e; form = record { leads = inl refl; fits = omega arith }; short = omega arith }
      go (suc x) t e h = record {
        field = x;
        digits = lead w + t;
        is = e ∙ ap (λ (y : ℕ). y + t) (suc-mul x (lead w)) ∙ add_assoc (x * lead w) (lead w) t;
        form = record { leads = inr (omega arith); fits = omega arith };
        short = omega arith;
      }

  pub units_formed : {m : ℕ} (f : Formed m) → units w m ≡ f.digits * 2 ^ f.field
  units_formed f = ap (units w) f.is ∙ units-at f.field f.digits f.form

  longer : (k q : ℕ) → Form k q → q < lead w + lead w → Form k (suc q)
  longer k q f h = record { leads = ⊎_elim (λ z. inl z) (λ l. inr (omega arith)) f.leads; fits = omega arith }

  -- the next magnitude counts one more of what the field weighs
  pub units-after : {m : ℕ} (f : Formed m) → units w (suc m) ≡ suc f.digits * 2 ^ f.field
  units-after {m} f = ap (units w) e ∙ units-at f.field (suc f.digits) (longer f.field f.digits f.form f.short)
    where
      e : suc m ≡ f.field * lead w + suc f.digits
      e = omega (arith, f.is)

  pub units_next : (m : ℕ) → units w m < units w (suc m)
  units_next m =
      let f = formed m in
      rw (units_formed f, units-after f, suc-mul) (more (f.digits * 2 ^ f.field) (2 ^ f.field) (pow_pos f.field))
    where
      more : (a b : ℕ) → 0 < b → a < a + b
      more a b h = omega arith

  pub units_lt : {m n : ℕ} → m < n → units w m < units w n
  units_lt {m} {n} h = go n h
    where
      go : (n : ℕ) → m < n → units w m < units w n
      go zero h = absurd (not-suc-le-zero h)
      go (suc n) h = elim (eq-or-lt_of_le (le_of_suc-le-suc h)) [
        | inl e ↦ rw e (units_next n)
        | inr l ↦ lt_trans (go n l) (units_next n)
      ]

  pub units-le : {m n : ℕ} → m ≤ n → units w m ≤ units w n
  units-le h = elim (eq-or-lt_of_le h) [ inl e ↦ le_of_eq (ap (units w) e) | inr l ↦ le_of_lt (units_lt l) ]
