-- What a function gives at numbers in a row: how many, which, one more at the end, parts, and another one at one number.
use Prim.Native.Nat.{ℕ, zero, suc, ◌+◌, ◌*◌, ◌≤◌, ◌<◌}
use mathlib.Core.Path.{◌≡◌, refl, sym, ap, ap₂, ◌∙◌}
use mathlib.Core.Option.{none, some}
use mathlib.Core.List.{List, [], ◌∷◌, ◌++◌, map}
use native.Mathlib.Omega.{arith}
use native.Mathlib.Nat.{add-zero}
use lib.ListN.{length, get_or, get_elem?, set, take, drop}
use lib.Seq.{drop-cons}
use Rattle.scope.specs.Layout.{value_span}
use Rattle.scope.specs.Lists.{joined}
use Rattle.type_table.specs.View.{codes_at}
use Rattle.run_values.specs.Layout.{kind_place, bits_place}
use Rattle.run_values.specs.Values.{numbered}

module _ {A : Type 0} (f : ℕ → A) where
  pub numbered-length : (at n : ℕ) → length (numbered f at n) ≡ n
  unfolding numbered
  numbered-length at zero = refl
  numbered-length at (suc n) = ap suc (numbered-length (at + 1) n)

  pub numbered_there : (at n i : ℕ) → i < n → get_elem? (numbered f at n) i ≡ some (f (at + i))
  unfolding numbered
  numbered_there at zero i h = absurd (omega arith)
  numbered_there at (suc n) zero h = simp add-zero
  numbered_there at (suc n) (suc i) h =
      let same : at + 1 + i ≡ at + suc i = omega arith in
      numbered_there (at + 1) n i (omega arith) ∙ ap (λ (k : ℕ). some (f k)) same

  pub numbered-none : (at n i : ℕ) → n ≤ i → get_elem? (numbered f at n) i ≡ none
  unfolding numbered
  numbered-none at zero i h = refl
  numbered-none at (suc n) zero h = absurd (omega arith)
  numbered-none at (suc n) (suc i) h = numbered-none (at + 1) n i (omega arith)

  -- one part after the other
  pub numbered-append : (at n m : ℕ) → numbered f at (n + m) ≡ numbered f at n ++ numbered f (at + n) m
  unfolding numbered
  numbered-append at zero m =
      let same : at + 0 ≡ at = omega arith in
      let all : 0 + m ≡ m = omega arith in
      rw (same, all)
  numbered-append at (suc n) m =
      let same : at + 1 + n ≡ at + suc n = omega arith in
      let all : suc n + m ≡ suc (n + m) = omega arith in
      rw (all, ← same) (ap (λ (l : List A). f at ∷ l) (numbered-append (at + 1) n m))

  pub numbered_more : (at n : ℕ) → numbered f at (n + 1) ≡ numbered f at n ++ (f (at + n) ∷ [])
  unfolding numbered
  numbered_more at n = numbered-append at n 1

-- functions that agree at those numbers
module _ {A : Type 0} (f g : ℕ → A) where
  pub numbered_same : (at n : ℕ) → ((k : ℕ) → at ≤ k → k < at + n → g k ≡ f k) → numbered g at n ≡ numbered f at n
  unfolding numbered
  numbered_same at zero same = refl
  numbered_same at (suc n) same =
      ap₂ ◌∷◌ (same at (omega arith) (omega arith)) (numbered_same (at + 1) n (λ k h l. same k (omega arith) (omega arith)))

  -- and at all of them but one
  pub numbered-set : (at n i : ℕ) → i < n → ((k : ℕ) → at ≤ k → k < at + n → (k ≡ at + i → ⊥) → g k ≡ f k) → numbered g at n ≡ set (numbered f at n) i (g (at + i))
  unfolding numbered
  numbered-set at zero i h same = absurd (omega arith)
  numbered-set at (suc n) zero h same =
      let here : at + 0 ≡ at = omega arith in
      rw here (ap (λ (l : List A). g at ∷ l) (numbered_same (at + 1) n (λ k h l. same k (omega arith) (omega arith) (λ e. omega arith))))
  numbered-set at (suc n) (suc i) h same =
      let here : at + suc i ≡ at + 1 + i = omega arith in
      rw here
      (ap₂ ◌∷◌ (same at (omega arith) (omega arith) (λ e. omega arith)) (numbered-set (at + 1) n i (omega arith) (λ k h l d. same k (omega arith) (omega arith) (λ e. d (omega arith)))))

-- entries of two words: where each of n entries is written as the two words at its place, all of them are the first words
module _ {A : Type 0} (f : ℕ → A) (write : A → List ℕ) (m : List ℕ) where
  pairs_from : (at n : ℕ) → value_span * (at + n) ≤ length m → ((j : ℕ) → at ≤ j → j < at + n → write (f j) ≡ get_or m (kind_place j) 0 ∷ get_or m (bits_place j) 0 ∷ []) → joined (map write (numbered f at n)) ≡ take (value_span * n) (drop (value_span * at) m)
  unfolding numbered
  pairs_from at zero room written = refl
  pairs_from at (suc n) room written =
      let two : value_span * suc n ≡ suc (suc (value_span * n)) = omega arith in
      let next : suc (suc (value_span * at)) ≡ value_span * (at + 1) = omega arith in
      let second : suc (value_span * at) ≡ bits_place at = omega arith in
      let front : drop (value_span * at) m ≡ get_or m (kind_place at) 0 ∷ get_or m (bits_place at) 0 ∷ drop (value_span * (at + 1)) m =
      drop-cons m (kind_place at) 0 (omega arith)
      ∙ ap (λ (l : List ℕ). get_or m (kind_place at) 0 ∷ l) (drop-cons m (suc (value_span * at)) 0 (omega arith) ∙ ap₂ (λ (i j : ℕ). get_or m i 0 ∷ drop j m) second next) in
      ap₂ ◌++◌ (written at (omega arith) (omega arith)) (pairs_from (at + 1) n (omega arith) (λ j h l. written j (omega arith) (omega arith)))
      ∙ sym (ap₂ take two front)

  pub pairs_are : (n : ℕ) → value_span * n ≤ length m → ((j : ℕ) → j < n → write (f j) ≡ get_or m (kind_place j) 0 ∷ get_or m (bits_place j) 0 ∷ []) → joined (map write (numbered f 0 n)) ≡ take (value_span * n) m
  pairs_are n room written = pairs_from 0 n (omega arith) (λ j h l. written j (omega arith))

-- types that the table gives at places in a row are numbered too

codes-numbered : {A : Type 0} (f : ℕ → A) (codes : List ℕ) (at n : ℕ) → codes_at f codes at n ≡ numbered (λ i. f (get_or codes i 0)) at n
unfolding codes_at numbered
codes-numbered f codes at zero = refl
codes-numbered f codes at (suc n) = ap (λ (l : List _). f (get_or codes at 0) ∷ l) (codes-numbered f codes (at + 1) n)

pub codes_more : {A : Type 0} (f : ℕ → A) (codes : List ℕ) (at n : ℕ) → codes_at f codes at (n + 1) ≡ codes_at f codes at n ++ (f (get_or codes (at + n) 0) ∷ [])
codes_more f codes at n =
    codes-numbered f codes at (n + 1)
    ∙ numbered_more (λ i. f (get_or codes i 0)) at n
    ∙ ap (λ (l : List _). l ++ (f (get_or codes (at + n) 0) ∷ [])) (sym (codes-numbered f codes at n))
