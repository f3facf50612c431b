-- The add-on's codes and the library's, read as one list of words: a place below the size of a buffer is read from the add-on's,
-- any other from the library's.
use Prim.Native.Nat.{ℕ, zero, suc, ◌+◌, ◌-◌, ◌≤◌, ◌<◌}
use mathlib.Core.Path.{◌≡◌, refl, sym, ap, ap₂, ◌∙◌}
use mathlib.Core.List.{List, [], ◌∷◌, ◌++◌}
use native.Mathlib.Omega.{arith}
use lib.ListN.{length, get_or, take, replicate, length-append, length-replicate, get_or-append}
use lib.Seq.{length-take-le, get_or-take, get_or-append-add}
use Rattle.scope.specs.Layout.{codes_size}
use Rattle.lent_u16.specs.Words.{WordAt}
use Rattle.type_table.specs.View.{both_codes, codes_at}

-- zeros after a list read as nothing

same_all : (z n i : ℕ) → get_or (replicate n z) i z ≡ z
same_all z zero i = refl
same_all z (suc n) zero = refl
same_all z (suc n) (suc i) = same_all z n i

padded : (xs : List ℕ) (n i : ℕ) → get_or (xs ++ replicate n 0) i 0 ≡ get_or xs i 0
padded [] n i = same_all 0 n i
padded (x ∷ xs) n zero = refl
padded (x ∷ xs) n (suc i) = padded xs n i

-- what the add-on's part of the list is: as long as a buffer of codes, whatever was lent

abbrev side : List ℕ → List ℕ
side codes = take codes_size (codes ++ replicate codes_size 0)

pub side-length : (codes : List ℕ) → length (side codes) ≡ codes_size
side-length codes =
    let a = length-append codes (replicate codes_size 0) in
    let b = length-replicate {A = ℕ} codes_size 0 in
    length-take-le codes_size (codes ++ replicate codes_size 0) (omega (arith, a, b))

module _ (shared codes : List ℕ) (at : ℕ) where
  pub low-code : at < codes_size → get_or (both_codes shared codes) at 0 ≡ get_or codes at 0
  unfolding both_codes
  low-code h =
      let l = side-length codes in
      get_or-append (side codes) shared 0 at (omega (arith, l))
      ∙ get_or-take codes_size (codes ++ replicate codes_size 0) at 0 h
      ∙ padded codes codes_size at

  pub high_code : codes_size ≤ at → get_or (both_codes shared codes) at 0 ≡ get_or shared (at - codes_size) 0
  unfolding both_codes
  high_code h =
      let l = side-length codes in
      let place : at ≡ length (side codes) + (at - codes_size) = omega (arith, l) in
      ap (λ (n : ℕ). get_or (side codes ++ shared) n 0) place ∙ get_or-append-add (side codes) shared (at - codes_size) 0

-- codes that lie in the add-on's part are those of its own list
pub own_codes : {A : Type 0} (f : ℕ → A) (shared codes : List ℕ) (at n : ℕ) → at + n ≤ codes_size → codes_at f (both_codes shared codes) at n ≡ codes_at f codes at n
unfolding codes_at
own_codes f shared codes at zero h = refl
own_codes f shared codes at (suc n) h = ap₂ ◌∷◌ (ap f (low-code shared codes at (omega arith))) (own_codes f shared codes (at + 1) n (omega arith))

-- and those that begin in the library's part are those of its list
pub shared-codes : {A : Type 0} (f : ℕ → A) (shared codes : List ℕ) (at n : ℕ) → codes_size ≤ at → codes_at f (both_codes shared codes) at n ≡ codes_at f shared (at - codes_size) n
unfolding codes_at
shared-codes f shared codes at zero h = refl
shared-codes f shared codes at (suc n) h =
    let next : at + 1 - codes_size ≡ at - codes_size + 1 = omega arith in
    ap₂ ◌∷◌ (ap f (high_code shared codes at h)) (shared-codes f shared codes (at + 1) n (omega arith) ∙ ap (λ (k : ℕ). codes_at f shared k n) next)

-- the ways out of code_word

pub word_own : (shared codes : List ℕ) {at r : ℕ} → at < codes_size → WordAt codes at r → WordAt (both_codes shared codes) at r
word_own shared codes {at} h w = record { is = w.is ∙ sym (low-code shared codes at h); small = w.small }

pub word_shared : (shared codes : List ℕ) {at r : ℕ} → codes_size ≤ at → WordAt shared (at - codes_size) r → WordAt (both_codes shared codes) at r
word_shared shared codes {at} h w = record { is = w.is ∙ sym (high_code shared codes at h); small = w.small }

pub ruleset side_exits = (word_own, word_shared)
