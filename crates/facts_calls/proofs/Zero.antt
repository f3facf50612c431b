-- scope's `wiped` is zero, and its `filled` is zero beyond the words: by the length of a list of zeros and each word of it.
use Prim.Native.Nat.{ℕ, zero, suc, ◌+◌, ◌-◌, ◌≤◌, ◌<◌}
use native.Mathlib.Omega.{arith}
use mathlib.Core.Path.{◌≡◌, refl, ◌∙◌, ap}
use mathlib.Core.Option.{some}
use mathlib.Core.List.{List, [], ◌∷◌, ◌++◌}
use lib.ListN.{length, length-append, replicate, get_elem?}
use Rattle.scope.specs.Memory.{filled, wiped}
use Rattle.facts_calls.specs.Zero.{Zero, Holds, ZeroBeyond}
use Rattle.facts_calls.proofs.VeryBytes.{further, first_entry}

abbrev zeros : ℕ → List ℕ
zeros n = replicate n 0

many_zeros : (n : ℕ) → length (zeros n) ≡ n
many_zeros zero = refl
many_zeros (suc n) = let more = many_zeros n in omega arith

each_zero : (n k : ℕ) → k < n → get_elem? (zeros n) k ≡ some 0
each_zero zero k h = absurd (omega arith)
each_zero (suc n) zero h = refl
each_zero (suc n) (suc k) h = each_zero n k (omega arith)

pub wiped-zero : {before after : List ℕ} → after ≡ wiped before → Zero before after
wiped-zero {before} {after} e =
    let many : length after ≡ length before = ap length e ∙ many_zeros (length before) in
    record { same_length = many; zero = λ k h. ap (λ (ws : List ℕ). get_elem? ws k) e ∙ each_zero (length before) k (omega (arith, many)) }

pub filled-holds : (before : List ℕ) {words after : List ℕ} → after ≡ filled before words → Holds words after
filled-holds before {words} {after} e =
    let spare : ℕ = length before - length words in
    let lengths : length after ≡ length words + length (zeros spare) = ap length e ∙ length-append words (zeros spare) in
    let many = many_zeros spare in
    record {
      these = λ k h. ap (λ (ws : List ℕ). get_elem? ws k) e ∙ first_entry words (zeros spare) k h;
      beyond = λ k past inside.
          let at : k ≡ length words + (k - length words) = omega arith in
          let few : k - length words < spare = omega (arith, lengths, many) in
          ap (λ (ws : List ℕ). get_elem? ws k) e ∙ ap (get_elem? (words ++ zeros spare)) at ∙ further words (zeros spare) (k - length words) ∙ each_zero spare (k - length words) few;
    }

pub filled-beyond : {before words after : List ℕ} → length words ≤ length before → after ≡ filled before words → ZeroBeyond words before after
filled-beyond {before} {words} {after} room e =
    let spare : ℕ = length before - length words in
    let lengths : length after ≡ length words + length (zeros spare) = ap length e ∙ length-append words (zeros spare) in
    let many = many_zeros spare in
    record { holds = filled-holds before e; same_length = omega (arith, lengths, many) }
