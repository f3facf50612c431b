-- The open blocks, linked inside the memory: at each one's place stands the word of the one around it. Each began at an
-- earlier place than those inside it, so a store at a later place leaves the links outwards as they are. And as many
-- ends as there are blocks from it inwards lie between here and what comes after its own.
use Prim.Native.Nat.{ℕ, suc, ◌+◌, ◌≤◌, ◌<◌, zero-le}
use mathlib.Core.Path.{◌≡◌, refl, sym, ap, ◌∙◌}
use mathlib.Core.List.{List, [], ◌∷◌}
use native.Mathlib.Omega.{arith}
use native.Mathlib.Nat.{le_trans}
use lib.ListN.{get_or}
use Rattle.scope.specs.Syntax.{Val}
use Rattle.scope.specs.Instructions.{Op, block, loop, end, op}
use Rattle.scope.specs.Bodies.{Code}
use Rattle.scope.specs.Machine.{past_ends}
use Rattle.run_ends.specs.Matching.{code_at, Opener}

-- the blocks open where `code` begins, by the word of the innermost: their places, each below `bound`; `count` ends
-- close the innermost one
pub data Open (s ends : List ℕ) (code : Code) : ℕ → ℕ → ℕ → List ℕ → Type 0 where
  none_open : {bound count : ℕ} → Open s ends code bound count 0 []
  one_open : {bound count at next : ℕ} {places : List ℕ} → at < bound → Opener s at next → past_ends 1 (code_at s next) ≡ past_ends count code → Open s ends code at (suc count) (get_or ends at 0) places → Open s ends code bound count (suc at) (at ∷ places)

module _ {s : List ℕ} where
  -- from another place of the code
  pub open_from : {ends : List ℕ} {code code' : Code} {bound count count' word : ℕ} {places : List ℕ} → ((n : ℕ) → past_ends (n + count) code ≡ past_ends (n + count') code') → Open s ends code bound count word places → Open s ends code' bound count' word places
  open_from same none_open = none_open
  open_from {code = code} {code'} {count' = count'} same (one_open {count = count} below opener is around) =
      let onto : (n k : ℕ) → n + suc k ≡ suc n + k = λ n k. omega arith in
      let none : (k : ℕ) → 0 + k ≡ k = λ k. omega arith in
      let now : past_ends count code ≡ past_ends count' code' = ap (λ (k : ℕ). past_ends k code) (sym (none count)) ∙ same 0 ∙ ap (λ (k : ℕ). past_ends k code') (none count') in
      one_open below opener (is ∙ now) (open_from (λ n. ap (λ (k : ℕ). past_ends k code) (onto n count) ∙ same (suc n) ∙ ap (λ (k : ℕ). past_ends k code') (sym (onto n count'))) around)

  pub open_later : {ends : List ℕ} {code : Code} {bound bound' count word : ℕ} {places : List ℕ} → bound ≤ bound' → Open s ends code bound count word places → Open s ends code bound' count word places
  open_later h none_open = none_open
  open_later h (one_open below opener is around) = one_open (le_trans below h) opener is around

  pub word_small : {ends : List ℕ} {code : Code} {bound count word : ℕ} {places : List ℕ} → Open s ends code bound count word places → word ≤ bound
  word_small none_open = zero-le
  word_small (one_open below opener is around) = below

  -- in memory that is the same up to the bound
  pub open_in : {ends ends' : List ℕ} {code : Code} {bound count word : ℕ} {places : List ℕ} → ((i : ℕ) → i < bound → get_or ends' i 0 ≡ get_or ends i 0) → Open s ends code bound count word places → Open s ends' code bound count word places
  open_in same none_open = none_open
  open_in {ends} {ends'} {code} same (one_open {count = count} {at = at} {places = places} below opener is around) =
      let rest : Open s ends' code at (suc count) (get_or ends at 0) places = open_in (λ i h. same i (omega arith)) around in
      let link : Open s ends' code at (suc count) (get_or ends' at 0) places = rw (same at below) rest in
      one_open below opener is link

-- the innermost block, where one is open
pub record Innermost (s ends : List ℕ) (code : Code) (bound count at : ℕ) (places : List ℕ) : Type 0 where
  pub outer : List ℕ
  pub split : places ≡ at ∷ outer
  pub below : at < bound
  pub onward : ℕ
  pub opener : Opener s at onward
  pub is : past_ends 1 (code_at s onward) ≡ past_ends count code
  pub around : Open s ends code at (suc count) (get_or ends at 0) outer

pub innermost_open : {s ends : List ℕ} {code : Code} {bound count at : ℕ} {places : List ℕ} → Open s ends code bound count (suc at) places → Innermost s ends code bound count at places
innermost_open (one_open {next = next} {places = places} below opener is around) =
    record { outer = places; split = refl; below = below; onward = next; opener = opener; is = is; around = around }

pub no-places : {s ends : List ℕ} {code : Code} {bound count : ℕ} {places : List ℕ} → Open s ends code bound count 0 places → places ≡ []
no-places none_open = refl

-- past one instruction

module _ (at n : ℕ) (code : Code) where
  pub past_inside : (o : Op) → past_ends (n + 1) ((at, op o) ∷ code) ≡ past_ends (n + 1) code
  unfolding past_ends
  past_inside o = let one : n + 1 ≡ suc n = omega arith in rw one

  pub past_block_lem : (rs : List Val) → past_ends (n + 1) ((at, block rs) ∷ code) ≡ past_ends (n + 2) code
  unfolding past_ends
  past_block_lem rs = let one : n + 1 ≡ suc n = omega arith in let two : n + 2 ≡ suc (suc n) = omega arith in rw (one, two)

  pub past_loop : (rs : List Val) → past_ends (n + 1) ((at, loop rs) ∷ code) ≡ past_ends (n + 2) code
  unfolding past_ends
  past_loop rs = let one : n + 1 ≡ suc n = omega arith in let two : n + 2 ≡ suc (suc n) = omega arith in rw (one, two)

  pub past_end : past_ends (n + 2) ((at, end) ∷ code) ≡ past_ends (n + 1) code
  unfolding past_ends
  past_end = let one : n + 1 ≡ suc n = omega arith in let two : n + 2 ≡ suc (suc n) = omega arith in rw (one, two)
