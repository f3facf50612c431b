-- Words read as operands and as what is wanted, the stack that the words say, and the first of a list from the last.
use Prim.Native.Nat.{ℕ, zero, suc, ◌+◌, ◌-◌, ◌%◌, ◌<◌}
use mathlib.Core.Path.{◌≡◌, ap, ◌∙◌}
use mathlib.Core.Option.{some}
use mathlib.Core.List.{List, [], ◌∷◌, ◌++◌, reverse, reverse-append}
use native.Mathlib.Omega.{arith}
use native.Mathlib.Nat.{mod-eq_of_lt}
use lib.ListN.{get_or, get_elem?, take}
use borrow.Author.Tests.{ne_eqb}
use Rattle.scope.specs.BodyRules.{value}
use Rattle.scope.specs.Bodies.{known}
use Rattle.scope.proofs.Impossible.{impossible}
use Rattle.type_table.specs.View.{val_at_code}
use Rattle.body_state.specs.Layout.{operands_from, word_bound, code_bound}
use Rattle.body_state.specs.State.{operand_at_code, wanted_at_code, stack}

-- words

pub known_word : {o : ℕ} → (o ≡ 0 → ⊥) → (o ≡ 1 → ⊥) → operand_at_code o ≡ known (val_at_code (o - 2))
unfolding operand_at_code
known_word {o} a b = rw (ne_eqb o 0 a, ne_eqb o 1 b)

pub value_word : {w : ℕ} → (w ≡ 0 → ⊥) → (w ≡ 1 → ⊥) → wanted_at_code w ≡ value (val_at_code (w - 2))
unfolding wanted_at_code
value_word {w} a b = rw (ne_eqb w 0 a, ne_eqb w 1 b)

-- two more than a code, and what is kept of that in 32 bits

pub value_code : (c : ℕ) → wanted_at_code (c + 2) ≡ value (val_at_code c)
value_code c =
    let same : c + 2 - 2 ≡ c = omega arith in
    value_word (λ e. omega arith) (λ e. omega arith) ∙ ap (λ (k : ℕ). value (val_at_code k)) same

pub known_kept : {c : ℕ} → c < code_bound → operand_at_code ((c + 2) % word_bound) ≡ known (val_at_code c)
known_kept {c} h =
    let small : (c + 2) % word_bound ≡ c + 2 = mod-eq_of_lt (omega arith) in
    let same : c + 2 - 2 ≡ c = omega arith in
    ap operand_at_code small ∙ known_word (λ e. omega arith) (λ e. omega arith) ∙ ap (λ (k : ℕ). known (val_at_code k)) same

-- lists

take_there : {A : Type 0} (xs : List A) (i : ℕ) {x : A} → get_elem? xs i ≡ some x → take (suc i) xs ≡ take i xs ++ (x ∷ [])
take_there [] i e = impossible cc
take_there (y ∷ ys) zero e = cc
take_there (y ∷ ys) (suc i) e = ap (λ (l : List _). y ∷ l) (take_there ys i e)

-- one more of the first, from the last
pub reverse_there : {A : Type 0} (xs : List A) (i : ℕ) {x : A} → get_elem? xs i ≡ some x → reverse (take (suc i) xs) ≡ x ∷ reverse (take i xs)
reverse_there xs i {x} e = ap reverse (take_there xs i e) ∙ reverse-append (take i xs) (x ∷ [])

-- the stack

module _ (work : List ℕ) (base : ℕ) where
  pub stack-none : {height : ℕ} → height ≡ 0 → stack work base height ≡ []
  unfolding stack
  stack-none e = rw e

  pub stack_more : (height : ℕ) → stack work base (height + 1) ≡ operand_at_code (get_or work (operands_from + (base + height)) 0) ∷ stack work base height
  unfolding stack
  stack_more height = let same : height + 1 ≡ suc height = omega arith in rw same

  pub stack_some : {height : ℕ} → (height ≡ 0 → ⊥) → stack work base height ≡ operand_at_code (get_or work (operands_from + (base + (height - 1))) 0) ∷ stack work base (height - 1)
  stack_some {height} n = let same : height ≡ height - 1 + 1 = omega (arith, n) in ap (stack work base) same ∙ stack_more (height - 1)
