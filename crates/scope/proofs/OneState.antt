-- The checker stands in one state at a place. Code that is left is the body's code without its first n instructions, and
-- its length says how many those are; so two ways to the same place took the same instructions, one by one, from the start.
use Prim.Native.Nat.{ℕ, zero, suc, ◌-◌}
use native.Mathlib.Omega.{arith}
use mathlib.Core.Path.{◌≡◌, refl, sym, ap, ap₂, ◌∙◌}
use mathlib.Core.List.{List, [], ◌∷◌}
use lib.ListN.{length, drop, length-drop}
use Rattle.scope.specs.Instructions.{Instr}
use Rattle.scope.specs.BodyRules.{allowed}
use Rattle.scope.specs.Bodies.{State, goes_on, judge_instr, Code, Body}
use Rattle.scope.proofs.Telling.{allowed_is_one}
use Rattle.scope.proofs.Standing.{goes_on_is_one}
use Rattle.scope.proofs.Soundness.{Stands, first, further, context_for}
use Rattle.scope.proofs.Impossible.{impossible}

cons_is_one : {A : Type 0} {x y : A} {xs ys : List A} → x ∷ xs ≡ y ∷ ys → x ≡ y
cons_is_one e = cc

drop-one_more : {A : Type 0} (n : ℕ) (l : List A) {x : A} {xs : List A} → drop n l ≡ x ∷ xs → drop (suc n) l ≡ xs
drop-one_more zero [] e = impossible cc
drop-one_more zero (y ∷ l) e = cc
drop-one_more (suc n) [] e = impossible cc
drop-one_more (suc n) (y ∷ l) e = drop-one_more n l e

-- so many instructions stand before the place
stands_after : {b : Body} {st : State} {code : Code} → Stands b st code → (n : ℕ) × (drop n b.code ≡ code)
stands_after first = (0, refl)
stands_after {b} (further stands e) =
    let (n, is) = stands_after stands in
    (suc n, drop-one_more n b.code is)

-- one more instruction is left before the place than after it
same_before : (l : Code) (i j : ℕ × Instr) (code : Code) (n m : ℕ) → drop n l ≡ i ∷ code → drop m l ≡ j ∷ code → i ≡ j
same_before l i j code n m e f =
    let long : length l - n ≡ suc (length code) = sym (length-drop n l) ∙ ap length e in
    let also : length l - m ≡ suc (length code) = sym (length-drop m l) ∙ ap length f in
    let same : n ≡ m = omega arith in
    cons_is_one (sym e ∙ ap (λ (k : ℕ). drop k l) same ∙ f)

not_longer : (l : Code) (i : ℕ × Instr) (n : ℕ) → drop n l ≡ i ∷ l → ⊥
not_longer l i n e =
    let long : length l - n ≡ suc (length l) = sym (length-drop n l) ∙ ap length e in
    omega arith

same_next :
    (b : Body) {st now later after : State} {i j : ℕ × Instr} → st ≡ now → i ≡ j → judge_instr (context_for b) st i.1 ≡ allowed (goes_on later)
    → judge_instr (context_for b) now j.1 ≡ allowed (goes_on after) → later ≡ after
same_next b p q e f = goes_on_is_one (allowed_is_one (sym e ∙ ap₂ (λ s k. judge_instr (context_for b) s k.1) p q ∙ f))

pub one_state_lem : {b : Body} {st now : State} {code rest : Code} → code ≡ rest → Stands b st code → Stands b now rest → st ≡ now
one_state_lem q first first = refl
one_state_lem {b} q first (further {i = i} stands e) =
    let (n, is) = stands_after stands in
    absurd (not_longer b.code i n (is ∙ ap (λ (c : Code). i ∷ c) (sym q)))
one_state_lem {b} q (further {i = i} stands e) first =
    let (n, is) = stands_after stands in
    absurd (not_longer b.code i n (is ∙ ap (λ (c : Code). i ∷ c) q))
one_state_lem {b} q (further {i = i} {code = code} stands e) (further {i = j} {code = rest} also f) =
    let (n, is) = stands_after stands in
    let (m, are) = stands_after also in
    let same : i ≡ j = same_before b.code i j code n m is (are ∙ ap (λ (c : Code). j ∷ c) (sym q)) in
    same_next b (one_state_lem (ap₂ (λ k (c : Code). k ∷ c) same q) stands also) same e f
