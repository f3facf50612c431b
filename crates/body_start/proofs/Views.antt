-- What the words at the start say: the types that were put, and that a local is set exactly where its mark is 1, since all
-- stamps are 0.
use Prim.Native.Nat.{ℕ, zero, suc, ◌+◌, ◌*◌, ◌≤◌, ◌<◌}
use mathlib.Core.Path.{◌≡◌, refl, ap, ap₂, ◌∙◌}
use mathlib.Core.Bool.{Bool, true, false}
use mathlib.Core.List.{List, [], ◌∷◌, ◌++◌, map}
use native.Mathlib.Omega.{arith}
use native.Mathlib.Nat.{add-zero}
use lib.ListN.{get_or, length}
use Rattle.scope.specs.Syntax.{Val}
use Rattle.scope.specs.Memory.{flag}
use Rattle.type_table.specs.Kept.{kept_val}
use Rattle.type_table.specs.View.{codes_at}
use Rattle.type_table.proofs.CodesBack.{val_code_lem, val_code-small}
use Rattle.type_read.specs.Codes.{val_code_kept}
use Rattle.body_state.specs.Layout.{marks_from, stamps_from, frames_from, frame_span, stamp_word}
use Rattle.body_state.specs.State.{val_at_word, is_set_at, sets_at}
use Rattle.body_start.proofs.Parameters.{val_at_word_lem}

-- types

pub codes-append : {A : Type 0} (f : ℕ → A) (m : List ℕ) (at n k : ℕ) → codes_at f m at (n + k) ≡ codes_at f m at n ++ codes_at f m (at + n) k
unfolding codes_at
codes-append f m at zero k = let here : 0 + k ≡ k = omega arith in rw (here, add-zero at)
codes-append f m at (suc n) k =
    let more : suc n + k ≡ suc (n + k) = omega arith in
    let place : at + 1 + n ≡ at + suc n = omega arith in
    rw (more, ← place) (ap (λ xs. f (get_or m at 0) ∷ xs) (codes-append f m (at + 1) n k))

pub codes_alike : {A : Type 0} (f g : ℕ → A) (m m' : List ℕ) (a b n : ℕ) → ((i : ℕ) → i < n → f (get_or m (a + i) 0) ≡ g (get_or m' (b + i) 0)) → codes_at f m a n ≡ codes_at g m' b n
unfolding codes_at
codes_alike f g m m' a b zero same = refl
codes_alike f g m m' a b (suc n) same =
    ap₂ ◌∷◌ (simp add-zero at (same 0 (omega arith)))
    (codes_alike f g m m' (a + 1) (b + 1) n (λ i h. let l : a + suc i ≡ a + 1 + i = omega arith in let r : b + suc i ≡ b + 1 + i = omega arith in rw (l, r) at (same (suc i) (omega arith))))

val_back : (v : Val) → val_at_word (val_code_kept v) ≡ kept_val v
unfolding val_code_kept
val_back v = val_at_word_lem _ (omega (arith, val_code-small v)) ∙ val_code_lem (kept_val v)

pub words-kept : (m : List ℕ) (at : ℕ) (vs : List Val) → ((k : ℕ) → k < length vs → get_or m (at + k) 0 ≡ get_or (map val_code_kept vs) k 0) → codes_at val_at_word m at (length vs) ≡ map kept_val vs
unfolding codes_at
words-kept m at [] same = refl
words-kept m at (v ∷ vs) same =
    ap₂ ◌∷◌ (ap val_at_word (simp add-zero at (same 0 (omega arith))) ∙ val_back v)
    (words-kept m (at + 1) vs (λ k h. let place : at + suc k ≡ at + 1 + k = omega arith in rw place at (same (suc k) (omega arith))))

-- marks

pub sets_append : (m : List ℕ) (d i n k : ℕ) → sets_at m d i (n + k) ≡ sets_at m d i n ++ sets_at m d (i + n) k
unfolding sets_at
sets_append m d i zero k = let here : 0 + k ≡ k = omega arith in rw (here, add-zero i)
sets_append m d i (suc n) k =
    let more : suc n + k ≡ suc (n + k) = omega arith in
    let place : i + 1 + n ≡ i + suc n = omega arith in
    rw (more, ← place) (ap (λ (xs : List Bool). is_set_at m d i ∷ xs) (sets_append m d (i + 1) n k))

pub sets_by : {A : Type 0} (g : A → Bool) (f : ℕ → A) (m codes : List ℕ) (d i a n : ℕ) → ((k : ℕ) → k < n → is_set_at m d (i + k) ≡ g (f (get_or codes (a + k) 0))) → sets_at m d i n ≡ map g (codes_at f codes a n)
unfolding sets_at codes_at
sets_by g f m codes d i a zero same = refl
sets_by g f m codes d i a (suc n) same =
    ap₂ ◌∷◌ (simp add-zero at (same 0 (omega arith)))
    (sets_by g f m codes d (i + 1) (a + 1) n (λ k h. let l : i + suc k ≡ i + 1 + k = omega arith in let r : a + suc k ≡ a + 1 + k = omega arith in rw (l, r) at (same (suc k) (omega arith))))

-- a mark, where no word from the stamps on is set
pub set_by_mark : (m : List ℕ) (i : ℕ) (b : Bool) → get_or m (marks_from + i) 0 ≡ flag b → ((k : ℕ) → stamps_from ≤ k → get_or m k 0 ≡ 0) → is_set_at m 1 i ≡ b
unfolding is_set_at
set_by_mark m i true e blank = rw (e, blank (frames_from + (frame_span * 1 + stamp_word)) (omega arith), blank (stamps_from + i) (omega arith))
set_by_mark m i false e blank = rw e
