-- The operands that the words say: how many, what of the memory they depend on, parts of them, and all of them as words.
use Prim.Native.Nat.{ℕ, zero, suc, ◌+◌, ◌-◌, ◌*◌, ◌≤◌, ◌<◌}
use mathlib.Core.Path.{◌≡◌, refl, sym, ap, ap₂, ◌∙◌}
use mathlib.Core.Option.{none, some}
use mathlib.Core.List.{List, [], ◌∷◌, ◌++◌, map, reverse, reverse-cons}
use native.Mathlib.Omega.{arith}
use native.Mathlib.Numerals.{add-one}
use lib.ListN.{length, get_or, take, drop, take-append-drop}
use lib.Seq.{length-take-le, take_at}
use Rattle.scope.specs.Layout.{value_span}
use Rattle.scope.specs.Lists.{joined}
use Rattle.scope.specs.Machine.{Value, split_top}
use Rattle.scope.specs.Memory.{value_words}
use Rattle.scope.proofs.Taking.{split_top_lem}
use Rattle.run_values.specs.Layout.{kind_place, bits_place}
use Rattle.run_values.specs.Values.{numbered, values_from, AllCanon, entry_in, value_at}
use Rattle.run_values.proofs.Numbered.{numbered_more}
use Rattle.run_values.proofs.Laws.{canon_words, entry_same}
use Rattle.run_stack.specs.Pile.{pile}

module _ (m : List ℕ) (base : ℕ) where
  pub pile-length : (h : ℕ) → length (pile m base h) ≡ h
  unfolding pile
  pile-length zero = refl
  pile-length (suc h) = ap suc (pile-length h)

  pub pile-none : {h : ℕ} → h ≡ 0 → pile m base h ≡ []
  unfolding pile
  pile-none e = rw e

  pub pile_more : (h : ℕ) → pile m base (h + 1) ≡ entry_in value_at m (base + h) ∷ pile m base h
  unfolding pile
  pile_more h = rw (add-one h) refl

  pub pile-some : {h : ℕ} → (h ≡ 0 → ⊥) → pile m base h ≡ entry_in value_at m (base + (h - 1)) ∷ pile m base (h - 1)
  pile-some {h} n = let same : h ≡ h - 1 + 1 = omega (arith, n) in ap (pile m base) same ∙ pile_more (h - 1)

-- the same values, from another place on and in another memory
pub pile_shift : (m m' : List ℕ) (from to n : ℕ) → ((k : ℕ) → k < n → entry_in value_at m' (to + k) ≡ entry_in value_at m (from + k)) → pile m' to n ≡ pile m from n
unfolding pile
pile_shift m m' from to zero same = refl
pile_shift m m' from to (suc n) same = ap₂ ◌∷◌ (same n (omega arith)) (pile_shift m m' from to n (λ k h. same k (omega arith)))

-- memories with the same words up to there say the same operands
pub pile_same : (m m' : List ℕ) (base h : ℕ) → ((i : ℕ) → i < value_span * (base + h) → get_or m' i 0 ≡ get_or m i 0) → pile m' base h ≡ pile m base h
pile_same m m' base h same =
    pile_shift m m' base base h (λ k l. entry_same value_at m m' (base + k) (same (kind_place (base + k)) (omega arith)) (same (bits_place (base + k)) (omega arith)))

-- parts

pub pile_join : (m : List ℕ) (base h k : ℕ) → pile m (base + h) k ++ pile m base h ≡ pile m base (h + k)
unfolding pile
pile_join m base h zero = let same : h + 0 ≡ h = omega arith in rw same
pile_join m base h (suc k) =
    let same : h + suc k ≡ suc (h + k) = omega arith in
    let place : base + h + k ≡ base + (h + k) = omega arith in
    rw (same, place) (ap (λ (vs : List Value). entry_in value_at m (base + (h + k)) ∷ vs) (pile_join m base h k))

-- without the highest n
pub drop-pile : (m : List ℕ) (base h n : ℕ) → n ≤ h → drop n (pile m base h) ≡ pile m base (h - n)
unfolding pile
drop-pile m base h zero l = let same : h - 0 ≡ h = omega arith in rw same refl
drop-pile m base zero (suc n) l = absurd (omega arith)
drop-pile m base (suc h) (suc n) l = let same : suc h - suc n ≡ h - n = omega arith in rw same (drop-pile m base h n (omega arith))

-- so many values taken from the top: all of them are there, or none is taken

pub take_split : (n : ℕ) (vs : List Value) → n ≤ length vs → split_top n vs ≡ some (take n vs, drop n vs)
take_split n vs h =
    let long : length (take n vs) ≡ n = length-take-le n vs h in
    ap₂ split_top (sym long) (sym (take-append-drop n vs)) ∙ split_top_lem (take n vs) (drop n vs)

pub few_split : (vs : List Value) (n : ℕ) → length vs < n → split_top n vs ≡ none
unfolding split_top
few_split vs zero h = absurd (omega arith)
few_split [] (suc n) h = refl
few_split (v ∷ vs) (suc n) h = rw (few_split vs n (omega arith))

-- the same of the operands that the words say

pub split_some : (m : List ℕ) (base : ℕ) {h n : ℕ} → n ≤ h → split_top n (pile m base h) ≡ some (pile m (base + (h - n)) n, pile m base (h - n))
split_some m base {h} {n} l =
    let all : h - n + n ≡ h = omega arith in
    let tops = pile m (base + (h - n)) n in
    let parts : pile m base h ≡ tops ++ pile m base (h - n) = ap (pile m base) (sym all) ∙ sym (pile_join m base (h - n) n) in
    ap₂ split_top (sym (pile-length m (base + (h - n)) n)) parts ∙ split_top_lem tops (pile m base (h - n))

pub split_none : (m : List ℕ) (base : ℕ) {h n : ℕ} → h < n → split_top n (pile m base h) ≡ none
split_none m base {h} {n} l = few_split (pile m base h) n (rw (pile-length m base h) l)

-- the bottom first

pub pile-reverse : (m : List ℕ) (base h : ℕ) → reverse (pile m base h) ≡ values_from m base h
unfolding pile numbered
pile-reverse m base zero = refl
pile-reverse m base (suc h) =
    reverse-cons (entry_in value_at m (base + h)) (pile m base h)
    ∙ ap (λ (vs : List Value). vs ++ (entry_in value_at m (base + h) ∷ [])) (pile-reverse m base h)
    ∙ sym (numbered_more (entry_in value_at m) base h)
    ∙ ap (numbered (entry_in value_at m) base) (add-one h)

-- the k values above the lowest `left`, the lowest first
pub values-above : (m : List ℕ) (base left n k : ℕ) → reverse (take k (drop n (pile m base (left + k + n)))) ≡ values_from m (base + left) k
values-above m base left n k =
    let high : left + k + n - n ≡ left + k = omega arith in
    let rest : drop n (pile m base (left + k + n)) ≡ pile m (base + left) k ++ pile m base left = drop-pile m base (left + k + n) n (omega arith) ∙ ap (pile m base) high ∙ sym (pile_join m base left k) in
    let top : take k (pile m (base + left) k ++ pile m base left) ≡ pile m (base + left) k = take_at (pile m (base + left) k) (pile m base left) k (pile-length m (base + left) k) in
    ap (λ (vs : List Value). reverse (take k vs)) rest ∙ ap reverse top ∙ pile-reverse m (base + left) k

-- all operands, written: the words themselves
pub pile-words : {m : List ℕ} {n : ℕ} → AllCanon m n → value_span * n ≤ length m → joined (map value_words (reverse (pile m 0 n))) ≡ take (value_span * n) m
pile-words {m} {n} c room = ap (λ (vs : List Value). joined (map value_words vs)) (pile-reverse m 0 n) ∙ canon_words c room
