-- Values in memory: what two words say, which words are those of the value that they say, and what a store of a value leaves.
use Prim.Native.Nat.{ℕ, ◌+◌, ◌-◌, ◌*◌, ◌≤◌, ◌<◌}
use mathlib.Core.Path.{◌≡◌, refl, sym, ap, ap₂, ◌∙◌}
use mathlib.Core.Logic.{◌⊎◌, inl, inr}
use mathlib.Core.Bool.{true, false}
use mathlib.Core.Option.{none, some}
use mathlib.Core.List.{List, [], ◌∷◌, ◌++◌, map}
use native.Mathlib.Omega.{arith}
use lib.ListN.{length, get_or, set, take, length-set}
use lib.Seq.{get_or-set_same, get_or-set_other}
use lib.Dec.{eqb}
use borrow.Author.Tests.{ne_eqb, eqb-true, eqb-false}
use Rattle.scope.specs.Layout.{value_span}
use Rattle.scope.specs.Lists.{joined}
use Rattle.scope.specs.Syntax.{Number, i32, i64, f32, f64}
use Rattle.scope.specs.Order.{number_code}
use Rattle.scope.specs.Machine.{number, null, object}
use Rattle.scope.specs.Memory.{value_words, local_words}
use Rattle.scope.proofs.Truths.{decided}
use Rattle.scope.proofs.Impossible.{contradiction}
use Rattle.run_values.specs.Layout.{kind_place, bits_place, no_value, i32_kind, null_kind, object_kind}
use Rattle.type_table.specs.View.{number_at}
use Rattle.type_table.proofs.Codes.{val_number, val_code-at}
use Rattle.run_values.specs.Values.{numbered, within, value_at, held_at, entry_in, values_from, held_from, set_value, Canon, HeldCanon, AllWords, AllCanon, AllHeldCanon}
use Rattle.run_values.proofs.Numbered.{numbered_more, numbered_same, numbered-set, pairs_are}

-- a kind, read

pub value_null : {k : ℕ} (n : ℕ) → k ≡ null_kind → value_at k n ≡ null
unfolding value_at
value_null n e = rw e

pub value_object : {k : ℕ} (n : ℕ) → k ≡ object_kind → value_at k n ≡ object n
unfolding value_at
value_object n e = rw e

pub value_number : {k : ℕ} (n : ℕ) → (k ≡ null_kind → ⊥) → (k ≡ object_kind → ⊥) → value_at k n ≡ number (number_at (k - 1)) (within (number_at (k - 1)) n)
unfolding value_at
value_number {k} n a b = rw (ne_eqb k null_kind a, ne_eqb k object_kind b)

pub within-zero : (k : Number) → within k 0 ≡ 0
within-zero i32 = refl
within-zero i64 = refl
within-zero f32 = refl
within-zero f64 = refl

pub value_zero : {k : ℕ} → (k ≡ null_kind → ⊥) → (k ≡ object_kind → ⊥) → value_at k 0 ≡ number (number_at (k - 1)) 0
value_zero {k} a b = value_number 0 a b ∙ ap (number (number_at (k - 1))) (within-zero (number_at (k - 1)))

-- the words of a number say that number
pub value_of_code : (k : Number) (n : ℕ) → value_at (number_code k + 1) n ≡ number k (within k n)
unfolding value_at
value_of_code i32 n = refl
value_of_code i64 n = refl
value_of_code f32 n = refl
value_of_code f64 n = refl

pub zero_of_code : (k : Number) → value_at (number_code k + 1) 0 ≡ number k 0
zero_of_code k = value_of_code k 0 ∙ ap (number k) (within-zero k)

pub held_none : {k : ℕ} (n : ℕ) → k ≡ no_value → held_at k n ≡ none
unfolding held_at
held_none n e = rw e

pub held-some : {k : ℕ} (n : ℕ) → (k ≡ no_value → ⊥) → held_at k n ≡ some (value_at k n)
unfolding held_at
held-some {k} n a = rw (ne_eqb k no_value a)

-- the words of the value that they say

pub canon_zero : {k : ℕ} → i32_kind ≤ k → k < null_kind → Canon k 0
canon_zero {k} h l =
    let small : k - 1 < 4 = omega arith in
    let code : number_code (number_at (k - 1)) ≡ k - 1 = rw (val_number small) at (val_code-at (k - 1)) in
    let same : k ≡ k - 1 + 1 = omega arith in
    record { is = rw (value_zero {k = k} (λ e. omega arith) (λ e. omega arith), code) (ap (λ (c : ℕ). c ∷ 0 ∷ []) same) }

pub canon_null : Canon null_kind 0
unfolding value_at
canon_null = record { is = refl }

pub held_canon_none : HeldCanon no_value 0
unfolding held_at
held_canon_none = record { is = refl }

-- no words of a value are those of none
pub canon_kind : {k n : ℕ} → Canon k n → k ≡ no_value → ⊥
canon_kind {k} {n} c e =
    let words : 0 ∷ n ∷ [] ≡ 1 ∷ within i32 n ∷ [] = rw (e, value_number {k = 0} n (λ y. omega arith) (λ y. omega arith)) at c.is in
    contradiction cc

pub held_canon_some : {k n : ℕ} → Canon k n → HeldCanon k n
held_canon_some {k} {n} c = record { is = rw (held-some n (canon_kind c)) c.is }

-- all values, written: the words themselves

pub canon_words : {m : List ℕ} {n : ℕ} → AllCanon m n → value_span * n ≤ length m → joined (map value_words (values_from m 0 n)) ≡ take (value_span * n) m
unfolding entry_in
canon_words {m} {n} c room = pairs_are (entry_in value_at m) value_words m n room (λ j h. sym (c.each j h).is)

pub held_canon_words : {m : List ℕ} {n : ℕ} → AllHeldCanon m n → value_span * n ≤ length m → joined (map local_words (held_from m 0 n)) ≡ take (value_span * n) m
unfolding entry_in
held_canon_words {m} {n} c room = pairs_are (entry_in held_at m) local_words m n room (λ j h. sym (c.each j h).is)

-- fewer entries, and words that are the same

pub all_less : {P : ℕ → ℕ → Type 0} {m : List ℕ} {n k : ℕ} → AllWords P m n → k ≤ n → AllWords P m k
all_less c h = record { each = λ j l. c.each j (omega arith) }

pub entry_same : {A : Type 0} (f : ℕ → ℕ → A) (m m' : List ℕ) (j : ℕ) → get_or m' (kind_place j) 0 ≡ get_or m (kind_place j) 0 → get_or m' (bits_place j) 0 ≡ get_or m (bits_place j) 0 → entry_in f m' j ≡ entry_in f m j
unfolding entry_in
entry_same f m m' j a b = ap₂ f a b

module _ (m m' : List ℕ) (n : ℕ) (same : (i : ℕ) → i < value_span * n → get_or m' i 0 ≡ get_or m i 0) where
  pub entries_same : {A : Type 0} (f : ℕ → ℕ → A) (at k : ℕ) → at + k ≤ n → numbered (entry_in f m') at k ≡ numbered (entry_in f m) at k
  entries_same f at k h =
      numbered_same (entry_in f m) (entry_in f m') at k (λ j l g. entry_same f m m' j (same (kind_place j) (omega arith)) (same (bits_place j) (omega arith)))

  pub all_same : {P : ℕ → ℕ → Type 0} → AllWords P m n → AllWords P m' n
  all_same c = record { each = λ j h. rw (same (kind_place j) (omega arith), same (bits_place j) (omega arith)) (c.each j h) }

-- an entry that was put

module _ (m : List ℕ) (j k n : ℕ) where
  pub put_long : length (set_value m j k n) ≡ length m
  unfolding set_value
  put_long = length-set (set m (kind_place j) k) (bits_place j) n ∙ length-set m (kind_place j) k

  pub put_beside : (i : ℕ) → (i ≡ kind_place j → ⊥) → (i ≡ bits_place j → ⊥) → get_or (set_value m j k n) i 0 ≡ get_or m i 0
  unfolding set_value
  put_beside i a b = get_or-set_other (set m (kind_place j) k) (bits_place j) i n 0 b ∙ get_or-set_other m (kind_place j) i k 0 a

  pub put_other : {A : Type 0} (f : ℕ → ℕ → A) (i : ℕ) → (i ≡ j → ⊥) → entry_in f (set_value m j k n) i ≡ entry_in f m i
  put_other f i d =
      entry_same f m (set_value m j k n) i
      (put_beside (kind_place i) (λ e. d (omega arith)) (λ e. omega arith))
      (put_beside (bits_place i) (λ e. omega arith) (λ e. d (omega arith)))

  module _ (room : bits_place j < length m) where
    pub put_kind : get_or (set_value m j k n) (kind_place j) 0 ≡ k
    unfolding set_value
    put_kind = get_or-set_other (set m (kind_place j) k) (bits_place j) (kind_place j) n 0 (λ e. omega arith) ∙ get_or-set_same m (kind_place j) k 0 (omega arith)

    pub put_bits : get_or (set_value m j k n) (bits_place j) 0 ≡ n
    unfolding set_value
    put_bits = get_or-set_same (set m (kind_place j) k) (bits_place j) n 0 (rw (length-set m (kind_place j) k) room)

    pub put_here : {A : Type 0} (f : ℕ → ℕ → A) → entry_in f (set_value m j k n) j ≡ f k n
    unfolding entry_in
    put_here f = ap₂ f put_kind put_bits

    -- among so many, and after so many
    pub put_among : {A : Type 0} (f : ℕ → ℕ → A) (at count i : ℕ) → i < count → at + i ≡ j → numbered (entry_in f (set_value m j k n)) at count ≡ set (numbered (entry_in f m) at count) i (f k n)
    put_among f at count i h e =
        numbered-set (entry_in f m) (entry_in f (set_value m j k n)) at count i h (λ o a b d. put_other f o (λ z. d (omega arith)))
        ∙ ap (set (numbered (entry_in f m) at count) i) (ap (entry_in f (set_value m j k n)) e ∙ put_here f)

    pub put_next : {A : Type 0} (f : ℕ → ℕ → A) (at i : ℕ) → at + i ≡ j → numbered (entry_in f (set_value m j k n)) at (i + 1) ≡ numbered (entry_in f m) at i ++ (f k n ∷ [])
    put_next f at i e =
        numbered_more (entry_in f (set_value m j k n)) at i
        ∙ ap₂ (λ (l : List _) (v : _). l ++ (v ∷ []))
        (numbered_same (entry_in f m) (entry_in f (set_value m j k n)) at i (λ o a b. put_other f o (λ z. omega arith)))
        (ap (entry_in f (set_value m j k n)) e ∙ put_here f)

    put_each : (P : ℕ → ℕ → Type 0) (i : ℕ) → ((i ≡ j → ⊥) → P (get_or m (kind_place i) 0) (get_or m (bits_place i) 0)) → P k n → P (get_or (set_value m j k n) (kind_place i) 0) (get_or (set_value m j k n) (bits_place i) 0)
    put_each P i before c = go (decided (eqb i j))
      where
        go : (eqb i j ≡ true) ⊎ (eqb i j ≡ false) → P (get_or (set_value m j k n) (kind_place i) 0) (get_or (set_value m j k n) (bits_place i) 0)
        go (inl z) = let e : i ≡ j = eqb-true i j z in rw (e, put_kind, put_bits) c
        go (inr z) =
            let d : i ≡ j → ⊥ = eqb-false i j z in
            rw (put_beside (kind_place i) (λ e. d (omega arith)) (λ e. omega arith), put_beside (bits_place i) (λ e. omega arith) (λ e. d (omega arith))) (before d)

    pub put_all : {P : ℕ → ℕ → Type 0} {count : ℕ} → P k n → AllWords P m count → AllWords P (set_value m j k n) count
    put_all {P} c all = record { each = λ i h. put_each P i (λ d. all.each i h) c }

    -- one more
    pub put_all_more : {P : ℕ → ℕ → Type 0} → P k n → AllWords P m j → AllWords P (set_value m j k n) (j + 1)
    put_all_more {P} c all = record { each = λ i h. put_each P i (λ d. all.each i (omega (arith, d))) c }
