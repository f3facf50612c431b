-- Each way out of setting a local. What is set already needs no mark; else the local takes the number and the stamp of the
-- innermost frame, so that it is set there and in no frame around.
use Prim.Native.Nat.{ℕ, zero, suc, ◌+◌, ◌-◌, ◌*◌, ◌%◌, ◌^◌, ◌≤◌, ◌<◌}
use mathlib.Core.Path.{◌≡◌, refl, sym, ap, ap₂, ◌∙◌}
use mathlib.Core.Logic.{◌⊎◌, inl, inr}
use mathlib.Core.Bool.{Bool, true, false}
use mathlib.Core.Option.{Option, some}
use mathlib.Core.List.{List, ◌∷◌}
use native.Mathlib.Omega.{arith}
use native.Mathlib.Nat.{zero-add}
use lib.ListN.{length, get_or, set}
use lib.Seq.{set_out, set-get_or}
use lib.Dec.{eqb, ltb}
use borrow.Author.Tests.{eq-eqb, ne_eqb, lt-ltb, lt-leb, le-leb, eqb-true, eqb-false}
use Rattle.scope.specs.Bodies.{marked}
use Rattle.scope.proofs.Truths.{decided}
use Rattle.type_table.specs.View.{link_at}
use Rattle.lent_u32.specs.Scratch.{Word32At}
use Rattle.body_state.specs.Layout.{marks_from, stamps_from, frames_from, frame_span, stamp_word, word_bound}
use Rattle.body_state.specs.State.{frame_word, is_set_at, sets_at}
use Rattle.body_state.proofs.Alike.{is_set_same, sets_same, sets_length, sets_there, set_further, both_false}
use Rattle.body_marks.specs.Marks.{Ready, Marked}
use Rattle.lent_u16.proofs.Stores.{Stored, stored}

-- a list of marks with one more

sets_with : (work work' : List ℕ) (m i n x : ℕ) → x < n → is_set_at work' m (i + x) ≡ true → ((k : ℕ) → (k ≡ i + x → ⊥) → k < i + n → is_set_at work' m k ≡ is_set_at work m k) → sets_at work' m i n ≡ set (sets_at work m i n) x true
unfolding sets_at
sets_with work work' m i zero x h is others = absurd (omega arith)
sets_with work work' m i (suc n) zero h is others =
    let here : i + 0 ≡ i = omega arith in
    ap₂ ◌∷◌ (rw here at is) (sets_same work work' m m (i + 1) n (λ k l g. others k (λ e. omega arith) (omega arith)))
sets_with work work' m i (suc n) (suc x) h is others =
    let there : i + 1 + x ≡ i + suc x = omega arith in
    let later : is_set_at work' m (i + 1 + x) ≡ true = rw there is in
    ap₂ ◌∷◌ (others i (λ e. omega arith) (omega arith)) (sets_with work work' m (i + 1) n x (omega arith) later (λ k g l. others k (λ e. g (omega arith)) (omega arith)))

-- one local more

module _ {work : List ℕ} {count m : ℕ} (r : Ready work count m) {x : ℕ} (h : x < count) (f : is_set_at work m x ≡ false) {stamp : ℕ} (b : Word32At work (frames_from + (frame_span * m + stamp_word)) stamp) {work₁ work₂ : List ℕ} (first : Stored work work₁ (marks_from + x) m) (second : Stored work₁ work₂ (stamps_from + x) stamp) where
  same : (i : ℕ) → (i ≡ marks_from + x → ⊥) → (i ≡ stamps_from + x → ⊥) → get_or work₂ i 0 ≡ get_or work i 0
  same i l g = second.others i g ∙ first.others i l

  mark_is : get_or work₂ (marks_from + x) 0 ≡ m
  mark_is = second.others (marks_from + x) (λ e. omega (arith, r.few)) ∙ first.here

  frame_is : (n : ℕ) → frame_word work₂ n stamp_word ≡ frame_word work n stamp_word
  frame_is n = same (frames_from + (frame_span * n + stamp_word)) (λ e. omega (arith, r.few)) (λ e. omega (arith, r.few))

  set_now : is_set_at work₂ m x ≡ true
  unfolding is_set_at
  set_now = rw (mark_is, second.here, frame_is m, ← b.is, lt-ltb 0 m r.some', le-leb m m (omega arith)) (eq-eqb stamp stamp refl)

  other_is : (n k : ℕ) → (k ≡ x → ⊥) → k < count → is_set_at work₂ n k ≡ is_set_at work n k
  other_is n k l g =
      is_set_same work work₂ n k
      (same (marks_from + k) (λ e. l (omega arith)) (λ e. omega (arith, r.few)))
      (same (stamps_from + k) (λ e. omega (arith, r.few)) (λ e. l (omega arith)))
      (λ j c. frame_is j)

  not_around : (n : ℕ) → n < m → is_set_at work₂ n x ≡ false
  unfolding is_set_at
  not_around n l = rw (mark_is, lt-leb m n l) (both_false (ltb 0 m))

  around_is : (n : ℕ) → n < m → (k : ℕ) → k < count → is_set_at work₂ n k ≡ is_set_at work n k
  around_is n l k g = go (decided (eqb k x))
    where
      go : (eqb k x ≡ true) ⊎ (eqb k x ≡ false) → is_set_at work₂ n k ≡ is_set_at work n k
      go (inl e) = let z : k ≡ x = eqb-true k x e in rw z (not_around n l ∙ sym (set_further work n m x (omega arith) f))
      go (inr e) = other_is n k (eqb-false k x e) g

  early : (at : ℕ) → frame_word work m stamp_word < at → ((i : ℕ) → i < count → get_or work (stamps_from + i) 0 < at) → (i : ℕ) → i < count → get_or work₂ (stamps_from + i) 0 < at
  early at l old i g = go (decided (eqb i x))
    where
      go : (eqb i x ≡ true) ⊎ (eqb i x ≡ false) → get_or work₂ (stamps_from + i) 0 < at
      go (inl e) = let z : i ≡ x = eqb-true i x e in let s : get_or work₂ (stamps_from + i) 0 ≡ stamp = rw z second.here in omega (arith, b.is)
      go (inr e) = let s : get_or work₂ (stamps_from + i) 0 ≡ get_or work (stamps_from + i) 0 = same (stamps_from + i) (λ z. omega (arith, r.few)) (λ z. eqb-false i x e (omega arith)) in omega (arith, old i g)

  one-marked : Marked work work₂ count m (some x)
  one-marked =
      record {
        here = sets_with work work₂ m 0 count x h (rw (zero-add x) set_now) (λ k g l. other_is m k (λ e. g (omega arith)) (omega arith));
        around = λ n l. sets_same work work₂ n n 0 count (λ k c g. around_is n l k (omega arith));
        early = early;
        types = λ i l. same i (λ e. omega arith) (λ e. omega arith);
        beyond = λ i l. same i (λ e. omega (arith, r.few)) (λ e. omega (arith, r.few));
        size = second.size ∙ first.size;
      }

-- nothing is written

unmarked : {work work' : List ℕ} {count m : ℕ} {marks : Option ℕ} → work' ≡ work → marked marks (sets_at work m 0 count) ≡ sets_at work m 0 count → Marked work work' count m marks
unmarked e same =
    record {
      here = rw e (sym same);
      around = λ n h. rw e;
      early = λ at h f i g. rw e (f i g);
      types = λ i h. rw e;
      beyond = λ i h. rw e;
      size = rw e;
    }

module _ {work : List ℕ} {count m : ℕ} (r : Ready work count m) (marks : ℕ) where
  pub mark_none : marks ≡ 0 → {work' : List ℕ} → work' ≡ work → Marked work work' count m (link_at marks)
  mark_none z e = unmarked e (rw z refl)

  module _ (g : marks ≡ 0 → ⊥) where
    pub mark_absent : count ≤ marks - 1 → {work' : List ℕ} → work' ≡ work → Marked work work' count m (link_at marks)
    mark_absent h e =
        let beyond : length (sets_at work m 0 count) ≤ marks - 1 = rw (sets_length work m 0 count) h in
        unmarked e (rw (ne_eqb marks 0 g) (set_out (sets_at work m 0 count) (marks - 1) true beyond))

    module _ (h : marks - 1 < count) {is : Bool} (a : is ≡ is_set_at work m (marks - 1)) where
      here_is : get_or (sets_at work m 0 count) (marks - 1) false ≡ is
      here_is = sets_there work m 0 count (marks - 1) h ∙ ap (is_set_at work m) (zero-add (marks - 1)) ∙ sym a

      pub mark_already : is ≡ true → {work' : List ℕ} → work' ≡ work → Marked work work' count m (link_at marks)
      mark_already t e =
          let same : set (sets_at work m 0 count) (marks - 1) true ≡ sets_at work m 0 count = ap (set (sets_at work m 0 count) (marks - 1)) (sym (here_is ∙ t)) ∙ set-get_or (sets_at work m 0 count) (marks - 1) false in
          unmarked e (rw (ne_eqb marks 0 g) same)

      pub mark_new : is ≡ false → {stamp : ℕ} → Word32At work (frames_from + (frame_span * m + stamp_word)) stamp → {work₁ work₂ : List ℕ} → work₁ ≡ set work (marks_from + (marks - 1)) (m % word_bound) → work₂ ≡ set work₁ (stamps_from + (marks - 1)) (stamp % word_bound) → m < 2 ^ 32 → Marked work work₂ count m (link_at marks)
      mark_new f {stamp} b {work₁} {work₂} p q w =
          let first : Stored work work₁ (marks_from + (marks - 1)) m = stored word_bound p (omega arith) (omega (arith, r.room, r.few)) in
          let second : Stored work₁ work₂ (stamps_from + (marks - 1)) stamp = stored word_bound q b.small (omega (arith, r.room, r.few, first.size)) in
          rw (ne_eqb marks 0 g) (one-marked r h (sym a ∙ f) b first second)

pub ruleset mark_exits = (mark_none, mark_absent, mark_already, mark_new)
