-- A turn of each walk, as its stores leave the rows.
use Prim.Native.Nat.{ℕ, zero, suc, ◌+◌, ◌*◌, ◌%◌, ◌<◌}
use native.Mathlib.Omega.{arith}
use native.Mathlib.Numerals.{add-one}
use mathlib.Core.Path.{◌≡◌, refl, sym, ◌∙◌, ap}
use mathlib.Core.Option.{Option, none, some}
use mathlib.Core.List.{List}
use lib.ListN.{set}
use Rattle.scope.specs.Told.{Maybe}
use Rattle.std.specs.Prelude.{None, Some}
use Rattle.scope.specs.Layout.{row_span}
use Rattle.scope.specs.Syntax.{super_of}
use Rattle.scope.specs.Memory.{or_zero}
use Rattle.lent_u16.specs.Words.{word_limit, WordAt}
use Rattle.type_table.specs.View.{word_of, view}
use Rattle.type_table.specs.Answers.{link_is}
use Rattle.type_span.specs.Span.{start_word, end_word, start_at, end_at, Beside}
use Rattle.type_span.proofs.Stores.{Set, set_is, beside_more}
use Rattle.type_numbering.specs.Ranges.{parent_of, parent_number, ParentIs, Sizeable, SizedOne, Placeable, PlacedOne}

pub parent_by : (rows codes : List ℕ) (x : ℕ) {above : Maybe ℕ} → above ≡ link_is (super_of (view rows codes x)) → ParentIs rows codes x above
unfolding parent_of
parent_by rows codes x a = record { is = ap parent_number a ∙ linked (super_of (view rows codes x)) }
  where
    linked : (o : Option ℕ) → parent_number (link_is o) ≡ or_zero o
    linked none = refl
    linked (some p) = sym (add-one p)

module _ (rows codes : List ℕ) (x : ℕ) {above : Maybe ℕ} (a : ParentIs rows codes x above) where
  parent_none : above ≡ None → parent_of rows codes x ≡ zero
  parent_none q = sym a.is ∙ ap parent_number q

  parent_is : {p : ℕ} → above ≡ Some p → parent_of rows codes x ≡ suc p
  parent_is {p} q = sym a.is ∙ ap parent_number q

module _ {k : ℕ} {codes rows : List ℕ} (ok : Sizeable k codes rows) {above : Maybe ℕ} (a : ParentIs rows codes k above)
    {w : ℕ} (own : WordAt rows (row_span * k + end_word) w) {rows₁ : List ℕ} (e : rows₁ ≡ set rows (row_span * k + end_word) ((w + 1) % word_limit)) where
  size_set : Set rows rows₁ k end_word (w + 1)
  size_set = set_is k end_word e (let i = own.is in let s = ok.small k (omega arith) in omega arith) ok.room (omega arith)

  pub sized_alone : above ≡ None → SizedOne k codes rows rows₁
  sized_alone q =
      let none : parent_of rows codes k ≡ zero = parent_none rows codes k a q in
      let i : w ≡ end_at rows k = own.is in
      record {
        beside = size_set.beside (suc k) (omega arith) (omega arith);
        grown = record {
          own = (let h = size_set.here in omega arith);
          parent = λ p f. absurd (omega arith);
          others = λ y f g. size_set.row y end_word f (omega arith);
        };
      }

  module _ {q : ℕ} (to : above ≡ Some q) {t : ℕ} (part : WordAt rows₁ (row_span * q + end_word) t) where
    under : (parent_of rows codes k ≡ suc q) × (q < k)
    under = let p : parent_of rows codes k ≡ suc q = parent_is rows codes k a to in let l = ok.lower in (p, omega arith)

    part_is : t ≡ end_at rows q
    part_is = let u = under in part.is ∙ size_set.row q end_word (λ f. omega arith) (omega arith)

    pub sized_under : {rows₂ : List ℕ} → rows₂ ≡ set rows₁ (row_span * q + end_word) ((t + (w + 1)) % word_limit) → SizedOne k codes rows rows₂
    sized_under {rows₂} e₂ =
        let u = under in
        let i : w ≡ end_at rows k = own.is in
        let j : t ≡ end_at rows q = part_is in
        let room = ok.room in
        let s₁ = size_set in
        let b₁ = s₁.beside (suc k) (omega arith) (omega arith) in
        let long = b₁.size in
        let here₁ = s₁.here in
        let s₂ : Set rows₁ rows₂ q end_word (t + (w + 1)) = set_is q end_word e₂ (let s = ok.small k (omega arith) in let r = ok.small q (omega arith) in omega arith) (omega arith) (omega arith) in
        let here₂ = s₂.here in
        let own₂ = s₂.row k end_word (λ f. omega arith) (omega arith) in
        record {
          beside = beside_more b₁ (s₂.beside (suc k) (omega arith) (omega arith)) (suc k) (omega arith) (omega arith);
          grown = record {
            own = omega arith;
            parent = λ p f. (let same : p ≡ q = omega arith in rw same (omega arith));
            others = λ y f g. s₂.row y end_word (λ z. g (u.0 ∙ ap suc (sym z))) (omega arith) ∙ s₁.row y end_word f (omega arith);
          };
        }

pub ruleset size_exits = (sized_alone, sized_under)

module _ {x next : ℕ} {codes rows : List ℕ} (ok : Placeable x next codes rows) {above : Maybe ℕ} (a : ParentIs rows codes x above)
    {w : ℕ} (own : WordAt rows (row_span * x + end_word) w) where
  -- the two words of x, with its start v
  module _ (v : ℕ) (low : v < 4_096) {rows₁ rows₂ : List ℕ} (e₁ : rows₁ ≡ set rows (row_span * x + start_word) (v % word_limit)) (e₂ : rows₂ ≡ set rows₁ (row_span * x + end_word) ((v + 1) % word_limit)) where
    start-set : Set rows rows₁ x start_word v
    start-set = set_is x start_word e₁ (omega arith) ok.room (omega arith)

    end-set : Set rows₁ rows₂ x end_word (v + 1)
    end-set = let long = (start-set.beside (suc x) (omega arith) (omega arith)).size in let r = ok.room in set_is x end_word e₂ (omega arith) (omega arith) (omega arith)

    both_beside : Beside (suc x) rows rows₂
    both_beside = beside_more (start-set.beside (suc x) (omega arith) (omega arith)) (end-set.beside (suc x) (omega arith) (omega arith)) (suc x) (omega arith) (omega arith)

    both-start : start_at rows₂ x ≡ v
    both-start = end-set.word x start_word (λ f. omega arith) (omega arith) ∙ start-set.here

    both_others : (y k : ℕ) → (y ≡ x → ⊥) → k < row_span → word_of rows₂ y k ≡ word_of rows y k
    both_others y k f h = end-set.row y k f h ∙ start-set.row y k f h

  pub placed_alone : above ≡ None → {rows₁ rows₂ : List ℕ} → rows₁ ≡ set rows (row_span * x + start_word) (next % word_limit) → rows₂ ≡ set rows₁ (row_span * x + end_word) ((next + 1) % word_limit) → PlacedOne x next codes rows rows₂ (next + w)
  placed_alone q {rows₁} {rows₂} e₁ e₂ =
      let none : parent_of rows codes x ≡ zero = parent_none rows codes x a q in
      let low = ok.next_small in
      let i : w ≡ end_at rows x = own.is in
      let s = both-start next low e₁ e₂ in
      let h = (end-set next low e₁ e₂).here in
      record {
        beside = both_beside next low e₁ e₂;
        placed = record {
          alone = λ f. (s, omega arith);
          child = λ p f. absurd (omega arith);
          own = omega arith;
          starts = λ y f. both_others next low e₁ e₂ y start_word f (omega arith);
          ends = λ y f g. both_others next low e₁ e₂ y end_word f (omega arith);
        };
      }

  module _ {q : ℕ} (to : above ≡ Some q) {t : ℕ} (part : WordAt rows (row_span * q + end_word) t) where
    pub placed_under : {rows₁ rows₂ rows₃ : List ℕ}
        → rows₁ ≡ set rows (row_span * x + start_word) (t % word_limit)
        → rows₂ ≡ set rows₁ (row_span * x + end_word) ((t + 1) % word_limit)
        → rows₃ ≡ set rows₂ (row_span * q + end_word) ((t + w) % word_limit)
        → PlacedOne x next codes rows rows₃ next
    placed_under {rows₁} {rows₂} {rows₃} e₁ e₂ e₃ =
        let p : parent_of rows codes x ≡ suc q = parent_is rows codes x a to in
        let l = ok.lower in
        let less : q < x = omega arith in
        let i : w ≡ end_at rows x = own.is in
        let j : t ≡ end_at rows q = part.is in
        let lw = ok.small x (omega arith) in
        let lt = ok.small q (omega arith) in
        let low : t < 4_096 = omega arith in
        let b = both_beside t low e₁ e₂ in
        let long = b.size in
        let r = ok.room in
        let s₃ : Set rows₂ rows₃ q end_word (t + w) = set_is q end_word e₃ (omega arith) (omega arith) (omega arith) in
        let here₃ = s₃.here in
        let start₃ : start_at rows₃ x ≡ t = s₃.word x start_word (λ f. omega arith) (omega arith) ∙ both-start t low e₁ e₂ in
        let end₃ : end_at rows₃ x ≡ t + 1 = s₃.row x end_word (λ f. omega arith) (omega arith) ∙ (end-set t low e₁ e₂).here in
        record {
          beside = beside_more b (s₃.beside (suc x) (omega arith) (omega arith)) (suc x) (omega arith) (omega arith);
          placed = record {
            alone = λ f. absurd (omega arith);
            child = λ o f. (let same : o ≡ q = omega arith in rw same (omega arith, omega arith, refl));
            own = omega arith;
            starts = λ y f. s₃.word y start_word (λ z. omega arith) (omega arith) ∙ both_others t low e₁ e₂ y start_word f (omega arith);
            ends = λ y f g. s₃.row y end_word (λ z. g (p ∙ ap suc (sym z))) (omega arith) ∙ both_others t low e₁ e₂ y end_word f (omega arith);
          };
        }

pub ruleset place_exits = (placed_alone, placed_under)
