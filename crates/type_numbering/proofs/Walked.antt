-- The loops: turns of the walks over a forest, with the words of the rows as its sizes, starts and ends.
use Prim.Native.Nat.{ℕ, suc, ◌+◌, ◌-◌, ◌*◌, ◌%◌, ◌≤◌, ◌<◌}
use native.Mathlib.Omega.{arith}
use native.Mathlib.Numerals.{add-one}
use mathlib.Core.Path.{◌≡◌, ◌∙◌, ap, subst, fun_ext}
use mathlib.Core.List.{List}
use borrow.Author.Count.{below_more}
use lib.ListN.{set}
use Rattle.scope.specs.Layout.{row_span}
use Rattle.scope.specs.Syntax.{Types, super_of}
use Rattle.scope.specs.Memory.{or_zero}
use Rattle.lent_u16.specs.Words.{word_limit}
use Rattle.scope.specs.Ranges.{size_in, start_in}
use Rattle.type_forest.specs.Walks.{Sizing, Grown, Placing, Placed}
use Rattle.type_forest.proofs.Sizing.{sizing_first, sizing_small, sizing_turn, sizing_last, sizing_all}
use Rattle.type_forest.proofs.Placing.{placing_first, placing_small, placing_next, placing_turn, placing_starts, placing_ends}
use Rattle.type_forest.proofs.Exact.{sizes_exact, starts_exact}
use Rattle.type_span.specs.Span.{end_word, start_at, end_at, Beside}
use Rattle.type_span.proofs.Stores.{Set, set_is, beside_more, beside_none, beside_view}
use Rattle.type_numbering.specs.Ranges.{parent_of, Clearable, Emptied, Sizeable, SizedOne, Numberable, Empty, Sized, Placeable, PlacedOne, Startable, Numbered}

-- the parents are not words of a range
beside_parents : {n : ℕ} {rows rows' : List ℕ} → Beside n rows rows' → (codes : List ℕ) → parent_of rows' codes ≡ parent_of rows codes
unfolding parent_of
beside_parents b codes = fun_ext (λ x. ap (λ (ts : Types). or_zero (super_of (ts x))) (beside_view b codes))

-- what stood in the ranges before does not matter
pub beside_numbered : {n : ℕ} {codes rows rows₁ rows₂ : List ℕ} → Beside n rows rows₁ → Numbered n codes rows₁ rows₂ → Numbered n codes rows rows₂
beside_numbered {n} {codes} {rows} {rows₁} {rows₂} b t =
    let same : parent_of rows₁ codes ≡ parent_of rows codes = beside_parents b codes in
    record {
      beside = beside_more b t.beside n (omega arith) (omega arith);
      size = t.size;
      sizes = rw (← same) t.sizes;
      starts = rw (← same) t.starts;
      ends = t.ends;
      starts_are = λ x less. t.starts_are x less ∙ ap (λ (p : ℕ → ℕ). start_in p n x) same;
      ends_are = λ x less. t.ends_are x less ∙ ap (λ (p : ℕ → ℕ). start_in p n x + size_in p n x) same;
    }

-- ends, cleared

pub record EndsSoFar (n : ℕ) (rows₀ rows : List ℕ) (x : ℕ) : Type 0 where
  pub beside : Beside n rows₀ rows
  pub fresh : (y : ℕ) → y < x → end_at rows y ≡ 0

pub ends_first : (n : ℕ) (rows : List ℕ) → EndsSoFar n rows rows 0
ends_first n rows = record { beside = beside_none n rows; fresh = λ y less. absurd (omega arith) }

module _ {n : ℕ} {rows₀ rows : List ℕ} {x : ℕ} (s : EndsSoFar n rows₀ rows x) where
  pub ends_last : n ≤ x → Emptied n rows₀ rows
  ends_last h = record { beside = s.beside; fresh = λ y less. s.fresh y (omega arith) }

  pub ends_turn : {rows' : List ℕ} → Clearable n rows₀ → x < n → rows' ≡ set rows (row_span * x + end_word) (0 % word_limit) → EndsSoFar n rows₀ rows' (x + 1)
  ends_turn {rows'} ok inside e =
      let long = s.beside.size in
      let room = ok.room in
      let t : Set rows rows' x end_word 0 = set_is x end_word e (omega arith) (omega arith) (omega arith) in
      record {
        beside = beside_more s.beside (t.beside n inside (omega arith)) n (omega arith) (omega arith);
        fresh = below_more _ _ (λ y less. t.row y end_word (λ f. omega arith) (omega arith) ∙ s.fresh y less) t.here;
      }

pub ruleset ends_exits = (ends_first, ends_last, ends_turn)

-- sizes

pub record SizesSoFar (n : ℕ) (codes rows₀ rows : List ℕ) (k : ℕ) : Type 0 where
  pub ok : Numberable n codes rows₀
  pub beside : Beside n rows₀ rows
  pub sizing : Sizing (parent_of rows₀ codes) n k (end_at rows)

pub sizes-first : {n : ℕ} {codes rows : List ℕ} → Empty n codes rows → SizesSoFar n codes rows rows n
sizes-first {n} {codes} {rows} ok =
    record { ok = ok.ok; beside = beside_none n rows; sizing = sizing_first (parent_of rows codes) n (end_at rows) ok.fresh }

module _ {n : ℕ} {codes rows₀ rows : List ℕ} {k : ℕ} (s : SizesSoFar n codes rows₀ rows k) where
  pub sizes_last : k ≤ 0 → Sized n codes rows₀ rows
  sizes_last h =
      let z : k ≡ 0 = omega arith in
      let sizing : Sizing (parent_of rows₀ codes) n 0 (end_at rows) = rw z at s.sizing in
      record { beside = s.beside; sizes = sizing_last sizing; all = sizing_all sizing }

  module _ (more : 0 < k) where
    before : Sizing (parent_of rows₀ codes) n (suc (k - 1)) (end_at rows)
    before = let z : k ≡ suc (k - 1) = omega arith in subst (λ (j : ℕ). Sizing (parent_of rows₀ codes) n j (end_at rows)) z s.sizing

    here_lower : parent_of rows₀ codes (k - 1) ≤ k - 1
    here_lower = let m = s.sizing.most in s.ok.lower.each (k - 1) (omega arith)

    pub sizes-need : Sizeable (k - 1) codes rows
    sizes-need =
        let m = s.sizing.most in
        let long = s.beside.size in
        let room = s.ok.room in
        let count = s.ok.count in
        record {
          room = omega arith;
          count = omega arith;
          lower = rw (beside_parents s.beside codes) here_lower;
          small = λ y h. omega (arith, sizing_small before here_lower y h);
        }

    pub sizes_turn : {rows' : List ℕ} → SizedOne (k - 1) codes rows rows' → SizesSoFar n codes rows₀ rows' (k - 1)
    sizes_turn {rows'} t =
        let m = s.sizing.most in
        let grown : Grown (parent_of rows₀ codes) (k - 1) (end_at rows) (end_at rows') = rw (beside_parents s.beside codes) at t.grown in
        record {
          ok = s.ok;
          beside = beside_more s.beside t.beside n (omega arith) (omega arith);
          sizing = sizing_turn before here_lower grown;
        }

pub ruleset sizes_exits = (sizes-first, sizes_last, sizes-need, sizes_turn)

-- starts

pub record StartsSoFar (n : ℕ) (codes rows₀ rows : List ℕ) (x next : ℕ) : Type 0 where
  pub ok : Startable n codes rows₀
  pub beside : Beside n rows₀ rows
  pub placing : Placing (parent_of rows₀ codes) n (end_at rows₀) x (start_at rows) (end_at rows) next

pub starts_first : {n : ℕ} {codes rows : List ℕ} → Startable n codes rows → StartsSoFar n codes rows rows 0 1
starts_first {n} {codes} {rows} ok =
    record { ok = ok; beside = beside_none n rows; placing = placing_first (parent_of rows codes) n (end_at rows) (start_at rows) }

module _ {n : ℕ} {codes rows₀ rows : List ℕ} {x next : ℕ} (s : StartsSoFar n codes rows₀ rows x next) where
  pub starts_last : n ≤ x → Numbered n codes rows₀ rows
  starts_last h =
      let m = s.placing.most in
      let z : x ≡ n = omega arith in
      let placing : Placing (parent_of rows₀ codes) n (end_at rows₀) n (start_at rows) (end_at rows) next = rw z at s.placing in
      let ok = s.ok in
      let starts = placing_starts ok.lower ok.sizes ok.all placing in
      let ends = placing_ends ok.lower ok.sizes ok.all placing in
      let begin = starts_exact ok.lower ok.sizes starts in
      record {
        beside = s.beside;
        size = end_at rows₀;
        sizes = ok.sizes;
        starts = starts;
        ends = ends;
        starts_are = begin;
        ends_are = λ y less. omega (arith, ends y less, begin y less, sizes_exact ok.lower ok.sizes y less);
      }

  module _ (inside : x < n) where
    pub starts-need : Placeable x next codes rows
    starts-need =
        let long = s.beside.size in
        let ok = s.ok in
        let room = ok.room in
        let count = ok.count in
        record {
          room = omega arith;
          count = omega arith;
          lower = rw (beside_parents s.beside codes) (ok.lower.each x inside);
          small = λ y h. omega (arith, placing_small ok.lower ok.sizes ok.all s.placing inside y h);
          next_small = omega (arith, placing_next ok.lower ok.sizes ok.all s.placing inside);
        }

    pub starts_turn : {rows' : List ℕ} {r : ℕ} → PlacedOne x next codes rows rows' r → StartsSoFar n codes rows₀ rows' (x + 1) r
    starts_turn {rows'} {r} t =
        let ok = s.ok in
        let placed : Placed (parent_of rows₀ codes) x (start_at rows) (end_at rows) next (start_at rows') (end_at rows') r = rw (beside_parents s.beside codes) at t.placed in
        record {
          ok = ok;
          beside = beside_more s.beside t.beside n (omega arith) (omega arith);
          placing = rw (add-one x) (placing_turn ok.lower ok.sizes ok.all s.placing inside placed);
        }

pub ruleset starts_exits = (starts_first, starts_last, starts-need, starts_turn)

-- one after the other

pub numberable_clearable : {n : ℕ} {codes rows : List ℕ} → Numberable n codes rows → Clearable n rows
numberable_clearable ok = record { room = ok.room }

module _ {n : ℕ} {codes rows rows₁ : List ℕ} (ok : Numberable n codes rows) (e : Emptied n rows rows₁) where
  pub emptied_empty : Empty n codes rows₁
  emptied_empty =
      let long = e.beside.size in
      let room = ok.room in
      record {
        ok = record { room = omega arith; count = ok.count; lower = rw (beside_parents e.beside codes) ok.lower };
        fresh = e.fresh;
      }

  module _ {rows₂ : List ℕ} (s : Sized n codes rows₁ rows₂) where
    pub sized_startable : Startable n codes rows₂
    sized_startable =
        let long = s.beside.size in
        let longer = e.beside.size in
        let room = ok.room in
        record {
          room = omega arith;
          count = ok.count;
          lower = rw (beside_parents s.beside codes, beside_parents e.beside codes) ok.lower;
          sizes = rw (beside_parents s.beside codes) s.sizes;
          all = rw (beside_parents s.beside codes) s.all;
        }

    pub numbered-whole : {rows₃ : List ℕ} → Numbered n codes rows₂ rows₃ → Numbered n codes rows rows₃
    numbered-whole {rows₃} t =
        let same : parent_of rows₂ codes ≡ parent_of rows codes = beside_parents s.beside codes ∙ beside_parents e.beside codes in
        record {
          beside = beside_more e.beside (beside_more s.beside t.beside n (omega arith) (omega arith)) n (omega arith) (omega arith);
          size = t.size;
          sizes = rw same at t.sizes;
          starts = rw same at t.starts;
          ends = t.ends;
          starts_are = rw same at t.starts_are;
          ends_are = rw same at t.ends_are;
        }

pub ruleset number_exits = (numberable_clearable, emptied_empty, sized_startable, numbered-whole)
