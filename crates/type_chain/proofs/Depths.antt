-- Depths: a type is one deeper than its supertype, which is earlier and so has its depth already.
use Prim.Native.Nat.{ℕ, zero, suc, ◌+◌, ◌*◌, ◌%◌, ◌≤◌, ◌<◌}
use native.Mathlib.Omega.{arith}
use mathlib.Core.Path.{◌≡◌, refl, sym, ◌∙◌, ap}
use mathlib.Core.Bool.{Bool, true, false, not}
use mathlib.Core.Option.{Option, none, some}
use mathlib.Core.List.{List}
use borrow.Author.Count.{below_more}
use borrow.Author.Tests.{lt-ltb, le-ltb, ltb-true, ltb-false}
use lib.Dec.{ltb}
use lib.ListN.{set}
use mir.Syntax.{w64}
use mir.Val.{Fits}
use Rattle.scope.specs.Told.{Maybe}
use Rattle.std.specs.Prelude.{None, Some}
use Rattle.scope.specs.Sizes.{most_steps}
use Rattle.scope.specs.Layout.{row_span}
use Rattle.scope.specs.Syntax.{Types, super_of}
use Rattle.scope.specs.TypeRules.{short_chain}
use Rattle.lent_u16.specs.Words.{word_limit, WordAt}
use Rattle.type_table.specs.View.{view}
use Rattle.type_table.specs.Answers.{link_is}
use Rattle.type_table.proofs.Laws.{link_nothing, link_to}
use Rattle.type_span.specs.Span.{end_word, end_at, Beside}
use Rattle.type_span.proofs.Stores.{Set, set_is, beside_more, beside_none, beside_view}
use Rattle.type_chain.specs.Depths.{shallow, Upward, depth_from, DepthAt, Measurable, Measured}

-- the depth of one type

module _ (types : Types) (rows : List ℕ) (x : ℕ) {l : Maybe ℕ} (e : l ≡ link_is (super_of (types x))) where
  pub depth_none : l ≡ None → DepthAt types rows x 0
  depth_none q = record { is = rw (link_nothing (super_of (types x)) e q); small = omega arith }

  module _ {p : ℕ} (q : l ≡ Some p) where
    pub depth_more : {w : ℕ} → p < x → WordAt rows (row_span * p + end_word) w → DepthAt types rows x (w + 1)
    depth_more h w = let small = w.small in record { is = rw (link_to (super_of (types x)) e q, lt-ltb p x h, w.is); small = omega arith }

    pub depth_later : x ≤ p → DepthAt types rows x 0
    depth_later h = record { is = rw (link_to (super_of (types x)) e q, le-ltb p x h); small = omega arith }

pub depth_fits : {rows : List ℕ} {at w : ℕ} → WordAt rows at w → Fits w64 (w + 1)
depth_fits w = let small = w.small in record { fits = omega arith }

pub ruleset depth_exits = (depth_none, depth_more, depth_later, depth_fits)

-- what a depth says of the chain

top_short : (types : Types) (x : ℕ) → super_of (types x) ≡ none → (steps : ℕ) → short_chain steps types x ≡ true
unfolding short_chain
top_short types x e zero = rw e
top_short types x e (suc steps) = rw e

not-below-zero : (steps : ℕ) → not (ltb steps 0) ≡ true
not-below-zero steps = rw (le-ltb steps 0 (omega arith))

one_deeper : (types : Types) (x p d : ℕ) → super_of (types x) ≡ some p → ((m : ℕ) → short_chain m types p ≡ not (ltb m d)) → (steps : ℕ) → short_chain steps types x ≡ not (ltb steps (d + 1))
unfolding short_chain
one_deeper types x p d e above zero = rw (e, lt-ltb 0 (d + 1) (omega arith))
one_deeper types x p d e above (suc steps) = rw e (above steps ∙ ap not (sym (shifted (ltb steps d) refl)))
  where
    shifted : (b : Bool) → ltb steps d ≡ b → ltb (suc steps) (d + 1) ≡ ltb steps d
    shifted true q = let h = ltb-true steps d q in lt-ltb (suc steps) (d + 1) (omega arith) ∙ sym q
    shifted false q = let h = ltb-false steps d q in le-ltb (suc steps) (d + 1) (omega arith) ∙ sym q

-- the loop

pub record DepthsSoFar (n : ℕ) (codes rows₀ rows : List ℕ) (x : ℕ) : Type 0 where
  pub beside : Beside n rows₀ rows
  pub deep : (y : ℕ) → y < x → Upward (view rows₀ codes) y → (steps : ℕ) → short_chain steps (view rows₀ codes) y ≡ shallow steps rows y
  pub small : (y : ℕ) → y < x → end_at rows y ≤ y

pub depths_first : (n : ℕ) (codes rows : List ℕ) → DepthsSoFar n codes rows rows 0
depths_first n codes rows =
    record { beside = beside_none n rows; deep = λ y less. absurd (omega arith); small = λ y less. absurd (omega arith) }

module _ {n : ℕ} {codes rows₀ rows : List ℕ} {x : ℕ} (s : DepthsSoFar n codes rows₀ rows x) where
  abbrev types : Types
  types = view rows₀ codes

  pub depths_last : n ≤ x → Measured n codes rows₀ rows
  depths_last h =
      let same = beside_view s.beside codes in
      record { beside = s.beside; depths = record { deep = λ y less up steps. rw same (s.deep y (omega arith) (record { each = λ z p early e. up.each z p early (rw same e) }) steps) } }

  module _ {depth : ℕ} (d : DepthAt (view rows codes) rows x depth) where
    from_types : depth ≡ depth_from types rows x
    from_types = d.is ∙ ap (λ (ts : Types). depth_from ts rows x) (beside_view s.beside codes)

    few : (o : Option ℕ) → super_of (types x) ≡ o → depth ≤ x
    few none e = let zero-deep : depth ≡ 0 = from_types ∙ rw e in omega arith
    few (some p) e = go (ltb p x) refl
      where
        go : (b : Bool) → ltb p x ≡ b → depth ≤ x
        go true q = let less = ltb-true p x q in let above = s.small p less in let is : depth ≡ end_at rows p + 1 = from_types ∙ rw (e, q) in omega arith
        go false q = let is : depth ≡ 0 = from_types ∙ rw (e, q) in omega arith

    here : (o : Option ℕ) → super_of (types x) ≡ o → Upward types x → (steps : ℕ) → short_chain steps types x ≡ not (ltb steps depth)
    here none e up steps =
        let is : depth ≡ 0 = from_types ∙ rw e in top_short types x e steps ∙ sym (ap (λ (k : ℕ). not (ltb steps k)) is ∙ not-below-zero steps)
    here (some p) e up steps =
        let less : p < x = up.each x p (omega arith) e in
        let is : depth ≡ end_at rows p + 1 = from_types ∙ rw (e, lt-ltb p x less) in
        let above = s.deep p less (record { each = λ y q early f. up.each y q (omega arith) f }) in
        one_deeper types x p (end_at rows p) e above steps ∙ sym (ap (λ (k : ℕ). not (ltb steps k)) is)

    pub depths_turn : {rows' : List ℕ} → Measurable n rows₀ → x < n → rows' ≡ set rows (row_span * x + end_word) (depth % word_limit) → DepthsSoFar n codes rows₀ rows' (x + 1)
    depths_turn {rows'} ok inside e =
        let long = s.beside.size in
        let room = ok.room in
        let count = ok.count in
        let low : depth ≤ x = few (super_of (types x)) refl in
        let t : Set rows rows' x end_word depth = set_is x end_word e (omega arith) (omega arith) (omega arith) in
        record {
          beside = beside_more s.beside (t.beside n inside (omega arith)) n (omega arith) (omega arith);
          deep = below_more _ _
              (λ y less up steps. s.deep y less up steps ∙ ap (λ (k : ℕ). not (ltb steps k)) (sym (t.row y end_word (λ f. omega arith) (omega arith))))
              (λ up steps. rw t.here (here (super_of (types x)) refl up steps));
          small = below_more _ _ (λ y less. rw (t.row y end_word (λ f. omega arith) (omega arith)) (s.small y less)) (rw t.here low);
        }

pub ruleset depths_exits = (depths_first, depths_last, depths_turn)

-- the question

module _ (rows : List ℕ) (x : ℕ) {w : ℕ} (e : WordAt rows (row_span * x + end_word) w) where
  pub shallow-yes : w ≤ most_steps → true ≡ shallow most_steps rows x
  shallow-yes h = sym (rw (sym e.is, le-ltb most_steps w h))

  pub shallow-no : most_steps < w → false ≡ shallow most_steps rows x
  shallow-no h = sym (rw (sym e.is, lt-ltb most_steps w h))

pub ruleset shallow_exits = (shallow-yes, shallow-no)
