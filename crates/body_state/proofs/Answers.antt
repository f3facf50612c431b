-- Each way out of the questions that are asked of the scratch.
use Prim.Native.Nat.{ℕ, zero, suc, ◌+◌, ◌-◌, ◌*◌, ◌/◌, ◌%◌, ◌≤◌, ◌<◌}
use mathlib.Core.Path.{◌≡◌, refl, sym, ap, ◌∙◌}
use mathlib.Core.Bool.{false}
use mathlib.Core.Option.{none, some}
use mathlib.Core.List.{List, [], ◌∷◌, map}
use native.Mathlib.Omega.{arith}
use native.Mathlib.Nat.{add-zero, zero-add}
use lib.ListN.{get_or, get_elem?, length, length-map}
use lib.Dec.{eqb}
use borrow.Author.Tests.{ne_eqb, lt-ltb, lt-leb, le-leb}
use Rattle.std.specs.Prelude.{None, Some}
use Rattle.scope.specs.Syntax.{Val}
use Rattle.scope.specs.BodyRules.{holds_of}
use Rattle.scope.proofs.Impossible.{impossible}
use Rattle.type_table.specs.View.{val_at_code, field_at_code, codes_at}
use Rattle.lent_u16.specs.Words.{WordAt}
use Rattle.lent_u32.specs.Scratch.{Word32At}
use Rattle.body_state.specs.declared.Values.{Values}
use Rattle.body_state.specs.declared.Values
use Rattle.body_state.specs.Layout.{marks_from, stamps_from, frames_from, frame_span, result_word, stamp_word, code_bound}
use Rattle.body_state.specs.State.{val_at_word, results_at, values_of, is_set_at, LocalOf, LengthOf, CodeOf, ResultsOf}

-- codes from a place on

pub codes-length : {A : Type 0} (f : ℕ → A) (codes : List ℕ) (at n : ℕ) → length (codes_at f codes at n) ≡ n
unfolding codes_at
codes-length f codes at zero = refl
codes-length f codes at (suc n) = ap suc (codes-length f codes (at + 1) n)

pub codes_there : {A : Type 0} (f : ℕ → A) (codes : List ℕ) (at n i : ℕ) → i < n → get_elem? (codes_at f codes at n) i ≡ some (f (get_or codes (at + i) 0))
unfolding codes_at
codes_there f codes at zero i h = absurd (omega arith)
codes_there f codes at (suc n) zero h = simp add-zero
codes_there f codes at (suc n) (suc i) h =
    let same : at + 1 + i ≡ at + suc i = omega arith in
    codes_there f codes (at + 1) n i (omega arith) ∙ ap (λ (k : ℕ). some (f (get_or codes k 0))) same

pub codes-beyond : {A : Type 0} (f : ℕ → A) (codes : List ℕ) (at n i : ℕ) → n ≤ i → get_elem? (codes_at f codes at n) i ≡ none
unfolding codes_at
codes-beyond f codes at zero i h = refl
codes-beyond f codes at (suc n) zero h = absurd (omega arith)
codes-beyond f codes at (suc n) (suc i) h = codes-beyond f codes (at + 1) n i (omega arith)

map_there : {A B : Type 0} (f : A → B) (xs : List A) (i : ℕ) {x : A} → get_elem? xs i ≡ some x → get_elem? (map f xs) i ≡ some (f x)
map_there f [] i e = impossible cc
map_there f (y ∷ ys) zero e = cc
map_there f (y ∷ ys) (suc i) e = map_there f ys i e

-- a local's mark

module _ {work : List ℕ} (m i : ℕ) {n : ℕ} (a : Word32At work (marks_from + i) n) where
  pub never_set : n ≡ 0 → false ≡ is_set_at work m i
  unfolding is_set_at
  never_set e = rw (← a.is, e)

  pub set-inside : m < n → false ≡ is_set_at work m i
  unfolding is_set_at
  set-inside h = rw (← a.is, lt-ltb 0 n (omega arith), lt-leb n m h)

  pub set_around : (n ≡ 0 → ⊥) → n ≤ m → {stamp : ℕ} → Word32At work (frames_from + (frame_span * n + stamp_word)) stamp → {kept : ℕ} → Word32At work (stamps_from + i) kept → eqb stamp kept ≡ is_set_at work m i
  unfolding is_set_at
  set_around some' h {stamp} b {kept} d = rw (← a.is, lt-ltb 0 n (omega (arith, some')), le-leb n m h, b.is, d.is)

-- a local's type

module _ {work : List ℕ} {count x : ℕ} where
  pub local_there_lem : x < count → {c : ℕ} → Word32At work x c → LocalOf work count x (Some (c % code_bound))
  unfolding val_at_word
  local_there_lem h {c} a =
      record {
        is = ap (λ (k : ℕ). some (val_at_word k)) a.is ∙ sym (codes_there val_at_word work 0 count x h ∙ ap (λ (k : ℕ). some (val_at_word (get_or work k 0))) (zero-add x));
        small = λ k e. let same : c % code_bound ≡ k = cc in rw (← same) (omega arith);
      }

  pub local_absent : count ≤ x → LocalOf work count x None
  local_absent h = record { is = sym (codes-beyond val_at_word work 0 count x h); small = λ k e. impossible cc }

-- lists

module _ {values : Values} {first n : ℕ} (e : values ≡ Values.TheVariants.Types first n) where
  pub types_long : LengthOf values n
  unfolding values_of
  types_long = record { is = λ codes. rw e (codes-length val_at_code codes first n) }

  pub type-code : {codes : List ℕ} (i : ℕ) {w : ℕ} → WordAt codes (first + i) w → CodeOf codes values i w
  unfolding values_of
  type-code {codes} i a =
      record {
        is = λ h.
            let inside : i < n = rw (e, codes-length val_at_code codes first n) at h in
            rw e (codes_there val_at_code codes first n i inside ∙ ap (λ (k : ℕ). some (val_at_code k)) (sym a.is));
        small = omega (arith, a.small);
      }

module _ {values : Values} {first n : ℕ} (e : values ≡ Values.TheVariants.Fields first n) where
  pub fields_long : LengthOf values n
  unfolding values_of
  fields_long =
      record { is = λ codes. rw e (length-map (codes_at field_at_code codes first n) (λ f. f.holds) ∙ codes-length field_at_code codes first n) }

  pub field_code_lem : {codes : List ℕ} (i : ℕ) {w : ℕ} → WordAt codes (first + i) w → CodeOf codes values i (w / 2)
  unfolding values_of field_at_code
  field_code_lem {codes} i a =
      record {
        is = λ h.
            let long : length (holds_of (codes_at field_at_code codes first n)) ≡ n = length-map (codes_at field_at_code codes first n) (λ f. f.holds) ∙ codes-length field_at_code codes first n in
            let inside : i < n = rw (e, long) at h in
            rw e
            (map_there (λ f. f.holds) (codes_at field_at_code codes first n) i (codes_there field_at_code codes first n i inside)
            ∙ ap (λ (k : ℕ). some (val_at_code (k / 2))) (sym a.is));
        small = omega (arith, a.small);
      }

one_there : (v : Val) (i : ℕ) → i < 1 → get_elem? (v ∷ []) i ≡ some v
one_there v zero h = refl
one_there v (suc i) h = absurd (omega arith)

module _ {values : Values} {c : ℕ} (e : values ≡ Values.TheVariants.One c) where
  pub one_long : LengthOf values 1
  unfolding values_of
  one_long = record { is = λ codes. rw e refl }

  pub one_code : (codes : List ℕ) (i : ℕ) → CodeOf codes values i (c % code_bound)
  unfolding values_of val_at_word
  one_code codes i = record { is = λ h. rw e (one_there (val_at_word c) i (rw e at h)); small = omega arith }

-- a frame's results

module _ {work : List ℕ} (m : ℕ) {w : ℕ} (a : Word32At work (frames_from + (frame_span * m + result_word)) w) where
  pub no_results : w ≡ 0 → ResultsOf work m (Values.TheVariants.Types 0 0)
  unfolding values_of codes_at results_at
  no_results e = record { is = λ codes. rw (← a.is, e) refl }

  pub one_result : (w ≡ 0 → ⊥) → ResultsOf work m (Values.TheVariants.One (w - 1))
  unfolding values_of results_at
  one_result g = record { is = λ codes. rw (← a.is, ne_eqb w 0 g) }

pub ruleset answer_exits = (no_results, one_result, never_set, set-inside, set_around, local_there_lem, local_absent, types_long, fields_long, one_long, type-code, field_code_lem, one_code)
