-- Each way out of the start of a body. The parameters' words, the locals' after them and the marks lie apart, and no word
-- from the stamps on is written.
use Prim.Native.Nat.{ℕ, ◌+◌, ◌≤◌}
use mathlib.Core.Path.{◌≡◌, refl, sym, ap, ap₂, ◌∙◌}
use mathlib.Core.Logic.{◌⊎◌, inl, inr}
use mathlib.Core.Bool.{true, false}
use mathlib.Core.List.{List, ◌++◌, map}
use native.Mathlib.Omega.{arith}
use native.Mathlib.Nat.{zero-add}
use lib.ListN.{length, get_or, replicate, length-map, length-replicate, get_or-replicate, get_or-eq_default}
use lib.Dec.{ltb}
use mir.Syntax.{w16}
use mir.Val.{Fits}
use borrow.Author.Tests.{lt-ltb, le-ltb, ltb-true, ltb-false}
use Rattle.std.specs.Prelude.{Result, Ok, Err, IsErrAnd}
use Rattle.scope.specs.declared.Refused.{Refused}
use Rattle.scope.specs.Sizes.{most_locals}
use Rattle.scope.specs.Reading.{got, refused}
use Rattle.scope.specs.Numbers.{u32}
use Rattle.scope.specs.Syntax.{Val}
use Rattle.scope.specs.BodyRules.{has_default}
use Rattle.scope.specs.Bodies.{locals_at}
use Rattle.scope.proofs.Truths.{decided}
use Rattle.scope.proofs.Impossible.{impossible, contradiction}
use Rattle.scope.proofs.Told.{value_is, told_refused, passed}
use Rattle.number_values.specs.Values.{natural_is}
use Rattle.number_values.proofs.Laws.{natural_got, natural_refused, natural_bounds}
use Rattle.type_table.specs.View.{val_at_code, codes_at}
use Rattle.type_table.proofs.Puts.{Puts}
use Rattle.type_read.specs.Codes.{val_code_kept}
use Rattle.body_state.specs.Layout.{stamps_from}
use Rattle.body_state.specs.State.{val_at_word, is_set_at, sets_at}
use Rattle.body_locals.specs.Entries.{locals_is, LocalsPut}
use Rattle.body_locals.proofs.Laws.{locals_got, locals-inside}
use Rattle.body_start.specs.Beginning.{locals_first, ParametersPut, starts_set, MarkRoom, MarksPut, Starting, StartingAt, Begun, StartedAs}
use Rattle.body_start.proofs.Places.{put_here, put_before, put-beyond}
use Rattle.body_start.proofs.Reached.{Modest, locals_modest}
use Rattle.body_start.proofs.Views.{codes-append, codes_alike, words-kept, sets_append, sets_by, set_by_mark}

zeros : (n i : ℕ) → ◌≡◌ {A = ℕ} (get_or (replicate n 0) i 0) 0
zeros n i = go (decided (ltb i n))
  where
    go : (ltb i n ≡ true) ⊎ (ltb i n ≡ false) → ◌≡◌ {A = ℕ} (get_or (replicate n 0) i 0) 0
    go (inl h) = get_or-replicate n i 0 0 (ltb-true i n h)
    go (inr h) = get_or-eq_default (replicate n 0) 0 (let l = ltb-false i n h in rw length-replicate l)

-- after the count

pub start_stopped : {types n params : ℕ} {s : List ℕ} {entries : ℕ} {work₁ work₂ : List ℕ} {no : Refused} → LocalsPut types n params s entries work₁ work₂ 0 (Err no) → {codes work : List ℕ} {first : ℕ} → ParametersPut codes work work₁ first params → {r : Result (ℕ × ℕ) Refused} → IsErrAnd r (λ e. e ≡ no) → StartedAs (locals_at types n params s entries) s codes work work₂ first params r
start_stopped {types} {n} {params} {s} {entries} {no = reason} l ps is =
    let read : locals_at types n params s entries ≡ refused reason.number reason.at = told_refused (λ vs. params + length vs) (locals_at types n params s entries) l.answer in
    record {
      answer = passed is l.answer;
      begun = λ vs next f. impossible cc;
      size = l.size ∙ ps.size;
    }

module _ {types n params : ℕ} {s : List ℕ} {entries : ℕ} {work₁ work₂ : List ℕ} {count after : ℕ} (l : LocalsPut types n params s entries work₁ work₂ 0 (Ok (count, after))) {codes work : List ℕ} {first : ℕ} (ps : ParametersPut codes work work₁ first params) (b : StartingAt work types params s entries) where
  module _ (vs : List Val) (next : ℕ) (read : locals_at types n params s entries ≡ got vs next) where
    modest : Modest params vs
    modest = let fewer : params ≤ most_locals = omega (arith, b.starting.few) in (locals_modest b.starting.known n fewer s entries).tells vs next read

    puts : Puts work₁ work₂ params (map val_code_kept vs)
    puts = rw zero-add at (l.memory vs next read)

    long : length (map val_code_kept vs) ≡ length vs
    long = length-map vs val_code_kept

    high : (i : ℕ) → stamps_from ≤ i → get_or work₂ i 0 ≡ 0
    high i h =
        put-beyond puts i (omega (arith, long, modest.few))
        ∙ ps.others i (omega (arith, b.starting.few))
        ∙ rw b.starting.zero (zeros (length work) i)

    module _ {work₃ : List ℕ} (q : MarksPut work₂ work₃ params (params + length vs)) where
      blank : (i : ℕ) → stamps_from ≤ i → get_or work₃ i 0 ≡ 0
      blank i h = q.beyond i (omega (arith, modest.few)) ∙ high i h

      parameters : codes_at val_at_word work₃ 0 params ≡ codes_at val_at_code codes first params
      parameters =
          codes_alike val_at_word val_at_code work₃ codes 0 first params (λ i h.
          ap val_at_word (ap (λ (k : ℕ). get_or work₃ k 0) (zero-add i) ∙ q.types i (omega (arith, b.starting.few)) ∙ put_before puts i h) ∙ ps.types i h)

      own : codes_at val_at_word work₃ params (length vs) ≡ vs
      own =
          words-kept work₃ params vs (λ k h. q.types (params + k) (omega (arith, modest.few)) ∙ put_here puts k (rw long h))
          ∙ modest.kept

      parameters_set : sets_at work₃ 1 0 params ≡ map (λ v. true) (codes_at val_at_code codes first params)
      unfolding starts_set
      parameters_set =
          sets_by (λ v. true) val_at_code work₃ codes 1 0 first params (λ k h.
          ap (is_set_at work₃ 1) (zero-add k) ∙ set_by_mark work₃ k true (q.marks k (omega arith) ∙ rw (lt-ltb k params h)) blank)

      own_set : sets_at work₃ 1 params (length vs) ≡ map has_default (codes_at val_at_word work₃ params (length vs))
      unfolding starts_set
      own_set =
          sets_by has_default val_at_word work₃ work₃ 1 params params (length vs) (λ k h.
          set_by_mark work₃ (params + k) (starts_set work₂ params (params + k)) (q.marks (params + k) (omega arith)) blank
          ∙ rw (le-ltb (params + k) params (omega arith)) (ap (λ (w : ℕ). has_default (val_at_word w)) (sym (q.types (params + k) (omega (arith, modest.few))))))

      begins : Begun s codes work₃ first params vs next
      begins =
          let inside = locals-inside types n params s entries b.inside read in
          record {
            few = modest.few;
            forward = omega (arith, inside.0, b.forward);
            inside = inside.1;
            types = codes-append val_at_word work₃ 0 params (length vs) ∙ ap₂ ◌++◌ parameters (rw zero-add own);
            sets = sets_append work₃ 1 0 params (length vs) ∙ ap₂ ◌++◌ parameters_set (rw zero-add (own_set ∙ ap (map has_default) own));
            blank = blank;
          }

  count_is : (vs : List Val) (stop : ℕ) → locals_at types n params s entries ≡ got vs stop → count ≡ params + length vs
  count_is vs stop f = value_is refl (l.answer ∙ ap (locals_is params) f)

  few_locals : count ≤ most_locals
  few_locals = let (vs, read, same) = locals_got params (locals_at types n params s entries) l.answer in let m = modest vs after read in omega (arith, m.few)

  pub count_fits : Fits w16 count
  count_fits = let h = few_locals in record { fits = omega arith }

  pub may_mark : MarkRoom work₂ count
  may_mark = record { room = omega (arith, b.starting.room, l.size, ps.size); few = few_locals }

  pub start-done : {work₃ : List ℕ} → MarksPut work₂ work₃ params count → StartedAs (locals_at types n params s entries) s codes work work₃ first params (Ok (count, after))
  start-done {work₃} q =
      record {
        answer = l.answer;
        begun = λ vs stop f. begins vs stop f (rw (count_is vs stop f) at q);
        size = q.size ∙ l.size ∙ ps.size;
      }

-- from the first byte on

module _ {s : List ℕ} where
  pub start_uncounted : {no : Refused} → Err no ≡ natural_is (u32 s 0) → {r : Result (ℕ × ℕ) Refused} → IsErrAnd r (λ e. e ≡ no) → (types : ℕ) {codes work : List ℕ} {first params : ℕ} → StartedAs (locals_first types params s) s codes work work first params r
  unfolding locals_first
  start_uncounted {no = reason} a is types {params = params} =
      let read : u32 s 0 ≡ refused reason.number reason.at = natural_refused (u32 s 0) a refl in
      record {
        answer = passed is (rw read);
        begun = λ vs next f. absurd (let g : refused reason.number reason.at ≡ got vs next = rw read at f in contradiction cc);
        size = refl;
      }

  module _ {n entries : ℕ} (a : Ok (n, entries) ≡ natural_is (u32 s 0)) where
    pub may_start : {work : List ℕ} {types params : ℕ} → Starting work types params → StartingAt work types params s entries
    may_start starting = let m = natural_bounds {s = s} {at = 0} a refl in record { starting = starting; forward = m.forward; inside = m.inside }

    pub start-counted : (types : ℕ) {codes work work' : List ℕ} {first params : ℕ} {q : Result (ℕ × ℕ) Refused} → StartedAs (locals_at types n params s entries) s codes work work' first params q → StartedAs (locals_first types params s) s codes work work' first params q
    unfolding locals_first
    start-counted types d = rw (natural_got (u32 s 0) a refl) d
