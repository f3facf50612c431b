-- The words of a plan and what they say, and each way out of what plans are made of.
use Prim.Native.Nat.{ℕ, ◌+◌, ◌-◌, ◌*◌, ◌%◌, ◌<◌, ◌^◌}
use mathlib.Core.Path.{◌≡◌, refl, ap, ◌∙◌}
use mathlib.Core.Bool.{Bool, true, false, cond}
use mathlib.Core.Option.{none, some}
use mathlib.Core.List.{List, [], ◌∷◌}
use native.Mathlib.Omega.{arith}
use lib.ListN.{get_or}
use lib.Dec.{eqb}
use borrow.Author.Tests.{ne_eqb}
use Rattle.scope.specs.Told.{Maybe}
use Rattle.scope.specs.Abstract.{ANY, EQ}
use Rattle.scope.specs.Syntax.{abstract, defined, exact, i32, Val, num, ref}
use Rattle.scope.specs.BodyRules.{value, any_value, any_reference}
use Rattle.type_table.specs.RowWords.{descriptor_word}
use Rattle.type_table.specs.View.{heap_at_code, val_at_code, link_at, view}
use Rattle.type_table.specs.Answers.{link_is}
use Rattle.type_table.proofs.Laws.{link_to, link_read}
use Rattle.scope.specs.Layout.{row_span}
use Rattle.scope.specs.Memory.{val_code}
use Rattle.scope.proofs.Impossible.{impossible}
use Rattle.type_table.proofs.Codes.{heap-code-at}
use Rattle.type_table.proofs.CodesBack.{val_code_lem}
use Rattle.body_state.specs.declared.Values.{Values}
use Rattle.body_state.specs.declared.Planned
use Rattle.body_state.specs.Layout.{code_bound}
use Rattle.body_state.specs.State.{wants_at, wanted_at_code, results_at, val_at_word, plain_of, planned_of}
use Rattle.body_plan_parts.specs.Planning.{Takes, Stops, CodeIs, DescriptorOf, heap_bound}

-- wanted

pub wants_none : wants_at 0 ≡ []
unfolding wants_at
wants_none = refl

pub wants_any : wants_at 1 ≡ any_value ∷ []
unfolding wants_at wanted_at_code
wants_any = refl

pub wants_reference : wants_at 2 ≡ any_reference ∷ []
unfolding wants_at wanted_at_code
wants_reference = refl

pub wants_value : (c : ℕ) → wants_at (c + 3) ≡ value (val_at_code c) ∷ []
unfolding wants_at wanted_at_code
wants_value c =
    let less : c + 3 - 1 ≡ c + 2 = omega arith in
    let code : c + 2 - 2 ≡ c = omega arith in
    rw (ne_eqb (c + 3) 0 (λ e. omega arith), less, ne_eqb (c + 2) 0 (λ e. omega arith), ne_eqb (c + 2) 1 (λ e. omega arith), code)

-- given

pub gives_none : results_at 0 ≡ []
unfolding results_at
gives_none = refl

pub gives_value : {c : ℕ} → c < code_bound → results_at (c + 1) ≡ val_at_code c ∷ []
unfolding results_at val_at_word
gives_value {c} h =
    let less : c + 1 - 1 ≡ c = omega arith in
    let same : c % code_bound ≡ c = omega arith in
    rw (ne_eqb (c + 1) 0 (λ e. omega arith), less, same)

pub gives_i32 : results_at 1 ≡ num i32 ∷ []
gives_i32 = gives_value {c = 0} (omega arith) ∙ ap (λ (v : Val). v ∷ []) (val_code_lem (num i32))

pub wants_any_ref : wants_at 18 ≡ value (ref true (abstract ANY)) ∷ []
wants_any_ref = wants_value 15 ∙ ap (λ (v : Val). value v ∷ []) (val_code_lem (ref true (abstract ANY)))

pub wants_eq_ref : wants_at 20 ≡ value (ref true (abstract EQ)) ∷ []
wants_eq_ref = wants_value 17 ∙ ap (λ (v : Val). value v ∷ []) (val_code_lem (ref true (abstract EQ)))

pub wants_i32 : wants_at 3 ≡ value (num i32) ∷ []
wants_i32 = wants_value 0 ∙ ap (λ (v : Val). value v ∷ []) (val_code_lem (num i32))

-- a plan

pub takes-plain : (top second : ℕ) (rest : Values) (gives : ℕ) → Takes top second rest gives (Planned.TheVariants.Plain (record { top = top; second = second; rest = rest; back = false; gives = gives; marks = 0; stops = false }))
unfolding planned_of plain_of
takes-plain top second rest gives = record { is = λ codes. refl }

pub stops_plain : (rest : Values) → Stops rest (Planned.TheVariants.Plain (record { top = 0; second = 0; rest = rest; back = false; gives = 0; marks = 0; stops = true }))
unfolding planned_of plain_of
stops_plain rest = record { is = λ codes. rw (wants_none, gives_none) }

-- codes of references

pub code_is : (v : Val) {r : ℕ} → r ≡ val_code v → r < code_bound → CodeIs v r
code_is v e h = record { is = ap val_at_code e ∙ val_code_lem v; small = h }

module _ (null : Bool) where
  pub nullable-code : (heap : ℕ) → heap < heap_bound → null ≡ true → CodeIs (ref null (heap_at_code heap)) (5 + 2 * heap)
  nullable-code heap h e = rw e (code_is (ref true (heap_at_code heap)) (rw (heap-code-at heap) (omega arith)) (omega arith))

  pub non_null_code : (heap : ℕ) → heap < heap_bound → null ≡ false → CodeIs (ref null (heap_at_code heap)) (4 + 2 * heap)
  non_null_code heap h e = rw e (code_is (ref false (heap_at_code heap)) (rw (heap-code-at heap) (omega arith)) (omega arith))

  pub nullable_exact_code : (x : ℕ) → x < 2 ^ 16 → null ≡ true → CodeIs (ref null (exact x)) (27 + 4 * x)
  nullable_exact_code x h e = rw e (code_is (ref true (exact x)) (omega arith) (omega arith))

  pub non_null_exact_code : (x : ℕ) → x < 2 ^ 16 → null ≡ false → CodeIs (ref null (exact x)) (26 + 4 * x)
  non_null_exact_code x h e = rw e (code_is (ref false (exact x)) (omega arith) (omega arith))

pub nullable-defined-code : (x : ℕ) → x < 2 ^ 16 → CodeIs (ref true (defined x)) (25 + 4 * x)
nullable-defined-code x h = code_is (ref true (defined x)) (omega arith) (omega arith)

-- a descriptor: its number is one less than a word

link_less : (w : ℕ) (b : Bool) {y : ℕ} → cond b none (some (w - 1)) ≡ some y → w - 1 ≡ y
link_less w true e = impossible cc
link_less w false e = cc

pub descriptor_small : (rows codes : List ℕ) (x : ℕ) → get_or rows (row_span * x + descriptor_word) 0 < 2 ^ 16 → {r : Maybe ℕ} → r ≡ link_is (view rows codes x).descriptor → DescriptorOf (view rows codes x).descriptor r
unfolding view
descriptor_small rows codes x h e =
    record {
      is = link_read (link_at (get_or rows (row_span * x + descriptor_word) 0)) e;
      small = λ y q.
          let w = get_or rows (row_span * x + descriptor_word) 0 in
          let same : w - 1 ≡ y = link_less w (eqb w 0) (link_to (link_at w) e q) in
          let few : w < 2 ^ 16 = h in
          rw (← same) (omega arith);
    }

pub ruleset planning_exits = (takes-plain, stops_plain, nullable-code, non_null_code, nullable_exact_code, non_null_exact_code, nullable-defined-code)
