-- The plans of constants and of numeric instructions: a number type's code reads back as the type, and a row of the table is
-- what the ranges say of its code.
use Prim.Native.Nat.{ℕ, zero, suc, ◌+◌, ◌≤◌, ◌<◌}
use mathlib.Core.Path.{◌≡◌, refl, sym, ap, ◌∙◌}
use mathlib.Core.Option.{some}
use mathlib.Core.List.{List, [], ◌∷◌}
use native.Mathlib.Omega.{arith}
use mir.Syntax.{w64}
use mir.Val.{Fits}
use Rattle.scope.specs.Refusals.{not_listed}
use Rattle.scope.specs.Syntax.{Number, i32, i64, f32, f64, Val, num}
use Rattle.scope.specs.Order.{number_code}
use Rattle.scope.specs.Numeric.{Numeric, numeric_of}
use Rattle.scope.specs.Instructions.{Op, i64_const, f32_const, f64_const, numeric}
use Rattle.scope.specs.BodyRules.{Context, Scope, Ruled, fault, Plan, value, values, takes, plan_of}
use Rattle.type_table.specs.View.{codes_at}
use Rattle.type_table.proofs.CodesBack.{val_code_lem}
use Rattle.body_numeric.specs.declared.NumericRow.{NumericRow}
use Rattle.body_numeric.specs.Entries.{coded}
use Rattle.body_numeric.proofs.Laws.{few_operands_lem, no_code, a_code}
use Rattle.body_state.specs.declared.Values
use Rattle.body_state.specs.declared.Planned.{Planned}
use Rattle.body_state.specs.declared.Planned
use Rattle.body_state.specs.Layout.{code_bound}
use Rattle.body_state.specs.State.{wants_at, results_at, values_of, planned_of}
use Rattle.body_plan_parts.specs.Planning.{context_on, Takes}
use Rattle.body_plan_parts.proofs.Words.{wants_none, wants_value, gives_value}
use Rattle.body_plan_numbers.specs.Everywhere.{Everywhere, Constant}

small : (k : Number) → number_code k < 4
small i32 = omega arith
small i64 = omega arith
small f32 = omega arith
small f64 = omega arith

wants_number : (k : Number) → wants_at (number_code k + 3) ≡ value (num k) ∷ []
wants_number k = wants_value (number_code k) ∙ ap (λ (v : Val). value v ∷ []) (val_code_lem (num k))

gives-number : (k : Number) → results_at (number_code k + 1) ≡ num k ∷ []
gives-number k =
    let few : number_code k < 4 = small k in
    let bound : number_code k < code_bound = omega arith in
    gives_value bound ∙ ap (λ (v : Val). v ∷ []) (val_code_lem (num k))

everywhere : (o : Op) {p : Planned} (plan : Ruled Plan) → ((codes : List ℕ) → planned_of codes p ≡ plan) → ((c : Context) (here : Scope) → plan_of c here o ≡ plan) → Everywhere o p
everywhere o plan says rule =
    record { is = λ count. record { is = λ codes ts. record { is = λ locals results here. says codes ∙ sym (rule (context_on ts count locals results) here) } } }

-- constants

gives_constant : (k : Number) {p : Planned} → Takes 0 0 (Values.TheVariants.Types 0 0) (number_code k + 1) p → (codes : List ℕ) → planned_of codes p ≡ takes [] (values (num k ∷ []))
unfolding values_of codes_at
gives_constant k a codes = a.is codes ∙ rw (wants_none, gives-number k)

pub gives_i64 : {p : Planned} → Takes 0 0 (Values.TheVariants.Types 0 0) 2 p → Constant i64_const p
unfolding plan_of
gives_i64 a = record { is = λ n. everywhere (i64_const n) _ (gives_constant i64 a) (λ c here. refl) }

pub gives_f32_lem : {p : Planned} → Takes 0 0 (Values.TheVariants.Types 0 0) 3 p → Constant f32_const p
unfolding plan_of
gives_f32_lem a = record { is = λ n. everywhere (f32_const n) _ (gives_constant f32 a) (λ c here. refl) }

pub gives_f64 : {p : Planned} → Takes 0 0 (Values.TheVariants.Types 0 0) 4 p → Constant f64_const p
unfolding plan_of
gives_f64 a = record { is = λ n. everywhere (f64_const n) _ (gives_constant f64 a) (λ c here. refl) }

pub ruleset constant_exits = (gives_i64, gives_f32_lem, gives_f64)

-- numeric instructions

rule_one : (b : ℕ) (n : Numeric) → numeric_of b ≡ some n → n.operands ≡ 1 → (c : Context) (here : Scope) → plan_of c here (numeric b) ≡ takes (value (num n.kind) ∷ []) (values (num n.result ∷ []))
unfolding plan_of
rule_one b n is one c here = rw (is, one)

rule_two : (b : ℕ) (n : Numeric) → numeric_of b ≡ some n → n.operands ≡ 2 → (c : Context) (here : Scope) → plan_of c here (numeric b) ≡ takes (value (num n.kind) ∷ value (num n.kind) ∷ []) (values (num n.result ∷ []))
unfolding plan_of
rule_two b n is two c here = rw (is, two)

takes_one : (k r : Number) {top gives : ℕ} {p : Planned} → top ≡ number_code k + 3 → gives ≡ number_code r + 1 → Takes top 0 (Values.TheVariants.Types 0 0) gives p → (codes : List ℕ) → planned_of codes p ≡ takes (value (num k) ∷ []) (values (num r ∷ []))
unfolding values_of codes_at
takes_one k r t g a codes = a.is codes ∙ rw (t, g, wants_number k, wants_none, gives-number r)

takes_two : (k r : Number) {top gives : ℕ} {p : Planned} → top ≡ number_code k + 3 → gives ≡ number_code r + 1 → Takes top top (Values.TheVariants.Types 0 0) gives p → (codes : List ℕ) → planned_of codes p ≡ takes (value (num k) ∷ value (num k) ∷ []) (values (num r ∷ []))
unfolding values_of codes_at
takes_two k r t g a codes = a.is codes ∙ rw (t, g, wants_number k, gives-number r)

two-left : (m : ℕ) → 1 ≤ m → m ≤ 2 → (m ≡ 1 → ⊥) → m ≡ 2
two-left zero some' most other = absurd (omega arith)
two-left (suc zero) some' most other = absurd (other refl)
two-left (suc (suc zero)) some' most other = refl
two-left (suc (suc (suc m))) some' most other = absurd (omega arith)

module _ (b : ℕ) {row : NumericRow} (a : row ≡ coded (numeric_of b)) where
  pub numeric-unlisted : row.operands ≡ 0 → Everywhere (numeric b) (Planned.TheVariants.Fault not_listed)
  unfolding plan_of planned_of
  numeric-unlisted z = everywhere (numeric b) (fault not_listed) (λ codes. refl) (λ c here. rw (no_code b a z))

  module _ (listed : row.operands ≡ 0 → ⊥) where
    pub numeric-one : {p : Planned} → row.operands ≡ 1 → Takes (row.kind + 3) 0 (Values.TheVariants.Types 0 0) (row.result + 1) p → Everywhere (numeric b) p
    unfolding coded
    numeric-one one t =
        let (n, is, says) = a_code b a listed in
        let operands : n.operands ≡ 1 = ap (λ (r : NumericRow). r.operands) (sym says) ∙ one in
        let kind : row.kind + 3 ≡ number_code n.kind + 3 = ap (λ (r : NumericRow). r.kind + 3) says in
        let result : row.result + 1 ≡ number_code n.result + 1 = ap (λ (r : NumericRow). r.result + 1) says in
        everywhere (numeric b) _ (takes_one n.kind n.result kind result t) (rule_one b n is operands)

    pub numeric-two : {p : Planned} → (row.operands ≡ 1 → ⊥) → Takes (row.kind + 3) (row.kind + 3) (Values.TheVariants.Types 0 0) (row.result + 1) p → Everywhere (numeric b) p
    unfolding coded
    numeric-two more t =
        let (n, is, says) = a_code b a listed in
        let few = few_operands_lem b is in
        let some' : 1 ≤ n.operands = few.some in
        let most : n.operands ≤ 2 = few.few in
        let same : row.operands ≡ n.operands = ap (λ (r : NumericRow). r.operands) says in
        let operands : n.operands ≡ 2 = two-left n.operands some' most (λ e. more (same ∙ e)) in
        let kind : row.kind + 3 ≡ number_code n.kind + 3 = ap (λ (r : NumericRow). r.kind + 3) says in
        let result : row.result + 1 ≡ number_code n.result + 1 = ap (λ (r : NumericRow). r.result + 1) says in
        everywhere (numeric b) _ (takes_two n.kind n.result kind result t) (rule_two b n is operands)

    -- a code of a type is small
    pub wanted_fits : Fits w64 (row.kind + 3)
    unfolding coded
    wanted_fits =
        let (n, is, says) = a_code b a listed in
        let kind : row.kind ≡ number_code n.kind = ap (λ (r : NumericRow). r.kind) says in
        let few : number_code n.kind < 4 = small n.kind in
        record { fits = omega arith }

    pub given-fits : Fits w64 (row.result + 1)
    unfolding coded
    given-fits =
        let (n, is, says) = a_code b a listed in
        let result : row.result ≡ number_code n.result = ap (λ (r : NumericRow). r.result) says in
        let few : number_code n.result < 4 = small n.result in
        record { fits = omega arith }

pub ruleset numeric_exits = (numeric-unlisted, numeric-one, numeric-two, wanted_fits, given-fits)
