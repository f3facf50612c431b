-- Each way out of the numeric codes: the table says what the code takes and gives.
use Prim.Native.Nat.{ℕ, zero, suc, ◌+◌, ◌-◌, ◌%◌, ◌≤◌, ◌<◌}
use mathlib.Core.Path.{◌≡◌, refl, sym, ap, ◌∙◌}
use mathlib.Core.Logic.{◌⊎◌, inl, inr}
use mathlib.Core.Bool.{Bool, true, false, false≢true}
use mathlib.Core.Option.{some}
use mathlib.Core.List.{List, [], ◌∷◌}
use native.Mathlib.Omega.{arith}
use lib.ListN.{get_elem?}
use lib.Dec.{eqb, ltb, leb}
use borrow.Author.Tests.{ne_eqb, ltb-true, ltb-false, leb-true}
use mir.Syntax.{w64}
use mir.Val.{Fits}
use Rattle.scope.specs.Reading.{got}
use Rattle.scope.specs.Syntax.{Number, i32, i64, f32, f64, num, blank}
use Rattle.scope.specs.Order.{number_code}
use Rattle.scope.specs.Numeric.{Numeric, numeric_of}
use Rattle.scope.specs.Instructions.{op, numeric, instr_at}
use Rattle.scope.specs.BodyRules.{Context, Scope, Wanted, value, values, takes, plan_of}
use Rattle.scope.specs.Bodies.{known, take_all, scope_of}
use Rattle.scope.proofs.Truths.{decided}
use Rattle.type_table.proofs.CodesBack.{val_code_lem}
use Rattle.body_numeric.specs.declared.NumericRow.{NumericRow}
use Rattle.body_numeric.specs.Entries.{coded, is_numeric}
use Rattle.body_numeric.proofs.Laws.{few_operands_lem, a_code}
use Rattle.body_numeric.proofs.Table.{before_first, from_first}
use Rattle.body_state.specs.Layout.{word_bound, code_bound}
use Rattle.body_state.specs.State.{operand_at_code, wanted_at_code, stack, state_at}
use Rattle.body_words.proofs.Laws.{value_code, known_kept}
use Rattle.body_operands.specs.Taking.{left_in}
use Rattle.body_quick_take.specs.declared.Done.{Done}
use Rattle.body_quick_take.specs.Taking.{TookAny, Put}
use Rattle.body_progress.specs.Standing.{Ordered, check_of}
use Rattle.body_quick_take.specs.Telling.{Asked, Plainly}
use Rattle.body_quick_take.proofs.Tellings.{plainly_not, told-put, took_two}
use Rattle.body_quick_take.proofs.Asking.{took_ordered, asked_exits}
use Rattle.body_quick_values.specs.Values.{AskedNumeric}

number_word : (k : Number) → operand_at_code ((number_code k + 2) % word_bound) ≡ known (num k)
number_word k = known_kept (small k) ∙ ap known (val_code_lem (num k))
  where
    small : (k : Number) → number_code k < code_bound
    small i32 = omega arith
    small i64 = omega arith
    small f32 = omega arith
    small f64 = omega arith

listed : (b : ℕ) {n : Numeric} → numeric_of b ≡ some n → is_numeric b ≡ true
unfolding is_numeric
listed b e = rw e

numeric_range : {b : ℕ} {n : Numeric} → b < 256 → numeric_of b ≡ some n → (0x45 ≤ b) × (b ≤ 0xC4)
numeric_range {b} {n} h e = go (decided (ltb b 0x45))
  where
    yes : is_numeric b ≡ true
    yes = listed b e

    go : (ltb b 0x45 ≡ true) ⊎ (ltb b 0x45 ≡ false) → (0x45 ≤ b) × (b ≤ 0xC4)
    go (inl p) = absurd (false≢true (before_first h (ltb-true b 0x45 p) ∙ yes))
    go (inr p) = let low : 0x45 ≤ b = ltb-false b 0x45 p in (low, leb-true b 0xC4 (from_first h low ∙ yes))

read_numeric : (s : List ℕ) (at b : ℕ) {n : Numeric} → get_elem? s at ≡ some b → 0x45 ≤ b → b ≤ 0xC4 → numeric_of b ≡ some n → instr_at s at ≡ got (op (numeric b)) (at + 1)
unfolding instr_at
read_numeric s at b e low high is = rw (e, ne_eqb b 0xFB (λ z. omega arith), ne_eqb b 0x00 (λ z. omega arith), ne_eqb b 0x01 (λ z. omega arith), ne_eqb b 0x02 (λ z. omega arith), ne_eqb b 0x03 (λ z. omega arith), ne_eqb b 0x0B (λ z. omega arith), ne_eqb b 0x0C (λ z. omega arith), ne_eqb b 0x0D (λ z. omega arith), ne_eqb b 0x0F (λ z. omega arith), ne_eqb b 0x1A (λ z. omega arith), ne_eqb b 0x20 (λ z. omega arith), ne_eqb b 0x21 (λ z. omega arith), ne_eqb b 0x22 (λ z. omega arith), ne_eqb b 0x41 (λ z. omega arith), ne_eqb b 0x42 (λ z. omega arith), ne_eqb b 0x43 (λ z. omega arith), ne_eqb b 0x44 (λ z. omega arith), ne_eqb b 0xD0 (λ z. omega arith), ne_eqb b 0xD1 (λ z. omega arith), ne_eqb b 0xD3 (λ z. omega arith), ne_eqb b 0xD4 (λ z. omega arith), is)

rule_one : (b : ℕ) (n : Numeric) → numeric_of b ≡ some n → n.operands ≡ 1 → (c : Context) (here : Scope) → plan_of c here (numeric b) ≡ takes (value (num n.kind) ∷ []) (values (num n.result ∷ []))
unfolding plan_of
rule_one b n is one c here = rw (is, one)

rule_two : (b : ℕ) (n : Numeric) → numeric_of b ≡ some n → n.operands ≡ 2 → (c : Context) (here : Scope) → plan_of c here (numeric b) ≡ takes (value (num n.kind) ∷ value (num n.kind) ∷ []) (values (num n.result ∷ []))
unfolding plan_of
rule_two b n is two c here = rw (is, two)

two-left : (m : ℕ) → 1 ≤ m → m ≤ 2 → (m ≡ 1 → ⊥) → m ≡ 2
two-left zero some' most other = absurd (omega arith)
two-left (suc zero) some' most other = absurd (other refl)
two-left (suc (suc zero)) some' most other = refl
two-left (suc (suc (suc m))) some' most other = absurd (omega arith)

number_wanted : (k : Number) → wanted_at_code (number_code k + 2) ≡ value (num k)
number_wanted k = value_code (number_code k) ∙ ap value (val_code_lem (num k))

number-low : (k : Number) → number_code k < 4
number-low i32 = omega arith
number-low i64 = omega arith
number-low f32 = omega arith
number-low f64 = omega arith

module _ {b : ℕ} {s : List ℕ} {at : ℕ} {work : List ℕ} {count depth base top dead : ℕ} (a : Asked b s at work count depth base top dead) {row : NumericRow} (q : row ≡ coded (numeric_of b)) (some' : row.operands ≡ 0 → ⊥) where
  pub kind_fits : Fits w64 (row.kind + 2)
  unfolding coded
  kind_fits =
      let (n, is, says) = a_code b q some' in
      let kind : row.kind ≡ number_code n.kind = ap (λ (r : NumericRow). r.kind) says in
      let few = number-low n.kind in
      record { fits = omega arith }

  pub result_fits : Fits w64 (row.result + 2)
  unfolding coded
  result_fits =
      let (n, is, says) = a_code b q some' in
      let kind : row.result ≡ number_code n.result = ap (λ (r : NumericRow). r.result) says in
      let few = number-low n.result in
      record { fits = omega arith }

  module _ {t : ℕ} (k : TookAny work base top dead (row.kind + 2) t) (m : t ≡ 0 → ⊥) where
    pub one_ordered : Ordered base (t - 1)
    one_ordered = took_ordered a.stands.ordered (k.is (λ x. blank)) m

    pub numeric-one : row.operands ≡ 1 → {work' : List ℕ} {r : Done} → Put work work' (t - 1) (row.result + 2) 1 r → Plainly s at work work' count depth base top dead r
    unfolding coded
    numeric-one one {work'} {r} p =
        let (n, is, says) = a_code b q some' in
        let operands : n.operands ≡ 1 = ap (λ (r : NumericRow). r.operands) (sym says) ∙ one in
        let kind : row.kind ≡ number_code n.kind = ap (λ (r : NumericRow). r.kind) says in
        let result : row.result ≡ number_code n.result = ap (λ (r : NumericRow). r.result) says in
        let range = numeric_range a.small is in
        let p' : Put work work' (t - 1) (number_code n.result + 2) 1 r = rw result at p in
        let wants : wanted_at_code (row.kind + 2) ≡ value (num n.kind) = ap (λ (x : ℕ). wanted_at_code (x + 2)) kind ∙ number_wanted n.kind in
        record { is = λ c l. told-put c (numeric b) a.stands (rule_one b n is operands c (scope_of c (state_at work count (check_of depth base top dead)))) one_ordered.above (ap (λ (w : Wanted). left_in (take_all c.types (eqb dead 1) (w ∷ []) (stack work base (top - base)))) (sym wants) ∙ (k.is c.types).left m) (read_numeric s at b a.byte range.0 range.1 is) (number_word n.result) p' }

    module _ {u : ℕ} (j : TookAny work base (t - 1) dead (row.kind + 2) u) (i : u ≡ 0 → ⊥) where
      two-above : base ≤ u - 1
      two-above = (j.is (λ x. blank)).above i

      pub numeric-two : (row.operands ≡ 1 → ⊥) → {work' : List ℕ} {r : Done} → Put work work' (u - 1) (row.result + 2) 1 r → Plainly s at work work' count depth base top dead r
      unfolding coded
      numeric-two more {work'} {r} p =
          let (n, is, says) = a_code b q some' in
          let few = few_operands_lem b is in
          let same : row.operands ≡ n.operands = ap (λ (r : NumericRow). r.operands) says in
          let operands : n.operands ≡ 2 = two-left n.operands few.some few.few (λ e. more (same ∙ e)) in
          let kind : row.kind ≡ number_code n.kind = ap (λ (r : NumericRow). r.kind) says in
          let result : row.result ≡ number_code n.result = ap (λ (r : NumericRow). r.result) says in
          let range = numeric_range a.small is in
          let p' : Put work work' (u - 1) (number_code n.result + 2) 1 r = rw result at p in
          let wants : wanted_at_code (row.kind + 2) ≡ value (num n.kind) = ap (λ (x : ℕ). wanted_at_code (x + 2)) kind ∙ number_wanted n.kind in
          record { is = λ c l. told-put c (numeric b) a.stands (rule_two b n is operands c (scope_of c (state_at work count (check_of depth base top dead)))) two-above (ap (λ (w : Wanted). left_in (take_all c.types (eqb dead 1) (w ∷ w ∷ []) (stack work base (top - base)))) (sym wants) ∙ took_two k m j i c.types) (read_numeric s at b a.byte range.0 range.1 is) (number_word n.result) p' }

pub numeric_tabled : {table : List ℕ} {b : ℕ} {s : List ℕ} {at : ℕ} {work : List ℕ} {count depth base top dead : ℕ} → AskedNumeric table b s at work count depth base top dead → Asked b s at work count depth base top dead
numeric_tabled a = a.asked

pub ruleset numeric_exits = (asked_exits, kind_fits, result_fits, one_ordered, numeric-one, numeric-two, numeric_tabled, plainly_not)
