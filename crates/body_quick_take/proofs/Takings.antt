-- Each way out of taking and putting one operand.
use Prim.Native.Nat.{ℕ, ◌+◌, ◌-◌, ◌%◌, ◌≤◌, ◌<◌}
use mathlib.Core.Path.{◌≡◌, refl, sym, ap, ◌∙◌}
use mathlib.Core.Bool.{true}
use mathlib.Core.List.{List, [], ◌∷◌}
use native.Mathlib.Omega.{arith}
use lib.ListN.{set}
use lib.Dec.{eqb}
use borrow.Author.Tests.{eq-eqb}
use mir.Syntax.{w64}
use mir.Val.{Fits}
use Rattle.scope.specs.Sizes.{most_operands}
use Rattle.scope.specs.Syntax.{Types}
use Rattle.scope.specs.BodyRules.{allowed}
use Rattle.scope.specs.Bodies.{Operand, fit, take_all}
use Rattle.lent_u32.specs.Scratch.{Word32At}
use Rattle.type_fit.specs.declared.Fit.{Fit}
use Rattle.type_fit.specs.declared.Fit
use Rattle.type_fit.specs.Outcomes.{fit_is}
use Rattle.body_state.specs.Layout.{operands_from, word_bound}
use Rattle.body_state.specs.State.{operand_at_code, wanted_at_code, stack}
use Rattle.body_fit.proofs.Fitting.{fits_same}
use Rattle.body_take.specs.declared.Take.{Take}
use Rattle.body_take.specs.declared.Take
use Rattle.body_take.proofs.OneTaken.{took_unknown, took_top}
use Rattle.body_operands.specs.Taking.{left_in}
use Rattle.body_quick_take.specs.declared.Done.{Done}
use Rattle.body_progress.specs.Standing.{Ordered}
use Rattle.body_quick_take.specs.Taking.{Took, TookAny, Put}

pub word_fits : {base top : ℕ} → Ordered base top → Fits w64 (operands_from + top)
word_fits o = record { fits = omega (arith, o.low) }

pub more_fits : {base top : ℕ} → Ordered base top → Fits w64 (top + 1)
more_fits o = record { fits = omega (arith, o.low) }

-- the place of the operand on top, counted from the bottom and from the base
top_place : (base top : ℕ) → base < top → operands_from + top - 1 ≡ operands_from + (base + (top - base - 1))
top_place base top h = omega arith

top_left : (base top : ℕ) → base < top → top - 1 - base ≡ top - base - 1
top_left base top h = omega arith

top_some : (base top : ℕ) → base < top → top - base ≡ 0 → ⊥
top_some base top h z = omega arith

top_above : (base top : ℕ) → base < top → base ≤ top - 1
top_above base top h = omega arith

module _ (ts : Types) (work : List ℕ) {base top : ℕ} (dead w : ℕ) where
  pub took_not : Took ts work base top dead w 0
  took_not = record { left = λ n. absurd (n refl); above = λ n. absurd (n refl); most = omega arith }

  pub took_below : Ordered base top → top ≡ base → dead ≡ 1 → Took ts work base top dead w (top + 1)
  took_below o e d =
      let none : top - base ≡ 0 = omega arith in
      let left : top + 1 - 1 - base ≡ 0 = omega arith in
      let t = took_unknown ts (eqb dead 1) work w base {height = top - base} none (eq-eqb dead 1 d) in
      record { left = λ n. ap left_in (sym t) ∙ ap (λ (h : ℕ). allowed (stack work base h)) (sym left); above = λ n. omega arith; most = omega arith }

  module _ (ord : Ordered base top) (some : top ≡ base → ⊥) {o : ℕ} (a : Word32At work (operands_from + top - 1) o) where
    pub took_fit : {r : Fit} → r ≡ fit_is (fit ts (operand_at_code o) (wanted_at_code w)) → r ≡ Fit.TheVariants.Fits → Took ts work base top dead w top
    took_fit f e =
        let above = ord.above in
        let less : base < top = omega (arith, some) in
        let there = top_some base top less in
        let a' : Word32At work (operands_from + (base + (top - base - 1))) o = rw (top_place base top less) at a in
        let left = top_left base top less in
        let t = took_top ts (eqb dead 1) work w base {height = top - base} there a' f e in
        record { left = λ n. ap left_in (sym t) ∙ ap (λ (h : ℕ). allowed (stack work base h)) (sym left); above = λ n. top_above base top less; most = omega arith }

    pub took_same : o ≡ w → Took ts work base top dead w top
    took_same e = took_fit (fits_same ts o w e) refl

module _ (work : List ℕ) {base top : ℕ} (dead w : ℕ) where
  pub any_not : TookAny work base top dead w 0
  any_not = record { is = λ ts. took_not ts work dead w }

  pub any_below : Ordered base top → top ≡ base → dead ≡ 1 → TookAny work base top dead w (top + 1)
  any_below o e d = record { is = λ ts. took_below ts work dead w o e d }

  pub any_same : Ordered base top → (top ≡ base → ⊥) → {o : ℕ} → Word32At work (operands_from + top - 1) o → o ≡ w → TookAny work base top dead w top
  any_same ord some a e = record { is = λ ts. took_same ts work dead w ord some a e }

pub ruleset take_exits = (word_fits, more_fits, took_not, took_below, took_fit, took_same, any_not, any_below, any_same)

-- putting

pub put-not : {work work' : List ℕ} (top w size : ℕ) {r : Done} → r ≡ record { top = 0; size = 0 } → work' ≡ work → Put work work' top w size r
put-not top w size {r} e k =
    let none : r.size ≡ 0 = ap (λ (d : Done). d.size) e in
    record { words = λ n. absurd (n none); done = λ n. absurd (n none); low = λ n. absurd (n none); kept = λ z. k }

pub put_one : {work work' : List ℕ} {top w size : ℕ} → 0 < size → top < most_operands → work' ≡ set work (operands_from + top) (w % word_bound) → Put work work' top w size (record { top = top + 1; size = size })
put_one some low e = record { words = λ n. e; done = λ n. refl; low = λ n. low; kept = λ z. absurd (omega arith) }

pub put-fits : {top : ℕ} → top < most_operands → Fits w64 (operands_from + top)
put-fits h = record { fits = omega arith }

pub ruleset put_exits = (put-not, put_one, put-fits)
