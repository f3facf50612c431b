-- Each arm of the dispatch by the first byte.
use Prim.Native.Nat.{ℕ, ◌+◌, ◌-◌, ◌<◌}
use mathlib.Core.Path.{◌≡◌, refl, ap, ◌∙◌}
use mathlib.Core.Option.{some}
use mathlib.Core.List.{List, []}
use native.Mathlib.Omega.{arith}
use lib.ListN.{get_elem?}
use lib.Dec.{eqb}
use Rattle.scope.specs.Reading.{got}
use Rattle.scope.specs.Instructions.{op, nop, instr_at}
use Rattle.scope.specs.BodyRules.{Context, Scope, values, takes, plan_of}
use Rattle.scope.specs.Bodies.{scope_of}
use Rattle.type_table.specs.View.{codes_at}
use Rattle.body_state.specs.declared.Scene.{Scene}
use Rattle.body_state.specs.State.{val_at_word, stack, context_at, state_at}
use Rattle.body_quick_read.specs.Items.{ByteOr}
use Rattle.body_quick_read.proofs.Shorts.{number-one}
use Rattle.body_quick_take.specs.declared.Done.{Done}
use Rattle.body_progress.specs.Standing.{check_of}
use Rattle.body_quick_take.specs.Telling.{Asked, AskedAfter, Told, Plainly}
use Rattle.body_quick_take.proofs.Tellings.{left-none, told_none}
use Rattle.body_quick_values.specs.Values.{Drops}
use Rattle.body_quick.specs.Runs.{Facing}

read_nop : (s : List ℕ) (at : ℕ) → get_elem? s at ≡ some 0x01 → instr_at s at ≡ got (op nop) (at + 1)
unfolding instr_at
read_nop s at e = rw e

plan_nop : (c : Context) (here : Scope) → plan_of c here nop ≡ takes [] (values [])
unfolding plan_of
plan_nop c here = refl

module _ {table : List ℕ} {b : ℕ} {s : List ℕ} {at : ℕ} {work : List ℕ} {count depth base top dead : ℕ} (f : Facing table b s at work count depth base top dead) where
  asked_here : b < 256 → Asked b s at work count depth base top dead
  asked_here h = record { byte = f.byte.is h; inside = f.byte.inside h; small = h; stands = f.stands }

  pub asked_as : {k : ℕ} → b ≡ k → k < 256 → Asked k s at work count depth base top dead
  asked_as {k} e h = rw e at (asked_here (omega arith))

  pub nop_told : b ≡ 0x01 → {work' : List ℕ} → work' ≡ work → Plainly s at work work' count depth base top dead (record { top = top; size = 1 })
  nop_told e {work'} same =
      let a = asked_as e (omega arith) in
      record { is = λ c l. told_none c nop f.stands (plan_nop c (scope_of c (state_at work count (check_of depth base top dead)))) f.stands.ordered (left-none c.types (eqb dead 1) (stack work base (top - base))) (read_nop s at a.byte) (omega arith) same }

  pub dropped-told : {r : Done} → Drops base top dead r → b ≡ 0x1A → {work' : List ℕ} → work' ≡ work → Plainly s at work work' count depth base top dead r
  dropped-told d e same = rw same (d.is s at work count depth (asked_as e (omega arith)))

-- what does not look at the table, over this one
context_locals : (rows codes work : List ℕ) (k : Scene) → (context_at rows codes work k).locals ≡ codes_at val_at_word work 0 k.locals
unfolding context_at
context_locals rows codes work k = refl

pub plainly_here : (rows codes : List ℕ) (k : Scene) {s : List ℕ} {at : ℕ} {work work' : List ℕ} {depth base top dead : ℕ} {r : Done} → Plainly s at work work' k.locals depth base top dead r → Told (context_at rows codes work k) s at work work' k.locals depth base top dead r
plainly_here rows codes k {work = work} p = p.is (context_at rows codes work k) (context_locals rows codes work k)

-- after FB

pub after_as : {s : List ℕ} {at : ℕ} {work : List ℕ} {count depth base top dead : ℕ} → Asked 0xFB s at work count depth base top dead → {b : ℕ} → ByteOr s (at + 1) b → {k : ℕ} → b ≡ k → k < 128 → AskedAfter k s at work count depth base top dead
after_as {s} {at} a {b} f {k} e h =
    let low : b < 128 = omega arith in
    let place : at + 1 + 1 ≡ at + 2 = omega arith in
    let inside = f.inside (omega arith) in
    let one = (number-one f low).is (λ z. absurd (omega arith)) ∙ ap (got b) place in
    record { byte = a.byte; code = one ∙ ap (λ (x : ℕ). got x (at + 2)) e; inside = omega arith; stands = a.stands }

pub ruleset arm_exits = (nop_told, dropped-told, plainly_here)
