-- Each way out of the constants: the reader of the kind has read it, and its rule gives one number of that kind.
use Prim.Native.Nat.{ℕ, zero, suc, ◌+◌, ◌-◌, ◌^◌, ◌≤◌, ◌<◌}
use mathlib.Core.Path.{◌≡◌, refl, sym, ap, ◌∙◌}
use mathlib.Core.Option.{some}
use mathlib.Core.List.{List, [], ◌∷◌}
use native.Mathlib.Omega.{arith}
use lib.ListN.{length, get_elem?}
use lib.Dec.{eqb}
use mir.Syntax.{w64}
use mir.Val.{Fits}
use Rattle.scope.specs.Reading.{got, then}
use Rattle.scope.specs.Numbers.{bits32, bits64, s32, s64, float32, float64}
use Rattle.scope.specs.Instructions.{op, i32_const, i64_const, f32_const, f64_const, instr_at}
use Rattle.scope.specs.BodyRules.{plan_of}
use Rattle.scope.specs.Bodies.{scope_of}
use Rattle.type_table.specs.View.{val_at_code}
use Rattle.body_state.specs.Layout.{code_bound}
use Rattle.body_state.specs.State.{stack, state_at}
use Rattle.body_words.proofs.Laws.{known_kept}
use Rattle.body_quick_read.specs.Items.{SizeTold}
use Rattle.body_quick_take.specs.declared.Done.{Done}
use Rattle.body_quick_take.specs.Taking.{Put}
use Rattle.body_progress.specs.Standing.{check_of}
use Rattle.body_quick_take.specs.Telling.{Asked, Plainly}
use Rattle.body_quick_take.proofs.Tellings.{left-none, plainly_not, told-put}
use Rattle.body_quick_take.proofs.Asking.{asked_exits}
use Rattle.body_quick_values.specs.Values.{constant_byte, constant_at, ConstantTold}

-- the bytes after the code

pub constant_not : {s : List ℕ} {at : ℕ} (kind : ℕ) → ConstantTold kind s at 0
constant_not kind = record { instr = λ n. absurd (n refl); reads = λ n. absurd (n refl); plans = λ n c here. absurd (n refl); inside = λ n. absurd (n refl); few = λ n. absurd (n refl) }

module _ {s : List ℕ} {at r : ℕ} where
  pub constant_i32 : {kind : ℕ} → kind ≡ 0 → SizeTold s32 s at r → ConstantTold kind s at r
  unfolding constant_at plan_of val_at_code
  constant_i32 {kind} e t =
      let told : ConstantTold 0 s at r = record { instr = λ n. i32_const (bits32 (t.is n).0); reads = λ n. rw (t.is n).1; plans = λ n c here. refl; inside = t.inside; few = λ n. omega arith } in
      rw e told

  pub constant_i64 : {kind : ℕ} → kind ≡ 1 → SizeTold s64 s at r → ConstantTold kind s at r
  unfolding constant_at plan_of val_at_code
  constant_i64 {kind} e t =
      let told : ConstantTold 1 s at r = record { instr = λ n. i64_const (bits64 (t.is n).0); reads = λ n. rw (t.is n).1; plans = λ n c here. refl; inside = t.inside; few = λ n. omega arith } in
      rw e told

  pub constant_f32 : {kind : ℕ} → kind ≡ 2 → SizeTold float32 s at r → ConstantTold kind s at r
  unfolding constant_at plan_of val_at_code
  constant_f32 {kind} e t =
      let told : ConstantTold 2 s at r = record { instr = λ n. f32_const (t.is n).0; reads = λ n. rw (t.is n).1; plans = λ n c here. refl; inside = t.inside; few = λ n. omega arith } in
      rw e told

  pub constant_f64 : {kind : ℕ} → kind ≡ 3 → SizeTold float64 s at r → ConstantTold kind s at r
  unfolding constant_at plan_of val_at_code
  constant_f64 {kind} e t =
      let told : ConstantTold 3 s at r = record { instr = λ n. f64_const (t.is n).0; reads = λ n. rw (t.is n).1; plans = λ n c here. refl; inside = t.inside; few = λ n. omega arith } in
      rw e told

pub ruleset size_exits = (constant_not, constant_i32, constant_i64, constant_f32, constant_f64)

-- the whole

read_constant : (kind : ℕ) (s : List ℕ) (at : ℕ) → kind ≤ 3 → get_elem? s at ≡ some (constant_byte kind) → instr_at s at ≡ constant_at kind s (at + 1)
unfolding instr_at constant_at
read_constant zero s at h e = rw e
read_constant (suc zero) s at h e = rw e
read_constant (suc (suc zero)) s at h e = rw e
read_constant (suc (suc (suc zero))) s at h e = rw e
read_constant (suc (suc (suc (suc k)))) s at h e = absurd (omega arith)

module _ {kind : ℕ} {s : List ℕ} {at : ℕ} {work : List ℕ} {count depth base top dead : ℕ} (a : Asked (constant_byte kind) s at work count depth base top dead) {n : ℕ} (t : ConstantTold kind s (at + 1) n) (m : n ≡ 0 → ⊥) where
  pub constant_fits : length s < 2 ^ 64 → Fits w64 (1 + n)
  constant_fits l = let i = t.inside m in record { fits = omega arith }

  pub kind_fits : Fits w64 (kind + 2)
  kind_fits = let f = t.few m in record { fits = omega arith }

  pub constant_told : {work' : List ℕ} {r : Done} → Put work work' top (kind + 2) (1 + n) r → Plainly s at work work' count depth base top dead r
  constant_told p =
      let few = t.few m in
      let small : kind < code_bound = omega arith in
      let place : at + 1 + n ≡ at + (1 + n) = omega arith in
      let read : instr_at s at ≡ got (op (t.instr m)) (at + (1 + n)) = read_constant kind s at few a.byte ∙ t.reads m ∙ ap (λ (x : ℕ). got (op (t.instr m)) x) place in
      record { is = λ c l. told-put c (t.instr m) a.stands (t.plans m c (scope_of c (state_at work count (check_of depth base top dead)))) a.stands.ordered.above (left-none c.types (eqb dead 1) (stack work base (top - base))) read (known_kept small) p }

pub ruleset constant_exits = (asked_exits, constant_fits, kind_fits, constant_told, plainly_not)
