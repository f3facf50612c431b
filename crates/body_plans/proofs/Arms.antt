-- Each arm of the dispatch: an act means what the rule of its instruction says, where the plan follows that rule.
use Prim.Native.Nat.{ℕ, ◌+◌}
use mathlib.Core.Path.{◌≡◌, refl, ◌∙◌}
use mathlib.Core.Bool.{Bool, true, false}
use mathlib.Core.List.{List}
use Rattle.scope.specs.Instructions.{Op, i64_const, f32_const, f64_const, op}
use Rattle.scope.specs.BodyRules.{Context, plan_of}
use Rattle.scope.specs.Bodies.{State, scope_of, judge_instr}
use Rattle.type_table.specs.View.{heap_at_code, codes_at, view}
use Rattle.body_immediates.specs.declared.Instruction.{Instruction}
use Rattle.body_immediates.specs.declared.Instruction
use Rattle.body_state.specs.declared.Scene.{Scene}
use Rattle.body_state.specs.declared.Check.{Check}
use Rattle.body_state.specs.declared.Values
use Rattle.body_state.specs.declared.Planned.{Planned}
use Rattle.body_state.specs.declared.Planned
use Rattle.body_state.specs.State.{val_at_word, values_of, planned_of, sets_at, context_at, state_at}
use Rattle.body_plan_parts.specs.Planning.{Follows, Anywhere, Takes, Stops}
use Rattle.body_plan_parts.proofs.Words.{wants_none, wants_any, wants_reference, wants_eq_ref, gives_none, gives_i32}
use Rattle.body_plan_locals.specs.Uses.{Uses, Sets}
use Rattle.body_plan_numbers.specs.Everywhere.{Everywhere, Constant}
use Rattle.body_plan_casts.specs.Casts.{Tests}
use Rattle.body_plan_labels.specs.Labels.{labels_at, Goes}
use Rattle.body_plan_branches.specs.Branches.{Branching}
use Rattle.body_plans.specs.declared.Act
use Rattle.body_decoded.specs.Decoded.{instr_of}
use Rattle.body_plans.specs.Acts.{act_of}

-- blocks

module _ (codes : List ℕ) (c : Context) (s : State) (i : Instruction) where
  pub opens_block : {w : ℕ} → i ≡ Instruction.TheVariants.Block w → act_of codes c s (Act.TheVariants.Opens false w) ≡ judge_instr c s (instr_of i)
  unfolding act_of instr_of
  opens_block e = rw e

  pub opens_loop : {w : ℕ} → i ≡ Instruction.TheVariants.Loop w → act_of codes c s (Act.TheVariants.Opens true w) ≡ judge_instr c s (instr_of i)
  unfolding act_of instr_of
  opens_loop e = rw e

  pub closes : i ≡ Instruction.TheVariants.End → act_of codes c s Act.TheVariants.Closes ≡ judge_instr c s (instr_of i)
  unfolding act_of instr_of
  closes e = rw e

  -- a plan

  does : {j : Instruction} → i ≡ j → {o : Op} → instr_of j ≡ op o → (p : Planned) → planned_of codes p ≡ plan_of c (scope_of c s) o → act_of codes c s (Act.TheVariants.Does p) ≡ judge_instr c s (instr_of i)
  unfolding act_of judge_instr
  does e f p g = rw (e, f, g)

module _ (rows codes work : List ℕ) (k : Scene) (st : Check) (i : Instruction) {j : Instruction} (e : i ≡ j) {o : Op} {p : Planned} where
  pub follows : Follows codes (view rows codes) k.types o p → instr_of j ≡ op o → act_of codes (context_at rows codes work k) (state_at work k.locals st) (Act.TheVariants.Does p) ≡ judge_instr (context_at rows codes work k) (state_at work k.locals st) (instr_of i)
  unfolding context_at state_at
  follows a f = does codes _ _ i e f p (a.is _ _ _)

  pub anywhere : Anywhere k.types o p → instr_of j ≡ op o → act_of codes (context_at rows codes work k) (state_at work k.locals st) (Act.TheVariants.Does p) ≡ judge_instr (context_at rows codes work k) (state_at work k.locals st) (instr_of i)
  anywhere a f = follows (a.is codes (view rows codes)) f

  pub everywhere : Everywhere o p → instr_of j ≡ op o → act_of codes (context_at rows codes work k) (state_at work k.locals st) (Act.TheVariants.Does p) ≡ judge_instr (context_at rows codes work k) (state_at work k.locals st) (instr_of i)
  everywhere a f = anywhere (a.is k.types) f

  pub goes : Goes work k st.depth o p → instr_of j ≡ op o → act_of codes (context_at rows codes work k) (state_at work k.locals st) (Act.TheVariants.Does p) ≡ judge_instr (context_at rows codes work k) (state_at work k.locals st) (instr_of i)
  unfolding context_at state_at labels_at
  goes a f = does codes _ _ i e f p (a.is codes _ _)

  pub branches : Branching codes (view rows codes) k.types (labels_at codes work k st.depth) o p → instr_of j ≡ op o → act_of codes (context_at rows codes work k) (state_at work k.locals st) (Act.TheVariants.Does p) ≡ judge_instr (context_at rows codes work k) (state_at work k.locals st) (instr_of i)
  unfolding context_at state_at labels_at
  branches a f = does codes _ _ i e f p (a.is _ _ _)

  pub uses : Uses (codes_at val_at_word work 0 k.locals) (sets_at work (st.depth + 1) 0 k.locals) o p → instr_of j ≡ op o → act_of codes (context_at rows codes work k) (state_at work k.locals st) (Act.TheVariants.Does p) ≡ judge_instr (context_at rows codes work k) (state_at work k.locals st) (instr_of i)
  unfolding context_at state_at
  uses a f = does codes _ _ i e f p (a.is codes _ _ _ _)

  pub sets : Sets (codes_at val_at_word work 0 k.locals) o p → instr_of j ≡ op o → act_of codes (context_at rows codes work k) (state_at work k.locals st) (Act.TheVariants.Does p) ≡ judge_instr (context_at rows codes work k) (state_at work k.locals st) (instr_of i)
  sets a f = uses (a.is _) f

pub tests : (rows codes work : List ℕ) (k : Scene) (st : Check) (i : Instruction) {n : Bool} {h : ℕ} → i ≡ Instruction.TheVariants.RefTest n h → {p : Planned} → Tests codes (view rows codes) k.types (heap_at_code h) p → act_of codes (context_at rows codes work k) (state_at work k.locals st) (Act.TheVariants.Does p) ≡ judge_instr (context_at rows codes work k) (state_at work k.locals st) (instr_of i)
unfolding instr_of
tests rows codes work k st i {n} e a = follows rows codes work k st i e (a.is n) refl

-- constants, whatever their bits

module _ (rows codes work : List ℕ) (k : Scene) (st : Check) (i : Instruction) {n : ℕ} {p : Planned} where
  pub takes_i64 : i ≡ Instruction.TheVariants.I64Const n → Constant i64_const p → act_of codes (context_at rows codes work k) (state_at work k.locals st) (Act.TheVariants.Does p) ≡ judge_instr (context_at rows codes work k) (state_at work k.locals st) (instr_of i)
  unfolding instr_of
  takes_i64 e a = everywhere rows codes work k st i e (a.is n) refl

  pub takes_f32 : i ≡ Instruction.TheVariants.F32Const n → Constant f32_const p → act_of codes (context_at rows codes work k) (state_at work k.locals st) (Act.TheVariants.Does p) ≡ judge_instr (context_at rows codes work k) (state_at work k.locals st) (instr_of i)
  unfolding instr_of
  takes_f32 e a = everywhere rows codes work k st i e (a.is n) refl

  pub takes_f64 : i ≡ Instruction.TheVariants.F64Const n → Constant f64_const p → act_of codes (context_at rows codes work k) (state_at work k.locals st) (Act.TheVariants.Does p) ≡ judge_instr (context_at rows codes work k) (state_at work k.locals st) (instr_of i)
  unfolding instr_of
  takes_f64 e a = everywhere rows codes work k st i e (a.is n) refl

-- plans that are written out

module _ (codes : List ℕ) (c : Context) (s : State) (i : Instruction) {p : Planned} where
  pub stops_unreachable : i ≡ Instruction.TheVariants.Unreachable → Stops (Values.TheVariants.Types 0 0) p → act_of codes c s (Act.TheVariants.Does p) ≡ judge_instr c s (instr_of i)
  unfolding instr_of plan_of values_of codes_at
  stops_unreachable e a = does codes c s i e refl p (a.is codes)

  pub takes_nop : i ≡ Instruction.TheVariants.Nop → Takes 0 0 (Values.TheVariants.Types 0 0) 0 p → act_of codes c s (Act.TheVariants.Does p) ≡ judge_instr c s (instr_of i)
  unfolding instr_of plan_of values_of codes_at
  takes_nop e a = does codes c s i e refl p (a.is codes ∙ rw (wants_none, gives_none))

  pub takes-drop : i ≡ Instruction.TheVariants.Drop → Takes 1 0 (Values.TheVariants.Types 0 0) 0 p → act_of codes c s (Act.TheVariants.Does p) ≡ judge_instr c s (instr_of i)
  unfolding instr_of plan_of values_of codes_at
  takes-drop e a = does codes c s i e refl p (a.is codes ∙ rw (wants_any, wants_none, gives_none))

  pub takes_const : {n : ℕ} → i ≡ Instruction.TheVariants.I32Const n → Takes 0 0 (Values.TheVariants.Types 0 0) 1 p → act_of codes c s (Act.TheVariants.Does p) ≡ judge_instr c s (instr_of i)
  unfolding instr_of plan_of values_of codes_at
  takes_const e a = does codes c s i e refl p (a.is codes ∙ rw (wants_none, gives_i32))

  pub takes_is_null : i ≡ Instruction.TheVariants.RefIsNull → Takes 2 0 (Values.TheVariants.Types 0 0) 1 p → act_of codes c s (Act.TheVariants.Does p) ≡ judge_instr c s (instr_of i)
  unfolding instr_of plan_of values_of codes_at
  takes_is_null e a = does codes c s i e refl p (a.is codes ∙ rw (wants_reference, wants_none, gives_i32))

  pub takes-eq : i ≡ Instruction.TheVariants.RefEq → Takes 20 20 (Values.TheVariants.Types 0 0) 1 p → act_of codes c s (Act.TheVariants.Does p) ≡ judge_instr c s (instr_of i)
  unfolding instr_of plan_of values_of codes_at
  takes-eq e a = does codes c s i e refl p (a.is codes ∙ rw (wants_eq_ref, gives_i32))

pub non_null_lem : (codes : List ℕ) (c : Context) (s : State) (i : Instruction) → i ≡ Instruction.TheVariants.RefAsNonNull → act_of codes c s (Act.TheVariants.Does Planned.TheVariants.NonNull) ≡ judge_instr c s (instr_of i)
unfolding instr_of plan_of planned_of
non_null_lem codes c s i e = does codes c s i e refl Planned.TheVariants.NonNull refl

pub stops_return : (rows codes work : List ℕ) (k : Scene) (s : State) (i : Instruction) {p : Planned} → i ≡ Instruction.TheVariants.Return → Stops (Values.TheVariants.Types k.first k.results) p → act_of codes (context_at rows codes work k) s (Act.TheVariants.Does p) ≡ judge_instr (context_at rows codes work k) s (instr_of i)
unfolding instr_of plan_of values_of context_at
stops_return rows codes work k s i {p} e a = does codes _ s i e refl p (a.is codes)

-- the arms of the instructions without immediates, and of those that open a block
pub ruleset arm_exits = (stops_unreachable, takes_nop, opens_block, opens_loop, closes, stops_return, takes-drop, takes_is_null, takes-eq, non_null_lem)
