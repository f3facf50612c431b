-- Each arm of `move_of`: the move that it answers is what its instruction comes to, by the contract of the call that told it.
use Prim.Native.Nat.{ℕ, ◌^◌, ◌<◌}
use mathlib.Core.Path.{◌≡◌, refl, sym, ap, ◌∙◌}
use mathlib.Core.List.{List, ◌∷◌}
use native.Mathlib.Omega.{arith}
use native.Mathlib.Nat.{mod-eq_of_lt}
use lib.ListN.{length, drop}
use Rattle.scope.specs.Told.{Maybe}
use Rattle.scope.specs.Refusals.{trap_unreachable}
use Rattle.scope.specs.Instructions.{Op, op}
use Rattle.scope.specs.Syntax.{Number}
use Rattle.scope.specs.Machine.{Value as Valued, number, Machine, Program, goes, with_operands, do_op}
use Rattle.scope.proofs.Impossible.{contradiction}
use Rattle.lent_u16.specs.Words.{word_limit}
use Rattle.run_values.specs.Values.{width, within}
use Rattle.run_value.specs.declared.Value
use Rattle.run_value.specs.declared.Value.{Value as Carrier}
use Rattle.run_value.specs.Carried.{decoded, SingleIs, DoubleIs}
use Rattle.type_table.specs.View.{view}
use Rattle.body_immediates.specs.declared.Instruction.{Instruction}
use Rattle.body_immediates.specs.declared.Instruction
use Rattle.body_decoded.specs.Decoded.{instr_of}
use Rattle.body_decoded.specs.Named.{number_of, Modest}
use Rattle.run_stack.specs.Pile.{head_of, TopIs}
use Rattle.run_stack.proofs.Laws.{pile-length}
use Rattle.run_state.specs.declared.Stage.{Stage}
use Rattle.run_state.specs.declared.Move.{Move}
use Rattle.run_state.specs.declared.Move
use Rattle.run_state.specs.Moved.{MoveIs}
use Rattle.run_state.specs.Planned.{Seen, Knows, Holds, TopPlans, PairPlans, HeldPlans, LocalPlans, FieldPlans, SetPlans, MakePlans}
use Rattle.run_state.proofs.Moving.{trapping, leaving, branching, returning, giving, giving_null}
use Rattle.run_move_operands.specs.Seconds.{SecondIs}
use Rattle.run_move_casts.specs.Casts.{CastPlans, DescriptorPlans}
use Rattle.run_moves.specs.Moving.{MoveOf}

-- what is seen of a machine

module _ {m : Machine} {objects cells locals operands : List ℕ} {count : ℕ} {st : Stage} {first : Maybe Carrier} (t : TopIs operands st.base st.height first) (holds : Holds m objects cells locals operands count st) where
  sees : Seen m.operands first
  sees = record { is = t.is ∙ ap head_of (sym holds.values) }

  knows : Knows m first objects cells st.objects st.cells
  knows = record { top = sees; heap = holds.heap; kept = holds.kept }

module _ {m : Machine} {objects cells locals operands : List ℕ} {count : ℕ} {st : Stage} (holds : Holds m objects cells locals operands count st) where
  sees_next : {second : Maybe Carrier} → SecondIs operands st.base st.height second → Seen (drop 1 m.operands) second
  sees_next u = rw holds.values u.seen

  as_high : length m.operands ≡ st.height
  as_high = ap length holds.values ∙ pile-length operands st.base st.height

-- the arms

-- the memory is named, so that what the laws say and ask of it can be said in short
module _ (rows codes objects cells locals operands : List ℕ) (count : ℕ) (st : Stage) where
  abbrev Tells : Instruction → Move → Type 0
  Tells i r = MoveOf rows codes objects cells locals operands count st i r

  abbrev First : Maybe Carrier → Type 0
  First t = TopIs operands st.base st.height t

  abbrev Second : Maybe Carrier → Type 0
  Second t = SecondIs operands st.base st.height t

  module _ {i j : Instruction} (e : i ≡ j) where
    -- an instruction that is told whatever it looks at
    tells :
        {o : Op} {r : Move} → instr_of j ≡ op o
        → ((p : Program) (m : Machine) → p.types ≡ view rows codes → Holds m objects cells locals operands count st → MoveIs p codes m (do_op p m m.operands o) r)
        → Tells i r
    tells {o} f told =
        record {
          is = λ p m o' types holds g.
              let both : op o ≡ op o' = sym f ∙ ap instr_of (sym e) ∙ g in
              let same : o' ≡ o = cc in
              rw same (told p m types holds);
        }

    module _ {o : Op} {r : Move} where
      pub by_held : HeldPlans locals count o r → instr_of j ≡ op o → Tells i r
      by_held a f = tells f (λ p m types holds. a.is p codes m holds.held)

      module _ {first : Maybe Carrier} where
        pub by_top : TopPlans first o r → First first → instr_of j ≡ op o → Tells i r
        by_top a t f = tells f (λ p m types holds. a.is p codes m (sees t holds))

        pub by_locals : LocalPlans locals count first o r → First first → instr_of j ≡ op o → Tells i r
        by_locals a t f = tells f (λ p m types holds. a.is p codes m holds.held (sees t holds))

        pub by_fields : FieldPlans objects cells st.objects first o r → First first → instr_of j ≡ op o → Tells i r
        by_fields a t f = tells f (λ p m types holds. a.is p codes m st.cells (knows t holds))

        pub by_making : MakePlans rows codes st.objects st.cells st.height first o r → First first → instr_of j ≡ op o → Tells i r
        by_making a t f = tells f (λ p m types holds. a.is p m objects cells types (as_high holds) (knows t holds))

        pub by_casts : CastPlans rows codes objects st.objects first o r → First first → instr_of j ≡ op o → Tells i r
        by_casts a t f = tells f (λ p m types holds. a.is p m cells st.cells types (knows t holds))

        module _ {second : Maybe Carrier} where
          pub by_pair : PairPlans first second o r → First first → Second second → instr_of j ≡ op o → Tells i r
          by_pair a t u f = tells f (λ p m types holds. a.is p codes m (sees t holds) (sees_next holds u))

          pub by_setting : SetPlans objects cells st.objects first second o r → First first → Second second → instr_of j ≡ op o → Tells i r
          by_setting a t u f = tells f (λ p m types holds. a.is p codes m st.cells (knows t holds) (sees_next holds u))

          pub by_descriptors : DescriptorPlans objects st.objects first second o r → First first → Second second → instr_of j ≡ op o → Tells i r
          by_descriptors a t u f = tells f (λ p m types holds. a.is p codes m cells st.cells (knows t holds) (sees_next holds u))

  module _ {i : Instruction} where
    -- a block is opened or closed: no operation, and nothing to tell

    no_operation : {j : Instruction} → i ≡ j → ((o : Op) → instr_of j ≡ op o → ⊥) → Tells i Move.TheVariants.Astray
    no_operation e other = record { is = λ p m o types holds f. absurd (other o (ap instr_of (sym e) ∙ f)) }

    pub by_block : {w : ℕ} → i ≡ Instruction.TheVariants.Block w → Tells i Move.TheVariants.Astray
    unfolding instr_of
    by_block e = no_operation e (λ o f. contradiction cc)

    pub by_loop : {w : ℕ} → i ≡ Instruction.TheVariants.Loop w → Tells i Move.TheVariants.Astray
    unfolding instr_of
    by_loop e = no_operation e (λ o f. contradiction cc)

    pub by_end : i ≡ Instruction.TheVariants.End → Tells i Move.TheVariants.Astray
    unfolding instr_of
    by_end e = no_operation e (λ o f. contradiction cc)

    -- what looks at nothing

    pub by_unreachable : i ≡ Instruction.TheVariants.Unreachable → Tells i (Move.TheVariants.Traps trap_unreachable)
    unfolding instr_of do_op
    by_unreachable e = tells e refl (λ p m types holds. trapping refl)

    pub by_nop : i ≡ Instruction.TheVariants.Nop → Tells i (Move.TheVariants.Leaves 0)
    unfolding instr_of do_op
    by_nop e = tells e refl (λ p m types holds. leaving 0 refl (omega arith))

    pub by_return : i ≡ Instruction.TheVariants.Return → Tells i Move.TheVariants.Returns
    unfolding instr_of do_op
    by_return e = tells e refl (λ p m types holds. returning refl)

    pub by_branch : {l : ℕ} → i ≡ Instruction.TheVariants.Br l → Tells i (Move.TheVariants.Branches 0 l)
    unfolding instr_of do_op
    by_branch {l} e = tells e refl (λ p m types holds. branching 0 l refl (omega arith))

    -- a constant, by the case in which its value is carried

    gives_constant : {j : Instruction} {o : Op} {k : Number} {n : ℕ} {v : Carrier} → i ≡ j → instr_of j ≡ op o → ((p : Program) (m : Machine) → do_op p m m.operands o ≡ goes (with_operands m (number k n ∷ m.operands))) → decoded v ≡ number k (within k n) → n < 2 ^ width k → Tells i (Move.TheVariants.Gives 0 v)
    gives_constant {k = k} {v = v} e f does is small =
        tells e f (λ p m types holds. giving 0 v (does p m ∙ ap (λ (u : Valued). goes (with_operands m (u ∷ m.operands))) (sym (is ∙ ap (number k) (mod-eq_of_lt small)))) (omega arith))

    pub by_i32 : {n : ℕ} → i ≡ Instruction.TheVariants.I32Const n → n < 2 ^ 32 → Tells i (Move.TheVariants.Gives 0 (Value.TheVariants.I32 n))
    unfolding instr_of do_op
    by_i32 e small = gives_constant e refl (λ p m. refl) refl small

    pub by_i64 : {n : ℕ} → i ≡ Instruction.TheVariants.I64Const n → n < 2 ^ 64 → Tells i (Move.TheVariants.Gives 0 (Value.TheVariants.I64 n))
    unfolding instr_of do_op
    by_i64 e small = gives_constant e refl (λ p m. refl) refl small

    pub by_f32 : {n : ℕ} {v : Carrier} → i ≡ Instruction.TheVariants.F32Const n → SingleIs n v → n < 2 ^ 32 → Tells i (Move.TheVariants.Gives 0 v)
    unfolding instr_of do_op
    by_f32 e a small = gives_constant e refl (λ p m. refl) a.is small

    pub by_f64 : {n : ℕ} {v : Carrier} → i ≡ Instruction.TheVariants.F64Const n → DoubleIs n v → n < 2 ^ 64 → Tells i (Move.TheVariants.Gives 0 v)
    unfolding instr_of do_op
    by_f64 e a small = gives_constant e refl (λ p m. refl) a.is small

    pub by_null : {h : ℕ} → i ≡ Instruction.TheVariants.RefNull h → Tells i (Move.TheVariants.Gives 0 Value.TheVariants.Null)
    unfolding instr_of do_op
    by_null e =
        tells e refl (λ p m types holds. giving_null 0 refl (omega arith))

-- the type of which an object is made
pub by_number : {i j : Instruction} {x : ℕ} → Modest i → i ≡ j → number_of j ≡ x → x < word_limit
by_number a e f = rw (← f, ← e) a.small

pub ruleset arm_exits = (by_number, by_block, by_loop, by_end, by_unreachable, by_nop, by_return, by_branch, by_i32, by_i64, by_f32, by_f64, by_null, by_held, by_top, by_pair, by_locals, by_fields, by_setting, by_making, by_casts, by_descriptors)
