-- Each way out: the two ways of a cast, where the value passes and where it does not, as moves; and so the move of the cast.
use Prim.Native.Nat.{ℕ}
use mathlib.Core.Path.{refl, ap}
use mathlib.Core.Bool.{Bool, cond}
use mathlib.Core.List.{List, ◌∷◌}
use native.Mathlib.Omega.{arith}
use Rattle.scope.specs.Told.{Maybe}
use Rattle.scope.specs.Instructions.{ref_test, ref_cast, br_on_cast, br_on_cast_fail, ref_cast_desc_eq, br_on_cast_desc_eq, br_on_cast_desc_eq_fail}
use Rattle.scope.specs.Refusals.{trap_cast}
use Rattle.scope.specs.Machine.{Value, goes, traps, with_operands, truth, branch, do_op}
use Rattle.run_value.specs.declared.Value.{Value as Carrier}
use Rattle.run_value.specs.declared.Value
use Rattle.type_table.specs.View.{heap_at_code}
use Rattle.body_decoded.specs.Decoded.{cast_of}
use Rattle.run_state.specs.declared.Move.{Move}
use Rattle.run_state.specs.declared.Move
use Rattle.run_state.proofs.Tops.{top_low, top_whole}
use Rattle.run_state.proofs.Moving.{trapping, leaving, branching, giving_i32}
use Rattle.run_passing.specs.Passes.{CastChosen, DescriptorChosen}
use Rattle.run_move_casts.specs.Casts.{CastPlans, DescriptorPlans}

-- a cast by type

module _ {rows codes objects : List ℕ} {n : ℕ} {first : Maybe Carrier} {null_too : Bool} {h : ℕ} {r : Move} where
  pub test_is :
      CastChosen rows codes objects n first null_too h (Move.TheVariants.Gives 1 (Value.TheVariants.I32 1)) (Move.TheVariants.Gives 1 (Value.TheVariants.I32 0)) r
      → CastPlans rows codes objects n first (ref_test null_too (heap_at_code h)) r
  unfolding do_op
  test_is a =
      record {
        is = λ p m cells total types knows.
            a.is p m cells total types knows (λ v below b. goes (with_operands m (truth b ∷ below)))
            (λ v top. giving_i32 1 1 (omega arith) refl (top_low m.operands top))
            (λ v top. giving_i32 1 0 (omega arith) refl (top_low m.operands top));
      }

  pub cast_is :
      CastChosen rows codes objects n first null_too h (Move.TheVariants.Leaves 0) (Move.TheVariants.Traps trap_cast) r
      → CastPlans rows codes objects n first (ref_cast null_too (heap_at_code h)) r
  unfolding do_op
  cast_is a =
      record {
        is = λ p m cells total types knows.
            a.is p m cells total types knows (λ v below b. cond b (goes (with_operands m (v ∷ below))) (traps trap_cast))
            (λ v top. leaving 0 (ap (λ (vs : List Value). goes (with_operands m vs)) (top_whole m.operands top)) (omega arith))
            (λ v top. trapping refl);
      }

  module _ {l : ℕ} (source_null : Bool) (source : ℕ) where
    pub on_cast_is :
        CastChosen rows codes objects n first null_too h (Move.TheVariants.Branches 0 l) (Move.TheVariants.Leaves 0) r
        → CastPlans rows codes objects n first (br_on_cast (cast_of l source_null source null_too h)) r
    unfolding do_op
    on_cast_is a =
        record {
          is = λ p m cells total types knows.
              a.is p m cells total types knows (λ v below b. cond b (branch p m l m.operands) (goes m))
              (λ v top. branching 0 l refl (omega arith))
              (λ v top. leaving 0 refl (omega arith));
        }

    pub on_cast_fail_is :
        CastChosen rows codes objects n first null_too h (Move.TheVariants.Leaves 0) (Move.TheVariants.Branches 0 l) r
        → CastPlans rows codes objects n first (br_on_cast_fail (cast_of l source_null source null_too h)) r
    unfolding do_op
    on_cast_fail_is a =
        record {
          is = λ p m cells total types knows.
              a.is p m cells total types knows (λ v below b. cond b (goes m) (branch p m l m.operands))
              (λ v top. leaving 0 refl (omega arith))
              (λ v top. branching 0 l refl (omega arith));
        }

-- a cast by descriptor

module _ {objects : List ℕ} {n : ℕ} {first second : Maybe Carrier} {null_too : Bool} (h : ℕ) {r : Move} where
  pub descriptor_cast_is :
      DescriptorChosen objects n first second null_too (Move.TheVariants.Leaves 1) (Move.TheVariants.Traps trap_cast) r
      → DescriptorPlans objects n first second (ref_cast_desc_eq null_too (heap_at_code h)) r
  unfolding do_op
  descriptor_cast_is a =
      record {
        is = λ p codes m cells total knows next.
            a.is p codes m cells total knows next (λ others b. cond b (goes (with_operands m others)) (traps trap_cast))
            (λ low. leaving 1 refl low)
            (λ low. trapping refl);
      }

  module _ {l : ℕ} (source_null : Bool) (source : ℕ) where
    pub on_descriptor_is :
        DescriptorChosen objects n first second null_too (Move.TheVariants.Branches 1 l) (Move.TheVariants.Leaves 1) r
        → DescriptorPlans objects n first second (br_on_cast_desc_eq (cast_of l source_null source null_too h)) r
    unfolding do_op
    on_descriptor_is a =
        record {
          is = λ p codes m cells total knows next.
              a.is p codes m cells total knows next (λ others b. cond b (branch p m l others) (goes (with_operands m others)))
              (λ low. branching 1 l refl low)
              (λ low. leaving 1 refl low);
        }

    pub on_descriptor_fail_is :
        DescriptorChosen objects n first second null_too (Move.TheVariants.Leaves 1) (Move.TheVariants.Branches 1 l) r
        → DescriptorPlans objects n first second (br_on_cast_desc_eq_fail (cast_of l source_null source null_too h)) r
    unfolding do_op
    on_descriptor_fail_is a =
        record {
          is = λ p codes m cells total knows next.
              a.is p codes m cells total knows next (λ others b. cond b (goes (with_operands m others)) (branch p m l others))
              (λ low. leaving 1 refl low)
              (λ low. branching 1 l refl low);
        }

pub ruleset cast_exits = (test_is, cast_is, on_cast_is, on_cast_fail_is, descriptor_cast_is, on_descriptor_is, on_descriptor_fail_is)
