-- Trap 46 and its condition: "The run does add, sub, eqz and comparisons of integers, and comparisons, neg, add, sub, mul and div of
-- floats." "Another numeric code stops the run with new trap 46": that instruction and no other, whatever the machine holds.
-- proofs/OtherNumeric.antt proves it both ways. As every trap it carries no machine: the state after it is the one before.
use Rattle.std.specs.Prelude.{ℕ, ◌≡◌, ◌↔◌, List, ◌∷◌, ◌++◌}
use Rattle.scope.specs.Refusals.{trap_other_numeric}
use Rattle.scope.specs.Instructions.{Op, numeric}
use Rattle.scope.specs.Machine.{Value, Machine, Program, traps, do_op}
use Rattle.facts_codes.specs.Numeric.{upward, Among}

-- what the run does, by the core standard's names
abbrev pub done_codes : List ℕ
done_codes =
    -- i32.eqz, i32.eq to i32.ge_u; i64.eqz, i64.eq to i64.ge_u
    upward 0x45 11
    ++ upward 0x50 11
    -- f32.eq to f32.ge; f64.eq to f64.ge
    ++ upward 0x5B 6
    ++ upward 0x61 6
    -- i32.add, i32.sub; i64.add, i64.sub
    ++ upward 0x6A 2
    ++ upward 0x7C 2
    -- f32.neg; f32.add, f32.sub, f32.mul, f32.div
    ++ 0x8C
    ∷ upward 0x92 4
    -- f64.neg; f64.add, f64.sub, f64.mul, f64.div
    ++ 0x9A
    ∷ upward 0xA0 4

pub data OtherNumeric : Op → Type 0 where
  other_numeric : {b : ℕ} → ¬ Among b done_codes → OtherNumeric (numeric b)

pub record FortySix : Type 0 where
  pub exactly : (p : Program) (m : Machine) (vs : List Value) (o : Op) → (do_op p m vs o ≡ traps trap_other_numeric) ↔ OtherNumeric o
