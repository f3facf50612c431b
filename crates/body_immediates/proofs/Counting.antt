-- Each way out of the readers of instructions with numbers: the number that was read, and the code that was tested, make the
-- definition give the same instruction and place.
use Prim.Native.Nat.{ℕ, ◌-◌, ◌^◌, ◌≤◌, ◌<◌}
use mathlib.Core.Path.{◌≡◌, refl}
use mathlib.Core.List.{List}
use native.Mathlib.Omega.{arith}
use borrow.Author.Tests.{ne_eqb}
use Rattle.std.specs.Prelude.{Ok, Err}
use Rattle.scope.specs.Told.{no_at}
use Rattle.scope.specs.declared.Refused.{Refused}
use Rattle.scope.specs.Numbers.{u32, s32, s64, float32, float64}
use Rattle.scope.proofs.Told.{passed}
use Rattle.number_values.specs.declared.Integer.{Integer}
use Rattle.number_values.specs.declared.Integer
use Rattle.number_values.specs.Values.{natural_is, integer_is}
use Rattle.number_floats.specs.Floats.{FloatRead}
use Rattle.number_values.proofs.Laws.{natural_got, natural_refused, integer_plus, integer_minus, integer_refused, signed-small, signed_least, signed_more}
use Rattle.type_table.specs.Kept.{kept}
use Rattle.body_immediates.specs.declared.Instruction.{Instruction}
use Rattle.body_immediates.specs.declared.Instruction
use Rattle.body_immediates.specs.Coding.{operation_of, instruction_of, instruction_is, numbered_at, constant_at, wide_at, float32_const_at, float64_const_at, typed_at, fielded_at}

-- numbered_at

module _ (b : ℕ) (s : List ℕ) (at : ℕ) where
  pub numbered_refused : {no : Refused} → Err no ≡ natural_is (u32 s at) → Err no ≡ instruction_is (numbered_at b s at)
  unfolding numbered_at
  numbered_refused a = rw (natural_refused (u32 s at) a refl)

  module _ {x next : ℕ} (a : Ok (x, next) ≡ natural_is (u32 s at)) where
    pub numbered_br : b ≡ 0x0C → Ok ((Instruction.TheVariants.Br x), next) ≡ instruction_is (numbered_at b s at)
    unfolding numbered_at instruction_of operation_of
    numbered_br f = rw (natural_got (u32 s at) a refl, f)

    pub numbered_br_if : b ≡ 0x0D → Ok ((Instruction.TheVariants.BrIf x), next) ≡ instruction_is (numbered_at b s at)
    unfolding numbered_at instruction_of operation_of
    numbered_br_if f = rw (natural_got (u32 s at) a refl, f)

    pub numbered_get : b ≡ 0x20 → Ok ((Instruction.TheVariants.LocalGet x), next) ≡ instruction_is (numbered_at b s at)
    unfolding numbered_at instruction_of operation_of
    numbered_get f = rw (natural_got (u32 s at) a refl, f)

    pub numbered_set : b ≡ 0x21 → Ok ((Instruction.TheVariants.LocalSet x), next) ≡ instruction_is (numbered_at b s at)
    unfolding numbered_at instruction_of operation_of
    numbered_set f = rw (natural_got (u32 s at) a refl, f)

    pub numbered_tee : (b ≡ 0x0C → ⊥) → (b ≡ 0x0D → ⊥) → (b ≡ 0x20 → ⊥) → (b ≡ 0x21 → ⊥) → Ok ((Instruction.TheVariants.LocalTee x), next) ≡ instruction_is (numbered_at b s at)
    unfolding numbered_at instruction_of operation_of
    numbered_tee p q t u = rw (natural_got (u32 s at) a refl, ne_eqb b 0x0C p, ne_eqb b 0x0D q, ne_eqb b 0x20 t, ne_eqb b 0x21 u)

pub ruleset numbered_exits = (passed, numbered_refused, numbered_br, numbered_br_if, numbered_get, numbered_set, numbered_tee)

-- constant_at

module _ (s : List ℕ) (at : ℕ) {r : Integer} (a : r ≡ integer_is (s32 s at)) where
  pub constant_refused : {n place : ℕ} → r ≡ Integer.TheVariants.Refused n place → Err (no_at n place) ≡ instruction_is (constant_at s at)
  unfolding constant_at
  constant_refused e = rw (integer_refused (s32 s at) a e)

  pub constant_plus : {v next : ℕ} → r ≡ Integer.TheVariants.Plus v next → Ok ((Instruction.TheVariants.I32Const v), next) ≡ instruction_is (constant_at s at)
  unfolding constant_at instruction_of operation_of
  constant_plus e = rw (integer_plus (s32 s at) a e)

  pub constant_minus : {v next : ℕ} → r ≡ Integer.TheVariants.Minus v next → Ok ((Instruction.TheVariants.I32Const (2 ^ 32 - v)), next) ≡ instruction_is (constant_at s at)
  unfolding constant_at instruction_of operation_of
  constant_minus e = rw (integer_minus (s32 s at) a e)

  -- so it does not go below 0
  pub constant_bound : {v next : ℕ} → r ≡ Integer.TheVariants.Minus v next → v ≤ 2 ^ 32
  constant_bound {v} {next} e = let h = signed_least 32 s at (integer_minus (s32 s at) a e) in omega arith

  -- and 32 bits hold it
  pub constant_narrow : {v next : ℕ} → r ≡ Integer.TheVariants.Plus v next → v < 2 ^ 32
  constant_narrow {v} {next} e = let h = signed-small 32 s at (integer_plus (s32 s at) a e) in omega arith

  pub constant_lacks : {v next : ℕ} → r ≡ Integer.TheVariants.Minus v next → 2 ^ 32 - v < 2 ^ 32
  constant_lacks {v} {next} e = let h = signed_more 32 s at (integer_minus (s32 s at) a e) in omega arith

pub ruleset constant_exits = (constant_refused, constant_plus, constant_minus, constant_bound, constant_narrow, constant_lacks)

-- wide_at

module _ (s : List ℕ) (at : ℕ) {r : Integer} (a : r ≡ integer_is (s64 s at)) where
  pub wide_refused : {n place : ℕ} → r ≡ Integer.TheVariants.Refused n place → Err (no_at n place) ≡ instruction_is (wide_at s at)
  unfolding wide_at
  wide_refused e = rw (integer_refused (s64 s at) a e)

  pub wide_plus : {v next : ℕ} → r ≡ Integer.TheVariants.Plus v next → Ok ((Instruction.TheVariants.I64Const v), next) ≡ instruction_is (wide_at s at)
  unfolding wide_at instruction_of operation_of
  wide_plus e = rw (integer_plus (s64 s at) a e)

  module _ {v next : ℕ} (e : r ≡ Integer.TheVariants.Minus v next) where
    -- it is not zero, so that one less does not go below 0
    pub wide_some : 1 ≤ v
    wide_some = let h = signed_more 64 s at (integer_minus (s64 s at) a e) in omega arith

    pub wide_minus : Ok ((Instruction.TheVariants.I64Const (18446744073709551615 - (v - 1))), next) ≡ instruction_is (wide_at s at)
    unfolding wide_at instruction_of operation_of
    wide_minus =
        let some : 1 ≤ v = wide_some in
        let bits : 18446744073709551615 - (v - 1) ≡ 2 ^ 64 - v = omega arith in
        rw (integer_minus (s64 s at) a e, bits)

pub ruleset wide_exits = (wide_refused, wide_plus, wide_some, wide_minus)

-- float32_const_at, float64_const_at

module _ (s : List ℕ) (at : ℕ) where
  pub float32_refused : {no : Refused} → FloatRead (2 ^ 32) (float32 s at) (Err no) → Err no ≡ instruction_is (float32_const_at s at)
  unfolding float32_const_at
  float32_refused a = rw (natural_refused (float32 s at) a.is refl)

  pub float64_refused : {no : Refused} → FloatRead (2 ^ 64) (float64 s at) (Err no) → Err no ≡ instruction_is (float64_const_at s at)
  unfolding float64_const_at
  float64_refused a = rw (natural_refused (float64 s at) a.is refl)

  module _ {v next : ℕ} where
    pub float32_got : FloatRead (2 ^ 32) (float32 s at) (Ok (v, next)) → Ok ((Instruction.TheVariants.F32Const v), next) ≡ instruction_is (float32_const_at s at)
    unfolding float32_const_at instruction_of operation_of
    float32_got a = rw (natural_got (float32 s at) a.is refl)

    pub float32_narrow : FloatRead (2 ^ 32) (float32 s at) (Ok (v, next)) → v < 2 ^ 32
    float32_narrow a = a.small v next refl

    pub float64_got : FloatRead (2 ^ 64) (float64 s at) (Ok (v, next)) → Ok ((Instruction.TheVariants.F64Const v), next) ≡ instruction_is (float64_const_at s at)
    unfolding float64_const_at instruction_of operation_of
    float64_got a = rw (natural_got (float64 s at) a.is refl)

pub ruleset float_exits = (passed, float32_refused, float32_got, float32_narrow, float64_refused, float64_got)

-- typed_at

module _ (b : ℕ) (s : List ℕ) (at : ℕ) where
  pub typed_refused : {no : Refused} → Err no ≡ natural_is (u32 s at) → Err no ≡ instruction_is (typed_at b s at)
  unfolding typed_at
  typed_refused a = rw (natural_refused (u32 s at) a refl)

  module _ {x next : ℕ} (a : Ok (x, next) ≡ natural_is (u32 s at)) {k : ℕ} (e : k ≡ kept x) where
    pub typed_new : b ≡ 0x00 → Ok ((Instruction.TheVariants.StructNew k), next) ≡ instruction_is (typed_at b s at)
    unfolding typed_at instruction_of operation_of
    typed_new f = rw (natural_got (u32 s at) a refl, e, f)

    pub typed_new_default : b ≡ 0x01 → Ok ((Instruction.TheVariants.StructNewDefault k), next) ≡ instruction_is (typed_at b s at)
    unfolding typed_at instruction_of operation_of
    typed_new_default f = rw (natural_got (u32 s at) a refl, e, f)

    pub typed_new_desc : b ≡ 0x20 → Ok ((Instruction.TheVariants.StructNewDesc k), next) ≡ instruction_is (typed_at b s at)
    unfolding typed_at instruction_of operation_of
    typed_new_desc f = rw (natural_got (u32 s at) a refl, e, f)

    pub typed_new_default_desc : b ≡ 0x21 → Ok ((Instruction.TheVariants.StructNewDefaultDesc k), next) ≡ instruction_is (typed_at b s at)
    unfolding typed_at instruction_of operation_of
    typed_new_default_desc f = rw (natural_got (u32 s at) a refl, e, f)

    pub typed_get_desc : (b ≡ 0x00 → ⊥) → (b ≡ 0x01 → ⊥) → (b ≡ 0x20 → ⊥) → (b ≡ 0x21 → ⊥) → Ok ((Instruction.TheVariants.RefGetDesc k), next) ≡ instruction_is (typed_at b s at)
    unfolding typed_at instruction_of operation_of
    typed_get_desc p q t u = rw (natural_got (u32 s at) a refl, e, ne_eqb b 0x00 p, ne_eqb b 0x01 q, ne_eqb b 0x20 t, ne_eqb b 0x21 u)

pub ruleset typed_exits = (passed, typed_refused, typed_new, typed_new_default, typed_new_desc, typed_new_default_desc, typed_get_desc)

-- fielded_at

module _ (b : ℕ) (s : List ℕ) (at : ℕ) where
  pub fielded_untyped : {no : Refused} → Err no ≡ natural_is (u32 s at) → Err no ≡ instruction_is (fielded_at b s at)
  unfolding fielded_at
  fielded_untyped a = rw (natural_refused (u32 s at) a refl)

  module _ {x field : ℕ} (a : Ok (x, field) ≡ natural_is (u32 s at)) where
    pub fielded_refused : {no : Refused} → Err no ≡ natural_is (u32 s field) → Err no ≡ instruction_is (fielded_at b s at)
    unfolding fielded_at
    fielded_refused c = rw (natural_got (u32 s at) a refl, natural_refused (u32 s field) c refl)

    module _ {i next k : ℕ} (c : Ok (i, next) ≡ natural_is (u32 s field)) (d : k ≡ kept x) where
      pub fielded_get : b ≡ 0x02 → Ok ((Instruction.TheVariants.StructGet k i), next) ≡ instruction_is (fielded_at b s at)
      unfolding fielded_at instruction_of operation_of
      fielded_get g = rw (natural_got (u32 s at) a refl, natural_got (u32 s field) c refl, g, d)

      pub fielded-set : (b ≡ 0x02 → ⊥) → Ok ((Instruction.TheVariants.StructSet k i), next) ≡ instruction_is (fielded_at b s at)
      unfolding fielded_at instruction_of operation_of
      fielded-set g = rw (natural_got (u32 s at) a refl, natural_got (u32 s field) c refl, ne_eqb b 0x02 g, d)

pub ruleset fielded_exits = (passed, fielded_untyped, fielded_refused, fielded_get, fielded-set)
