-- What is asked and told of constants, and of numeric codes with their table at hand; and of drop, which looks at no word.
use Rattle.std.specs.Prelude.{ℕ, zero, suc, ◌+◌, ◌≤◌, ◌≡◌, List, [], ◌∷◌, length}
use Rattle.scope.specs.Reading.{got, Reader}
use Rattle.scope.specs.Numbers.{bits32, bits64, s32, s64, float32, float64}
use Rattle.scope.specs.Instructions.{Instr, Op, op, i32_const, i64_const, f32_const, f64_const, having}
use Rattle.scope.specs.BodyRules.{Context, Scope, values, takes, plan_of}
use Rattle.type_table.specs.View.{val_at_code}
use Rattle.body_numeric.specs.Entries.{Tabled}
use Rattle.body_quick_take.specs.declared.Done.{Done}
use Rattle.body_quick_take.specs.Telling.{Asked, Plainly}

-- the byte of a constant of the number type with the code `kind`
abbrev pub constant_byte : ℕ → ℕ
constant_byte kind = 0x41 + kind

-- and what stands after it
unfoldable pub constant_at : ℕ → Reader Instr
constant_at zero = having s32 (λ n. i32_const (bits32 n))
constant_at (suc zero) = having s64 (λ n. i64_const (bits64 n))
constant_at (suc (suc zero)) = having float32 f32_const
constant_at (suc (suc (suc k))) = having float64 f64_const

-- how many bytes that is, and what the rule of the constant says; or none
pub record ConstantTold (kind : ℕ) (s : List ℕ) (at r : ℕ) : Type 0 where
  pub instr : (r ≡ 0 → ⊥) → Op
  pub reads : (n : r ≡ 0 → ⊥) → constant_at kind s at ≡ got (op (instr n)) (at + r)
  pub plans : (n : r ≡ 0 → ⊥) (c : Context) (here : Scope) → plan_of c here (instr n) ≡ takes [] (values (val_at_code kind ∷ []))
  pub inside : (r ≡ 0 → ⊥) → at + r ≤ length s
  pub few : (r ≡ 0 → ⊥) → kind ≤ 3

pub record AskedNumeric (table : List ℕ) (b : ℕ) (s : List ℕ) (at : ℕ) (work : List ℕ) (count depth base top dead : ℕ) : Type 0 where
  pub tabled : Tabled table
  pub asked : Asked b s at work count depth base top dead

pub record Drops (base top dead : ℕ) (r : Done) : Type 0 where
  pub is : (s : List ℕ) (at : ℕ) (work : List ℕ) (count depth : ℕ) → Asked 0x1A s at work count depth base top dead → Plainly s at work work count depth base top dead r
