-- Reading a code back gives the type it is the code of. A code is a remainder on top of twice (or once) another code, so
-- each test of the reader is decided by the size or the parity of the code, and halving gives back what was doubled.
use Prim.Native.Nat.{ℕ, ◌+◌, ◌-◌, ◌*◌, ◌/◌, ◌%◌, ◌<◌, ◌≤◌}
use native.Mathlib.Omega.{arith}
use mathlib.Core.Path.{◌≡◌, refl}
use mathlib.Core.Bool.{Bool, true, false}
use lib.Dec.{ltb}
use borrow.Author.Tests.{le-ltb, eq-eqb, ne_eqb}
use Rattle.scope.specs.Syntax.{Heap, abstract, defined, exact, Number, i32, i64, f32, f64, Val, num, ref, Field}
use Rattle.scope.specs.Order.{number_code}
use Rattle.scope.specs.Memory.{heap_code, val_code, field_code, flag}
use Rattle.type_abstract.proofs.Laws.{code-small}
use Rattle.type_table.proofs.Codes.{heap-at-code}
use Rattle.type_table.specs.Kept.{kept_heap, kept_val, kept_field}
use Rattle.type_table.specs.View.{is_odd, val_at_code, field_at_code}

-- twice a number and a flag

odd_flag : (n : ℕ) (b : Bool) → is_odd (2 * n + flag b) ≡ b
odd_flag n true = eq-eqb ((2 * n + 1) % 2) 1 (omega arith)
odd_flag n false = ne_eqb ((2 * n + 0) % 2) 1 (λ e. omega arith)

half-flag : (n : ℕ) (b : Bool) → (2 * n + flag b) / 2 ≡ n
half-flag n true = omega arith
half-flag n false = omega arith

pub flag_small : (b : Bool) → flag b ≤ 1
flag_small true = omega arith
flag_small false = omega arith

-- reading back

pub val_code_lem : (v : Val) → val_at_code (val_code v) ≡ v
unfolding val_at_code
val_code_lem (num i32) = refl
val_code_lem (num i64) = refl
val_code_lem (num f32) = refl
val_code_lem (num f64) = refl
val_code_lem (ref n h) =
    let large : ltb (4 + 2 * heap_code h + flag n) 4 ≡ false = le-ltb (4 + 2 * heap_code h + flag n) 4 (omega arith) in
    let rest : 4 + 2 * heap_code h + flag n - 4 ≡ 2 * heap_code h + flag n = omega arith in
    let even : (4 + 2 * heap_code h + flag n) % 2 ≡ (2 * heap_code h + flag n) % 2 = omega arith in
    rw (large, even, odd_flag (heap_code h) n, rest, half-flag (heap_code h) n, heap-at-code h)

pub field_code_lem : (f : Field) → field_at_code (field_code f) ≡ f
unfolding field_at_code
field_code_lem f = rw (odd_flag (val_code f.holds) f.mutable, half-flag (val_code f.holds) f.mutable, val_code_lem f.holds)

-- codes of what the table keeps

pub heap-code-small : (h : Heap) → heap_code (kept_heap h) ≤ 8_201
heap-code-small (abstract a) = omega (arith, code-small a)
heap-code-small (defined x) = omega arith
heap-code-small (exact x) = omega arith

number-code-small : (n : Number) → number_code n < 4
number-code-small i32 = omega arith
number-code-small i64 = omega arith
number-code-small f32 = omega arith
number-code-small f64 = omega arith

pub val_code-small : (v : Val) → val_code (kept_val v) ≤ 16_407
val_code-small (num n) = omega (arith, number-code-small n)
val_code-small (ref n h) = omega (arith, heap-code-small h, flag_small n)

pub field_code-small : (f : Field) → field_code (kept_field f) ≤ 32_815
field_code-small f = omega (arith, val_code-small f.holds, flag_small f.mutable)
