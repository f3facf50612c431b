-- The table's rule. One test of the whole table, that it is what the ranges say of each byte from 0 to 255, is computed where
-- the table is laid out (body_instructions); entry_at turns it into the fact at each byte.
use Prim.Native.Nat.{ℕ, zero, suc, ◌+◌, ◌*◌, ◌/◌, ◌%◌, ◌≤◌, ◌<◌}
use native.Mathlib.Nat.{le_of_suc-le-suc, not-suc-le-zero, zero-add, add-suc, suc-add, add-zero}
use native.Mathlib.Omega.{arith}
use mathlib.Core.Path.{◌≡◌, refl, sym, ap, ◌∙◌}
use mathlib.Core.Bool.{Bool, false, cond}
use mathlib.Core.Option.{Option, none, some}
use mathlib.Core.List.{List}
use lib.ListN.{get_or, length, get_or-eq_default}
use lib.Dec.{ltb, leb}
use borrow.Author.Tests.{lt-ltb, le-ltb}
use Rattle.scope.specs.Syntax.{Number, i32, i64, f32, f64}
use Rattle.scope.specs.Order.{number_code}
use Rattle.scope.specs.Numeric.{Numeric, numeric_of}
use Rattle.body_numeric.specs.declared.NumericRow.{NumericRow}
use Rattle.body_numeric.specs.Entries.{entry_of, coded, is_numeric, numbered, Tabled}

at-number : {A : Type 0} (f : ℕ → A) (n i k : ℕ) (d : A) → k < n → get_or (numbered f i n) k d ≡ f (i + k)
at-number f zero i k d h = absurd (not-suc-le-zero h)
at-number f (suc n) i zero d h = ap f (sym (add-zero i))
at-number f (suc n) i (suc k) d h = at-number f n (suc i) k d (le_of_suc-le-suc h) ∙ ap f (suc-add i k ∙ sym (add-suc i k))

-- the fact at each byte, from the test of the whole table
entry_at : {table : List ℕ} {b : ℕ} → Tabled table → b < 256 → get_or table b 0 ≡ entry_of (numeric_of b)
entry_at {b = b} t h =
    ap (λ (l : List ℕ). get_or l b 0) t.is
    ∙ at-number (λ b. entry_of (numeric_of b)) 256 0 b 0 h
    ∙ ap (λ (x : ℕ). entry_of (numeric_of x)) (zero-add b)

-- an entry's pairs of digits
digits : (o k r : ℕ) → k < 4 → r < 4 → ((16 * o + 4 * k + r) / 16 ≡ o) × ((16 * o + 4 * k + r) / 4 % 4 ≡ k) × ((16 * o + 4 * k + r) % 4 ≡ r)
digits o k r h l = (omega arith, omega arith, omega arith)

one_digit : (n : Number) → number_code n < 4
one_digit i32 = omega arith
one_digit i64 = omega arith
one_digit f32 = omega arith
one_digit f64 = omega arith

taken_apart : {n : ℕ} (o : Option Numeric) → n ≡ entry_of o → ◌≡◌ {A = NumericRow} (record { operands = n / 16; kind = n / 4 % 4; result = n % 4 }) (coded o)
unfolding entry_of coded
taken_apart none e = rw e
taken_apart (some x) e =
    let d = digits x.operands (number_code x.kind) (number_code x.result) (one_digit x.kind) (one_digit x.result) in
    rw (e, d.0, d.1, d.2)

pub row_apart : {table : List ℕ} {b n : ℕ} → Tabled table → b < 256 → n ≡ get_or table b 0 → ◌≡◌ {A = NumericRow} (record { operands = n / 16; kind = n / 4 % 4; result = n % 4 }) (coded (numeric_of b))
row_apart {b = b} t h e = taken_apart (numeric_of b) (e ∙ entry_at t h)

pub past_end : (table : List ℕ) {b : ℕ} → length table ≤ b → 0 ≡ get_or table b 0
past_end table h = sym (get_or-eq_default table 0 h)

pub ruleset apart = (row_apart)

-- Which bytes are numeric codes: one test of all 256, as for the table.

abbrev pub covers_at : ℕ → Bool
covers_at b = cond (ltb b 0x45) false (leb b 0xC4)

covers_all : numbered covers_at 0 256 ≡ numbered is_numeric 0 256
unfolding is_numeric numeric_of
covers_all = refl

covers : {b : ℕ} → b < 256 → covers_at b ≡ is_numeric b
covers {b} h =
    ap covers_at (sym (zero-add b))
    ∙ sym (at-number covers_at 256 0 b false h)
    ∙ ap (λ (l : List Bool). get_or l b false) covers_all
    ∙ at-number is_numeric 256 0 b false h
    ∙ ap is_numeric (zero-add b)

pub before_first : {b : ℕ} → b < 256 → b < 0x45 → false ≡ is_numeric b
before_first {b} h l = sym (rw (lt-ltb b 0x45 l)) ∙ covers h

pub from_first : {b : ℕ} → b < 256 → 0x45 ≤ b → leb b 0xC4 ≡ is_numeric b
from_first {b} h l = sym (rw (le-ltb b 0x45 l)) ∙ covers h

pub ruleset covered = (before_first, from_first)
