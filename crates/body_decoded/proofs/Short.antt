-- A block or a loop that is read has at most one result: its type is 40 or one value type. The argument is that of scope's
-- ForwardBodies.antt, over the two tables of codes: every row's reader gives such an instruction.
use Prim.Native.Nat.{ℕ, ◌+◌, ◌≤◌}
use mathlib.Core.Path.{◌≡◌}
use mathlib.Core.Bool.{Bool, true, false, cond}
use mathlib.Core.Option.{Option, none, some}
use mathlib.Core.List.{List, [], ◌∷◌}
use native.Mathlib.Omega.{arith}
use lib.ListN.{length, get_elem?}
use lib.Dec.{eqb}
use Rattle.scope.specs.Reading.{Read, got, Reader, given}
use Rattle.scope.specs.Numbers.{u32, s32, s64, float32, float64}
use Rattle.scope.specs.Syntax.{Val}
use Rattle.scope.specs.Sections.{heap_at, val_at}
use Rattle.scope.specs.Instructions.{Op, numeric, Instr, block, loop, end, op, bare, having, having_two, block_type_at, cast_at, opening, closing, first_bytes, after_fb, find, instr_at}
use Rattle.scope.specs.Numeric.{numeric_of}
use Rattle.scope.proofs.Telling.{Gives, gives_this, gives_nothing, gives_then, gives_either}

pub data Short : Instr → Type 0 where
  short_block : {rs : List Val} → length rs ≤ 1 → Short (block rs)
  short_loop : {rs : List Val} → length rs ≤ 1 → Short (loop rs)
  short_end : Short end
  short_op : {o : Op} → Short (op o)

-- readers that give such instructions only
record Shorts (r : Reader Instr) : Type 0 where
  shorts : (s : List ℕ) (at : ℕ) → Gives Short (r s at)

bare_short : (o : Op) → Shorts (bare o)
bare_short o = record { shorts = λ s at. gives_this short_op }

closing_short : Shorts closing
closing_short = record { shorts = λ s at. gives_this short_end }

having_short : {A : Type 0} (one : Reader A) (make : A → Op) → Shorts (having one make)
having_short one make = record { shorts = λ s at. gives_then (one s at) (λ x next e. gives_this short_op) }

having-two_short : (make : ℕ → ℕ → Op) → Shorts (having_two make)
having-two_short make =
    record { shorts = λ s at. gives_then (u32 s at) (λ x next e. gives_then (u32 s next) (λ y stop f. gives_this short_op)) }

gives-given : {A B : Type 0} {P : A → Type 0} (o : Option B) {z : Read A} {f : B → Read A} → Gives P z → ((x : B) → Gives P (f x)) → Gives P (given o z f)
gives-given none z k = z
gives-given (some x) z k = k x

block_type_short : (s : List ℕ) (at : ℕ) → Gives (λ rs. length rs ≤ 1) (block_type_at s at)
unfolding block_type_at
block_type_short s at =
    gives-given (get_elem? s at) gives_nothing (λ b.
    gives_either (eqb b 0x40) (gives_this (omega arith)) (gives_then (val_at s at) (λ v next e. gives_this (omega arith))))

opening_short : (make : List Val → Instr) → ((rs : List Val) → length rs ≤ 1 → Short (make rs)) → Shorts (opening make)
opening_short make short =
    record { shorts = λ s at. gives_then (block_type_at s at) (λ rs next e. gives_this (short rs ((block_type_short s at).tells rs next e))) }

-- every row of a table

data Rows : List (ℕ × Reader Instr) → Type 0 where
  none_left_lem : Rows []
  row_and : {code : ℕ} {r : Reader Instr} {more : List (ℕ × Reader Instr)} → Shorts r → Rows more → Rows ((code, r) ∷ more)

first_rows : Rows first_bytes
first_rows =
    row_and (bare_short _)
    (row_and (bare_short _)
    (row_and (opening_short block (λ rs h. short_block h))
    (row_and (opening_short loop (λ rs h. short_loop h))
    (row_and closing_short
    (row_and (having_short u32 _)
    (row_and (having_short u32 _)
    (row_and (bare_short _)
    (row_and (bare_short _)
    (row_and (having_short u32 _)
    (row_and (having_short u32 _)
    (row_and (having_short u32 _)
    (row_and (having_short s32 _)
    (row_and (having_short s64 _)
    (row_and (having_short float32 _)
    (row_and (having_short float64 _)
    (row_and (having_short heap_at _)
    (row_and (bare_short _)
    (row_and (bare_short _)
    (row_and (bare_short _)
    none_left_lem)))))))))))))))))))

later_rows : Rows after_fb
later_rows =
    row_and (having_short u32 _)
    (row_and (having_short u32 _)
    (row_and (having-two_short _)
    (row_and (having-two_short _)
    (row_and (having_short heap_at _)
    (row_and (having_short heap_at _)
    (row_and (having_short heap_at _)
    (row_and (having_short heap_at _)
    (row_and (having_short cast_at _)
    (row_and (having_short cast_at _)
    (row_and (having_short u32 _)
    (row_and (having_short u32 _)
    (row_and (having_short u32 _)
    (row_and (having_short heap_at _)
    (row_and (having_short heap_at _)
    (row_and (having_short cast_at _)
    (row_and (having_short cast_at _)
    none_left_lem))))))))))))))))

found_short : (b : ℕ) {rows : List (ℕ × Reader Instr)} → Rows rows → {z : Read Instr} → Gives Short z → (s : List ℕ) (at : ℕ) → Gives Short (given (find b rows) z (λ r. r s at))
found_short b none_left_lem other s at = other
found_short b (row_and {code} {r} {more} k rest) {z} other s at = go (eqb b code) (found_short b rest other s at)
  where
    go : (t : Bool) → Gives Short (given (find b more) z (λ q. q s at)) → Gives Short (given (cond t (some r) (find b more)) z (λ q. q s at))
    go true later = k.shorts s at
    go false later = later

instr_short : (s : List ℕ) (at : ℕ) → Gives Short (instr_at s at)
unfolding instr_at
instr_short s at =
    gives-given (get_elem? s at) gives_nothing (λ b.
    gives_either (eqb b 0xFB)
    (gives_then (u32 s (at + 1)) (λ n next e. found_short n later_rows gives_nothing s next))
    (found_short b first_rows (gives-given (numeric_of b) gives_nothing (λ kinds. (bare_short (numeric b)).shorts s (at + 1))) s (at + 1)))

pub read_short : (s : List ℕ) (at : ℕ) {j : Instr} {next : ℕ} → instr_at s at ≡ got j next → Short j
read_short s at {j} {next} e = (instr_short s at).tells j next e
