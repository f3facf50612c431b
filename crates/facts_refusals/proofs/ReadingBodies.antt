-- What the reader of an instruction refuses: as proofs/Reading.antt has it of a section's readers. Every row of the two tables of
-- codes keeps it.
use Prim.Native.Nat.{ℕ, ◌+◌, ◌≤◌}
use native.Mathlib.Omega.{arith}
use mathlib.Core.Bool.{Bool, true, false, cond}
use mathlib.Core.Option.{some}
use mathlib.Core.List.{List, [], ◌∷◌}
use lib.ListN.{length}
use lib.Dec.{ltb, eqb}
use Rattle.scope.specs.Reading.{Read, Reader, given}
use Rattle.scope.specs.Numbers.{u32}
use Rattle.scope.specs.Syntax.{Val}
use Rattle.scope.specs.Numeric.{numeric_of}
use Rattle.scope.specs.Instructions.{Op, numeric, Instr, bare, having, having_two, block_type_at, cast_at, opening, closing, first_bytes, after_fb, find, instr_at}
use Rattle.facts_refusals.specs.Numbers.{is_not_listed}
use Rattle.facts_refusals.proofs.Reading.{heeds_byte, unsigned_heeds, signed_heeds, float_heeds, heap_heeds, val_heeds, refuses, goes_on_lem, heeds_then, heeds_cond, heeds_given, Heeds, Heedful}

-- the readers of an instruction

block_type_heeds : Heedful block_type_at
unfolding block_type_at
block_type_heeds =
    record {
      heeds = λ s at h.
          heeds_byte s at _ h (λ b inside.
          heeds_cond (eqb b 0x40) (goes_on_lem (omega arith)) (heeds_then (val_heeds.heeds s at h) (λ v next a. goes_on_lem a)));
    }

cast_heeds : Heedful cast_at
unfolding cast_at
cast_heeds =
    record {
      heeds = λ s at h.
          heeds_byte s at _ h (λ flags inside.
          heeds_cond (ltb flags 4)
          (heeds_then ((unsigned_heeds 32).heeds s (at + 1) (omega arith)) (λ l next a.
          heeds_then (heap_heeds.heeds s next a) (λ k after b.
          heeds_then (heap_heeds.heeds s after b) (λ m stop c. goes_on_lem c))))
          (refuses is_not_listed h));
    }

-- every row of a table heeds

bare_heeds : (o : Op) → Heedful (bare o)
bare_heeds o = record { heeds = λ s at h. goes_on_lem h }

closing_heeds : Heedful closing
closing_heeds = record { heeds = λ s at h. goes_on_lem h }

opening_heeds : (make : List Val → Instr) → Heedful (opening make)
opening_heeds make = record { heeds = λ s at h. heeds_then (block_type_heeds.heeds s at h) (λ rs next a. goes_on_lem a) }

having_heeds : {A : Type 0} {one : Reader A} → Heedful one → (make : A → Op) → Heedful (having one make)
having_heeds t make = record { heeds = λ s at h. heeds_then (t.heeds s at h) (λ x next a. goes_on_lem a) }

having-two_heeds : (make : ℕ → ℕ → Op) → Heedful (having_two make)
having-two_heeds make =
    record {
      heeds = λ s at h.
          heeds_then ((unsigned_heeds 32).heeds s at h) (λ x next a.
          heeds_then ((unsigned_heeds 32).heeds s next a) (λ y end b. goes_on_lem b));
    }

data Rows : List (ℕ × Reader Instr) → Type 0 where
  none_left_lem : Rows []
  row_and : {code : ℕ} {r : Reader Instr} {more : List (ℕ × Reader Instr)} → Heedful r → Rows more → Rows ((code, r) ∷ more)

numbers : Heedful u32
numbers = unsigned_heeds 32

first_rows : Rows first_bytes
first_rows =
    row_and (bare_heeds _)
    (row_and (bare_heeds _)
    (row_and (opening_heeds _)
    (row_and (opening_heeds _)
    (row_and closing_heeds
    (row_and (having_heeds numbers _)
    (row_and (having_heeds numbers _)
    (row_and (bare_heeds _)
    (row_and (bare_heeds _)
    (row_and (having_heeds numbers _)
    (row_and (having_heeds numbers _)
    (row_and (having_heeds numbers _)
    (row_and (having_heeds (signed_heeds 32) _)
    (row_and (having_heeds (signed_heeds 64) _)
    (row_and (having_heeds (float_heeds 3) _)
    (row_and (having_heeds (float_heeds 7) _)
    (row_and (having_heeds heap_heeds _)
    (row_and (bare_heeds _)
    (row_and (bare_heeds _)
    (row_and (bare_heeds _)
    none_left_lem)))))))))))))))))))

later_rows : Rows after_fb
later_rows =
    row_and (having_heeds numbers _)
    (row_and (having_heeds numbers _)
    (row_and (having-two_heeds _)
    (row_and (having-two_heeds _)
    (row_and (having_heeds heap_heeds _)
    (row_and (having_heeds heap_heeds _)
    (row_and (having_heeds heap_heeds _)
    (row_and (having_heeds heap_heeds _)
    (row_and (having_heeds cast_heeds _)
    (row_and (having_heeds cast_heeds _)
    (row_and (having_heeds numbers _)
    (row_and (having_heeds numbers _)
    (row_and (having_heeds numbers _)
    (row_and (having_heeds heap_heeds _)
    (row_and (having_heeds heap_heeds _)
    (row_and (having_heeds cast_heeds _)
    (row_and (having_heeds cast_heeds _)
    none_left_lem))))))))))))))))

found_heeds : (b : ℕ) {rows : List (ℕ × Reader Instr)} → Rows rows → {other : Read Instr} (s : List ℕ) (at : ℕ) → at ≤ length s → Heeds (length s) other → Heeds (length s) (given (find b rows) other (λ r. r s at))
found_heeds b none_left_lem s at h o = o
found_heeds b (row_and {code} {r} {more} k rest) {other} s at h o = go (eqb b code) (found_heeds b rest s at h o)
  where
    go : (t : Bool) → Heeds (length s) (given (find b more) other (λ q. q s at)) → Heeds (length s) (given (cond t (some r) (find b more)) other (λ q. q s at))
    go true later = k.heeds s at h
    go false later = later

pub instr_heeds : Heedful instr_at
unfolding instr_at
instr_heeds =
    record {
      heeds = λ s at h.
          heeds_byte s at _ h (λ b inside.
          heeds_cond (eqb b 0xFB)
          (heeds_then (numbers.heeds s (at + 1) (omega arith)) (λ n next a. found_heeds n later_rows s next a (refuses is_not_listed (omega arith))))
          (found_heeds b first_rows s (at + 1) (omega arith) (heeds_given (numeric_of b) (refuses is_not_listed h) (λ kinds. (bare_heeds (numeric b)).heeds s (at + 1) (omega arith)))));
    }
