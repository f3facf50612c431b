-- Reading a body never moves back either. The argument is that of proofs/Forward.antt, over the two tables of codes: every
-- row's reader ends no earlier than it begins, so the instruction ends past its first byte.
use Prim.Native.Nat.{ℕ, ◌+◌, ◌≤◌}
use mathlib.Core.Bool.{Bool, true, false, cond}
use mathlib.Core.Option.{Option, none, some}
use mathlib.Core.List.{List, [], ◌∷◌}
use native.Mathlib.Omega.{arith}
use native.Mathlib.Nat.{le_trans, le_refl}
use lib.ListN.{length}
use lib.Dec.{ltb, eqb}
use Rattle.scope.specs.Reading.{Read, refused, Reader, given}
use Rattle.scope.specs.Syntax.{Val}
use Rattle.scope.specs.Numeric.{numeric_of}
use Rattle.scope.specs.Instructions.{Op, numeric, Instr, bare, having, having_two, block_type_at, cast_at, opening, closing, first_bytes, after_fb, find, instr_at}
use Rattle.scope.proofs.Forward.{Ends, stops, reaches, Takes, ends_then, ends_cond, ends_from, ends_byte, one_less, unsigned-takes, signed-takes, float_takes, heap-takes, val_takes}

-- a reader of immediates, of which there may be none
pub record Keeps (r : Reader Instr) : Type 0 where
  pub keeps : (s : List ℕ) (at : ℕ) → at ≤ length s → Ends at (length s) (r s at)

bare_keeps : (o : Op) → Keeps (bare o)
bare_keeps o = record { keeps = λ s at h. reaches (le_refl at) h }

closing_keeps : Keeps closing
closing_keeps = record { keeps = λ s at h. reaches (le_refl at) h }

having_keeps : {A : Type 0} {one : Reader A} → Takes one → (make : A → Op) → Keeps (having one make)
having_keeps t make = record { keeps = λ s at h. ends_then (t.takes s at) (λ x next a b. reaches (one_less a) b) }

having-two_keeps : (make : ℕ → ℕ → Op) → Keeps (having_two make)
having-two_keeps make =
    record {
      keeps = λ s at h.
          ends_then ((unsigned-takes 32).takes s at) (λ x next a b.
          ends_then ((unsigned-takes 32).takes s next) (λ y end c d. reaches (le_trans (one_less a) (one_less c)) d));
    }

pub block_type-takes : Takes block_type_at
unfolding block_type_at
block_type-takes =
    record {
      takes = λ s at.
          ends_byte s at _ (λ b h.
          ends_cond (eqb b 0x40) (reaches (le_refl (at + 1)) (omega arith))
          (ends_then (val_takes.takes s at) (λ v next a c. reaches a c)));
    }

opening_keeps : (make : List Val → Instr) → Keeps (opening make)
opening_keeps make =
    record { keeps = λ s at h. ends_then (block_type-takes.takes s at) (λ rs next a b. reaches (one_less a) b) }

pub cast_takes : Takes cast_at
unfolding cast_at
cast_takes =
    record {
      takes = λ s at.
          ends_byte s at _ (λ flags h.
          ends_cond (ltb flags 4)
          (ends_then ((unsigned-takes 32).takes s (at + 1)) (λ l next a e.
          ends_then (heap-takes.takes s next) (λ k after b f.
          ends_then (heap-takes.takes s after) (λ m stop c g. reaches (omega arith) g))))
          stops);
    }

-- a numeric code has no immediates
numeric_ends : (b : ℕ) {A : Type 0} (kinds : Option A) (n p : ℕ) (s : List ℕ) (at : ℕ) → at ≤ length s → Ends at (length s) (given kinds (refused n p) (λ k. bare (numeric b) s at))
numeric_ends b none n p s at h = stops
numeric_ends b (some k) n p s at h = reaches (le_refl at) h

-- every row of a table keeps
data Rows : List (ℕ × Reader Instr) → Type 0 where
  none_left_lem : Rows []
  row_and : {code : ℕ} {r : Reader Instr} {more : List (ℕ × Reader Instr)} → Keeps r → Rows more → Rows ((code, r) ∷ more)

first_rows : Rows first_bytes
first_rows =
    row_and (bare_keeps _)
    (row_and (bare_keeps _)
    (row_and (opening_keeps _)
    (row_and (opening_keeps _)
    (row_and closing_keeps
    (row_and (having_keeps (unsigned-takes 32) _)
    (row_and (having_keeps (unsigned-takes 32) _)
    (row_and (bare_keeps _)
    (row_and (bare_keeps _)
    (row_and (having_keeps (unsigned-takes 32) _)
    (row_and (having_keeps (unsigned-takes 32) _)
    (row_and (having_keeps (unsigned-takes 32) _)
    (row_and (having_keeps (signed-takes 32) _)
    (row_and (having_keeps (signed-takes 64) _)
    (row_and (having_keeps (float_takes 3) _)
    (row_and (having_keeps (float_takes 7) _)
    (row_and (having_keeps heap-takes _)
    (row_and (bare_keeps _)
    (row_and (bare_keeps _)
    (row_and (bare_keeps _)
    none_left_lem)))))))))))))))))))

later_rows : Rows after_fb
later_rows =
    row_and (having_keeps (unsigned-takes 32) _)
    (row_and (having_keeps (unsigned-takes 32) _)
    (row_and (having-two_keeps _)
    (row_and (having-two_keeps _)
    (row_and (having_keeps heap-takes _)
    (row_and (having_keeps heap-takes _)
    (row_and (having_keeps heap-takes _)
    (row_and (having_keeps heap-takes _)
    (row_and (having_keeps cast_takes _)
    (row_and (having_keeps cast_takes _)
    (row_and (having_keeps (unsigned-takes 32) _)
    (row_and (having_keeps (unsigned-takes 32) _)
    (row_and (having_keeps (unsigned-takes 32) _)
    (row_and (having_keeps heap-takes _)
    (row_and (having_keeps heap-takes _)
    (row_and (having_keeps cast_takes _)
    (row_and (having_keeps cast_takes _)
    none_left_lem))))))))))))))))

found_ends : (b : ℕ) {rows : List (ℕ × Reader Instr)} → Rows rows → {other : Read Instr} (s : List ℕ) (at : ℕ) → at ≤ length s → Ends at (length s) other → Ends at (length s) (given (find b rows) other (λ r. r s at))
found_ends b none_left_lem s at h o = o
found_ends b (row_and {code} {r} {more} k rest) {other} s at h o = go (eqb b code) (found_ends b rest s at h o)
  where
    go : (t : Bool) → Ends at (length s) (given (find b more) other (λ q. q s at)) → Ends at (length s) (given (cond t (some r) (find b more)) other (λ q. q s at))
    go true later = k.keeps s at h
    go false later = later

pub instr_takes : Takes instr_at
unfolding instr_at
instr_takes =
    record {
      takes = λ s at.
          ends_byte s at _ (λ b h.
          ends_cond (eqb b 0xFB)
          (ends_then ((unsigned-takes 32).takes s (at + 1)) (λ n next a c. ends_from (one_less a) (found_ends n later_rows s next c stops)))
          (found_ends b first_rows s (at + 1) (omega arith) (numeric_ends b (numeric_of b) _ _ s (at + 1) (omega arith))));
    }
