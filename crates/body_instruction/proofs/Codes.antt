-- Each way out of the reader of instructions. A code that was tested picks its row of the definition's list, and the reader
-- of that row is the one for its kind of immediates; a code that is none of the rows' is not listed.
use Prim.Native.Nat.{ℕ, ◌+◌, ◌^◌, ◌<◌}
use mathlib.Core.Path.{◌≡◌, refl, sym, ap, ◌∙◌}
use mathlib.Core.Bool.{Bool, true, false, not, false≢true}
use mathlib.Core.Option.{Option, none, some}
use mathlib.Core.List.{List}
use lib.ListN.{get_elem?}
use borrow.Author.Tests.{eq-eqb, ne_eqb}
use Rattle.scope.specs.Told.{no_at}
use Rattle.std.specs.Prelude.{Result, Ok, Err}
use Rattle.scope.specs.declared.Refused.{Refused}
use Rattle.scope.specs.Told.{Maybe}
use Rattle.std.specs.Prelude.{None, Some}
use Rattle.scope.specs.Refusals.{bytes_end, not_listed}
use Rattle.scope.specs.Numbers.{u32}
use Rattle.scope.specs.Instructions.{instr_at}
use Rattle.scope.proofs.Told.{passed}
use Rattle.number_bytes.specs.Bytes.{ByteAt}
use Rattle.number_values.specs.Values.{natural_is}
use Rattle.number_bytes.proofs.Laws.{byte_got, byte_none, next_fits}
use Rattle.number_values.proofs.Laws.{natural_got, natural_refused}
use Rattle.scope.specs.Lists.{is_none}
use Rattle.scope.specs.Numeric.{Numeric, numeric_of}
use Rattle.body_numeric.specs.Entries.{is_numeric}
use Rattle.body_immediates.specs.declared.Instruction.{Instruction}
use Rattle.body_immediates.specs.declared.Instruction
use Rattle.body_cast_immediates.specs.Casting.{casting_at}
use Rattle.body_immediates.specs.Coding.{operation_of, instruction_of, instruction_is, opening_at, numbered_at, constant_at, wide_at, float32_const_at, float64_const_at, null_at, typed_at, fielded_at, tested_at}
use Rattle.body_instruction.specs.Dispatch.{numeric_at, single_at, listed_at, prefixed_at}

-- At a code that is written out, the list's row and the reader for it compute to the same: a need that says
-- `unfolding rows` has that by refl.
unfoldable pub rows : ℕ
unfolding operation_of instruction_of opening_at numbered_at constant_at wide_at float32_const_at float64_const_at null_at typed_at fielded_at tested_at casting_at single_at listed_at
rows = 0

-- numeric_at

module _ (b at next : ℕ) {listed : Bool} (a : listed ≡ is_numeric b) where
  -- by what the ranges say of the byte
  asked : (o : Option Numeric) → numeric_of b ≡ o → listed ≡ not (is_none o)
  unfolding is_numeric
  asked o e = rw e at a

  pub numeric-unlisted : listed ≡ false → Err (no_at not_listed at) ≡ instruction_is (numeric_at b at next)
  unfolding numeric_at
  numeric-unlisted f = go (numeric_of b) refl
    where
      go : (o : Option Numeric) → numeric_of b ≡ o → Err (no_at not_listed at) ≡ instruction_is (numeric_at b at next)
      go none e = rw e
      go (some kinds) e = absurd (false≢true (sym f ∙ asked (some kinds) e))

  pub numeric-listed : listed ≡ true → Ok ((Instruction.TheVariants.Numeric b), next) ≡ instruction_is (numeric_at b at next)
  unfolding numeric_at instruction_of operation_of
  numeric-listed t = go (numeric_of b) refl
    where
      go : (o : Option Numeric) → numeric_of b ≡ o → Ok ((Instruction.TheVariants.Numeric b), next) ≡ instruction_is (numeric_at b at next)
      go none e = absurd (false≢true (sym (asked none e) ∙ t))
      go (some kinds) e = rw e

pub ruleset numeric_exits = (numeric-unlisted, numeric-listed)

-- single_at

module _ (b : ℕ) (s : List ℕ) (at next : ℕ) where
  pub single-bare : {i : Instruction} (k : ℕ) → b ≡ k → Ok (i, next) ≡ instruction_is (single_at k s at next) → Ok (i, next) ≡ instruction_is (single_at b s at next)
  single-bare k e f = rw e f

  pub single-opening : {q : Result (Instruction × ℕ) Refused} (k : ℕ) → b ≡ k → q ≡ instruction_is (opening_at b s next) → opening_at k s next ≡ single_at k s at next → q ≡ instruction_is (single_at b s at next)
  single-opening k e g f = g ∙ rw e (ap instruction_is f)

  pub single-numbered : {q : Result (Instruction × ℕ) Refused} (k : ℕ) → b ≡ k → q ≡ instruction_is (numbered_at b s next) → numbered_at k s next ≡ single_at k s at next → q ≡ instruction_is (single_at b s at next)
  single-numbered k e g f = g ∙ rw e (ap instruction_is f)

  pub single_constant : {q : Result (Instruction × ℕ) Refused} (k : ℕ) → b ≡ k → q ≡ instruction_is (constant_at s next) → constant_at s next ≡ single_at k s at next → q ≡ instruction_is (single_at b s at next)
  single_constant k e g f = g ∙ rw e (ap instruction_is f)

  pub single_wide : {q : Result (Instruction × ℕ) Refused} (k : ℕ) → b ≡ k → q ≡ instruction_is (wide_at s next) → wide_at s next ≡ single_at k s at next → q ≡ instruction_is (single_at b s at next)
  single_wide k e g f = g ∙ rw e (ap instruction_is f)

  pub single-float32 : {q : Result (Instruction × ℕ) Refused} (k : ℕ) → b ≡ k → q ≡ instruction_is (float32_const_at s next) → float32_const_at s next ≡ single_at k s at next → q ≡ instruction_is (single_at b s at next)
  single-float32 k e g f = g ∙ rw e (ap instruction_is f)

  pub single-float64 : {q : Result (Instruction × ℕ) Refused} (k : ℕ) → b ≡ k → q ≡ instruction_is (float64_const_at s next) → float64_const_at s next ≡ single_at k s at next → q ≡ instruction_is (single_at b s at next)
  single-float64 k e g f = g ∙ rw e (ap instruction_is f)

  pub single_null : {q : Result (Instruction × ℕ) Refused} (k : ℕ) → b ≡ k → q ≡ instruction_is (null_at s next) → null_at s next ≡ single_at k s at next → q ≡ instruction_is (single_at b s at next)
  single_null k e g f = g ∙ rw e (ap instruction_is f)

  pub single-numeric : {q : Result (Instruction × ℕ) Refused} → q ≡ instruction_is (numeric_at b at next) → (b ≡ 0x00 → ⊥) → (b ≡ 0x01 → ⊥) → (b ≡ 0x02 → ⊥) → (b ≡ 0x03 → ⊥) → (b ≡ 0x0B → ⊥) → (b ≡ 0x0C → ⊥) → (b ≡ 0x0D → ⊥) → (b ≡ 0x0F → ⊥) → (b ≡ 0x1A → ⊥) → (b ≡ 0x20 → ⊥) → (b ≡ 0x21 → ⊥) → (b ≡ 0x22 → ⊥) → (b ≡ 0x41 → ⊥) → (b ≡ 0x42 → ⊥) → (b ≡ 0x43 → ⊥) → (b ≡ 0x44 → ⊥) → (b ≡ 0xD0 → ⊥) → (b ≡ 0xD1 → ⊥) → (b ≡ 0xD3 → ⊥) → (b ≡ 0xD4 → ⊥) → q ≡ instruction_is (single_at b s at next)
  unfolding single_at
  single-numeric g e0 e1 e2 e3 e4 e5 e6 e7 e8 e9 e10 e11 e12 e13 e14 e15 e16 e17 e18 e19 =
      g ∙ sym (rw (ne_eqb b 0x00 e0, ne_eqb b 0x01 e1, ne_eqb b 0x02 e2, ne_eqb b 0x03 e3, ne_eqb b 0x0B e4, ne_eqb b 0x0C e5, ne_eqb b 0x0D e6, ne_eqb b 0x0F e7, ne_eqb b 0x1A e8, ne_eqb b 0x20 e9, ne_eqb b 0x21 e10, ne_eqb b 0x22 e11, ne_eqb b 0x41 e12, ne_eqb b 0x42 e13, ne_eqb b 0x43 e14, ne_eqb b 0x44 e15, ne_eqb b 0xD0 e16, ne_eqb b 0xD1 e17, ne_eqb b 0xD3 e18, ne_eqb b 0xD4 e19))

pub ruleset single_exits = (single-bare, single-opening, single-numbered, single_constant, single_wide, single-float32, single-float64, single_null, single-numeric)

-- listed_at

module _ (n : ℕ) (s : List ℕ) (at next : ℕ) where
  pub listed-typed : {q : Result (Instruction × ℕ) Refused} (k : ℕ) → n ≡ k → q ≡ instruction_is (typed_at n s next) → typed_at k s next ≡ listed_at k s at next → q ≡ instruction_is (listed_at n s at next)
  listed-typed k e g f = g ∙ rw e (ap instruction_is f)

  pub listed-fielded : {q : Result (Instruction × ℕ) Refused} (k : ℕ) → n ≡ k → q ≡ instruction_is (fielded_at n s next) → fielded_at k s next ≡ listed_at k s at next → q ≡ instruction_is (listed_at n s at next)
  listed-fielded k e g f = g ∙ rw e (ap instruction_is f)

  pub listed-tested : {q : Result (Instruction × ℕ) Refused} (k : ℕ) → n ≡ k → q ≡ instruction_is (tested_at n s next) → tested_at k s next ≡ listed_at k s at next → q ≡ instruction_is (listed_at n s at next)
  listed-tested k e g f = g ∙ rw e (ap instruction_is f)

  pub listed-casting : {q : Result (Instruction × ℕ) Refused} (k : ℕ) → n ≡ k → q ≡ instruction_is (casting_at n s next) → casting_at k s next ≡ listed_at k s at next → q ≡ instruction_is (listed_at n s at next)
  listed-casting k e g f = g ∙ rw e (ap instruction_is f)

  pub listed-unlisted : (n ≡ 0x00 → ⊥) → (n ≡ 0x01 → ⊥) → (n ≡ 0x02 → ⊥) → (n ≡ 0x05 → ⊥) → (n ≡ 0x14 → ⊥) → (n ≡ 0x15 → ⊥) → (n ≡ 0x16 → ⊥) → (n ≡ 0x17 → ⊥) → (n ≡ 0x18 → ⊥) → (n ≡ 0x19 → ⊥) → (n ≡ 0x20 → ⊥) → (n ≡ 0x21 → ⊥) → (n ≡ 0x22 → ⊥) → (n ≡ 0x23 → ⊥) → (n ≡ 0x24 → ⊥) → (n ≡ 0x25 → ⊥) → (n ≡ 0x26 → ⊥) → Err (no_at not_listed at) ≡ instruction_is (listed_at n s at next)
  unfolding listed_at
  listed-unlisted e0 e1 e2 e3 e4 e5 e6 e7 e8 e9 e10 e11 e12 e13 e14 e15 e16 =
      rw (ne_eqb n 0x00 e0, ne_eqb n 0x01 e1, ne_eqb n 0x02 e2, ne_eqb n 0x05 e3, ne_eqb n 0x14 e4, ne_eqb n 0x15 e5, ne_eqb n 0x16 e6, ne_eqb n 0x17 e7, ne_eqb n 0x18 e8, ne_eqb n 0x19 e9, ne_eqb n 0x20 e10, ne_eqb n 0x21 e11, ne_eqb n 0x22 e12, ne_eqb n 0x23 e13, ne_eqb n 0x24 e14, ne_eqb n 0x25 e15, ne_eqb n 0x26 e16)

pub ruleset listed_exits = (listed-typed, listed-fielded, listed-tested, listed-casting, listed-unlisted)

-- prefixed_at

module _ (s : List ℕ) (at : ℕ) where
  pub prefixed_refused : {no : Refused} → Err no ≡ natural_is (u32 s at) → Err no ≡ instruction_is (prefixed_at s at)
  unfolding prefixed_at
  prefixed_refused a = rw (natural_refused (u32 s at) a refl)

  pub prefixed_got : {n next : ℕ} {q : Result (Instruction × ℕ) Refused} → Ok (n, next) ≡ natural_is (u32 s at) → q ≡ instruction_is (listed_at n s at next) → q ≡ instruction_is (prefixed_at s at)
  unfolding prefixed_at
  prefixed_got a g = g ∙ sym (rw (natural_got (u32 s at) a refl))

pub ruleset prefixed_exits = (passed, prefixed_refused, prefixed_got)

-- instruction_at

module _ {s : List ℕ} {at : ℕ} {r : Maybe ℕ} (a : ByteAt s at r) where
  pub instruction_missing : r ≡ None → Err (no_at bytes_end at) ≡ instruction_is (instr_at s at)
  unfolding instr_at
  instruction_missing e = rw (byte_none (get_elem? s at) a.is e)

  module _ {b : ℕ} (e : r ≡ Some b) where
    pub instruction_prefixed : {q : Result (Instruction × ℕ) Refused} → b ≡ 0xFB → q ≡ instruction_is (prefixed_at s (at + 1)) → q ≡ instruction_is (instr_at s at)
    unfolding instr_at prefixed_at listed_at
    instruction_prefixed f g = g ∙ sym (rw (byte_got (get_elem? s at) a.is e, eq-eqb b 0xFB f))

    pub instruction_single : {q : Result (Instruction × ℕ) Refused} → (b ≡ 0xFB → ⊥) → q ≡ instruction_is (single_at b s at (at + 1)) → q ≡ instruction_is (instr_at s at)
    unfolding instr_at single_at numeric_at
    instruction_single f g = g ∙ sym (rw (byte_got (get_elem? s at) a.is e, ne_eqb b 0xFB f))

    -- what was read is a byte
    pub instruction_byte : b < 2 ^ 8
    instruction_byte = (a.small b e).0

pub ruleset instruction_exits = (next_fits, instruction_byte, instruction_missing, instruction_prefixed, instruction_single)
