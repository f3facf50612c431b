-- What is wrong with the items of an instruction, by what lies there: which of 1, 2, 3 and 32, and at which place. "An item is one LEB
-- number or one code byte"; the first item at fault is told, all before it being well written.
use Rattle.std.specs.Prelude.{ℕ, ◌+◌, ◌≤◌, ◌<◌, ◌≡◌, ◌⊎◌, ◌↔◌, List, length}
use Rattle.std.proofs.Math.Option.{none, some}
use Rattle.std.proofs.Math.ListN.{get_elem?}
use Rattle.scope.specs.Refusals.{bytes_end, bad_number, not_listed, padded}
use Rattle.scope.specs.Reading.{Reader, refused}
use Rattle.scope.specs.Numbers.{Whole, minus, greatest_length, unsigned, signed, float_bytes}
use Rattle.scope.specs.Abstract.{Abstract, row}
use Rattle.scope.specs.Syntax.{Heap}
use Rattle.scope.specs.Sections.{heap_at, val_at}
use Rattle.scope.specs.Instructions.{block_type_at, cast_at}
use Rattle.facts_sections.specs.Between.{Between}
use Rattle.facts_sections.specs.Writing.{Sevens, Twos, NaturalRange, WholeRange, Unsigned, Signed, WritesHeap}
use Rattle.facts_sections.specs.NumberFaults.{EndsInside, OutOfRange, HasSpare, GoOn}

-- a number: cut, too long or out of range, with a byte to spare
pub data NumberFault {A : Type 0} (W : List ℕ → A → Type 0) (Range : ℕ → A → Type 0) (width : ℕ) (s : List ℕ) (at : ℕ) : ℕ → ℕ → Type 0 where
  cut_short : EndsInside width s at → NumberFault W Range width s at bytes_end at
  goes_on_and_on : GoOn s at (greatest_length width) → NumberFault W Range width s at bad_number at
  not_in_range : OutOfRange W Range width s at → NumberFault W Range width s at bad_number at
  byte_to_spare : HasSpare W Range width s at → NumberFault W Range width s at padded at

abbrev pub UnsignedFault : ℕ → List ℕ → ℕ → ℕ → ℕ → Type 0
UnsignedFault = NumberFault Sevens NaturalRange

abbrev pub SignedFault : ℕ → List ℕ → ℕ → ℕ → ℕ → Type 0
SignedFault = NumberFault Twos WholeRange

-- a float: one of its bytes is missing, told at the first
pub data FloatFault (many : ℕ) (s : List ℕ) (at : ℕ) : ℕ → ℕ → Type 0 where
  float_cut : length s < at + many → FloatFault many s at bytes_end at

-- a byte that begins a type's number: neither 62 nor an abstract code
pub record Numbered (b : ℕ) : Type 0 where
  pub not_exact : ¬ (b ≡ 0x62)
  pub not_abstract : (a : Abstract) → ¬ (b ≡ (row a).code)

-- a heap type. "negative number as type" is 3
pub data HeapFault (s : List ℕ) (at : ℕ) : ℕ → ℕ → Type 0 where
  heap_missing : get_elem? s at ≡ none → HeapFault s at bytes_end at
  exact_number : {number place : ℕ} → get_elem? s at ≡ some 0x62 → UnsignedFault 32 s (at + 1) number place → HeapFault s at number place
  type_number_fault : {b number place : ℕ} → get_elem? s at ≡ some b → Numbered b → SignedFault 33 s at number place → HeapFault s at number place
  negative_type : {b v next : ℕ} {w : List ℕ} → get_elem? s at ≡ some b → Numbered b → Between s at w next → Signed 33 w (minus v) → HeapFault s at not_listed at

-- a value type
pub data ValFault (s : List ℕ) (at : ℕ) : ℕ → ℕ → Type 0 where
  val_missing : get_elem? s at ≡ none → ValFault s at bytes_end at
  nullable_heap : {number place : ℕ} → get_elem? s at ≡ some 0x63 → HeapFault s (at + 1) number place → ValFault s at number place
  non_null_heap : {number place : ℕ} → get_elem? s at ≡ some 0x64 → HeapFault s (at + 1) number place → ValFault s at number place
  val_not_listed : {b : ℕ} → get_elem? s at ≡ some b → ¬ (b ≡ 0x7F) → ¬ (b ≡ 0x7E) → ¬ (b ≡ 0x7D) → ¬ (b ≡ 0x7C) → ¬ (b ≡ 0x63) → ¬ (b ≡ 0x64)
      → ((a : Abstract) → ¬ (b ≡ (row a).code)) → ValFault s at not_listed at

-- a block's type
pub data BlockTypeFault (s : List ℕ) (at : ℕ) : ℕ → ℕ → Type 0 where
  block_type_fault : {number place : ℕ} → ¬ (get_elem? s at ≡ some 0x40) → ValFault s at number place → BlockTypeFault s at number place

-- a cast: flags, label, source, target; "above 3 is 3, said before the label is read"
pub data CastFault (s : List ℕ) (at : ℕ) : ℕ → ℕ → Type 0 where
  flags_missing : get_elem? s at ≡ none → CastFault s at bytes_end at
  flags_not_listed : {b : ℕ} → get_elem? s at ≡ some b → 4 ≤ b → CastFault s at not_listed at
  label_fault : {b number place : ℕ} → get_elem? s at ≡ some b → b < 4 → UnsignedFault 32 s (at + 1) number place → CastFault s at number place
  source_fault : {b l next number place : ℕ} {w : List ℕ} → get_elem? s at ≡ some b → b < 4 → Between s (at + 1) w next → Unsigned 32 w l
      → HeapFault s next number place → CastFault s at number place
  target_fault : {b l next after number place : ℕ} {w u : List ℕ} {h : Heap} → get_elem? s at ≡ some b → b < 4 → Between s (at + 1) w next → Unsigned 32 w l
      → Between s next u after → WritesHeap u h → HeapFault s after number place → CastFault s at number place

-- a reader refuses exactly where the relation says so, with this number and at this place
pub record FaultsAre {A : Type 0} (F : List ℕ → ℕ → ℕ → ℕ → Type 0) (r : Reader A) : Type 0 where
  pub exactly : (s : List ℕ) (at number place : ℕ) → (r s at ≡ refused number place) ↔ F s at number place

pub record ItemFaults : Type 0 where
  pub naturals : (width : ℕ) → FaultsAre (UnsignedFault width) (unsigned width)
  pub wholes : (width : ℕ) → FaultsAre (SignedFault width) (signed width)
  pub heaps : FaultsAre HeapFault heap_at
  pub values : FaultsAre ValFault val_at
  pub block_types : FaultsAre BlockTypeFault block_type_at
  pub casts : FaultsAre CastFault cast_at
