-- What a reader of numbers refuses, and where: one statement over the width and the sign, by what lies at the place. "1: bytes
-- end inside an item. 2: LEB too long or out of range"; request 10 of document 02: "32, at its first byte, for any LEB number with
-- more bytes than it needs, looked at after 1 and 2".
use Rattle.std.specs.Prelude.{ℕ, suc, ◌+◌, ◌≤◌, ◌<◌, ◌≡◌, ◌⊎◌, ◌↔◌, List, length}
use Rattle.std.proofs.Math.Option.{none, some}
use Rattle.std.proofs.Math.ListN.{get_elem?}
use Rattle.scope.specs.Refusals.{bytes_end, bad_number, padded}
use Rattle.scope.specs.Reading.{refused, Reader}
use Rattle.scope.specs.Numbers.{greatest_length, unsigned, signed}
use Rattle.facts_sections.specs.Between.{Between}
use Rattle.facts_sections.specs.Writing.{Sevens, Twos, Shortest, NaturalRange, WholeRange}

-- so many bytes from a place on are there, and all go on
pub data GoOn (s : List ℕ) : ℕ → ℕ → Type 0 where
  none_yet : {at : ℕ} → GoOn s at 0
  goes_on_lem : {at b n : ℕ} → get_elem? s at ≡ some b → 128 ≤ b → GoOn s (at + 1) n → GoOn s at (suc n)

-- the bytes end before the number does
pub record EndsInside (width : ℕ) (s : List ℕ) (at : ℕ) : Type 0 where
  pub many : ℕ
  pub few : many < greatest_length width
  pub all : GoOn s at many
  pub ends : get_elem? s (at + many) ≡ none

-- a writing within the greatest length lies there, whether it needs its bytes or not
pub record Lies {A : Type 0} (W : List ℕ → A → Type 0) (width : ℕ) (s : List ℕ) (at : ℕ) : Type 0 where
  pub bytes : List ℕ
  pub next : ℕ
  pub value : A
  pub lies : Between s at bytes next
  pub writes : W bytes value
  pub short : length bytes ≤ greatest_length width

module _ {A : Type 0} (W : List ℕ → A → Type 0) (Range : ℕ → A → Type 0) (width : ℕ) (s : List ℕ) (at : ℕ) where
  pub data OutOfRange : Type 0 where
    out_of_range : (l : Lies W width s at) → ¬ Range width l.value → OutOfRange

  -- in range, and a shorter writing has this value
  pub data HasSpare : Type 0 where
    has_spare_lem : (l : Lies W width s at) → Range width l.value → ¬ Shortest W l.bytes l.value → HasSpare

pub record NumberFaults {A : Type 0} (W : List ℕ → A → Type 0) (Range : ℕ → A → Type 0) (read : ℕ → Reader A) : Type 0 where
  pub ends : (width : ℕ) (s : List ℕ) (at : ℕ) → (read width s at ≡ refused bytes_end at) ↔ EndsInside width s at
  pub bad : (width : ℕ) (s : List ℕ) (at : ℕ) → (read width s at ≡ refused bad_number at) ↔ (GoOn s at (greatest_length width) ⊎ OutOfRange W Range width s at)
  pub spare : (width : ℕ) (s : List ℕ) (at : ℕ) → (read width s at ≡ refused padded at) ↔ HasSpare W Range width s at
  -- nothing else, and nowhere else
  pub only : (width : ℕ) (s : List ℕ) (at number place : ℕ) → read width s at ≡ refused number place → (place ≡ at) × ((number ≡ bytes_end) ⊎ ((number ≡ bad_number) ⊎ (number ≡ padded)))

-- unsigned and signed, at every width
pub record EveryNumber : Type 0 where
  pub naturals : NumberFaults Sevens NaturalRange unsigned
  pub wholes : NumberFaults Twos WholeRange signed
