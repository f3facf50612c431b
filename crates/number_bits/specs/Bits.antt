-- What the reader of a number's bits answers, by scope's definition `bits_at`.
use Rattle.std.specs.Prelude.{ℕ, ◌+◌, ◌*◌, ◌<◌, ◌≤◌, ◌^◌, ◌≡◌, List, length}
use Rattle.std.proofs.Math.Option.{some}
use Rattle.std.proofs.Math.ListN.{get_elem?}
use Rattle.scope.specs.Numbers.{Bits, bits, cut, long, bits_at}
use Rattle.number_bytes.specs.Bytes.{byte_limit}
use Rattle.number_values.specs.Values.{Few}
use Rattle.number_bits.specs.declared.Leb.{Leb}
use Rattle.number_bits.specs.declared.Leb

-- v of weight w, from k bytes, put below what follows
abbrev pub above : ℕ → ℕ → ℕ → Bits → Bits
above v w k (bits u j next) = bits (v + w * u) (k + j) next
above v w k cut = cut
above v w k long = long

-- the bits of so many bytes fit a word
pub record MostBytes (most : ℕ) : Type 0 where
  pub some : 1 ≤ most
  pub fit : most ≤ 9

-- the byte at a place is b, and its number, of at most `most` bytes, goes on after it
pub record GoesOn (s : List ℕ) (at b most : ℕ) : Type 0 where
  pub byte : get_elem? s at ≡ some b
  pub small : b < byte_limit
  pub inside : at < length s
  pub more : 128 ≤ b
  pub room : MostBytes most

-- A number of one byte; the bits that end within `most` bytes, whatever a number's greatest length beyond that is; bytes that end first; or bytes
-- that all go on: their bits lie below what follows.
pub record BitsRead (most : ℕ) (s : List ℕ) (at : ℕ) (r : Leb) : Type 0 where
  pub one : (v next : ℕ) → r ≡ Leb.TheVariants.One v next → (v < 2 ^ 7) × ((more : ℕ) → bits_at (most + more) s at ≡ bits v 1 next)
  pub ended : (v k next : ℕ) → r ≡ Leb.TheVariants.Bits v k next → Few most v k × ((more : ℕ) → bits_at (most + more) s at ≡ bits v k next)
  pub lacking : r ≡ Leb.TheVariants.Cut → (more : ℕ) → bits_at (most + more) s at ≡ cut
  pub going : (v next : ℕ) → r ≡ Leb.TheVariants.Long v next
      → (v < 2 ^ (7 * most)) × ((more : ℕ) → bits_at (most + more) s at ≡ above v (2 ^ (7 * most)) most (bits_at more s next))
