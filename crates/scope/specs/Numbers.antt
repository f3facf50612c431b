-- "Numbers are LEB128 as the core standard has them"; the leave to pad them is withdrawn by request 10 of document 02. One
-- account over the width and the sign: seven bits a byte, lowest first, a byte of 128 or more goes on; then the range of the
-- width; then that no byte is to spare. A float is no LEB number: its bytes are its bits, and one item.
use Rattle.std.specs.Prelude.{ℕ, zero, suc, ◌+◌, ◌-◌, ◌*◌, ◌^◌, ◌/◌, ◌%◌, Bool, cond, ◌&&◌, List, ltb, leb}
use Rattle.std.proofs.Math.Option.{Option, none, some}
use Rattle.std.proofs.Math.ListN.{get_elem?}
use Rattle.scope.specs.Reading.{Read, got, refused, Reader, given}
use Rattle.scope.specs.Refusals.{bytes_end, bad_number, padded}

-- the bits of a number as they stand: their value, how many bytes they take, the place after; or what is wrong
pub data Bits : Type 0 where
  bits : ℕ → ℕ → ℕ → Bits
  cut : Bits
  long : Bits

-- seven bits put below those that follow
abbrev pub under : ℕ → Bits → Bits
under b (bits v k next) = bits (b % 128 + 128 * v) (k + 1) next
under b cut = cut
under b long = long

-- at most so many bytes
unfoldable pub bits_at : ℕ → List ℕ → ℕ → Bits
bits_at zero s at = long
bits_at (suc room) s at =
    given (get_elem? s at) cut (λ b. let more = under b (bits_at room s (at + 1)) in cond (ltb b 128) (bits b 1 (at + 1)) more)

-- the greatest length of a number of so many bits
abbrev pub greatest_length : ℕ → ℕ
greatest_length width = (width + 6) / 7

-- Request 10: 32, at its first byte, "for any LEB number with more bytes than it needs". Of k bytes one is to spare where seven
-- bits fewer hold the number too; `holds n x` says that n bits hold x. A number of one byte has none to spare.
abbrev pub unless_padded : {A : Type 0} → ℕ → ℕ → ℕ → (ℕ → A → Bool) → A → Read A
unless_padded at k next holds x = cond (ltb 1 k && holds (7 * (k - 1)) x) (refused padded at) (got x next)

-- 1: bytes end inside an item; 2: LEB too long or out of range; 32 "after 1 and 2". All at its first byte.
abbrev pub in_range : {A : Type 0} → ℕ → ℕ → Bits → (ℕ → ℕ → A) → (ℕ → A → Bool) → Read A
in_range width at (bits v k next) value holds = cond (holds width (value v k)) (unless_padded at k next holds (value v k)) (refused bad_number at)
in_range width at cut value holds = refused bytes_end at
in_range width at long value holds = refused bad_number at

abbrev pub within_unsigned : ℕ → ℕ → Bool
within_unsigned width v = ltb v (2 ^ width)

-- uN
unfoldable pub unsigned : ℕ → Reader ℕ
unsigned width s at = in_range width at (bits_at (greatest_length width) s at) (λ v k. v) within_unsigned

-- a whole number: a natural one, or one below zero by its magnitude
pub data Whole : Type 0 where
  plus : ℕ → Whole
  minus : ℕ → Whole

-- the highest bit of k bytes is the sign
abbrev pub signed_of : ℕ → ℕ → Whole
signed_of v k = cond (ltb v (2 ^ (7 * k - 1))) (plus v) (minus (2 ^ (7 * k) - v))

abbrev pub within_signed : ℕ → Whole → Bool
within_signed width (plus v) = ltb v (2 ^ (width - 1))
within_signed width (minus v) = leb v (2 ^ (width - 1))

-- sN
unfoldable pub signed : ℕ → Reader Whole
signed width s at = in_range width at (bits_at (greatest_length width) s at) signed_of within_signed

abbrev pub u32 : Reader ℕ
u32 = unsigned 32

abbrev pub s32 : Reader Whole
s32 = signed 32

abbrev pub s33 : Reader Whole
s33 = signed 33

abbrev pub s64 : Reader Whole
s64 = signed 64

-- an i32 is kept as 32 bits
abbrev pub bits32 : Whole → ℕ
bits32 (plus v) = v
bits32 (minus v) = 2 ^ 32 - v

-- and an i64 as 64
abbrev pub bits64 : Whole → ℕ
bits64 (plus v) = v
bits64 (minus v) = 2 ^ 64 - v

-- so many bytes as one number, the lowest first; none where a byte is missing
unfoldable pub little_endian : ℕ → List ℕ → ℕ → Option ℕ
little_endian zero s at = some 0
little_endian (suc n) s at =
    given (get_elem? s at) none (λ b. let higher = little_endian n s (at + 1) in given higher none (λ v. some (b + 256 * v)))

-- "a float's bytes being one item": 1 at the first of them, whichever is missing
unfoldable pub float_bytes : ℕ → Reader ℕ
float_bytes n s at = given (little_endian n s at) (refused bytes_end at) (λ v. got v (at + n))

-- the bits of an f32 are four bytes, those of an f64 eight
abbrev pub float32 : Reader ℕ
float32 = float_bytes 4

abbrev pub float64 : Reader ℕ
float64 = float_bytes 8
