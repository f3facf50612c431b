-- Change request 1: "the numeric codes 45 to C4, with the operand and result kinds of the core standard". "The checker reads
-- them from one table of 256 entries, one for each first byte, its rule (the standard's ranges) proved once over the whole":
-- here are the ranges. All operands of one code are of one kind.
use Rattle.std.specs.Prelude.{ℕ, cond, ◌&&◌, List, [], ◌∷◌, leb}
use Rattle.std.proofs.Math.Option.{Option, none, some}
use Rattle.scope.specs.Syntax.{Number, i32, i64, f32, f64}

-- how many operands a numeric instruction takes, their kind, and the kind of its one result
pub record Numeric : Type 0 where
  pub operands : ℕ
  pub kind : Number
  pub result : Number

-- the codes from the first to the last, both of them included
pub record Range : Type 0 where
  pub first : ℕ
  pub last : ℕ
  pub is : Numeric

abbrev pub tests : ℕ → ℕ → Number → Range
tests a b k = record { first = a; last = b; is = record { operands = 1; kind = k; result = i32 } }

abbrev pub compares : ℕ → ℕ → Number → Range
compares a b k = record { first = a; last = b; is = record { operands = 2; kind = k; result = i32 } }

abbrev pub unary : ℕ → ℕ → Number → Range
unary a b k = record { first = a; last = b; is = record { operands = 1; kind = k; result = k } }

abbrev pub binary : ℕ → ℕ → Number → Range
binary a b k = record { first = a; last = b; is = record { operands = 2; kind = k; result = k } }

abbrev pub converts : ℕ → ℕ → Number → Number → Range
converts a b k r = record { first = a; last = b; is = record { operands = 1; kind = k; result = r } }

abbrev pub ranges : List Range
ranges =
    -- eqz and the comparisons
    tests 0x45 0x45 i32
    ∷ compares 0x46 0x4F i32
    ∷ tests 0x50 0x50 i64
    ∷ compares 0x51 0x5A i64
    ∷ compares 0x5B 0x60 f32
    ∷ compares 0x61 0x66 f64
    -- what stays in its kind
    ∷ unary 0x67 0x69 i32
    ∷ binary 0x6A 0x78 i32
    ∷ unary 0x79 0x7B i64
    ∷ binary 0x7C 0x8A i64
    ∷ unary 0x8B 0x91 f32
    ∷ binary 0x92 0x98 f32
    ∷ unary 0x99 0x9F f64
    ∷ binary 0xA0 0xA6 f64
    -- to i32, to i64, to f32, to f64
    ∷ converts 0xA7 0xA7 i64 i32
    ∷ converts 0xA8 0xA9 f32 i32
    ∷ converts 0xAA 0xAB f64 i32
    ∷ converts 0xAC 0xAD i32 i64
    ∷ converts 0xAE 0xAF f32 i64
    ∷ converts 0xB0 0xB1 f64 i64
    ∷ converts 0xB2 0xB3 i32 f32
    ∷ converts 0xB4 0xB5 i64 f32
    ∷ converts 0xB6 0xB6 f64 f32
    ∷ converts 0xB7 0xB8 i32 f64
    ∷ converts 0xB9 0xBA i64 f64
    ∷ converts 0xBB 0xBB f32 f64
    -- the same bits read as another kind
    ∷ converts 0xBC 0xBC f32 i32
    ∷ converts 0xBD 0xBD f64 i64
    ∷ converts 0xBE 0xBE i32 f32
    ∷ converts 0xBF 0xBF i64 f64
    -- the low bits with their sign
    ∷ unary 0xC0 0xC1 i32
    ∷ unary 0xC2 0xC4 i64
    ∷ []

-- the range that a code lies in
abbrev pub within : ℕ → List Range → Option Numeric
within b [] = none
within b (r ∷ rs) = let later = within b rs in cond (leb r.first b && leb b r.last) (some r.is) later

-- what a first byte says of a numeric instruction, and none where it is no numeric code
unfoldable pub numeric_of : ℕ → Option Numeric
numeric_of b = within b ranges
