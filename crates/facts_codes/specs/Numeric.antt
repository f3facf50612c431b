-- The numeric codes one by one: the code, the operands that its instruction takes and the result that it gives, as the core
-- standard has them beside the name: `i64.eqz : [i64] -> [i32]`. Held against the ranges of scope, and what the rules of
-- facts_bodies and the runs of facts_numbers speak of.
use Rattle.std.specs.Prelude.{ℕ, zero, suc, List, [], ◌∷◌, ◌++◌, map, replicate}
use Rattle.std.proofs.Math.Option.{Option, none, some}
use Rattle.scope.specs.Syntax.{Number, i32, i64, f32, f64}
use Rattle.scope.specs.Numeric.{Numeric}

pub record Typed : Type 0 where
  pub takes : List Number
  pub gives : Number

pub record Code : Type 0 where
  pub byte : ℕ
  pub typed : Typed

abbrev pub code : ℕ → List Number → Number → Code
code b ks r = record { byte = b; typed = record { takes = ks; gives = r } }

-- a range's entry, written out
abbrev pub typed_of : Option Numeric → Option Typed
typed_of none = none
typed_of (some n) = some (record { takes = replicate n.operands n.kind; gives = n.result })

-- so many numbers from one on
abbrev pub upward : ℕ → ℕ → List ℕ
upward i zero = []
upward i (suc n) = i ∷ upward (suc i) n

abbrev pub codes : List Code
codes =
    code 0x45 (i32 ∷ []) i32  -- i32.eqz
    ∷ code 0x46 (i32 ∷ i32 ∷ []) i32  -- i32.eq
    ∷ code 0x47 (i32 ∷ i32 ∷ []) i32  -- i32.ne
    ∷ code 0x48 (i32 ∷ i32 ∷ []) i32  -- i32.lt_s
    ∷ code 0x49 (i32 ∷ i32 ∷ []) i32  -- i32.lt_u
    ∷ code 0x4A (i32 ∷ i32 ∷ []) i32  -- i32.gt_s
    ∷ code 0x4B (i32 ∷ i32 ∷ []) i32  -- i32.gt_u
    ∷ code 0x4C (i32 ∷ i32 ∷ []) i32  -- i32.le_s
    ∷ code 0x4D (i32 ∷ i32 ∷ []) i32  -- i32.le_u
    ∷ code 0x4E (i32 ∷ i32 ∷ []) i32  -- i32.ge_s
    ∷ code 0x4F (i32 ∷ i32 ∷ []) i32  -- i32.ge_u
    ∷ code 0x50 (i64 ∷ []) i32  -- i64.eqz
    ∷ code 0x51 (i64 ∷ i64 ∷ []) i32  -- i64.eq
    ∷ code 0x52 (i64 ∷ i64 ∷ []) i32  -- i64.ne
    ∷ code 0x53 (i64 ∷ i64 ∷ []) i32  -- i64.lt_s
    ∷ code 0x54 (i64 ∷ i64 ∷ []) i32  -- i64.lt_u
    ∷ code 0x55 (i64 ∷ i64 ∷ []) i32  -- i64.gt_s
    ∷ code 0x56 (i64 ∷ i64 ∷ []) i32  -- i64.gt_u
    ∷ code 0x57 (i64 ∷ i64 ∷ []) i32  -- i64.le_s
    ∷ code 0x58 (i64 ∷ i64 ∷ []) i32  -- i64.le_u
    ∷ code 0x59 (i64 ∷ i64 ∷ []) i32  -- i64.ge_s
    ∷ code 0x5A (i64 ∷ i64 ∷ []) i32  -- i64.ge_u
    ∷ code 0x5B (f32 ∷ f32 ∷ []) i32  -- f32.eq
    ∷ code 0x5C (f32 ∷ f32 ∷ []) i32  -- f32.ne
    ∷ code 0x5D (f32 ∷ f32 ∷ []) i32  -- f32.lt
    ∷ code 0x5E (f32 ∷ f32 ∷ []) i32  -- f32.gt
    ∷ code 0x5F (f32 ∷ f32 ∷ []) i32  -- f32.le
    ∷ code 0x60 (f32 ∷ f32 ∷ []) i32  -- f32.ge
    ∷ code 0x61 (f64 ∷ f64 ∷ []) i32  -- f64.eq
    ∷ code 0x62 (f64 ∷ f64 ∷ []) i32  -- f64.ne
    ∷ code 0x63 (f64 ∷ f64 ∷ []) i32  -- f64.lt
    ∷ code 0x64 (f64 ∷ f64 ∷ []) i32  -- f64.gt
    ∷ code 0x65 (f64 ∷ f64 ∷ []) i32  -- f64.le
    ∷ code 0x66 (f64 ∷ f64 ∷ []) i32  -- f64.ge
    ∷ code 0x67 (i32 ∷ []) i32  -- i32.clz
    ∷ code 0x68 (i32 ∷ []) i32  -- i32.ctz
    ∷ code 0x69 (i32 ∷ []) i32  -- i32.popcnt
    ∷ code 0x6A (i32 ∷ i32 ∷ []) i32  -- i32.add
    ∷ code 0x6B (i32 ∷ i32 ∷ []) i32  -- i32.sub
    ∷ code 0x6C (i32 ∷ i32 ∷ []) i32  -- i32.mul
    ∷ code 0x6D (i32 ∷ i32 ∷ []) i32  -- i32.div_s
    ∷ code 0x6E (i32 ∷ i32 ∷ []) i32  -- i32.div_u
    ∷ code 0x6F (i32 ∷ i32 ∷ []) i32  -- i32.rem_s
    ∷ code 0x70 (i32 ∷ i32 ∷ []) i32  -- i32.rem_u
    ∷ code 0x71 (i32 ∷ i32 ∷ []) i32  -- i32.and
    ∷ code 0x72 (i32 ∷ i32 ∷ []) i32  -- i32.or
    ∷ code 0x73 (i32 ∷ i32 ∷ []) i32  -- i32.xor
    ∷ code 0x74 (i32 ∷ i32 ∷ []) i32  -- i32.shl
    ∷ code 0x75 (i32 ∷ i32 ∷ []) i32  -- i32.shr_s
    ∷ code 0x76 (i32 ∷ i32 ∷ []) i32  -- i32.shr_u
    ∷ code 0x77 (i32 ∷ i32 ∷ []) i32  -- i32.rotl
    ∷ code 0x78 (i32 ∷ i32 ∷ []) i32  -- i32.rotr
    ∷ code 0x79 (i64 ∷ []) i64  -- i64.clz
    ∷ code 0x7A (i64 ∷ []) i64  -- i64.ctz
    ∷ code 0x7B (i64 ∷ []) i64  -- i64.popcnt
    ∷ code 0x7C (i64 ∷ i64 ∷ []) i64  -- i64.add
    ∷ code 0x7D (i64 ∷ i64 ∷ []) i64  -- i64.sub
    ∷ code 0x7E (i64 ∷ i64 ∷ []) i64  -- i64.mul
    ∷ code 0x7F (i64 ∷ i64 ∷ []) i64  -- i64.div_s
    ∷ code 0x80 (i64 ∷ i64 ∷ []) i64  -- i64.div_u
    ∷ code 0x81 (i64 ∷ i64 ∷ []) i64  -- i64.rem_s
    ∷ code 0x82 (i64 ∷ i64 ∷ []) i64  -- i64.rem_u
    ∷ code 0x83 (i64 ∷ i64 ∷ []) i64  -- i64.and
    ∷ code 0x84 (i64 ∷ i64 ∷ []) i64  -- i64.or
    ∷ code 0x85 (i64 ∷ i64 ∷ []) i64  -- i64.xor
    ∷ code 0x86 (i64 ∷ i64 ∷ []) i64  -- i64.shl
    ∷ code 0x87 (i64 ∷ i64 ∷ []) i64  -- i64.shr_s
    ∷ code 0x88 (i64 ∷ i64 ∷ []) i64  -- i64.shr_u
    ∷ code 0x89 (i64 ∷ i64 ∷ []) i64  -- i64.rotl
    ∷ code 0x8A (i64 ∷ i64 ∷ []) i64  -- i64.rotr
    ∷ code 0x8B (f32 ∷ []) f32  -- f32.abs
    ∷ code 0x8C (f32 ∷ []) f32  -- f32.neg
    ∷ code 0x8D (f32 ∷ []) f32  -- f32.ceil
    ∷ code 0x8E (f32 ∷ []) f32  -- f32.floor
    ∷ code 0x8F (f32 ∷ []) f32  -- f32.trunc
    ∷ code 0x90 (f32 ∷ []) f32  -- f32.nearest
    ∷ code 0x91 (f32 ∷ []) f32  -- f32.sqrt
    ∷ code 0x92 (f32 ∷ f32 ∷ []) f32  -- f32.add
    ∷ code 0x93 (f32 ∷ f32 ∷ []) f32  -- f32.sub
    ∷ code 0x94 (f32 ∷ f32 ∷ []) f32  -- f32.mul
    ∷ code 0x95 (f32 ∷ f32 ∷ []) f32  -- f32.div
    ∷ code 0x96 (f32 ∷ f32 ∷ []) f32  -- f32.min
    ∷ code 0x97 (f32 ∷ f32 ∷ []) f32  -- f32.max
    ∷ code 0x98 (f32 ∷ f32 ∷ []) f32  -- f32.copysign
    ∷ code 0x99 (f64 ∷ []) f64  -- f64.abs
    ∷ code 0x9A (f64 ∷ []) f64  -- f64.neg
    ∷ code 0x9B (f64 ∷ []) f64  -- f64.ceil
    ∷ code 0x9C (f64 ∷ []) f64  -- f64.floor
    ∷ code 0x9D (f64 ∷ []) f64  -- f64.trunc
    ∷ code 0x9E (f64 ∷ []) f64  -- f64.nearest
    ∷ code 0x9F (f64 ∷ []) f64  -- f64.sqrt
    ∷ code 0xA0 (f64 ∷ f64 ∷ []) f64  -- f64.add
    ∷ code 0xA1 (f64 ∷ f64 ∷ []) f64  -- f64.sub
    ∷ code 0xA2 (f64 ∷ f64 ∷ []) f64  -- f64.mul
    ∷ code 0xA3 (f64 ∷ f64 ∷ []) f64  -- f64.div
    ∷ code 0xA4 (f64 ∷ f64 ∷ []) f64  -- f64.min
    ∷ code 0xA5 (f64 ∷ f64 ∷ []) f64  -- f64.max
    ∷ code 0xA6 (f64 ∷ f64 ∷ []) f64  -- f64.copysign
    ∷ code 0xA7 (i64 ∷ []) i32  -- i32.wrap_i64
    ∷ code 0xA8 (f32 ∷ []) i32  -- i32.trunc_f32_s
    ∷ code 0xA9 (f32 ∷ []) i32  -- i32.trunc_f32_u
    ∷ code 0xAA (f64 ∷ []) i32  -- i32.trunc_f64_s
    ∷ code 0xAB (f64 ∷ []) i32  -- i32.trunc_f64_u
    ∷ code 0xAC (i32 ∷ []) i64  -- i64.extend_i32_s
    ∷ code 0xAD (i32 ∷ []) i64  -- i64.extend_i32_u
    ∷ code 0xAE (f32 ∷ []) i64  -- i64.trunc_f32_s
    ∷ code 0xAF (f32 ∷ []) i64  -- i64.trunc_f32_u
    ∷ code 0xB0 (f64 ∷ []) i64  -- i64.trunc_f64_s
    ∷ code 0xB1 (f64 ∷ []) i64  -- i64.trunc_f64_u
    ∷ code 0xB2 (i32 ∷ []) f32  -- f32.convert_i32_s
    ∷ code 0xB3 (i32 ∷ []) f32  -- f32.convert_i32_u
    ∷ code 0xB4 (i64 ∷ []) f32  -- f32.convert_i64_s
    ∷ code 0xB5 (i64 ∷ []) f32  -- f32.convert_i64_u
    ∷ code 0xB6 (f64 ∷ []) f32  -- f32.demote_f64
    ∷ code 0xB7 (i32 ∷ []) f64  -- f64.convert_i32_s
    ∷ code 0xB8 (i32 ∷ []) f64  -- f64.convert_i32_u
    ∷ code 0xB9 (i64 ∷ []) f64  -- f64.convert_i64_s
    ∷ code 0xBA (i64 ∷ []) f64  -- f64.convert_i64_u
    ∷ code 0xBB (f32 ∷ []) f64  -- f64.promote_f32
    ∷ code 0xBC (f32 ∷ []) i32  -- i32.reinterpret_f32
    ∷ code 0xBD (f64 ∷ []) i64  -- i64.reinterpret_f64
    ∷ code 0xBE (i32 ∷ []) f32  -- f32.reinterpret_i32
    ∷ code 0xBF (i64 ∷ []) f64  -- f64.reinterpret_i64
    ∷ code 0xC0 (i32 ∷ []) i32  -- i32.extend8_s
    ∷ code 0xC1 (i32 ∷ []) i32  -- i32.extend16_s
    ∷ code 0xC2 (i64 ∷ []) i64  -- i64.extend8_s
    ∷ code 0xC3 (i64 ∷ []) i64  -- i64.extend16_s
    ∷ code 0xC4 (i64 ∷ []) i64  -- i64.extend32_s
    ∷ []

-- one of the list
pub data Among {A : Type 0} (x : A) : List A → Type 0 where
  is_first_lem : {xs : List A} → Among x (x ∷ xs)
  is_later : {y : A} {xs : List A} → Among x xs → Among x (y ∷ xs)

-- this code takes these operands, the last on top, and gives this result
abbrev pub Listed : ℕ → List Number → Number → Type 0
Listed b ks r = Among (code b ks r) codes

-- what every byte says: no numeric code before 45 and after C4
abbrev pub every_byte : List (Option Typed)
every_byte = replicate 0x45 none ++ (map (λ c. some c.typed) codes ++ replicate 0x3B none)
