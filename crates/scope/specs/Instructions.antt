-- The instructions that document 01 lists, with those of request 1 of document 02, their immediates, and how they are read.
use Rattle.std.specs.Prelude.{ℕ, ◌+◌, ◌%◌, Bool, true, false, cond, List, [], ◌∷◌, eqb, ltb, leb}
use Rattle.std.proofs.Math.Option.{Option, none, some}
use Rattle.scope.specs.Refusals.{not_listed}
use Rattle.scope.specs.Reading.{got, refused, Reader, given, then, on_byte}
use Rattle.scope.specs.Numbers.{bits32, bits64, u32, s32, s64, float32, float64}
use Rattle.scope.specs.Syntax.{Heap, Val}
use Rattle.scope.specs.Sections.{heap_at, val_at}
use Rattle.scope.specs.Numeric.{numeric_of}

-- A branching cast: flags 0 to 3 (bit 0 source null, bit 1 target null), label, source, target
pub record Cast : Type 0 where
  pub label : ℕ
  pub source_null : Bool
  pub source : Heap
  pub target_null : Bool
  pub target : Heap

-- what an instruction does inside its block. A flag says "null" where an instruction has both forms.
pub data Op : Type 0 where
  unreachable nop return drop_value : Op
  br br_if : ℕ → Op
  local_get local_set local_tee : ℕ → Op
  -- by the bits
  i32_const i64_const f32_const f64_const : ℕ → Op
  -- by the code, 45 to C4
  numeric : ℕ → Op
  ref_null : Heap → Op
  ref_is_null ref_eq ref_as_non_null : Op
  struct_new struct_new_default : ℕ → Op
  struct_get struct_set : ℕ → ℕ → Op
  ref_test ref_cast : Bool → Heap → Op
  br_on_cast br_on_cast_fail : Cast → Op
  struct_new_desc struct_new_default_desc : ℕ → Op
  ref_get_desc : ℕ → Op
  ref_cast_desc_eq : Bool → Heap → Op
  br_on_cast_desc_eq br_on_cast_desc_eq_fail : Cast → Op

-- A block's type is the list of its results: none, or one value type.
pub data Instr : Type 0 where
  block loop : List Val → Instr
  end : Instr
  op : Op → Instr

-- immediates

abbrev pub bare : Op → Reader Instr
bare o s at = got (op o) at

abbrev pub having : {A : Type 0} → Reader A → (A → Op) → Reader Instr
having one make s at = then (one s at) (λ x next. got (op (make x)) next)

abbrev pub having_two : (ℕ → ℕ → Op) → Reader Instr
having_two make s at = then (u32 s at) (λ x next. then (u32 s next) (λ y stop. got (op (make x y)) stop))

-- "A block has type 40 or one value type."
unfoldable pub block_type_at : Reader (List Val)
block_type_at s at =
    on_byte s at (λ b.
    let one = then (val_at s at) (λ v next. got (v ∷ []) next) in
    cond (eqb b 0x40) (got [] (at + 1)) one)

unfoldable pub cast_at : Reader Cast
cast_at s at =
    on_byte s at (λ flags.
    let cast =
    then (u32 s (at + 1)) (λ l next.
    then (heap_at s next) (λ h after.
    then (heap_at s after) (λ k stop.
    got (record { label = l; source_null = eqb (flags % 2) 1; source = h; target_null = leb 2 flags; target = k }) stop))) in
    cond (ltb flags 4) cast (refused not_listed at))

abbrev pub opening : (List Val → Instr) → Reader Instr
opening make s at = then (block_type_at s at) (λ rs next. got (make rs) next)

abbrev pub closing : Reader Instr
closing s at = got end at

-- the codes

abbrev pub first_bytes : List (ℕ × Reader Instr)
first_bytes =
    (0x00, bare unreachable)
    ∷ (0x01, bare nop)
    ∷ (0x02, opening block)
    ∷ (0x03, opening loop)
    ∷ (0x0B, closing)
    ∷ (0x0C, having u32 br)
    ∷ (0x0D, having u32 br_if)
    ∷ (0x0F, bare return)
    ∷ (0x1A, bare drop_value)
    ∷ (0x20, having u32 local_get)
    ∷ (0x21, having u32 local_set)
    ∷ (0x22, having u32 local_tee)
    ∷ (0x41, having s32 (λ n. i32_const (bits32 n)))
    ∷ (0x42, having s64 (λ n. i64_const (bits64 n)))
    ∷ (0x43, having float32 f32_const)
    ∷ (0x44, having float64 f64_const)
    ∷ (0xD0, having heap_at ref_null)
    ∷ (0xD1, bare ref_is_null)
    ∷ (0xD3, bare ref_eq)
    ∷ (0xD4, bare ref_as_non_null)
    ∷ []

-- after FB, a u32 in LEB
abbrev pub after_fb : List (ℕ × Reader Instr)
after_fb =
    (0x00, having u32 struct_new)
    ∷ (0x01, having u32 struct_new_default)
    ∷ (0x02, having_two struct_get)
    ∷ (0x05, having_two struct_set)
    ∷ (0x14, having heap_at (ref_test false))
    ∷ (0x15, having heap_at (ref_test true))
    ∷ (0x16, having heap_at (ref_cast false))
    ∷ (0x17, having heap_at (ref_cast true))
    ∷ (0x18, having cast_at br_on_cast)
    ∷ (0x19, having cast_at br_on_cast_fail)
    ∷ (0x20, having u32 struct_new_desc)
    ∷ (0x21, having u32 struct_new_default_desc)
    ∷ (0x22, having u32 ref_get_desc)
    ∷ (0x23, having heap_at (ref_cast_desc_eq false))
    ∷ (0x24, having heap_at (ref_cast_desc_eq true))
    ∷ (0x25, having cast_at br_on_cast_desc_eq)
    ∷ (0x26, having cast_at br_on_cast_desc_eq_fail)
    ∷ []

abbrev pub find : {A : Type 0} → ℕ → List (ℕ × A) → Option A
find b [] = none
find b (r ∷ more) = let later = find b more in cond (eqb b r.0) (some r.1) later

-- "the numeric codes 45 to C4": a code alone. 3: byte or FB number not listed, at its first byte
unfoldable pub instr_at : Reader Instr
instr_at s at =
    on_byte s at (λ b.
    let prefixed = then (u32 s (at + 1)) (λ n next. given (find n after_fb) (refused not_listed (at + 1)) (λ r. r s next)) in
    let arithmetic = given (numeric_of b) (refused not_listed at) (λ kinds. bare (numeric b) s (at + 1)) in
    let single = given (find b first_bytes) arithmetic (λ r. r s (at + 1)) in
    cond (eqb b 0xFB) prefixed single)
