-- Which bytes are a writing of which instruction: a constructor for each line of document 01's list, and of request 1 of document 02.
-- Numbers, heap types and value types are those of sections (facts_sections), written without a byte to spare.
use Rattle.std.specs.Prelude.{ℕ, ◌+◌, ◌*◌, ◌≤◌, ◌≡◌, Bool, true, false, List, [], ◌∷◌, ◌++◌, length}
use Rattle.scope.specs.Syntax.{Heap, Val}
use Rattle.scope.specs.Numbers.{Whole, bits32, bits64}
use Rattle.scope.specs.Instructions.{Cast, Op, unreachable, nop, return, drop_value, br, br_if, local_get, local_set, local_tee, i32_const, i64_const, f32_const, f64_const, numeric, ref_null, ref_is_null, ref_eq, ref_as_non_null, struct_new, struct_new_default, struct_get, struct_set, ref_test, ref_cast, br_on_cast, br_on_cast_fail, struct_new_desc, struct_new_default_desc, ref_get_desc, ref_cast_desc_eq, br_on_cast_desc_eq, br_on_cast_desc_eq_fail, Instr, block, loop, end, op}
use Rattle.facts_sections.specs.Writing.{Unsigned, Signed, WritesHeap, WritesVal}

-- "a float's bytes being one item": so many, the lowest first
pub data LowestFirst : List ℕ → ℕ → Type 0 where
  no_byte : LowestFirst [] 0
  low_byte : {b v : ℕ} {w : List ℕ} → LowestFirst w v → LowestFirst (b ∷ w) (b + 256 * v)

pub record FloatBytes (many : ℕ) (w : List ℕ) (v : ℕ) : Type 0 where
  pub bits : LowestFirst w v
  pub long : length w ≡ many

-- "A block has type 40 or one value type."
pub data WritesBlockType : List ℕ → List Val → Type 0 where
  no_result : WritesBlockType (0x40 ∷ []) []
  one_result : {w : List ℕ} {v : Val} → WritesVal w v → WritesBlockType w (v ∷ [])

-- "flags 0 to 3 (bit 0 source null, bit 1 target null)"
pub data Flags : ℕ → Bool → Bool → Type 0 where
  flags_0 : Flags 0 false false
  flags_1 : Flags 1 true false
  flags_2 : Flags 2 false true
  flags_3 : Flags 3 true true

-- "flags .., label, source, target"
pub data WritesCast : List ℕ → Cast → Type 0 where
  a_cast : {b l : ℕ} {source_null target_null : Bool} {w u v : List ℕ} {source target : Heap}
      → Flags b source_null target_null → Unsigned 32 w l → WritesHeap u source → WritesHeap v target
      → WritesCast (b ∷ w ++ (u ++ v)) (record { label = l; source_null = source_null; source = source; target_null = target_null; target = target })

pub data WritesTwo : List ℕ → ℕ → ℕ → Type 0 where
  two_numbers : {w u : List ℕ} {x y : ℕ} → Unsigned 32 w x → Unsigned 32 u y → WritesTwo (w ++ u) x y

-- what follows the first byte
pub data Follows : ℕ → List ℕ → Instr → Type 0 where
  is_unreachable_lem : Follows 0x00 [] (op unreachable)
  is_nop : Follows 0x01 [] (op nop)
  is_end : Follows 0x0B [] end
  is_return : Follows 0x0F [] (op return)
  is_drop : Follows 0x1A [] (op drop_value)
  is_ref_is_null : Follows 0xD1 [] (op ref_is_null)
  is_ref_eq : Follows 0xD3 [] (op ref_eq)
  is_ref_as_non_null : Follows 0xD4 [] (op ref_as_non_null)
  is_block : {w : List ℕ} {rs : List Val} → WritesBlockType w rs → Follows 0x02 w (block rs)
  is_loop : {w : List ℕ} {rs : List Val} → WritesBlockType w rs → Follows 0x03 w (loop rs)
  is_br : {w : List ℕ} {x : ℕ} → Unsigned 32 w x → Follows 0x0C w (op (br x))
  is_br_if : {w : List ℕ} {x : ℕ} → Unsigned 32 w x → Follows 0x0D w (op (br_if x))
  is_local_get : {w : List ℕ} {x : ℕ} → Unsigned 32 w x → Follows 0x20 w (op (local_get x))
  is_local_set : {w : List ℕ} {x : ℕ} → Unsigned 32 w x → Follows 0x21 w (op (local_set x))
  is_local_tee : {w : List ℕ} {x : ℕ} → Unsigned 32 w x → Follows 0x22 w (op (local_tee x))
  is_i32_const : {w : List ℕ} {n : Whole} → Signed 32 w n → Follows 0x41 w (op (i32_const (bits32 n)))
  is_i64_const : {w : List ℕ} {n : Whole} → Signed 64 w n → Follows 0x42 w (op (i64_const (bits64 n)))
  is_f32_const : {w : List ℕ} {n : ℕ} → FloatBytes 4 w n → Follows 0x43 w (op (f32_const n))
  is_f64_const : {w : List ℕ} {n : ℕ} → FloatBytes 8 w n → Follows 0x44 w (op (f64_const n))
  is_ref_null : {w : List ℕ} {h : Heap} → WritesHeap w h → Follows 0xD0 w (op (ref_null h))
  -- "the numeric codes 45 to C4"
  is_numeric_lem : {b : ℕ} → 0x45 ≤ b → b ≤ 0xC4 → Follows b [] (op (numeric b))

-- what follows FB and its number
pub data FollowsFB : ℕ → List ℕ → Instr → Type 0 where
  is_struct_new : {w : List ℕ} {x : ℕ} → Unsigned 32 w x → FollowsFB 0x00 w (op (struct_new x))
  is_struct_new_default : {w : List ℕ} {x : ℕ} → Unsigned 32 w x → FollowsFB 0x01 w (op (struct_new_default x))
  is_struct_new_desc : {w : List ℕ} {x : ℕ} → Unsigned 32 w x → FollowsFB 0x20 w (op (struct_new_desc x))
  is_struct_new_default_desc : {w : List ℕ} {x : ℕ} → Unsigned 32 w x → FollowsFB 0x21 w (op (struct_new_default_desc x))
  is_ref_get_desc : {w : List ℕ} {x : ℕ} → Unsigned 32 w x → FollowsFB 0x22 w (op (ref_get_desc x))
  is_struct_get : {w : List ℕ} {x i : ℕ} → WritesTwo w x i → FollowsFB 0x02 w (op (struct_get x i))
  is_struct_set : {w : List ℕ} {x i : ℕ} → WritesTwo w x i → FollowsFB 0x05 w (op (struct_set x i))
  is_ref_test : {w : List ℕ} {h : Heap} → WritesHeap w h → FollowsFB 0x14 w (op (ref_test false h))
  is_ref_test_null : {w : List ℕ} {h : Heap} → WritesHeap w h → FollowsFB 0x15 w (op (ref_test true h))
  is_ref_cast : {w : List ℕ} {h : Heap} → WritesHeap w h → FollowsFB 0x16 w (op (ref_cast false h))
  is_ref_cast_null : {w : List ℕ} {h : Heap} → WritesHeap w h → FollowsFB 0x17 w (op (ref_cast true h))
  is_ref_cast_desc_eq : {w : List ℕ} {h : Heap} → WritesHeap w h → FollowsFB 0x23 w (op (ref_cast_desc_eq false h))
  is_ref_cast_desc_eq_null : {w : List ℕ} {h : Heap} → WritesHeap w h → FollowsFB 0x24 w (op (ref_cast_desc_eq true h))
  is_br_on_cast : {w : List ℕ} {k : Cast} → WritesCast w k → FollowsFB 0x18 w (op (br_on_cast k))
  is_br_on_cast_fail : {w : List ℕ} {k : Cast} → WritesCast w k → FollowsFB 0x19 w (op (br_on_cast_fail k))
  is_br_on_cast_desc_eq : {w : List ℕ} {k : Cast} → WritesCast w k → FollowsFB 0x25 w (op (br_on_cast_desc_eq k))
  is_br_on_cast_desc_eq_fail : {w : List ℕ} {k : Cast} → WritesCast w k → FollowsFB 0x26 w (op (br_on_cast_desc_eq_fail k))

-- "After FB, a u32 in LEB"
pub data WritesInstruction : List ℕ → Instr → Type 0 where
  by_first_byte : {b : ℕ} {w : List ℕ} {i : Instr} → Follows b w i → WritesInstruction (b ∷ w) i
  after_FB : {n : ℕ} {u w : List ℕ} {i : Instr} → Unsigned 32 u n → FollowsFB n w i → WritesInstruction (0xFB ∷ u ++ w) i
