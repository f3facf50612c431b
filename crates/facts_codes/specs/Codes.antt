-- The codes of document 01's list of instructions and of request 1 of document 02, one by one: these bytes are that instruction,
-- and nothing more. "Flags 0 to 3 (bit 0 source null, bit 1 target null)"; -5 is kept as 32 bits. And bytes that are none: codes
-- that are not listed, and numbers that are cut, out of range or padded.
use Rattle.std.specs.Prelude.{ℕ, ◌≡◌, true, false, List, [], ◌∷◌, ◌++◌, map, length, replicate}
use Rattle.scope.specs.Refusals.{bytes_end, bad_number, not_listed, padded}
use Rattle.scope.specs.Reading.{Read, got, refused}
use Rattle.scope.specs.Abstract.{ANY, EQ}
use Rattle.scope.specs.Syntax.{abstract, defined, exact, i64, num, nullable}
use Rattle.scope.specs.Instructions.{Instr, block, loop, end, op, unreachable, nop, return, drop_value, br, br_if, local_get, local_set, local_tee, i32_const, i64_const, f32_const, f64_const, numeric, ref_null, ref_is_null, ref_eq, ref_as_non_null, struct_new, struct_new_default, struct_get, struct_set, ref_test, ref_cast, br_on_cast, br_on_cast_fail, struct_new_desc, struct_new_default_desc, ref_get_desc, ref_cast_desc_eq, br_on_cast_desc_eq, br_on_cast_desc_eq_fail, instr_at}
use Rattle.facts_codes.specs.Numeric.{upward}

pub record Row : Type 0 where
  pub bytes : List ℕ
  pub instruction : Instr

-- each is read from its bytes, to their end
pub data AllRead : List Row → Type 0 where
  none_left_lem : AllRead []
  also_read : {r : Row} {more : List Row} → instr_at r.bytes 0 ≡ got r.instruction (length r.bytes) → AllRead more → AllRead (r ∷ more)

abbrev pub listed : List Row
listed =
    record { bytes = 0x00 ∷ []; instruction = op unreachable }
    ∷ record { bytes = 0x01 ∷ []; instruction = op nop }
    ∷ record { bytes = 0x02 ∷ 0x40 ∷ []; instruction = block [] }
    ∷ record { bytes = 0x02 ∷ 0x7E ∷ []; instruction = block (num i64 ∷ []) }
    ∷ record { bytes = 0x03 ∷ 0x40 ∷ []; instruction = loop [] }
    ∷ record { bytes = 0x03 ∷ 0x63 ∷ 0x05 ∷ []; instruction = loop (nullable (defined 5) ∷ []) }
    ∷ record { bytes = 0x0B ∷ []; instruction = end }
    ∷ record { bytes = 0x0C ∷ 0x03 ∷ []; instruction = op (br 3) }
    ∷ record { bytes = 0x0D ∷ 0x03 ∷ []; instruction = op (br_if 3) }
    ∷ record { bytes = 0x0F ∷ []; instruction = op return }
    ∷ record { bytes = 0x1A ∷ []; instruction = op drop_value }
    ∷ record { bytes = 0x20 ∷ 0x04 ∷ []; instruction = op (local_get 4) }
    ∷ record { bytes = 0x21 ∷ 0x04 ∷ []; instruction = op (local_set 4) }
    ∷ record { bytes = 0x22 ∷ 0x04 ∷ []; instruction = op (local_tee 4) }
    ∷ record { bytes = 0x41 ∷ 0x05 ∷ []; instruction = op (i32_const 5) }
    ∷ record { bytes = 0x41 ∷ 0x7B ∷ []; instruction = op (i32_const 4_294_967_291) }
    ∷ record { bytes = 0x41 ∷ 0x80 ∷ 0x80 ∷ 0x80 ∷ 0x80 ∷ 0x78 ∷ []; instruction = op (i32_const 2_147_483_648) }
    -- as many bytes as each needs: 127 and -128, 64 and -65 two; the greatest i64 of nine bytes, and the next, of ten
    ∷ record { bytes = 0x41 ∷ 0xFF ∷ 0x00 ∷ []; instruction = op (i32_const 127) }
    ∷ record { bytes = 0x41 ∷ 0x80 ∷ 0x7F ∷ []; instruction = op (i32_const 0xFFFF_FF80) }
    ∷ record { bytes = 0x41 ∷ 0xC0 ∷ 0x00 ∷ []; instruction = op (i32_const 64) }
    ∷ record { bytes = 0x41 ∷ 0xBF ∷ 0x7F ∷ []; instruction = op (i32_const 0xFFFF_FFBF) }
    ∷ record { bytes = 0x42 ∷ 0xFF ∷ 0xFF ∷ 0xFF ∷ 0xFF ∷ 0xFF ∷ 0xFF ∷ 0xFF ∷ 0xFF ∷ 0x3F ∷ []; instruction = op (i64_const 0x3FFF_FFFF_FFFF_FFFF) }
    ∷ record { bytes = 0x42 ∷ 0x80 ∷ 0x80 ∷ 0x80 ∷ 0x80 ∷ 0x80 ∷ 0x80 ∷ 0x80 ∷ 0x80 ∷ 0xC0 ∷ 0x00 ∷ []; instruction = op (i64_const 0x4000_0000_0000_0000) }
    ∷ record { bytes = 0x42 ∷ 0x05 ∷ []; instruction = op (i64_const 5) }
    ∷ record { bytes = 0x42 ∷ 0x7B ∷ []; instruction = op (i64_const 18_446_744_073_709_551_611) }
    -- ten bytes: the least i64
    ∷ record { bytes = 0x42 ∷ 0x80 ∷ 0x80 ∷ 0x80 ∷ 0x80 ∷ 0x80 ∷ 0x80 ∷ 0x80 ∷ 0x80 ∷ 0x80 ∷ 0x7F ∷ []; instruction = op (i64_const 9_223_372_036_854_775_808) }
    -- the lowest byte first
    ∷ record { bytes = 0x43 ∷ 0x01 ∷ 0x00 ∷ 0xC0 ∷ 0xFF ∷ []; instruction = op (f32_const 0xFFC0_0001) }
    ∷ record { bytes = 0x44 ∷ 0x08 ∷ 0x07 ∷ 0x06 ∷ 0x05 ∷ 0x04 ∷ 0x03 ∷ 0x02 ∷ 0x01 ∷ []; instruction = op (f64_const 0x0102_0304_0506_0708) }
    ∷ record { bytes = 0xD0 ∷ 0x6E ∷ []; instruction = op (ref_null (abstract ANY)) }
    ∷ record { bytes = 0xD0 ∷ 0x62 ∷ 0x07 ∷ []; instruction = op (ref_null (exact 7)) }
    ∷ record { bytes = 0xD1 ∷ []; instruction = op ref_is_null }
    ∷ record { bytes = 0xD3 ∷ []; instruction = op ref_eq }
    ∷ record { bytes = 0xD4 ∷ []; instruction = op ref_as_non_null }
    ∷ record { bytes = 0xFB ∷ 0x00 ∷ 0x02 ∷ []; instruction = op (struct_new 2) }
    ∷ record { bytes = 0xFB ∷ 0x01 ∷ 0x02 ∷ []; instruction = op (struct_new_default 2) }
    ∷ record { bytes = 0xFB ∷ 0x02 ∷ 0x02 ∷ 0x09 ∷ []; instruction = op (struct_get 2 9) }
    ∷ record { bytes = 0xFB ∷ 0x05 ∷ 0x02 ∷ 0x09 ∷ []; instruction = op (struct_set 2 9) }
    ∷ record { bytes = 0xFB ∷ 0x14 ∷ 0x03 ∷ []; instruction = op (ref_test false (defined 3)) }
    ∷ record { bytes = 0xFB ∷ 0x15 ∷ 0x03 ∷ []; instruction = op (ref_test true (defined 3)) }
    ∷ record { bytes = 0xFB ∷ 0x16 ∷ 0x03 ∷ []; instruction = op (ref_cast false (defined 3)) }
    ∷ record { bytes = 0xFB ∷ 0x17 ∷ 0x03 ∷ []; instruction = op (ref_cast true (defined 3)) }
    ∷ record { bytes = 0xFB ∷ 0x18 ∷ 0x00 ∷ 0x01 ∷ 0x6D ∷ 0x62 ∷ 0x03 ∷ []; instruction = op (br_on_cast (record { label = 1; source_null = false; source = abstract EQ; target_null = false; target = exact 3 })) }
    ∷ record { bytes = 0xFB ∷ 0x19 ∷ 0x01 ∷ 0x01 ∷ 0x6D ∷ 0x62 ∷ 0x03 ∷ []; instruction = op (br_on_cast_fail (record { label = 1; source_null = true; source = abstract EQ; target_null = false; target = exact 3 })) }
    ∷ record { bytes = 0xFB ∷ 0x25 ∷ 0x02 ∷ 0x01 ∷ 0x6D ∷ 0x62 ∷ 0x03 ∷ []; instruction = op (br_on_cast_desc_eq (record { label = 1; source_null = false; source = abstract EQ; target_null = true; target = exact 3 })) }
    ∷ record { bytes = 0xFB ∷ 0x26 ∷ 0x03 ∷ 0x01 ∷ 0x6D ∷ 0x62 ∷ 0x03 ∷ []; instruction = op (br_on_cast_desc_eq_fail (record { label = 1; source_null = true; source = abstract EQ; target_null = true; target = exact 3 })) }
    ∷ record { bytes = 0xFB ∷ 0x20 ∷ 0x02 ∷ []; instruction = op (struct_new_desc 2) }
    ∷ record { bytes = 0xFB ∷ 0x21 ∷ 0x02 ∷ []; instruction = op (struct_new_default_desc 2) }
    ∷ record { bytes = 0xFB ∷ 0x22 ∷ 0x02 ∷ []; instruction = op (ref_get_desc 2) }
    ∷ record { bytes = 0xFB ∷ 0x23 ∷ 0x62 ∷ 0x03 ∷ []; instruction = op (ref_cast_desc_eq false (exact 3)) }
    ∷ record { bytes = 0xFB ∷ 0x24 ∷ 0x62 ∷ 0x03 ∷ []; instruction = op (ref_cast_desc_eq true (exact 3)) }
    ∷ []

-- the numeric codes 45 to C4, each by itself
abbrev pub numeric_read : List (Read Instr)
numeric_read = map (λ b. got (op (numeric b)) 1) (upward 0x45 128)

-- the first bytes that are not listed: C5 on and FC among them
abbrev pub unlisted : List ℕ
unlisted = upward 0x04 7 ++ 0x0E ∷ upward 0x10 10 ++ upward 0x1B 5 ++ upward 0x23 30 ++ upward 0xC5 11 ++ 0xD2 ∷ upward 0xD5 38 ++ upward 0xFC 4

-- FB and each number of one byte, and nothing more: the number's code is not listed, or its first immediate is missing
abbrev pub numbers_fb : List (Read Instr)
numbers_fb =
    -- 00 to 02, 05
    replicate 3 (refused bytes_end 2)
    ++ replicate 2 (refused not_listed 1)
    ++ refused bytes_end 2
    -- 14 to 19
    ∷ replicate 14 (refused not_listed 1)
    ++ replicate 6 (refused bytes_end 2)
    -- 20 to 26
    ++ replicate 6 (refused not_listed 1)
    ++ replicate 7 (refused bytes_end 2)
    ++ replicate 0x59 (refused not_listed 1)

-- and each from 128 to 255, of two bytes
abbrev pub two_bytes_fb : List (Read Instr)
two_bytes_fb = replicate 128 (refused not_listed 1)

pub record No : Type 0 where
  pub bytes : List ℕ
  pub says : Read Instr

abbrev pub faulty : List No
faulty =
    -- "a float's bytes being one item": 1 at the first of them, though the second, the fourth or the eighth is missing
    record { bytes = 0x43 ∷ []; says = refused bytes_end 1 }
    ∷ record { bytes = 0x43 ∷ 0x00 ∷ []; says = refused bytes_end 1 }
    ∷ record { bytes = 0x43 ∷ 0x00 ∷ 0x00 ∷ 0x80 ∷ []; says = refused bytes_end 1 }
    ∷ record { bytes = 0x44 ∷ 0x00 ∷ 0x00 ∷ 0x00 ∷ 0x00 ∷ 0x00 ∷ 0x00 ∷ 0xF0 ∷ []; says = refused bytes_end 1 }
    -- of an i64's tenth byte only 00 and 7F are in range; an eleventh is too many; nine that go on are cut
    ∷ record { bytes = 0x42 ∷ 0x80 ∷ 0x80 ∷ 0x80 ∷ 0x80 ∷ 0x80 ∷ 0x80 ∷ 0x80 ∷ 0x80 ∷ 0x80 ∷ 0x01 ∷ []; says = refused bad_number 1 }
    ∷ record { bytes = 0x42 ∷ 0x80 ∷ 0x80 ∷ 0x80 ∷ 0x80 ∷ 0x80 ∷ 0x80 ∷ 0x80 ∷ 0x80 ∷ 0x80 ∷ 0x80 ∷ 0x00 ∷ []; says = refused bad_number 1 }
    ∷ record { bytes = 0x42 ∷ 0x80 ∷ 0x80 ∷ 0x80 ∷ 0x80 ∷ 0x80 ∷ 0x80 ∷ 0x80 ∷ 0x80 ∷ 0x80 ∷ []; says = refused bytes_end 1 }
    -- request 10, "any LEB number with more bytes than it needs": the FB number, listed or not, a label, a local, a type's number and
    -- a field's, a heap type, and each before what stands behind it
    ∷ record { bytes = 0xFB ∷ 0x94 ∷ 0x00 ∷ 0x03 ∷ []; says = refused padded 1 }
    ∷ record { bytes = 0xFB ∷ 0x90 ∷ 0x00 ∷ []; says = refused padded 1 }
    ∷ record { bytes = 0x0C ∷ 0x80 ∷ 0x00 ∷ []; says = refused padded 1 }
    ∷ record { bytes = 0x0D ∷ 0x80 ∷ 0x00 ∷ []; says = refused padded 1 }
    ∷ record { bytes = 0x20 ∷ 0xFF ∷ 0x00 ∷ []; says = refused padded 1 }
    ∷ record { bytes = 0x21 ∷ 0xFF ∷ 0x00 ∷ []; says = refused padded 1 }
    ∷ record { bytes = 0x22 ∷ 0xFF ∷ 0x80 ∷ 0x00 ∷ []; says = refused padded 1 }
    ∷ record { bytes = 0xD0 ∷ 0xBF ∷ 0x00 ∷ []; says = refused padded 1 }
    ∷ record { bytes = 0xD0 ∷ 0x62 ∷ 0xFF ∷ 0x00 ∷ []; says = refused padded 2 }
    ∷ record { bytes = 0xFB ∷ 0x02 ∷ 0x80 ∷ 0x00 ∷ 0x80 ∷ 0x00 ∷ []; says = refused padded 2 }
    ∷ record { bytes = 0xFB ∷ 0x02 ∷ 0x00 ∷ 0x80 ∷ 0x00 ∷ []; says = refused padded 3 }
    ∷ record { bytes = 0xFB ∷ 0x18 ∷ 0x00 ∷ 0x81 ∷ 0x00 ∷ []; says = refused padded 3 }
    ∷ record { bytes = 0xFB ∷ 0x18 ∷ 0x00 ∷ 0x01 ∷ 0x81 ∷ 0x00 ∷ []; says = refused padded 4 }
    ∷ record { bytes = 0xFB ∷ 0x18 ∷ 0x00 ∷ 0x01 ∷ 0x6D ∷ 0x81 ∷ 0x00 ∷ []; says = refused padded 5 }
    ∷ record { bytes = 0x02 ∷ 0x63 ∷ 0x81 ∷ 0x00 ∷ []; says = refused padded 2 }
    -- constants: 0 and -1 do not need two bytes, nor 63 and -64; an i64 of ten bytes may not need the tenth, whose bits are in
    -- range; a number that is out of range or cut is told so first
    ∷ record { bytes = 0x41 ∷ 0x80 ∷ 0x00 ∷ []; says = refused padded 1 }
    ∷ record { bytes = 0x41 ∷ 0xFF ∷ 0x7F ∷ []; says = refused padded 1 }
    ∷ record { bytes = 0x41 ∷ 0xBF ∷ 0x00 ∷ []; says = refused padded 1 }
    ∷ record { bytes = 0x41 ∷ 0xC0 ∷ 0x7F ∷ []; says = refused padded 1 }
    ∷ record { bytes = 0x42 ∷ 0x80 ∷ 0x00 ∷ []; says = refused padded 1 }
    ∷ record { bytes = 0x42 ∷ 0xFF ∷ 0xFF ∷ 0xFF ∷ 0xFF ∷ 0xFF ∷ 0xFF ∷ 0xFF ∷ 0xFF ∷ 0xBF ∷ 0x00 ∷ []; says = refused padded 1 }
    ∷ record { bytes = 0x42 ∷ 0x80 ∷ 0x80 ∷ 0x80 ∷ 0x80 ∷ 0x80 ∷ 0x80 ∷ 0x80 ∷ 0x80 ∷ 0xC0 ∷ 0x7F ∷ []; says = refused padded 1 }
    ∷ record { bytes = 0x41 ∷ 0x80 ∷ 0x80 ∷ 0x80 ∷ 0x80 ∷ 0x80 ∷ 0x00 ∷ []; says = refused bad_number 1 }
    ∷ record { bytes = 0x41 ∷ 0x80 ∷ 0x80 ∷ []; says = refused bytes_end 1 }
    -- "flags 0 to 3": a code byte of its own, said before the label is read, in each of the four
    ∷ record { bytes = 0xFB ∷ 0x18 ∷ 0x04 ∷ 0x80 ∷ []; says = refused not_listed 2 }
    ∷ record { bytes = 0xFB ∷ 0x19 ∷ 0x05 ∷ 0x01 ∷ 0x6D ∷ 0x6D ∷ []; says = refused not_listed 2 }
    ∷ record { bytes = 0xFB ∷ 0x25 ∷ 0x06 ∷ 0x01 ∷ 0x6D ∷ 0x62 ∷ 0x03 ∷ []; says = refused not_listed 2 }
    ∷ record { bytes = 0xFB ∷ 0x26 ∷ 0x07 ∷ 0x01 ∷ 0x6D ∷ 0x62 ∷ 0x03 ∷ []; says = refused not_listed 2 }
    ∷ record { bytes = 0xFB ∷ 0x18 ∷ []; says = refused bytes_end 2 }
    -- a block's type, a heap type that is negative and no abstract code, and the number after 62
    ∷ record { bytes = 0x02 ∷ 0x00 ∷ []; says = refused not_listed 1 }
    ∷ record { bytes = 0x03 ∷ []; says = refused bytes_end 1 }
    ∷ record { bytes = 0x02 ∷ 0x63 ∷ 0x69 ∷ []; says = refused not_listed 2 }
    ∷ record { bytes = 0xD0 ∷ 0x69 ∷ []; says = refused not_listed 1 }
    ∷ record { bytes = 0xD0 ∷ 0x62 ∷ []; says = refused bytes_end 2 }
    ∷ record { bytes = 0xFB ∷ 0x14 ∷ 0x74 ∷ []; says = refused not_listed 2 }
    -- each label, source and target at its own first byte
    ∷ record { bytes = 0xFB ∷ 0x18 ∷ 0x00 ∷ []; says = refused bytes_end 3 }
    ∷ record { bytes = 0xFB ∷ 0x18 ∷ 0x00 ∷ 0x01 ∷ 0x69 ∷ 0x6D ∷ []; says = refused not_listed 4 }
    ∷ record { bytes = 0xFB ∷ 0x18 ∷ 0x00 ∷ 0x01 ∷ 0x6D ∷ 0x69 ∷ []; says = refused not_listed 5 }
    -- the range ends at C4, and FC begins no instruction
    ∷ record { bytes = 0xC5 ∷ []; says = refused not_listed 0 }
    ∷ record { bytes = 0xFC ∷ 0x00 ∷ []; says = refused not_listed 0 }
    ∷ []
