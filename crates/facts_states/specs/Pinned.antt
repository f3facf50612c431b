-- One state with all that the layout tells apart, every word written out by hand: a local that holds no value, two objects with
-- descriptors, fields of 64 bits and of references, a loop open inside a block, and operands of five kinds in three frames.
use Rattle.std.specs.Prelude.{ℕ, List, [], ◌∷◌}
use Rattle.scope.specs.Memory.{StateWords}

-- type 0: descriptor 1, an i64 and a nullable reference to any, both mutable; type 1: describes 0, an f64; type 2: a function
abbrev pub section : List ℕ
section = 0x02 ∷ 0x4E ∷ 0x02 ∷ 0x4D ∷ 0x01 ∷ 0x5F ∷ 0x02 ∷ 0x7E ∷ 0x01 ∷ 0x6E ∷ 0x01 ∷ 0x4C ∷ 0x00 ∷ 0x5F ∷ 0x01 ∷ 0x7C ∷ 0x00 ∷ 0x60 ∷ 0x00 ∷ 0x00 ∷ []

abbrev pub body : List ℕ
body =
    -- two entries: a (ref 0), which holds no value, and an i64
    0x02 ∷ 0x01 ∷ 0x64 ∷ 0x00 ∷ 0x01 ∷ 0x7E
    -- 6: i64.const 2^32 + 5
    ∷ 0x42 ∷ 0x85 ∷ 0x80 ∷ 0x80 ∷ 0x80 ∷ 0x10
    -- 12: local.set 1
    ∷ 0x21 ∷ 0x01
    -- 14: i64.const 2^32 + 6
    ∷ 0x42 ∷ 0x86 ∷ 0x80 ∷ 0x80 ∷ 0x80 ∷ 0x10
    -- 20: i64.const -2
    ∷ 0x42 ∷ 0x7E
    -- 22: ref.null any
    ∷ 0xD0 ∷ 0x6E
    -- 24: f64.const 1.5
    ∷ 0x44 ∷ 0x00 ∷ 0x00 ∷ 0x00 ∷ 0x00 ∷ 0x00 ∷ 0x00 ∷ 0xF8 ∷ 0x3F
    -- 33: struct.new 1, object 0
    ∷ 0xFB ∷ 0x00 ∷ 0x01
    -- 36: struct.new_desc 0, object 1
    ∷ 0xFB ∷ 0x20 ∷ 0x00
    -- 39: f64.const -0
    ∷ 0x44 ∷ 0x00 ∷ 0x00 ∷ 0x00 ∷ 0x00 ∷ 0x00 ∷ 0x00 ∷ 0x00 ∷ 0x80
    -- 48: struct.new 1, object 2
    ∷ 0xFB ∷ 0x00 ∷ 0x01
    -- 51: struct.new_desc 0, object 3
    ∷ 0xFB ∷ 0x20 ∷ 0x00
    -- 54: block
    ∷ 0x02 ∷ 0x40
    -- 56: i32.const 7
    ∷ 0x41 ∷ 0x07
    -- 58: loop
    ∷ 0x03 ∷ 0x40
    -- 60: i32.const -7
    ∷ 0x41 ∷ 0x79
    -- 62: f32.const, a NaN with sign and payload
    ∷ 0x43 ∷ 0x01 ∷ 0x00 ∷ 0xC0 ∷ 0xFF
    -- 67: drops and ends
    ∷ 0x1A ∷ 0x1A ∷ 0x0B ∷ 0x1A ∷ 0x0B ∷ 0x1A ∷ 0x0B
    ∷ []

-- after 16 steps
abbrev pub words : StateWords
words =
    record {
      -- place 67; 4 objects, 6 cells, 2 locals, 4 operands, 2 open blocks
      counts = 67 ∷ 4 ∷ 6 ∷ 2 ∷ 4 ∷ 2 ∷ [];
      objects =
          -- type 1, no descriptor, cell 0; type 0, descriptor object 0, cells 1 and 2
          1 ∷ 0 ∷ 0 ∷ 1
          ∷ 0 ∷ 1 ∷ 1 ∷ 2
          -- type 1, no descriptor, cell 3; type 0, descriptor object 2, cells 4 and 5
          ∷ 1 ∷ 0 ∷ 3 ∷ 1
          ∷ 0 ∷ 3 ∷ 4 ∷ 2
          ∷ [];
      cells =
          -- f64 1.5; i64 -2, null; f64 -0; i64 2^32 + 6, object 1
          4 ∷ 0x3FF8_0000_0000_0000
          ∷ 2 ∷ 0xFFFF_FFFF_FFFF_FFFE ∷ 5 ∷ 0
          ∷ 4 ∷ 0x8000_0000_0000_0000
          ∷ 2 ∷ 0x1_0000_0006 ∷ 6 ∷ 1
          ∷ [];
      -- no value; i64 2^32 + 5
      locals = 0 ∷ 0 ∷ 2 ∷ 0x1_0000_0005 ∷ [];
      operands =
          -- object 3 below the block, i32 7 below the loop, i32 -7 and the f32 in it
          6 ∷ 3 ∷ 1 ∷ 7 ∷ 1 ∷ 0xFFFF_FFF9 ∷ 3 ∷ 0xFFC0_0001 ∷ [];
      -- a block opened at 54 with 1 operand below it, a loop opened at 58 with 2
      blocks = 1 ∷ 54 ∷ 1 ∷ 2 ∷ 58 ∷ 2 ∷ [];
    }
