-- How lent memory is laid out: how many elements an entry of each buffer has, and the one size of each buffer, in elements, by
-- the sizes of document 01. docs/LAYOUT.md draws it and has the bytes; Memory.antt says what each element holds.
use Rattle.std.specs.Prelude.{ℕ, ◌*◌}
use Rattle.scope.specs.Sizes.{most_bytes, most_types, most_locals, most_operands, most_blocks, most_objects, most_cells}

-- an entry's elements

-- a type's row in the table: a power of two, with words to spare for what later requests keep of a type
abbrev pub row_span : ℕ
row_span = 16

-- a value of a run: its kind and its bits
abbrev pub value_span : ℕ
value_span = 2

-- an object: its type, its descriptor, its first cell, how many cells
abbrev pub object_span : ℕ
object_span = 4

-- an open block: its kind, its place, the operands below it
abbrev pub block_span : ℕ
block_span = 3

-- the buffers' sizes

-- the table, u16: the types' rows; and for each of the two sections the codes of fields, parameters and results, of which each
-- takes a byte at least
abbrev pub rows_size : ℕ
rows_size = most_types * row_span

abbrev pub codes_size : ℕ
codes_size = most_bytes

-- a body's scratch, u32
abbrev pub work_size : ℕ
work_size = 4_096

-- a run's scratch, u16: a place for each byte of the body
abbrev pub ends_size : ℕ
ends_size = most_bytes

-- a run's state: u64 counts, u16 objects, u64 cells, locals and operands, u16 blocks
abbrev pub counts_size : ℕ
counts_size = 6

abbrev pub objects_size : ℕ
objects_size = most_objects * object_span

abbrev pub cells_size : ℕ
cells_size = most_cells * value_span

abbrev pub locals_size : ℕ
locals_size = most_locals * value_span

abbrev pub operands_size : ℕ
operands_size = most_operands * value_span

abbrev pub blocks_size : ℕ
blocks_size = most_blocks * block_span
