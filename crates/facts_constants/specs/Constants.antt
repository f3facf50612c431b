-- The numbers of document 01 and of the landed requests of document 02, written out beside their names. scope's specs say each by its
-- name and nowhere else by the number; so here it is a second time, from the papers' tables, and no other file has to be read with it.
use Rattle.std.specs.Prelude.{ℕ, ◌*◌, ◌≤◌, ◌≡◌}
use Rattle.scope.specs.Sizes.{most_bytes, most_types, most_each, most_steps, most_locals, most_operands, most_frames, most_blocks, most_budget, most_objects, most_cells}
use Rattle.scope.specs.Layout.{row_span, value_span, object_span, block_span, rows_size, codes_size, work_size, ends_size, counts_size, objects_size, cells_size, locals_size, operands_size, blocks_size}
use Rattle.scope.specs.Refusals.{bytes_end, bad_number, not_listed, oversize, left_over, out_of_reach, bad_supertype, no_match, clause_not_on_struct, describes_not_earlier, clauses_disagree, bad_descriptor, bad_describes, buffer_too_small, bad_operand, absent, not_set, bad_struct, field_fixed, bad_branch, not_a_function, values_left, no_default, only_null, padded, trap_unreachable, trap_null, trap_null_descriptor, trap_cast, trap_no_room, trap_other_numeric}

-- "When the loader says no", row by row
pub record RefusalNumbers : Type 0 where
  -- "bytes end inside an item"
  pub one : bytes_end ≡ 1
  -- "LEB too long or out of range"
  pub two : bad_number ≡ 2
  -- "byte or FB number not listed, negative number as type"
  pub three : not_listed ≡ 3
  -- "a size below exceeded"
  pub four : oversize ≡ 4
  -- "bytes left over"
  pub five : left_over ≡ 5
  -- "type number out of reach"
  pub six : out_of_reach ≡ 6
  -- "supertype rule 1; rule 2"
  pub seven : bad_supertype ≡ 7
  pub eight : no_match ≡ 8
  -- "clause not on a struct; describes not earlier; clauses disagree"
  pub nine : clause_not_on_struct ≡ 9
  pub ten : describes_not_earlier ≡ 10
  pub eleven : clauses_disagree ≡ 11
  -- "rule 4; rule 5"
  pub twelve : bad_descriptor ≡ 12
  pub thirteen : bad_describes ≡ 13
  -- "a lent buffer under its one size"
  pub fourteen : buffer_too_small ≡ 14
  -- "operand missing or wrong"
  pub twenty : bad_operand ≡ 20
  -- "label or local absent"
  pub twenty_one : absent ≡ 21
  -- "local not set"
  pub twenty_two : not_set ≡ 22
  -- "not a struct, no such field, descriptor missing or unwanted"
  pub twenty_three : bad_struct ≡ 23
  -- "field fixed"
  pub twenty_four : field_fixed ≡ 24
  -- "branching cast's rule, label without types"; request 4: "25 then means different hierarchies"
  pub twenty_five : bad_branch ≡ 25
  -- "not a function type's number"
  pub twenty_seven : not_a_function ≡ 27
  -- "values left at `end`"
  pub twenty_eight : values_left ≡ 28
  -- "no default"
  pub twenty_nine : no_default ≡ 29
  -- request 9: "new refusal 31"
  pub thirty_one : only_null ≡ 31
  -- request 10: "new refusal 32"
  pub thirty_two : padded ≡ 32

-- "Traps: .."
pub record TrapNumbers : Type 0 where
  -- "unreachable"
  pub forty_one : trap_unreachable ≡ 41
  -- "null used by get, set, as_non_null or ref.get_desc"
  pub forty_two : trap_null ≡ 42
  -- "null descriptor"
  pub forty_three : trap_null_descriptor ≡ 43
  -- "cast failed"
  pub forty_four : trap_cast ≡ 44
  -- "exactly when 1,024 objects exist or fewer than the needed cells are left of 4,096"
  pub forty_five : trap_no_room ≡ 45
  -- request 1: "another numeric code stops the run with new trap 46"
  pub forty_six : trap_other_numeric ≡ 46

-- "Sizes: ..", and those of the trial run
pub record SizeNumbers : Type 0 where
  -- "32,768 bytes a section or body"
  pub bytes : most_bytes ≡ 32_768
  -- request 5: "the limit of 256 types becomes 1,024 for both together"
  pub types : most_types ≡ 1_024
  -- "64 fields, parameters or results each"
  pub each : most_each ≡ 64
  -- "63 steps up a supertype chain"
  pub steps : most_steps ≡ 63
  -- "256 locals with parameters"
  pub locals : most_locals ≡ 256
  -- "512 operands in all frames after an instruction"
  pub operands : most_operands ≡ 512
  -- "64 frames, the function's own counted": so 63 open blocks
  pub frames : most_frames ≡ 64
  pub blocks : most_blocks ≡ 63
  -- "a budget of at most 1,000,000"
  pub budget : most_budget ≡ 1_000_000
  -- "1,024 objects", "4,096" cells
  pub objects : most_objects ≡ 1_024
  pub cells : most_cells ≡ 4_096

-- "its one size fixed in docs/": docs/LAYOUT.md, in elements
pub record LentSizes : Type 0 where
  pub rows : rows_size ≡ 16_384
  -- the library's codes and the add-on's, each in a buffer of this size
  pub codes : codes_size ≡ 32_768
  pub work : work_size ≡ 4_096
  pub ends : ends_size ≡ 32_768
  pub counts : counts_size ≡ 6
  pub objects : objects_size ≡ 4_096
  pub cells : cells_size ≡ 8_192
  pub locals : locals_size ≡ 512
  pub operands : operands_size ≡ 1_024
  pub blocks : blocks_size ≡ 189
  -- an entry's elements
  pub a_row : row_span ≡ 16
  pub a_value : value_span ≡ 2
  pub an_object : object_span ≡ 4
  pub a_block : block_span ≡ 3

-- "at most 65,536 bytes": of every lent buffer, its elements times an element's bytes. The table, a run's scratch, objects and blocks
-- are u16, a body's scratch is u32, all else is u64.
pub record LentBytes : Type 0 where
  pub rows : rows_size * 2 ≤ 65_536
  pub shared : codes_size * 2 ≤ 65_536
  pub codes : codes_size * 2 ≤ 65_536
  pub work : work_size * 4 ≤ 65_536
  pub ends : ends_size * 2 ≤ 65_536
  pub counts : counts_size * 8 ≤ 65_536
  pub objects : objects_size * 2 ≤ 65_536
  pub cells : cells_size * 8 ≤ 65_536
  pub locals : locals_size * 8 ≤ 65_536
  pub operands : operands_size * 8 ≤ 65_536
  pub blocks : blocks_size * 2 ≤ 65_536
