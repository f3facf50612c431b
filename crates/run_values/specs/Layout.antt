-- The words of a run's state: each offset and each kind by its name. How many words an entry takes stands in scope's
-- Layout.antt, what all of them are in its Memory.antt, and docs/LAYOUT.md draws them. src/layout.rt has the same for the code.
use Rattle.std.specs.Prelude.{ℕ, ◌+◌, ◌*◌}
use Rattle.scope.specs.Layout.{value_span}

-- value j: its kind, and beside it its bits

abbrev pub kind_place : ℕ → ℕ
kind_place j = value_span * j

abbrev pub bits_place : ℕ → ℕ
bits_place j = value_span * j + 1

-- the kinds: that of a number is one more than the code of its type

abbrev pub no_value : ℕ
no_value = 0

abbrev pub i32_kind : ℕ
i32_kind = 1

abbrev pub i64_kind : ℕ
i64_kind = 2

abbrev pub f32_kind : ℕ
f32_kind = 3

abbrev pub f64_kind : ℕ
f64_kind = 4

abbrev pub null_kind : ℕ
null_kind = 5

abbrev pub object_kind : ℕ
object_kind = 6

-- the words of an object

abbrev pub type_word : ℕ
type_word = 0

-- 0 none, else one more than its number
abbrev pub descriptor_word : ℕ
descriptor_word = 1

-- its first cell, and how many it has
abbrev pub first_word : ℕ
first_word = 2

abbrev pub count_word : ℕ
count_word = 3

-- the words of an open block

abbrev pub kind_word : ℕ
kind_word = 0

abbrev pub place_word : ℕ
place_word = 1

-- how many operands lie below it, in all frames
abbrev pub below_word : ℕ
below_word = 2

-- its kinds

abbrev pub opened_block : ℕ
opened_block = 1

abbrev pub opened_loop : ℕ
opened_loop = 2
