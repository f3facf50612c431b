-- The numbers by which the loader says no, from the table of document 01, and those of the traps. Each stands here once.
use Rattle.std.specs.Prelude.{ℕ}

-- bytes end inside an item
abbrev pub bytes_end : ℕ
bytes_end = 1

-- LEB too long or out of range
abbrev pub bad_number : ℕ
bad_number = 2

-- byte or FB number not listed, negative number as type
abbrev pub not_listed : ℕ
not_listed = 3

-- a size exceeded
abbrev pub oversize : ℕ
oversize = 4

-- bytes left over
abbrev pub left_over : ℕ
left_over = 5

-- type number out of reach
abbrev pub out_of_reach : ℕ
out_of_reach = 6

-- supertype rule 1
abbrev pub bad_supertype : ℕ
bad_supertype = 7

-- rule 2
abbrev pub no_match : ℕ
no_match = 8

-- clause not on a struct
abbrev pub clause_not_on_struct : ℕ
clause_not_on_struct = 9

-- describes not earlier
abbrev pub describes_not_earlier : ℕ
describes_not_earlier = 10

-- clauses disagree
abbrev pub clauses_disagree : ℕ
clauses_disagree = 11

-- rule 4
abbrev pub bad_descriptor : ℕ
bad_descriptor = 12

-- rule 5
abbrev pub bad_describes : ℕ
bad_describes = 13

-- a lent buffer under its size
abbrev pub buffer_too_small : ℕ
buffer_too_small = 14

-- operand missing or wrong
abbrev pub bad_operand : ℕ
bad_operand = 20

-- label or local absent
abbrev pub absent : ℕ
absent = 21

-- local not set
abbrev pub not_set : ℕ
not_set = 22

-- not a struct, no such field, descriptor missing or unwanted
abbrev pub bad_struct : ℕ
bad_struct = 23

-- field fixed
abbrev pub field_fixed : ℕ
field_fixed = 24

-- branching cast's rule, label without types
abbrev pub bad_branch : ℕ
bad_branch = 25

-- not a function type's number
abbrev pub not_a_function : ℕ
not_a_function = 27

-- values left at end
abbrev pub values_left : ℕ
values_left = 28

-- no default
abbrev pub no_default : ℕ
no_default = 29

-- request 9 of document 02: an operand would fit if it could not be null
abbrev pub only_null : ℕ
only_null = 31

-- request 10 of document 02: a LEB number with more bytes than it needs
abbrev pub padded : ℕ
padded = 32

-- trap: unreachable
abbrev pub trap_unreachable : ℕ
trap_unreachable = 41

-- trap: null used by get, set, as_non_null or ref.get_desc
abbrev pub trap_null : ℕ
trap_null = 42

-- trap: null descriptor
abbrev pub trap_null_descriptor : ℕ
trap_null_descriptor = 43

-- trap: cast failed
abbrev pub trap_cast : ℕ
trap_cast = 44

-- trap: no room
abbrev pub trap_no_room : ℕ
trap_no_room = 45

-- trap: a numeric code other than those that the run does
abbrev pub trap_other_numeric : ℕ
trap_other_numeric = 46
