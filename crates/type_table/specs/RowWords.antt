-- The words of a row, by their places in it, in the order of scope's Memory.antt (row_words); and what its first word says.
use Rattle.std.specs.Prelude.{ℕ}

-- 1 struct, 2 function; 0 where there is no type
abbrev pub form_word : ℕ
form_word = 0

-- how many fields or parameters
abbrev pub count_word : ℕ
count_word = 1

-- how many results
abbrev pub results_word : ℕ
results_word = 2

-- 1 open
abbrev pub open_word : ℕ
open_word = 3

-- the first supertype, as a link: 0 is none, else one more than the number
abbrev pub super_word : ℕ
super_word = 4

-- the clauses, as links
abbrev pub describes_word : ℕ
describes_word = 5

abbrev pub descriptor_word : ℕ
descriptor_word = 6

-- where the bytes of its definition start, and where they end
abbrev pub from_word : ℕ
from_word = 7

abbrev pub to_word : ℕ
to_word = 8

-- the end of its group: it may name the types below
abbrev pub reach_word : ℕ
reach_word = 9

-- where its codes start
abbrev pub first_word : ℕ
first_word = 10

-- the greatest further supertype, as a link
abbrev pub further_word : ℕ
further_word = 11

-- words 12 and 13 are the range, which type_span reads and stores

abbrev pub struct_form : ℕ
struct_form = 1

abbrev pub func_form : ℕ
func_form = 2
