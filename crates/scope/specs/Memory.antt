-- What lent memory holds after each public call, word by word. docs/LAYOUT.md draws it. "Every refusal zeroes all memory
-- lent for writing."
use Rattle.std.specs.Prelude.{ℕ, suc, ◌+◌, ◌-◌, ◌*◌, Bool, cond, List, [], ◌∷◌, ◌++◌, map, reverse, length, replicate, take, drop}
use Rattle.std.proofs.Math.Option.{Option}
use Rattle.scope.specs.Reading.{given}
use Rattle.scope.specs.Lists.{joined, sum}
use Rattle.scope.specs.Abstract.{Abstract, NOFUNC, NOEXTERN, NONE, FUNC, EXTERN, ANY, EQ, I31, STRUCT, ARRAY}
use Rattle.scope.specs.Syntax.{Heap, abstract, defined, exact, Val, num, ref, Field, Form, struct, func, Definition, types_of, super_of}
use Rattle.scope.specs.Layout.{codes_size}
use Rattle.scope.specs.Order.{number_code}
use Rattle.scope.specs.Judging.{Joined}
use Rattle.scope.specs.Ranges.{size_in, start_in}
use Rattle.scope.specs.Machine.{Value, number, null, object, Store, Block, open_block, open_loop, Machine}
use Rattle.scope.specs.Running.{place_of}

-- the words, then zero to the buffer's end
abbrev pub filled : List ℕ → List ℕ → List ℕ
filled buffer words = words ++ replicate (length buffer - length words) 0

-- zero to the buffer's end
abbrev pub wiped : List ℕ → List ℕ
wiped buffer = replicate (length buffer) 0

-- the table of an accepted library and section

-- false 0, true 1
abbrev pub flag : Bool → ℕ
flag b = cond b 1 0

-- codes of types: each type has one code, and each code is one type's
abbrev pub abstract_code : Abstract → ℕ
abstract_code NOFUNC = 0
abstract_code NOEXTERN = 1
abstract_code NONE = 2
abstract_code FUNC = 3
abstract_code EXTERN = 4
abstract_code ANY = 5
abstract_code EQ = 6
abstract_code I31 = 7
abstract_code STRUCT = 8
abstract_code ARRAY = 9

abbrev pub heap_code : Heap → ℕ
heap_code (abstract a) = abstract_code a
heap_code (defined x) = 10 + 2 * x
heap_code (exact x) = 11 + 2 * x

abbrev pub val_code : Val → ℕ
val_code (num n) = number_code n
val_code (ref n h) = 4 + 2 * heap_code h + flag n

abbrev pub field_code : Field → ℕ
field_code f = 2 * val_code f.holds + flag f.mutable

-- the fields of a struct; the parameters, then the results of a function
abbrev pub form_codes : Form → List ℕ
form_codes (struct fs) = map field_code fs
form_codes (func ps rs) = map val_code ps ++ map val_code rs

-- a number that may be missing: 0, or one more than it
abbrev pub or_zero : Option ℕ → ℕ
or_zero o = given o 0 (λ x. x + 1)

-- 1 struct, 2 function; how many fields or parameters; how many results
abbrev pub form_words : Form → List ℕ
form_words (struct fs) = 1 ∷ length fs ∷ 0 ∷ []
form_words (func ps rs) = 2 ∷ length ps ∷ length rs ∷ []

-- what stands above a type: 0, or one more than its supertype
unfoldable pub parents : List Definition → ℕ → ℕ
parents ds x = or_zero (super_of (types_of ds x))

-- the range of a type: x is below y exactly where x is y or start y ≤ start x < end y
abbrev pub starts_of : List Definition → ℕ → ℕ
starts_of ds x = start_in (parents ds) (length ds) x

abbrev pub ends_of : List Definition → ℕ → ℕ
ends_of ds x = start_in (parents ds) (length ds) x + size_in (parents ds) (length ds) x

-- the last words of a row, which nothing uses yet
abbrev pub spare_words : List ℕ
spare_words = 0 ∷ 0 ∷ []

-- one row of the table; its codes start at `first`, its range at `start`
unfoldable pub row_words : ℕ → ℕ → ℕ → Definition → List ℕ
row_words first start end d =
    form_words d.form
    ++ flag d.is_open
    ∷ or_zero (super_of d)
    ∷ or_zero d.describes
    ∷ or_zero d.descriptor
    ∷ d.from
    ∷ d.to
    ∷ d.reach
    ∷ first
    ∷ (length d.supers - 1)
    ∷ start
    ∷ end
    ∷ spare_words

-- the rows from type x on
unfoldable pub rows_from : (ℕ → ℕ) → (ℕ → ℕ) → ℕ → ℕ → List Definition → List ℕ
rows_from start end x first [] = []
rows_from start end x first (d ∷ ds) = row_words first (start x) (end x) d ++ rows_from start end (suc x) (first + length (form_codes d.form)) ds

-- the three buffers of the table: the rows of all types, the library's first; the codes of the fields, parameters and results of
-- the library's types; and those of the add-on's. A row's first code tells the two apart: the add-on's count from 0 on, so that
-- with a library of no types its rows are what they are without one; the library's count from the size of a buffer of codes on.
abbrev pub table_codes : List Definition → List ℕ
table_codes ds = joined (map (λ d. form_codes d.form) ds)

abbrev pub library_types : Joined → List Definition
library_types j = take j.before j.types

abbrev pub addon_types : Joined → List Definition
addon_types j = drop j.before j.types

abbrev pub joined_rows : Joined → List ℕ
joined_rows j =
    rows_from (starts_of j.types) (ends_of j.types) 0 codes_size (library_types j)
    ++ rows_from (starts_of j.types) (ends_of j.types) (length (library_types j)) 0 (addon_types j)

abbrev pub joined_shared : Joined → List ℕ
joined_shared j = table_codes (library_types j)

abbrev pub joined_codes : Joined → List ℕ
joined_codes j = table_codes (addon_types j)

-- the state of a run

-- a value takes two words: its kind and its bits; a local that holds no value is 0 0
abbrev pub value_words : Value → List ℕ
value_words (number k n) = (number_code k + 1) ∷ n ∷ []
value_words null = 5 ∷ 0 ∷ []
value_words (object o) = 6 ∷ o ∷ []

abbrev pub local_words : Option Value → List ℕ
local_words o = given o (0 ∷ 0 ∷ []) value_words

-- an object: its type, its descriptor object, its first cell, how many cells
unfoldable pub objects_from : ℕ → Store → List ℕ
objects_from first [] = []
objects_from first (o ∷ os) =
    o.type ∷ or_zero o.descriptor ∷ first ∷ length o.fields ∷ objects_from (first + length o.fields) os

-- all operands, the top first: those of the innermost block, then those below each open block
abbrev pub below_of : Block → List Value
below_of (open_block at n below) = below
below_of (open_loop at below again) = below

abbrev pub all_operands : Machine → List Value
all_operands m = m.operands ++ joined (map below_of m.blocks)

-- an open block: 1 block or 2 loop, its place, the operands below it
abbrev pub block_kind : Block → ℕ
block_kind (open_block at n below) = 1
block_kind (open_loop at below again) = 2

abbrev pub block_place : Block → ℕ
block_place (open_block at n below) = at
block_place (open_loop at below again) = at

abbrev pub height_of : List Block → ℕ
height_of bs = sum (map (λ b. length (below_of b)) bs)

-- outermost first
unfoldable pub block_words : List Block → List ℕ
block_words [] = []
block_words (b ∷ bs) = block_words bs ++ block_kind b ∷ block_place b ∷ height_of (b ∷ bs) ∷ []

-- the buffers of a run's state
pub record StateWords : Type 0 where
  -- the place, and how many objects, cells, locals, operands and open blocks there are
  pub counts : List ℕ
  pub objects : List ℕ
  pub cells : List ℕ
  pub locals : List ℕ
  pub operands : List ℕ
  pub blocks : List ℕ

abbrev pub cell_values : Store → List Value
cell_values os = joined (map (λ o. o.fields) os)

unfoldable pub state_words : List ℕ → Machine → StateWords
state_words s m =
    record {
      counts =
          place_of s m.code
          ∷ length m.heap
          ∷ length (cell_values m.heap)
          ∷ length m.locals
          ∷ length (all_operands m)
          ∷ length m.blocks
          ∷ [];
      objects = objects_from 0 m.heap;
      cells = joined (map value_words (cell_values m.heap));
      locals = joined (map local_words m.locals);
      operands = joined (map value_words (reverse (all_operands m)));
      blocks = block_words m.blocks;
    }
