-- What the words of the lent table say: a total reading of rows and codes as types by number, over which the rules are
-- stated. Words of zero say `blank`. RowWords.antt names the words of a row.
use Rattle.std.specs.Prelude.{ℕ, zero, suc, ◌+◌, ◌-◌, ◌*◌, ◌/◌, ◌%◌, Bool, cond, List, [], ◌∷◌, ◌++◌, get_or, length, take, replicate, eqb, ltb}
use Rattle.std.proofs.Math.Option.{Option, none, some}
use Rattle.scope.specs.Layout.{row_span, codes_size}
use Rattle.scope.specs.Lists.{as_list}
use Rattle.scope.specs.Syntax.{Heap, abstract, defined, exact, Number, i32, i64, f32, f64, Val, num, ref, Field, Form, struct, func, Definition, Types, first_of}
use Rattle.scope.specs.Memory.{form_codes, form_words, flag, or_zero, spare_words, row_words}
use Rattle.type_abstract.specs.Heaps.{abstract_at}
use Rattle.type_table.specs.RowWords.{form_word, count_word, results_word, open_word, super_word, describes_word, descriptor_word, from_word, to_word, reach_word, first_word, further_word, func_form}

-- codes

abbrev pub is_odd : ℕ → Bool
is_odd n = eqb (n % 2) 1

abbrev pub number_at : ℕ → Number
number_at c = cond (eqb c 0) i32 (cond (eqb c 1) i64 (cond (eqb c 2) f32 f64))

-- a type number's code is 10 or more: even as it is, odd exact
unfoldable pub heap_at_code : ℕ → Heap
heap_at_code c = cond (ltb c 10) (abstract (abstract_at c)) (cond (is_odd c) (exact ((c - 10) / 2)) (defined ((c - 10) / 2)))

unfoldable pub val_at_code : ℕ → Val
val_at_code c = cond (ltb c 4) (num (number_at c)) (ref (is_odd c) (heap_at_code ((c - 4) / 2)))

unfoldable pub field_at_code : ℕ → Field
field_at_code c = record { holds = val_at_code (c / 2); mutable = is_odd c }

-- The codes of both sections as one list of words: the add-on's have the first places, whatever the length of what was lent for
-- them, and the library's run on after them.
unfoldable pub both_codes : List ℕ → List ℕ → List ℕ
both_codes shared codes = take codes_size (codes ++ replicate codes_size 0) ++ shared

-- `n` codes from `at` on, each read by f
unfoldable pub codes_at : {A : Type 0} → (ℕ → A) → List ℕ → ℕ → ℕ → List A
codes_at f codes at zero = []
codes_at f codes at (suc n) = f (get_or codes at 0) ∷ codes_at f codes (at + 1) n

-- rows

-- word k of row x
abbrev pub word_of : List ℕ → ℕ → ℕ → ℕ
word_of rows x k = get_or rows (row_span * x + k) 0

-- 0 is none, else one more than the number
abbrev pub link_at : ℕ → Option ℕ
link_at w = cond (eqb w 0) none (some (w - 1))

-- the form's word; where its codes start; how many fields or parameters; how many results
unfoldable pub form_at_words : List ℕ → ℕ → ℕ → ℕ → ℕ → Form
form_at_words codes kind first n m =
    cond (eqb kind func_form) (func (codes_at val_at_code codes first n) (codes_at val_at_code codes (first + n) m)) (struct (codes_at field_at_code codes first n))

unfoldable pub view : List ℕ → List ℕ → Types
view rows codes x =
    record {
      is_open = eqb (word_of rows x open_word) 1;
      supers = as_list (link_at (word_of rows x super_word)) ++ as_list (link_at (word_of rows x further_word));
      describes = link_at (word_of rows x describes_word);
      descriptor = link_at (word_of rows x descriptor_word);
      form = form_at_words codes (word_of rows x form_word) (word_of rows x first_word) (word_of rows x count_word) (word_of rows x results_word);
      from = word_of rows x from_word;
      to = word_of rows x to_word;
      reach = word_of rows x reach_word;
    }

-- the row of a definition whose codes start at `first`, as it is read: it has no range yet

-- the words after the supertypes'
abbrev pub no_range : List ℕ
no_range = 0 ∷ 0 ∷ spare_words

abbrev pub further_of : List ℕ → Option ℕ
further_of [] = none
further_of (x ∷ more) = first_of more

unfoldable pub row : ℕ → Definition → List ℕ
row first d =
    form_words d.form
    ++ flag d.is_open
    ∷ or_zero (first_of d.supers)
    ∷ or_zero d.describes
    ∷ or_zero d.descriptor
    ∷ d.from
    ∷ d.to
    ∷ d.reach
    ∷ first
    ∷ or_zero (further_of d.supers)
    ∷ no_range

-- the rows of definitions whose codes start at `first`
unfoldable pub rows_of : ℕ → List Definition → List ℕ
rows_of first [] = []
rows_of first (d ∷ ds) = row first d ++ rows_of (first + length (form_codes d.form)) ds

-- the same of accepted types, in scope's words
unfoldable pub plain_from : ℕ → List Definition → List ℕ
plain_from first [] = []
plain_from first (d ∷ ds) = row_words first 0 0 d ++ plain_from (first + length (form_codes d.form)) ds

unfoldable pub codes_of : List Definition → List ℕ
codes_of [] = []
codes_of (d ∷ ds) = form_codes d.form ++ codes_of ds
