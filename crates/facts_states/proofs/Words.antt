-- At each word of a state stands what the layout says, and nothing else stands anywhere: of each buffer by recursion on what it is
-- made of, an entry's words before those of the next.
use Prim.Native.Nat.{ℕ, zero, suc, ◌+◌, ◌*◌}
use native.Mathlib.Omega.{arith}
use mathlib.Core.Path.{◌≡◌, refl, sym, ◌∙◌, subst}
use mathlib.Core.Logic.{◌↔◌, ◌⊎◌, inl, inr}
use mathlib.Core.Option.{Option, none, some}
use mathlib.Core.List.{List, [], ◌∷◌, ◌++◌, map, reverse}
use lib.ListN.{length, length-append}
use Rattle.scope.specs.Lists.{joined}
use Rattle.scope.specs.Syntax.{Number, i32, i64, f32, f64}
use Rattle.scope.specs.Order.{number_code}
use Rattle.scope.specs.Bodies.{Code}
use Rattle.scope.specs.Machine.{Value, number, null, object, Object, Store, Block, open_block, open_loop, Machine}
use Rattle.scope.specs.Running.{place_of}
use Rattle.scope.specs.Memory.{or_zero, value_words, local_words, objects_from, below_of, all_operands, block_kind, block_place, height_of, block_words, cell_values, state_words}
use Rattle.facts_steps.specs.Places.{Stands, stands_first, stands_later}
use Rattle.facts_states.specs.StateLayout.{ValueWord, kind_i32, kind_i64, kind_f32, kind_f64, kind_null, kind_object, bits_number, bits_null, bits_object, LocalWord, holds_none_kind, holds_none_bits, holds, ObjectIs, first_object, later_object, ObjectWord, its_type, no_descriptor_lem, its_descriptor_lem, its_first_cell, its_cells, CellIs, field_of, FromBottom, Below, below_none, below_block, below_loop, OperandIs, of_innermost, below_a_block, below_a_loop, BlockIs, this_block, outer_block, BlockWord, kind_block, kind_loop, place_of_block, place_of_loop, height_of_lem, PlaceIs, next_instruction, no_instruction, ObjectsWord, of_object_lem, CellsWord, of_cell, LocalsWord, of_local, OperandsWord, of_operand, BlocksWord, of_block_lem, FieldsCount, no_fields, more_fields, CountsWord, the_place, count_objects, count_cells, count_locals, count_operands, count_blocks}
use Rattle.facts_states.specs.Laws.{WordsAre}
use Rattle.facts_states.proofs.Standing.{nowhere, at_place, InSecond, in_append, in_first, in_second, reverse-said, reverse_stands, InUpper, from_either, from_lower, from_upper, TwoWords, Entry, two_said, two_stands}

-- values and locals

abbrev pub kind_of : Value → ℕ
kind_of (number k n) = number_code k + 1
kind_of null = 5
kind_of (object o) = 6

abbrev pub bits_of : Value → ℕ
bits_of (number k n) = n
bits_of null = 0
bits_of (object o) = o

pub value_is : (v : Value) → value_words v ≡ kind_of v ∷ bits_of v ∷ []
value_is (number k n) = refl
value_is null = refl
value_is (object o) = refl

pub kind_said : (v : Value) → ValueWord v 0 (kind_of v)
kind_said (number i32 n) = kind_i32
kind_said (number i64 n) = kind_i64
kind_said (number f32 n) = kind_f32
kind_said (number f64 n) = kind_f64
kind_said null = kind_null
kind_said (object o) = kind_object

pub bits_said : (v : Value) → ValueWord v 1 (bits_of v)
bits_said (number k n) = bits_number
bits_said null = bits_null
bits_said (object o) = bits_object

pub only_value : {v : Value} {j w : ℕ} → ValueWord v j w → ((j ≡ 0) × (w ≡ kind_of v)) ⊎ ((j ≡ 1) × (w ≡ bits_of v))
only_value kind_i32 = inl (refl, refl)
only_value kind_i64 = inl (refl, refl)
only_value kind_f32 = inl (refl, refl)
only_value kind_f64 = inl (refl, refl)
only_value kind_null = inl (refl, refl)
only_value kind_object = inl (refl, refl)
only_value bits_number = inr (refl, refl)
only_value bits_null = inr (refl, refl)
only_value bits_object = inr (refl, refl)

abbrev pub values : TwoWords value_words ValueWord
values = record { one = kind_of; two = bits_of; words = value_is; says_one = kind_said; says_two = bits_said; only = λ v j w. only_value }

abbrev pub kind_held : Option Value → ℕ
kind_held none = 0
kind_held (some v) = kind_of v

abbrev pub bits_held : Option Value → ℕ
bits_held none = 0
bits_held (some v) = bits_of v

pub local_is : (o : Option Value) → local_words o ≡ kind_held o ∷ bits_held o ∷ []
local_is none = refl
local_is (some v) = value_is v

pub local_kind : (o : Option Value) → LocalWord o 0 (kind_held o)
local_kind none = holds_none_kind
local_kind (some v) = holds (kind_said v)

pub local_bits : (o : Option Value) → LocalWord o 1 (bits_held o)
local_bits none = holds_none_bits
local_bits (some v) = holds (bits_said v)

pub only_local : {o : Option Value} {j w : ℕ} → LocalWord o j w → ((j ≡ 0) × (w ≡ kind_held o)) ⊎ ((j ≡ 1) × (w ≡ bits_held o))
only_local holds_none_kind = inl (refl, refl)
only_local holds_none_bits = inr (refl, refl)
only_local (holds v) = only_value v

abbrev pub held : TwoWords local_words LocalWord
held = record { one = kind_held; two = bits_held; words = local_is; says_one = local_kind; says_two = local_bits; only = λ o j w. only_local }

-- objects, from a first cell on

record OfObject (base : ℕ) (heap : Store) (k w : ℕ) : Type 0 where
  o : ℕ
  j : ℕ
  first : ℕ
  it : Object
  is : ObjectIs heap o it first
  word : ObjectWord it (base + first) j w
  at : k ≡ 4 * o + j

descriptor_said : (it : Object) (first : ℕ) → ObjectWord it first 1 (or_zero it.descriptor)
descriptor_said it first = go it.descriptor refl
  where
    go : (d : Option ℕ) → it.descriptor ≡ d → ObjectWord it first 1 (or_zero d)
    go none e = no_descriptor_lem e
    go (some d) e = its_descriptor_lem e

objects_said : (base : ℕ) (heap : Store) {k w : ℕ} → Stands k w (objects_from base heap) → OfObject base heap k w
unfolding objects_from
objects_said base [] s = absurd (nowhere s)
objects_said base (it ∷ heap) s = go s (λ n. objects_said (base + length it.fields) heap {k = n})
  where
    own : {j w : ℕ} → ObjectWord it base j w → OfObject base (it ∷ heap) j w
    own {j} {w} word =
        let same : base ≡ base + 0 = omega arith in
        record { o = 0; j = j; first = 0; it = it; is = first_object; word = subst (λ n. ObjectWord it n j w) same word; at = omega arith }

    go : {k w : ℕ} → Stands k w (it.type ∷ or_zero it.descriptor ∷ base ∷ length it.fields ∷ objects_from (base + length it.fields) heap)
        → ((n : ℕ) → Stands n w (objects_from (base + length it.fields) heap) → OfObject (base + length it.fields) heap n w) → OfObject base (it ∷ heap) k w
    go stands_first later = own its_type
    go (stands_later stands_first) later = own (descriptor_said it base)
    go (stands_later (stands_later stands_first)) later = own its_first_cell
    go (stands_later (stands_later (stands_later stands_first))) later = own its_cells
    go {w = w} (stands_later (stands_later (stands_later (stands_later {i = n} s)))) later =
        let r = later n s in
        let e = r.at in
        let same : base + length it.fields + r.first ≡ base + (length it.fields + r.first) = omega arith in
        record { o = suc r.o; j = r.j; first = length it.fields + r.first; it = r.it; is = later_object r.is; word = subst (λ n. ObjectWord r.it n r.j w) same r.word; at = omega arith }

own_words : (it : Object) (base : ℕ) (rest : List ℕ) {j w : ℕ} → ObjectWord it base j w
    → Stands j w (it.type ∷ or_zero it.descriptor ∷ base ∷ length it.fields ∷ rest)
own_words it base rest its_type = stands_first
own_words it base rest (no_descriptor_lem e) = rw e (stands_later stands_first)
own_words it base rest (its_descriptor_lem e) = rw e (stands_later stands_first)
own_words it base rest its_first_cell = stands_later (stands_later stands_first)
own_words it base rest its_cells = stands_later (stands_later (stands_later stands_first))

objects_stand : (base : ℕ) {heap : Store} {o first : ℕ} {it : Object} → ObjectIs heap o it first → {j w : ℕ} → ObjectWord it (base + first) j w
    → Stands (4 * o + j) w (objects_from base heap)
unfolding objects_from
objects_stand base (first_object {it = it} {more = more}) {j} {w} word =
    let same : base + 0 ≡ base = omega arith in
    at_place (omega arith) (own_words it base (objects_from (base + length it.fields) more) (subst (λ n. ObjectWord it n j w) same word))
objects_stand base (later_object {other = other} {it = it} {first = first} is) {j} {w} word =
    let same : base + (length other.fields + first) ≡ base + length other.fields + first = omega arith in
    let rest = objects_stand (base + length other.fields) is (subst (λ n. ObjectWord it n j w) same word) in
    at_place (omega arith) (stands_later (stands_later (stands_later (stands_later rest))))

-- cells

cells_said : (heap : Store) {c : ℕ} {v : Value} → Stands c v (cell_values heap) → CellIs heap c v
cells_said [] s = absurd (nowhere s)
cells_said (it ∷ heap) {c} {v} s = go (in_append it.fields (cell_values heap) s) (λ n. cells_said heap {c = n})
  where
    later : {n : ℕ} → c ≡ length it.fields + n → CellIs heap n v → CellIs (it ∷ heap) c v
    later e (field_of is there at) = field_of {c = c} (later_object is) there (omega arith)

    go : Stands c v it.fields ⊎ InSecond it.fields (cell_values heap) c v → ((n : ℕ) → Stands n v (cell_values heap) → CellIs heap n v) → CellIs (it ∷ heap) c v
    go (inl here) more = field_of {c = c} first_object here (omega arith)
    go (inr r) more = later r.at (more r.place r.there)

object_cells : {heap : Store} {o first i : ℕ} {it : Object} {v : Value} → ObjectIs heap o it first → Stands i v it.fields → Stands (first + i) v (cell_values heap)
object_cells (first_object {more = more}) s = at_place (omega arith) (in_first (cell_values more) s)
object_cells (later_object {other = other} is) s = at_place (omega arith) (in_second other.fields (object_cells is s))

cells_stand : {heap : Store} {c : ℕ} {v : Value} → CellIs heap c v → Stands c v (cell_values heap)
cells_stand (field_of is there at) = at_place (sym at) (object_cells is there)

-- operands

below_long : (bs : List Block) → Below bs (length (joined (map below_of bs)))
below_long [] = below_none
below_long (open_block at n below ∷ bs) =
    let e : length (joined (map below_of bs)) + length below ≡ length (below ++ joined (map below_of bs)) = let f = length-append below (joined (map below_of bs)) in omega arith in
    subst (Below (open_block at n below ∷ bs)) e (below_block (below_long bs))
below_long (open_loop at below again ∷ bs) =
    let e : length (joined (map below_of bs)) + length below ≡ length (below ++ joined (map below_of bs)) = let f = length-append below (joined (map below_of bs)) in omega arith in
    subst (Below (open_loop at below again ∷ bs)) e (below_loop (below_long bs))

only_below : {bs : List Block} {h : ℕ} → Below bs h → length (joined (map below_of bs)) ≡ h
only_below below_none = refl
only_below (below_block {below = below} {outer = outer} b) = let e = only_below b in let f = length-append below (joined (map below_of outer)) in omega arith
only_below (below_loop {below = below} {outer = outer} b) = let e = only_below b in let f = length-append below (joined (map below_of outer)) in omega arith

none_there_lem : {j : ℕ} {v : Value} → FromBottom [] j v → ⊥
none_there_lem = elim [ ]

operand_or : (bs : List Block) (vs : List Value) {j : ℕ} {v : Value} → FromBottom (joined (map below_of bs)) j v ⊎ InUpper vs (joined (map below_of bs)) j v
    → (FromBottom (joined (map below_of bs)) j v → OperandIs bs vs j v) → OperandIs bs vs j v
operand_or bs vs (inl b) lower = lower b
operand_or bs vs (inr r) lower = of_innermost (below_long bs) r.there r.at

operand_said : (bs : List Block) (vs : List Value) {j : ℕ} {v : Value} → FromBottom (vs ++ joined (map below_of bs)) j v → OperandIs bs vs j v
operand_said [] vs b = operand_or [] vs (from_either vs [] b) (λ c. absurd (none_there_lem c))
operand_said (open_block at n below ∷ bs) vs b =
    operand_or (open_block at n below ∷ bs) vs (from_either vs (below ++ joined (map below_of bs)) b) (λ c. below_a_block (operand_said bs below c))
operand_said (open_loop at below again ∷ bs) vs b =
    operand_or (open_loop at below again ∷ bs) vs (from_either vs (below ++ joined (map below_of bs)) b) (λ c. below_a_loop (operand_said bs below c))

operand_stands : {bs : List Block} {vs : List Value} {j : ℕ} {v : Value} → OperandIs bs vs j v → FromBottom (vs ++ joined (map below_of bs)) j v
operand_stands {vs = vs} {j} {v} (of_innermost {bs = bs} {h = h} {i = i} b there at) =
    let e : length (joined (map below_of bs)) + i ≡ j = let f = only_below b in omega arith in
    subst (λ n. FromBottom (vs ++ joined (map below_of bs)) n v) e (from_upper (joined (map below_of bs)) there)
operand_stands {vs = vs} (below_a_block o) = from_lower vs (operand_stands o)
operand_stands {vs = vs} (below_a_loop o) = from_lower vs (operand_stands o)

-- blocks

height_is : {bs : List Block} {h : ℕ} → Below bs h → height_of bs ≡ h
height_is below_none = refl
height_is (below_block b) = let e = height_is b in omega arith
height_is (below_loop b) = let e = height_is b in omega arith

height_said : (bs : List Block) → Below bs (height_of bs)
height_said [] = below_none
height_said (open_block at n below ∷ bs) =
    let e : height_of bs + length below ≡ length below + height_of bs = omega arith in
    subst (Below (open_block at n below ∷ bs)) e (below_block (height_said bs))
height_said (open_loop at below again ∷ bs) =
    let e : height_of bs + length below ≡ length below + height_of bs = omega arith in
    subst (Below (open_loop at below again ∷ bs)) e (below_loop (height_said bs))

pub three_each : (bs : List Block) → length (block_words bs) ≡ 3 * length bs
unfolding block_words
three_each [] = refl
three_each (b ∷ bs) =
    let e = length-append (block_words bs) (block_kind b ∷ block_place b ∷ height_of (b ∷ bs) ∷ []) in
    let f = three_each bs in
    omega arith

own_block : (h : ℕ) (b : Block) {k w : ℕ} → Stands k w (block_kind b ∷ block_place b ∷ h ∷ []) → BlockWord h b k w
own_block h (open_block at n below) stands_first = kind_block
own_block h (open_loop at below again) stands_first = kind_loop
own_block h (open_block at n below) (stands_later stands_first) = place_of_block
own_block h (open_loop at below again) (stands_later stands_first) = place_of_loop
own_block h b (stands_later (stands_later stands_first)) = height_of_lem
own_block h b (stands_later (stands_later (stands_later s))) = absurd (nowhere s)

block_own : {h : ℕ} {b : Block} {j w : ℕ} → BlockWord h b j w → Stands j w (block_kind b ∷ block_place b ∷ h ∷ [])
block_own kind_block = stands_first
block_own kind_loop = stands_first
block_own place_of_block = stands_later stands_first
block_own place_of_loop = stands_later stands_first
block_own height_of_lem = stands_later (stands_later stands_first)

outer_words : {c : Block} {bs : List Block} {k w : ℕ} → BlocksWord bs k w → BlocksWord (c ∷ bs) k w
outer_words (of_block_lem is word at) = of_block_lem (outer_block is) word at

blocks-said : (bs : List Block) {k w : ℕ} → Stands k w (block_words bs) → BlocksWord bs k w
unfolding block_words
blocks-said [] s = absurd (nowhere s)
blocks-said (b ∷ bs) {k} {w} s =
    go (in_append (block_words bs) (block_kind b ∷ block_place b ∷ height_of (b ∷ bs) ∷ []) s) (λ t. blocks-said bs t)
  where
    go : Stands k w (block_words bs) ⊎ InSecond (block_words bs) (block_kind b ∷ block_place b ∷ height_of (b ∷ bs) ∷ []) k w → (Stands k w (block_words bs) → BlocksWord bs k w) → BlocksWord (b ∷ bs) k w
    go (inl here) more = outer_words (more here)
    go (inr r) more =
        let e : k ≡ 3 * length bs + r.place = let f = three_each bs in let g = r.at in omega arith in
        of_block_lem (this_block (height_said (b ∷ bs))) (own_block (height_of (b ∷ bs)) b r.there) e

block_stands : {bs : List Block} {i h : ℕ} {b : Block} → BlockIs bs i b h → {j w : ℕ} → BlockWord h b j w → Stands (3 * i + j) w (block_words bs)
unfolding block_words
block_stands (this_block {b = b} {outer = bs} below) {j} {w} word =
    let e : length (block_words bs) + j ≡ 3 * length bs + j = let f = three_each bs in omega arith in
    at_place e (in_second (block_words bs) (subst (λ h. Stands j w (block_kind b ∷ block_place b ∷ h ∷ [])) (sym (height_is below)) (block_own word)))
block_stands (outer_block {c = c} {outer = bs} is) word = in_first (block_kind c ∷ block_place c ∷ height_of (c ∷ bs) ∷ []) (block_stands is word)

-- counts

place_said : (s : List ℕ) (code : Code) → PlaceIs s code (place_of s code)
place_said s [] = no_instruction
place_said s ((at, i) ∷ code) = next_instruction

only_place : {s : List ℕ} {code : Code} {at : ℕ} → PlaceIs s code at → place_of s code ≡ at
only_place next_instruction = refl
only_place no_instruction = refl

fields_said : (heap : Store) → FieldsCount heap (length (cell_values heap))
fields_said [] = no_fields
fields_said (it ∷ heap) = subst (FieldsCount (it ∷ heap)) (sym (length-append it.fields (cell_values heap))) (more_fields (fields_said heap))

only_fields : {heap : Store} {n : ℕ} → FieldsCount heap n → length (cell_values heap) ≡ n
only_fields no_fields = refl
only_fields (more_fields {it = it} {more = more} f) = let e = only_fields f in let g = length-append it.fields (cell_values more) in omega arith

all_many : (m : Machine) → length (all_operands m) ≡ length (joined (map below_of m.blocks)) + length m.operands
all_many m = let e = length-append m.operands (joined (map below_of m.blocks)) in omega arith

counts-said : (s : List ℕ) (m : Machine) {k w : ℕ} → Stands k w (state_words s m).counts → CountsWord s m k w
unfolding state_words
counts-said s m stands_first = the_place (place_said s m.code)
counts-said s m (stands_later stands_first) = count_objects
counts-said s m (stands_later (stands_later stands_first)) = count_cells (fields_said m.heap)
counts-said s m (stands_later (stands_later (stands_later stands_first))) = count_locals
counts-said s m (stands_later (stands_later (stands_later (stands_later stands_first)))) = count_operands (below_long m.blocks) (all_many m)
counts-said s m (stands_later (stands_later (stands_later (stands_later (stands_later stands_first))))) = count_blocks
counts-said s m (stands_later (stands_later (stands_later (stands_later (stands_later (stands_later t)))))) = absurd (nowhere t)

counts_stand : (s : List ℕ) (m : Machine) {k w : ℕ} → CountsWord s m k w → Stands k w (state_words s m).counts
unfolding state_words
counts_stand s m (the_place p) = rw (← only_place p) stands_first
counts_stand s m count_objects = stands_later stands_first
counts_stand s m (count_cells f) = rw (← only_fields f) (stands_later (stands_later stands_first))
counts_stand s m count_locals = stands_later (stands_later (stands_later stands_first))
counts_stand s m (count_operands {n = n} b e) =
    let same : length (all_operands m) ≡ n = all_many m ∙ (let f = only_below b in omega arith) in
    rw (← same) (stands_later (stands_later (stands_later (stands_later stands_first))))
counts_stand s m count_blocks = stands_later (stands_later (stands_later (stands_later (stands_later stands_first))))

-- the buffers

objects_word : (heap : Store) {k w : ℕ} → Stands k w (objects_from 0 heap) → ObjectsWord heap k w
objects_word heap {k} {w} s =
    let r = objects_said 0 heap s in
    let same : 0 + r.first ≡ r.first = omega arith in
    of_object_lem r.is (subst (λ n. ObjectWord r.it n r.j w) same r.word) r.at

word_objects : {heap : Store} {k w : ℕ} → ObjectsWord heap k w → Stands k w (objects_from 0 heap)
word_objects {w = w} (of_object_lem {j = j} {first = first} {it = it} is word at) =
    let same : first ≡ 0 + first = omega arith in
    at_place (sym at) (objects_stand 0 is (subst (λ n. ObjectWord it n j w) same word))

cells_word : (heap : Store) {k w : ℕ} → Stands k w (joined (map value_words (cell_values heap))) → CellsWord heap k w
cells_word heap s = let e = two_said values (cell_values heap) s in of_cell (cells_said heap e.there) e.is e.at

word_cells : {heap : Store} {k w : ℕ} → CellsWord heap k w → Stands k w (joined (map value_words (cell_values heap)))
word_cells (of_cell is word at) = two_stands values (cells_stand is) word at

locals_word : (locals : List (Option Value)) {k w : ℕ} → Stands k w (joined (map local_words locals)) → LocalsWord locals k w
locals_word locals s = let e = two_said held locals s in of_local e.there e.is e.at

word_locals : {locals : List (Option Value)} {k w : ℕ} → LocalsWord locals k w → Stands k w (joined (map local_words locals))
word_locals (of_local there word at) = two_stands held there word at

operands_word : (m : Machine) {k w : ℕ} → Stands k w (joined (map value_words (reverse (all_operands m)))) → OperandsWord m.blocks m.operands k w
operands_word m s =
    let e = two_said values (reverse (all_operands m)) s in
    of_operand (operand_said m.blocks m.operands (reverse-said (all_operands m) e.there)) e.is e.at

word_operands : (m : Machine) {k w : ℕ} → OperandsWord m.blocks m.operands k w → Stands k w (joined (map value_words (reverse (all_operands m))))
word_operands m (of_operand is word at) = two_stands values (reverse_stands (operand_stands is)) word at

word_blocks : {bs : List Block} {k w : ℕ} → BlocksWord bs k w → Stands k w (block_words bs)
word_blocks (of_block_lem is word at) = at_place (sym at) (block_stands is word)

pub words_are : WordsAre
unfolding state_words
words_are =
    record {
      counts = λ s m k w. (counts-said s m, counts_stand s m);
      objects = λ s m k w. (objects_word m.heap, word_objects);
      cells = λ s m k w. (cells_word m.heap, word_cells);
      locals = λ s m k w. (locals_word m.locals, word_locals);
      operands = λ s m k w. (operands_word m, word_operands m);
      blocks = λ s m k w. (blocks-said m.blocks, word_blocks);
    }
