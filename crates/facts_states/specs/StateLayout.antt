-- What stands at each word of a run's state, as docs/LAYOUT.md tells it: which entry the word belongs to, and which of the entry's
-- words it is. Nothing of the function that writes the words (scope's specs/Memory.antt) stands in it.
use Rattle.std.specs.Prelude.{ℕ, zero, suc, ◌+◌, ◌*◌, ◌≡◌, List, [], ◌∷◌, length}
use Rattle.std.proofs.Math.Option.{Option, none, some}
use Rattle.scope.specs.Syntax.{Number, i32, i64, f32, f64}
use Rattle.scope.specs.Instructions.{Instr}
use Rattle.scope.specs.Bodies.{Code}
use Rattle.scope.specs.Machine.{Value, number, null, object, Object, Store, Block, open_block, open_loop, Machine}
use Rattle.facts_steps.specs.Places.{Stands}

-- values: kind, bits

pub data ValueWord : Value → ℕ → ℕ → Type 0 where
  kind_i32 : {n : ℕ} → ValueWord (number i32 n) 0 1
  kind_i64 : {n : ℕ} → ValueWord (number i64 n) 0 2
  kind_f32 : {n : ℕ} → ValueWord (number f32 n) 0 3
  kind_f64 : {n : ℕ} → ValueWord (number f64 n) 0 4
  kind_null : ValueWord null 0 5
  kind_object : {o : ℕ} → ValueWord (object o) 0 6
  bits_number : {k : Number} {n : ℕ} → ValueWord (number k n) 1 n
  bits_null : ValueWord null 1 0
  bits_object : {o : ℕ} → ValueWord (object o) 1 o

-- "0, 0 where it holds no value"
pub data LocalWord : Option Value → ℕ → ℕ → Type 0 where
  holds_none_kind : LocalWord none 0 0
  holds_none_bits : LocalWord none 1 0
  holds : {v : Value} {j w : ℕ} → ValueWord v j w → LocalWord (some v) j w

-- objects, by number; the first cell is the number of fields of all objects before

pub data ObjectIs : Store → ℕ → Object → ℕ → Type 0 where
  first_object : {it : Object} {more : Store} → ObjectIs (it ∷ more) zero it 0
  later_object : {other it : Object} {more : Store} {o first : ℕ} → ObjectIs more o it first → ObjectIs (other ∷ more) (suc o) it (length other.fields + first)

-- type; descriptor object (0 none, else one more than its number); first cell; how many cells
pub data ObjectWord (it : Object) (first : ℕ) : ℕ → ℕ → Type 0 where
  its_type : ObjectWord it first 0 it.type
  no_descriptor_lem : it.descriptor ≡ none → ObjectWord it first 1 0
  its_descriptor_lem : {d : ℕ} → it.descriptor ≡ some d → ObjectWord it first 1 (d + 1)
  its_first_cell : ObjectWord it first 2 first
  its_cells : ObjectWord it first 3 (length it.fields)

-- cells: "object after object, its fields in order"
pub data CellIs (heap : Store) : ℕ → Value → Type 0 where
  field_of : {o i first c : ℕ} {it : Object} {v : Value} → ObjectIs heap o it first → Stands i v it.fields → c ≡ first + i → CellIs heap c v

-- operands: "all of them, the bottom first"

-- the place from the bottom, in a list that has the top first
pub data FromBottom {A : Type 0} : List A → ℕ → A → Type 0 where
  topmost : {x : A} {xs : List A} → FromBottom (x ∷ xs) (length xs) x
  further_down : {x y : A} {xs : List A} {j : ℕ} → FromBottom xs j y → FromBottom (x ∷ xs) j y

-- how many operands lie below the innermost of these blocks
pub data Below : List Block → ℕ → Type 0 where
  below_none : Below [] 0
  below_block : {at n h : ℕ} {below : List Value} {outer : List Block} → Below outer h → Below (open_block at n below ∷ outer) (h + length below)
  below_loop : {at h : ℕ} {below : List Value} {again : Code} {outer : List Block} → Below outer h → Below (open_loop at below again ∷ outer) (h + length below)

-- the operands of the innermost block, or those that a block keeps below it
pub data OperandIs : List Block → List Value → ℕ → Value → Type 0 where
  of_innermost : {bs : List Block} {vs : List Value} {h i j : ℕ} {v : Value} → Below bs h → FromBottom vs i v → j ≡ h + i → OperandIs bs vs j v
  below_a_block : {at n j : ℕ} {below vs : List Value} {outer : List Block} {v : Value} → OperandIs outer below j v → OperandIs (open_block at n below ∷ outer) vs j v
  below_a_loop : {at j : ℕ} {below vs : List Value} {again : Code} {outer : List Block} {v : Value} → OperandIs outer below j v → OperandIs (open_loop at below again ∷ outer) vs j v

-- open blocks: "outermost first", each with how many operands lie below it
pub data BlockIs : List Block → ℕ → Block → ℕ → Type 0 where
  this_block : {b : Block} {outer : List Block} {h : ℕ} → Below (b ∷ outer) h → BlockIs (b ∷ outer) (length outer) b h
  outer_block : {b c : Block} {outer : List Block} {j h : ℕ} → BlockIs outer j b h → BlockIs (c ∷ outer) j b h

-- 1 block or 2 loop; place of its instruction; how many operands lie below it
pub data BlockWord (h : ℕ) : Block → ℕ → ℕ → Type 0 where
  kind_block : {at n : ℕ} {below : List Value} → BlockWord h (open_block at n below) 0 1
  kind_loop : {at : ℕ} {below : List Value} {again : Code} → BlockWord h (open_loop at below again) 0 2
  place_of_block : {at n : ℕ} {below : List Value} → BlockWord h (open_block at n below) 1 at
  place_of_loop : {at : ℕ} {below : List Value} {again : Code} → BlockWord h (open_loop at below again) 1 at
  height_of_lem : {b : Block} → BlockWord h b 2 h

-- the place: "of the next instruction in the body; .. the body's length when done"
pub data PlaceIs (s : List ℕ) : Code → ℕ → Type 0 where
  next_instruction : {at : ℕ} {i : Instr} {code : Code} → PlaceIs s ((at, i) ∷ code) at
  no_instruction : PlaceIs s [] (length s)

-- word k, by the buffer

pub data ObjectsWord (heap : Store) (k w : ℕ) : Type 0 where
  of_object_lem : {o j first : ℕ} {it : Object} → ObjectIs heap o it first → ObjectWord it first j w → k ≡ 4 * o + j → ObjectsWord heap k w

pub data CellsWord (heap : Store) (k w : ℕ) : Type 0 where
  of_cell : {c j : ℕ} {v : Value} → CellIs heap c v → ValueWord v j w → k ≡ 2 * c + j → CellsWord heap k w

pub data LocalsWord (locals : List (Option Value)) (k w : ℕ) : Type 0 where
  of_local : {x j : ℕ} {o : Option Value} → Stands x o locals → LocalWord o j w → k ≡ 2 * x + j → LocalsWord locals k w

pub data OperandsWord (blocks : List Block) (operands : List Value) (k w : ℕ) : Type 0 where
  of_operand : {i j : ℕ} {v : Value} → OperandIs blocks operands i v → ValueWord v j w → k ≡ 2 * i + j → OperandsWord blocks operands k w

pub data BlocksWord (blocks : List Block) (k w : ℕ) : Type 0 where
  of_block_lem : {i j h : ℕ} {b : Block} → BlockIs blocks i b h → BlockWord h b j w → k ≡ 3 * i + j → BlocksWord blocks k w

-- so many fields, so many operands
pub data FieldsCount : Store → ℕ → Type 0 where
  no_fields : FieldsCount [] 0
  more_fields : {it : Object} {more : Store} {n : ℕ} → FieldsCount more n → FieldsCount (it ∷ more) (length it.fields + n)

pub data CountsWord (s : List ℕ) (m : Machine) : ℕ → ℕ → Type 0 where
  the_place : {at : ℕ} → PlaceIs s m.code at → CountsWord s m 0 at
  count_objects : CountsWord s m 1 (length m.heap)
  count_cells : {n : ℕ} → FieldsCount m.heap n → CountsWord s m 2 n
  count_locals : CountsWord s m 3 (length m.locals)
  count_operands : {h n : ℕ} → Below m.blocks h → n ≡ h + length m.operands → CountsWord s m 4 n
  count_blocks : CountsWord s m 5 (length m.blocks)
