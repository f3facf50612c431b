-- Single steps by hand: the operands before, the top first, the instruction, and what it comes to, with traps as the papers number
-- them. The heap has two objects: object 0 of type 1, object 1 of type 0 with object 0 as its descriptor. Two blocks are open, a loop
-- inside a block that has one result.
use Rattle.std.specs.Prelude.{ℕ, ◌≡◌, true, false, List, [], ◌∷◌}
use Rattle.std.proofs.Math.Option.{Option, none, some}
use Rattle.scope.specs.Abstract.{ANY, EQ, STRUCT, FUNC}
use Rattle.scope.specs.Syntax.{abstract, defined, exact, i32, i64, f32, Number, num, nullable, non_null, struct, Definition, types_of}
use Rattle.scope.specs.Instructions.{Cast, Op, unreachable, nop, return, drop_value, br, br_if, local_get, local_set, local_tee, i32_const, i64_const, numeric, ref_null, ref_is_null, ref_eq, ref_as_non_null, struct_new, struct_new_default, struct_get, struct_set, ref_test, ref_cast, br_on_cast, br_on_cast_fail, struct_new_desc, struct_new_default_desc, ref_get_desc, ref_cast_desc_eq, br_on_cast_desc_eq, br_on_cast_desc_eq_fail, block, loop, end, op}
use Rattle.scope.specs.Bodies.{Code}
use Rattle.scope.specs.Machine.{Value, number, null, object, Object, Store, Block, open_block, open_loop, Machine, Program, Outcome, goes, ends, traps, stuck, step}
use Rattle.facts_steps.specs.Places.{state}

-- type 0 holds a reference and an i64, both mutable, and has descriptor 1; type 1 describes it and holds an i32; type 2 is a subtype of 1
abbrev pub definitions : List Definition
definitions =
    record { is_open = true; supers = []; describes = none; descriptor = some 1; form = struct (record { holds = nullable (abstract ANY); mutable = true } ∷ record { holds = num i64; mutable = true } ∷ []); from = 0; to = 0; reach = 3 }
    ∷ record { is_open = true; supers = []; describes = some 0; descriptor = none; form = struct (record { holds = num i32; mutable = false } ∷ []); from = 0; to = 0; reach = 3 }
    ∷ record { is_open = true; supers = 1 ∷ []; describes = none; descriptor = none; form = struct (record { holds = non_null (abstract EQ); mutable = false } ∷ []); from = 0; to = 0; reach = 3 }
    ∷ []

abbrev pub program : Program
program = record { types = types_of definitions; results = 1 }

abbrev pub first : Object
first = record { type = 1; descriptor = none; fields = number i32 7 ∷ [] }

abbrev pub second : Object
second = record { type = 0; descriptor = some 0; fields = null ∷ number i64 0x1_0000_0002 ∷ [] }

abbrev pub heap : Store
heap = first ∷ second ∷ []

abbrev pub locals : List (Option Value)
locals = some (number i32 5) ∷ none ∷ []

-- after the instruction: its loop's end, an instruction, its block's end, an instruction, the function's end
abbrev pub after : Code
after = (40, end) ∷ (41, op nop) ∷ (42, end) ∷ (43, op drop_value) ∷ (44, end) ∷ []

-- the loop's own code
abbrev pub again : Code
again = (31, op nop) ∷ after

abbrev pub in_loop : Block
in_loop = open_loop 30 (number i32 8 ∷ []) again

abbrev pub in_block : Block
in_block = open_block 20 1 (null ∷ [])

abbrev pub blocks : List Block
blocks = in_loop ∷ in_block ∷ []

-- on with these operands and nothing else changed
abbrev pub on : List Value → Outcome
on vs = goes (state heap locals vs blocks after)

-- out of the block with this value on top of what lay below it
abbrev pub out : Value → Outcome
out v = goes (state heap locals (v ∷ null ∷ []) [] ((43, op drop_value) ∷ (44, end) ∷ []))

-- to the loop again
abbrev pub round : Outcome
round = goes (state heap locals [] blocks again)

-- out of the function with this result
abbrev pub done : Value → Outcome
done v = ends (state heap locals (v ∷ []) [] [])

abbrev pub to_block : Cast
to_block = record { label = 1; source_null = true; source = abstract ANY; target_null = false; target = exact 0 }

abbrev pub to_block_null : Cast
to_block_null = record { label = 1; source_null = true; source = abstract ANY; target_null = true; target = defined 0 }

pub record Sample : Type 0 where
  pub before : List Value
  pub instruction : Op
  pub gives : Outcome

abbrev pub sample : List Value → Op → Outcome → Sample
sample vs o r = record { before = vs; instruction = o; gives = r }

abbrev pub machine : Sample → Machine
machine s = state heap locals s.before blocks ((39, op s.instruction) ∷ after)

-- each comes to what is written
pub data AllDo : List Sample → Type 0 where
  none_left_lem : AllDo []
  also_does : {s : Sample} {more : List Sample} → step program (machine s) ≡ s.gives → AllDo more → AllDo (s ∷ more)

abbrev pub yes : Value
yes = number i32 1

abbrev pub no : Value
no = number i32 0

abbrev pub control : List Sample
control =
    sample (null ∷ []) unreachable (traps 41)
    ∷ sample (null ∷ []) nop (on (null ∷ []))
    ∷ sample (yes ∷ null ∷ []) return (done yes)
    ∷ sample (yes ∷ null ∷ []) drop_value (on (null ∷ []))
    ∷ sample [] drop_value stuck
    -- the loop, the block, the function
    ∷ sample (yes ∷ null ∷ []) (br 0) round
    ∷ sample (yes ∷ null ∷ []) (br 1) (out yes)
    ∷ sample (yes ∷ null ∷ []) (br 2) (done yes)
    ∷ sample (yes ∷ null ∷ []) (br 3) stuck
    -- taken on anything but zero
    ∷ sample (no ∷ yes ∷ []) (br_if 1) (on (yes ∷ []))
    ∷ sample (yes ∷ no ∷ []) (br_if 1) (out no)
    ∷ sample (number i32 2 ∷ no ∷ []) (br_if 1) (out no)
    ∷ sample (number i32 0x8000_0000 ∷ no ∷ []) (br_if 0) round
    ∷ sample (number i64 1 ∷ no ∷ []) (br_if 1) stuck
    ∷ []

abbrev pub plain_ones : List Sample
plain_ones =
    sample (null ∷ []) (local_get 0) (on (number i32 5 ∷ null ∷ []))
    -- no value until it is set
    ∷ sample (null ∷ []) (local_get 1) stuck
    ∷ sample (yes ∷ null ∷ []) (local_set 1) (goes (state heap (some (number i32 5) ∷ some yes ∷ []) (null ∷ []) blocks after))
    ∷ sample (yes ∷ null ∷ []) (local_tee 1) (goes (state heap (some (number i32 5) ∷ some yes ∷ []) (yes ∷ null ∷ []) blocks after))
    ∷ sample (yes ∷ []) (local_set 2) stuck
    ∷ sample [] (i32_const 9) (on (number i32 9 ∷ []))
    ∷ sample [] (i64_const 9) (on (number i64 9 ∷ []))
    -- i32.sub, the second operand on top; i32.mul is not done
    ∷ sample (number i32 3 ∷ number i32 10 ∷ null ∷ []) (numeric 0x6B) (on (number i32 7 ∷ null ∷ []))
    ∷ sample (number i32 3 ∷ number i32 10 ∷ null ∷ []) (numeric 0x6C) (traps 46)
    ∷ sample (number i64 3 ∷ number i32 10 ∷ null ∷ []) (numeric 0x6B) stuck
    ∷ []

abbrev pub references : List Sample
references =
    sample [] (ref_null (abstract FUNC)) (on (null ∷ []))
    ∷ sample (null ∷ []) ref_is_null (on (yes ∷ []))
    ∷ sample (object 0 ∷ []) ref_is_null (on (no ∷ []))
    ∷ sample (null ∷ null ∷ yes ∷ []) ref_eq (on (yes ∷ yes ∷ []))
    ∷ sample (object 1 ∷ object 1 ∷ []) ref_eq (on (yes ∷ []))
    ∷ sample (object 0 ∷ object 0 ∷ []) ref_eq (on (yes ∷ []))
    ∷ sample (object 0 ∷ object 1 ∷ []) ref_eq (on (no ∷ []))
    ∷ sample (object 1 ∷ object 0 ∷ []) ref_eq (on (no ∷ []))
    ∷ sample (object 0 ∷ null ∷ []) ref_eq (on (no ∷ []))
    ∷ sample (null ∷ object 0 ∷ []) ref_eq (on (no ∷ []))
    ∷ sample (object 0 ∷ []) ref_as_non_null (on (object 0 ∷ []))
    ∷ sample (null ∷ []) ref_as_non_null (traps 42)
    ∷ []

abbrev pub structs : List Sample
structs =
    -- the last field on top
    sample (number i64 3 ∷ object 0 ∷ yes ∷ []) (struct_new 0) (goes (state (first ∷ second ∷ record { type = 0; descriptor = none; fields = object 0 ∷ number i64 3 ∷ [] } ∷ []) locals (object 2 ∷ yes ∷ []) blocks after))
    ∷ sample (yes ∷ []) (struct_new_default 0) (goes (state (first ∷ second ∷ record { type = 0; descriptor = none; fields = null ∷ number i64 0 ∷ [] } ∷ []) locals (object 2 ∷ yes ∷ []) blocks after))
    ∷ sample (object 0 ∷ number i64 3 ∷ null ∷ yes ∷ []) (struct_new_desc 0) (goes (state (first ∷ second ∷ record { type = 0; descriptor = some 0; fields = null ∷ number i64 3 ∷ [] } ∷ []) locals (object 2 ∷ yes ∷ []) blocks after))
    ∷ sample (object 0 ∷ yes ∷ []) (struct_new_default_desc 0) (goes (state (first ∷ second ∷ record { type = 0; descriptor = some 0; fields = null ∷ number i64 0 ∷ [] } ∷ []) locals (object 2 ∷ yes ∷ []) blocks after))
    ∷ sample (null ∷ []) (struct_new_desc 0) (traps 43)
    ∷ sample (null ∷ []) (struct_new_default_desc 0) (traps 43)
    -- a field without a default
    ∷ sample [] (struct_new_default 2) stuck
    ∷ sample (object 1 ∷ yes ∷ []) (struct_get 0 1) (on (number i64 0x1_0000_0002 ∷ yes ∷ []))
    ∷ sample (object 0 ∷ yes ∷ []) (struct_get 1 0) (on (number i32 7 ∷ yes ∷ []))
    ∷ sample (null ∷ []) (struct_get 0 1) (traps 42)
    ∷ sample (object 0 ∷ object 1 ∷ yes ∷ []) (struct_set 0 0) (goes (state (first ∷ record { type = 0; descriptor = some 0; fields = object 0 ∷ number i64 0x1_0000_0002 ∷ [] } ∷ []) locals (yes ∷ []) blocks after))
    ∷ sample (number i64 4 ∷ object 1 ∷ yes ∷ []) (struct_set 0 1) (goes (state (first ∷ record { type = 0; descriptor = some 0; fields = null ∷ number i64 4 ∷ [] } ∷ []) locals (yes ∷ []) blocks after))
    ∷ sample (yes ∷ null ∷ []) (struct_set 0 1) (traps 42)
    ∷ sample (object 1 ∷ yes ∷ []) (ref_get_desc 0) (on (object 0 ∷ yes ∷ []))
    ∷ sample (null ∷ []) (ref_get_desc 0) (traps 42)
    ∷ []

abbrev pub casts : List Sample
casts =
    sample (null ∷ []) (ref_test true (defined 0)) (on (yes ∷ []))
    ∷ sample (null ∷ []) (ref_test false (defined 0)) (on (no ∷ []))
    ∷ sample (object 1 ∷ []) (ref_test false (exact 0)) (on (yes ∷ []))
    ∷ sample (object 1 ∷ []) (ref_test false (abstract STRUCT)) (on (yes ∷ []))
    ∷ sample (object 1 ∷ []) (ref_test true (defined 1)) (on (no ∷ []))
    ∷ sample (object 1 ∷ yes ∷ []) (ref_cast false (defined 0)) (on (object 1 ∷ yes ∷ []))
    ∷ sample (object 1 ∷ yes ∷ []) (ref_cast true (defined 1)) (traps 44)
    ∷ sample (null ∷ []) (ref_cast true (defined 1)) (on (null ∷ []))
    ∷ sample (null ∷ []) (ref_cast false (defined 1)) (traps 44)
    -- the very descriptor, another object, an object without one, null
    ∷ sample (object 0 ∷ object 1 ∷ yes ∷ []) (ref_cast_desc_eq false (exact 0)) (on (object 1 ∷ yes ∷ []))
    ∷ sample (object 1 ∷ object 1 ∷ []) (ref_cast_desc_eq false (exact 0)) (traps 44)
    ∷ sample (object 0 ∷ object 0 ∷ []) (ref_cast_desc_eq true (exact 0)) (traps 44)
    ∷ sample (object 0 ∷ null ∷ []) (ref_cast_desc_eq true (exact 0)) (on (null ∷ []))
    ∷ sample (object 0 ∷ null ∷ []) (ref_cast_desc_eq false (exact 0)) (traps 44)
    -- a null descriptor first, whatever the object
    ∷ sample (null ∷ null ∷ []) (ref_cast_desc_eq true (exact 0)) (traps 43)
    ∷ sample (null ∷ object 1 ∷ []) (ref_cast_desc_eq false (exact 0)) (traps 43)
    ∷ []

abbrev pub branching_casts : List Sample
branching_casts =
    sample (object 1 ∷ yes ∷ []) (br_on_cast to_block) (out (object 1))
    ∷ sample (object 0 ∷ yes ∷ []) (br_on_cast to_block) (on (object 0 ∷ yes ∷ []))
    ∷ sample (null ∷ yes ∷ []) (br_on_cast to_block) (on (null ∷ yes ∷ []))
    ∷ sample (null ∷ yes ∷ []) (br_on_cast to_block_null) (out null)
    ∷ sample (object 1 ∷ yes ∷ []) (br_on_cast_fail to_block) (on (object 1 ∷ yes ∷ []))
    ∷ sample (object 0 ∷ yes ∷ []) (br_on_cast_fail to_block) (out (object 0))
    ∷ sample (null ∷ yes ∷ []) (br_on_cast_fail to_block) (out null)
    ∷ sample (object 0 ∷ object 1 ∷ yes ∷ []) (br_on_cast_desc_eq to_block) (out (object 1))
    ∷ sample (object 1 ∷ object 1 ∷ yes ∷ []) (br_on_cast_desc_eq to_block) (on (object 1 ∷ yes ∷ []))
    ∷ sample (object 0 ∷ null ∷ yes ∷ []) (br_on_cast_desc_eq to_block_null) (out null)
    ∷ sample (null ∷ object 1 ∷ []) (br_on_cast_desc_eq to_block) (traps 43)
    ∷ sample (null ∷ null ∷ []) (br_on_cast_desc_eq to_block_null) (traps 43)
    ∷ sample (object 0 ∷ object 1 ∷ yes ∷ []) (br_on_cast_desc_eq_fail to_block) (on (object 1 ∷ yes ∷ []))
    ∷ sample (object 1 ∷ object 1 ∷ yes ∷ []) (br_on_cast_desc_eq_fail to_block) (out (object 1))
    ∷ sample (object 0 ∷ null ∷ yes ∷ []) (br_on_cast_desc_eq_fail to_block) (out null)
    ∷ sample (null ∷ object 1 ∷ []) (br_on_cast_desc_eq_fail to_block) (traps 43)
    ∷ sample (null ∷ null ∷ []) (br_on_cast_desc_eq_fail to_block_null) (traps 43)
    ∷ []
