-- What the laws of a run speak of: how an ending reads, the steps that a run took, which of them made an object, and
-- whether code has a `loop`.
use Rattle.std.specs.Prelude.{ℕ, zero, suc, Bool, true, false, not, cond, ◌&&◌, List, [], ◌∷◌}
use Rattle.scope.specs.Lists.{some_of}
use Rattle.scope.specs.Instructions.{Op, unreachable, nop, return, drop_value, br, br_if, local_get, local_set, local_tee, i32_const, i64_const, f32_const, f64_const, numeric, ref_null, ref_is_null, ref_eq, ref_as_non_null, struct_new, struct_new_default, struct_get, struct_set, ref_test, ref_cast, br_on_cast, br_on_cast_fail, struct_new_desc, struct_new_default_desc, ref_get_desc, ref_cast_desc_eq, br_on_cast_desc_eq, br_on_cast_desc_eq_fail, Instr, block, loop, end, op}
use Rattle.scope.specs.Judging.{Judged, accepted, rejected}
use Rattle.scope.specs.Bodies.{Code}
use Rattle.scope.specs.Machine.{Machine, Program, OutcomeOf, Outcome, goes, ends, traps, stuck, step}
use Rattle.scope.specs.Running.{EndingOf, done, trapped, spent, wrong, Trial}

-- endings, of any machine

abbrev pub is_spent : {M : Type 0} → EndingOf M → Bool
is_spent (done steps m) = false
is_spent (trapped number steps m) = false
is_spent (spent steps m) = true
is_spent (wrong steps m) = false

abbrev pub steps_of : {M : Type 0} → EndingOf M → ℕ
steps_of (done steps m) = steps
steps_of (trapped number steps m) = steps
steps_of (spent steps m) = steps
steps_of (wrong steps m) = steps

-- a run that was made and is spent
abbrev pub ran_out : Judged Trial → Bool
ran_out (accepted t) = is_spent t.ending
ran_out (rejected n p) = false

-- with more budget: a run that is spent goes on from where it stands, any other has ended
abbrev pub gone_on : {M : Type 0} → EndingOf M → (ℕ → M → EndingOf M) → EndingOf M
gone_on (done steps m) more = done steps m
gone_on (trapped number steps m) more = trapped number steps m
gone_on (spent steps m) more = more steps m
gone_on (wrong steps m) more = wrong steps m

-- the steps of a run

-- a trapping step is a step; where the machine is stuck there is none
abbrev pub steps_from : {M : Type 0} → OutcomeOf M → M → (M → List M) → List M
steps_from (goes later) m more = m ∷ more later
steps_from (ends later) m more = m ∷ []
steps_from (traps number) m more = m ∷ []
steps_from stuck m more = []

-- the machines at which the steps of a run with this budget were taken, the first one first
unfoldable pub taken_by : {M : Type 0} → (M → OutcomeOf M) → ℕ → M → List M
taken_by next zero m = []
taken_by next (suc left) m = steps_from (next m) m (λ later. taken_by next left later)

unfoldable pub taken : Program → ℕ → Machine → List Machine
taken p left m = taken_by (step p) left m

-- allocation

abbrev pub makes_object : Op → Bool
makes_object unreachable = false
makes_object nop = false
makes_object return = false
makes_object drop_value = false
makes_object (br l) = false
makes_object (br_if l) = false
makes_object (local_get x) = false
makes_object (local_set x) = false
makes_object (local_tee x) = false
makes_object (i32_const n) = false
makes_object (i64_const n) = false
makes_object (f32_const n) = false
makes_object (f64_const n) = false
makes_object (numeric b) = false
makes_object (ref_null h) = false
makes_object ref_is_null = false
makes_object ref_eq = false
makes_object ref_as_non_null = false
makes_object (struct_new x) = true
makes_object (struct_new_default x) = true
makes_object (struct_get x i) = false
makes_object (struct_set x i) = false
makes_object (ref_test n h) = false
makes_object (ref_cast n h) = false
makes_object (br_on_cast k) = false
makes_object (br_on_cast_fail k) = false
makes_object (struct_new_desc x) = true
makes_object (struct_new_default_desc x) = true
makes_object (ref_get_desc x) = false
makes_object (ref_cast_desc_eq n h) = false
makes_object (br_on_cast_desc_eq k) = false
makes_object (br_on_cast_desc_eq_fail k) = false

abbrev pub is_allocation : Instr → Bool
is_allocation (block rs) = false
is_allocation (loop rs) = false
is_allocation end = false
is_allocation (op o) = makes_object o

-- the first instruction is one of struct.new, struct.new_default, struct.new_desc, struct.new_default_desc
abbrev pub starts_with_allocation : Code → Bool
starts_with_allocation [] = false
starts_with_allocation (i ∷ code) = is_allocation i.1

-- the next instruction
abbrev pub allocates : Machine → Bool
allocates m = starts_with_allocation m.code

abbrev pub is_trap : Outcome → Bool
is_trap (goes later) = false
is_trap (ends later) = false
is_trap (traps number) = true
is_trap stuck = false

-- one more where the test passes
abbrev pub one_more_if : Bool → ℕ → ℕ
one_more_if b n = cond b (suc n) n

abbrev pub count_of : {A : Type 0} → (A → Bool) → List A → ℕ
count_of f [] = 0
count_of f (x ∷ xs) = one_more_if (f x) (count_of f xs)

-- "the number of allocation steps that didn't trap"
abbrev pub allocations : Program → List Machine → ℕ
allocations p ms = count_of (λ m. allocates m && not (is_trap (step p m))) ms

-- loops

abbrev pub is_loop : Instr → Bool
is_loop (block rs) = false
is_loop (loop rs) = true
is_loop end = false
is_loop (op o) = false

abbrev pub has_loop : Code → Bool
has_loop code = some_of (λ i. is_loop i.1) code
