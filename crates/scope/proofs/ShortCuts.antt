-- Why exactness is needed. With each of document 01's three short cuts taken, a section and a body would be accepted, and
-- their run, computed, comes to read a field that is not there; under the rules each is refused, with number and place.
-- The checker with a part exchanged is `accepts`: it walks straight code by the plan and the operand test that it is given.
use Prim.Native.Nat.{ℕ, zero, suc}
use mathlib.Core.Path.{◌≡◌, refl}
use mathlib.Core.Bool.{Bool, true, false, not, cond, ◌&&◌, ◌||◌}
use mathlib.Core.Option.{Option}
use mathlib.Core.List.{List, [], ◌∷◌, ◌++◌}
use lib.ListN.{length}
use lib.Dec.{eqb}
use Rattle.scope.specs.Sizes.{most_steps}
use Rattle.scope.specs.Refusals.{bad_operand, no_match, clause_not_on_struct, describes_not_earlier, clauses_disagree, bad_descriptor, bad_describes}
use Rattle.scope.specs.Reading.{Read, got, refused, given}
use Rattle.scope.specs.Lists.{joined}
use Rattle.scope.specs.Syntax.{Heap, abstract, defined, exact, i32, Val, num, ref, nullable, non_null, Definition, Types, types_of}
use Rattle.scope.specs.Sections.{read_after, empty_library}
use Rattle.scope.specs.Order.{climbs}
use Rattle.scope.specs.TypeRules.{matches_super, clauses_on_struct, describes_earlier, clauses_agree, descriptor_follows}
use Rattle.scope.specs.Judging.{accepted, rejected, first_broken, links_fault, scan, judge_joined, plain}
use Rattle.scope.specs.Instructions.{Op, block, loop, end, op, instr_at}
use Rattle.scope.specs.BodyRules.{Context, Scope, Wanted, value, any_value, any_reference, values, Plan, Ruled, allowed, fault, test, and_ruled, takes, from_top, reached, struct_of, described, defaulted, plan_of}
use Rattle.scope.specs.Bodies.{Operand, known, unknown, unknown_reference, fits, Taken, also_taken, State, scope_of, after_plan, Code, Body, start_state, context_of, judge_body}
use Rattle.scope.specs.Machine.{Value, number, null, object, Object, object_of}
use Rattle.scope.specs.Running.{Ending, done, trapped, spent, wrong, run, start_of, program_of, place_of}
use Rattle.scope.proofs.Computes.{computes}

-- a checker of straight code

abbrev PlanAt : Type 0
PlanAt = ℕ → Context → Scope → Op → Ruled Plan

abbrev Fits : Type 0
Fits = Types → Operand → Wanted → Bool

abbrev yes_to : {A : Type 0} → Ruled A → (A → Bool) → Bool
yes_to (allowed x) f = f x
yes_to (fault n) f = false

abbrev empty : {A : Type 0} → List A → Bool
empty [] = true
empty (x ∷ xs) = false

take_by : Fits → Types → List Wanted → List Operand → Ruled Taken
take_by fit ts [] os = allowed (record { taken = []; left = os })
take_by fit ts (w ∷ ws) [] = fault bad_operand
take_by fit ts (w ∷ ws) (o ∷ os) = test (fit ts o w) bad_operand (and_ruled (take_by fit ts ws os) (λ t. allowed (also_taken o t)))

accepts : PlanAt → Fits → Context → State → Code → Bool
accepts plan fit c st [] = false
accepts plan fit c st ((at, block rs) ∷ code) = false
accepts plan fit c st ((at, loop rs) ∷ code) = false
accepts plan fit c st ((at, end) ∷ code) = yes_to (take_by fit c.types (from_top c.results) st.operands) (λ t. empty t.left && empty code)
accepts plan fit c st ((at, op o) ∷ code) =
    yes_to (plan at c (scope_of c st) o) (λ p.
    yes_to (take_by fit c.types p.wants st.operands) (λ t. accepts plan fit c (after_plan c st p t) code))

-- the instructions that the bytes hold from a place on
abbrev on_read : {A B : Type 0} → Read A → B → (A → ℕ → B) → B
on_read (got x next) other f = f x next
on_read (refused n p) other f = other

code_from : ℕ → List ℕ → ℕ → Code
code_from zero s at = []
code_from (suc n) s at = on_read (instr_at s at) [] (λ i next. (at, i) ∷ code_from n s next)

pub types_in : List ℕ → List Definition
types_in s = on_read (read_after 0 s) [] (λ gs stop. joined gs)

-- the body with these locals and this code, of type () → i32
body_of : List ℕ → List Val → Code → Body
body_of section ls code =
    record { types = types_in section; function = record { parameters = []; results = num i32 ∷ [] }; locals = ls; code = code }

pub accepted_by : PlanAt → Fits → Body → Bool
accepted_by plan fit b =
    accepts plan fit (context_of b.types b.function b.locals) (start_state b.function b.locals) b.code

-- a run that is stuck before a read of field i of x, where the object on top has so many fields: the steps, the place, x,
-- i, the fields
abbrev fields_there : List Object → List Value → List ℕ
fields_there heap [] = []
fields_there heap (number k n ∷ vs) = []
fields_there heap (null ∷ vs) = []
fields_there heap (object o ∷ vs) = given (object_of heap o) [] (λ it. length it.fields ∷ [])

abbrev stuck_at : List ℕ → Ending → List ℕ
stuck_at s (done steps m) = []
stuck_at s (trapped n steps m) = []
stuck_at s (spent steps m) = []
stuck_at s (wrong steps m) = steps ∷ place_of s m.code ∷ fields_there m.heap m.operands

pub ends_in : List ℕ → Body → List ℕ
ends_in s b = stuck_at s (run (program_of b) 100 0 (start_of b))

-- The bytes of the first and the third: a short type 0 with descriptor 1; a long type 2 below it, with descriptor 3 below 1.

pub short_and_long : List ℕ
short_and_long =
    (0x02 ∷ 0x4E ∷ 0x04 ∷ 0x50 ∷ 0x00 ∷ 0x4D ∷ 0x01 ∷ 0x5F ∷ 0x00 ∷ 0x50 ∷ 0x00 ∷ 0x4C ∷ 0x00 ∷ 0x5F ∷ 0x00 ∷ [])
    ++ (0x50 ∷ 0x01 ∷ 0x00 ∷ 0x4D ∷ 0x03 ∷ 0x5F ∷ 0x01 ∷ 0x7F ∷ 0x00 ∷ 0x50 ∷ 0x01 ∷ 0x01 ∷ 0x4C ∷ 0x02 ∷ 0x5F ∷ 0x00 ∷ [])
    ++ (0x60 ∷ 0x00 ∷ 0x01 ∷ 0x7F ∷ [])

-- a descriptor of the long type, in local 0; at 10 it is given to an object of the short type; at 15 the descriptor cast to
-- the long type passes; at 18 field 0 of the long type is read
pub long_descriptor : List ℕ
long_descriptor =
    (0x01 ∷ 0x01 ∷ 0x63 ∷ 0x62 ∷ 0x03 ∷ 0xFB ∷ 0x01 ∷ 0x03 ∷ 0x22 ∷ 0x00 ∷ 0xFB ∷ 0x21 ∷ 0x00 ∷ [])
    ++ (0x20 ∷ 0x00 ∷ 0xFB ∷ 0x23 ∷ 0x02 ∷ 0xFB ∷ 0x02 ∷ 0x02 ∷ 0x00 ∷ 0x0B ∷ [])

pub long_descriptor_body : Body
long_descriptor_body = body_of short_and_long (nullable (exact 3) ∷ []) (code_from 100 long_descriptor 5)

-- as the rules stand
pub ruled : PlanAt
ruled at c here o = plan_of c here o

pub long_descriptor_refused : judge_body empty_library short_and_long long_descriptor 4 ≡ rejected bad_operand (plain 10)
unfolding computes short_and_long long_descriptor
long_descriptor_refused = refl

-- First: (ref y) is enough for struct.new_desc. So the rule of the one at 10 is read.

cut_descriptor : Context → ℕ → Ruled Plan
cut_descriptor c x =
    reached c (x ∷ [])
    (struct_of c x (λ fs.
    described c x (λ y. defaulted fs (takes (value (nullable (defined y)) ∷ []) (values (non_null (exact x) ∷ []))))))

pub first_cut : PlanAt
first_cut at c here o = let as_is = plan_of c here o in cond (eqb at 10) (cut_descriptor c 0) as_is

pub first_cut_lem : (accepted_by ruled fits long_descriptor_body ≡ false) × (accepted_by first_cut fits long_descriptor_body ≡ true) × (ends_in long_descriptor long_descriptor_body ≡ 5 ∷ 18 ∷ 0 ∷ [])
unfolding computes take_by accepts code_from types_in body_of accepted_by ends_in short_and_long long_descriptor long_descriptor_body ruled cut_descriptor first_cut
first_cut_lem = (refl, refl, refl)

-- Third: exact x is above an exact subtype.

abbrev exact_above : Types → ℕ → Heap → Bool
exact_above ts x (abstract a) = false
exact_above ts x (defined y) = false
exact_above ts x (exact y) = climbs most_steps ts x y

abbrev exact_chain : Types → Heap → Heap → Bool
exact_chain ts (abstract a) k = false
exact_chain ts (defined x) k = false
exact_chain ts (exact x) k = exact_above ts x k

abbrev below_too : Types → Val → Val → Bool
below_too ts (num a) w = false
below_too ts (ref n h) (num b) = false
below_too ts (ref n h) (ref m k) = (not n || m) && exact_chain ts h k

abbrev taken_too : Types → Operand → Wanted → Bool
taken_too ts (known v) (value w) = below_too ts v w
taken_too ts (known v) any_value = false
taken_too ts (known v) any_reference = false
taken_too ts unknown w = false
taken_too ts unknown_reference w = false

pub third_cut : Fits
third_cut ts o w = fits ts o w || taken_too ts o w

pub third_cut_lem : (accepted_by ruled third_cut long_descriptor_body ≡ true) × (ends_in long_descriptor long_descriptor_body ≡ 5 ∷ 18 ∷ 0 ∷ [])
unfolding computes take_by accepts code_from types_in body_of accepted_by ends_in short_and_long long_descriptor long_descriptor_body ruled third_cut
third_cut_lem = (refl, refl)

-- Second: 001's "Ok (but strange)". Type 0 has a field and descriptor 1; type 3, below 1, describes a stranger, type 2.

pub stranger : List ℕ
stranger =
    (0x02 ∷ 0x4E ∷ 0x04 ∷ 0x50 ∷ 0x00 ∷ 0x4D ∷ 0x01 ∷ 0x5F ∷ 0x01 ∷ 0x7F ∷ 0x00 ∷ 0x50 ∷ 0x00 ∷ 0x4C ∷ 0x00 ∷ 0x5F ∷ 0x00 ∷ [])
    ++ (0x4D ∷ 0x03 ∷ 0x5F ∷ 0x00 ∷ 0x50 ∷ 0x01 ∷ 0x01 ∷ 0x4C ∷ 0x02 ∷ 0x5F ∷ 0x00 ∷ [])
    ++ (0x60 ∷ 0x00 ∷ 0x01 ∷ 0x7F ∷ [])

-- an object of the stranger passes the descriptor cast to type 0 by its own descriptor; at 18 field 0 of type 0 is read
pub strange_cast : List ℕ
strange_cast =
    (0x01 ∷ 0x01 ∷ 0x63 ∷ 0x62 ∷ 0x03 ∷ 0xFB ∷ 0x01 ∷ 0x03 ∷ 0x22 ∷ 0x00 ∷ 0xFB ∷ 0x21 ∷ 0x02 ∷ [])
    ++ (0x20 ∷ 0x00 ∷ 0xFB ∷ 0x23 ∷ 0x00 ∷ 0xFB ∷ 0x02 ∷ 0x00 ∷ 0x00 ∷ 0x0B ∷ [])

pub strange_body : Body
strange_body = body_of stranger (nullable (exact 3) ∷ []) (code_from 100 strange_cast 5)

pub stranger_refused : judge_joined empty_library stranger ≡ rejected bad_describes (plain 3)
unfolding computes stranger
stranger_refused = refl

-- every rule but the fifth
pub all_but_rule5 : Types → ℕ → Option ℕ
all_but_rule5 ts x =
    first_broken
    ((matches_super ts x, no_match)
    ∷ (clauses_on_struct ts x, clause_not_on_struct)
    ∷ (describes_earlier ts x, describes_not_earlier)
    ∷ (clauses_agree ts x, clauses_disagree)
    ∷ (descriptor_follows ts x, bad_descriptor)
    ∷ [])

pub second_cut :
    (scan (links_fault (types_of (types_in stranger))) 0 5 ≡ accepted 5)
    × (scan (all_but_rule5 (types_of (types_in stranger))) 0 5 ≡ accepted 5)
    × (accepted_by ruled fits strange_body ≡ true)
    × (ends_in strange_cast strange_body ≡ 5 ∷ 18 ∷ 0 ∷ [])
unfolding computes take_by accepts code_from types_in body_of accepted_by ends_in stranger strange_cast strange_body ruled all_but_rule5
second_cut = (refl, refl, refl, refl)
