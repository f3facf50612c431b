-- The numbers and places of a body's refusals: each case of `BodySaysNo` has its own; readers refuse with byte faults inside
-- the input or at its length, and an instruction's fault stands at the first byte of an instruction.
use Prim.Native.Nat.{ℕ, ◌≤◌}
use native.Mathlib.Omega.{arith}
use mathlib.Core.Path.{◌≡◌, refl}
use mathlib.Core.Bool.{true}
use mathlib.Core.List.{List, [], ◌∷◌, ◌++◌, map}
use lib.ListN.{length}
use Rattle.scope.specs.Refusals.{bytes_end, not_listed, bad_operand, only_null, bad_struct, oversize}
use Rattle.scope.specs.Reading.{Read, got, refused}
use Rattle.scope.specs.Numbers.{u32}
use Rattle.scope.specs.declared.Place.{Place}
use Rattle.scope.specs.Judging.{plain}
use Rattle.scope.specs.Syntax.{Val, Definition}
use Rattle.scope.specs.Sections.{val_at, empty_library}
use Rattle.scope.specs.Instructions.{Op, Instr, block, loop, end, op, unreachable, nop, return, drop_value, br, br_if, local_get, local_set, local_tee, i32_const, i64_const, f32_const, f64_const, numeric, ref_null, ref_is_null, ref_eq, ref_as_non_null, struct_new, struct_new_default, struct_get, struct_set, ref_test, ref_cast, br_on_cast, br_on_cast_fail, struct_new_desc, struct_new_default_desc, ref_get_desc, ref_cast_desc_eq, br_on_cast_desc_eq, br_on_cast_desc_eq_fail}
use Rattle.scope.specs.BodyRules.{Context, Scope}
use Rattle.scope.specs.Bodies.{State, scope_of, Function}
use Rattle.scope.proofs.Computes.{computes}
use Rattle.scope.proofs.Forward.{never_back, unsigned-takes, val_takes}
use Rattle.scope.proofs.ForwardBodies.{instr_takes}
use Rattle.facts_sections.proofs.FaultOrder.{refused_exactly}
use Rattle.facts_sections.specs.FirstFault as rules
use Rattle.facts_sections.specs.FirstFault.{FirstBroken, broken, kept_then}
use Rattle.facts_codes.specs.Proper.{CodeListed, ProperOp, Proper}
use Rattle.facts_codes.proofs.Proper.{instr_proper}
use Rattle.facts_bodies.specs.Premises.{Each, of_none, of_first}
use Rattle.facts_bodies.specs.Typing.{Entry, EntriesAt, no_entry, next_entry, InstrsAt, no_instr, next_instr}
use Rattle.facts_refusals.specs.Numbers.{is_left_over, InstructionFault, type_out_of_reach, is_absent, is_bad_struct, is_field_fixed, is_bad_branch, is_no_default, is_not_set, is_only_null, is_bad_operand, is_values_left, is_too_many, entry_out_of_reach, entry_too_many}
use Rattle.facts_refusals.specs.Instructions.{Question, code_listed, heaps_reached, type_reached, label_there, local_there, is_struct, has_field, no_descriptor, has_descriptor, cast_described, field_mutable, supertype_shared, label_has_types, label_takes, all_defaults, local_is_set, number_of, rule_of, asks, rising}
use Rattle.facts_refusals.specs.Bodies.{conditions, FaultAt, in_bytes, in_instruction, EntryFault, count_bytes, type_bytes, type_unreached, too_many, FaultyEntry, this_entry, later_entry, LocalsStand, BodySaysNo, by_section, by_size, by_type, by_count, by_locals, by_instruction, by_rest, BodyPlace, of_section, of_whole_size, of_type_number, of_bytes, of_entry, of_instruction, BodyRefusals}
use Rattle.facts_refusals.proofs.Reading.{Heeds, unsigned_heeds, val_heeds}
use Rattle.facts_refusals.proofs.ReadingBodies.{instr_heeds}
use Rattle.facts_refusals.proofs.Sections.{heeded, says_no_lem}
use Rattle.facts_refusals.proofs.Faulty.{instruction_fault}
use Rattle.facts_refusals.proofs.Bodies.{body-no, body-no_exactly}

-- an instruction's numbers

-- What is asked, where the instruction was read: a numeric code then is listed, so 3 is none of its numbers.
abbrev Answered : Context → Scope → Question → Type 0
Answered c here (code_listed b) = CodeListed b
Answered c here (heaps_reached hs) = Unit {0}
Answered c here (type_reached x) = Unit {0}
Answered c here (label_there l) = Unit {0}
Answered c here (local_there x) = Unit {0}
Answered c here (is_struct x) = Unit {0}
Answered c here (has_field x i) = Unit {0}
Answered c here (no_descriptor x) = Unit {0}
Answered c here (has_descriptor x) = Unit {0}
Answered c here (cast_described h) = Unit {0}
Answered c here (field_mutable x i) = Unit {0}
Answered c here (supertype_shared k) = Unit {0}
Answered c here (label_has_types l) = Unit {0}
Answered c here (label_takes l v) = Unit {0}
Answered c here (all_defaults x) = Unit {0}
Answered c here (local_is_set x) = Unit {0}

question_number : (c : Context) (here : Scope) (q : Question) → Answered c here q → ¬ (rule_of c here q).says → InstructionFault (number_of q)
question_number c here (code_listed b) a wrong = absurd (wrong a)
question_number c here (heaps_reached hs) a wrong = type_out_of_reach
question_number c here (type_reached x) a wrong = type_out_of_reach
question_number c here (label_there l) a wrong = is_absent
question_number c here (local_there x) a wrong = is_absent
question_number c here (is_struct x) a wrong = is_bad_struct
question_number c here (has_field x i) a wrong = is_bad_struct
question_number c here (no_descriptor x) a wrong = is_bad_struct
question_number c here (has_descriptor x) a wrong = is_bad_struct
question_number c here (cast_described h) a wrong = is_bad_struct
question_number c here (field_mutable x i) a wrong = is_field_fixed
question_number c here (supertype_shared k) a wrong = is_bad_branch
question_number c here (label_has_types l) a wrong = is_bad_branch
question_number c here (label_takes l v) a wrong = is_bad_branch
question_number c here (all_defaults x) a wrong = is_no_default
question_number c here (local_is_set x) a wrong = is_not_set

asked-number : (c : Context) (here : Scope) (qs : List Question) {later : List rules.Rule} {n : ℕ} → Each (Answered c here) qs
    → ((m : ℕ) → FirstBroken later m → InstructionFault m) → FirstBroken (map (rule_of c here) qs ++ later) n → InstructionFault n
asked-number c here [] a more b = more _ b
asked-number c here (q ∷ qs) (of_first a rest) more (broken wrong) = question_number c here q a wrong
asked-number c here (q ∷ qs) (of_first a rest) more (kept_then p b) = asked-number c here qs rest more b

answered : (s : List ℕ) (c : Context) (here : Scope) (o : Op) → ProperOp s o → Each (Answered c here) (asks o)
answered s c here unreachable proper = of_none
answered s c here nop proper = of_none
answered s c here return proper = of_none
answered s c here drop_value proper = of_none
answered s c here (br l) proper = of_first tt of_none
answered s c here (br_if l) proper = of_first tt of_none
answered s c here (local_get x) proper = of_first tt (of_first tt of_none)
answered s c here (local_set x) proper = of_first tt of_none
answered s c here (local_tee x) proper = of_first tt of_none
answered s c here (i32_const n) proper = of_none
answered s c here (i64_const n) proper = of_none
answered s c here (f32_const n) proper = of_none
answered s c here (f64_const n) proper = of_none
answered s c here (numeric b) proper = of_first proper of_none
answered s c here (ref_null h) proper = of_first tt of_none
answered s c here ref_is_null proper = of_none
answered s c here ref_eq proper = of_none
answered s c here ref_as_non_null proper = of_none
answered s c here (struct_new x) proper = of_first tt (of_first tt (of_first tt of_none))
answered s c here (struct_new_default x) proper = of_first tt (of_first tt (of_first tt (of_first tt of_none)))
answered s c here (struct_get x i) proper = of_first tt (of_first tt (of_first tt of_none))
answered s c here (struct_set x i) proper = of_first tt (of_first tt (of_first tt (of_first tt of_none)))
answered s c here (ref_test n h) proper = of_first tt of_none
answered s c here (ref_cast n h) proper = of_first tt of_none
answered s c here (br_on_cast k) proper = of_first tt (of_first tt (of_first tt (of_first tt (of_first tt of_none))))
answered s c here (br_on_cast_fail k) proper = of_first tt (of_first tt (of_first tt (of_first tt (of_first tt of_none))))
answered s c here (struct_new_desc x) proper = of_first tt (of_first tt (of_first tt of_none))
answered s c here (struct_new_default_desc x) proper = of_first tt (of_first tt (of_first tt (of_first tt of_none)))
answered s c here (ref_get_desc x) proper = of_first tt (of_first tt of_none)
answered s c here (ref_cast_desc_eq n h) proper = of_first tt (of_first tt of_none)
answered s c here (br_on_cast_desc_eq k) proper = of_first tt (of_first tt (of_first tt (of_first tt (of_first tt (of_first tt of_none)))))
answered s c here (br_on_cast_desc_eq_fail k) proper = of_first tt (of_first tt (of_first tt (of_first tt (of_first tt (of_first tt of_none)))))

last_number : {N P Q : Type 0} {n : ℕ} → FirstBroken (record { says = N; number = only_null } ∷ record { says = P; number = bad_operand } ∷ record { says = Q; number = oversize } ∷ []) n → InstructionFault n
last_number (broken wrong) = is_only_null
last_number (kept_then n (broken wrong)) = is_bad_operand
last_number (kept_then n (kept_then p (broken wrong))) = is_too_many
last_number {N = N} {P = P} {Q = Q} (kept_then n (kept_then p (kept_then _ x16))) = elim x16 [ ]

condition_number : (s : List ℕ) (c : Context) (st : State) (i : Instr) {n : ℕ} → Proper s i → FirstBroken (conditions c st i) n → InstructionFault n
condition_number s c st (block rs) proper (broken wrong) = type_out_of_reach
condition_number s c st (block rs) proper (kept_then p (broken wrong)) = is_too_many
condition_number s c st (loop rs) proper (broken wrong) = type_out_of_reach
condition_number s c st (loop rs) proper (kept_then p (broken wrong)) = is_too_many
condition_number s c st end proper (broken wrong) = is_only_null
condition_number s c st end proper (kept_then n (broken wrong)) = is_bad_operand
condition_number s c st end proper (kept_then n (kept_then p (broken wrong))) = is_values_left
condition_number s c st end proper (kept_then n (kept_then p (kept_then q (broken wrong)))) = is_too_many
condition_number s c st (op o) proper b = asked-number c (scope_of c st) (asks o) (answered s c (scope_of c st) o proper) (λ m. last_number) b
condition_number s c st (block rs) {n = n} proper (kept_then p (kept_then _ x14)) = elim x14 [ ]
condition_number s c st (loop rs) {n = n} proper (kept_then p (kept_then _ x15)) = elim x15 [ ]
condition_number s c st end proper (kept_then n (kept_then p (kept_then q (kept_then _ x24)))) = elim x24 [ ]

in_order_lem : (o : Op) → rising (map number_of (asks o)) ≡ true
in_order_lem unreachable = refl
in_order_lem nop = refl
in_order_lem return = refl
in_order_lem drop_value = refl
in_order_lem (br l) = refl
in_order_lem (br_if l) = refl
in_order_lem (local_get x) = refl
in_order_lem (local_set x) = refl
in_order_lem (local_tee x) = refl
in_order_lem (i32_const n) = refl
in_order_lem (i64_const n) = refl
in_order_lem (f32_const n) = refl
in_order_lem (f64_const n) = refl
in_order_lem (numeric b) = refl
in_order_lem (ref_null h) = refl
in_order_lem ref_is_null = refl
in_order_lem ref_eq = refl
in_order_lem ref_as_non_null = refl
in_order_lem (struct_new x) = refl
in_order_lem (struct_new_default x) = refl
in_order_lem (struct_get x i) = refl
in_order_lem (struct_set x i) = refl
in_order_lem (ref_test n h) = refl
in_order_lem (ref_cast n h) = refl
in_order_lem (br_on_cast k) = refl
in_order_lem (br_on_cast_fail k) = refl
in_order_lem (struct_new_desc x) = refl
in_order_lem (struct_new_default_desc x) = refl
in_order_lem (ref_get_desc x) = refl
in_order_lem (ref_cast_desc_eq n h) = refl
in_order_lem (br_on_cast_desc_eq k) = refl
in_order_lem (br_on_cast_desc_eq_fail k) = refl

-- places

module _ (library section s : List ℕ) (x : ℕ) where
  bytes_place : {A : Type 0} {r : Read A} {number place : ℕ} → Heeds (length s) r → r ≡ refused number place → BodyPlace library section s x number (plain place)
  bytes_place h e = let (number_is, inside) = heeded h e in of_bytes number_is inside

  -- a number that was read ends inside the body or at its length
  number-end : (at : ℕ) {n next : ℕ} → u32 s at ≡ got n next → next ≤ length s
  number-end at e = (never_back (unsigned-takes 32) s at e).1

  value_end : (at : ℕ) {next : ℕ} {v : Val} → val_at s at ≡ got v next → next ≤ length s
  value_end at e = (never_back val_takes s at e).1

  entry_place : {count at before number place : ℕ} → at ≤ length s → EntryFault count s at before number place → BodyPlace library section s x number (plain place)
  entry_place {at = at} h (count_bytes a) = bytes_place ((unsigned_heeds 32).heeds s at h) a
  entry_place {at = at} h (type_bytes {type = type} a b) = bytes_place (val_heeds.heeds s type (number-end at a)) b
  entry_place h (type_unreached a b unreached) = of_entry entry_out_of_reach h
  entry_place h (too_many a b reach many) = of_entry entry_too_many h

  entries_place : {count n from before number place : ℕ} → from ≤ length s → FaultyEntry count s n from before number place → BodyPlace library section s x number (plain place)
  entries_place h (this_entry f) = entry_place h f
  entries_place h (later_entry {type = type} a b reach few more) = entries_place (value_end type b) more

  entries-end : {from first : ℕ} {es : List Entry} → from ≤ length s → EntriesAt s from es first → first ≤ length s
  entries-end h no_entry = h
  entries-end h (next_entry {type = type} a b more) = entries-end (value_end type b) more

  instrs_end : {first at : ℕ} {is : List Instr} → first ≤ length s → InstrsAt s first is at → at ≤ length s
  instrs_end h no_instr = h
  instrs_end {first} h (next_instr read more) = instrs_end (never_back instr_takes s first read).1 more

  fault_place : {c : Context} {st : State} {at number place : ℕ} → at ≤ length s → FaultAt c st s at number place → BodyPlace library section s x number (plain place)
  fault_place {at = at} h (in_bytes e) = bytes_place (instr_heeds.heeds s at h) e
  fault_place {c} {st} h (in_instruction {i = i} read b) = of_instruction (condition_number s c st i ((instr_proper s _).tells i _ read) b) read

  stand_end : {ds : List Definition} {f : Function} {ls : List Val} {first : ℕ} → LocalsStand s ds f ls first → first ≤ length s
  stand_end stand = entries-end (number-end 0 stand.counted) stand.reads

  said_place : {number : ℕ} {place : Place} → BodySaysNo library section s x number place → BodyPlace library section s x number place
  said_place (by_section {number = n} {place = p} no') = of_section (says_no_lem library section n p ((refused_exactly library section n p).1 no'))
  said_place (by_size judged large) = of_whole_size
  said_place (by_type judged small no-type) = of_type_number
  said_place (by_count begins e) = bytes_place ((unsigned_heeds 32).heeds s 0 (omega arith)) e
  said_place (by_locals begins counted faulty) = entries_place (number-end 0 counted) faulty
  said_place (by_instruction begins stand faulty) = fault_place (instrs_end (stand_end stand) faulty.reads) faulty.faulty
  said_place (by_rest begins stand reads typed left) = of_bytes is_left_over (instrs_end (stand_end stand) reads)

pub body_refusals : BodyRefusals
body_refusals =
    record {
      exactly = body-no_exactly;
      first = λ c st ordered i number. instruction_fault c st (record { tested = ordered.tested }) i;
      in_order = in_order_lem;
      places = λ library section s x number place e. said_place library section s x (body-no library section s x e);
    }

-- Examples: document 01's two refused bodies of F1. struct.new of a type with a descriptor: 23 at the instruction at 1. The
-- descriptor of struct.new_desc comes from a local of type (ref 1): 20 at the instruction at 11.

abbrev F1 : List ℕ
F1 = 0x02 ∷ 0x4E ∷ 0x02 ∷ 0x4D ∷ 0x01 ∷ 0x5F ∷ 0x00 ∷ 0x4C ∷ 0x00 ∷ 0x5F ∷ 0x00 ∷ 0x60 ∷ 0x00 ∷ 0x01 ∷ 0x64 ∷ 0x62 ∷ 0x00 ∷ []

pub unwanted_descriptor_lem : BodySaysNo empty_library F1 (0x00 ∷ 0xFB ∷ 0x00 ∷ 0x00 ∷ 0x0B ∷ []) 2 bad_struct (plain 1)
unfolding computes
unwanted_descriptor_lem = body-no empty_library _ _ 2 refl

pub inexact_descriptor_lem : BodySaysNo empty_library F1 (0x01 ∷ 0x01 ∷ 0x64 ∷ 0x01 ∷ 0xFB ∷ 0x00 ∷ 0x01 ∷ 0x21 ∷ 0x00 ∷ 0x20 ∷ 0x00 ∷ 0xFB ∷ 0x20 ∷ 0x00 ∷ 0x0B ∷ []) 2 bad_operand (plain 11)
unfolding computes
inexact_descriptor_lem = body-no empty_library _ _ 2 refl

-- Request 1 of document 02: a cut float is 1 at the first of its bytes; C5 is no code; a number of another kind is 20.

abbrev gives_f32 : List ℕ
gives_f32 = 0x01 ∷ 0x60 ∷ 0x00 ∷ 0x01 ∷ 0x7D ∷ []

pub cut_float : BodySaysNo empty_library gives_f32 (0x00 ∷ 0x43 ∷ 0x00 ∷ 0x00 ∷ 0x80 ∷ []) 0 bytes_end (plain 2)
unfolding computes
cut_float = body-no empty_library _ _ 0 refl

pub past_the_range : BodySaysNo empty_library gives_f32 (0x00 ∷ 0xC5 ∷ 0x0B ∷ []) 0 not_listed (plain 1)
unfolding computes
past_the_range = body-no empty_library _ _ 0 refl

pub another_kind : BodySaysNo empty_library gives_f32 (0x00 ∷ 0x42 ∷ 0x00 ∷ 0x8C ∷ 0x0B ∷ []) 0 bad_operand (plain 3)
unfolding computes
another_kind = body-no empty_library _ _ 0 refl
