-- Reading a section: groups, definitions, clauses, forms, fields and value types. Byte faults in reading order.
use Rattle.std.specs.Prelude.{ℕ, zero, suc, ◌+◌, ◌-◌, Bool, true, false, cond, List, [], ◌∷◌, length, eqb, ltb}
use Rattle.std.proofs.Math.Option.{Option, none, some}
use Rattle.scope.specs.Sizes.{most_bytes, most_types, most_each}
use Rattle.scope.specs.Refusals.{not_listed, oversize, left_over}
use Rattle.scope.specs.Reading.{Read, got, refused, Reader, given, then, on_byte, entries}
use Rattle.scope.specs.Numbers.{Whole, plus, minus, u32, s33}
use Rattle.scope.specs.Abstract.{abstract_of}
use Rattle.scope.specs.Syntax.{Heap, abstract, defined, exact, Number, i32, i64, f32, f64, Val, num, ref, Field, Form, struct, func, Definition, Group}

-- Heap: 62 x (exact x), an abstract code, or a type number as a non-negative s33
abbrev pub type_number : ℕ → Whole → ℕ → Read Heap
type_number at (plus x) next = got (defined x) next
type_number at (minus x) next = refused not_listed at

unfoldable pub heap_at : Reader Heap
heap_at s at =
    on_byte s at (λ b.
    let number = then (s33 s at) (type_number at) in
    let named = given (abstract_of b) number (λ a. got (abstract a) (at + 1)) in
    cond (eqb b 0x62) (then (u32 s (at + 1)) (λ x next. got (exact x) next)) named)

-- Value types: 7F i32, 7E i64, 7D f32, 7C f64, 63 heap (nullable), 64 heap; an abstract code alone is its nullable reference
abbrev pub number_of : ℕ → Option Number
number_of b = cond (eqb b 0x7F) (some i32) (cond (eqb b 0x7E) (some i64) (cond (eqb b 0x7D) (some f32) (cond (eqb b 0x7C) (some f64) none)))

unfoldable pub val_at : Reader Val
val_at s at =
    on_byte s at (λ b.
    let listed = given (abstract_of b) (refused not_listed at) (λ a. got (ref true (abstract a)) (at + 1)) in
    let reference = then (heap_at s (at + 1)) (λ h next. got (ref (eqb b 0x63) h) next) in
    let other = cond (eqb b 0x63) reference (cond (eqb b 0x64) reference listed) in
    given (number_of b) other (λ n. got (num n) (at + 1)))

-- Field: value type, then 00 fixed or 01 mutable
abbrev pub flag_at : Reader Bool
flag_at s at = on_byte s at (λ b. cond (eqb b 0x00) (got false (at + 1)) (cond (eqb b 0x01) (got true (at + 1)) (refused not_listed at)))

unfoldable pub field_at : Reader Field
field_at s at = then (val_at s at) (λ v next. then (flag_at s next) (λ m end. got (record { holds = v; mutable = m }) end))

-- a list of at most 64: fields, parameters or results
unfoldable pub few_at : {A : Type 0} → Reader A → Reader (List A)
few_at one s at = then (u32 s at) (λ n next. entries one most_each n s next)

-- a list of supertypes: several are no byte fault
unfoldable pub supers_at : Reader (List ℕ)
supers_at s at = then (u32 s at) (λ n next. entries u32 n n s next)

-- 50 (open) or 4F (final) with a list of supertypes, or neither (final, none)
pub record Head : Type 0 where
  pub is_open : Bool
  pub supers : List ℕ

unfoldable pub head_at : Reader Head
head_at s at =
    on_byte s at (λ b.
    let subtyped = then (supers_at s (at + 1)) (λ xs next. got (record { is_open = eqb b 0x50; supers = xs }) next) in
    cond (eqb b 0x50) subtyped (cond (eqb b 0x4F) subtyped (got (record { is_open = false; supers = [] }) at)))

-- then optionally a clause: its code and a number
unfoldable pub clause_at : ℕ → Reader (Option ℕ)
clause_at code s at = on_byte s at (λ b. cond (eqb b code) (then (u32 s (at + 1)) (λ x next. got (some x) next)) (got none at))

-- 4C x, describes x
abbrev pub describes_code : ℕ
describes_code = 0x4C

-- 4D y, descriptor y
abbrev pub descriptor_code : ℕ
descriptor_code = 0x4D

-- then 5F and a list of fields, or 60 with parameters and results
unfoldable pub form_at : Reader Form
form_at s at =
    on_byte s at (λ b.
    let structure = then (few_at field_at s (at + 1)) (λ fs next. got (struct fs) next) in
    let function = then (few_at val_at s (at + 1)) (λ ps next. then (few_at val_at s next) (λ rs end. got (func ps rs) end)) in
    cond (eqb b 0x5F) structure (cond (eqb b 0x60) function (refused not_listed at)))

-- a definition of a group that reaches so far
unfoldable pub definition_at : ℕ → Reader Definition
definition_at reach s at =
    then (head_at s at) (λ h clauses.
    then (clause_at describes_code s clauses) (λ d next.
    then (clause_at descriptor_code s next) (λ e form.
    then (form_at s form) (λ f end.
    got (record { is_open = h.is_open; supers = h.supers; describes = d; descriptor = e; form = f; from = at; to = end; reach = reach }) end))))

-- Group: 4E and a list of definitions, or one definition alone; `first` types stand before it. 1,024 types: at the start
-- of a group after them, no byte is 1 and any but 4E is 4.
unfoldable pub group_at : ℕ → Reader Group
group_at first s at =
    on_byte s at (λ b.
    let several = then (u32 s (at + 1)) (λ n next. entries (definition_at (first + n)) (most_types - first) n s next) in
    let alone = then (definition_at (first + 1) s at) (λ d next. got (d ∷ []) next) in
    cond (eqb b 0x4E) several (cond (ltb first most_types) alone (refused oversize at)))

unfoldable pub groups_at : ℕ → ℕ → Reader (List Group)
groups_at zero first s at = got [] at
groups_at (suc n) first s at =
    then (group_at first s at) (λ g next. then (groups_at n (first + length g) s next) (λ gs end. got (g ∷ gs) end))

-- nothing follows: 5 at the first byte that is left
abbrev pub ended : {A : Type 0} → List ℕ → A → ℕ → Read A
ended s x at = cond (eqb at (length s)) (got x at) (refused left_over at)

-- A section is the content of a type section: a list of groups. The whole size comes before the bytes. So many types stand
-- before it: none before a library's, and the library's before an add-on's, whose "own numbers run on after it".
unfoldable pub read_after : ℕ → List ℕ → Read (List Group)
read_after first s =
    let groups = then (u32 s 0) (λ n next. then (groups_at n first s next) (ended s)) in
    cond (ltb most_bytes (length s)) (refused oversize 0) groups

-- "A library of no types (the byte 00)"
abbrev pub empty_library : List ℕ
empty_library = 0x00 ∷ []
