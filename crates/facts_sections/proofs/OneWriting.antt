-- One writing for each piece of syntax, from the numbers up. The shortest writings of one number are as long as each other, and seven
-- bits a byte then say every byte. Lists go entry by entry; a definition's length and a group's place tell which way was taken.
use Prim.Native.Nat.{ℕ, ◌+◌, ◌-◌, ◌*◌, ◌^◌, ◌%◌, ◌<◌, ◌≤◌}
use native.Mathlib.Omega.{arith}
use native.Mathlib.Nat.{mod-lt}
use mathlib.Core.Path.{◌≡◌, refl, ap, ap₂}
use mathlib.Core.Logic.{◌⊎◌, inl, inr}
use mathlib.Core.Bool.{Bool, true}
use mathlib.Core.Option.{Option}
use mathlib.Core.List.{List, [], ◌∷◌, ◌++◌, map}
use lib.ListN.{length, length-append}
use lib.Dec.{ltb, lit<}
use borrow.Author.Tests.{ltb-true}
use Rattle.scope.specs.Numbers.{Whole}
use Rattle.scope.specs.Abstract.{Abstract, row}
use Rattle.scope.specs.Syntax.{Heap, abstract, Val, ref, Field, Form, Definition, Group}
use Rattle.scope.specs.Reading.{got}
use Rattle.scope.specs.Lists.{every}
use Rattle.scope.specs.Sections.{Head, read_after}
use Rattle.scope.proofs.Computes.{computes}
use Rattle.scope.proofs.Impossible.{impossible}
use Rattle.facts_sections.specs.Writing.{Sevens, last_seven, seven_more, Twos, not_negative, negative, Shortest, none_shorter, a_numeral, Unsigned, Signed, WritesHeap, exact_type, abstract_code_lem, is_type_number, WritesVal, i32_type, i64_type, f32_type, f64_type, nullable_reference, reference, abstract_alone, WritesFlag, fixed_flag, mutable_flag, WritesField, a_field, Entries, no_entry, an_entry, Counted, count_and_entries, Anywhere, Listed, listed, WritesHead, open_with_supertypes, final_with_supertypes, neither, WritesClause, a_clause, no_clause, WritesForm, a_struct_form, a_func_form, WritesDefinition, a_definition, WritesGroup, several, alone, WritesGroups, no_group, a_group, WritesSection, a_section}
use Rattle.facts_sections.specs.OneWriting.{All, none_left_lem, also, Bytes, OneWay, a_number, not_null, nullable_number, nullable_exact, OneWayForm, a_struct, a_function, OneWayGroups, OneWriting, read_unplaced, TwoWritings, several_writings, same_places, one_way, one_way_groups, HowFar}
use Rattle.facts_sections.proofs.NumberKinds.{both_true, sevens_below, sevens_some}
use Rattle.facts_sections.proofs.SectionReading.{section_found}

all_apart : {A : Type 0} {P : A → Type 0} (w : List A) {u : List A} → All P (w ++ u) → All P w × All P u
all_apart [] us = (none_left_lem, us)
all_apart (b ∷ w) (also p more) = let (ws, us) = all_apart w more in (also p ws, us)

-- Numbers

sevens_one : {w u : List ℕ} {v x : ℕ} → Bytes w → Bytes u → Sevens w v → Sevens u x → v ≡ x → length w ≡ length u → w ≡ u
sevens_one ws us (last_seven {b = b} low) (last_seven {b = c} less) e size = rw e
sevens_one ws us (last_seven low) (seven_more high more) e size = absurd (let some = sevens_some more in omega arith)
sevens_one ws us (seven_more high more) (last_seven low) e size = absurd (let some = sevens_some more in omega arith)
sevens_one (also small ws) (also least us) (seven_more {b = b} {v = v} high more) (seven_more {b = c} {v = x} higher rest) e size =
    let low : b % 128 < 128 = mod-lt b (lit< tt) in
    let less : c % 128 < 128 = mod-lt c (lit< tt) in
    let value : v ≡ x = omega arith in
    let byte : b ≡ c = omega arith in
    ap₂ (λ (y : ℕ) (ys : List ℕ). y ∷ ys) byte (sevens_one ws us more rest value (omega arith))

as_long : {A : Type 0} {W : List ℕ → A → Type 0} {w u : List ℕ} {x : A} → W w x → W u x → Shortest W w x → Shortest W u x → length w ≡ length u
as_long {w = w} {u} p q (none_shorter least) (none_shorter fewest) =
    let one : length w ≤ length u = least u q in let other : length u ≤ length w = fewest w p in omega arith

natural_one : (width : ℕ) {w u : List ℕ} {v : ℕ} → Bytes w → Bytes u → Unsigned width w v → Unsigned width u v → w ≡ u
natural_one width ws us (a_numeral p short range least) (a_numeral q brief within fewest) = sevens_one ws us p q refl (as_long p q least fewest)

-- the sign is told by the bits, so two writings of one whole number that are as long have the same bits
twos_one : {w u : List ℕ} {x y : Whole} → Bytes w → Bytes u → Twos w x → Twos u y → x ≡ y → length w ≡ length u → w ≡ u
twos_one ws us (not_negative {v = v} p low) (not_negative {v = n} q less) e size =
    let same : v ≡ n = cc in sevens_one ws us p q same size
twos_one ws us (not_negative p low) (negative q high) e size = impossible cc
twos_one ws us (negative p high) (not_negative q low) e size = impossible cc
twos_one {w} {u} ws us (negative {v = v} p high) (negative {v = n} q higher) e size =
    let lacks : 2 ^ (7 * length w) - v ≡ 2 ^ (7 * length u) - n = cc in
    let weight : 2 ^ (7 * length w) ≡ 2 ^ (7 * length u) = rw size in
    let below : v < 2 ^ (7 * length w) = sevens_below p in
    let under : n < 2 ^ (7 * length u) = sevens_below q in
    sevens_one ws us p q (omega arith) size

whole-one : (width : ℕ) {w u : List ℕ} {v : Whole} → Bytes w → Bytes u → Signed width w v → Signed width u v → w ≡ u
whole-one width ws us (a_numeral p short range least) (a_numeral q brief within fewest) = twos_one ws us p q refl (as_long p q least fewest)

-- Heap types, value types, fields

heap_one : {w u : List ℕ} {h : Heap} → Bytes w → Bytes u → WritesHeap w h → WritesHeap u h → w ≡ u
heap_one (also b ws) (also c us) (exact_type n) (exact_type m) = ap (λ (w : List ℕ). 0x62 ∷ w) (natural_one 32 ws us n m)
heap_one ws us abstract_code_lem abstract_code_lem = refl
heap_one ws us (is_type_number n) (is_type_number m) = whole-one 33 ws us n m
heap_one (also b ws) none_left_lem (exact_type {w = w} n) x24 = elim x24 [ ]

val_one : {w u : List ℕ} {v : Val} → OneWay v → Bytes w → Bytes u → WritesVal w v → WritesVal u v → w ≡ u
val_one a_number ws us i32_type i32_type = refl
val_one a_number ws us i64_type i64_type = refl
val_one a_number ws us f32_type f32_type = refl
val_one a_number ws us f64_type f64_type = refl
val_one not_null (also b ws) (also c us) (reference h) (reference k) = ap (λ (w : List ℕ). 0x64 ∷ w) (heap_one ws us h k)
val_one nullable_number (also b ws) (also c us) (nullable_reference h) (nullable_reference k) = ap (λ (w : List ℕ). 0x63 ∷ w) (heap_one ws us h k)
val_one nullable_exact (also b ws) (also c us) (nullable_reference h) (nullable_reference k) = ap (λ (w : List ℕ). 0x63 ∷ w) (heap_one ws us h k)
val_one {u = u} (not_null {h = h}) none_left_lem us x11 _ = elim x11 [ ]
val_one (not_null {h = h}) (also {xs = xs} b ws) none_left_lem _ x18 = elim x18 [ ]
val_one {u = u} nullable_number none_left_lem us x14 _ = elim x14 [ ]
val_one nullable_number (also {xs = xs} b ws) none_left_lem _ x22 = elim x22 [ ]
val_one {u = u} nullable_exact none_left_lem us x15 _ = elim x15 [ ]
val_one nullable_exact (also {xs = xs} b ws) none_left_lem _ x23 = elim x23 [ ]

either_way : {w : List ℕ} {a : Abstract} → WritesVal w (ref true (abstract a)) → (w ≡ (row a).code ∷ []) ⊎ (w ≡ 0x63 ∷ (row a).code ∷ [])
either_way (nullable_reference abstract_code_lem) = inr refl
either_way abstract_alone = inl refl

either_back : {w : List ℕ} {a : Abstract} → (w ≡ (row a).code ∷ []) ⊎ (w ≡ 0x63 ∷ (row a).code ∷ []) → WritesVal w (ref true (abstract a))
either_back (inl e) = rw e abstract_alone
either_back (inr e) = rw e (nullable_reference abstract_code_lem)

flag_one : {w u : List ℕ} {m : Bool} → WritesFlag w m → WritesFlag u m → w ≡ u
flag_one fixed_flag fixed_flag = refl
flag_one mutable_flag mutable_flag = refl

field_one : {w u : List ℕ} {f : Field} → OneWay f.holds → Bytes w → Bytes u → WritesField w f → WritesField u f → w ≡ u
field_one way ws us (a_field {w = w} v m) (a_field {w = u} x n) =
    ap₂ (λ (a b : List ℕ). a ++ b) (val_one way (all_apart w ws).0 (all_apart u us).0 v x) (flag_one m n)

-- Lists: entry by entry, wherever they stand

-- what keeps P has one writing
record Once {A : Type 0} (W : ℕ → List ℕ → A → Type 0) (P : A → Type 0) : Type 0 where
  one : {at from : ℕ} {w u : List ℕ} {x : A} → P x → Bytes w → Bytes u → W at w x → W from u x → w ≡ u

module _ {A : Type 0} {W : ℕ → List ℕ → A → Type 0} {P : A → Type 0} (once : Once W P) where
  entries-one : {at from : ℕ} {w u : List ℕ} {xs : List A} → All P xs → Bytes w → Bytes u → Entries W at w xs → Entries W from u xs → w ≡ u
  entries-one none_left_lem ws us no_entry no_entry = refl
  entries-one {at = at} {from = from} (also p ps) ws us (an_entry {w = w} x xs) (an_entry {w = u} y ys) =
      let (first, rest) = all_apart w ws in
      let (begins, more) = all_apart u us in
      ap₂ (λ (a b : List ℕ). a ++ b) (once.one p first begins x y) (entries-one {at = at + length w} {from = from + length u} ps rest more xs ys)

  counted-one : {at from : ℕ} {w u : List ℕ} {xs : List A} → All P xs → Bytes w → Bytes u → Counted W at w xs → Counted W from u xs → w ≡ u
  counted-one ps ws us (count_and_entries {w = w} n xs) (count_and_entries {w = u} m ys) =
      let (first, rest) = all_apart w ws in
      let (begins, more) = all_apart u us in
      ap₂ (λ (a b : List ℕ). a ++ b) (natural_one 32 first begins n m) (entries-one ps rest more xs ys)

listed-one : {A : Type 0} {W : List ℕ → A → Type 0} {P : A → Type 0} → Once (Anywhere W) P → {w u : List ℕ} {xs : List A} → All P xs → Bytes w → Bytes u → Listed W w xs → Listed W u xs → w ≡ u
listed-one once ps ws us (listed xs) (listed ys) = counted-one once ps ws us xs ys

values_once : Once (Anywhere WritesVal) OneWay
values_once = record { one = val_one }

fields_once : Once (Anywhere WritesField) (λ f. OneWay f.holds)
fields_once = record { one = field_one }

-- any number
abbrev Any : ℕ → Type 0
Any x = Unit {0}

all_any : (xs : List ℕ) → All Any xs
all_any [] = none_left_lem
all_any (x ∷ xs) = also tt (all_any xs)

supers_one : {w u : List ℕ} {xs : List ℕ} → Bytes w → Bytes u → Listed (Unsigned 32) w xs → Listed (Unsigned 32) u xs → w ≡ u
supers_one {xs = xs} ws us l m = listed-one (record { one = λ any first second n k. natural_one 32 first second n k }) (all_any xs) ws us l m

-- Definitions

-- of a head of the same length: 4F 00 is longer than nothing
head_one : {w u : List ℕ} {h : Head} → Bytes w → Bytes u → WritesHead w h → WritesHead u h → length w ≡ length u → w ≡ u
head_one (also b ws) (also c us) (open_with_supertypes l) (open_with_supertypes m) size = ap (λ (w : List ℕ). 0x50 ∷ w) (supers_one ws us l m)
head_one (also b ws) (also c us) (final_with_supertypes l) (final_with_supertypes m) size = ap (λ (w : List ℕ). 0x4F ∷ w) (supers_one ws us l m)
head_one ws us (final_with_supertypes l) neither size = absurd (omega arith)
head_one ws us neither (final_with_supertypes l) size = absurd (omega arith)
head_one ws us neither neither size = refl
head_one (also b ws) none_left_lem (open_with_supertypes {w = w} {xs = xs} l) x30 size = elim x30 [ ]

clause_one : (code : ℕ) {w u : List ℕ} {x : Option ℕ} → Bytes w → Bytes u → WritesClause code w x → WritesClause code u x → w ≡ u
clause_one code (also b ws) (also c us) (a_clause n) (a_clause m) = ap (λ (w : List ℕ). code ∷ w) (natural_one 32 ws us n m)
clause_one code ws us no_clause no_clause = refl
clause_one code (also b ws) none_left_lem (a_clause {w = w} n) x26 = elim x26 [ ]

form_one : {w u : List ℕ} {f : Form} → OneWayForm f → Bytes w → Bytes u → WritesForm w f → WritesForm u f → w ≡ u
form_one (a_struct fs) (also b ws) (also c us) (a_struct_form l) (a_struct_form m) = ap (λ (w : List ℕ). 0x5F ∷ w) (listed-one fields_once fs ws us l m)
form_one (a_function ps rs) (also b ws) (also c us) (a_func_form {w = w} p r) (a_func_form {w = u} q s) =
    let (first, rest) = all_apart w ws in
    let (begins, more) = all_apart u us in
    ap₂ (λ (a b : List ℕ). 0x60 ∷ a ++ b) (listed-one values_once ps first begins p q) (listed-one values_once rs rest more r s)
form_one {u = u} (a_struct fs) none_left_lem _ x17 _ = elim x17 [ ]
form_one (a_struct fs) (also {xs = xs} b ws) none_left_lem _ x24 = elim x24 [ ]
form_one {u = u} (a_function ps rs) none_left_lem _ x18 _ = elim x18 [ ]
form_one (a_function ps rs) (also {xs = xs} b ws) none_left_lem _ x25 = elim x25 [ ]

head_same : {h k : Head} → h.is_open ≡ k.is_open → h.supers ≡ k.supers → h ≡ k
head_same {h} {k} e f = ap₂ (λ (o : Bool) (xs : List ℕ). record { is_open = o; supers = xs }) e f

-- as much as is left, where what stands behind is as long
as_much : (w u c : List ℕ) → length (w ++ c) ≡ length (u ++ c) → length w ≡ length u
as_much w u c e =
    let one : length (w ++ c) ≡ length w + length c = length-append w c in let other : length (u ++ c) ≡ length u + length c = length-append u c in omega arith

-- a definition's own length tells whether 4F 00 stands before it
definition_one : {reach far at from : ℕ} {w u : List ℕ} {d e : Definition} → d ≡ e → OneWayForm d.form → Bytes w → Bytes u → WritesDefinition reach at w d → WritesDefinition far from u e → w ≡ u
definition_one same way ws us (a_definition {at = at} {w = w} {c = c} {e = e} {u = u} {h = h} {x = x} {y = y} {f = f} head describes descriptor form) (a_definition {at = from} {w = w'} {c = c'} {e = e'} {u = u'} {h = h'} {x = x'} {y = y'} {f = f'} head' describes' descriptor' form') =
    let begins : at ≡ from = ap (λ (d : Definition). d.from) same in
    let ends : at + length (w ++ (c ++ (e ++ u))) ≡ from + length (w' ++ (c' ++ (e' ++ u'))) = ap (λ (d : Definition). d.to) same in
    let heads : h ≡ h' = head_same (ap (λ (d : Definition). d.is_open) same) (ap (λ (d : Definition). d.supers) same) in
    let (ws₁, ws₂) = all_apart w ws in
    let (ws₃, ws₄) = all_apart c ws₂ in
    let (ws₅, ws₆) = all_apart e ws₄ in
    let (us₁, us₂) = all_apart w' us in
    let (us₃, us₄) = all_apart c' us₂ in
    let (us₅, us₆) = all_apart e' us₄ in
    let cs : c ≡ c' = clause_one _ ws₃ us₃ (rw (ap (λ (d : Definition). d.describes) same) at describes) describes' in
    let es : e ≡ e' = clause_one _ ws₅ us₅ (rw (ap (λ (d : Definition). d.descriptor) same) at descriptor) descriptor' in
    let fs : u ≡ u' = form_one (rw (ap (λ (d : Definition). d.form) same) at way) ws₆ us₆ (rw (ap (λ (d : Definition). d.form) same) at form) form' in
    let rest : c ++ (e ++ u) ≡ c' ++ (e' ++ u') = rw (cs, es, fs) in
    let long : length (w ++ (c ++ (e ++ u))) ≡ length (w' ++ (c' ++ (e' ++ u'))) = omega arith in
    let size : length w ≡ length w' = as_much w w' (c' ++ (e' ++ u')) (rw rest at long) in
    ap₂ (λ (a b : List ℕ). a ++ b) (head_one ws₁ us₁ (rw heads at head) head' size) rest

-- Groups

definitions_once : (reach : ℕ) → Once (WritesDefinition reach) (λ d. OneWayForm d.form)
definitions_once reach = record { one = λ way ws us d e. definition_one refl way ws us d e }

begins_at_lem : {reach at : ℕ} {w : List ℕ} {d : Definition} → WritesDefinition reach at w d → d.from ≡ at
begins_at_lem (a_definition head describes descriptor form) = refl

-- a definition alone begins where its group does, and one of several later
alone_begins : {reach far at : ℕ} {w u : List ℕ} {d : Definition} → WritesDefinition reach at w d → Counted (WritesDefinition far) (at + 1) u (d ∷ []) → ⊥
alone_begins {d = d} first (count_and_entries n (an_entry other none)) =
    let here = begins_at_lem first in let there = begins_at_lem other in omega arith

group_one : {first at : ℕ} {w u : List ℕ} {g : Group} → All (λ d. OneWayForm d.form) g → Bytes w → Bytes u → WritesGroup first at w g → WritesGroup first at u g → w ≡ u
group_one {first} ways (also b ws) (also c us) (several {ds = ds} l) (several m) = ap (λ (w : List ℕ). 0x4E ∷ w) (counted-one (definitions_once (first + length ds)) ways ws us l m)
group_one ways ws us (several l) (alone d) = absurd (alone_begins d l)
group_one ways ws us (alone d) (several l) = absurd (alone_begins d l)
group_one (also way none_left_lem) ws us (alone d) (alone e) = definition_one refl way ws us d e

groups_one : {first at from : ℕ} {w u : List ℕ} {gs : List Group} → at ≡ from → OneWayGroups gs → Bytes w → Bytes u → WritesGroups first at w gs → WritesGroups first from u gs → w ≡ u
groups_one same none_left_lem ws us no_group no_group = refl
groups_one {first = before} {at = at} {from = from} same (also {x = g'} way ways) ws us (a_group {w = w} g gs) (a_group {w = u} k ks) =
    let (first, rest) = all_apart w ws in
    let (begins, more) = all_apart u us in
    let bytes : w ≡ u = group_one way first begins (rw same at g) k in
    let next : at + length w ≡ from + length u = rw (same, bytes) in
    ap₂ (λ (a b : List ℕ). a ++ b) bytes (groups_one {first = before + length g'} next ways rest more gs ks)

section-one : {first : ℕ} {w u : List ℕ} {gs : List Group} → OneWayGroups gs → Bytes w → Bytes u → WritesSection first w gs → WritesSection first u gs → w ≡ u
section-one ways ws us (a_section {w = w} n gs) (a_section {w = u} m ks) =
    let (first, rest) = all_apart w ws in
    let (begins, more) = all_apart u us in
    let count : w ≡ u = natural_one 32 first begins n m in
    ap₂ (λ (a b : List ℕ). a ++ b) count (groups_one (ap length count) ways rest more gs ks)

pub one_writing : OneWriting
one_writing = record { naturals = natural_one; wholes = whole-one; heaps = heap_one; clauses = clause_one; values = val_one; either = (either_way, either_back); sections = section-one }

-- how far that goes

several_same : map (λ (t : TwoWritings). read_unplaced t.one) several_writings ≡ map (λ (t : TwoWritings). read_unplaced t.other) several_writings
unfolding computes
several_same = refl

places_same : read_after 0 same_places.one ≡ read_after 0 same_places.other
unfolding computes
places_same = refl

one_way_read : read_after 0 one_way ≡ got one_way_groups 12
unfolding computes
one_way_read = refl

one_way_written : WritesSection 0 one_way one_way_groups
one_way_written = (section_found 0 (omega arith) one_way one_way_read).section.writing

bytes_below : (w : List ℕ) → every (λ b. ltb b 256) w ≡ true → Bytes w
bytes_below [] e = none_left_lem
bytes_below (b ∷ w) e = let (low, more) = both_true (ltb b 256) (every (λ b. ltb b 256) w) e in also (ltb-true b 256 low) (bytes_below w more)

pub how_far : HowFar
how_far =
    record {
      unplaced_same = several_same;
      placed_same = places_same;
      met = (one_way_written, λ u us writes. section-one (also (also (a_struct (also a_number (also nullable_number (also not_null none_left_lem)))) none_left_lem) none_left_lem) us (bytes_below one_way refl) writes one_way_written);
    }
