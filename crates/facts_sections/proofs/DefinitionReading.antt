-- Definitions are read exactly where they are written. What is optional is told by the byte that stands where it would
-- begin: no clause and no head begins with a byte with which what follows it can begin.
use Prim.Native.Nat.{ℕ, ◌+◌, ◌≤◌}
use native.Mathlib.Omega.{arith}
use mathlib.Core.Path.{◌≡◌, refl}
use mathlib.Core.Bool.{true, false, not}
use mathlib.Core.Option.{Option, some}
use mathlib.Core.List.Memᴰ
use mathlib.Core.List.{List, [], ◌∷◌, ◌++◌, Memᴰ}
use lib.ListN.{length, get_elem?}
use lib.Dec.{eqb}
use borrow.Author.Tests.{eqb-true, not-true}
use Rattle.scope.specs.Sizes.{most_each}
use Rattle.scope.specs.Lists.{every}
use Rattle.scope.specs.Reading.{got}
use Rattle.scope.specs.Syntax.{Form, struct, Definition}
use Rattle.scope.specs.Sections.{val_at, few_at, Head, head_at, clause_at, describes_code, descriptor_code, form_at, definition_at}
use Rattle.scope.proofs.Truths.{every-at}
use Rattle.facts_sections.specs.WithinSizes.{FormFits, few_fields, few_values, DefinitionFits}
use Rattle.facts_sections.specs.Writing.{Anywhere, WritesHead, open_with_supertypes, final_with_supertypes, neither, WritesClause, a_clause, no_clause, WritesForm, a_struct_form, a_func_form, WritesDefinition, a_definition}
use Rattle.facts_sections.specs.Between.{Between, nothing, byte}
use Rattle.facts_sections.proofs.Between.{join, split, split_at, end_is}
use Rattle.facts_sections.proofs.Readers.{Found, Reads, AnySize, refused_is_not_got, then_got, byte_got, by_cond, found_got, this_byte, coded}
use Rattle.facts_sections.proofs.NumberReading.{unsigned_reads}
use Rattle.facts_sections.proofs.ValueReading.{val_reads, field_reads}
use Rattle.facts_sections.proofs.ListReading.{Roomy, few_reads, supers_reads}

-- The byte that stands at a place is one of these

pub record First (s : List ℕ) (at : ℕ) (codes : List ℕ) : Type 0 where
  pub code : ℕ
  pub there : get_elem? s at ≡ some code
  pub among : Memᴰ code codes

pub not_among : {s : List ℕ} {at : ℕ} {codes : List ℕ} (f : First s at codes) (code : ℕ) → every (λ c. not (eqb c code)) codes ≡ true → eqb f.code code ≡ false
not_among f code e = not-true _ (every-at (λ c. not (eqb c code)) f.among e)

or-first : {s : List ℕ} {at : ℕ} (more : List ℕ) {codes : List ℕ} → First s at codes → First s at (more ++ codes)
or-first more f = record { code = f.code; there = f.there; among = Memᴰ.append_right more f.among }

abbrev pub form_codes : List ℕ
form_codes = 0x5F ∷ 0x60 ∷ []

abbrev pub definition_codes : List ℕ
definition_codes = 0x50 ∷ 0x4F ∷ describes_code ∷ descriptor_code ∷ form_codes

-- Heads

head_found : (s : List ℕ) (at : ℕ) {h : Head} {next : ℕ} → head_at s at ≡ got h next → Found (Anywhere WritesHead) AnySize s at h next
unfolding head_at
head_found s at e =
    let (b, there, f) = byte_got s at _ e in
    by_cond (eqb b 0x50)
    (λ same g. coded supers_reads 0x50 (λ xs. record { is_open = eqb b 0x50; supers = xs }) (λ w xs n. rw same (open_with_supertypes n)) (λ xs any. tt) there same g)
    (λ other g.
    by_cond (eqb b 0x4F)
    (λ same k. coded supers_reads 0x4F (λ xs. record { is_open = eqb b 0x50; supers = xs }) (λ w xs n. rw other (final_with_supertypes n)) (λ xs any. tt) there same k)
    (λ neither-one k. found_got k (record { bytes = []; lies = nothing; writes = neither; small = tt }))
    g)
    f

-- any list of supertypes has room
all_supers : (xs : List ℕ) → Roomy AnySize (λ n. n) xs
all_supers xs = record { each = record { such = λ x m. tt }; fits = omega arith }

head_read : {s w : List ℕ} {at next : ℕ} {h : Head} → Between s at w next → WritesHead w h → First s next (describes_code ∷ descriptor_code ∷ form_codes) → head_at s at ≡ got h next
unfolding head_at
head_read (byte there rest) (open_with_supertypes {xs = xs} n) f = rw (there, supers_reads.complete rest n (all_supers xs))
head_read (byte there rest) (final_with_supertypes {xs = xs} n) f = rw (there, supers_reads.complete rest n (all_supers xs))
head_read nothing neither f = rw (f.there, not_among f 0x50 refl, not_among f 0x4F refl)

-- Clauses

clause_found : (code : ℕ) (s : List ℕ) (at : ℕ) {c : Option ℕ} {next : ℕ} → clause_at code s at ≡ got c next → Found (Anywhere (WritesClause code)) AnySize s at c next
unfolding clause_at
clause_found code s at e =
    let (b, there, f) = byte_got s at _ e in
    by_cond (eqb b code)
    (λ same g. coded (unsigned_reads 32) code some (λ w x n. a_clause n) (λ x any. tt) there same g)
    (λ other g. found_got g (record { bytes = []; lies = nothing; writes = no_clause; small = tt }))
    f

clause_read : (code : ℕ) {s w codes : List ℕ} {at next : ℕ} {c : Option ℕ} → eqb code code ≡ true → every (λ c. not (eqb c code)) codes ≡ true
    → Between s at w next → WritesClause code w c → First s next codes → clause_at code s at ≡ got c next
unfolding clause_at
clause_read code itself others (byte there rest) (a_clause n) f = rw (there, itself, (unsigned_reads 32).complete rest n tt)
clause_read code itself others nothing no_clause f = rw (f.there, not_among f code others)

clause_first : {code : ℕ} {s w codes : List ℕ} {at next : ℕ} {c : Option ℕ} → Between s at w next → WritesClause code w c → First s next codes → First s at (code ∷ codes)
clause_first {code} (byte there rest) (a_clause n) f = record { code = code; there = there; among = Memᴰ.head refl }
clause_first nothing no_clause f = record { code = f.code; there = f.there; among = Memᴰ.tail f.among }

-- Forms

form_found : (s : List ℕ) (at : ℕ) {f : Form} {next : ℕ} → form_at s at ≡ got f next → Found (Anywhere WritesForm) FormFits s at f next
unfolding form_at
form_found s at e =
    let (b, there, g) = byte_got s at _ e in
    by_cond (eqb b 0x5F)
    (λ same k. coded (few_reads field_reads) 0x5F struct (λ w fs n. a_struct_form n) (λ fs room. few_fields room.fits) there same k)
    (λ other k.
    by_cond (eqb b 0x60)
    (λ same l.
    let (ps, mid, read-ps, m) = then_got (few_at val_at s (at + 1)) _ l in
    let (rs, end, read-rs, o) = then_got (few_at val_at s mid) _ m in
    let parameters = (few_reads val_reads).sound s (at + 1) read-ps in
    let results = (few_reads val_reads).sound s mid read-rs in
    found_got o
    (record {
      bytes = 0x60 ∷ parameters.bytes ++ results.bytes;
      lies = this_byte there (eqb-true b 0x60 same) (join parameters.lies results.lies);
      writes = a_func_form parameters.writes results.writes;
      small = few_values parameters.small.fits results.small.fits;
    }))
    (λ neither-one l. absurd (refused_is_not_got l))
    k)
    g

few_roomy : {A : Type 0} {xs : List A} → length xs ≤ most_each → Roomy AnySize (λ n. most_each) xs
few_roomy few = record { each = record { such = λ x m. tt }; fits = few }

form_read : {s w : List ℕ} {at next : ℕ} {f : Form} → Between s at w next → WritesForm w f → FormFits f → form_at s at ≡ got f next
unfolding form_at
form_read (byte there rest) (a_struct_form n) (few_fields few) = rw (there, (few_reads field_reads).complete rest n (few_roomy few))
form_read (byte there rest) (a_func_form {w = w} n m) (few_values few-ps few-rs) =
    let (first, second) = split_at w rest in
    let results = (few_reads val_reads).complete second m (few_roomy few-rs) in
    rw (there, (few_reads val_reads).complete first n (few_roomy few-ps), results)
form_read {s = s} {at = at} {f = f} nothing x9 _ = elim x9 [ ]

form_first : {s w : List ℕ} {at next : ℕ} {f : Form} → Between s at w next → WritesForm w f → First s at form_codes
form_first (byte there rest) (a_struct_form n) = record { code = 0x5F; there = there; among = Memᴰ.head refl }
form_first (byte there rest) (a_func_form n m) = record { code = 0x60; there = there; among = Memᴰ.tail (Memᴰ.head refl) }
form_first {s = s} {at = at} {f = f} nothing x5 = elim x5 [ ]

-- Definitions

definition_lies : (reach : ℕ) {s w c e u : List ℕ} {at p q r end : ℕ} {h : Head} {x y : Option ℕ} {f : Form}
    → Between s at w p → Between s p c q → Between s q e r → Between s r u end
    → WritesHead w h → WritesClause describes_code c x → WritesClause descriptor_code e y → WritesForm u f → FormFits f
    → Found (WritesDefinition reach) DefinitionFits s at
    (record { is_open = h.is_open; supers = h.supers; describes = x; descriptor = y; form = f; from = at; to = end; reach = reach }) end
definition_lies reach {w = w} {c} {e} {u} head describes descriptor form writes-head writes-describes writes-descriptor writes-form fits =
    let all = join head (join describes (join descriptor form)) in
    record {
      bytes = w ++ (c ++ (e ++ u));
      lies = all;
      writes = rw (end_is all) (a_definition writes-head writes-describes writes-descriptor writes-form);
      small = fits;
    }

definition_found : (reach : ℕ) (s : List ℕ) (at : ℕ) {d : Definition} {next : ℕ} → definition_at reach s at ≡ got d next → Found (WritesDefinition reach) DefinitionFits s at d next
unfolding definition_at
definition_found reach s at e =
    let (h, p, read_head, e₁) = then_got (head_at s at) _ e in
    let (x, q, read-describes, e₂) = then_got (clause_at describes_code s p) _ e₁ in
    let (y, r, read-descriptor, e₃) = then_got (clause_at descriptor_code s q) _ e₂ in
    let (f, end, read-form, e₄) = then_got (form_at s r) _ e₃ in
    let head = head_found s at read_head in
    let describes = clause_found describes_code s p read-describes in
    let descriptor = clause_found descriptor_code s q read-descriptor in
    let form = form_found s r read-form in
    found_got e₄ (definition_lies reach head.lies describes.lies descriptor.lies form.lies head.writes describes.writes descriptor.writes form.writes form.small)

-- where the parts of a definition lie
record Parts (s w c e u : List ℕ) (at next : ℕ) : Type 0 where
  clauses : ℕ
  middle : ℕ
  body : ℕ
  head : Between s at w clauses
  describes : Between s clauses c middle
  descriptor : Between s middle e body
  form : Between s body u next

parts : (w c e : List ℕ) {s u : List ℕ} {at next : ℕ} → Between s at (w ++ (c ++ (e ++ u))) next → Parts s w c e u at next
parts w c e stretch =
    let (p, head, rest) = split w stretch in
    let (q, describes, more) = split c rest in
    let (r, descriptor, form) = split e more in
    record { clauses = p; middle = q; body = r; head = head; describes = describes; descriptor = descriptor; form = form }

definition_read : (reach : ℕ) {s w : List ℕ} {at next : ℕ} {d : Definition} → Between s at w next → WritesDefinition reach at w d → DefinitionFits d → definition_at reach s at ≡ got d next
unfolding definition_at
definition_read reach {next = next} stretch (a_definition {at = at} {w = w} {c = c} {e = e} {u = u} head describes descriptor form) fits =
    let lie = parts w c e stretch in
    let at-form = form_first lie.form form in
    let at-descriptor = clause_first lie.descriptor descriptor at-form in
    let at-describes = clause_first lie.describes describes at-descriptor in
    let ends : next ≡ at + length (w ++ (c ++ (e ++ u))) = end_is stretch in
    rw (head_read lie.head head at-describes, clause_read describes_code refl refl lie.describes describes at-descriptor, clause_read descriptor_code refl refl lie.descriptor descriptor at-form, form_read lie.form form fits, ends)

pub definition_reads : (reach : ℕ) → Reads (WritesDefinition reach) DefinitionFits (definition_at reach)
definition_reads reach = record { sound = definition_found reach; complete = λ stretch writes fits. definition_read reach stretch writes fits }

head_first : {s w : List ℕ} {at next : ℕ} {h : Head} → Between s at w next → WritesHead w h → First s next (describes_code ∷ descriptor_code ∷ form_codes) → First s at definition_codes
head_first (byte there rest) (open_with_supertypes n) f = record { code = 0x50; there = there; among = Memᴰ.head refl }
head_first (byte there rest) (final_with_supertypes n) f = record { code = 0x4F; there = there; among = Memᴰ.tail (Memᴰ.head refl) }
head_first nothing neither f = or-first (0x50 ∷ 0x4F ∷ []) f

pub definition_first : {reach : ℕ} {s w : List ℕ} {at next : ℕ} {d : Definition} → Between s at w next → WritesDefinition reach at w d → First s at definition_codes
definition_first stretch (a_definition {w = w} {c = c} {e = e} head describes descriptor form) =
    let lie = parts w c e stretch in
    head_first lie.head head (clause_first lie.describes describes (clause_first lie.descriptor descriptor (form_first lie.form form)))
