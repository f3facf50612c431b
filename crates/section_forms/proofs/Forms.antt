-- Forms: a list of fields, or of parameters and then results. A list is read as the codes of the definition's list, so what a
-- form's reader leaves in the table are the codes of the form as it is kept.
use Prim.Native.Nat.{ℕ, ◌+◌}
use mathlib.Core.Path.{◌≡◌, refl, sym, ap, ◌∙◌}
use mathlib.Core.Bool.{Bool, true, false}
use mathlib.Core.List.{List, map}
use native.Mathlib.Omega.{arith}
use lib.ListN.{length, length-map, get_elem?}
use borrow.Author.Tests.{eq-eqb, ne_eqb}
use mir.Syntax.{w64}
use mir.Val.{Fits}
use Rattle.std.specs.Prelude.{Result, Ok, Err, IsErrAnd}
use Rattle.scope.specs.declared.Refused.{Refused}
use Rattle.scope.specs.Told.{Maybe, no_at, told}
use Rattle.std.specs.Prelude.{None, Some}
use Rattle.scope.specs.Refusals.{bytes_end, not_listed}
use Rattle.scope.specs.Sizes.{most_each}
use Rattle.scope.specs.Reading.{Read, got, refused, Reader, then, entries}
use Rattle.scope.specs.Numbers.{u32}
use Rattle.scope.specs.Syntax.{Val, Field, Form, struct, func}
use Rattle.scope.specs.Sections.{val_at, field_at, few_at, form_at}
use Rattle.scope.specs.Memory.{form_codes}
use Rattle.scope.proofs.Forward.{few_takes, val_takes, never_back, unsigned-takes}
use Rattle.scope.proofs.Impossible.{contradiction, impossible}
use Rattle.scope.proofs.Told.{passed}
use Rattle.number_bytes.specs.Bytes.{ByteAt}
use Rattle.number_values.specs.Values.{natural_is}
use Rattle.number_bytes.proofs.Laws.{next_fits, byte_got, byte_none}
use Rattle.number_values.proofs.Laws.{natural_got, natural_refused}
use Rattle.type_table.specs.Kept.{kept_form}
use Rattle.type_table.proofs.Puts.{Puts, puts_more}
use Rattle.type_read.specs.Codes.{val_code_kept, field_code_kept}
use Rattle.section_forms.specs.declared.Shape.{Shape}
use Rattle.section_forms.specs.declared.Shape
use Rattle.section_forms.specs.Reads.{Room, coding, code_at, entries_is, EntriesRead, FewRead, form_is, PartRead, struct_at, func_at}
use Rattle.section_forms.proofs.Coding.{fields_coded, vals_coded, list_got, list_refused, field_codes, val_codes}
use Rattle.section_forms.proofs.Counting.{few_ahead}

-- few_at

few_is : {A : Type 0} (one : Reader A) (s : List ℕ) (at : ℕ) {n next : ℕ} → u32 s at ≡ got n next → few_at one s at ≡ entries one most_each n s next
unfolding few_at
few_is one s at e = rw e

few_none : {A : Type 0} (one : Reader A) (s : List ℕ) (at : ℕ) {k place : ℕ} → u32 s at ≡ refused k place → few_at one s at ≡ refused k place
unfolding few_at
few_none one s at e = rw e

module _ (s : List ℕ) (at : ℕ) where
  pub few_refused : (fields : Bool) (codes : List ℕ) (used : ℕ) {no : Refused} {r : Result (ℕ × ℕ) Refused} → Err no ≡ natural_is (u32 s at) → IsErrAnd r (λ y. y ≡ no) → FewRead (code_at fields) s at codes codes used r
  few_refused fields codes used {no} e is =
      let no_list : few_at (code_at fields) s at ≡ refused no.number no.at = few_none (code_at fields) s at (natural_refused (u32 s at) e refl) in
      rw (passed is refl) (record { answer = rw no_list; memory = λ xs next f. impossible cc; size = refl })

  module _ {n next : ℕ} (e : Ok (n, next) ≡ natural_is (u32 s at)) where
    pub few_got : (fields : Bool) {codes codes' : List ℕ} {used : ℕ} {r : Result (ℕ × ℕ) Refused} → EntriesRead (code_at fields) n s next codes codes' used r → FewRead (code_at fields) s at codes codes' used r
    few_got fields {codes} {codes'} {used} {r} b =
        let same : few_at (code_at fields) s at ≡ entries (code_at fields) most_each n s next = few_is (code_at fields) s at (natural_got (u32 s at) e refl) in
        record { answer = rw same b.answer; memory = λ xs stop f. b.memory xs stop (sym same ∙ f); size = b.size }

    pub few_room : {codes : List ℕ} {used : ℕ} → Room s codes at used → Room s codes next used
    few_room room =
        let ends = never_back (unsigned-takes 32) s at (natural_got (u32 s at) e refl) in
        record { behind = omega (arith, room.behind, ends.0); inside = ends.1; enough = omega (arith, room.enough, ends.0); small = room.small }

pub ruleset few_exits = (few_refused, few_got)

-- struct_at

module _ {s : List ℕ} {at : ℕ} {codes codes' : List ℕ} {used : ℕ} where
  fields_answer : {r : Result (ℕ × ℕ) Refused} → FewRead (code_at true) s at codes codes' used r → r ≡ entries_is (coding (map field_code_kept) (few_at field_at s at))
  fields_answer a = a.answer ∙ ap entries_is (fields_coded s at)

  pub struct_refused : {no : Refused} {r : Result (Shape × ℕ) Refused} → FewRead (code_at true) s at codes codes' used (Err no) → IsErrAnd r (λ y. y ≡ no) → PartRead struct_at s at codes codes' used r
  struct_refused {no} a is =
      let none : few_at field_at s at ≡ refused no.number no.at = list_refused field_code_kept (few_at field_at s at) (fields_answer a) in
      let whole : struct_at s at ≡ refused no.number no.at = rw none in
      rw (passed is refl) (record { answer = rw whole; memory = λ f next g. impossible cc; size = a.size })

  module _ {n next : ℕ} (a : FewRead (code_at true) s at codes codes' used (Ok (n, next))) where
    fields_put : (fs : List Field) → few_at field_at s at ≡ got fs next → Puts codes codes' used (form_codes (kept_form (struct fs)))
    fields_put fs e = rw (field_codes fs) (a.memory (map field_code_kept fs) next (fields_coded s at ∙ ap (coding (map field_code_kept)) e))

    struct_read : (fs : List Field) → few_at field_at s at ≡ got fs next → n ≡ length fs → PartRead struct_at s at codes codes' used (Ok (Shape.TheVariants.Struct n, next))
    struct_read fs read count =
        let whole : struct_at s at ≡ got (struct fs) next = rw read in
        record {
          answer = rw (whole, count);
          memory = λ f stop g. let same : struct fs ≡ f = cc in rw (← same) (fields_put fs read);
          size = a.size;
        }

    pub struct_got : PartRead struct_at s at codes codes' used (Ok (Shape.TheVariants.Struct n, next))
    struct_got = let (fs, read, count) = list_got field_code_kept (few_at field_at s at) (fields_answer a) in struct_read fs read count

-- the results of a function of n parameters

abbrev results_is : ℕ → Read (List Val) → Result (Shape × ℕ) Refused
results_is n = told (λ rs. Shape.TheVariants.Func n (length rs))

record ResultsRead (n : ℕ) (s : List ℕ) (at : ℕ) (codes codes' : List ℕ) (used : ℕ) (r : Result (Shape × ℕ) Refused) : Type 0 where
  answer : r ≡ results_is n (few_at val_at s at)
  memory : (rs : List Val) (next : ℕ) → few_at val_at s at ≡ got rs next → Puts codes codes' used (map val_code_kept rs)
  size : length codes' ≡ length codes

module _ {s : List ℕ} {at : ℕ} {codes codes' : List ℕ} {used : ℕ} {r : Result (ℕ × ℕ) Refused} (a : FewRead (code_at false) s at codes codes' used r) where
  vals_answer : r ≡ entries_is (coding (map val_code_kept) (few_at val_at s at))
  vals_answer = a.answer ∙ ap entries_is (vals_coded s at)

  vals_put : (vs : List Val) (next : ℕ) → few_at val_at s at ≡ got vs next → Puts codes codes' used (map val_code_kept vs)
  vals_put vs next e = a.memory (map val_code_kept vs) next (vals_coded s at ∙ ap (coding (map val_code_kept)) e)

module _ {s : List ℕ} {at : ℕ} {codes codes' : List ℕ} {used : ℕ} (n : ℕ) where
  results_refused : {no : Refused} → FewRead (code_at false) s at codes codes' used (Err no) → ResultsRead n s at codes codes' used (Err no)
  results_refused a = record { answer = rw (list_refused val_code_kept (few_at val_at s at) (vals_answer a)); memory = vals_put a; size = a.size }

  module _ {m next : ℕ} (a : FewRead (code_at false) s at codes codes' used (Ok (m, next))) where
    results_read : (rs : List Val) → few_at val_at s at ≡ got rs next → m ≡ length rs → ResultsRead n s at codes codes' used (Ok (Shape.TheVariants.Func n m, next))
    results_read rs read count = record { answer = rw (read, count); memory = vals_put a; size = a.size }

    results_got : ResultsRead n s at codes codes' used (Ok (Shape.TheVariants.Func n m, next))
    results_got = let (rs, read, count) = list_got val_code_kept (few_at val_at s at) (vals_answer a) in results_read rs read count

-- func_at

module _ {s : List ℕ} {at : ℕ} {codes codes' : List ℕ} {used : ℕ} where
  pub func_refused : {no : Refused} {r : Result (Shape × ℕ) Refused} → FewRead (code_at false) s at codes codes' used (Err no) → IsErrAnd r (λ y. y ≡ no) → PartRead func_at s at codes codes' used r
  func_refused {no} a is =
      let none : few_at val_at s at ≡ refused no.number no.at = list_refused val_code_kept (few_at val_at s at) (vals_answer a) in
      let whole : func_at s at ≡ refused no.number no.at = rw none in
      rw (passed is refl) (record { answer = rw whole; memory = λ f next g. impossible cc; size = a.size })

  module _ {n next : ℕ} (a : FewRead (code_at false) s at codes codes' used (Ok (n, next))) where
    parameters : (ps : List Val) × (few_at val_at s at ≡ got ps next) × (n ≡ length ps)
    parameters = list_got val_code_kept (few_at val_at s at) (vals_answer a)

    pub results_room : Room s codes at used → Room s codes' next (used + n)
    results_room room =
        let (ps, read, count) = parameters in
        let far = few_ahead val_takes s at read in
        let ends = never_back (few_takes val_takes) s at read in
        record { behind = omega (arith, room.behind); inside = ends.1; enough = omega (arith, room.enough, a.size); small = room.small }

    pub results_fit : Room s codes at used → Fits w64 (used + n)
    results_fit room = let left = results_room room in record { fits = omega (arith, left.behind, left.inside, left.small) }

    func_read : {codes'' : List ℕ} {q : Result (Shape × ℕ) Refused} (ps : List Val) → few_at val_at s at ≡ got ps next → n ≡ length ps → ResultsRead n s next codes' codes'' (used + n) q → PartRead func_at s at codes codes'' used q
    func_read {codes''} {q} ps read count b =
        record {
          answer = b.answer ∙ go (few_at val_at s next) ∙ ap form_is (sym whole);
          memory = put (few_at val_at s next) refl;
          size = b.size ∙ a.size;
        }
      where
        whole : func_at s at ≡ then (few_at val_at s next) (λ rs end. got (func ps rs) end)
        whole = rw read

        go : (o : Read (List Val)) → results_is n o ≡ form_is (then o (λ rs end. got (func ps rs) end))
        go (got rs stop) = rw count
        go (refused k p) = refl

        first : Puts codes codes' used (map val_code_kept ps)
        first = vals_put a ps next read

        put : (o : Read (List Val)) → few_at val_at s next ≡ o → (f : Form) (stop : ℕ) → func_at s at ≡ got f stop → Puts codes codes'' used (form_codes (kept_form f))
        put (refused k p) g f stop h = absurd (let t : refused k p ≡ got f stop = sym (whole ∙ ap (λ o. then o (λ rs end. got (func ps rs) end)) g) ∙ h in contradiction cc)
        put (got rs m) g f stop h =
            let t : got (func ps rs) m ≡ got f stop = sym (whole ∙ ap (λ o. then o (λ rs end. got (func ps rs) end)) g) ∙ h in
            let same : func ps rs ≡ f = cc in
            let long : length (map val_code_kept ps) ≡ n = length-map ps val_code_kept ∙ sym count in
            let second : Puts codes' codes'' (used + length (map val_code_kept ps)) (map val_code_kept rs) = rw long (b.memory rs m g) in
            rw (← same, val_codes ps, val_codes rs) (puts_more first second)

    results_after : {codes'' : List ℕ} {q : Result (Shape × ℕ) Refused} → ResultsRead n s next codes' codes'' (used + n) q → PartRead func_at s at codes codes'' used q
    results_after b = let (ps, read, count) = parameters in func_read ps read count b

    pub func_no-results : {codes'' : List ℕ} {no : Refused} {r : Result (Shape × ℕ) Refused} → FewRead (code_at false) s next codes' codes'' (used + n) (Err no) → IsErrAnd r (λ y. y ≡ no) → PartRead func_at s at codes codes'' used r
    func_no-results b is = rw (passed is refl) (results_after (results_refused n b))

    pub func_got : {codes'' : List ℕ} {m end : ℕ} → FewRead (code_at false) s next codes' codes'' (used + n) (Ok (m, end)) → PartRead func_at s at codes codes'' used (Ok (Shape.TheVariants.Func n m, end))
    func_got b = results_after (results_got n b)

pub ruleset func_exits = (results_fit)

-- form_at

module _ {s : List ℕ} {at : ℕ} {r : Maybe ℕ} (a : ByteAt s at r) where
  pub form_room : {codes : List ℕ} {used b : ℕ} → r ≡ Some b → Room s codes at used → Room s codes (at + 1) used
  form_room {b = b} e room =
      let h = (a.small b e).1 in record { behind = omega (arith, room.behind); inside = omega arith; enough = omega (arith, room.enough); small = room.small }

  no_form : (codes : List ℕ) (used : ℕ) {k place : ℕ} → form_at s at ≡ refused k place → PartRead form_at s at codes codes used (Err (no_at k place))
  no_form codes used e = record { answer = rw e; memory = λ f next g. impossible cc; size = refl }

  pub form_missing : (codes : List ℕ) (used : ℕ) → r ≡ None → PartRead form_at s at codes codes used (Err (no_at bytes_end at))
  unfolding form_at
  form_missing codes used e = no_form codes used (rw (byte_none (get_elem? s at) a.is e))

  module _ {b : ℕ} (e : r ≡ Some b) where
    part_is : {one : Reader Form} {codes codes' : List ℕ} {used : ℕ} {q : Result (Shape × ℕ) Refused} → form_at s at ≡ one s (at + 1) → PartRead one s (at + 1) codes codes' used q → PartRead form_at s at codes codes' used q
    part_is same p = record { answer = p.answer ∙ ap form_is (sym same); memory = λ f next g. p.memory f next (sym same ∙ g); size = p.size }

    pub form_struct : {codes codes' : List ℕ} {used : ℕ} {q : Result (Shape × ℕ) Refused} → b ≡ 0x5F → PartRead struct_at s (at + 1) codes codes' used q → PartRead form_at s at codes codes' used q
    unfolding form_at
    form_struct f p = part_is (rw (byte_got (get_elem? s at) a.is e, eq-eqb b 0x5F f)) p

    pub form_func : {codes codes' : List ℕ} {used : ℕ} {q : Result (Shape × ℕ) Refused} → (b ≡ 0x5F → ⊥) → b ≡ 0x60 → PartRead func_at s (at + 1) codes codes' used q → PartRead form_at s at codes codes' used q
    unfolding form_at
    form_func f g p = part_is (rw (byte_got (get_elem? s at) a.is e, ne_eqb b 0x5F f, eq-eqb b 0x60 g)) p

    pub form_unlisted : (codes : List ℕ) (used : ℕ) → (b ≡ 0x5F → ⊥) → (b ≡ 0x60 → ⊥) → PartRead form_at s at codes codes used (Err (no_at not_listed at))
    unfolding form_at
    form_unlisted codes used f g = no_form codes used (rw (byte_got (get_elem? s at) a.is e, ne_eqb b 0x5F f, ne_eqb b 0x60 g))

pub ruleset form_exits = (next_fits, form_room, form_missing, form_struct, form_func, form_unlisted)
