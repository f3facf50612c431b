-- An instruction is refused exactly where its relation says so. Each line of the two tables refuses what its immediates are at fault
-- in; a byte or a number that has no line is not listed.
use Prim.Native.Nat.{ℕ, zero, suc, ◌+◌, ◌*◌, ◌≤◌, ◌<◌}
use native.Mathlib.Omega.{arith}
use mathlib.Core.Path.{◌≡◌, refl, sym, ◌∙◌, ap, subst}
use mathlib.Core.Logic.{◌⊎◌, inl, inr, ◌↔◌}
use mathlib.Core.Bool.{Bool, true, false, cond}
use mathlib.Core.Option.{Option, none, some}
use mathlib.Core.List.{List, [], ◌∷◌, map}
use lib.ListN.{length, get_elem?}
use lib.Dec.{eqb, ltb}
use borrow.Author.Tests.{eqb-true, eqb-false, eq-eqb, ne_eqb, ltb-true, ltb-false}
use Rattle.scope.specs.Refusals.{bytes_end, not_listed}
use Rattle.scope.specs.Reading.{Read, got, refused, Reader, given, then}
use Rattle.scope.specs.Numbers.{u32, bits32, bits64, little_endian, float_bytes}
use Rattle.scope.specs.Numeric.{Numeric, numeric_of}
use Rattle.scope.specs.Instructions.{Op, br, br_if, local_get, local_set, local_tee, i32_const, i64_const, f32_const, f64_const, ref_null, struct_new, struct_new_default, struct_get, struct_set, ref_test, ref_cast, br_on_cast, br_on_cast_fail, struct_new_desc, struct_new_default_desc, ref_get_desc, ref_cast_desc_eq, br_on_cast_desc_eq, br_on_cast_desc_eq_fail, Instr, block, loop, op, having_two, first_bytes, after_fb, find, instr_at}
use Rattle.scope.proofs.Truths.{none_is_not-some}
use Rattle.scope.proofs.Forward.{float_inside}
use Rattle.facts_codes.specs.Numeric.{Among, is_first_lem, is_later}
use Rattle.facts_codes.proofs.Numeric.{numeric_ends}
use Rattle.facts_sections.proofs.Readers.{by_cond, by_given}
use Rattle.facts_sections.proofs.NumberReading.{unsigned_reads}
use Rattle.facts_sections.proofs.NumberFaults.{every-number}
use Rattle.facts_instructions.specs.Faults.{FloatFault, float_cut, FaultsAre}
use Rattle.facts_instructions.specs.InstructionFaults.{first_codes, numbers_after_fb, TwoFault, first_number, second_number, ImmediateFault, of_block_lem, of_loop_lem, of_br, of_br_if, of_local_get, of_local_set, of_local_tee, of_i32_const, of_i64_const, of_f32_const, of_f64_const, of_ref_null, ImmediateFaultFB, of_struct_new, of_struct_new_default, of_struct_get, of_struct_set, of_ref_test, of_ref_test_null, of_ref_cast, of_ref_cast_null, of_br_on_cast, of_br_on_cast_fail, of_struct_new_desc, of_struct_new_default_desc, of_ref_get_desc, of_ref_cast_desc_eq, of_ref_cast_desc_eq_null, of_br_on_cast_desc_eq, of_br_on_cast_desc_eq_fail, InstructionFault, code_missing, code_not_listed, in_immediates, number_after_FB, FB_not_listed, in_immediates_after_FB, InstructionFaults}
use Rattle.facts_instructions.proofs.Exactly.{Kinds, numeric_there}
use Rattle.facts_instructions.proofs.Faults.{got_is_not_refused, told_as, by_then, by_byte, number-no, no_number, heap-no, no-heap, block_no, no_block, cast_no, no_cast}

-- floats

inside_byte : (s : List ℕ) (at : ℕ) → at < length s → (b : ℕ) × (get_elem? s at ≡ some b)
inside_byte [] at h = absurd (let none-such : ⊥ = omega arith in none-such)
inside_byte (x ∷ s) zero h = (x, refl)
inside_byte (x ∷ s) (suc at) h = inside_byte s at (omega arith)

long_enough : (n : ℕ) (s : List ℕ) (at : ℕ) → at + n ≤ length s → (v : ℕ) × (little_endian n s at ≡ some v)
unfolding little_endian
long_enough zero s at h = (0, refl)
long_enough (suc n) s at h =
    let (b, there) = inside_byte s at (omega arith) in
    let (v, e) = long_enough n s (at + 1) (omega arith) in
    (b + 256 * v, rw (there, e))

float_no : (n : ℕ) (s : List ℕ) (at : ℕ) {k p : ℕ} → float_bytes (suc n) s at ≡ refused k p → FloatFault (suc n) s at k p
unfolding float_bytes
float_no n s at e =
    by_given (little_endian (suc n) s at) (λ v there g. absurd (got_is_not_refused g))
    (λ absent g. told_as (FloatFault (suc n) s at) g (float_cut (short absent))) e
  where
    short : little_endian (suc n) s at ≡ none → length s < at + suc n
    short absent = go (ltb (length s) (at + suc n)) refl
      where
        go : (t : Bool) → ltb (length s) (at + suc n) ≡ t → length s < at + suc n
        go true e = ltb-true (length s) (at + suc n) e
        go false e = let (v, there) = long_enough (suc n) s at (ltb-false (length s) (at + suc n) e) in absurd (none_is_not-some (sym absent ∙ there))

no_float : (n : ℕ) {s : List ℕ} {at k p : ℕ} → FloatFault (suc n) s at k p → float_bytes (suc n) s at ≡ refused k p
unfolding float_bytes
no_float n {s} {at} (float_cut h) = rw (absent (little_endian (suc n) s at) refl)
  where
    absent : (o : Option ℕ) → little_endian (suc n) s at ≡ o → little_endian (suc n) s at ≡ none
    absent none e = e
    absent (some v) e = absurd (let far = float_inside n s at e in let none-such : ⊥ = omega arith in none-such)

-- the lines

made_no : {A : Type 0} {F G : List ℕ → ℕ → ℕ → ℕ → Type 0} {one : Reader A} (f : A → Instr) → ((s : List ℕ) (at n p : ℕ) → one s at ≡ refused n p → G s at n p)
    → ((s : List ℕ) (at n p : ℕ) → G s at n p → F s at n p) → (s : List ℕ) (at n p : ℕ) → then (one s at) (λ x next. got (f x) next) ≡ refused n p → F s at n p
made_no {one = one} f tells means s at n p e =
    by_then (one s at) (λ x next. got (f x) next) (λ bad. means s at n p (tells s at n p bad)) (λ x next read g. absurd (got_is_not_refused g)) e

two-no : {F : List ℕ → ℕ → ℕ → ℕ → Type 0} (f : ℕ → ℕ → Op) → ((s : List ℕ) (at n p : ℕ) → TwoFault s at n p → F s at n p)
    → (s : List ℕ) (at n p : ℕ) → having_two f s at ≡ refused n p → F s at n p
two-no f means s at n p e =
    by_then (u32 s at) _ (λ bad. means s at n p (first_number (number-no every-number.naturals 32 s at bad)))
    (λ x next first g.
    let m = (unsigned_reads 32).sound s at first in
    by_then (u32 s next) _ (λ bad. means s at n p (second_number m.lies m.writes (number-no every-number.naturals 32 s next bad)))
    (λ y stop second h. absurd (got_is_not_refused h)) g)
    e

no-two : (f : ℕ → ℕ → Op) {s : List ℕ} {at n p : ℕ} → TwoFault s at n p → having_two f s at ≡ refused n p
no-two f (first_number bad) = rw (no_number every-number.naturals bad)
no-two f (second_number lies x bad) = rw ((unsigned_reads 32).complete lies x tt, no_number every-number.naturals bad)

data Lines (F : List ℕ → ℕ → ℕ → ℕ → ℕ → Type 0) : List (ℕ × Reader Instr) → Type 0 where
  no_row_lem : Lines F []
  a_row_lem : {b : ℕ} {r : Reader Instr} {more : List (ℕ × Reader Instr)} → ((s : List ℕ) (at n p : ℕ) → r s at ≡ refused n p → F s at b n p) → Lines F more → Lines F ((b, r) ∷ more)

line_no : {F : List ℕ → ℕ → ℕ → ℕ → ℕ → Type 0} {rows : List (ℕ × Reader Instr)} → Lines F rows → (b : ℕ) (r : Reader Instr) → find b rows ≡ some r
    → (s : List ℕ) (at n p : ℕ) → r s at ≡ refused n p → F s at b n p
line_no no_row_lem b r e = absurd (none_is_not-some e)
line_no {F} (a_row_lem {b = a} {r = q} {more = rows} tells more) b r e = go (eqb b a) refl e (λ f. line_no more b r f)
  where
    go : (t : Bool) → eqb b a ≡ t → cond t (some q) (find b rows) ≡ some r → (find b rows ≡ some r → (s : List ℕ) (at n p : ℕ) → r s at ≡ refused n p → F s at b n p)
        → (s : List ℕ) (at n p : ℕ) → r s at ≡ refused n p → F s at b n p
    go true is e later s at n p bad =
        let same : r ≡ q = cc in
        subst (λ (c : ℕ). F s at c n p) (sym (eqb-true b a is)) (tells s at n p (sym (ap (λ (k : Reader Instr). k s at) same) ∙ bad))
    go false is e later s at n p bad = later e s at n p bad

first_lines : Lines (λ s at b n p. ImmediateFault s at b n p) first_bytes
first_lines =
    (a_row_lem (λ s at n p e. absurd (got_is_not_refused e))
    (a_row_lem (λ s at n p e. absurd (got_is_not_refused e))
    (a_row_lem (made_no block (λ s at n p. block_no s at) (λ s at n p. of_block_lem))
    (a_row_lem (made_no loop (λ s at n p. block_no s at) (λ s at n p. of_loop_lem))
    (a_row_lem (λ s at n p e. absurd (got_is_not_refused e))
    (a_row_lem (made_no (λ x. op (br x)) (λ s at n p. number-no every-number.naturals 32 s at) (λ s at n p. of_br))
    (a_row_lem (made_no (λ x. op (br_if x)) (λ s at n p. number-no every-number.naturals 32 s at) (λ s at n p. of_br_if))
    (a_row_lem (λ s at n p e. absurd (got_is_not_refused e))
    (a_row_lem (λ s at n p e. absurd (got_is_not_refused e))
    (a_row_lem (made_no (λ x. op (local_get x)) (λ s at n p. number-no every-number.naturals 32 s at) (λ s at n p. of_local_get))
    (a_row_lem (made_no (λ x. op (local_set x)) (λ s at n p. number-no every-number.naturals 32 s at) (λ s at n p. of_local_set))
    (a_row_lem (made_no (λ x. op (local_tee x)) (λ s at n p. number-no every-number.naturals 32 s at) (λ s at n p. of_local_tee))
    (a_row_lem (made_no (λ n. op (i32_const (bits32 n))) (λ s at n p. number-no every-number.wholes 32 s at) (λ s at n p. of_i32_const))
    (a_row_lem (made_no (λ n. op (i64_const (bits64 n))) (λ s at n p. number-no every-number.wholes 64 s at) (λ s at n p. of_i64_const))
    (a_row_lem (made_no (λ x. op (f32_const x)) (λ s at n p. float_no 3 s at) (λ s at n p. of_f32_const))
    (a_row_lem (made_no (λ x. op (f64_const x)) (λ s at n p. float_no 7 s at) (λ s at n p. of_f64_const))
    (a_row_lem (made_no (λ x. op (ref_null x)) (λ s at n p. heap-no s at) (λ s at n p. of_ref_null))
    (a_row_lem (λ s at n p e. absurd (got_is_not_refused e))
    (a_row_lem (λ s at n p e. absurd (got_is_not_refused e))
    (a_row_lem (λ s at n p e. absurd (got_is_not_refused e))
    no_row_lem))))))))))))))))))))

fb_lines : Lines (λ s at b n p. ImmediateFaultFB s at b n p) after_fb
fb_lines =
    (a_row_lem (made_no (λ x. op (struct_new x)) (λ s at n p. number-no every-number.naturals 32 s at) (λ s at n p. of_struct_new))
    (a_row_lem (made_no (λ x. op (struct_new_default x)) (λ s at n p. number-no every-number.naturals 32 s at) (λ s at n p. of_struct_new_default))
    (a_row_lem (two-no struct_get (λ s at n p. of_struct_get))
    (a_row_lem (two-no struct_set (λ s at n p. of_struct_set))
    (a_row_lem (made_no (λ x. op (ref_test false x)) (λ s at n p. heap-no s at) (λ s at n p. of_ref_test))
    (a_row_lem (made_no (λ x. op (ref_test true x)) (λ s at n p. heap-no s at) (λ s at n p. of_ref_test_null))
    (a_row_lem (made_no (λ x. op (ref_cast false x)) (λ s at n p. heap-no s at) (λ s at n p. of_ref_cast))
    (a_row_lem (made_no (λ x. op (ref_cast true x)) (λ s at n p. heap-no s at) (λ s at n p. of_ref_cast_null))
    (a_row_lem (made_no (λ x. op (br_on_cast x)) (λ s at n p. cast_no s at) (λ s at n p. of_br_on_cast))
    (a_row_lem (made_no (λ x. op (br_on_cast_fail x)) (λ s at n p. cast_no s at) (λ s at n p. of_br_on_cast_fail))
    (a_row_lem (made_no (λ x. op (struct_new_desc x)) (λ s at n p. number-no every-number.naturals 32 s at) (λ s at n p. of_struct_new_desc))
    (a_row_lem (made_no (λ x. op (struct_new_default_desc x)) (λ s at n p. number-no every-number.naturals 32 s at) (λ s at n p. of_struct_new_default_desc))
    (a_row_lem (made_no (λ x. op (ref_get_desc x)) (λ s at n p. number-no every-number.naturals 32 s at) (λ s at n p. of_ref_get_desc))
    (a_row_lem (made_no (λ x. op (ref_cast_desc_eq false x)) (λ s at n p. heap-no s at) (λ s at n p. of_ref_cast_desc_eq))
    (a_row_lem (made_no (λ x. op (ref_cast_desc_eq true x)) (λ s at n p. heap-no s at) (λ s at n p. of_ref_cast_desc_eq_null))
    (a_row_lem (made_no (λ x. op (br_on_cast_desc_eq x)) (λ s at n p. cast_no s at) (λ s at n p. of_br_on_cast_desc_eq))
    (a_row_lem (made_no (λ x. op (br_on_cast_desc_eq_fail x)) (λ s at n p. cast_no s at) (λ s at n p. of_br_on_cast_desc_eq_fail))
    no_row_lem)))))))))))))))))

-- not listed

abbrev codes_of : List (ℕ × Reader Instr) → List ℕ
codes_of rows = map (λ r. r.0) rows

never_among : (b : ℕ) (rows : List (ℕ × Reader Instr)) → find b rows ≡ none → ¬ Among b (codes_of rows)
never_among b (r ∷ rows) e is_first_lem = none_is_not-some (sym e ∙ (let there : find r.0 (r ∷ rows) ≡ some r.1 = rw (eq-eqb r.0 r.0 refl) in there))
never_among b (r ∷ rows) e (is_later m) = go (eqb b r.0) e (λ f. never_among b rows f m)
  where
    go : (t : Bool) → cond t (some r.1) (find b rows) ≡ none → (find b rows ≡ none → ⊥) → ⊥
    go true e later = none_is_not-some (sym e)
    go false e later = later e
never_among b [] e x'' = elim x'' [ ]

no_line : (b : ℕ) (rows : List (ℕ × Reader Instr)) → ¬ Among b (codes_of rows) → find b rows ≡ none
no_line b [] never = refl
no_line b (r ∷ rows) never = go (eqb b r.0) refl (no_line b rows (λ m. never (is_later m)))
  where
    go : (t : Bool) → eqb b r.0 ≡ t → find b rows ≡ none → cond t (some r.1) (find b rows) ≡ none
    go true e f = absurd (never (rw (eqb-true b r.0 e) is_first_lem))
    go false e f = f

not-numeric : (b : ℕ) → numeric_of b ≡ none → (b < 0x45) ⊎ (0xC4 < b)
not-numeric b absent = go (ltb b 0x45) refl (ltb 0xC4 b) refl
  where
    go : (t : Bool) → ltb b 0x45 ≡ t → (u : Bool) → ltb 0xC4 b ≡ u → (b < 0x45) ⊎ (0xC4 < b)
    go true e u f = inl (ltb-true b 0x45 e)
    go false e true f = inr (ltb-true 0xC4 b f)
    go false e false f = let k = numeric_there b (ltb-false b 0x45 e) (ltb-false 0xC4 b f) in absurd (none_is_not-some (sym absent ∙ k.is))

numeric-none : (b : ℕ) → (b < 0x45) ⊎ (0xC4 < b) → numeric_of b ≡ none
numeric-none b out = go (numeric_of b) refl
  where
    beyond : (b < 0x45) ⊎ (0xC4 < b) → 0x45 ≤ b → b ≤ 0xC4 → ⊥
    beyond (inl low) l h = omega arith
    beyond (inr high) l h = omega arith

    go : (o : Option Numeric) → numeric_of b ≡ o → o ≡ none
    go none e = refl
    go (some kinds) e = let (l, h) = numeric_ends b e in absurd (beyond out l h)

-- from the reader to the fault

instruction_no : (s : List ℕ) (at : ℕ) {n p : ℕ} → instr_at s at ≡ refused n p → InstructionFault s at n p
unfolding instr_at
instruction_no s at {n} {p} e =
    by_byte s at _ (λ absent f. told_as (InstructionFault s at) f (code_missing absent))
    (λ b there f.
    by_cond (eqb b 0xFB)
    (λ same g.
    let fb : get_elem? s at ≡ some 0xFB = there ∙ ap some (eqb-true b 0xFB same) in
    by_then (u32 s (at + 1)) _ (λ bad. number_after_FB fb (number-no every-number.naturals 32 s (at + 1) bad))
    (λ k next number h.
    let m = (unsigned_reads 32).sound s (at + 1) number in
    by_given (find k after_fb) (λ r line i. in_immediates_after_FB fb m.lies m.writes (line_no fb_lines k r line s next n p i))
    (λ absent i. told_as (InstructionFault s at) i (FB_not_listed fb m.lies m.writes (never_among k after_fb absent))) h)
    g)
    (λ other g.
    by_given (find b first_bytes) (λ r line h. in_immediates there (line_no first_lines b r line s (at + 1) n p h))
    (λ absent h.
    by_given (numeric_of b) (λ kinds listed i. absurd (got_is_not_refused i))
    (λ none-such i. told_as (InstructionFault s at) i (code_not_listed there (eqb-false b 0xFB other) (never_among b first_bytes absent) (not-numeric b none-such))) h)
    g)
    f)
    e

-- and back

no-first : {s : List ℕ} (at : ℕ) {b n p : ℕ} → get_elem? s at ≡ some b → ImmediateFault s (at + 1) b n p → instr_at s at ≡ refused n p
unfolding instr_at
no-first at there (of_block_lem f) = rw (there, no_block f)
no-first at there (of_loop_lem f) = rw (there, no_block f)
no-first at there (of_br f) = rw (there, no_number every-number.naturals f)
no-first at there (of_br_if f) = rw (there, no_number every-number.naturals f)
no-first at there (of_local_get f) = rw (there, no_number every-number.naturals f)
no-first at there (of_local_set f) = rw (there, no_number every-number.naturals f)
no-first at there (of_local_tee f) = rw (there, no_number every-number.naturals f)
no-first at there (of_i32_const f) = rw (there, no_number every-number.wholes f)
no-first at there (of_i64_const f) = rw (there, no_number every-number.wholes f)
no-first at there (of_f32_const f) = rw (there, no_float 3 f)
no-first at there (of_f64_const f) = rw (there, no_float 7 f)
no-first at there (of_ref_null f) = rw (there, no-heap f)

no-after : {s : List ℕ} (at : ℕ) {k next n p : ℕ} → get_elem? s at ≡ some 0xFB → u32 s (at + 1) ≡ got k next → ImmediateFaultFB s next k n p → instr_at s at ≡ refused n p
unfolding instr_at
no-after at there number (of_struct_new f) = rw (there, number, no_number every-number.naturals f)
no-after at there number (of_struct_new_default f) = rw (there, number, no_number every-number.naturals f)
no-after at there number (of_struct_get f) = rw (there, number) (no-two struct_get f)
no-after at there number (of_struct_set f) = rw (there, number) (no-two struct_set f)
no-after at there number (of_ref_test f) = rw (there, number, no-heap f)
no-after at there number (of_ref_test_null f) = rw (there, number, no-heap f)
no-after at there number (of_ref_cast f) = rw (there, number, no-heap f)
no-after at there number (of_ref_cast_null f) = rw (there, number, no-heap f)
no-after at there number (of_br_on_cast f) = rw (there, number, no_cast f)
no-after at there number (of_br_on_cast_fail f) = rw (there, number, no_cast f)
no-after at there number (of_struct_new_desc f) = rw (there, number, no_number every-number.naturals f)
no-after at there number (of_struct_new_default_desc f) = rw (there, number, no_number every-number.naturals f)
no-after at there number (of_ref_get_desc f) = rw (there, number, no_number every-number.naturals f)
no-after at there number (of_ref_cast_desc_eq f) = rw (there, number, no-heap f)
no-after at there number (of_ref_cast_desc_eq_null f) = rw (there, number, no-heap f)
no-after at there number (of_br_on_cast_desc_eq f) = rw (there, number, no_cast f)
no-after at there number (of_br_on_cast_desc_eq_fail f) = rw (there, number, no_cast f)

no_instruction : {s : List ℕ} {at n p : ℕ} → InstructionFault s at n p → instr_at s at ≡ refused n p
unfolding instr_at
no_instruction (code_missing e) = rw e
no_instruction (code_not_listed {b = b} there other never out) = rw (there, ne_eqb b 0xFB other, no_line b first_bytes never, numeric-none b out)
no_instruction {at = at} (in_immediates there f) = no-first at there f
no_instruction (number_after_FB there f) = rw (there, no_number every-number.naturals f)
no_instruction (FB_not_listed {k = k} there lies w never) = rw (there, (unsigned_reads 32).complete lies w tt, no_line k after_fb never)
no_instruction {at = at} (in_immediates_after_FB there lies w f) = no-after at there ((unsigned_reads 32).complete lies w tt) f

pub instruction_faults : InstructionFaults
instruction_faults = record { exactly = record { exactly = λ s at n p. (instruction_no s at, no_instruction) } }
