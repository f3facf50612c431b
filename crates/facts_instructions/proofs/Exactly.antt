-- An instruction is read exactly where a writing of it lies. Each line of the two tables reads what its constructor writes; a byte is
-- looked up, and a writing says which line that is.
use Prim.Native.Nat.{ℕ, zero, suc, ◌+◌, ◌≤◌, ◌<◌}
use native.Mathlib.Omega.{arith}
use mathlib.Core.Path.{◌≡◌, refl, sym, ◌∙◌, ap, subst}
use mathlib.Core.Bool.{Bool, true, false, cond, false≢true}
use mathlib.Core.Option.{Option, none, some}
use mathlib.Core.List.{List, [], ◌∷◌, ◌++◌, map}
use lib.ListN.{length, get_elem?}
use lib.Dec.{eqb, ltb}
use borrow.Author.Tests.{eqb-true, eqb-false, ne_eqb, ltb-true, ltb-false}
use Rattle.scope.specs.Refusals.{not_listed}
use Rattle.scope.specs.Reading.{Read, got, refused, Reader, given, then, on_byte}
use Rattle.scope.specs.Lists.{is_none}
use Rattle.scope.specs.Numbers.{u32, bits32, bits64}
use Rattle.scope.specs.Numeric.{Numeric, numeric_of}
use Rattle.scope.specs.Instructions.{Op, numeric, struct_get, struct_set, i32_const, i64_const, br, br_if, br_on_cast, br_on_cast_desc_eq, br_on_cast_desc_eq_fail, br_on_cast_fail, f32_const, f64_const, local_get, local_set, local_tee, ref_cast, ref_cast_desc_eq, ref_get_desc, ref_null, ref_test, struct_new, struct_new_default, struct_new_default_desc, struct_new_desc, Instr, block, loop, end, op, bare, having, having_two, first_bytes, after_fb, find, instr_at}
use Rattle.scope.proofs.Truths.{none_is_not-some}
use Rattle.facts_codes.specs.Numeric.{upward, Among, is_first_lem, is_later}
use Rattle.facts_codes.proofs.Numeric.{read_off, numeric_ends}
use Rattle.facts_sections.specs.Between.{Between, nothing, byte}
use Rattle.facts_sections.specs.Writing.{Unsigned, Anywhere}
use Rattle.facts_sections.proofs.Between.{join, split}
use Rattle.facts_sections.proofs.Readers.{Found, Reads, AnySize, refused_is_not_got, by_cond, by_given, then_got, byte_got, found_got, this_byte}
use Rattle.facts_sections.proofs.NumberReading.{unsigned_reads, signed_reads}
use Rattle.facts_sections.proofs.ValueReading.{heap_reads}
use Rattle.facts_instructions.specs.Writing.{WritesTwo, two_numbers, Follows, is_unreachable_lem, is_nop, is_end, is_return, is_drop, is_ref_is_null, is_ref_eq, is_ref_as_non_null, is_block, is_loop, is_br, is_br_if, is_local_get, is_local_set, is_local_tee, is_i32_const, is_i64_const, is_f32_const, is_f64_const, is_ref_null, is_numeric_lem, FollowsFB, is_struct_new, is_struct_new_default, is_struct_new_desc, is_struct_new_default_desc, is_ref_get_desc, is_struct_get, is_struct_set, is_ref_test, is_ref_test_null, is_ref_cast, is_ref_cast_null, is_ref_cast_desc_eq, is_ref_cast_desc_eq_null, is_br_on_cast, is_br_on_cast_fail, is_br_on_cast_desc_eq, is_br_on_cast_desc_eq_fail, WritesInstruction, by_first_byte, after_FB}
use Rattle.facts_instructions.specs.Laws.{Lies, InstructionsRead}
use Rattle.facts_instructions.proofs.Reading.{float_reads, block_type_reads, cast_reads}

-- a line's reader gives only what is written so
abbrev Sound : (List ℕ → Instr → Type 0) → Reader Instr → Type 0
Sound W r = (s : List ℕ) (at : ℕ) (i : Instr) (next : ℕ) → r s at ≡ got i next → Found (Anywhere W) AnySize s at i next

bare_sound : {W : List ℕ → Instr → Type 0} {i : Instr} → W [] i → Sound W (λ s at. got i at)
bare_sound w s at j next e = found_got e (record { bytes = []; lies = nothing; writes = w; small = tt })

made_sound : {A : Type 0} {U : List ℕ → A → Type 0} {W : List ℕ → Instr → Type 0} {one : Reader A} (f : A → Instr)
    → Reads (Anywhere U) AnySize one → ((w : List ℕ) (x : A) → U w x → W w (f x)) → Sound W (λ s at. then (one s at) (λ x next. got (f x) next))
made_sound {one = one} f reads writes s at j next e =
    let (x, stop, read, g) = then_got (one s at) (λ x stop. got (f x) stop) e in
    let n = reads.sound s at read in
    found_got g (record { bytes = n.bytes; lies = n.lies; writes = writes n.bytes x n.writes; small = tt })

two_sound : {W : List ℕ → Instr → Type 0} (f : ℕ → ℕ → Op) → ((w : List ℕ) (x y : ℕ) → WritesTwo w x y → W w (op (f x y))) → Sound W (having_two f)
two_sound f writes s at j next e =
    let (x, mid, first, g) = then_got (u32 s at) _ e in
    let (y, stop, second, h) = then_got (u32 s mid) _ g in
    let m = (unsigned_reads 32).sound s at first in
    let n = (unsigned_reads 32).sound s mid second in
    found_got h (record { bytes = m.bytes ++ n.bytes; lies = join m.lies n.lies; writes = writes (m.bytes ++ n.bytes) x y (two_numbers m.writes n.writes); small = tt })

data Lines (W : ℕ → List ℕ → Instr → Type 0) : List (ℕ × Reader Instr) → Type 0 where
  no_row_lem : Lines W []
  a_row_lem : {b : ℕ} {r : Reader Instr} {more : List (ℕ × Reader Instr)} → Sound (W b) r → Lines W more → Lines W ((b, r) ∷ more)

found_line : {W : ℕ → List ℕ → Instr → Type 0} {rows : List (ℕ × Reader Instr)} → Lines W rows → (b : ℕ) (r : Reader Instr) → find b rows ≡ some r → Sound (W b) r
found_line no_row_lem b r e = absurd (none_is_not-some e)
found_line {W} (a_row_lem {b = a} {r = q} {more = rows} sound more) b r e = go (eqb b a) refl e (λ f. found_line more b r f)
  where
    go : (t : Bool) → eqb b a ≡ t → cond t (some q) (find b rows) ≡ some r → (find b rows ≡ some r → Sound (W b) r) → Sound (W b) r
    go true is e later =
        let same : q ≡ r = cc in
        subst (λ (c : ℕ). Sound (W c) r) (sym (eqb-true b a is)) (subst (λ (k : Reader Instr). Sound (W a) k) same sound)
    go false is e later = later e

first_lines : Lines Follows first_bytes
first_lines =
    (a_row_lem (bare_sound is_unreachable_lem)
    (a_row_lem (bare_sound is_nop)
    (a_row_lem (made_sound block block_type_reads (λ w x. is_block))
    (a_row_lem (made_sound loop block_type_reads (λ w x. is_loop))
    (a_row_lem (bare_sound is_end)
    (a_row_lem (made_sound (λ x. op (br x)) (unsigned_reads 32) (λ w x. is_br))
    (a_row_lem (made_sound (λ x. op (br_if x)) (unsigned_reads 32) (λ w x. is_br_if))
    (a_row_lem (bare_sound is_return)
    (a_row_lem (bare_sound is_drop)
    (a_row_lem (made_sound (λ x. op (local_get x)) (unsigned_reads 32) (λ w x. is_local_get))
    (a_row_lem (made_sound (λ x. op (local_set x)) (unsigned_reads 32) (λ w x. is_local_set))
    (a_row_lem (made_sound (λ x. op (local_tee x)) (unsigned_reads 32) (λ w x. is_local_tee))
    (a_row_lem (made_sound (λ n. op (i32_const (bits32 n))) (signed_reads 32) (λ w x. is_i32_const))
    (a_row_lem (made_sound (λ n. op (i64_const (bits64 n))) (signed_reads 64) (λ w x. is_i64_const))
    (a_row_lem (made_sound (λ x. op (f32_const x)) (float_reads 4) (λ w x. is_f32_const))
    (a_row_lem (made_sound (λ x. op (f64_const x)) (float_reads 8) (λ w x. is_f64_const))
    (a_row_lem (made_sound (λ x. op (ref_null x)) heap_reads (λ w x. is_ref_null))
    (a_row_lem (bare_sound is_ref_is_null)
    (a_row_lem (bare_sound is_ref_eq)
    (a_row_lem (bare_sound is_ref_as_non_null)
    no_row_lem))))))))))))))))))))

fb_lines : Lines FollowsFB after_fb
fb_lines =
    (a_row_lem (made_sound (λ x. op (struct_new x)) (unsigned_reads 32) (λ w x. is_struct_new))
    (a_row_lem (made_sound (λ x. op (struct_new_default x)) (unsigned_reads 32) (λ w x. is_struct_new_default))
    (a_row_lem (two_sound struct_get (λ w x y. is_struct_get))
    (a_row_lem (two_sound struct_set (λ w x y. is_struct_set))
    (a_row_lem (made_sound (λ x. op (ref_test false x)) heap_reads (λ w x. is_ref_test))
    (a_row_lem (made_sound (λ x. op (ref_test true x)) heap_reads (λ w x. is_ref_test_null))
    (a_row_lem (made_sound (λ x. op (ref_cast false x)) heap_reads (λ w x. is_ref_cast))
    (a_row_lem (made_sound (λ x. op (ref_cast true x)) heap_reads (λ w x. is_ref_cast_null))
    (a_row_lem (made_sound (λ x. op (br_on_cast x)) cast_reads (λ w x. is_br_on_cast))
    (a_row_lem (made_sound (λ x. op (br_on_cast_fail x)) cast_reads (λ w x. is_br_on_cast_fail))
    (a_row_lem (made_sound (λ x. op (struct_new_desc x)) (unsigned_reads 32) (λ w x. is_struct_new_desc))
    (a_row_lem (made_sound (λ x. op (struct_new_default_desc x)) (unsigned_reads 32) (λ w x. is_struct_new_default_desc))
    (a_row_lem (made_sound (λ x. op (ref_get_desc x)) (unsigned_reads 32) (λ w x. is_ref_get_desc))
    (a_row_lem (made_sound (λ x. op (ref_cast_desc_eq false x)) heap_reads (λ w x. is_ref_cast_desc_eq))
    (a_row_lem (made_sound (λ x. op (ref_cast_desc_eq true x)) heap_reads (λ w x. is_ref_cast_desc_eq_null))
    (a_row_lem (made_sound (λ x. op (br_on_cast_desc_eq x)) cast_reads (λ w x. is_br_on_cast_desc_eq))
    (a_row_lem (made_sound (λ x. op (br_on_cast_desc_eq_fail x)) cast_reads (λ w x. is_br_on_cast_desc_eq_fail))
    no_row_lem)))))))))))))))))

-- from the reader to the writing

instruction_found : (s : List ℕ) (at : ℕ) (i : Instr) (next : ℕ) → instr_at s at ≡ got i next → Lies s at i next
unfolding instr_at
instruction_found s at i next e =
    let (b, there, f) = byte_got s at _ e in
    by_cond (eqb b 0xFB)
    (λ same g.
    let (n, mid, number, h) = then_got (u32 s (at + 1)) _ g in
    by_given (find n after_fb)
    (λ r line k.
    let m = (unsigned_reads 32).sound s (at + 1) number in
    let o = found_line fb_lines n r line s mid i next k in
    record { bytes = 0xFB ∷ m.bytes ++ o.bytes; between = this_byte there (eqb-true b 0xFB same) (join m.lies o.lies); writes = after_FB m.writes o.writes })
    (λ absent k. absurd (refused_is_not_got k))
    h)
    (λ other g.
    by_given (find b first_bytes)
    (λ r line k.
    let o = found_line first_lines b r line s (at + 1) i next k in
    record { bytes = b ∷ o.bytes; between = byte there o.lies; writes = by_first_byte o.writes })
    (λ absent k.
    by_given (numeric_of b)
    (λ kinds listed l.
    let (least, most) = numeric_ends b listed in
    let o = bare_sound {W = Follows b} {i = op (numeric b)} (is_numeric_lem least most) s (at + 1) i next l in
    record { bytes = b ∷ o.bytes; between = byte there o.lies; writes = by_first_byte o.writes })
    (λ none-such l. absurd (refused_is_not_got l))
    k)
    g)
    f

-- and back

le_next : {i b : ℕ} → i ≤ b → (b ≡ i → ⊥) → suc i ≤ b
le_next {i} {b} low apart = go (ltb i b) refl
  where
    go : (t : Bool) → ltb i b ≡ t → suc i ≤ b
    go true e = let h = ltb-true i b e in omega arith
    go false e = absurd (apart (let h = ltb-false i b e in omega arith))

among_upward : (i n b : ℕ) → i ≤ b → b < i + n → Among b (upward i n)
among_upward i zero b low high = absurd (let none-such : ⊥ = omega arith in none-such)
among_upward i (suc n) b low high = go (eqb b i) refl (λ far. among_upward (suc i) n b far (omega arith))
  where
    go : (t : Bool) → eqb b i ≡ t → (suc i ≤ b → Among b (upward (suc i) n)) → Among b (i ∷ upward (suc i) n)
    go true e later = rw (eqb-true b i e) is_first_lem
    go false e later = is_later (later (let apart = eqb-false b i e in le_next low apart))

every-numeric : map (λ b. is_none (numeric_of b)) (upward 0x45 128) ≡ map (λ (b : ℕ). false) (upward 0x45 128)
unfolding numeric_of
every-numeric = refl

pub record Kinds (b : ℕ) : Type 0 where
  pub kinds : Numeric
  pub is : numeric_of b ≡ some kinds

pub numeric_there : (b : ℕ) → 0x45 ≤ b → b ≤ 0xC4 → Kinds b
numeric_there b low high = go (numeric_of b) refl (read_off (λ c. is_none (numeric_of c)) (λ (c : ℕ). false) every-numeric (among_upward 0x45 128 b low (omega arith)))
  where
    go : (o : Option Numeric) → numeric_of b ≡ o → is_none (numeric_of b) ≡ false → Kinds b
    go none e f = absurd (false≢true (sym f ∙ ap is_none e))
    go (some kinds) e f = record { kinds = kinds; is = e }

not_first : (b : ℕ) → 0x45 ≤ b → b ≤ 0xC4 → find b first_bytes ≡ none
not_first b low high =
    rw (ne_eqb b 0x00 (λ e. omega arith), ne_eqb b 0x01 (λ e. omega arith), ne_eqb b 0x02 (λ e. omega arith), ne_eqb b 0x03 (λ e. omega arith), ne_eqb b 0x0B (λ e. omega arith), ne_eqb b 0x0C (λ e. omega arith), ne_eqb b 0x0D (λ e. omega arith), ne_eqb b 0x0F (λ e. omega arith), ne_eqb b 0x1A (λ e. omega arith), ne_eqb b 0x20 (λ e. omega arith), ne_eqb b 0x21 (λ e. omega arith), ne_eqb b 0x22 (λ e. omega arith), ne_eqb b 0x41 (λ e. omega arith), ne_eqb b 0x42 (λ e. omega arith), ne_eqb b 0x43 (λ e. omega arith), ne_eqb b 0x44 (λ e. omega arith), ne_eqb b 0xD0 (λ e. omega arith), ne_eqb b 0xD1 (λ e. omega arith), ne_eqb b 0xD3 (λ e. omega arith), ne_eqb b 0xD4 (λ e. omega arith))

first_read : {s : List ℕ} {at b next : ℕ} {w : List ℕ} {i : Instr} → Between s at (b ∷ w) next → Follows b w i → instr_at s at ≡ got i next
unfolding instr_at
first_read (byte there nothing) is_unreachable_lem = rw there
first_read (byte there nothing) is_nop = rw there
first_read (byte there rest) (is_block x) = rw (there, block_type_reads.complete rest x tt)
first_read (byte there rest) (is_loop x) = rw (there, block_type_reads.complete rest x tt)
first_read (byte there nothing) is_end = rw there
first_read (byte there rest) (is_br x) = rw (there, (unsigned_reads 32).complete rest x tt)
first_read (byte there rest) (is_br_if x) = rw (there, (unsigned_reads 32).complete rest x tt)
first_read (byte there nothing) is_return = rw there
first_read (byte there nothing) is_drop = rw there
first_read (byte there rest) (is_local_get x) = rw (there, (unsigned_reads 32).complete rest x tt)
first_read (byte there rest) (is_local_set x) = rw (there, (unsigned_reads 32).complete rest x tt)
first_read (byte there rest) (is_local_tee x) = rw (there, (unsigned_reads 32).complete rest x tt)
first_read (byte there rest) (is_i32_const x) = rw (there, (signed_reads 32).complete rest x tt)
first_read (byte there rest) (is_i64_const x) = rw (there, (signed_reads 64).complete rest x tt)
first_read (byte there rest) (is_f32_const x) = rw (there, (float_reads 4).complete rest x tt)
first_read (byte there rest) (is_f64_const x) = rw (there, (float_reads 8).complete rest x tt)
first_read (byte there rest) (is_ref_null x) = rw (there, heap_reads.complete rest x tt)
first_read (byte there nothing) is_ref_is_null = rw there
first_read (byte there nothing) is_ref_eq = rw there
first_read (byte there nothing) is_ref_as_non_null = rw there
first_read (byte there nothing) (is_numeric_lem {b = b} low high) =
    let k = numeric_there b low high in
    rw (there, ne_eqb b 0xFB (λ e. omega arith), not_first b low high, k.is)

two_read : {s w u : List ℕ} {at next x y : ℕ} (f : ℕ → ℕ → Op) → Between s at (w ++ u) next → Unsigned 32 w x → Unsigned 32 u y → having_two f s at ≡ got (op (f x y)) next
two_read {w = w} f lies x y =
    let (mid, first, second) = split w lies in
    rw ((unsigned_reads 32).complete first x tt, (unsigned_reads 32).complete second y tt)

fb_read : {s : List ℕ} (at : ℕ) {mid n next : ℕ} {w : List ℕ} {i : Instr} → get_elem? s at ≡ some 0xFB → u32 s (at + 1) ≡ got n mid → Between s mid w next → FollowsFB n w i → instr_at s at ≡ got i next
unfolding instr_at
fb_read at there number rest (is_struct_new x) = rw (there, number, (unsigned_reads 32).complete rest x tt)
fb_read at there number rest (is_struct_new_default x) = rw (there, number, (unsigned_reads 32).complete rest x tt)
fb_read at there number rest (is_ref_test x) = rw (there, number, heap_reads.complete rest x tt)
fb_read at there number rest (is_ref_test_null x) = rw (there, number, heap_reads.complete rest x tt)
fb_read at there number rest (is_ref_cast x) = rw (there, number, heap_reads.complete rest x tt)
fb_read at there number rest (is_ref_cast_null x) = rw (there, number, heap_reads.complete rest x tt)
fb_read at there number rest (is_br_on_cast x) = rw (there, number, cast_reads.complete rest x tt)
fb_read at there number rest (is_br_on_cast_fail x) = rw (there, number, cast_reads.complete rest x tt)
fb_read at there number rest (is_struct_new_desc x) = rw (there, number, (unsigned_reads 32).complete rest x tt)
fb_read at there number rest (is_struct_new_default_desc x) = rw (there, number, (unsigned_reads 32).complete rest x tt)
fb_read at there number rest (is_ref_get_desc x) = rw (there, number, (unsigned_reads 32).complete rest x tt)
fb_read at there number rest (is_ref_cast_desc_eq x) = rw (there, number, heap_reads.complete rest x tt)
fb_read at there number rest (is_ref_cast_desc_eq_null x) = rw (there, number, heap_reads.complete rest x tt)
fb_read at there number rest (is_br_on_cast_desc_eq x) = rw (there, number, cast_reads.complete rest x tt)
fb_read at there number rest (is_br_on_cast_desc_eq_fail x) = rw (there, number, cast_reads.complete rest x tt)
fb_read at there number rest (is_struct_get (two_numbers x y)) = rw (there, number) (two_read struct_get rest x y)
fb_read at there number rest (is_struct_set (two_numbers x y)) = rw (there, number) (two_read struct_set rest x y)

instruction_read : {s w : List ℕ} {at next : ℕ} {i : Instr} → Between s at w next → WritesInstruction w i → instr_at s at ≡ got i next
instruction_read lies (by_first_byte f) = first_read lies f
instruction_read {at = at} (byte there rest) (after_FB {u = u} n f) =
    let (mid, number, more) = split u rest in
    fb_read at there ((unsigned_reads 32).complete number n tt) more f

pub instructions_read : InstructionsRead
instructions_read = record { exactly = λ s at i next. (instruction_found s at i next, λ l. instruction_read l.between l.writes) }
