-- A form that was read, and its row: the words that were put are those that the definition's row has.
use Prim.Native.Nat.{ℕ, ◌+◌, ◌≤◌}
use mathlib.Core.Path.{◌≡◌, refl, sym, ap, ◌∙◌}
use mathlib.Core.List.{List}
use native.Mathlib.Omega.{arith}
use lib.ListN.{length, length-map}
use mir.Syntax.{w64}
use mir.Val.{Fits}
use Rattle.scope.specs.declared.Refused.{Refused}
use Rattle.std.specs.Prelude.{Result, Ok, Err, IsErrAnd}
use Rattle.scope.specs.Reading.{got, refused}
use Rattle.scope.specs.Syntax.{Val, Field, Form, struct, func}
use Rattle.scope.specs.Sections.{form_at}
use Rattle.scope.specs.Memory.{form_codes}
use Rattle.scope.proofs.Forward.{form_takes, never_back}
use Rattle.scope.proofs.Impossible.{impossible}
use Rattle.scope.proofs.Told.{told_refused, passed}
use Rattle.type_table.specs.Kept.{kept_val, kept_field, kept_form}
use Rattle.type_table.proofs.Puts.{Puts, puts_length}
use Rattle.section_forms.specs.declared.Shape.{Shape}
use Rattle.section_forms.specs.declared.Shape
use Rattle.section_forms.specs.Reads.{PartRead, shape_of}
use Rattle.section_forms.proofs.Ahead.{struct_inv, func_inv, struct_codes, func_codes, form_ahead}
use Rattle.section_definition.specs.Rows.{row_of, front_low, front_row, RowRoom, FormedRead}
use Rattle.section_clauses.specs.declared.Front.{Front}

module _ {s : List ℕ} {at : ℕ} {codes codes' : List ℕ} {filled : ℕ} where
  pub formed_refused : (made : Form → ℕ → List ℕ) (rows : List ℕ) (row : ℕ) {no : Refused} {r : Result (ℕ × ℕ) Refused} → PartRead form_at s at codes codes' filled (Err no) → IsErrAnd r (λ y. y ≡ no) → FormedRead made s at rows rows row codes codes' filled r
  formed_refused made rows row {no} a is =
      let none : form_at s at ≡ refused no.number no.at = told_refused shape_of (form_at s at) a.answer in
      rw (passed is refl)
      (record {
        answer = rw none;
        row_put = λ f end g. impossible cc;
        codes_put = a.memory;
        rows_kept = refl;
        codes_kept = a.size;
      })

  module _ {shape : Shape} {end : ℕ} (a : PartRead form_at s at codes codes' filled (Ok (shape, end))) where
    fields : {n : ℕ} → shape ≡ Shape.TheVariants.Struct n → (fs : List Field) × (form_at s at ≡ got (struct fs) end) × (n ≡ length fs)
    fields e = struct_inv (form_at s at) (ap (λ (x : Shape). Ok (x, end)) (sym e) ∙ a.answer)

    lists : {n m : ℕ} → shape ≡ Shape.TheVariants.Func n m → (ps : List Val) × (rs : List Val) × (form_at s at ≡ got (func ps rs) end) × (n ≡ length ps) × (m ≡ length rs)
    lists e = func_inv (form_at s at) (ap (λ (x : Shape). Ok (x, end)) (sym e) ∙ a.answer)

    formed : (made : Form → ℕ → List ℕ) {rows rows' : List ℕ} {row n : ℕ} (f : Form) → form_at s at ≡ got f end → n ≡ length (form_codes (kept_form f)) → Puts rows rows' row (made (kept_form f) end) → FormedRead made s at rows rows' row codes codes' filled (Ok ((filled + n), end))
    formed made {rows} {rows'} {row} {n} f read count put =
        record {
          answer = rw (read, count);
          row_put = λ g stop e. let same : f ≡ g = cc in let there : end ≡ stop = cc in rw (← same, ← there) put;
          codes_put = a.memory;
          rows_kept = puts_length put;
          codes_kept = a.size;
        }

    module _ (x : Front) (from reach used : ℕ) {rows rows' : List ℕ} {row : ℕ} where
      struct_formed : {n : ℕ} (fs : List Field) → form_at s at ≡ got (struct fs) end → n ≡ length fs → Puts rows rows' row (front_low 1 n 0 x from end reach used) → FormedRead (front_row x from reach used) s at rows rows' row codes codes' filled (Ok ((filled + n), end))
      unfolding row_of
      struct_formed {n} fs read count put = formed (front_row x from reach used) (struct fs) read (count ∙ sym (struct_codes fs)) (rw (length-map fs kept_field, ← count) put)

      pub formed_struct : {n : ℕ} → shape ≡ Shape.TheVariants.Struct n → Puts rows rows' row (front_low 1 n 0 x from end reach used) → FormedRead (front_row x from reach used) s at rows rows' row codes codes' filled (Ok ((filled + n), end))
      formed_struct e put = let (fs, read, count) = fields e in struct_formed fs read count put

      func_formed : {n m : ℕ} (ps rs : List Val) → form_at s at ≡ got (func ps rs) end → n ≡ length ps → m ≡ length rs → Puts rows rows' row (front_low 2 n m x from end reach used) → FormedRead (front_row x from reach used) s at rows rows' row codes codes' filled (Ok ((filled + n + m), end))
      unfolding row_of
      func_formed {n} {m} ps rs read count more put =
          let sum : filled + n + m ≡ filled + (n + m) = omega arith in
          rw sum
          (formed (front_row x from reach used) (func ps rs) read (let c = func_codes ps rs in omega arith) (rw (length-map ps kept_val, length-map rs kept_val, ← count, ← more) put))

      pub formed_func : {n m : ℕ} → shape ≡ Shape.TheVariants.Func n m → Puts rows rows' row (front_low 2 n m x from end reach used) → FormedRead (front_row x from reach used) s at rows rows' row codes codes' filled (Ok ((filled + n + m), end))
      formed_func e put = let (ps, rs, read, count, more) = lists e in func_formed ps rs read count more put

    -- how far the part is filled then fits, since they took bytes of the section

    codes-fit : {rows : List ℕ} {row used k : ℕ} (f : Form) → RowRoom s rows codes at row used filled → form_at s at ≡ got f end → k ≤ length (form_codes (kept_form f)) → Fits w64 (filled + k)
    codes-fit f place read h =
        let ahead = form_ahead s at read in
        let ends = never_back form_takes s at read in
        record { fits = omega (arith, place.room.behind, place.room.small, ends.1) }

    pub struct_filled-fits : {rows : List ℕ} {row used n : ℕ} → RowRoom s rows codes at row used filled → shape ≡ Shape.TheVariants.Struct n → Fits w64 (filled + n)
    struct_filled-fits place e =
        let (fs, read, count) = fields e in codes-fit (struct fs) place read (let c = struct_codes fs in omega arith)

    pub func_filled-fits : {rows : List ℕ} {row used n m : ℕ} → RowRoom s rows codes at row used filled → shape ≡ Shape.TheVariants.Func n m → Fits w64 (filled + n)
    func_filled-fits place e =
        let (ps, rs, read, count, more) = lists e in codes-fit (func ps rs) place read (let c = func_codes ps rs in omega arith)

    pub func_all_fits : {rows : List ℕ} {row used n m : ℕ} → RowRoom s rows codes at row used filled → shape ≡ Shape.TheVariants.Func n m → Fits w64 (filled + n + m)
    func_all_fits {n = n} {m = m} place e =
        let (ps, rs, read, count, more) = lists e in
        let sum : filled + n + m ≡ filled + (n + m) = omega arith in
        rw sum (codes-fit (func ps rs) place read (let c = func_codes ps rs in omega arith))
