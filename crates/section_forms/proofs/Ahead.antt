-- What a caller learns from the reader of forms: what was read, and that its codes took a byte each.
use Prim.Native.Nat.{ℕ, ◌+◌, ◌≤◌, ◌<◌}
use mathlib.Core.Path.{◌≡◌, refl, ap, ◌∙◌}
use mathlib.Core.Bool.{Bool, true, false, cond}
use mathlib.Core.Option.{Option, none, some}
use mathlib.Core.List.{List, map}
use native.Mathlib.Omega.{arith}
use lib.ListN.{length, length-map, length-append, get_elem?}
use lib.Dec.{eqb}
use Rattle.std.specs.Prelude.{Ok}
use Rattle.scope.specs.Refusals.{bytes_end, not_listed}
use Rattle.scope.specs.Reading.{Read, got, refused, given, then}
use Rattle.scope.specs.Syntax.{Val, Field, Form, struct, func}
use Rattle.scope.specs.Sections.{val_at, field_at, few_at, form_at}
use Rattle.scope.specs.Memory.{val_code, field_code, form_codes}
use Rattle.scope.proofs.Forward.{val_takes, field_takes}
use Rattle.scope.proofs.Impossible.{impossible}
use Rattle.scope.proofs.Told.{value_is, place_is}
use Rattle.type_table.specs.Kept.{kept_val, kept_field, kept_form}
use Rattle.section_forms.specs.declared.Shape
use Rattle.section_forms.specs.Reads.{form_is, struct_at, func_at}
use Rattle.section_forms.proofs.Counting.{few_ahead}

-- the answer, taken apart

pub struct_inv : (o : Read Form) {n end : ℕ} → Ok (Shape.TheVariants.Struct n, end) ≡ form_is o → (fs : List Field) × (o ≡ got (struct fs) end) × (n ≡ length fs)
struct_inv (got (struct fs) m) p = let e = value_is p refl in (fs, ap (got (struct fs)) (place_is p refl), cc)
struct_inv (got (func ps rs) m) p = let e = value_is p refl in impossible cc
struct_inv (refused k m) p = impossible cc

pub func_inv : (o : Read Form) {n k end : ℕ} → Ok (Shape.TheVariants.Func n k, end) ≡ form_is o → (ps : List Val) × (rs : List Val) × (o ≡ got (func ps rs) end) × (n ≡ length ps) × (k ≡ length rs)
func_inv (got (struct fs) m) p = let e = value_is p refl in impossible cc
func_inv (got (func ps rs) m) p = let e = value_is p refl in (ps, rs, ap (got (func ps rs)) (place_is p refl), cc, cc)
func_inv (refused k m) p = impossible cc

-- how many codes a form has

pub struct_codes : (fs : List Field) → length (form_codes (kept_form (struct fs))) ≡ length fs
struct_codes fs = length-map (map kept_field fs) field_code ∙ length-map fs kept_field

vals_codes : (vs : List Val) → length (map val_code (map kept_val vs)) ≡ length vs
vals_codes vs = length-map (map kept_val vs) val_code ∙ length-map vs kept_val

pub func_codes : (ps rs : List Val) → length (form_codes (kept_form (func ps rs))) ≡ length ps + length rs
func_codes ps rs =
    let p = vals_codes ps in
    let r = vals_codes rs in
    length-append (map val_code (map kept_val ps)) (map val_code (map kept_val rs)) ∙ (omega arith)

-- they took a byte each, and the form's code one more

-- the place after lies past so many codes
data Leads (at : ℕ) : Read Form → Type 0 where
  none_read : {k place : ℕ} → Leads at (refused k place)
  leads : {f : Form} {end : ℕ} → at + length (form_codes (kept_form f)) < end → Leads at (got f end)

struct_leads : (s : List ℕ) (at : ℕ) → Leads at (struct_at s (at + 1))
struct_leads s at = go (few_at field_at s (at + 1)) refl
  where
    go : (o : Read (List Field)) → few_at field_at s (at + 1) ≡ o → Leads at (then o (λ fs next. got (struct fs) next))
    go (refused k p) e = none_read
    go (got fs end) e =
        let h = few_ahead field_takes s (at + 1) e in
        let c = struct_codes fs in
        let q : at + length (form_codes (kept_form (struct fs))) < end = omega arith in
        leads q

func_leads : (s : List ℕ) (at : ℕ) → Leads at (func_at s (at + 1))
func_leads s at = go (few_at val_at s (at + 1)) refl
  where
    more : (ps : List Val) (next : ℕ) → at + 1 + length ps ≤ next → (o : Read (List Val)) → few_at val_at s next ≡ o → Leads at (then o (λ rs end. got (func ps rs) end))
    more ps next h (refused k p) e = none_read
    more ps next h (got rs end) e =
        let k = few_ahead val_takes s next e in
        let c = func_codes ps rs in
        let q : at + length (form_codes (kept_form (func ps rs))) < end = omega arith in
        leads q

    go : (o : Read (List Val)) → few_at val_at s (at + 1) ≡ o → Leads at (then o (λ ps next. then (few_at val_at s next) (λ rs end. got (func ps rs) end)))
    go (refused k p) e = none_read
    go (got ps next) e = more ps next (few_ahead val_takes s (at + 1) e) (few_at val_at s next) refl

leads_cond : {at : ℕ} (b : Bool) {p q : Read Form} → Leads at p → Leads at q → Leads at (cond b p q)
leads_cond true p q = p
leads_cond false p q = q

form_leads : (s : List ℕ) (at : ℕ) → Leads at (form_at s at)
unfolding form_at
form_leads s at = go (get_elem? s at)
  where
    go : (o : Option ℕ) → Leads at (given o (refused bytes_end at) (λ b. cond (eqb b 0x5F) (struct_at s (at + 1)) (cond (eqb b 0x60) (func_at s (at + 1)) (refused not_listed at))))
    go none = none_read
    go (some b) = leads_cond (eqb b 0x5F) (struct_leads s at) (leads_cond (eqb b 0x60) (func_leads s at) none_read)

pub form_ahead : (s : List ℕ) (at : ℕ) {f : Form} {end : ℕ} → form_at s at ≡ got f end → at + length (form_codes (kept_form f)) < end
form_ahead s at {f} {end} e = go (form_leads s at) e
  where
    go : {o : Read Form} → Leads at o → o ≡ got f end → at + length (form_codes (kept_form f)) < end
    go none_read q = impossible cc
    go (leads {f = g} {end = stop} h) q =
        let a : g ≡ f = cc in let b : stop ≡ end = cc in let c : length (form_codes (kept_form g)) ≡ length (form_codes (kept_form f)) = ap (λ (x : Form). length (form_codes (kept_form x))) a in omega arith
