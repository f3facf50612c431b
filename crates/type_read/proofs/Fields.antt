-- Each way out of the readers of flags and fields: a field's code is twice its type's and its flag.
use Prim.Native.Nat.{ℕ, ◌+◌, ◌*◌, ◌≤◌}
use mathlib.Core.Path.{◌≡◌, refl, sym, ◌∙◌}
use mathlib.Core.Bool.{Bool, true, false}
use mathlib.Core.List.{List}
use native.Mathlib.Omega.{arith}
use lib.ListN.{get_elem?}
use borrow.Author.Tests.{ne_eqb}
use mir.Syntax.{w64}
use mir.Val.{Fits}
use Rattle.scope.specs.Told.{no_at}
use Rattle.std.specs.Prelude.{Result, Ok, Err}
use Rattle.scope.specs.declared.Refused.{Refused}
use Rattle.scope.specs.Told.{Maybe}
use Rattle.std.specs.Prelude.{None, Some}
use Rattle.scope.specs.Refusals.{bytes_end, not_listed}
use Rattle.scope.specs.Reading.{Read, got}
use Rattle.scope.specs.Syntax.{Val, Field}
use Rattle.scope.specs.Sections.{val_at, flag_at, field_at}
use Rattle.scope.specs.Memory.{flag}
use Rattle.scope.proofs.Told.{passed, passes}
use Rattle.number_bytes.specs.Bytes.{ByteAt}
use Rattle.number_bytes.proofs.Laws.{byte_got, byte_none}
use Rattle.type_table.proofs.CodesBack.{val_code-small, field_code-small}
use Rattle.type_read.specs.Codes.{coded_is, val_code_kept, field_code_kept}
use Rattle.type_read.proofs.Vals.{coded_got, coded_refused}

-- flag_at

module _ {s : List ℕ} {at : ℕ} {r : Maybe ℕ} (a : ByteAt s at r) where
  pub flag_missing : r ≡ None → Err (no_at bytes_end at) ≡ coded_is flag (flag_at s at)
  flag_missing e = rw (byte_none (get_elem? s at) a.is e)

  module _ {b : ℕ} (e : r ≡ Some b) where
    pub flag-fixed : b ≡ 0 → Ok (0, (at + 1)) ≡ coded_is flag (flag_at s at)
    flag-fixed f = rw (byte_got (get_elem? s at) a.is e, f)

    pub flag_mutable : b ≡ 1 → Ok (1, (at + 1)) ≡ coded_is flag (flag_at s at)
    flag_mutable f = rw (byte_got (get_elem? s at) a.is e, f)

    pub flag-unlisted : (b ≡ 0 → ⊥) → (b ≡ 1 → ⊥) → Err (no_at not_listed at) ≡ coded_is flag (flag_at s at)
    flag-unlisted f g = rw (byte_got (get_elem? s at) a.is e, ne_eqb b 0 f, ne_eqb b 1 g)

pub ruleset flag_exits = (flag_missing, flag-fixed, flag_mutable, flag-unlisted)

-- field_at

module _ (s : List ℕ) (at : ℕ) {c next : ℕ} (a : Ok (c, next) ≡ coded_is val_code_kept (val_at s at)) where
  no_flag : (v : Val) → val_at s at ≡ got v next → {e : Refused} → Err e ≡ coded_is flag (flag_at s next) → Err e ≡ coded_is field_code_kept (field_at s at)
  unfolding field_at
  no_flag v read f = passes flag field_code_kept (flag_at s next) (λ m end. got (record { holds = v; mutable = m }) end) f ∙ sym (rw read)

  pub field_no-flag : {e : Refused} → Err e ≡ coded_is flag (flag_at s next) → Err e ≡ coded_is field_code_kept (field_at s at)
  field_no-flag f = let (v, read, code) = coded_got val_code_kept (val_at s at) a refl in no_flag v read f

  both_read : {k stop : ℕ} (v : Val) (m : Bool) → val_at s at ≡ got v next → c ≡ val_code_kept v → flag_at s next ≡ got m stop → k ≡ flag m → Ok (2 * c + k, stop) ≡ coded_is field_code_kept (field_at s at)
  unfolding field_at val_code_kept field_code_kept
  both_read v m read code mut bit = rw (read, mut, code, bit)

  pub field_got : {k stop : ℕ} → Ok (k, stop) ≡ coded_is flag (flag_at s next) → Ok (2 * c + k, stop) ≡ coded_is field_code_kept (field_at s at)
  field_got b =
      let (v, read, code) = coded_got val_code_kept (val_at s at) a refl in
      let (m, mut, bit) = coded_got flag (flag_at s next) b refl in
      both_read v m read code mut bit

flag_most : (b : Bool) → flag b ≤ 1
flag_most true = omega arith
flag_most false = omega arith

val_most : (v : Val) → val_code_kept v ≤ 16407
unfolding val_code_kept
val_most v = val_code-small v

pub val_code_most : (o : Read Val) {c next : ℕ} {r : Result (ℕ × ℕ) Refused} → r ≡ coded_is val_code_kept o → r ≡ Ok (c, next) → c ≤ 16407
val_code_most o p q = let (v, e, f) = coded_got val_code_kept o p q in let m = val_most v in omega arith

pub flag-code_most : (o : Read Bool) {c next : ℕ} {r : Result (ℕ × ℕ) Refused} → r ≡ coded_is flag o → r ≡ Ok (c, next) → c ≤ 1
flag-code_most o p q = let (v, e, f) = coded_got flag o p q in let m = flag_most v in omega arith

field_most : (f : Field) → field_code_kept f ≤ 32815
unfolding field_code_kept
field_most f = field_code-small f

pub field_code_most : (o : Read Field) {c next : ℕ} {r : Result (ℕ × ℕ) Refused} → r ≡ coded_is field_code_kept o → r ≡ Ok (c, next) → c ≤ 32815
field_code_most o p q = let (v, e, f) = coded_got field_code_kept o p q in let m = field_most v in omega arith

pub twice-fits : (o : Read Val) {c next : ℕ} → Ok (c, next) ≡ coded_is val_code_kept o → Fits w64 (2 * c)
twice-fits o p = let h = val_code_most o p refl in record { fits = omega arith }

pub field_fits : (o : Read Val) (m : Read Bool) {c next k stop : ℕ} → Ok (c, next) ≡ coded_is val_code_kept o → Ok (k, stop) ≡ coded_is flag m → Fits w64 (2 * c + k)
field_fits o m p t = let h = val_code_most o p refl in let j = flag-code_most m t refl in record { fits = omega arith }

pub ruleset field_exits = (passed, field_no-flag, field_got, twice-fits, field_fits)
