-- A branching cast as the code holds it, and the definition's reader of it after its flags and after its code.
use Rattle.std.specs.Prelude.{ℕ, Bool, cond, eqb}
use Rattle.scope.specs.Told.{told}
use Rattle.std.specs.Prelude.{Result}
use Rattle.scope.specs.declared.Refused.{Refused}
use Rattle.scope.specs.Reading.{Read, got, Reader, then}
use Rattle.scope.specs.Numbers.{u32}
use Rattle.scope.specs.Sections.{heap_at}
use Rattle.scope.specs.Instructions.{Cast, Op, br_on_cast, br_on_cast_fail, br_on_cast_desc_eq, br_on_cast_desc_eq_fail, Instr, having, cast_at}
use Rattle.type_read.specs.Codes.{heap_code_kept}
use Rattle.body_cast_immediates.specs.declared.Casting.{Casting}

abbrev pub casting_of : Cast → Casting
casting_of k =
    record {
      label = k.label;
      source_null = k.source_null;
      source = heap_code_kept k.source;
      target_null = k.target_null;
      target = heap_code_kept k.target;
    }

abbrev pub cast_is : Read Cast → Result (Casting × ℕ) Refused
cast_is = told casting_of

-- a branching cast after its flags
unfoldable pub cast_types_at : Bool → Bool → Reader Cast
cast_types_at m n s at =
    then (u32 s at) (λ l next.
    then (heap_at s next) (λ h target.
    then (heap_at s target) (λ k stop.
    got (record { label = l; source_null = m; source = h; target_null = n; target = k }) stop)))

abbrev pub casting : ℕ → Cast → Op
casting b k =
    cond (eqb b 0x18) (br_on_cast k)
    (cond (eqb b 0x19) (br_on_cast_fail k) (cond (eqb b 0x25) (br_on_cast_desc_eq k) (br_on_cast_desc_eq_fail k)))

unfoldable pub casting_at : ℕ → Reader Instr
casting_at b = having cast_at (casting b)
