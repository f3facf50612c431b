-- What the readers of types answer: the code of what the definitions read.
use Rattle.std.specs.Prelude.{ℕ, Bool, true, cond, List, eqb}
use Rattle.std.proofs.Math.Option.{Option, none, some}
use Rattle.scope.specs.Told.{told}
use Rattle.std.specs.Prelude.{Result, Ok, Err}
use Rattle.scope.specs.declared.Refused.{Refused}
use Rattle.scope.specs.Told.{Maybe}
use Rattle.std.specs.Prelude.{None, Some}
use Rattle.scope.specs.Refusals.{not_listed}
use Rattle.scope.specs.Reading.{Read, got, refused, given, then}
use Rattle.scope.specs.Numbers.{u32, s33}
use Rattle.scope.specs.Abstract.{abstract_of}
use Rattle.scope.specs.Syntax.{Heap, abstract, exact, Number, Val, ref, Field}
use Rattle.scope.specs.Sections.{type_number, heap_at}
use Rattle.scope.specs.Order.{number_code}
use Rattle.scope.specs.Memory.{heap_code, val_code, field_code}
use Rattle.type_table.specs.Kept.{kept_heap, kept_val, kept_field}

abbrev pub coded_is : {A : Type 0} → (A → ℕ) → Read A → Result (ℕ × ℕ) Refused
coded_is = told

-- the codes of types as the table keeps them

unfoldable pub heap_code_kept : Heap → ℕ
heap_code_kept h = heap_code (kept_heap h)

unfoldable pub val_code_kept : Val → ℕ
val_code_kept v = val_code (kept_val v)

unfoldable pub field_code_kept : Field → ℕ
field_code_kept f = field_code (kept_field f)

-- parts of the definitions' readers

abbrev pub exact_at : List ℕ → ℕ → Read Heap
exact_at s at = then (u32 s at) (λ x next. got (exact x) next)

abbrev pub defined_at : List ℕ → ℕ → Read Heap
defined_at s at = then (s33 s at) (type_number at)

abbrev pub number_is : Option Number → Maybe ℕ
number_is none = None
number_is (some n) = Some (number_code n)

abbrev pub referent_at : Bool → List ℕ → ℕ → Read Val
referent_at nullable s at = then (heap_at s at) (λ h next. got (ref nullable h) next)

abbrev pub reference_at : ℕ → List ℕ → ℕ → ℕ → Read Val
reference_at b s at next =
    cond (eqb b 0x63) (referent_at (eqb b 0x63) s next)
    (cond (eqb b 0x64) (referent_at (eqb b 0x63) s next)
    (given (abstract_of b) (refused not_listed at) (λ a. got (ref true (abstract a)) next)))
