-- What the questions asked of the table answer, by what its words say (View.antt).
use Rattle.std.specs.Prelude.{ℕ, List, [], ◌∷◌}
use Rattle.std.proofs.Math.Option.{Option, none, some}
use Rattle.scope.specs.Told.{Maybe}
use Rattle.std.specs.Prelude.{None, Some}
use Rattle.scope.specs.Syntax.{Heap, abstract, defined, exact, Val, num, ref, Form, struct, func}
use Rattle.scope.specs.Order.{number_code}
use Rattle.scope.specs.Memory.{abstract_code, heap_code}
use Rattle.type_table.specs.View.{val_at_code, field_at_code, codes_at}
use Rattle.type_table.specs.declared.Supers.{Supers}
use Rattle.type_table.specs.declared.Supers
use Rattle.type_table.specs.declared.Shape.{Shape}
use Rattle.type_table.specs.declared.Shape
use Rattle.type_table.specs.declared.HeapKind.{HeapKind}
use Rattle.type_table.specs.declared.HeapKind
use Rattle.type_table.specs.declared.ValKind.{ValKind}
use Rattle.type_table.specs.declared.ValKind

abbrev pub link_is : Option ℕ → Maybe ℕ
link_is none = None
link_is (some x) = Some x

-- the number that a link names, the other way
abbrev pub link_option : Maybe ℕ → Option ℕ
link_option None = none
link_option (Some x) = some x

-- the supertypes that an answer names
abbrev pub supers_list : Supers → List ℕ
supers_list Supers.TheVariants.Nothing = []
supers_list (Supers.TheVariants.One p) = p ∷ []
supers_list (Supers.TheVariants.Two p q) = p ∷ q ∷ []

-- the form whose codes lie where an answer says
abbrev pub shape_form : List ℕ → Shape → Form
shape_form codes (Shape.TheVariants.Struct first n) = struct (codes_at field_at_code codes first n)
shape_form codes (Shape.TheVariants.Func first n second m) = func (codes_at val_at_code codes first n) (codes_at val_at_code codes second m)

abbrev pub heap_is : Heap → HeapKind
heap_is (abstract a) = HeapKind.TheVariants.Abstract (abstract_code a)
heap_is (defined x) = HeapKind.TheVariants.Defined x
heap_is (exact x) = HeapKind.TheVariants.Exact x

abbrev pub val_is : Val → ValKind
val_is (num n) = ValKind.TheVariants.Number (number_code n)
val_is (ref n h) = ValKind.TheVariants.Ref n (heap_code h)
