-- An operand of a numeric instruction, as it was seen: one that is missing counts as null, which is of no number's kind.
use Rattle.std.specs.Prelude.{◌≡◌}
use Rattle.scope.specs.Told.{Maybe}
use Rattle.scope.specs.Reading.{given}
use Rattle.scope.specs.Machine.{null}
use Rattle.run_value.specs.declared.Value.{Value as Carrier}
use Rattle.run_value.specs.Carried.{decoded}
use Rattle.run_stack.specs.Pile.{top_of}

pub record OperandIs (t : Maybe Carrier) (r : Carrier) : Type 0 where
  pub is : decoded r ≡ given (top_of t) null (λ v. v)
