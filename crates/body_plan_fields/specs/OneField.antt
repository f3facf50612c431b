-- What the question for one field of a struct answers, by scope's BodyRules.antt over what the table says.
use Rattle.std.specs.Prelude.{ℕ, ◌<◌, ◌^◌, ◌≡◌}
use Rattle.std.proofs.Math.ListN.{get_elem?}
use Rattle.scope.specs.Refusals.{bad_struct}
use Rattle.scope.specs.Syntax.{Types}
use Rattle.scope.specs.Syntax
use Rattle.scope.specs.BodyRules.{Ruled, allowed, fault, need, and_ruled}
use Rattle.type_table.specs.View.{field_at_code}
use Rattle.body_plan_fields.specs.declared.Field.{Field}
use Rattle.body_plan_fields.specs.declared.Field
use Rattle.body_plan_structs.specs.Structs.{struct_at}

unfoldable pub field_ruled : Field → Ruled Syntax.Field
field_ruled (Field.TheVariants.Fault n) = fault n
field_ruled (Field.TheVariants.Is c) = allowed (field_at_code c)

-- 6 and 23: one of a struct's fields
unfoldable pub field_at : Types → ℕ → ℕ → ℕ → Ruled Syntax.Field
field_at ts count x i = and_ruled (struct_at ts count x) (λ fs. need (get_elem? fs i) bad_struct allowed)

pub record FieldOf (ts : Types) (count x i : ℕ) (r : Field) : Type 0 where
  pub is : field_ruled r ≡ field_at ts count x i
  pub low : (c : ℕ) → r ≡ Field.TheVariants.Is c → (x < count) × (c < 2 ^ 16)
