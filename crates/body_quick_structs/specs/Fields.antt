-- What two numbers say of a field of a struct in reach.
use Rattle.std.specs.Prelude.{ℕ, ◌+◌, ◌<◌, ◌≤◌, ◌/◌, ◌^◌, ◌≡◌, List, length, true}
use Rattle.scope.specs.Reading.{got}
use Rattle.scope.specs.Numbers.{u32}
use Rattle.scope.specs.Syntax.{Types, ref, defined}
use Rattle.scope.specs.BodyRules.{allowed}
use Rattle.type_table.specs.View.{field_at_code}
use Rattle.body_plan_parts.specs.Planning.{CodeIs}
use Rattle.body_plan_fields.specs.OneField.{field_at}
use Rattle.body_quick_structs.specs.declared.Place.{Place}

-- the numbers, one after the other, name a field; or no bytes
pub record FieldNamed (s : List ℕ) (at : ℕ) (ts : Types) (count : ℕ) (r : Place) : Type 0 where
  pub type : ℕ
  pub number : ℕ
  pub between : ℕ
  pub first : u32 s at ≡ got type between
  pub second : u32 s between ≡ got number (at + r.size)
  pub inside : at + r.size ≤ length s
  pub object : CodeIs (ref true (defined type)) r.object
  pub field : field_at ts count type number ≡ allowed (field_at_code r.field)
  pub small : r.field < 2 ^ 16

pub record FieldTold (s : List ℕ) (at : ℕ) (ts : Types) (count : ℕ) (r : Place) : Type 0 where
  pub is : (r.size ≡ 0 → ⊥) → FieldNamed s at ts count r
