-- What the questions for a struct's fields answer, by scope's BodyRules.antt over what the table says.
use Rattle.std.specs.Prelude.{ℕ, ◌<◌, ◌^◌, ◌≡◌, true, ◌&&◌, List, ltb}
use Rattle.scope.specs.Refusals.{out_of_reach, bad_struct}
use Rattle.scope.specs.Lists.{is_none}
use Rattle.scope.specs.Syntax.{Types}
use Rattle.scope.specs.Syntax
use Rattle.scope.specs.BodyRules.{Ruled, allowed, fault, test, need, and_ruled, fields_of}
use Rattle.type_table.specs.View.{field_at_code, codes_at}
use Rattle.body_plan_structs.specs.declared.Fields.{Fields}
use Rattle.body_plan_structs.specs.declared.Fields
use Rattle.body_plan_structs.specs.declared.Pair.{Pair}
use Rattle.body_plan_structs.specs.declared.Pair

unfoldable pub fields_ruled : List ℕ → Fields → Ruled (List Syntax.Field)
fields_ruled codes (Fields.TheVariants.Fault n) = fault n
fields_ruled codes (Fields.TheVariants.Are first n) = allowed (codes_at field_at_code codes first n)

-- 6 and 23: the fields of a struct
unfoldable pub struct_at : Types → ℕ → ℕ → Ruled (List Syntax.Field)
struct_at ts count x = test (ltb x count && true) out_of_reach (need (fields_of (ts x).form) bad_struct allowed)

pub record StructOf (codes : List ℕ) (ts : Types) (count x : ℕ) (r : Fields) : Type 0 where
  pub is : fields_ruled codes r ≡ struct_at ts count x
  pub low : (first n : ℕ) → r ≡ Fields.TheVariants.Are first n → x < count

-- the fields of a struct without a descriptor
unfoldable pub undescribed_at : Types → ℕ → ℕ → Ruled (List Syntax.Field)
undescribed_at ts count x = and_ruled (struct_at ts count x) (λ fs. test (is_none (ts x).descriptor) bad_struct (allowed fs))

pub record Undescribed (codes : List ℕ) (ts : Types) (count x : ℕ) (r : Fields) : Type 0 where
  pub is : fields_ruled codes r ≡ undescribed_at ts count x
  pub low : (first n : ℕ) → r ≡ Fields.TheVariants.Are first n → x < count

-- those of one with a descriptor, and that descriptor
unfoldable pub described_at : Types → ℕ → ℕ → Ruled (List Syntax.Field × ℕ)
described_at ts count x = and_ruled (struct_at ts count x) (λ fs. need (ts x).descriptor bad_struct (λ y. allowed (fs, y)))

unfoldable pub pair_ruled : List ℕ → Pair → Ruled (List Syntax.Field × ℕ)
pair_ruled codes (Pair.TheVariants.Fault n) = fault n
pair_ruled codes (Pair.TheVariants.Are first n y) = allowed (codes_at field_at_code codes first n, y)

pub record Described (codes : List ℕ) (ts : Types) (count x : ℕ) (r : Pair) : Type 0 where
  pub is : pair_ruled codes r ≡ described_at ts count x
  pub low : (first n y : ℕ) → r ≡ Pair.TheVariants.Are first n y → (x < count) × (y < 2 ^ 16)
