-- Each way out of the search for a struct's fields, and what a caller learns of it.
use Prim.Native.Nat.{ℕ, ◌≤◌, ◌<◌}
use mathlib.Core.Path.{◌≡◌, sym, ◌∙◌}
use mathlib.Core.List.{List}
use borrow.Author.Tests.{lt-ltb, le-ltb}
use Rattle.scope.specs.Refusals.{out_of_reach, bad_struct}
use Rattle.scope.specs.Syntax.{Types}
use Rattle.scope.specs.BodyRules.{allowed, fault}
use Rattle.scope.proofs.Impossible.{impossible}
use Rattle.type_table.specs.View.{field_at_code, codes_at}
use Rattle.type_table.specs.declared.Shape.{Shape}
use Rattle.type_table.specs.declared.Shape
use Rattle.type_table.specs.Answers.{shape_form}
use Rattle.body_plan_structs.specs.declared.Fields.{Fields}
use Rattle.body_plan_structs.specs.declared.Fields
use Rattle.body_plan_structs.specs.Structs.{fields_ruled, struct_at, StructOf}

module _ (codes : List ℕ) (ts : Types) (count x : ℕ) where
  pub struct_out : count ≤ x → StructOf codes ts count x (Fields.TheVariants.Fault out_of_reach)
  unfolding struct_at fields_ruled
  struct_out h =
      record { is = rw (le-ltb x count h); low = λ first n e. impossible cc }

  module _ (h : x < count) {s : Shape} (e : (ts x).form ≡ shape_form codes s) where
    pub struct_there : {first n : ℕ} → s ≡ Shape.TheVariants.Struct first n → StructOf codes ts count x (Fields.TheVariants.Are first n)
    unfolding struct_at fields_ruled
    struct_there q = record { is = rw (lt-ltb x count h, e, q); low = λ first n f. h }

    pub struct_func : {first n second m : ℕ} → s ≡ Shape.TheVariants.Func first n second m → StructOf codes ts count x (Fields.TheVariants.Fault bad_struct)
    unfolding struct_at fields_ruled
    struct_func q =
        record { is = rw (lt-ltb x count h, e, q); low = λ first n f. impossible cc }

pub ruleset finding_exits = (struct_out, struct_there, struct_func)

-- what a caller learns

module _ {codes : List ℕ} {ts : Types} {count x : ℕ} {r : Fields} (a : StructOf codes ts count x r) where
  pub struct_refused : {m : ℕ} → r ≡ Fields.TheVariants.Fault m → struct_at ts count x ≡ fault m
  unfolding fields_ruled
  struct_refused q = sym a.is ∙ rw q

  module _ {first n : ℕ} (q : r ≡ Fields.TheVariants.Are first n) where
    pub struct_found : struct_at ts count x ≡ allowed (codes_at field_at_code codes first n)
    unfolding fields_ruled
    struct_found = sym a.is ∙ rw q
