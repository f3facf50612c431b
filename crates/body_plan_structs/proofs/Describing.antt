-- Each way out of the search for the fields of a struct without a descriptor and of one with it, and what a caller learns.
use Prim.Native.Nat.{ℕ, ◌<◌, ◌^◌}
use mathlib.Core.Path.{◌≡◌, sym, ◌∙◌}
use mathlib.Core.Option.{none, some}
use mathlib.Core.List.{List}
use native.Mathlib.Omega.{arith}
use mir.Syntax.{w16}
use mir.Val.{Fits}
use Rattle.scope.specs.Told.{Maybe}
use Rattle.std.specs.Prelude.{None, Some}
use Rattle.scope.specs.Refusals.{bad_struct}
use Rattle.scope.specs.Syntax.{Types}
use Rattle.scope.specs.BodyRules.{allowed, fault}
use Rattle.scope.proofs.Impossible.{impossible}
use Rattle.type_table.specs.View.{field_at_code, codes_at}
use Rattle.body_plan_parts.specs.Planning.{DescriptorOf}
use Rattle.body_plan_structs.specs.declared.Fields.{Fields}
use Rattle.body_plan_structs.specs.declared.Fields
use Rattle.body_plan_structs.specs.declared.Pair.{Pair}
use Rattle.body_plan_structs.specs.declared.Pair
use Rattle.body_plan_structs.specs.Structs.{fields_ruled, pair_ruled, undescribed_at, described_at, StructOf, Undescribed, Described}
use Rattle.body_plan_structs.proofs.Finding.{struct_refused, struct_found}

-- undescribed and described

module _ {codes : List ℕ} {ts : Types} {count x : ℕ} {r : Fields} (a : StructOf codes ts count x r) where
  module _ {m : ℕ} (q : r ≡ Fields.TheVariants.Fault m) where
    pub undescribed_refused : Undescribed codes ts count x (Fields.TheVariants.Fault m)
    unfolding fields_ruled undescribed_at
    undescribed_refused =
        record { is = rw (struct_refused a q); low = λ first n e. impossible cc }

    pub described_refused : Described codes ts count x (Pair.TheVariants.Fault m)
    unfolding pair_ruled described_at
    described_refused =
        record { is = rw (struct_refused a q); low = λ first n y e. impossible cc }

  module _ {first n : ℕ} (q : r ≡ Fields.TheVariants.Are first n) {d : Maybe ℕ} (b : DescriptorOf (ts x).descriptor d) where
    module _ (e : d ≡ None) where
      none_is : (ts x).descriptor ≡ none
      none_is = sym b.is ∙ rw e

      pub undescribed_is : Undescribed codes ts count x (Fields.TheVariants.Are first n)
      unfolding fields_ruled undescribed_at
      undescribed_is = record { is = rw (struct_found a q, none_is); low = λ i k f. a.low first n q }

      pub described-not : Described codes ts count x (Pair.TheVariants.Fault bad_struct)
      unfolding pair_ruled described_at
      described-not =
          record {
            is = rw (struct_found a q, none_is);
            low = λ i k y f. impossible cc;
          }

    module _ {y : ℕ} (e : d ≡ Some y) where
      some_is : (ts x).descriptor ≡ some y
      some_is = sym b.is ∙ rw e

      pub undescribed-not : Undescribed codes ts count x (Fields.TheVariants.Fault bad_struct)
      unfolding fields_ruled undescribed_at
      undescribed-not =
          record {
            is = rw (struct_found a q, some_is);
            low = λ i k f. impossible cc;
          }

      pub described_is : Described codes ts count x (Pair.TheVariants.Are first n y)
      unfolding pair_ruled described_at
      described_is =
          record {
            is = rw (struct_found a q, some_is);
            low = λ i k z f. let same : y ≡ z = cc in (a.low first n q, rw (← same) (b.small y e));
          }

pub ruleset describing_exits = (undescribed_refused, described_refused, undescribed_is, described-not, undescribed-not, described_is)

-- what a caller learns

module _ {codes : List ℕ} {ts : Types} {count x : ℕ} {r : Fields} (a : Undescribed codes ts count x r) where
  module _ {m : ℕ} (q : r ≡ Fields.TheVariants.Fault m) where
    pub no_fields : undescribed_at ts count x ≡ fault m
    unfolding fields_ruled
    no_fields = sym a.is ∙ rw q

  module _ {first n : ℕ} (q : r ≡ Fields.TheVariants.Are first n) where
    pub fields_are : undescribed_at ts count x ≡ allowed (codes_at field_at_code codes first n)
    unfolding fields_ruled
    fields_are = sym a.is ∙ rw q

    pub struct_small : Fits w16 count → x < 2 ^ 16
    struct_small f = let low = a.low first n q in let few : count < 2 ^ 16 = f.fits in omega arith

module _ {codes : List ℕ} {ts : Types} {count x : ℕ} {r : Pair} (a : Described codes ts count x r) where
  module _ {m : ℕ} (q : r ≡ Pair.TheVariants.Fault m) where
    pub no-pair : described_at ts count x ≡ fault m
    unfolding pair_ruled
    no-pair = sym a.is ∙ rw q

  module _ {first n y : ℕ} (q : r ≡ Pair.TheVariants.Are first n y) where
    pub pair_is : described_at ts count x ≡ allowed (codes_at field_at_code codes first n, y)
    unfolding pair_ruled
    pair_is = sym a.is ∙ rw q

    pub described-small : Fits w16 count → x < 2 ^ 16
    described-small f = let low = (a.low first n y q).0 in let few : count < 2 ^ 16 = f.fits in omega arith

    pub descriptor_small : y < 2 ^ 16
    descriptor_small = (a.low first n y q).1
