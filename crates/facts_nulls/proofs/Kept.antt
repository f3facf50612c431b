-- Of what stands before the operands nothing is 31, so nothing of it is read otherwise: no question of an instruction has that
-- number.
use Prim.Native.Nat.{ℕ}
use mathlib.Core.Path.{◌≡◌, refl, ap}
use mathlib.Core.Bool.{Bool, true, false}
use mathlib.Core.List.{[], List, ◌∷◌, map}
use Rattle.scope.specs.Instructions.{Op}
use Rattle.scope.specs.BodyRules.{Context, Scope, Plan, Ruled, allowed, fault, test, plan_of}
use Rattle.facts_sections.specs.FirstFault.{FirstBroken, broken, kept_then}
use Rattle.facts_bodies.proofs.Premises.{Ordered}
use Rattle.facts_refusals.specs.Instructions.{Question, code_listed, heaps_reached, type_reached, label_there, local_there, is_struct, has_field, no_descriptor, has_descriptor, cast_described, field_mutable, supertype_shared, label_has_types, label_takes, all_defaults, local_is_set, number_of, asks, rule_of}
use Rattle.facts_refusals.proofs.Judged.{fault_exactly}
use Rattle.facts_refusals.proofs.Asked.{plan_asked}
use Rattle.facts_nulls.specs.Before.{as20}

abbrev pub ruled20 : {A : Type 0} → Ruled A → Ruled A
ruled20 (allowed x) = allowed x
ruled20 (fault n) = fault (as20 n)

number_as : (q : Question) → as20 (number_of q) ≡ number_of q
number_as (code_listed b) = refl
number_as (heaps_reached hs) = refl
number_as (type_reached x) = refl
number_as (label_there l) = refl
number_as (local_there x) = refl
number_as (is_struct x) = refl
number_as (has_field x i) = refl
number_as (no_descriptor x) = refl
number_as (has_descriptor x) = refl
number_as (cast_described h) = refl
number_as (field_mutable x i) = refl
number_as (supertype_shared k) = refl
number_as (label_has_types l) = refl
number_as (label_takes l v) = refl
number_as (all_defaults x) = refl
number_as (local_is_set x) = refl

asked_as : (c : Context) (here : Scope) (qs : List Question) {n : ℕ} → FirstBroken (map (rule_of c here) qs) n → as20 n ≡ n
asked_as c here (q ∷ qs) (broken wrong) = number_as q
asked_as c here (q ∷ qs) (kept_then p more) = asked_as c here qs more
asked_as c here [] {n = n} x' = elim x' [ ]

pub plan_kept : (c : Context) (here : Scope) → Ordered c.types → (o : Op) → ruled20 (plan_of c here o) ≡ plan_of c here o
plan_kept c here ordered o = go (plan_of c here o) (λ n e. asked_as c here (asks o) ((fault_exactly (plan_asked c here ordered o)).0 e))
  where
    go : (r : Ruled Plan) → ((n : ℕ) → r ≡ fault n → as20 n ≡ n) → ruled20 r ≡ r
    go (allowed p) k = refl
    go (fault n) k = ap fault (k n refl)

-- a test with another number
pub test-kept : {A : Type 0} (n : ℕ) (more : Ruled A) (b : Bool) → as20 n ≡ n → ruled20 more ≡ more → ruled20 (test b n more) ≡ test b n more
test-kept n more true other k = k
test-kept n more false other k = ap fault other
