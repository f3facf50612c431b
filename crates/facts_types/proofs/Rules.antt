-- Each test of type rules 1 to 5 and of the chain, and its relation, say the same of one type. The test is taken apart by
-- the cases that it goes through; the relation has a constructor or a field for each of them. Only rule 2's way back asks
-- for something: that the order's relation is tested, which holds in a table that passes.
use Prim.Native.Nat.{ℕ, zero, suc, ◌≤◌}
use native.Mathlib.Omega.{arith}
use mathlib.Core.Path.{◌≡◌, refl}
use mathlib.Core.Bool.{Bool, true, false, ◌&&◌, ◌||◌, false≢true}
use mathlib.Core.Option.{Option, none, some}
use mathlib.Core.List.{List, [], ◌∷◌}
use lib.Dec.{ltb}
use borrow.Author.Tests.{ltb-true, lt-ltb}
use Rattle.scope.specs.Sizes.{most_steps}
use Rattle.scope.specs.Reading.{given}
use Rattle.scope.specs.Lists.{is_none}
use Rattle.scope.specs.Syntax.{Val, Field, Form, struct, func, Types, super_of}
use Rattle.scope.specs.Order.{ValOrder, val_below}
use Rattle.scope.specs.TypeRules.{one_super, super_earlier_and_open, short_chain, field_matches, form_matches, is_struct, is_the, matches_super, clauses_on_struct, describes_earlier, clauses_agree, descriptor_follows, described_follow, describes_follows}
use Rattle.scope.proofs.Truths.{both, from_both}
use Rattle.scope.proofs.Order.{tested_value_order}
use Rattle.scope.proofs.Identity.{same_value_equal, value_same}
use Rattle.facts_types.specs.TypeRelations.{SupertypesOf, no_supertype, one_supertype, FieldMatches, fixed_subtype, mutable_identical, Against, against, FormMatches, structs, functions, Matches, IsStruct, a_struct, OnStruct, DescribesEarlier, ClausesAgree, DescriptorBelow, descriptor_below, Descriptors, DescribeAlike, neither_describes, both_describe, Described}
use Rattle.facts_types.specs.Chains.{Steps, stay, step, ShortChain}
use Rattle.facts_types.proofs.Tests.{given_says, says_given, is_the_lem, the_is, prefix_at_least, pairwise_as_many, at_least_prefix, as_many_pairwise}

-- Rule 1

one_says : (ts : Types) (x : ℕ) (supers : List ℕ) → one_super ts x supers ≡ true → SupertypesOf ts x supers
one_says ts x [] e = no_supertype
one_says ts x (p ∷ []) e = let (earlier, allowed) = from_both (ltb p x) (ts p).is_open e in one_supertype (ltb-true p x earlier) allowed
one_says ts x (p ∷ q ∷ more) e = absurd (false≢true e)

one-tested : {ts : Types} {x : ℕ} {supers : List ℕ} → SupertypesOf ts x supers → one_super ts x supers ≡ true
one-tested no_supertype = refl
one-tested (one_supertype earlier allowed) = both (lt-ltb _ _ earlier) allowed

module _ (ts : Types) (x : ℕ) where
  pub supertypes_say : super_earlier_and_open ts x ≡ true → SupertypesOf ts x (ts x).supers
  unfolding super_earlier_and_open
  supertypes_say e = one_says ts x (ts x).supers e

  pub supertypes_tested : SupertypesOf ts x (ts x).supers → super_earlier_and_open ts x ≡ true
  unfolding super_earlier_and_open
  supertypes_tested s = one-tested s

-- The chain

steps_short : {ts : Types} (steps : ℕ) {n x y : ℕ} → short_chain steps ts x ≡ true → Steps ts n x y → n ≤ steps
unfolding short_chain
steps_short steps e stay = omega arith
steps_short zero e (step s more) = absurd (false≢true (rw s at e))
steps_short (suc steps) e (step s more) = let h = steps_short steps (rw s at e) more in omega arith

short_steps : (steps : ℕ) (ts : Types) (x : ℕ) → ((n y : ℕ) → Steps ts n x y → n ≤ steps) → short_chain steps ts x ≡ true
unfolding short_chain
short_steps zero ts x h = go (super_of (ts x)) refl
  where
    go : (o : Option ℕ) → super_of (ts x) ≡ o → is_none o ≡ true
    go none e = refl
    go (some p) e = absurd (let z : 1 ≤ 0 = h 1 p (step e stay) in omega arith)
short_steps (suc steps) ts x h = says_given _ (super_of (ts x)) (λ p e. short_steps steps ts p (λ n y s. let z : suc n ≤ suc steps = h (suc n) y (step e s) in omega arith))

module _ (ts : Types) (x : ℕ) where
  pub chain_says : short_chain most_steps ts x ≡ true → ShortChain ts x
  chain_says e = record { short = steps_short most_steps e }

  pub chain_tested : ShortChain ts x → short_chain most_steps ts x ≡ true
  chain_tested c = short_steps most_steps ts x (λ n y. c.short)

-- Rule 2: fields and forms

module _ (ts : Types) where
  field_says : (f g : Field) → field_matches ts f g ≡ true → FieldMatches ts f g
  field_says f g e = go f.holds g.holds f.mutable g.mutable e
    where
      go : (v w : Val) (m n : Bool)
          → field_matches ts (record { holds = v; mutable = m }) (record { holds = w; mutable = n }) ≡ true
          → FieldMatches ts (record { holds = v; mutable = m }) (record { holds = w; mutable = n })
      go v w true true same = rw (same_value_equal v w same) mutable_identical
      go v w true false same = absurd (false≢true same)
      go v w false true same = absurd (false≢true same)
      go v w false false below = fixed_subtype (tested_value_order ts v w below)

  form_says : (f g : Form) → form_matches ts f g ≡ true → FormMatches ts f g
  unfolding form_matches
  form_says (struct fs) (struct gs) e = structs (prefix_at_least (field_matches ts) field_says fs gs e)
  form_says (struct fs) (func qs ss) e = absurd (false≢true e)
  form_says (func ps rs) (struct gs) e = absurd (false≢true e)
  form_says (func ps rs) (func qs ss) e =
      let (parameters, results) = from_both _ _ e in
      functions
      (pairwise_as_many (λ p q. val_below ts q p) (λ p q below. against (tested_value_order ts q p below)) ps qs parameters)
      (pairwise_as_many (val_below ts) (tested_value_order ts) rs ss results)

  pub matches_say : (x : ℕ) → matches_super ts x ≡ true → Matches ts x
  unfolding matches_super
  matches_say x e = record { matched = λ {p} s. form_says (ts x).form (ts p).form (given_says _ e s) }

module _ (ts : Types) (tested : (v w : Val) → ValOrder ts v w → val_below ts v w ≡ true) where
  field_tested : (f g : Field) → FieldMatches ts f g → field_matches ts f g ≡ true
  field_tested f g (fixed_subtype {v = v} {w = w} below) = tested v w below
  field_tested f g (mutable_identical {v = v}) = value_same v

  against_tested : (p q : Val) → Against ts p q → val_below ts q p ≡ true
  against_tested p q (against below) = tested q p below

  form_tested : {f g : Form} → FormMatches ts f g → form_matches ts f g ≡ true
  unfolding form_matches
  form_tested (structs fields) = at_least_prefix (field_matches ts) field_tested fields
  form_tested (functions parameters results) =
      both (as_many_pairwise (λ p q. val_below ts q p) against_tested parameters) (as_many_pairwise (val_below ts) tested results)

  pub matches_tested : (x : ℕ) → Matches ts x → matches_super ts x ≡ true
  unfolding matches_super
  matches_tested x m = says_given _ (super_of (ts x)) (λ p s. form_tested (m.matched s))

-- Rule 3

clause_struct : (f : Form) (a b : Option ℕ) {y : ℕ} → is_struct f || (is_none a && is_none b) ≡ true → (a ≡ some y → IsStruct f) × (b ≡ some y → IsStruct f)
clause_struct (struct fs) a b e = (λ q. a_struct, λ q. a_struct)
clause_struct (func ps rs) a b e =
    let (no-a, no-b) = from_both (is_none a) (is_none b) e in
    (λ q. absurd (false≢true (rw q at no-a)), λ q. absurd (false≢true (rw q at no-b)))

struct_clause : (f : Form) (a b : Option ℕ) → ((y : ℕ) → a ≡ some y → IsStruct f) → ((y : ℕ) → b ≡ some y → IsStruct f) → is_struct f || (is_none a && is_none b) ≡ true
struct_clause (struct fs) a b h k = refl
struct_clause (func ps rs) none none h k = refl
struct_clause (func ps rs) none (some y) h k = elim (k y refl) [ ]
struct_clause (func ps rs) (some y) b h k = elim (h y refl) [ ]

module _ (ts : Types) (x : ℕ) where
  pub on_struct_says : clauses_on_struct ts x ≡ true → OnStruct ts x
  unfolding clauses_on_struct
  on_struct_says e =
      record {
        describes_on_struct = λ q. (clause_struct (ts x).form (ts x).describes (ts x).descriptor e).0 q;
        descriptor_on_struct = λ q. (clause_struct (ts x).form (ts x).describes (ts x).descriptor e).1 q;
      }

  pub on_struct_tested : OnStruct ts x → clauses_on_struct ts x ≡ true
  unfolding clauses_on_struct
  on_struct_tested c = struct_clause (ts x).form (ts x).describes (ts x).descriptor (λ y. c.describes_on_struct) (λ y. c.descriptor_on_struct)

  pub earlier_says : describes_earlier ts x ≡ true → DescribesEarlier ts x
  unfolding describes_earlier
  earlier_says e = record { earlier = λ {y} q. ltb-true y x (given_says _ e q) }

  pub earlier_tested : DescribesEarlier ts x → describes_earlier ts x ≡ true
  unfolding describes_earlier
  earlier_tested c = says_given _ (ts x).describes (λ y q. lt-ltb y x (c.earlier q))

  pub agree_says : clauses_agree ts x ≡ true → ClausesAgree ts x
  unfolding clauses_agree
  agree_says e =
      let (there, back) = from_both (given (ts x).descriptor true (λ y. is_the (ts y).describes x)) _ e in
      record {
        descriptor_describes = λ {y} q. is_the_lem (ts y).describes x (given_says _ there q);
        described_has_descriptor = λ {y} q. is_the_lem (ts y).descriptor x (given_says _ back q);
      }

  pub agree-tested : ClausesAgree ts x → clauses_agree ts x ≡ true
  unfolding clauses_agree
  agree-tested c =
      both
      (says_given _ (ts x).descriptor (λ y q. the_is (c.descriptor_describes q)))
      (says_given _ (ts x).describes (λ y q. the_is (c.described_has_descriptor q)))

-- Rule 4

descriptor_says : (ts : Types) (y : ℕ) (o : Option ℕ) → given o false (λ d. is_the (super_of (ts d)) y) ≡ true → DescriptorBelow ts y o
descriptor_says ts y none e = absurd (false≢true e)
descriptor_says ts y (some d) e = descriptor_below (is_the_lem (super_of (ts d)) y e)

descriptor_tested : {ts : Types} {y : ℕ} {o : Option ℕ} → DescriptorBelow ts y o → given o false (λ d. is_the (super_of (ts d)) y) ≡ true
descriptor_tested (descriptor_below s) = the_is s

module _ (ts : Types) (x : ℕ) where
  pub descriptors_say : descriptor_follows ts x ≡ true → Descriptors ts x
  unfolding descriptor_follows
  descriptors_say e = record { follows = λ {p} {y} s d. descriptor_says ts y (ts x).descriptor (given_says _ (given_says _ e s) d) }

  pub descriptors_tested : Descriptors ts x → descriptor_follows ts x ≡ true
  unfolding descriptor_follows
  descriptors_tested r = says_given _ (super_of (ts x)) (λ p s. says_given _ (ts p).descriptor (λ y d. descriptor_tested (r.follows s d)))

-- Rule 5

described_says : (ts : Types) (a b : Option ℕ) → described_follow ts a b ≡ true → DescribeAlike ts a b
described_says ts none none e = neither_describes
described_says ts none (some b) e = absurd (false≢true e)
described_says ts (some a) none e = absurd (false≢true e)
described_says ts (some a) (some b) e = both_describe (is_the_lem (super_of (ts a)) b e)

described-tested : {ts : Types} {a b : Option ℕ} → DescribeAlike ts a b → described_follow ts a b ≡ true
described-tested neither_describes = refl
described-tested (both_describe s) = the_is s

module _ (ts : Types) (x : ℕ) where
  pub describes_say : describes_follows ts x ≡ true → Described ts x
  unfolding describes_follows
  describes_say e = record { alike = λ {p} s. described_says ts (ts x).describes (ts p).describes (given_says _ e s) }

  pub describes_tested : Described ts x → describes_follows ts x ≡ true
  unfolding describes_follows
  describes_tested r = says_given _ (super_of (ts x)) (λ p s. described-tested (r.alike s))
