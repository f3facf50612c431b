-- Rule 2 by each type's own form, test and relation, of any table; and in a table that passes the rules it is rule 2 by the order of
-- rule 6.
use Prim.Native.Nat.{ℕ, zero, suc, ◌≤◌}
use native.Mathlib.Omega.{arith}
use mathlib.Core.Path.{◌≡◌, refl}
use mathlib.Core.Logic.{◌↔◌, ◌⊎◌, inl, inr}
use mathlib.Core.Bool.{Bool, true, false, false≢true}
use mathlib.Core.Option.{Option, none, some}
use mathlib.Core.List.{List}
use borrow.Author.Tests.{eqb-true, eq-eqb}
use Rattle.scope.specs.Sizes.{most_steps}
use Rattle.scope.specs.Reading.{given}
use Rattle.scope.specs.Abstract.{Abstract, same_abstract}
use Rattle.scope.specs.Syntax.{Heap, abstract, defined, exact, Val, num, ref, Field, Form, struct, func, Definition, Types, types_of, super_of}
use Rattle.scope.specs.Order.{same_type, kind_of, bottom_of, climbs, heap_below, number_code, val_below}
use Rattle.scope.specs.TypeRules.{field_matches, form_matches, matches_super}
use Rattle.scope.proofs.Truths.{both, from_both, from_either, either_first, either_second}
use Rattle.scope.proofs.TenRows.{same_equal, equal_same}
use Rattle.scope.proofs.Accepted.{Passes}
use Rattle.scope.proofs.Order.{same_number_equal, value_order-tested}
use Rattle.scope.proofs.Identity.{same_value_equal, value_same}
use Rattle.facts_types.specs.TypeRelations.{Matches}
use Rattle.facts_types.specs.Chains.{Steps, stay, step}
use Rattle.facts_types.specs.OwnForms.{KindOf, struct_kind, func_kind, BottomOf, struct_bottom, func_bottom, OwnHeap, abstracts, bottom_of_defined, bottom_of_exact, defined_by_kind, exact_by_kind, defined_by_chain, exact_by_chain, exact_itself, OwnVal, same_number_lem, from_non_null, from_nullable, OwnField, both_fixed, both_mutable, OwnAgainst, own_against, OwnForm, own_structs, own_functions, OwnMatches}
use Rattle.facts_types.proofs.Tests.{given_says, says_given, prefix_at_least, pairwise_as_many, at_least_prefix, as_many_pairwise}
use Rattle.facts_types.proofs.TenTypes.{below-order, order_below}
use Rattle.facts_types.proofs.Rules.{matches_say, matches_tested}

-- a type's kind and bottom

kind_stands : (f : Form) → KindOf f (kind_of f)
kind_stands (struct fs) = struct_kind
kind_stands (func ps rs) = func_kind

only_kind : {f : Form} {a : Abstract} → KindOf f a → kind_of f ≡ a
only_kind struct_kind = refl
only_kind func_kind = refl

bottom_stands : (f : Form) → BottomOf f (bottom_of f)
bottom_stands (struct fs) = struct_bottom
bottom_stands (func ps rs) = func_bottom

only_bottom : {f : Form} {a : Abstract} → BottomOf f a → a ≡ bottom_of f
only_bottom struct_bottom = refl
only_bottom func_bottom = refl

-- chains

record Climbed (ts : Types) (most x y : ℕ) : Type 0 where
  many : ℕ
  steps : Steps ts many x y
  few : many ≤ most

climb_says : (most : ℕ) (ts : Types) (x y : ℕ) → climbs most ts x y ≡ true → Climbed ts most x y
unfolding climbs
climb_says zero ts x y e = rw (eqb-true x y e) (record { many = 0; steps = stay; few = omega arith })
climb_says (suc most) ts x y e = go (super_of (ts x)) refl (from_either (same_type x y) _ e) (λ p. climb_says most ts p y)
  where
    up : {p : ℕ} → super_of (ts x) ≡ some p → Climbed ts most p y → Climbed ts (suc most) x y
    up s c = record { many = suc c.many; steps = step s c.steps; few = let h = c.few in omega arith }

    go : (o : Option ℕ) → super_of (ts x) ≡ o → (same_type x y ≡ true) ⊎ (given o false (λ p. climbs most ts p y) ≡ true)
        → ((p : ℕ) → climbs most ts p y ≡ true → Climbed ts most p y) → Climbed ts (suc most) x y
    go o s (inl same) later = rw (eqb-true x y same) (record { many = 0; steps = stay; few = omega arith })
    go none s (inr f) later = absurd (false≢true f)
    go (some p) s (inr f) later = up s (later p f)

climb_tested : (most : ℕ) {ts : Types} {n x y : ℕ} → Steps ts n x y → n ≤ most → climbs most ts x y ≡ true
unfolding climbs
climb_tested zero {x = x} stay h = eq-eqb x x refl
climb_tested zero (step s more) h = absurd (omega arith)
climb_tested (suc most) {x = x} stay h = either_first _ (eq-eqb x x refl)
climb_tested (suc most) {x = x} {y} (step s more) h = either_second (same_type x y) (rw s (climb_tested most more (omega arith)))

-- heap and value types

module _ (ts : Types) where
  its_bottom : (a : Abstract) (y : ℕ) → same_abstract a (bottom_of (ts y).form) ≡ true → BottomOf (ts y).form a
  its_bottom a y e = rw (same_equal a (bottom_of (ts y).form) e) (bottom_stands (ts y).form)

  heap_says : (h k : Heap) → heap_below ts h k ≡ true → OwnHeap ts h k
  unfolding heap_below
  heap_says (abstract a) (abstract b) e = abstracts (below-order a b e)
  heap_says (abstract a) (defined y) e = bottom_of_defined (its_bottom a y e)
  heap_says (abstract a) (exact y) e = bottom_of_exact (its_bottom a y e)
  heap_says (defined x) (abstract b) e = defined_by_kind (kind_stands (ts x).form) (below-order _ b e)
  heap_says (defined x) (defined y) e = let c = climb_says most_steps ts x y e in defined_by_chain c.steps c.few
  heap_says (defined x) (exact y) e = absurd (false≢true e)
  heap_says (exact x) (abstract b) e = exact_by_kind (kind_stands (ts x).form) (below-order _ b e)
  heap_says (exact x) (defined y) e = let c = climb_says most_steps ts x y e in exact_by_chain c.steps c.few
  heap_says (exact x) (exact y) e = rw (eqb-true x y e) exact_itself

  heap-tested : {h k : Heap} → OwnHeap ts h k → heap_below ts h k ≡ true
  unfolding heap_below
  heap-tested (abstracts o) = order_below o
  heap-tested (bottom_of_defined b) = equal_same _ _ (only_bottom b)
  heap-tested (bottom_of_exact b) = equal_same _ _ (only_bottom b)
  heap-tested (defined_by_kind k o) = rw (only_kind k) (order_below o)
  heap-tested (exact_by_kind k o) = rw (only_kind k) (order_below o)
  heap-tested (defined_by_chain s h) = climb_tested most_steps s h
  heap-tested (exact_by_chain s h) = climb_tested most_steps s h
  heap-tested (exact_itself {x = x}) = eq-eqb x x refl

  val_says : (v w : Val) → val_below ts v w ≡ true → OwnVal ts v w
  unfolding val_below
  val_says (num a) (num b) e = rw (same_number_equal a b e) same_number_lem
  val_says (num a) (ref m k) e = absurd (false≢true e)
  val_says (ref n h) (num b) e = absurd (false≢true e)
  val_says (ref false h) (ref m k) e = from_non_null (heap_says h k e)
  val_says (ref true h) (ref true k) e = from_nullable (heap_says h k e)
  val_says (ref true h) (ref false k) e = absurd (false≢true e)

  val_tested : (v w : Val) → OwnVal ts v w → val_below ts v w ≡ true
  unfolding val_below
  val_tested (num a) w (same_number_lem {n = n}) = eq-eqb (number_code n) (number_code n) refl
  val_tested v w (from_non_null o) = heap-tested o
  val_tested v w (from_nullable o) = heap-tested o

  -- fields and forms

  field_says : (f g : Field) → field_matches ts f g ≡ true → OwnField ts f g
  field_says f g e = go f.holds g.holds f.mutable g.mutable e
    where
      go : (v w : Val) (m n : Bool)
          → field_matches ts (record { holds = v; mutable = m }) (record { holds = w; mutable = n }) ≡ true
          → OwnField ts (record { holds = v; mutable = m }) (record { holds = w; mutable = n })
      go v w true true same = rw (same_value_equal v w same) both_mutable
      go v w true false same = absurd (false≢true same)
      go v w false true same = absurd (false≢true same)
      go v w false false below = both_fixed (val_says v w below)

  field_tested : (f g : Field) → OwnField ts f g → field_matches ts f g ≡ true
  field_tested f g (both_fixed {v = v} {w = w} below) = val_tested v w below
  field_tested f g (both_mutable {v = v}) = value_same v

  against_tested : (p q : Val) → OwnAgainst ts p q → val_below ts q p ≡ true
  against_tested p q (own_against below) = val_tested q p below

  form_says : (f g : Form) → form_matches ts f g ≡ true → OwnForm ts f g
  unfolding form_matches
  form_says (struct fs) (struct gs) e = own_structs (prefix_at_least (field_matches ts) field_says fs gs e)
  form_says (struct fs) (func qs ss) e = absurd (false≢true e)
  form_says (func ps rs) (struct gs) e = absurd (false≢true e)
  form_says (func ps rs) (func qs ss) e =
      let (parameters, results) = from_both _ _ e in
      own_functions
      (pairwise_as_many (λ p q. val_below ts q p) (λ p q below. own_against (val_says q p below)) ps qs parameters)
      (pairwise_as_many (val_below ts) val_says rs ss results)

  form_tested : {f g : Form} → OwnForm ts f g → form_matches ts f g ≡ true
  unfolding form_matches
  form_tested (own_structs fields) = at_least_prefix (field_matches ts) field_tested fields
  form_tested (own_functions parameters results) =
      both (as_many_pairwise (λ p q. val_below ts q p) against_tested parameters) (as_many_pairwise (val_below ts) val_tested results)

  pub own_matches_say : (x : ℕ) → matches_super ts x ≡ true → OwnMatches ts x
  unfolding matches_super
  own_matches_say x e = record { matched = λ {p} s. form_says (ts x).form (ts p).form (given_says _ e s) }

  pub own_matches_tested : (x : ℕ) → OwnMatches ts x → matches_super ts x ≡ true
  unfolding matches_super
  own_matches_tested x m = says_given _ (super_of (ts x)) (λ p s. form_tested (m.matched s))

-- in a table that passes, by the order of rule 6
pub own_is_matches : {ds : List Definition} → Passes ds → (x : ℕ) → OwnMatches (types_of ds) x ↔ Matches (types_of ds) x
own_is_matches {ds} passes x = (
  λ own. matches_say (types_of ds) x (own_matches_tested (types_of ds) x own),
  λ m. own_matches_say (types_of ds) x (matches_tested (types_of ds) (value_order-tested passes) x m),
)
