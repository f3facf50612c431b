-- The machine's two tests of a cast pass and fail exactly where the rules say so. The order's test, asked of an exact type, climbs the
-- supertypes that the rules walk, or looks up the kind in the table of the ten.
use Prim.Native.Nat.{ℕ, zero, suc, ◌≤◌}
use native.Mathlib.Omega.{arith}
use mathlib.Core.Path.{◌≡◌, refl, sym, ◌∙◌, ap}
use mathlib.Core.Logic.{◌⊎◌, inl, inr}
use mathlib.Core.Bool.{Bool, true, false, false≢true}
use mathlib.Core.Option.{Option, none, some}
use lib.ListN.{get_elem?}
use lib.Dec.{eqb}
use borrow.Author.Tests.{eqb-true, eqb-false, eq-eqb, ne_eqb}
use Rattle.scope.specs.Sizes.{most_steps}
use Rattle.scope.specs.Reading.{given}
use Rattle.scope.specs.Abstract.{Abstract}
use Rattle.scope.specs.Syntax.{Heap, abstract, defined, exact, Form, struct, func, Types, super_of}
use Rattle.scope.specs.Order.{same_type, kind_of, climbs, heap_below}
use Rattle.scope.specs.Machine.{Value, number, null, object, Object, Store, Outcome, is_very, cast_passes, descriptor_cast_passes}
use Rattle.scope.proofs.Truths.{from_either, either_first, either_second, none_is_not-some}
use Rattle.facts_types.specs.Chains.{Steps, stay, step}
use Rattle.facts_types.specs.OwnForms.{KindOf, struct_kind, func_kind}
use Rattle.facts_types.proofs.TenTypes.{below-order, order_below}
use Rattle.facts_steps.specs.Places.{Stands}
use Rattle.facts_steps.specs.Casts.{Belongs, as_itself, by_supertypes, by_kind, Passes, null_passes, object_passes, Fails, null_fails, object_fails, Described, null_described, object_described, NotDescribed, null_not_described, object_not_described}
use Rattle.facts_steps.proofs.Places.{found_stands, stands_found}
use Rattle.facts_steps.proofs.Said.{Said, said, silent, on_some}

-- the order, from an exact type

record Walk (ts : Types) (most x y : ℕ) : Type 0 where
  many : ℕ
  way : Steps ts many x y
  few : many ≤ most

walked : (most : ℕ) (ts : Types) (x y : ℕ) → climbs most ts x y ≡ true → Walk ts most x y
unfolding climbs
walked zero ts x y e = rw (eqb-true x y e) (record { many = 0; way = stay; few = omega arith })
walked (suc most) ts x y e = go (super_of (ts x)) refl (from_either (same_type x y) _ e) (λ p. walked most ts p y)
  where
    up : {p : ℕ} → super_of (ts x) ≡ some p → Walk ts most p y → Walk ts (suc most) x y
    up s w = record { many = suc w.many; way = step s w.way; few = let h = w.few in omega arith }

    go : (o : Option ℕ) → super_of (ts x) ≡ o → (same_type x y ≡ true) ⊎ (given o false (λ p. climbs most ts p y) ≡ true)
        → ((p : ℕ) → climbs most ts p y ≡ true → Walk ts most p y) → Walk ts (suc most) x y
    go o s (inl same) later = rw (eqb-true x y same) (record { many = 0; way = stay; few = omega arith })
    go none s (inr f) later = absurd (false≢true f)
    go (some p) s (inr f) later = up s (later p f)

climbed : (most : ℕ) {ts : Types} {n x y : ℕ} → Steps ts n x y → n ≤ most → climbs most ts x y ≡ true
unfolding climbs
climbed zero {x = x} stay h = eq-eqb x x refl
climbed zero (step s more) h = absurd (omega arith)
climbed (suc most) {x = x} stay h = either_first _ (eq-eqb x x refl)
climbed (suc most) {x = x} {y} (step s more) h = either_second (same_type x y) (rw s (climbed most more (omega arith)))

its_kind : (f : Form) → KindOf f (kind_of f)
its_kind (struct fs) = struct_kind
its_kind (func ps rs) = func_kind

one_kind : {f : Form} {a : Abstract} → KindOf f a → kind_of f ≡ a
one_kind struct_kind = refl
one_kind func_kind = refl

pub below-belongs : (ts : Types) (x : ℕ) (h : Heap) → heap_below ts (exact x) h ≡ true → Belongs ts x h
unfolding heap_below
below-belongs ts x (abstract b) e = by_kind (its_kind (ts x).form) (below-order _ b e)
below-belongs ts x (defined y) e = let w = walked most_steps ts x y e in by_supertypes w.way w.few
below-belongs ts x (exact y) e = rw (eqb-true x y e) as_itself

pub belongs-below : {ts : Types} {x : ℕ} {h : Heap} → Belongs ts x h → heap_below ts (exact x) h ≡ true
unfolding heap_below
belongs-below {x = x} as_itself = eq-eqb x x refl
belongs-below (by_supertypes way few) = climbed most_steps way few
belongs-below (by_kind k o) = rw (one_kind k) (order_below o)

not-below : {ts : Types} {x : ℕ} {h : Heap} → heap_below ts (exact x) h ≡ false → ¬ Belongs ts x h
not-below e b = false≢true (sym e ∙ belongs-below b)

never_below : (ts : Types) (x : ℕ) (h : Heap) → ¬ Belongs ts x h → heap_below ts (exact x) h ≡ false
never_below ts x h never = go (heap_below ts (exact x) h) refl
  where
    go : (t : Bool) → heap_below ts (exact x) h ≡ t → t ≡ false
    go true e = absurd (never (below-belongs ts x h e))
    go false e = refl

-- the very descriptor

very_is : (d : Option ℕ) (o : ℕ) → is_very d o ≡ true → d ≡ some o
very_is none o e = absurd (false≢true e)
very_is (some e) o t = ap some (eqb-true e o t)

is_very_lem : (d : Option ℕ) (o : ℕ) → d ≡ some o → is_very d o ≡ true
is_very_lem none o e = absurd (none_is_not-some e)
is_very_lem (some q) o e = let same : q ≡ o = cc in eq-eqb q o same

not_very : (d : Option ℕ) (o : ℕ) → is_very d o ≡ false → ¬ (d ≡ some o)
not_very d o e is = false≢true (sym e ∙ is_very_lem d o is)

never_very : (d : Option ℕ) (o : ℕ) → ¬ (d ≡ some o) → is_very d o ≡ false
never_very none o never = refl
never_very (some q) o never = ne_eqb q o (λ same. never (ap some same))

-- the machine's tests, each with what the rules say of its two answers

module _ {R : Outcome → Type 0} where
  pub on_cast : (ts : Types) (heap : Store) (n : Bool) (h : Heap) (v : Value) (f : Bool → Outcome)
      → (Passes ts heap n h v → Said R (f true)) → (Fails ts heap n h v → Said R (f false)) → Said R (cast_passes ts heap n h v f)
  on_cast ts heap n h (number k m) f yes' no' = silent
  on_cast ts heap true h null f yes' no' = yes' (null_passes refl)
  on_cast ts heap false h null f yes' no' = no' (null_fails refl)
  on_cast ts heap n h (object o) f yes' no' =
      on_some (get_elem? heap o) (λ it there. go it (found_stands heap o there) (heap_below ts (exact it.type) h) refl)
    where
      go : (it : Object) → Stands o it heap → (t : Bool) → heap_below ts (exact it.type) h ≡ t → Said R (f t)
      go it there true e = yes' (object_passes there (below-belongs ts it.type h e))
      go it there false e = no' (object_fails there (not-below e))

  pub on_very : (heap : Store) (n : Bool) (d : ℕ) (v : Value) (f : Bool → Outcome)
      → (Described heap n d v → Said R (f true)) → (NotDescribed heap n d v → Said R (f false)) → Said R (descriptor_cast_passes heap n d v f)
  on_very heap n d (number k m) f yes' no' = silent
  on_very heap true d null f yes' no' = yes' (null_described refl)
  on_very heap false d null f yes' no' = no' (null_not_described refl)
  on_very heap n d (object o) f yes' no' =
      on_some (get_elem? heap o) (λ it there. go it (found_stands heap o there) (is_very it.descriptor d) refl)
    where
      go : (it : Object) → Stands o it heap → (t : Bool) → is_very it.descriptor d ≡ t → Said R (f t)
      go it there true e = yes' (object_described there (very_is it.descriptor d e))
      go it there false e = no' (object_not_described there (not_very it.descriptor d e))

-- and back

module _ {ts : Types} {heap : Store} {n : Bool} {h : Heap} where
  pub passes_yes : {v : Value} (f : Bool → Outcome) → Passes ts heap n h v → cast_passes ts heap n h v f ≡ f true
  passes_yes f (null_passes e) = rw e
  passes_yes f (object_passes there b) = rw (stands_found there, belongs-below b)

  pub fails_no : {v : Value} (f : Bool → Outcome) → Fails ts heap n h v → cast_passes ts heap n h v f ≡ f false
  fails_no f (null_fails e) = rw e
  fails_no f (object_fails {it = it} there never) = rw (stands_found there, never_below ts it.type h never)

module _ {heap : Store} {n : Bool} {d : ℕ} where
  pub described-yes : {v : Value} (f : Bool → Outcome) → Described heap n d v → descriptor_cast_passes heap n d v f ≡ f true
  described-yes f (null_described e) = rw e
  described-yes f (object_described {it = it} there is) = rw (stands_found there, is_very_lem it.descriptor d is)

  pub not-described-no : {v : Value} (f : Bool → Outcome) → NotDescribed heap n d v → descriptor_cast_passes heap n d v f ≡ f false
  not-described-no f (null_not_described e) = rw e
  not-described-no f (object_not_described {it = it} there never) = rw (stands_found there, never_very it.descriptor d never)
