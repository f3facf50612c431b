-- Each premise of a rule and the test that asks for it say the same: type numbers in reach, defaults, a local that is set, a
-- cast's descriptor, the last type of a label, an operand that is what is wanted. Both ways by the cases of what is tested.
use Prim.Native.Nat.{ℕ, zero, suc, ◌<◌}
use mathlib.Core.Path.{◌≡◌, refl, sym, ap}
use mathlib.Core.Bool.{Bool, true, false, false≢true}
use mathlib.Core.Option.{Option, none, some}
use mathlib.Core.List.{List, [], ◌∷◌, ◌++◌, map}
use lib.ListN.{get_elem?, get_or}
use lib.Dec.{ltb}
use borrow.Author.Tests.{ltb-true, lt-ltb}
use Rattle.scope.specs.Reading.{given}
use Rattle.scope.specs.Lists.{every, joined, is_none}
use Rattle.scope.specs.Abstract.{ANY}
use Rattle.scope.specs.Syntax.{Heap, abstract, defined, exact, Number, Val, num, ref, Form, struct, func, Field, Definition, Types, types_of}
use Rattle.scope.specs.Order.{ValOrder, itself, val_below}
use Rattle.scope.specs.TypeRules.{heap_names, val_names}
use Rattle.scope.specs.BodyRules.{Wanted, value, any_value, any_reference, fields_of, has_default, descriptor_for, last_of}
use Rattle.scope.specs.Bodies.{Operand, known, unknown, unknown_reference, is_reference, fits}
use Rattle.scope.proofs.Truths.{none_is_not-some, both, from_both}
use Rattle.scope.proofs.Accepted.{Passes}
use Rattle.scope.proofs.Order.{tested_value_order, value_order-tested}
use Rattle.facts_bodies.specs.Premises.{Each, of_none, of_first, HeapReached, abstract_reached, defined_reached, exact_reached, ValReached, number_reached, reference_reached, Default, zero_default, null_default, CastTakes, its_descriptor_lem, its_exact_descriptor, OperandFits, known_below, unknown_below, unknown_reference_below, Meets, as_value, as_any, as_reference}

pub same_some : {A : Type 0} {x y : A} → some x ≡ some y → x ≡ y
same_some e = cc

-- each of a list

module _ {A : Type 0} {P : A → Type 0} (f : A → Bool) where
  tested_each : ((x : A) → f x ≡ true → P x) → (xs : List A) → every f xs ≡ true → Each P xs
  tested_each one [] e = of_none
  tested_each one (x ∷ xs) e =
      let (first, later) = from_both (f x) (every f xs) e in
      of_first (one x first) (tested_each one xs later)

  each_tested : ((x : A) → P x → f x ≡ true) → {xs : List A} → Each P xs → every f xs ≡ true
  each_tested one of_none = refl
  each_tested one (of_first {x = x} p ps) = both (one x p) (each_tested one ps)

module _ {A : Type 0} (f : A → Bool) where
  pub every_append : (xs ys : List A) → every f (xs ++ ys) ≡ true → (every f xs ≡ true) × (every f ys ≡ true)
  every_append [] ys e = (refl, e)
  every_append (x ∷ xs) ys e =
      let (first, later) = from_both (f x) (every f (xs ++ ys)) e in
      let (left, right) = every_append xs ys later in
      (both first left, right)

  pub append-every : (xs ys : List A) → every f xs ≡ true → every f ys ≡ true → every f (xs ++ ys) ≡ true
  append-every [] ys p q = q
  append-every (x ∷ xs) ys p q =
      let (first, later) = from_both (f x) (every f xs) p in
      both first (append-every xs ys later q)

-- type numbers in reach

abbrev pub all_below : ℕ → List ℕ → Bool
all_below count xs = every (λ x. ltb x count) xs

module _ (count : ℕ) where
  pub tested-number-reached : (x : ℕ) → all_below count (x ∷ []) ≡ true → x < count
  tested-number-reached x e = ltb-true x count (from_both (ltb x count) true e).0

  pub number-reached-tested : {x : ℕ} → x < count → all_below count (x ∷ []) ≡ true
  number-reached-tested {x} h = both (lt-ltb x count h) refl

  pub tested-heap-reached : (h : Heap) → all_below count (heap_names h) ≡ true → HeapReached count h
  tested-heap-reached (abstract a) e = abstract_reached
  tested-heap-reached (defined x) e = defined_reached (tested-number-reached x e)
  tested-heap-reached (exact x) e = exact_reached (tested-number-reached x e)

  pub heap-reached-tested : {h : Heap} → HeapReached count h → all_below count (heap_names h) ≡ true
  heap-reached-tested abstract_reached = refl
  heap-reached-tested (defined_reached h) = number-reached-tested h
  heap-reached-tested (exact_reached h) = number-reached-tested h

  pub tested_value_reached : (v : Val) → all_below count (val_names v) ≡ true → ValReached count v
  tested_value_reached (num n) e = number_reached
  tested_value_reached (ref n h) e = reference_reached (tested-heap-reached h e)

  pub value_reached-tested : {v : Val} → ValReached count v → all_below count (val_names v) ≡ true
  value_reached-tested number_reached = refl
  value_reached-tested (reference_reached h) = heap-reached-tested h

  pub tested-values-reached : (vs : List Val) → all_below count (joined (map val_names vs)) ≡ true → Each (ValReached count) vs
  tested-values-reached [] e = of_none
  tested-values-reached (v ∷ vs) e =
      let (first, later) = every_append (λ x. ltb x count) (val_names v) _ e in
      of_first (tested_value_reached v first) (tested-values-reached vs later)

  pub values-reached-tested : {vs : List Val} → Each (ValReached count) vs → all_below count (joined (map val_names vs)) ≡ true
  values-reached-tested of_none = refl
  values-reached-tested (of_first {x = v} p ps) =
      append-every (λ x. ltb x count) (val_names v) _ (value_reached-tested p) (values-reached-tested ps)

-- defaults

tested_default : (v : Val) → has_default v ≡ true → Default v
tested_default (num n) e = zero_default
tested_default (ref true h) e = null_default
tested_default (ref false h) e = absurd (false≢true e)

default_tested : (v : Val) → Default v → has_default v ≡ true
default_tested v zero_default = refl
default_tested v null_default = refl

pub tested_defaults : (vs : List Val) → every has_default vs ≡ true → Each Default vs
tested_defaults vs e = tested_each has_default tested_default vs e

pub defaults_tested : {vs : List Val} → Each Default vs → every has_default vs ≡ true
defaults_tested ds = each_tested has_default default_tested ds

-- a local that is set

pub tested-set : (is_set : List Bool) (x : ℕ) → get_or is_set x false ≡ true → get_elem? is_set x ≡ some true
tested-set [] x e = absurd (false≢true e)
tested-set (b ∷ bs) zero e = ap some e
tested-set (b ∷ bs) (suc x) e = tested-set bs x e

pub set_tested : (is_set : List Bool) (x : ℕ) → get_elem? is_set x ≡ some true → get_or is_set x false ≡ true
set_tested [] x e = absurd (none_is_not-some e)
set_tested (b ∷ bs) zero e = same_some e
set_tested (b ∷ bs) (suc x) e = set_tested bs x e

-- forms and descriptors

pub has_fields : (f : Form) {fs : List Field} → fields_of f ≡ some fs → f ≡ struct fs
has_fields (struct gs) e = ap struct (same_some e)
has_fields (func ps rs) e = absurd (none_is_not-some e)

pub has_none : {A : Type 0} (o : Option A) → is_none o ≡ true → o ≡ none
has_none none e = refl
has_none (some x) e = absurd (false≢true e)

module _ (ts : Types) where
  pub tested_cast_takes : (h : Heap) {d : Heap} → descriptor_for ts h ≡ some d → CastTakes ts h d
  tested_cast_takes (abstract a) e = absurd (none_is_not-some e)
  tested_cast_takes (defined x) {d} e = go (ts x).descriptor refl e
    where
      go : (o : Option ℕ) → (ts x).descriptor ≡ o → given o none (λ y. some (defined y)) ≡ some d → CastTakes ts (defined x) d
      go none p f = absurd (none_is_not-some f)
      go (some y) p f = rw (← same_some f) (its_descriptor_lem p)
  tested_cast_takes (exact x) {d} e = go (ts x).descriptor refl e
    where
      go : (o : Option ℕ) → (ts x).descriptor ≡ o → given o none (λ y. some (exact y)) ≡ some d → CastTakes ts (exact x) d
      go none p f = absurd (none_is_not-some f)
      go (some y) p f = rw (← same_some f) (its_exact_descriptor p)

  pub cast_takes-tested : {h d : Heap} → CastTakes ts h d → descriptor_for ts h ≡ some d
  cast_takes-tested (its_descriptor_lem e) = rw e
  cast_takes-tested (its_exact_descriptor e) = rw e

-- the last of a list, and those before it

only_of_nothing : {A : Type 0} (xs : List A) → last_of xs ≡ none → xs ≡ []
unfolding last_of
only_of_nothing [] e = refl
only_of_nothing {A} (x ∷ xs) e = go (last_of xs) e
  where
    go : (o : Option (List A × A)) → given {B = Option (List A × A)} o (some ([], x)) (λ more. some (x ∷ more.0, more.1)) ≡ none → x ∷ xs ≡ []
    go none f = absurd (none_is_not-some (sym f))
    go (some more) f = absurd (none_is_not-some (sym f))

pub found_last : {A : Type 0} (xs : List A) {found : List A × A} → last_of xs ≡ some found → xs ≡ found.0 ++ found.1 ∷ []
unfolding last_of
found_last [] e = absurd (none_is_not-some e)
found_last {A} (x ∷ xs) {found} e = go (last_of xs) refl e (λ more. found_last xs {found = more})
  where
    go : (o : Option (List A × A)) → last_of xs ≡ o
        → given {B = Option (List A × A)} o (some ([], x)) (λ more. some (x ∷ more.0, more.1)) ≡ some found
        → ((more : List A × A) → last_of xs ≡ some more → xs ≡ more.0 ++ more.1 ∷ [])
        → x ∷ xs ≡ found.0 ++ found.1 ∷ []
    go none p f later = rw (only_of_nothing xs p, ← same_some f)
    go (some more) p f later = rw (later more p, ← same_some f)

pub last_found : {A : Type 0} (ys : List A) (y : A) → last_of (ys ++ y ∷ []) ≡ some (ys, y)
unfolding last_of
last_found [] y = refl
last_found (x ∷ ys) y = rw (last_found ys y)

-- operands

-- what is below a type by the order's relation is so by its test
pub record Ordered (ts : Types) : Type 0 where
  pub tested : (v w : Val) → ValOrder ts v w → val_below ts v w ≡ true

pub passes_ordered : {ds : List Definition} → Passes ds → Ordered (types_of ds)
passes_ordered passes = record { tested = value_order-tested passes }

module _ (ts : Types) where
  pub tested-fits : (o : Operand) (w : Val) → fits ts o (value w) ≡ true → OperandFits ts o w
  unfolding fits
  tested-fits (known v) w e = known_below (tested_value_order ts v w e)
  tested-fits unknown w e = unknown_below
  tested-fits unknown_reference (num n) e = absurd (false≢true e)
  tested-fits unknown_reference (ref n h) e = unknown_reference_below

  pub tested_meets : (o : Operand) (w : Wanted) → fits ts o w ≡ true → Meets ts o w
  unfolding fits
  tested_meets o (value w) e = as_value (tested-fits o w e)
  tested_meets o any_value e = as_any
  tested_meets (known (num n)) any_reference e = absurd (false≢true e)
  tested_meets (known (ref n h)) any_reference e = as_reference (known_below itself)
  tested_meets unknown any_reference e = as_reference {null = true} {h = abstract ANY} unknown_below
  tested_meets unknown_reference any_reference e = as_reference {null = true} {h = abstract ANY} unknown_reference_below

module _ {ts : Types} (ordered : Ordered ts) where
  pub fits-tested : {o : Operand} {w : Val} → OperandFits ts o w → fits ts o (value w) ≡ true
  unfolding fits
  fits-tested (known_below {v = v} {w = w} p) = ordered.tested v w p
  fits-tested unknown_below = refl
  fits-tested unknown_reference_below = refl

  below_reference : (v : Val) (n : Bool) (h : Heap) → val_below ts v (ref n h) ≡ true → is_reference v ≡ true
  unfolding val_below
  below_reference (num a) n h e = absurd (false≢true e)
  below_reference (ref m k) n h e = refl

  pub number-not-below_reference : {a : Number} {n : Bool} {h : Heap} → ValOrder ts (num a) (ref n h) → ⊥
  number-not-below_reference p = false≢true (below_reference _ _ _ (ordered.tested _ _ p))

  pub meets_tested : {o : Operand} {w : Wanted} → Meets ts o w → fits ts o w ≡ true
  unfolding fits
  meets_tested (as_value p) = fits-tested p
  meets_tested (as_any {o = known v}) = refl
  meets_tested (as_any {o = unknown}) = refl
  meets_tested (as_any {o = unknown_reference}) = refl
  meets_tested (as_reference (known_below {v = v} p)) = below_reference v _ _ (ordered.tested v _ p)
  meets_tested (as_reference unknown_below) = refl
  meets_tested (as_reference unknown_reference_below) = refl
