-- What the table keeps of a definition is as much in reach as the definition is: a number below the reach is kept as it
-- is, one at or above it stays there, and all further supertypes are below the reach exactly when the greatest is. And
-- where all numbers are in reach and there is at most one supertype, what is kept is the definition itself.
-- `Keeps` says both of a piece of syntax, with the numbers it names and with how it is kept.
use Prim.Native.Nat.{ℕ, ◌≤◌, max}
use native.Mathlib.Omega.{arith}
use mathlib.Core.Path.{◌≡◌, refl, sym, ap, ap₂, ◌∙◌}
use mathlib.Core.Logic.{◌⊎◌, inl, inr}
use mathlib.Core.Bool.{Bool, true, false, ◌&&◌, and-true, and_assoc}
use mathlib.Core.Option.{none, some}
use mathlib.Core.List.{List, [], ◌∷◌, ◌++◌, map}
use lib.ListN.{length}
use lib.Dec.{ltb}
use borrow.Author.Tests.{ltb-true, ltb-false, lt-ltb, le-ltb}
use Rattle.scope.specs.Lists.{every, joined, as_list}
use Rattle.scope.specs.Syntax.{abstract, defined, exact, num, ref, Form, struct, func, Definition}
use Rattle.scope.specs.TypeRules.{heap_names, val_names, field_names, form_names, names}
use Rattle.scope.proofs.Truths.{decided, from_both}
use Rattle.type_table.specs.Kept.{beyond, kept, kept_option, kept_heap, kept_val, kept_field, kept_form, greatest, kept_supers, kept_definition}

-- every number of the list is below r
abbrev pub below : ℕ → List ℕ → Bool
below r ys = every (λ y. ltb y r) ys

pub record Keeps (r : ℕ) {A : Type 0} (names_of : A → List ℕ) (keep : A → A) : Type 0 where
  pub reach : (a : A) → below r (names_of (keep a)) ≡ below r (names_of a)
  pub same : (a : A) → below r (names_of a) ≡ true → keep a ≡ a

below-append : (r : ℕ) (xs ys : List ℕ) → below r (xs ++ ys) ≡ below r xs && below r ys
below-append r [] ys = refl
below-append r (x ∷ xs) ys = rw (below-append r xs ys) (sym (and_assoc (ltb x r) (below r xs) (below r ys)))

-- all that a definition names, part by part
pub record PartsBelow (r : ℕ) (d : Definition) : Type 0 where
  pub supers : below r d.supers ≡ true
  pub describes : below r (as_list d.describes) ≡ true
  pub descriptor : below r (as_list d.descriptor) ≡ true
  pub form : below r (form_names d.form) ≡ true

from_append : (r : ℕ) (xs ys : List ℕ) → below r (xs ++ ys) ≡ true → (below r xs ≡ true) × (below r ys ≡ true)
from_append r xs ys e = from_both (below r xs) (below r ys) (rw below-append at e)

pub parts_below : (r : ℕ) (d : Definition) → below r (names d) ≡ true → PartsBelow r d
unfolding names
parts_below r d e =
    let (links, form) = from_append r (d.supers ++ as_list d.describes ++ as_list d.descriptor) (form_names d.form) e in
    let (clause, descriptor) = from_append r (d.supers ++ as_list d.describes) (as_list d.descriptor) links in
    let (supers, describes) = from_append r d.supers (as_list d.describes) clause in
    record { supers = supers; describes = describes; descriptor = descriptor; form = form }

list_keeps : {r : ℕ} {A : Type 0} {names_of : A → List ℕ} {keep : A → A} → Keeps r names_of keep → Keeps r (λ xs. joined (map names_of xs)) (map keep)
list_keeps {r} {A} {names_of} {keep} keeps = record { reach = reaches; same = sames }
  where
    reaches : (xs : List A) → below r (joined (map names_of (map keep xs))) ≡ below r (joined (map names_of xs))
    reaches [] = refl
    reaches (x ∷ xs) = simp below-append (ap₂ ◌&&◌ (keeps.reach x) (reaches xs))

    sames : (xs : List A) → below r (joined (map names_of xs)) ≡ true → map keep xs ≡ xs
    sames [] e = refl
    sames (x ∷ xs) e =
        let (first, later) = from_append r (names_of x) (joined (map names_of xs)) e in
        ap₂ ◌∷◌ (keeps.same x first) (sames xs later)

max-below : (r x y : ℕ) → ltb (max x y) r ≡ ltb x r && ltb y r
max-below r x y = go (decided (ltb x r)) (decided (ltb y r))
  where
    go : (ltb x r ≡ true) ⊎ (ltb x r ≡ false) → (ltb y r ≡ true) ⊎ (ltb y r ≡ false) → ltb (max x y) r ≡ ltb x r && ltb y r
    go (inl p) (inl q) = rw (p, q) (lt-ltb (max x y) r (omega (arith, ltb-true)))
    go (inl p) (inr q) = rw (p, q) (le-ltb (max x y) r (omega (arith, ltb-false)))
    go (inr p) q = rw p (le-ltb (max x y) r (omega (arith, ltb-false)))

greatest-below : (r x : ℕ) (xs : List ℕ) → ltb (greatest x xs) r ≡ below r (x ∷ xs)
greatest-below r x [] = sym (and-true (ltb x r))
greatest-below r x (y ∷ ys) = greatest-below r (max x y) ys ∙ rw max-below (and_assoc (ltb x r) (ltb y r) (below r ys))

module _ {r : ℕ} (h : r ≤ beyond) where
  kept-below : (y : ℕ) → ltb (kept y) r ≡ ltb y r
  kept-below y = go (decided (ltb y r))
    where
      go : (ltb y r ≡ true) ⊎ (ltb y r ≡ false) → ltb (kept y) r ≡ ltb y r
      go (inl p) = lt-ltb (kept y) r (omega (arith, ltb-true)) ∙ sym p
      go (inr p) = le-ltb (kept y) r (omega (arith, ltb-false)) ∙ sym p

  pub number_keeps : Keeps r (λ y. y ∷ []) kept
  number_keeps = record { reach = λ y. rw (kept-below y); same = λ y e. let p = ltb-true y r (from_both (ltb y r) true e).0 in omega arith }

  option_keeps : Keeps r as_list kept_option
  option_keeps = record { reach = elim [ none ↦ refl | some x ↦ number_keeps.reach x ]; same = elim [ none ↦ λ e. refl | some x ↦ λ e. ap some (number_keeps.same x e) ] }

  pub heap_keeps : Keeps r heap_names kept_heap
  heap_keeps =
      record {
        reach = elim [ abstract a ↦ refl | defined x ↦ number_keeps.reach x | exact x ↦ number_keeps.reach x ];
        same = elim [ abstract a ↦ λ e. refl | defined x ↦ λ e. ap defined (number_keeps.same x e) | exact x ↦ λ e. ap exact (number_keeps.same x e) ];
      }

  pub val_keeps : Keeps r val_names kept_val
  val_keeps =
      record {
        reach = elim [ num n ↦ refl | ref n k ↦ heap_keeps.reach k ];
        same = elim [ num n ↦ λ e. refl | ref n k ↦ λ e. ap (ref n) (heap_keeps.same k e) ];
      }

  field_keeps : Keeps r field_names kept_field
  field_keeps =
      record {
        reach = λ f. val_keeps.reach f.holds;
        same = λ f e. λ i. record { holds = val_keeps.same f.holds e i; mutable = f.mutable };
      }

  form_keeps : Keeps r form_names kept_form
  form_keeps = record { reach = reaches; same = sames }
    where
      fields : Keeps r (λ fs. joined (map field_names fs)) (map kept_field)
      fields = list_keeps field_keeps

      vals : Keeps r (λ vs. joined (map val_names vs)) (map kept_val)
      vals = list_keeps val_keeps

      reaches : (f : Form) → below r (form_names (kept_form f)) ≡ below r (form_names f)
      reaches (struct fs) = fields.reach fs
      reaches (func ps rs) = simp below-append (ap₂ ◌&&◌ (vals.reach ps) (vals.reach rs))

      sames : (f : Form) → below r (form_names f) ≡ true → kept_form f ≡ f
      sames (struct fs) e = ap struct (fields.same fs e)
      sames (func ps rs) e =
          let (first, second) = from_append r (joined (map val_names ps)) (joined (map val_names rs)) e in
          ap₂ func (vals.same ps first) (vals.same rs second)

  supers_reach : (supers : List ℕ) → below r (kept_supers supers) ≡ below r supers
  supers_reach [] = refl
  supers_reach (x ∷ []) = number_keeps.reach x
  supers_reach (x ∷ y ∷ more) = ap₂ ◌&&◌ (kept-below x) (and-true _ ∙ kept-below (greatest y more) ∙ greatest-below r y more)

  supers_same : (supers : List ℕ) → length supers ≤ 1 → below r supers ≡ true → kept_supers supers ≡ supers
  supers_same [] few e = refl
  supers_same (x ∷ []) few e = ap (λ y. y ∷ []) (number_keeps.same x e)
  supers_same (x ∷ y ∷ more) few e = absurd (omega arith)

  pub definition_reach : (d : Definition) → below r (names (kept_definition d)) ≡ below r (names d)
  unfolding names kept_definition
  definition_reach d =
      let links = ap₂ ◌&&◌ (ap₂ ◌&&◌ (supers_reach d.supers) (option_keeps.reach d.describes)) (option_keeps.reach d.descriptor) in
      simp below-append (ap₂ ◌&&◌ links (form_keeps.reach d.form))

  pub definition_same : (d : Definition) → length d.supers ≤ 1 → below r (names d) ≡ true → kept_definition d ≡ d
  unfolding kept_definition
  definition_same d few e =
      let parts = parts_below r d e in
      λ i.
      record {
        is_open = d.is_open;
        supers = supers_same d.supers few parts.supers i;
        describes = option_keeps.same d.describes parts.describes i;
        descriptor = option_keeps.same d.descriptor parts.descriptor i;
        form = form_keeps.same d.form parts.form i;
        from = d.from;
        to = d.to;
        reach = d.reach;
      }
