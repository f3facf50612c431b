-- Rule 1's first sentence: the list of a definition's numbers holds exactly those that it names, so the test of that list
-- and the relation say the same.
use Prim.Native.Nat.{ℕ}
use mathlib.Core.Path.{◌≡◌, refl}
use mathlib.Core.Logic.{◌⊎◌, inl, inr}
use mathlib.Core.Bool.{true}
use mathlib.Core.Option.{Option, none, some}
use mathlib.Core.List.Memᴰ
use mathlib.Core.List.{List, [], ◌∷◌, ◌++◌, map, Memᴰ}
use lib.Dec.{ltb}
use borrow.Author.Tests.{ltb-true, lt-ltb}
use Rattle.scope.specs.Lists.{joined, as_list}
use Rattle.scope.specs.Syntax.{abstract, defined, exact, Val, num, ref, Field, Form, struct, func, Definition, Types}
use Rattle.scope.specs.TypeRules.{val_names, field_names, form_names, names, in_reach}
use Rattle.scope.proofs.Truths.{every-at}
use Rattle.facts_types.specs.TypeRelations.{ValNames, of_defined, of_exact, FieldNames, of_holds, SomeNames, this_names, later_names, FormNames, in_field, in_parameter, in_result, Names, as_supertype, as_described, as_descriptor, in_form, InReach}
use Rattle.facts_types.proofs.Tests.{every_of}

-- A list of numbers for each of a list, and the relation that says what is in it

module _ {A : Type 0} {R : A → ℕ → Type 0} (f : A → List ℕ) where
  some-listed : ((x : A) (y : ℕ) → R x y → Memᴰ y (f x)) → {xs : List A} {y : ℕ} → SomeNames R xs y → Memᴰ y (joined (map f xs))
  some-listed into (this_names r) = Memᴰ.append_left _ (into _ _ r)
  some-listed into (later_names {x = x} more) = Memᴰ.append_right (f x) (some-listed into more)

  listed-some : ((x : A) (y : ℕ) → Memᴰ y (f x) → R x y) → (xs : List A) {y : ℕ} → Memᴰ y (joined (map f xs)) → SomeNames R xs y
  listed-some out [] m = absurd (Memᴰ.not-nil m)
  listed-some out (x ∷ xs) {y} m = go (Memᴰ.append_cases (f x) m) (listed-some out xs)
    where
      go : Memᴰ y (f x) ⊎ Memᴰ y (joined (map f xs)) → (Memᴰ y (joined (map f xs)) → SomeNames R xs y) → SomeNames R (x ∷ xs) y
      go (inl here) later = this_names (out x y here)
      go (inr there) later = later_names (later there)

-- Value types, fields and forms

value_listed : {v : Val} {y : ℕ} → ValNames v y → Memᴰ y (val_names v)
value_listed of_defined = Memᴰ.head refl
value_listed of_exact = Memᴰ.head refl

listed_value : (v : Val) {y : ℕ} → Memᴰ y (val_names v) → ValNames v y
listed_value (num n) m = absurd (Memᴰ.not-nil m)
listed_value (ref n (abstract a)) m = absurd (Memᴰ.not-nil m)
listed_value (ref n (defined x)) m = rw (Memᴰ.eq_of_singleton m) of_defined
listed_value (ref n (exact x)) m = rw (Memᴰ.eq_of_singleton m) of_exact

field_listed : {f : Field} {y : ℕ} → FieldNames f y → Memᴰ y (field_names f)
field_listed (of_holds n) = value_listed n

form_listed : {f : Form} {y : ℕ} → FormNames f y → Memᴰ y (form_names f)
form_listed (in_field n) = some-listed field_names (λ f y. field_listed) n
form_listed (in_parameter n) = Memᴰ.append_left _ (some-listed val_names (λ v y. value_listed) n)
form_listed (in_result {ps = ps} n) = Memᴰ.append_right (joined (map val_names ps)) (some-listed val_names (λ v y. value_listed) n)

listed_form : (f : Form) {y : ℕ} → Memᴰ y (form_names f) → FormNames f y
listed_form (struct fs) m = in_field (listed-some field_names (λ f y n. of_holds (listed_value f.holds n)) fs m)
listed_form (func ps rs) {y} m = go (Memᴰ.append_cases (joined (map val_names ps)) m)
  where
    go : Memᴰ y (joined (map val_names ps)) ⊎ Memᴰ y (joined (map val_names rs)) → FormNames (func ps rs) y
    go (inl p) = in_parameter (listed-some val_names (λ v y. listed_value v) ps p)
    go (inr r) = in_result (listed-some val_names (λ v y. listed_value v) rs r)

-- Definitions

option_listed : {o : Option ℕ} {y : ℕ} → o ≡ some y → Memᴰ y (as_list o)
option_listed e = rw e (Memᴰ.head refl)

listed_option : (o : Option ℕ) {y : ℕ} → Memᴰ y (as_list o) → o ≡ some y
listed_option none m = absurd (Memᴰ.not-nil m)
listed_option (some x) m = rw (Memᴰ.eq_of_singleton m)

names-listed : {d : Definition} {y : ℕ} → Names d y → Memᴰ y (names d)
unfolding names
names-listed (as_supertype m) = Memᴰ.append_left _ (Memᴰ.append_left _ (Memᴰ.append_left _ m))
names-listed {d} (as_described e) = Memᴰ.append_left _ (Memᴰ.append_left _ (Memᴰ.append_right d.supers (option_listed e)))
names-listed {d} (as_descriptor e) = Memᴰ.append_left _ (Memᴰ.append_right (d.supers ++ as_list d.describes) (option_listed e))
names-listed {d} (in_form n) = Memᴰ.append_right (d.supers ++ as_list d.describes ++ as_list d.descriptor) (form_listed n)

listed-names : (d : Definition) {y : ℕ} → Memᴰ y (names d) → Names d y
unfolding names
listed-names d {y} m = third (Memᴰ.append_cases (d.supers ++ as_list d.describes ++ as_list d.descriptor) m)
  where
    first : Memᴰ y d.supers ⊎ Memᴰ y (as_list d.describes) → Names d y
    first (inl here) = as_supertype here
    first (inr there) = as_described (listed_option d.describes there)

    second : Memᴰ y (d.supers ++ as_list d.describes) ⊎ Memᴰ y (as_list d.descriptor) → Names d y
    second (inl here) = first (Memᴰ.append_cases d.supers here)
    second (inr there) = as_descriptor (listed_option d.descriptor there)

    third : Memᴰ y (d.supers ++ as_list d.describes ++ as_list d.descriptor) ⊎ Memᴰ y (form_names d.form) → Names d y
    third (inl here) = second (Memᴰ.append_cases (d.supers ++ as_list d.describes) here)
    third (inr there) = in_form (listed_form d.form there)

pub reach_says : (ts : Types) (x : ℕ) → in_reach ts x ≡ true → InReach (ts x)
unfolding in_reach
reach_says ts x e = record { reached = λ {y} n. ltb-true y (ts x).reach (every-at (λ y. ltb y (ts x).reach) (names-listed n) e) }

pub reach_tested : (ts : Types) (x : ℕ) → InReach (ts x) → in_reach ts x ≡ true
unfolding in_reach
reach_tested ts x r = every_of (λ y. ltb y (ts x).reach) (names (ts x)) (λ y m. lt-ltb y (ts x).reach (r.reached (listed-names (ts x) m)))
