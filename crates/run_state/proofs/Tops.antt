-- The topmost operand as a value and as a reference: what the machine does with it is what is done with what was seen.
use Prim.Native.Nat.{ℕ, ◌≤◌}
use mathlib.Core.Path.{◌≡◌, refl, sym, ap, subst, ◌∙◌}
use mathlib.Core.Option.{Option, none, some}
use mathlib.Core.List.{List, [], ◌∷◌}
use native.Mathlib.Omega.{arith}
use lib.ListN.{length, get_elem?, drop}
use types.Run.{OneOf, miss}
use denote.Enum.Declared.{tag_of}
use Rattle.scope.specs.Told.{Maybe}
use Rattle.std.specs.Prelude.{None, Some}
use Rattle.scope.specs.Machine.{Value, number, null, object, Outcome, stuck, on_taken, on_reference}
use Rattle.scope.proofs.Impossible.{impossible}
use Rattle.run_value.specs.contracts.Value.{the_type}
use Rattle.run_value.specs.declared.Value
use Rattle.run_value.specs.declared.Value.{Value as Carrier}
use Rattle.run_value.specs.Carried.{decoded}
use Rattle.run_stack.specs.Pile.{top_of, head_of}
use Rattle.run_state.specs.declared.Reference.{Reference}
use Rattle.run_state.specs.declared.Reference
use Rattle.run_state.specs.Planned.{referring, reference_at, Seen}

-- as a value

pub on_top_lem : (vs : List Value) {v : Value} → head_of vs ≡ some v → (f : Value → List Value → Outcome) → on_taken vs f ≡ f v (drop 1 vs)
on_top_lem [] e f = impossible cc
on_top_lem (w ∷ vs) {v} e f = let same : w ≡ v = cc in rw same refl

pub on_none : (vs : List Value) → head_of vs ≡ none → (f : Value → List Value → Outcome) → on_taken vs f ≡ stuck
on_none [] e f = refl
on_none (w ∷ vs) e f = impossible cc

pub top_low : (vs : List Value) {v : Value} → head_of vs ≡ some v → 1 ≤ length vs
top_low [] e = impossible cc
top_low (w ∷ vs) e = omega arith

pub two-low : (vs : List Value) {v w : Value} → head_of vs ≡ some v → head_of (drop 1 vs) ≡ some w → 2 ≤ length vs
two-low [] e f = impossible cc
two-low (a ∷ []) e f = impossible cc
two-low (a ∷ b ∷ vs) e f = omega arith

-- it is the first of them, and with those below it all of them

pub head_there : (vs : List Value) {v : Value} → head_of vs ≡ some v → get_elem? vs 0 ≡ some v
head_there [] e = e
head_there (w ∷ vs) e = e

pub top_whole : (vs : List Value) {v : Value} → head_of vs ≡ some v → v ∷ drop 1 vs ≡ vs
top_whole [] e = impossible cc
top_whole (w ∷ vs) {v} e = let same : v ≡ w = cc in rw same refl

-- as it was seen

pub value_top : {vs : List Value} {t : Maybe Carrier} {v : Carrier} → Seen vs t → t ≡ Some v → head_of vs ≡ some (decoded v)
value_top s e = sym s.is ∙ ap top_of e

pub no_top : {vs : List Value} {t : Maybe Carrier} → Seen vs t → t ≡ None → head_of vs ≡ none
no_top s e = sym s.is ∙ ap top_of e

-- as a reference

-- a reference that is not one is as good as missing: it may be looked at before the operand below it
pub looked_first :
    (vs : List Value) (f : Option ℕ → Value → List Value → Outcome)
    → on_taken vs (λ v others. on_taken others (λ w below. on_reference v (λ r. f r w below))) ≡ on_taken vs (λ v others. on_reference v (λ r. on_taken others (f r)))
looked_first [] f = refl
looked_first (number k n ∷ []) f = refl
looked_first (null ∷ []) f = refl
looked_first (object o ∷ []) f = refl
looked_first (number k n ∷ w ∷ vs) f = refl
looked_first (null ∷ w ∷ vs) f = refl
looked_first (object o ∷ w ∷ vs) f = refl

pub reference_nothing : {t : Maybe Carrier} → t ≡ None → Reference.TheVariants.Wrong ≡ reference_at t
unfolding reference_at
reference_nothing e = rw e refl

-- the cases of a number, by their tags
abbrev numbers : List ℕ
numbers = 0 ∷ 1 ∷ 2 ∷ 3 ∷ 4 ∷ 5 ∷ []

number_wrong : (v : Carrier) → OneOf numbers (tag_of the_type v) → Reference.TheVariants.Wrong ≡ referring v
number_wrong (Value.TheVariants.I32 n) h = refl
number_wrong (Value.TheVariants.I64 n) h = refl
number_wrong (Value.TheVariants.F32 x) h = refl
number_wrong (Value.TheVariants.F64 x) h = refl
number_wrong (Value.TheVariants.Nan32 n) h = refl
number_wrong (Value.TheVariants.Nan64 n) h = refl
number_wrong Value.TheVariants.Null h = absurd (miss numbers 6 tt h)
number_wrong (Value.TheVariants.Object o) h = absurd (miss numbers 7 tt h)

module _ {t : Maybe Carrier} {v : Carrier} (e : t ≡ Some v) where
  pub reference_null : v ≡ Value.TheVariants.Null → Reference.TheVariants.Null ≡ reference_at t
  unfolding reference_at
  reference_null h = rw (e, h) refl

  pub reference_object : {o : ℕ} → v ≡ Value.TheVariants.Object o → Reference.TheVariants.To o ≡ reference_at t
  unfolding reference_at
  reference_object h = rw (e, h) refl

  pub reference_number : OneOf numbers (tag_of the_type v) → Reference.TheVariants.Wrong ≡ reference_at t
  unfolding reference_at
  reference_number h = rw e (number_wrong v h)

pub ruleset reference_exits = (reference_nothing, reference_null, reference_object, reference_number)

-- what the topmost operand is, by what it is as a reference: the value; or none, and the machine is stuck on it
unfoldable Refers : List Value → Reference → Type 0
Refers vs Reference.TheVariants.Wrong =
    (f : Value → List Value → Option ℕ → Outcome) → on_taken vs (λ v below. on_reference v (f v below)) ≡ stuck
Refers vs Reference.TheVariants.Null = head_of vs ≡ some null
Refers vs (Reference.TheVariants.To o) = head_of vs ≡ some (object o)

refers_by : (vs : List Value) (v : Carrier) → head_of vs ≡ some (decoded v) → Refers vs (referring v)
unfolding Refers
refers_by vs (Value.TheVariants.I32 n) e = λ f. on_top_lem vs e _
refers_by vs (Value.TheVariants.I64 n) e = λ f. on_top_lem vs e _
refers_by vs (Value.TheVariants.F32 x) e = λ f. on_top_lem vs e _
refers_by vs (Value.TheVariants.F64 x) e = λ f. on_top_lem vs e _
refers_by vs (Value.TheVariants.Nan32 n) e = λ f. on_top_lem vs e _
refers_by vs (Value.TheVariants.Nan64 n) e = λ f. on_top_lem vs e _
refers_by vs Value.TheVariants.Null e = e
refers_by vs (Value.TheVariants.Object o) e = e

refers : {vs : List Value} (t : Maybe Carrier) → Seen vs t → Refers vs (reference_at t)
unfolding Refers reference_at
refers {vs} None s = λ f. on_none vs (no_top s refl) _
refers {vs} (Some v) s = refers_by vs v (value_top s refl)

module _ {vs : List Value} {t : Maybe Carrier} {r : Reference} (s : Seen vs t) (is : r ≡ reference_at t) where
  refers_here : {q : Reference} → r ≡ q → Refers vs q
  refers_here e = subst (Refers vs) (sym is ∙ e) (refers t s)

  pub wrong_top : r ≡ Reference.TheVariants.Wrong → (f : Value → List Value → Option ℕ → Outcome) → on_taken vs (λ v below. on_reference v (f v below)) ≡ stuck
  unfolding Refers
  wrong_top e = refers_here e

  pub null_top : r ≡ Reference.TheVariants.Null → head_of vs ≡ some null
  unfolding Refers
  null_top e = refers_here e

  pub object_top : {o : ℕ} → r ≡ Reference.TheVariants.To o → head_of vs ≡ some (object o)
  unfolding Refers
  object_top e = refers_here e
