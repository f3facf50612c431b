-- Values keep their types: in a type above, and in a heap that grew. A heap grows by one object at its end, or by a field of
-- one object; either way every object keeps its type and its descriptor, and that is all that a value's type looks at.
use Prim.Native.Nat.{ℕ}
use mathlib.Core.Path.{◌≡◌, refl, sym, ap, ◌∙◌, subst}
use mathlib.Core.Logic.{◌⊎◌, inl, inr}
use mathlib.Core.Bool.{Bool, true, false, false≢true}
use mathlib.Core.Option.{Option, some}
use mathlib.Core.List.{List, Forall₂}
use lib.ListN.{get_elem?}
use borrow.Author.Tests.{eqb-true}
use Rattle.scope.specs.Syntax.{exact, Number, Val, num, ref, Definition, Types, types_of}
use Rattle.scope.specs.Order.{heap_below, val_below}
use Rattle.scope.specs.BodyRules.{holds_of}
use Rattle.scope.specs.Bodies.{Operand}
use Rattle.scope.specs.Machine.{Value, number, object, Object, Store, object_of, with_new, with_object, with_field}
use Rattle.scope.proofs.Truths.{from_both, implies}
use Rattle.scope.proofs.Accepted.{Passes}
use Rattle.scope.proofs.Order.{below_transitive, same_number_equal}
use Rattle.scope.proofs.Pairs.{each_pair, set_first, some_is_one}
use Rattle.scope.proofs.Stores.{new_keeps, new_or_old, other_keeps, other_or_old}
use Rattle.scope.proofs.Soundness.{Has, of_number, of_null, of_object, HasOperand, of_known, HasLocal, no_value, its_value, Described, no_descriptor, its_descriptor, WellMade, HeapTyped, Same, Grows}

-- in a type above

module _ {ds : List Definition} (passes : Passes ds) {heap : Store} where
  pub has_above : {v : Value} {t : Val} (w : Val) → Has (types_of ds) heap v t → val_below (types_of ds) t w ≡ true → Has (types_of ds) heap v w
  unfolding val_below
  has_above (num b) (of_number {k = k} {n = n}) e = subst (λ (j : Number). Has (types_of ds) heap (number k n) (num j)) (same_number_equal k b e) of_number
  has_above (ref m k) of_number e = absurd (false≢true e)
  has_above (num b) of_null e = absurd (false≢true e)
  has_above (ref true k) of_null e = of_null
  has_above (ref false k) of_null e = absurd (false≢true e)
  has_above (num b) (of_object q below) e = absurd (false≢true e)
  has_above (ref m k) (of_object {it = it} {n = n} {h = h} q below) e =
      of_object q (below_transitive passes (exact it.type) h k below (from_both (implies n m) (heap_below (types_of ds) h k) e).1)

-- what an exact type says
pub exact_type : (ts : Types) (t x : ℕ) → heap_below ts (exact t) (exact x) ≡ true → t ≡ x
unfolding heap_below
exact_type ts t x e = eqb-true t x e

pub exact_very : {ts : Types} {heap : Store} {o x : ℕ} {it : Object} {n : Bool} → Has ts heap (object o) (ref n (exact x)) → object_of heap o ≡ some it → it.type ≡ x
exact_very {ts} {x} {it} (of_object {it = found} q below) e =
    let same : found ≡ it = some_is_one (sym q ∙ e) in
    subst (λ (a : Object). a.type ≡ x) same (exact_type ts found.type x below)

-- in a heap that grew

pub same_itself : (it : Object) → Same it it
same_itself it = record { type = refl; descriptor = refl }

pub grows_itself : (heap : Store) → Grows heap heap
grows_itself heap = record { keeps = λ o {it} e. (it, e, same_itself it) }

pub grows_further : {a b c : Store} → Grows a b → Grows b c → Grows a c
grows_further f g =
    record {
      keeps = λ o e.
          let (now, there, same) = f.keeps o e in
          let (later, still, more) = g.keeps o there in
          (later, still, record { type = more.type ∙ same.type; descriptor = more.descriptor ∙ same.descriptor });
    }

module _ {heap later : Store} (grows : Grows heap later) where
  module _ {ts : Types} where
    pub has_later : {v : Value} {t : Val} → Has ts heap v t → Has ts later v t
    has_later of_number = of_number
    has_later of_null = of_null
    has_later (of_object {o = o} {h = h} e below) =
        let (now, there, same) = grows.keeps o e in
        of_object there (subst (λ (x : ℕ). heap_below ts (exact x) h ≡ true) (sym same.type) below)

    pub operand_later : {v : Value} {t : Operand} → HasOperand ts heap v t → HasOperand ts later v t
    operand_later (of_known h) = of_known (has_later h)

    pub local_later : {v : Option Value} {t : Val} → HasLocal ts heap v t → HasLocal ts later v t
    local_later no_value = no_value
    local_later (its_value h) = its_value (has_later h)

    pub values-later : {vs : List Value} {t : List Val} → Forall₂ (Has ts heap) vs t → Forall₂ (Has ts later) vs t
    values-later hs = each_pair (λ v t h. has_later h) hs

    pub operands_later : {vs : List Value} {os : List Operand} → Forall₂ (HasOperand ts heap) vs os → Forall₂ (HasOperand ts later) vs os
    operands_later hs = each_pair (λ v t h. operand_later h) hs

    pub locals-later : {ls : List (Option Value)} {t : List Val} → Forall₂ (HasLocal ts heap) ls t → Forall₂ (HasLocal ts later) ls t
    locals-later hs = each_pair (λ v t h. local_later h) hs

  pub described-later : {y d : Option ℕ} → Described heap y d → Described later y d
  described-later no_descriptor = no_descriptor
  described-later (its_descriptor {d = d} e q) =
      let (now, there, same) = grows.keeps d e in
      its_descriptor there (same.type ∙ q)

  pub well_made_later : {ds : List Definition} {it : Object} → WellMade ds heap it → WellMade ds later it
  well_made_later w =
      record {
        in_section = w.in_section;
        fields = w.fields;
        declared = w.declared;
        held = values-later w.held;
        described = described-later w.described;
      }

-- one object more

pub one_more_grows : (heap : Store) (it : Object) → Grows heap (with_new heap it)
one_more_grows heap it = record { keeps = λ o {it = old} e. (old, new_keeps heap it o e, same_itself old) }

pub one_more_typed : {ds : List Definition} {heap : Store} (it : Object) → HeapTyped ds heap → WellMade ds heap it → HeapTyped ds (with_new heap it)
one_more_typed {ds} {heap} it typed made =
    record { well_made = λ o e. well_made_later (one_more_grows heap it) (go o (new_or_old heap it o e)) }
  where
    go : (o : ℕ) {found : Object} → (object_of heap o ≡ some found) ⊎ (it ≡ found) → WellMade ds heap found
    go o (inl e) = typed.well_made o e
    go o (inr q) = subst (WellMade ds heap) q made

-- another value in a field

pub other_field_grows : (heap : Store) (o i : ℕ) {it : Object} (v : Value) → object_of heap o ≡ some it → Grows heap (with_object heap o (with_field it i v))
other_field_grows heap o i {it} v at = record { keeps = λ q e. go q e (other_keeps heap o q at e) }
  where
    go : (q : ℕ) {old : Object} → object_of heap q ≡ some old
        → (object_of (with_object heap o (with_field it i v)) q ≡ some old) ⊎ ((object_of (with_object heap o (with_field it i v)) q ≡ some (with_field it i v)) × (it ≡ old))
        → (now : Object) × (object_of (with_object heap o (with_field it i v)) q ≡ some now) × Same old now
    go q {old} e (inl still) = (old, still, same_itself old)
    go q {old} e (inr (changed, same)) =
        (with_field it i v, changed, record { type = ap (λ (a : Object). a.type) same; descriptor = ap (λ (a : Object). a.descriptor) same })

pub other_field_typed :
    {ds : List Definition} {heap : Store} (o i : ℕ) {it : Object} {v : Value} {t : Val}
    → HeapTyped ds heap → object_of heap o ≡ some it → (w : WellMade ds heap it)
    → get_elem? (holds_of w.fields) i ≡ some t → Has (types_of ds) heap v t
    → HeapTyped ds (with_object heap o (with_field it i v))
other_field_typed {ds} {heap} o i {it} {v} typed at w there has =
    record { well_made = λ q e. well_made_later (other_field_grows heap o i v at) (go q (other_or_old heap o q e)) }
  where
    changed : WellMade ds heap (with_field it i v)
    changed =
        record {
          in_section = w.in_section;
          fields = w.fields;
          declared = w.declared;
          held = set_first i w.held there has;
          described = w.described;
        }

    go : (q : ℕ) {found : Object} → (object_of heap q ≡ some found) ⊎ (with_field it i v ≡ found) → WellMade ds heap found
    go q (inl e) = typed.well_made q e
    go q (inr same) = subst (WellMade ds heap) same changed
