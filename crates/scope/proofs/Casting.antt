-- Casts. A reference that passes is of the target's type, one that fails is of the rest's. For ref.cast that is the test
-- itself. For a descriptor cast it is rules 3 and 5: the object's descriptor is exactly the one that its type declares;
-- where that very object has the type of the target's descriptor, the object's own type is below the target.
use Prim.Native.Nat.{ℕ}
use mathlib.Core.Path.{◌≡◌, refl, sym, ap, ◌∙◌, subst}
use mathlib.Core.Bool.{Bool, true, false, not, ◌&&◌, false≢true}
use mathlib.Core.Option.{Option, none, some}
use mathlib.Core.List.Forall₂
use mathlib.Core.List.{List, [], ◌∷◌, ◌++◌, reverse, reverse-append}
use borrow.Author.Tests.{eqb-true, eq-eqb}
use Rattle.scope.specs.Reading.{given}
use Rattle.scope.specs.Syntax.{Heap, abstract, defined, exact, Val, ref, Definition, Types, types_of}
use Rattle.scope.specs.Order.{heap_below}
use Rattle.scope.specs.BodyRules.{descriptor_for, last_of}
use Rattle.scope.specs.Bodies.{Operand, Body}
use Rattle.scope.specs.Machine.{Value, null, object, Object, Store, object_of, Outcome, is_very, cast_passes, descriptor_cast_passes}
use Rattle.scope.proofs.Truths.{none_is_not-some}
use Rattle.scope.proofs.Accepted.{Kept, kept_passes}
use Rattle.scope.proofs.Chains.{chain_climbs}
use Rattle.scope.proofs.Pairs.{some_is_one}
use Rattle.scope.proofs.Descent.{descriptor_tells, descriptor_tells_exactly}
use Rattle.scope.proofs.Acting.{decide}
use Rattle.scope.proofs.Objects.{climb_of}
use Rattle.scope.proofs.Taking.{Tops}
use Rattle.scope.proofs.Soundness.{Has, of_null, of_object, Described, no_descriptor, its_descriptor, HeapTyped, Proceeds}

-- the rest of a source, where the target may be null
abbrev pub rest : Bool → Bool → Heap → Val
rest source_null target_null s = ref (source_null && not target_null) s

-- null passes where the target may be null
null_decided : {b : Body} {ts : Types} {heap : Store} (n : Bool) (h s : Heap) (f : Bool → Outcome)
    → (Has ts heap null (ref n h) → Proceeds b heap (f true)) → (Has ts heap null (rest true n s) → Proceeds b heap (f false)) → Proceeds b heap (f n)
null_decided true h s f yes' no' = yes' of_null
null_decided false h s f yes' no' = no' of_null

pub cast_decided :
    {b : Body} {ts : Types} {heap : Store} {v : Value} {m : Bool} {s : Heap} (n : Bool) (h : Heap) (f : Bool → Outcome)
    → Has ts heap v (ref m s)
    → (Has ts heap v (ref n h) → Proceeds b heap (f true)) → (Has ts heap v (rest m n s) → Proceeds b heap (f false))
    → Proceeds b heap (cast_passes ts heap n h v f)
cast_decided {s} n h f of_null yes' no' = null_decided n h s f yes' no'
cast_decided {ts} n h f (of_object {it = it} e below) yes' no' =
    rw e (decide (heap_below ts (exact it.type) h) f (λ p. yes' (of_object e p)) (λ p. no' (of_object e below)))

-- descriptor casts

very_one : (o : Option ℕ) (d : ℕ) → is_very o d ≡ true → o ≡ some d
very_one none d e = absurd (false≢true e)
very_one (some c) d e = ap some (eqb-true c d e)

-- what an object with the descriptor d tells of its type
own_descriptor : {heap : Store} {y o : Option ℕ} {d : ℕ} {e : Object} → Described heap y o → o ≡ some d → object_of heap d ≡ some e → y ≡ some e.type
own_descriptor no_descriptor q at = absurd (none_is_not-some q)
own_descriptor {heap} {e} (its_descriptor {y = y} {d = c} {it = it} there is) q at =
    let same : it ≡ e = some_is_one (sym there ∙ ap (object_of heap) (some_is_one q) ∙ at) in
    ap some (sym is ∙ ap (λ (a : Object). a.type) same)

given-some : {A B : Type 0} (o : Option A) (f : A → B) {y : B} → given o none (λ x. some (f x)) ≡ some y → (x : A) × (o ≡ some x) × (f x ≡ y)
given-some none f e = absurd (none_is_not-some e)
given-some (some x) f e = (x, refl, some_is_one e)

module _ (ds : List Definition) (kept : Kept (types_of ds)) where
  -- the type of an object whose descriptor's type is below the one that the target asks for
  target_told :
      (h : Heap) {k : Heap} (t d : ℕ) → descriptor_for (types_of ds) h ≡ some k → (types_of ds t).descriptor ≡ some d
      → heap_below (types_of ds) (exact d) k ≡ true → heap_below (types_of ds) (exact t) h ≡ true
  unfolding heap_below
  target_told (abstract a) t d e has below = absurd (none_is_not-some e)
  target_told (defined x) t d e has below =
      let (y, is, same) = given-some (types_of ds x).descriptor defined e in
      chain_climbs (kept_passes ds kept) (descriptor_tells ds kept has is (climb_of (types_of ds) d y (subst (λ (k : Heap). heap_below (types_of ds) (exact d) k ≡ true) (sym same) below)))
  target_told (exact x) t d e has below =
      let (y, is, same) = given-some (types_of ds x).descriptor exact e in
      let same-type : d ≡ y = eqb-true d y (subst (λ (k : Heap). heap_below (types_of ds) (exact d) k ≡ true) (sym same) below) in
      eq-eqb t x (descriptor_tells_exactly ds kept has (is ∙ ap some (sym same-type)))

  pub descriptor_cast_decided :
      {b : Body} {heap : Store} {v : Value} {m : Bool} {s k : Heap} {o : ℕ} (n : Bool) (h : Heap) (f : Bool → Outcome)
      → HeapTyped ds heap → descriptor_for (types_of ds) h ≡ some k
      → Has (types_of ds) heap (object o) (ref true k) → Has (types_of ds) heap v (ref m s)
      → (Has (types_of ds) heap v (ref n h) → Proceeds b heap (f true)) → (Has (types_of ds) heap v (rest m n s) → Proceeds b heap (f false))
      → Proceeds b heap (descriptor_cast_passes heap n o v f)
  descriptor_cast_decided {s} n h f heap asked has of_null yes' no' = null_decided n h s f yes' no'
  descriptor_cast_decided {o} n h f heap asked (of_object {it = d} there is_below) (of_object {o = q} {it = it} e below) yes' no' =
      rw e
      (decide (is_very it.descriptor o) f
      (λ p.
      let told = own_descriptor (heap.well_made q e).described (very_one it.descriptor o p) there in
      yes' (of_object e (target_told h it.type d.type asked told is_below)))
      (λ p. no' (of_object e below)))

-- branching casts: one value on top of those that the label takes below it

no_last : (rs : List Val) → last_of rs ≡ none → rs ≡ []
unfolding last_of
no_last [] e = refl
no_last (r ∷ rs) e = go (last_of rs) e
  where
    go : (o : Option (List Val × Val)) → given {B = Option (List Val × Val)} o (some ([], r)) (λ more. some (r ∷ more.0, more.1)) ≡ none → r ∷ rs ≡ []
    go none e = absurd (none_is_not-some (sym e))
    go (some found) e = absurd (none_is_not-some (sym e))

abbrev together : List Val × Val → List Val
together split = split.0 ++ split.1 ∷ []

pub last_of_lem : (rs : List Val) {init : List Val} {t : Val} → last_of rs ≡ some (init, t) → rs ≡ init ++ t ∷ []
unfolding last_of
last_of_lem [] e = absurd (none_is_not-some e)
last_of_lem (r ∷ rs) {init} {t} e = go (last_of rs) refl e (λ i u. last_of_lem rs {init = i} {t = u})
  where
    go : (o : Option (List Val × Val)) → last_of rs ≡ o
        → given {B = Option (List Val × Val)} o (some ([], r)) (λ more. some (r ∷ more.0, more.1)) ≡ some (init, t)
        → ((i : List Val) (u : Val) → last_of rs ≡ some (i, u) → rs ≡ i ++ u ∷ [])
        → r ∷ rs ≡ init ++ t ∷ []
    go none is e more = ap (λ (qs : List Val). r ∷ qs) (no_last rs is) ∙ ap together (some_is_one e)
    go (some found) is e more = ap (λ (qs : List Val). r ∷ qs) (more found.0 found.1 is) ∙ ap together (some_is_one e)

pub one-on_top :
    {ts : Types} {heap : Store} (init : List Val) (t : Val) {left : List Operand} {v : Value} {vs below : List Value} → Has ts heap v t
    → Tops ts heap (reverse init) left vs below → Tops ts heap (reverse (init ++ t ∷ [])) left (v ∷ vs) below
one-on_top init t {v} has tops =
    rw reverse-append
    (record { tops = v ∷ tops.tops; parts = ap (λ (vs : List Value). v ∷ vs) tops.parts; typed = Forall₂.cons has tops.typed; rest = tops.rest })
