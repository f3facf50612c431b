-- What an instruction takes, as the checker and as the machine see it. Operands that the checker takes from the top stand on
-- the machine's stack in the same places, each a value of the type that is wanted, since a type below the wanted one has no
-- other values.
use Prim.Native.Nat.{ℕ}
use mathlib.Core.Path.{◌≡◌, refl, ap, ◌∙◌, subst}
use mathlib.Core.Bool.{Bool, true, false, cond, false≢true}
use mathlib.Core.Option.{some}
use mathlib.Core.List.{List, [], ◌∷◌, ◌++◌, map, reverse, Forall₂}
use lib.ListN.{length, length-reverse}
use Rattle.scope.specs.Syntax.{Val, Definition, Types, types_of}
use Rattle.scope.specs.Order.{it_fits, but_for_null, unfit}
use Rattle.scope.specs.BodyRules.{Wanted, value, any_value, any_reference, Ruled}
use Rattle.scope.specs.Bodies.{Operand, known, fits, non_null_of, fit, operand_test, take_all, on_top}
use Rattle.scope.specs.Machine.{Value, null, object, Object, Store, object_of, split_top}
use Rattle.scope.proofs.Telling.{Allows, this, nothing, after-and}
use Rattle.scope.proofs.Accepted.{Passes}
use Rattle.scope.proofs.Pairs.{as_many, append-both}
use Rattle.scope.proofs.HeapLaws.{has_above}
use Rattle.scope.proofs.Soundness.{Has, of_number, of_null, of_object, HasOperand, of_known}

-- a value that meets what is wanted
pub data Meets (ts : Types) (heap : Store) : Value → Wanted → Type 0 where
  of_type : {v : Value} {t : Val} → Has ts heap v t → Meets ts heap v (value t)
  anything : {v : Value} → Meets ts heap v any_value
  a_null : Meets ts heap null any_reference
  an_object : {o : ℕ} {it : Object} → object_of heap o ≡ some it → Meets ts heap (object o) any_reference

-- the wanted values lie on top of `vs`, with `below` under them; the checker took and left operands of their types
pub data Takes (ts : Types) (heap : Store) : List Wanted → List Operand → List Operand → List Value → List Value → Type 0 where
  done : {os : List Operand} {vs : List Value} → Forall₂ (HasOperand ts heap) vs os → Takes ts heap [] [] os vs vs
  also :
      {w : Wanted} {ws : List Wanted} {o : Operand} {taken left : List Operand} {v : Value} {vs below : List Value}
      → Meets ts heap v w → HasOperand ts heap v o → Takes ts heap ws taken left vs below
      → Takes ts heap (w ∷ ws) (o ∷ taken) left (v ∷ vs) below

-- of the three outcomes the first alone lets an operand be taken
after-fit : {A : Type 0} {P : A → Type 0} (ts : Types) (o : Operand) (w : Wanted) {more : Ruled A} → (fits ts o w ≡ true → Allows P more) → Allows P (operand_test (fit ts o w) more)
unfolding fit
after-fit {P = P} ts o w {more} k = go (fits ts o w) (fits ts (non_null_of o) w) k
  where
    go : (b c : Bool) → (b ≡ true → Allows P more) → Allows P (operand_test (cond b it_fits (cond c but_for_null unfit)) more)
    go true c k = k refl
    go false true k = nothing
    go false false k = nothing

module _ {ds : List Definition} (passes : Passes ds) {heap : Store} where
  fitting : {v : Value} {o : Operand} (w : Wanted) → HasOperand (types_of ds) heap v o → fits (types_of ds) o w ≡ true → Meets (types_of ds) heap v w
  unfolding fits
  fitting (value t) (of_known h) e = of_type (has_above passes t h e)
  fitting any_value (of_known h) e = anything
  fitting any_reference (of_known of_number) e = absurd (false≢true e)
  fitting any_reference (of_known of_null) e = a_null
  fitting any_reference (of_known (of_object q below)) e = an_object q

  pub taken-typed :
      (ws : List Wanted) {vs : List Value} {os : List Operand} → Forall₂ (HasOperand (types_of ds) heap) vs os
      → Allows (λ t. (below : List Value) × Takes (types_of ds) heap ws t.taken t.left vs below) (take_all (types_of ds) false ws os)
  unfolding take_all
  taken-typed [] {vs} hs = this (vs, done hs)
  taken-typed (w ∷ ws) Forall₂.nil = nothing
  taken-typed (w ∷ ws) (Forall₂.cons {b = o} {l₂ = os} h hs) =
      let more = taken-typed ws hs in
      after-fit (types_of ds) o w (λ e.
      after-and (take_all (types_of ds) false ws os) more (λ t rest.
      this (rest.0, also (fitting w h e) h rest.1)))

-- values of a list of types lie on top
pub record Tops (ts : Types) (heap : Store) (types : List Val) (left : List Operand) (vs below : List Value) : Type 0 where
  pub tops : List Value
  pub parts : vs ≡ tops ++ below
  pub typed : Forall₂ (Has ts heap) tops types
  pub rest : Forall₂ (HasOperand ts heap) below left

module _ {ts : Types} {heap : Store} where
  pub tops_of :
      (types : List Val) {taken left : List Operand} {vs below : List Value} → Takes ts heap (map value types) taken left vs below
      → Tops ts heap types left vs below
  tops_of [] (done hs) = record { tops = []; parts = refl; typed = Forall₂.nil; rest = hs }
  tops_of (t ∷ types) (also {v = v} (of_type h) is more) =
      let later = tops_of types more in
      record { tops = v ∷ later.tops; parts = ap (λ (vs : List Value). v ∷ vs) later.parts; typed = Forall₂.cons h later.typed; rest = later.rest }

  -- values of known types, as operands
  pub as_operands : {vs : List Value} {types : List Val} → Forall₂ (Has ts heap) vs types → Forall₂ (HasOperand ts heap) vs (map known types)
  as_operands Forall₂.nil = Forall₂.nil
  as_operands (Forall₂.cons h hs) = Forall₂.cons (of_known h) (as_operands hs)

  pub tops_kept :
      (rs : List Val) {left : List Operand} {vs below : List Value} → Tops ts heap (reverse rs) left vs below
      → Forall₂ (HasOperand ts heap) vs (on_top rs ++ left)
  tops_kept rs t = rw t.parts (append-both (as_operands t.typed) t.rest)

-- as many as there are lie on top
pub split_top_lem : (tops below : List Value) → split_top (length tops) (tops ++ below) ≡ some (tops, below)
unfolding split_top
split_top_lem [] below = refl
split_top_lem (v ∷ tops) below = rw (split_top_lem tops below)

pub split_tops :
    {ts : Types} {heap : Store} (rs : List Val) {left : List Operand} {vs below : List Value} (t : Tops ts heap (reverse rs) left vs below)
    → split_top (length rs) vs ≡ some (t.tops, below)
split_tops rs {vs} {below} t =
    let many : length t.tops ≡ length rs = as_many t.typed ∙ length-reverse rs in
    rw t.parts (subst (λ (n : ℕ). split_top n (t.tops ++ below) ≡ some (t.tops, below)) many (split_top_lem t.tops below))
