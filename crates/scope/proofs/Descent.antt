-- What holds along a chain of supertypes, by recursion on the chain. Rule 2: a field of the upper type is a field of the
-- lower one, below it, and the very same if it is mutable. Rule 4: a descriptor of the upper type is above the lower one's.
-- Rule 5: above a descriptor of t stands a descriptor of a type above t. With rule 3, a descriptor says whose it is: an
-- object whose descriptor's type is below the descriptor of x is itself of a type below x, and of x itself if exactly that.
use Prim.Native.Nat.{ℕ, zero, suc}
use mathlib.Core.Path.{◌≡◌, refl, sym, ap, ◌∙◌, subst}
use mathlib.Core.Bool.{Bool, true, false, cond, beq, false≢true}
use mathlib.Core.Option.{Option, none, some}
use mathlib.Core.List.{List, [], ◌∷◌}
use lib.ListN.{get_elem?}
use borrow.Author.Tests.{eqb-true}
use Rattle.scope.specs.Reading.{given}
use Rattle.scope.specs.Lists.{prefixwise}
use Rattle.scope.specs.Syntax.{Field, Form, struct, func, Definition, Types, types_of, super_of}
use Rattle.scope.specs.Order.{same_val, val_below}
use Rattle.scope.specs.TypeRules.{field_matches, form_matches, is_the, clauses_agree, descriptor_follows, described_follow, describes_follows}
use Rattle.scope.specs.BodyRules.{fields_of}
use Rattle.scope.proofs.Truths.{none_is_not-some, from_both}
use Rattle.scope.proofs.Accepted.{Kept, Passes, kept_passes, super_matches}
use Rattle.scope.proofs.Chains.{Chain, here, above}
use Rattle.scope.proofs.Order.{value_below_reflexive, value_below_transitive}
use Rattle.scope.proofs.Identity.{same_value_equal}
use Rattle.scope.proofs.Pairs.{some_is_one}

-- fields

-- a field of a type and the field that a type above has at its place
pub record FieldBelow (ts : Types) (f g : Field) : Type 0 where
  pub below : val_below ts f.holds g.holds ≡ true
  pub mutability : f.mutable ≡ g.mutable
  pub identical : g.mutable ≡ true → f.holds ≡ g.holds

field_itself : (ts : Types) (f : Field) → FieldBelow ts f f
field_itself ts f = record { below = value_below_reflexive ts f.holds; mutability = refl; identical = λ m. refl }

field_below : (ts : Types) (f g : Field) → field_matches ts f g ≡ true → FieldBelow ts f g
field_below ts f g e =
    let (flags, types) = from_both (beq f.mutable g.mutable) _ e in
    go f.mutable g.mutable refl refl flags types
  where
    go : (a b : Bool) → f.mutable ≡ a → g.mutable ≡ b → beq a b ≡ true
        → cond a (same_val f.holds g.holds) (val_below ts f.holds g.holds) ≡ true → FieldBelow ts f g
    go true true p q flags types =
        let same : f.holds ≡ g.holds = same_value_equal f.holds g.holds types in
        record { below = rw same (value_below_reflexive ts g.holds); mutability = p ∙ sym q; identical = λ m. same }
    go true false p q flags types = absurd (false≢true flags)
    go false true p q flags types = absurd (false≢true flags)
    go false false p q flags types = record { below = types; mutability = p ∙ sym q; identical = λ m. absurd (false≢true (sym q ∙ m)) }

-- at a place of a matching list
matched_at :
    (ts : Types) (fs gs : List Field) (i : ℕ) {g : Field} → prefixwise (field_matches ts) fs gs ≡ true → get_elem? gs i ≡ some g
    → (f : Field) × (get_elem? fs i ≡ some f) × FieldBelow ts f g
matched_at ts fs [] i e at = absurd (none_is_not-some at)
matched_at ts [] (h ∷ gs) i e at = absurd (false≢true e)
matched_at ts (f ∷ fs) (h ∷ gs) zero e at = (f, refl, subst (FieldBelow ts f) (some_is_one at) (field_below ts f h (from_both (field_matches ts f h) _ e).0))
matched_at ts (f ∷ fs) (h ∷ gs) (suc i) e at = matched_at ts fs gs i (from_both (field_matches ts f h) _ e).1 at

-- the field that type x has at place i, below the field g
pub record FieldAt (ts : Types) (x i : ℕ) (g : Field) : Type 0 where
  pub fields : List Field
  pub declared : fields_of (ts x).form ≡ some fields
  pub field : Field
  pub at_place : get_elem? fields i ≡ some field
  pub is_below : FieldBelow ts field g

form_fields :
    (ts : Types) (f : Form) (gs : List Field) → form_matches ts f (struct gs) ≡ true
    → (fs : List Field) × (fields_of f ≡ some fs) × (prefixwise (field_matches ts) fs gs ≡ true)
unfolding form_matches
form_fields ts (struct fs) gs e = (fs, refl, e)
form_fields ts (func ps rs) gs e = absurd (false≢true e)

fields_struct : (f : Form) {gs : List Field} → fields_of f ≡ some gs → f ≡ struct gs
fields_struct (struct fs) e = ap struct (some_is_one e)
fields_struct (func ps rs) e = absurd (none_is_not-some e)

-- the clauses of rule 3

the_very : (o : Option ℕ) (y : ℕ) → is_the o y ≡ true → o ≡ some y
the_very none y e = absurd (false≢true e)
the_very (some z) y e = ap some (eqb-true z y e)

described_follow_lem : (ts : Types) (o q : Option ℕ) {a : ℕ} → described_follow ts o q ≡ true → o ≡ some a → (b : ℕ) × (q ≡ some b) × (super_of (ts a) ≡ some b)
described_follow_lem ts none q e s = absurd (none_is_not-some s)
described_follow_lem ts (some c) none e s = absurd (false≢true e)
described_follow_lem ts (some c) (some b) {a} e s =
    (b, refl, the_very (super_of (ts a)) b (subst (λ (x : ℕ). is_the (super_of (ts x)) b ≡ true) (some_is_one s) e))

module _ (ds : List Definition) (kept : Kept (types_of ds)) where
  passes : Passes ds
  passes = kept_passes ds kept

  field_further : {f g h : Field} → FieldBelow (types_of ds) f g → FieldBelow (types_of ds) g h → FieldBelow (types_of ds) f h
  field_further {f} {g} {h} a b =
      record {
        below = value_below_transitive passes f.holds g.holds h.holds a.below b.below;
        mutability = a.mutability ∙ b.mutability;
        identical = λ m. a.identical (b.mutability ∙ m) ∙ b.identical m;
      }

  field_up : (x i : ℕ) {p : ℕ} {g : Field} → super_of (types_of ds x) ≡ some p → FieldAt (types_of ds) p i g → FieldAt (types_of ds) x i g
  field_up x i {p} e at =
      let matches = super_matches (types_of ds) x (kept.rules x).matches e in
      let (fs, declared, prefix) =
      form_fields (types_of ds) (types_of ds x).form at.fields (subst (λ (f : Form). form_matches (types_of ds) (types_of ds x).form f ≡ true) (fields_struct (types_of ds p).form at.declared) matches) in
      let (f, place, below) = matched_at (types_of ds) fs at.fields i prefix at.at_place in
      record { fields = fs; declared = declared; field = f; at_place = place; is_below = field_further below at.is_below }

  pub field_along :
      {x y : ℕ} (i : ℕ) {gs : List Field} {g : Field} → Chain (types_of ds) x y → fields_of (types_of ds y).form ≡ some gs → get_elem? gs i ≡ some g
      → FieldAt (types_of ds) x i g
  field_along i {gs} {g} here declared place = record { fields = gs; declared = declared; field = g; at_place = place; is_below = field_itself (types_of ds) g }
  field_along i (above {x = x} e c) declared place = field_up x i e (field_along i c declared place)

  -- descriptors

  pub descriptor_describes : (x : ℕ) {y : ℕ} → (types_of ds x).descriptor ≡ some y → (types_of ds y).describes ≡ some x
  unfolding clauses_agree
  descriptor_describes x {y} e = the_very (types_of ds y).describes x (from_both (is_the (types_of ds y).describes x) _ (rw e at (kept.rules x).agree)).0

  pub descriptor_along : {x y e : ℕ} → Chain (types_of ds) x y → (types_of ds y).descriptor ≡ some e → (d : ℕ) × ((types_of ds x).descriptor ≡ some d) × Chain (types_of ds) d e
  unfolding descriptor_follows
  descriptor_along {e} here q = (e, q, here)
  descriptor_along {e} (above {x = x} {p = p} s c) q =
      let (up, has, rest) = descriptor_along c q in
      go up has rest (types_of ds x).descriptor refl (rw (s, has) at (kept.rules x).descriptors)
    where
      go : (up : ℕ) → (types_of ds p).descriptor ≡ some up → Chain (types_of ds) up e
          → (o : Option ℕ) → (types_of ds x).descriptor ≡ o → given o false (λ d. is_the (super_of (types_of ds d)) up) ≡ true
          → (d : ℕ) × ((types_of ds x).descriptor ≡ some d) × Chain (types_of ds) d e
      go up has rest none is f = absurd (false≢true f)
      go up has rest (some d) is f = (d, is, above (the_very (super_of (types_of ds d)) up f) rest)

  described_along : {a b t : ℕ} → Chain (types_of ds) a b → (types_of ds a).describes ≡ some t → (u : ℕ) × ((types_of ds b).describes ≡ some u) × Chain (types_of ds) t u
  unfolding describes_follows
  described_along {t} here q = (t, q, here)
  described_along (above {x = a} {p = p} s c) q =
      let (u, is, up) = described_follow_lem (types_of ds) (types_of ds a).describes (types_of ds p).describes (rw s at (kept.rules a).described) q in
      let (last, is_last, rest) = described_along c is in
      (last, is_last, above up rest)

  -- whose descriptor it is
  pub descriptor_tells : {t x d y : ℕ} → (types_of ds t).descriptor ≡ some d → (types_of ds x).descriptor ≡ some y → Chain (types_of ds) d y → Chain (types_of ds) t x
  descriptor_tells {t} {x} e f c =
      let (u, is, chain) = described_along c (descriptor_describes t e) in
      let same : u ≡ x = some_is_one (sym is ∙ descriptor_describes x f) in
      subst (Chain (types_of ds) t) same chain

  pub descriptor_tells_exactly : {t x y : ℕ} → (types_of ds t).descriptor ≡ some y → (types_of ds x).descriptor ≡ some y → t ≡ x
  descriptor_tells_exactly {t} {x} e f = some_is_one (sym (descriptor_describes t e) ∙ descriptor_describes x f)
