-- Up the declared supertypes. A climb of the test is a chain, and a chain is found by a climb of as many steps as the
-- chain's own length allows: `short_chain` says that 63 are enough. Chains join, and a table that passes keeps its kind on them.
use Prim.Native.Nat.{ℕ, zero, suc}
use mathlib.Core.Path.{◌≡◌, refl, sym, ◌∙◌}
use mathlib.Core.Logic.{◌⊎◌, inl, inr}
use mathlib.Core.Bool.{true, false, false≢true}
use mathlib.Core.Option.{Option, none, some}
use mathlib.Core.List.{List}
use borrow.Author.Tests.{eqb-true, eq-eqb}
use Rattle.scope.specs.Sizes.{most_steps}
use Rattle.scope.specs.Reading.{given}
use Rattle.scope.specs.Syntax.{Definition, Types, types_of, super_of}
use Rattle.scope.specs.Order.{kind_of, same_type, climbs}
use Rattle.scope.specs.TypeRules.{short_chain}
use Rattle.scope.proofs.Truths.{from_either, either_first, either_second}
use Rattle.scope.proofs.Accepted.{Passes}

pub data Chain (ts : Types) : ℕ → ℕ → Type 0 where
  here : {x : ℕ} → Chain ts x x
  above : {x p y : ℕ} → super_of (ts x) ≡ some p → Chain ts p y → Chain ts x y

pub chains_join : {ts : Types} {x y z : ℕ} → Chain ts x y → Chain ts y z → Chain ts x z
chains_join here d = d
chains_join (above e c) d = above e (chains_join c d)

equal_chain : (ts : Types) (x y : ℕ) → same_type x y ≡ true → Chain ts x y
equal_chain ts x y e = rw (eqb-true x y e) here

pub climb_is_chain : (steps : ℕ) (ts : Types) (x y : ℕ) → climbs steps ts x y ≡ true → Chain ts x y
unfolding climbs
climb_is_chain zero ts x y e = equal_chain ts x y e
climb_is_chain (suc steps) ts x y e = go (super_of (ts x)) refl (from_either (same_type x y) _ e) (λ p. climb_is_chain steps ts p y)
  where
    go : (o : Option ℕ) → super_of (ts x) ≡ o
        → (same_type x y ≡ true) ⊎ (given o false (λ p. climbs steps ts p y) ≡ true)
        → ((p : ℕ) → climbs steps ts p y ≡ true → Chain ts p y)
        → Chain ts x y
    go o q (inl same) later = equal_chain ts x y same
    go none q (inr f) later = absurd (false≢true f)
    go (some p) q (inr f) later = above q (later p f)

pub climbs_to_itself : (steps : ℕ) (ts : Types) (x : ℕ) → climbs steps ts x x ≡ true
unfolding climbs
climbs_to_itself zero ts x = eq-eqb x x refl
climbs_to_itself (suc steps) ts x = either_first _ (eq-eqb x x refl)

pub chain_is_climbed : {ts : Types} (steps : ℕ) {x y : ℕ} → Chain ts x y → short_chain steps ts x ≡ true → climbs steps ts x y ≡ true
unfolding climbs short_chain
chain_is_climbed {ts} steps {x} here short = climbs_to_itself steps ts x
chain_is_climbed zero (above e c) short = absurd (false≢true (rw e at short))
chain_is_climbed {ts} (suc steps) {x} {y} (above e c) short = rw e (either_second (same_type x y) (chain_is_climbed steps c (rw e at short)))

module _ {ds : List Definition} (passes : Passes ds) where
  pub chain_keeps_kind : {x y : ℕ} → Chain (types_of ds) x y → kind_of (types_of ds x).form ≡ kind_of (types_of ds y).form
  chain_keeps_kind here = refl
  chain_keeps_kind (above {x = x} e c) = sym (passes.same_kind x e) ∙ chain_keeps_kind c

  pub chain_climbs : {x y : ℕ} → Chain (types_of ds) x y → climbs most_steps (types_of ds) x y ≡ true
  chain_climbs {x} c = chain_is_climbed most_steps c (passes.short x)

  pub climbs_transitive : (x y z : ℕ) → climbs most_steps (types_of ds) x y ≡ true → climbs most_steps (types_of ds) y z ≡ true → climbs most_steps (types_of ds) x z ≡ true
  climbs_transitive x y z e f = chain_climbs (chains_join (climb_is_chain most_steps (types_of ds) x y e) (climb_is_chain most_steps (types_of ds) y z f))

  pub climb_keeps_kind : (x y : ℕ) → climbs most_steps (types_of ds) x y ≡ true → kind_of (types_of ds x).form ≡ kind_of (types_of ds y).form
  climb_keeps_kind x y e = chain_keeps_kind (climb_is_chain most_steps (types_of ds) x y e)
