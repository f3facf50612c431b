-- Each way out of the two forms: what is carried and what falls through are by the form the one side or the other.
use Prim.Native.Nat.{ℕ}
use mathlib.Core.Path.{◌≡◌}
use mathlib.Core.Bool.{Bool, true, false, not, ◌&&◌}
use mathlib.Core.List.{List}
use borrow.Author.Tests.{not-true, not-false}
use Rattle.scope.specs.Refusals.{bad_branch}
use Rattle.scope.specs.Syntax.{Val, ref, Types}
use Rattle.scope.specs.BodyRules.{one_hierarchy}
use Rattle.type_table.specs.View.{heap_at_code}
use Rattle.body_state.specs.declared.Values.{Values}
use Rattle.body_state.specs.declared.Planned.{Planned}
use Rattle.body_state.specs.declared.Planned
use Rattle.body_state.specs.State.{planned_of}
use Rattle.body_plan_parts.specs.Planning.{CodeIs}
use Rattle.body_plan_cast_forms.specs.declared.Reference.{Reference}
use Rattle.body_plan_carried.specs.Carried.{Small, Carries}
use Rattle.body_plan_cast_forms.specs.Forms.{FormCarries, Casts}

-- form_carries

pub small-both : {v w : Val} {a b : ℕ} → CodeIs v a → CodeIs w b → Small a b
small-both p q = record { first = p.small; second = q.small }

module _ (codes : List ℕ) (ts : Types) (first : ℕ) (source target : Reference) (fail : Bool) (label : Values)
    {from : ℕ} (a : CodeIs (ref source.null (heap_at_code source.heap)) from)
    {to : ℕ} (b : CodeIs (ref target.null (heap_at_code target.heap)) to)
    {rest : ℕ} (d : CodeIs (ref (source.null && not target.null) (heap_at_code source.heap)) rest)
    {p : Planned} where
  pub fail_carries : fail ≡ true → Carries codes ts first from rest to label p → FormCarries codes ts first source target fail label p
  fail_carries e c = record { is = λ l count locals results. rw (c.is, a.is, b.is, d.is, e) }

  pub plain_carries : fail ≡ false → Carries codes ts first from to rest label p → FormCarries codes ts first source target fail label p
  plain_carries e c = record { is = λ l count locals results. rw (c.is, a.is, b.is, d.is, e) }

pub ruleset form_exits = (small-both, fail_carries, plain_carries)

-- casts

module _ (codes : List ℕ) (ts : Types) (first : ℕ) (source target : Reference) (fail : Bool) (label : Values)
    {r : Bool} (one : r ≡ one_hierarchy ts (heap_at_code source.heap) (heap_at_code target.heap)) where
  pub casts_apart : not r ≡ true → Casts codes ts first source target fail label (Planned.TheVariants.Fault bad_branch)
  unfolding planned_of
  casts_apart t = record { is = λ l count locals results. rw (← one, not-true r t) }

  pub casts_related : not r ≡ false → {p : Planned} → FormCarries codes ts first source target fail label p → Casts codes ts first source target fail label p
  casts_related t c = record { is = λ l count locals results. rw (← one, not-false r t) (c.is l count locals results) }

pub ruleset cast_exits = (casts_apart, casts_related)
