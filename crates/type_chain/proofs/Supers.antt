-- Rule 1: each way out is a case of the rule.
use Prim.Native.Nat.{ℕ, ◌≤◌, ◌<◌}
use mathlib.Core.Path.{◌≡◌}
use mathlib.Core.Bool.{Bool, true, false}
use borrow.Author.Tests.{lt-ltb, le-ltb}
use Rattle.scope.specs.Syntax.{Types}
use Rattle.scope.specs.TypeRules.{super_earlier_and_open}
use Rattle.type_table.specs.declared.Supers.{Supers}
use Rattle.type_table.specs.declared.Supers
use Rattle.type_table.specs.Answers.{supers_list}

-- at most one supertype

module _ (ts : Types) (x : ℕ) {u : Supers} (e : (ts x).supers ≡ supers_list u) where
  pub no_supers : u ≡ Supers.TheVariants.Nothing → true ≡ super_earlier_and_open ts x
  unfolding super_earlier_and_open
  no_supers q = rw (e, q)

  pub super_earlier : {p : ℕ} {r : Bool} → u ≡ Supers.TheVariants.One p → p < x → r ≡ (ts p).is_open → r ≡ super_earlier_and_open ts x
  unfolding super_earlier_and_open
  super_earlier {p} q h o = rw (e, q, lt-ltb p x h) o

  pub super_later : {p : ℕ} → u ≡ Supers.TheVariants.One p → x ≤ p → false ≡ super_earlier_and_open ts x
  unfolding super_earlier_and_open
  super_later {p} q h = rw (e, q, le-ltb p x h)

  pub two_supers : {p s : ℕ} → u ≡ Supers.TheVariants.Two p s → false ≡ super_earlier_and_open ts x
  unfolding super_earlier_and_open
  two_supers q = rw (e, q)

pub ruleset super_exits = (no_supers, super_earlier, super_later, two_supers)
