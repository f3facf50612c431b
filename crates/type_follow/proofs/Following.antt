-- Rules 4 and 5: each way out is a case of the rule, by whether the links that it asks for name a type.
use Prim.Native.Nat.{ℕ}
use mathlib.Core.Path.{◌≡◌}
use mathlib.Core.Bool.{Bool, true, false}
use Rattle.scope.specs.Told.{Maybe}
use Rattle.std.specs.Prelude.{None, Some}
use Rattle.scope.specs.Syntax.{Types, super_of}
use Rattle.scope.specs.TypeRules.{is_the, descriptor_follows, described_follow, describes_follows}
use Rattle.type_table.specs.Answers.{link_is, link_option}
use Rattle.type_table.proofs.Laws.{link_nothing, link_to, link_read}
use Rattle.type_rules.proofs.Clauses.{the_read}
use Rattle.type_follow.specs.Following.{descriptor_under}

-- rule 4

module _ (ts : Types) (x y : ℕ) {l : Maybe ℕ} (e : l ≡ link_is (ts x).descriptor) where
  pub no_descriptor_under : l ≡ None → false ≡ descriptor_under ts x y
  unfolding descriptor_under
  no_descriptor_under q = rw (link_nothing (ts x).descriptor e q)

  pub descriptor_is_under : {d : ℕ} {m : Maybe ℕ} {r : Bool} → l ≡ Some d → m ≡ link_is (super_of (ts d)) → r ≡ is_the (link_option m) y → r ≡ descriptor_under ts x y
  unfolding descriptor_under
  descriptor_is_under {d} q f p = rw (link_to (ts x).descriptor e q) (the_read (super_of (ts d)) y f p)

module _ (ts : Types) (x : ℕ) {l : Maybe ℕ} (e : l ≡ link_is (super_of (ts x))) where
  pub no_super_follows : l ≡ None → true ≡ descriptor_follows ts x
  unfolding descriptor_follows
  no_super_follows q = rw (link_nothing (super_of (ts x)) e q)

  module _ {p : ℕ} (q : l ≡ Some p) {m : Maybe ℕ} (f : m ≡ link_is (ts p).descriptor) where
    pub super_without : m ≡ None → true ≡ descriptor_follows ts x
    unfolding descriptor_follows
    super_without s = rw (link_to (super_of (ts x)) e q, link_nothing (ts p).descriptor f s)

    pub super_with : {y : ℕ} {r : Bool} → m ≡ Some y → r ≡ descriptor_under ts x y → r ≡ descriptor_follows ts x
    unfolding descriptor_follows descriptor_under
    super_with s t = rw (link_to (super_of (ts x)) e q, link_to (ts p).descriptor f s) t

pub ruleset descriptor_exits = (no_descriptor_under, descriptor_is_under, no_super_follows, super_without, super_with)

-- rule 5

module _ (ts : Types) {a b : Maybe ℕ} where
  pub neither_describes : a ≡ None → b ≡ None → true ≡ described_follow ts (link_option a) (link_option b)
  neither_describes p q = rw (p, q)

  pub only_super_describes : {y : ℕ} → a ≡ None → b ≡ Some y → false ≡ described_follow ts (link_option a) (link_option b)
  only_super_describes p q = rw (p, q)

  pub only_sub_describes : {d : ℕ} → a ≡ Some d → b ≡ None → false ≡ described_follow ts (link_option a) (link_option b)
  only_sub_describes p q = rw (p, q)

  pub both_describe : {d y : ℕ} {m : Maybe ℕ} {r : Bool} → a ≡ Some d → b ≡ Some y → m ≡ link_is (super_of (ts d)) → r ≡ is_the (link_option m) y → r ≡ described_follow ts (link_option a) (link_option b)
  both_describe {d} {y} p q f t = rw (p, q) (the_read (super_of (ts d)) y f t)

module _ (ts : Types) (x : ℕ) {l : Maybe ℕ} (e : l ≡ link_is (super_of (ts x))) where
  pub no_super_describes : l ≡ None → true ≡ describes_follows ts x
  unfolding describes_follows
  no_super_describes q = rw (link_nothing (super_of (ts x)) e q)

  pub super_describes : {p : ℕ} {a b : Maybe ℕ} {r : Bool} → l ≡ Some p → a ≡ link_is (ts x).describes → b ≡ link_is (ts p).describes → r ≡ described_follow ts (link_option a) (link_option b) → r ≡ describes_follows ts x
  unfolding describes_follows
  super_describes {p} q f g t = rw (link_to (super_of (ts x)) e q, ← link_read (ts x).describes f, ← link_read (ts p).describes g) t

pub ruleset describes_exits = (neither_describes, only_super_describes, only_sub_describes, both_describe, no_super_describes, super_describes)
