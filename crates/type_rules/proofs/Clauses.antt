-- Rule 3: each way out is a case of the rule, by whether the links that it asks for name a type.
use Prim.Native.Nat.{ℕ}
use mathlib.Core.Path.{◌≡◌, sym, ap, ◌∙◌}
use mathlib.Core.Bool.{Bool, true, false, ◌&&◌}
use mathlib.Core.Option.{Option}
use lib.Dec.{eqb, ltb}
use Rattle.scope.specs.Told.{Maybe}
use Rattle.std.specs.Prelude.{None, Some}
use Rattle.scope.specs.Syntax.{Types}
use Rattle.scope.specs.TypeRules.{is_struct, clauses_on_struct, describes_earlier, is_the, clauses_agree}
use Rattle.type_table.specs.Answers.{link_is, link_option}
use Rattle.type_table.proofs.Laws.{link_nothing, link_to, link_read}
use Rattle.type_rules.specs.Clauses.{descriptor_agrees, described_agrees}

-- a link that was read, as a question about it asks

pub not_the : {l : Maybe ℕ} (y : ℕ) → l ≡ None → false ≡ is_the (link_option l) y
not_the y q = rw q

pub the_same : {l : Maybe ℕ} {z : ℕ} (y : ℕ) → l ≡ Some z → eqb z y ≡ is_the (link_option l) y
the_same y q = rw q

pub ruleset the_exits = (not_the, the_same)

pub the_read : (o : Option ℕ) (y : ℕ) {l : Maybe ℕ} {r : Bool} → l ≡ link_is o → r ≡ is_the (link_option l) y → r ≡ is_the o y
the_read o y e p = p ∙ ap (λ (u : Option ℕ). is_the u y) (link_read o e)

-- rule 3: clauses on structs, and describes names an earlier type

module _ (ts : Types) (x : ℕ) {s : Bool} (e : s ≡ is_struct (ts x).form) where
  pub on_struct : s ≡ true → true ≡ clauses_on_struct ts x
  unfolding clauses_on_struct
  on_struct t = rw (sym e ∙ t)

  module _ (t : s ≡ false) {l : Maybe ℕ} (d : l ≡ link_is (ts x).describes) where
    pub describes_off_struct : {y : ℕ} → l ≡ Some y → false ≡ clauses_on_struct ts x
    unfolding clauses_on_struct
    describes_off_struct q = rw (sym e ∙ t, link_to (ts x).describes d q)

    module _ (q : l ≡ None) {m : Maybe ℕ} (f : m ≡ link_is (ts x).descriptor) where
      pub no_clauses : m ≡ None → true ≡ clauses_on_struct ts x
      unfolding clauses_on_struct
      no_clauses p = rw (sym e ∙ t, link_nothing (ts x).describes d q, link_nothing (ts x).descriptor f p)

      pub descriptor_off_struct : {y : ℕ} → m ≡ Some y → false ≡ clauses_on_struct ts x
      unfolding clauses_on_struct
      descriptor_off_struct p = rw (sym e ∙ t, link_nothing (ts x).describes d q, link_to (ts x).descriptor f p)

module _ (ts : Types) (x : ℕ) {l : Maybe ℕ} (e : l ≡ link_is (ts x).describes) where
  pub describes_none : l ≡ None → true ≡ describes_earlier ts x
  unfolding describes_earlier
  describes_none q = rw (link_nothing (ts x).describes e q)

  pub describes_one : {y : ℕ} → l ≡ Some y → ltb y x ≡ describes_earlier ts x
  unfolding describes_earlier
  describes_one q = rw (link_to (ts x).describes e q)

pub ruleset struct_exits = (on_struct, describes_off_struct, no_clauses, descriptor_off_struct, describes_none, describes_one)

-- rule 3: the clauses agree

module _ (ts : Types) (x : ℕ) {l : Maybe ℕ} where
  pub no_descriptor_agrees : l ≡ link_is (ts x).descriptor → l ≡ None → true ≡ descriptor_agrees ts x
  unfolding descriptor_agrees
  no_descriptor_agrees e q = rw (link_nothing (ts x).descriptor e q)

  pub descriptor_back : {y : ℕ} {m : Maybe ℕ} {r : Bool} → l ≡ link_is (ts x).descriptor → l ≡ Some y → m ≡ link_is (ts y).describes → r ≡ is_the (link_option m) x → r ≡ descriptor_agrees ts x
  unfolding descriptor_agrees
  descriptor_back {y} e q f p = rw (link_to (ts x).descriptor e q) (the_read (ts y).describes x f p)

  pub no-described-agrees : l ≡ link_is (ts x).describes → l ≡ None → true ≡ described_agrees ts x
  unfolding described_agrees
  no-described-agrees e q = rw (link_nothing (ts x).describes e q)

  pub described_back : {y : ℕ} {m : Maybe ℕ} {r : Bool} → l ≡ link_is (ts x).describes → l ≡ Some y → m ≡ link_is (ts y).descriptor → r ≡ is_the (link_option m) x → r ≡ described_agrees ts x
  unfolding described_agrees
  described_back {y} e q f p = rw (link_to (ts x).describes e q) (the_read (ts y).descriptor x f p)

module _ (ts : Types) (x : ℕ) {r : Bool} (e : r ≡ descriptor_agrees ts x) where
  both-agree : clauses_agree ts x ≡ (r && described_agrees ts x)
  unfolding clauses_agree descriptor_agrees described_agrees
  both-agree = rw e

  pub one_disagrees : r ≡ false → false ≡ clauses_agree ts x
  one_disagrees t = sym (both-agree ∙ ap (λ (b : Bool). b && described_agrees ts x) t)

  pub other_decides : {s : Bool} → r ≡ true → s ≡ described_agrees ts x → s ≡ clauses_agree ts x
  other_decides t p = p ∙ sym (both-agree ∙ ap (λ (b : Bool). b && described_agrees ts x) t)

pub ruleset agree_exits = (no_descriptor_agrees, descriptor_back, no-described-agrees, described_back, one_disagrees, other_decides)
