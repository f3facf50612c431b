-- The rules are asked in the order of the definition: where those before pass, the first that is broken gives its number.
use Prim.Native.Nat.{ℕ}
use mathlib.Core.Path.{◌≡◌, refl, sym, ◌∙◌}
use mathlib.Core.Bool.{Bool, true, false, not, cond}
use mathlib.Core.Option.{Option, none, some}
use mathlib.Core.List.{List}
use borrow.Author.Tests.{not-true, not-false}
use Rattle.scope.specs.Sizes.{most_steps}
use Rattle.scope.specs.Refusals.{oversize, out_of_reach, bad_supertype, no_match, clause_not_on_struct, describes_not_earlier, clauses_disagree, bad_descriptor, bad_describes}
use Rattle.scope.specs.Syntax.{Types}
use Rattle.scope.specs.TypeRules.{in_reach, super_earlier_and_open, short_chain, matches_super, clauses_on_struct, describes_earlier, clauses_agree, descriptor_follows, describes_follows}
use Rattle.scope.specs.Judging.{links_fault, rule_fault}
use Rattle.type_table.specs.View.{view}
use Rattle.type_chain.specs.Depths.{shallow}
use Rattle.section_judge.specs.declared.Fault.{Fault}
use Rattle.section_judge.specs.declared.Fault
use Rattle.section_judge.specs.Verdict.{fault_is, clauses_fault, follow_fault, fault_of}
use Rattle.section_judge.specs.Ready.{Chained}

-- one rule before the others: broken, it gives its number; kept, the others decide

module _ (kept : Bool) (number : ℕ) (later : Option ℕ) {r : Bool} (e : r ≡ kept) where
  broken : not r ≡ true → Fault.TheVariants.Number number ≡ fault_is (cond kept later (some number))
  broken t = rw (sym e ∙ not-true r t)

  passed : not r ≡ false → fault_is (cond kept later (some number)) ≡ fault_is later
  passed t = rw (sym e ∙ not-false r t)

-- 6, 7 and the chain

module _ (rows codes : List ℕ) (x : ℕ) {a : Bool} (e : a ≡ in_reach (view rows codes) x) where
  abbrev ts : Types
  ts = view rows codes

  pub out_of_reach_lem : not a ≡ true → Fault.TheVariants.Number out_of_reach ≡ fault_is (links_fault ts x)
  unfolding links_fault
  out_of_reach_lem t = broken (in_reach ts x) out_of_reach _ e t

  module _ (t : not a ≡ false) {b : Bool} (f : b ≡ super_earlier_and_open ts x) where
    pub bad_supertype_lem : not b ≡ true → Fault.TheVariants.Number bad_supertype ≡ fault_is (links_fault ts x)
    unfolding links_fault
    bad_supertype_lem u = broken (super_earlier_and_open ts x) bad_supertype _ f u ∙ sym (passed (in_reach ts x) out_of_reach _ e t)

    module _ (u : not b ≡ false) (k : Chained rows codes x) {c : Bool} (l : c ≡ shallow most_steps rows x) where
      g : c ≡ short_chain most_steps ts x
      g = l ∙ sym (k.is (sym f ∙ not-false b u))

      links_last : fault_is (links_fault ts x) ≡ fault_is (cond (short_chain most_steps ts x) none (some oversize))
      unfolding links_fault
      links_last = passed (in_reach ts x) out_of_reach _ e t ∙ passed (super_earlier_and_open ts x) bad_supertype _ f u

      pub chain_too_long : not c ≡ true → Fault.TheVariants.Number oversize ≡ fault_is (links_fault ts x)
      chain_too_long v = broken (short_chain most_steps ts x) oversize none g v ∙ sym links_last

      pub links_kept : not c ≡ false → Fault.TheVariants.Nothing ≡ fault_is (links_fault ts x)
      links_kept v = sym (links_last ∙ passed (short_chain most_steps ts x) oversize none g v)

pub ruleset link_exits = (out_of_reach_lem, bad_supertype_lem, chain_too_long, links_kept)

-- 12 and 13

module _ (ts : Types) (x : ℕ) {a : Bool} (e : a ≡ descriptor_follows ts x) where
  pub bad_descriptor_lem : not a ≡ true → Fault.TheVariants.Number bad_descriptor ≡ fault_is (follow_fault ts x)
  unfolding follow_fault
  bad_descriptor_lem t = broken (descriptor_follows ts x) bad_descriptor _ e t

  module _ (t : not a ≡ false) {b : Bool} (f : b ≡ describes_follows ts x) where
    follow_last : fault_is (follow_fault ts x) ≡ fault_is (cond (describes_follows ts x) none (some bad_describes))
    unfolding follow_fault
    follow_last = passed (descriptor_follows ts x) bad_descriptor _ e t

    pub bad_describes_lem : not b ≡ true → Fault.TheVariants.Number bad_describes ≡ fault_is (follow_fault ts x)
    bad_describes_lem u = broken (describes_follows ts x) bad_describes none f u ∙ sym follow_last

    pub follow_kept : not b ≡ false → Fault.TheVariants.Nothing ≡ fault_is (follow_fault ts x)
    follow_kept u = sym (follow_last ∙ passed (describes_follows ts x) bad_describes none f u)

pub ruleset follow_exits = (bad_descriptor_lem, bad_describes_lem, follow_kept)

-- 9 to 11, and then those

module _ (ts : Types) (x : ℕ) {a : Bool} (e : a ≡ clauses_on_struct ts x) where
  pub clause_not-on_struct : not a ≡ true → Fault.TheVariants.Number clause_not_on_struct ≡ fault_is (clauses_fault ts x)
  unfolding clauses_fault
  clause_not-on_struct t = broken (clauses_on_struct ts x) clause_not_on_struct _ e t

  module _ (t : not a ≡ false) {b : Bool} (f : b ≡ describes_earlier ts x) where
    pub describes_not_earlier_lem : not b ≡ true → Fault.TheVariants.Number describes_not_earlier ≡ fault_is (clauses_fault ts x)
    unfolding clauses_fault
    describes_not_earlier_lem u = broken (describes_earlier ts x) describes_not_earlier _ f u ∙ sym (passed (clauses_on_struct ts x) clause_not_on_struct _ e t)

    module _ (u : not b ≡ false) {c : Bool} (g : c ≡ clauses_agree ts x) where
      clauses_last : fault_is (clauses_fault ts x) ≡ fault_is (cond (clauses_agree ts x) (follow_fault ts x) (some clauses_disagree))
      unfolding clauses_fault follow_fault
      clauses_last = passed (clauses_on_struct ts x) clause_not_on_struct _ e t ∙ passed (describes_earlier ts x) describes_not_earlier _ f u

      pub clauses_disagree_lem : not c ≡ true → Fault.TheVariants.Number clauses_disagree ≡ fault_is (clauses_fault ts x)
      clauses_disagree_lem v = broken (clauses_agree ts x) clauses_disagree (follow_fault ts x) g v ∙ sym clauses_last

      pub clauses_kept : {r : Fault} → not c ≡ false → r ≡ fault_is (follow_fault ts x) → r ≡ fault_is (clauses_fault ts x)
      clauses_kept v p = p ∙ sym (clauses_last ∙ passed (clauses_agree ts x) clauses_disagree (follow_fault ts x) g v)

pub ruleset clause_exits = (clause_not-on_struct, describes_not_earlier_lem, clauses_disagree_lem, clauses_kept)

-- 8, and then those

module _ (ts : Types) (x : ℕ) {a : Bool} (e : a ≡ matches_super ts x) where
  rules_from_8 : fault_is (rule_fault ts x) ≡ fault_is (cond (matches_super ts x) (clauses_fault ts x) (some no_match))
  unfolding rule_fault clauses_fault
  rules_from_8 = refl

  pub no_match_lem : not a ≡ true → Fault.TheVariants.Number no_match ≡ fault_is (rule_fault ts x)
  no_match_lem t = broken (matches_super ts x) no_match (clauses_fault ts x) e t ∙ sym rules_from_8

  pub form_kept : {r : Fault} → not a ≡ false → r ≡ fault_is (clauses_fault ts x) → r ≡ fault_is (rule_fault ts x)
  form_kept t p = p ∙ sym (rules_from_8 ∙ passed (matches_super ts x) no_match (clauses_fault ts x) e t)

pub ruleset rule_exits = (no_match_lem, form_kept)

-- the two passes

module _ (links : Bool) (ts : Types) (x : ℕ) {r : Fault} where
  pub first_pass : r ≡ fault_is (links_fault ts x) → links ≡ true → r ≡ fault_is (fault_of links ts x)
  unfolding fault_of
  first_pass p t = rw t p

  pub second_pass : r ≡ fault_is (rule_fault ts x) → links ≡ false → r ≡ fault_is (fault_of links ts x)
  unfolding fault_of
  second_pass p t = rw t p

pub ruleset pass_exits = (first_pass, second_pass)
