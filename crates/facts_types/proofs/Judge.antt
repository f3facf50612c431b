-- The rules' half of the equivalence: the types of a section are judged with yes exactly when every one of them is valid
-- and has a short chain. Yes to the relations: a scan that met no fault kept every rule. The relations to yes: rules 1, 2
-- and the chain make a table that passes, with no word of the order's test; there the order's relation is tested, so
-- every test is passed, at a number past the end too, and a scan without a fault says yes.
use Prim.Native.Nat.{ℕ, zero, suc, ◌+◌, ◌<◌}
use native.Mathlib.Omega.{arith}
use mathlib.Core.Path.{◌≡◌, refl}
use mathlib.Core.Logic.{◌⊎◌, inl, inr, ◌↔◌}
use mathlib.Core.Bool.{true, false}
use mathlib.Core.Option.{Option, none, some}
use mathlib.Core.List.{List}
use lib.ListN.{length, get_or-eq_default}
use lib.Dec.{ltb}
use borrow.Author.Tests.{ltb-true, ltb-false}
use Rattle.scope.specs.Sizes.{most_steps}
use Rattle.scope.specs.Syntax.{Form, Definition, Types, blank, types_of, super_of, first_of}
use Rattle.scope.specs.Order.{kind_of}
use Rattle.scope.specs.TypeRules.{short_chain, describes_earlier}
use Rattle.scope.specs.Judging.{accepted, links_fault, rule_fault, scan, judge_types}
use Rattle.scope.proofs.Truths.{none_is_not-some, decided}
use Rattle.scope.proofs.Accepted.{LinksKept, RulesKept, judged-kept, blank-no_fault, links_kept, Passes}
use Rattle.scope.proofs.Order.{value_order-tested}
use Rattle.facts_types.specs.TypeRelations.{SupertypesOf, no_supertype, one_supertype, FormMatches, structs, functions, ValidType}
use Rattle.facts_types.specs.AllowedTypes.{AllowedTypes}
use Rattle.facts_types.proofs.Named.{reach_says, reach_tested}
use Rattle.facts_types.proofs.Rules.{supertypes_say, supertypes_tested, chain_says, chain_tested, matches_say, matches_tested, on_struct_says, on_struct_tested, earlier_says, earlier_tested, agree_says, agree-tested, descriptors_say, descriptors_tested, describes_say, describes_tested}

-- Yes to the relations

module _ (ts : Types) (x : ℕ) where
  pub kept_valid : LinksKept ts x → RulesKept ts x → ValidType ts x
  kept_valid links rules =
      record {
        reach = reach_says ts x links.reach;
        supertypes = supertypes_say ts x links.super;
        matches = matches_say ts x rules.matches;
        on_struct = on_struct_says ts x rules.on_struct;
        describes_earlier = earlier_says ts x rules.describes_before;
        agree = agree_says ts x rules.agree;
        descriptors = descriptors_say ts x rules.descriptors;
        described = describes_say ts x rules.described;
      }

pub judged_allowed : (ds : List Definition) {n : ℕ} → judge_types (types_of ds) (length ds) ≡ accepted n → AllowedTypes ds
judged_allowed ds e =
    let kept = judged-kept ds e in
    record {
      valid = record { each = λ x below. kept_valid (types_of ds) x (kept.links x) (kept.rules x) };
      chains = record { each = λ x below. chain_says (types_of ds) x (kept.links x).short };
    }

-- The relations to yes: a table that passes

super_earlier : {ts : Types} {x p : ℕ} {supers : List ℕ} → SupertypesOf ts x supers → first_of supers ≡ some p → p < x
super_earlier no_supertype e = absurd (none_is_not-some e)
super_earlier {p = p} (one_supertype {p = q} earlier allowed) e = let same : q ≡ p = cc in omega arith

equal_kinds : {ts : Types} {f g : Form} → FormMatches ts f g → kind_of g ≡ kind_of f
equal_kinds (structs fields) = refl
equal_kinds (functions parameters results) = refl

-- a number below the length names a type; any other names `blank`
inside-or-blank : (ds : List Definition) (x : ℕ) → (x < length ds) ⊎ (types_of ds x ≡ blank)
inside-or-blank ds x = go (decided (ltb x (length ds)))
  where
    go : (ltb x (length ds) ≡ true) ⊎ (ltb x (length ds) ≡ false) → (x < length ds) ⊎ (types_of ds x ≡ blank)
    go (inl inside) = inl (ltb-true _ _ inside)
    go (inr past) = inr (get_or-eq_default ds blank (ltb-false _ _ past))

module _ {ds : List Definition} (allowed : AllowedTypes ds) where
  super_inside : (x : ℕ) {p : ℕ} → super_of (types_of ds x) ≡ some p → x < length ds
  super_inside x {p} e = go (inside-or-blank ds x)
    where
      go : (x < length ds) ⊎ (types_of ds x ≡ blank) → x < length ds
      go (inl inside) = inside
      go (inr q) = absurd (none_is_not-some (rw q at e))

  pub allowed_passes : Passes ds
  allowed_passes =
      record {
        earlier = λ x e. super_earlier (allowed.valid.each x (super_inside x e)).supertypes e;
        short = λ x. chain x (inside-or-blank ds x);
        same_kind = λ x e. equal_kinds ((allowed.valid.each x (super_inside x e)).matches.matched e);
      }
    where
      chain : (x : ℕ) → (x < length ds) ⊎ (types_of ds x ≡ blank) → short_chain most_steps (types_of ds) x ≡ true
      chain x (inl inside) = chain_tested (types_of ds) x (allowed.chains.each x inside)
      chain x (inr q) = (links_kept (types_of ds) x (blank-no_fault (types_of ds) x q).0).short

  -- every test

  valid_links : (x : ℕ) → x < length ds → LinksKept (types_of ds) x
  valid_links x inside =
      let v = allowed.valid.each x inside in
      record { reach = reach_tested (types_of ds) x v.reach; super = supertypes_tested (types_of ds) x v.supertypes; short = allowed_passes.short x }

  valid_rules : (x : ℕ) → x < length ds → RulesKept (types_of ds) x
  valid_rules x inside =
      let v = allowed.valid.each x inside in
      record {
        matches = matches_tested (types_of ds) (value_order-tested allowed_passes) x v.matches;
        on_struct = on_struct_tested (types_of ds) x v.on_struct;
        describes_before = earlier_tested (types_of ds) x v.describes_earlier;
        agree = agree-tested (types_of ds) x v.agree;
        descriptors = descriptors_tested (types_of ds) x v.descriptors;
        described = describes_tested (types_of ds) x v.described;
      }

-- The relations to yes: no fault

pub links_no_fault : (ts : Types) (x : ℕ) → LinksKept ts x → links_fault ts x ≡ none
unfolding links_fault
links_no_fault ts x k = rw (k.reach, k.super, k.short)

pub rules-no_fault : (ts : Types) (x : ℕ) → RulesKept ts x → rule_fault ts x ≡ none
unfolding rule_fault
rules-no_fault ts x k = rw (k.matches, k.on_struct, k.describes_before, k.agree, k.descriptors, k.described)

pub scan_accepts : (fault : ℕ → Option ℕ) (x n : ℕ) → ((y : ℕ) → y < x + n → fault y ≡ none) → scan fault x n ≡ accepted (x + n)
unfolding scan
scan_accepts fault x zero h = let q : x + 0 ≡ x = omega arith in rw q
scan_accepts fault x (suc n) h =
    let here : fault x ≡ none = h x (omega arith) in
    let later : scan fault (x + 1) n ≡ accepted (x + 1 + n) = scan_accepts fault (x + 1) n (λ y below. h y (omega arith)) in
    let q : x + 1 + n ≡ x + suc n = omega arith in
    rw (here, later, q)

pub faultless_judged : (ts : Types) (n : ℕ) → ((x : ℕ) → x < n → (links_fault ts x ≡ none) × (rule_fault ts x ≡ none)) → judge_types ts n ≡ accepted n
unfolding judge_types
faultless_judged ts n h =
    let links : scan (links_fault ts) 0 n ≡ accepted (0 + n) = scan_accepts (links_fault ts) 0 n (λ x below. (h x (omega arith)).0) in
    let rules : scan (rule_fault ts) 0 n ≡ accepted (0 + n) = scan_accepts (rule_fault ts) 0 n (λ x below. (h x (omega arith)).1) in
    let q : 0 + n ≡ n = omega arith in
    rw (links, rules, q)

pub allowed_judged : {ds : List Definition} → AllowedTypes ds → judge_types (types_of ds) (length ds) ≡ accepted (length ds)
allowed_judged {ds} allowed =
    faultless_judged (types_of ds) (length ds) (λ x below. (links_no_fault (types_of ds) x (valid_links allowed x below), rules-no_fault (types_of ds) x (valid_rules allowed x below)))

-- The rules' half, whole

pub judged_exactly : (ds : List Definition) → (judge_types (types_of ds) (length ds) ≡ accepted (length ds)) ↔ AllowedTypes ds
judged_exactly ds = (judged_allowed ds, allowed_judged)
