-- The verdict on what the table keeps is the verdict on the definitions. Both scans ask the same of the same types: what
-- is kept is in reach where the definition is, and from there on rule 1 and the chain see the definition itself, since a
-- supertype is earlier and every earlier type was scanned before. After a first scan without a fault all that is kept is
-- the definitions themselves, so the second scans are one.
use Prim.Native.Nat.{ℕ, zero, suc, ◌+◌, ◌≤◌, ◌<◌}
use native.Mathlib.Omega.{arith}
use mathlib.Core.Path.{◌≡◌, refl, ap, ap₂, ◌∙◌, fun_ext}
use mathlib.Core.Logic.{◌⊎◌, inl, inr}
use mathlib.Core.Bool.{Bool, true, false, cond}
use mathlib.Core.Option.{Option, none, some}
use mathlib.Core.List.{List, [], ◌∷◌, map}
use lib.ListN.{length, get_or-map, get_or-eq_default}
use lib.Dec.{ltb}
use borrow.Author.Tests.{ltb-true, ltb-false}
use Rattle.scope.specs.Sizes.{most_steps}
use Rattle.scope.specs.Refusals.{oversize, out_of_reach, bad_supertype}
use Rattle.scope.specs.Reading.{given}
use Rattle.scope.specs.Syntax.{Definition, Types, types_of, blank, super_of}
use Rattle.scope.specs.TypeRules.{in_reach, one_super, super_earlier_and_open, short_chain}
use Rattle.scope.specs.Judging.{plain, Judged, accepted, rejected, and_then, links_fault, rule_fault, scan, judge_types}
use Rattle.scope.proofs.Truths.{decided}
use Rattle.scope.proofs.Accepted.{scan_met_none, judged-kept, links_kept, blank-no_fault, super_earlier_and_open_lem}
use Rattle.type_table.specs.Kept.{beyond, kept_supers, kept_definition}
use Rattle.type_table.proofs.AtMost.{super_alone}
use Rattle.type_table.proofs.KeptReach.{below, number_keeps, parts_below, definition_reach, definition_same}

-- two scans

scans_agree : (f g : ℕ → Option ℕ) → ((x : ℕ) → ((y : ℕ) → y < x → f y ≡ none) → g x ≡ f x)
    → (x n : ℕ) → ((y : ℕ) → y < x → f y ≡ none) → scan g x n ≡ scan f x n
unfolding scan
scans_agree f g agree x zero before = refl
scans_agree f g agree x (suc n) before = rw (agree x before) (go (f x) refl (scans_agree f g agree (x + 1) n))
  where
    go : (o : Option ℕ) → f x ≡ o
        → (((y : ℕ) → y < x + 1 → f y ≡ none) → scan g (x + 1) n ≡ scan f (x + 1) n)
        → given o (scan g (x + 1) n) (λ number. rejected number (plain x)) ≡ given o (scan f (x + 1) n) (λ number. rejected number (plain x))
    go (some k) e later = refl
    go none e later = later (λ y h. one_more_lem y h (decided (ltb y x)))
      where
        one_more_lem : (y : ℕ) → y < x + 1 → (ltb y x ≡ true) ⊎ (ltb y x ≡ false) → f y ≡ none
        one_more_lem y h (inl p) = before y (ltb-true y x p)
        one_more_lem y h (inr p) = let q : y ≡ x = omega (arith, ltb-false) in rw q e

-- what is kept of a type

abbrev kept_types : Types → Types
kept_types ts x = kept_definition (ts x)

-- no group reaches a number that stands for one out of reach
pub record ReachWithin (ts : Types) : Type 0 where
  pub low : (x : ℕ) → (ts x).reach ≤ beyond

-- what is kept of the type is the type, and its supertype is earlier
record Settled (ts : Types) (x : ℕ) : Type 0 where
  same : kept_types ts x ≡ ts x
  super : super_earlier_and_open ts x ≡ true

kept-one_super : (ts : Types) (x : ℕ) (supers : List ℕ) {r : ℕ} → r ≤ beyond → below r supers ≡ true → one_super (kept_types ts) x (kept_supers supers) ≡ one_super ts x supers
unfolding kept_definition
kept-one_super ts x [] h e = refl
kept-one_super ts x (p ∷ []) h e = rw ((number_keeps h).same p e)
kept-one_super ts x (p ∷ q ∷ more) h e = refl

-- where every type up to x is settled, the chain from x is the same
kept_chain : (ts : Types) (steps x : ℕ) → ((y : ℕ) → y ≤ x → Settled ts y) → short_chain steps (kept_types ts) x ≡ short_chain steps ts x
unfolding short_chain
kept_chain ts zero x settled = rw (settled x (omega arith)).same
kept_chain ts (suc steps) x settled = rw (settled x (omega arith)).same (go (super_of (ts x)) refl (kept_chain ts steps))
  where
    go : (o : Option ℕ) → super_of (ts x) ≡ o
        → ((p : ℕ) → ((y : ℕ) → y ≤ p → Settled ts y) → short_chain steps (kept_types ts) p ≡ short_chain steps ts p)
        → given o true (λ p. short_chain steps (kept_types ts) p) ≡ given o true (λ p. short_chain steps ts p)
    go none e later = refl
    go (some p) e later =
        let (earlier, is_open) = super_earlier_and_open_lem ts x (settled x (omega arith)).super e in
        later p (λ y h. settled y (omega arith))

same_fault : {a b : Bool} {later later' : Option ℕ} (number : ℕ) → a ≡ b → (b ≡ true → later ≡ later') → cond a later (some number) ≡ cond b later' (some number)
same_fault {a} {b} {later} {later'} number e same = rw e (go b same)
  where
    go : (b : Bool) → (b ≡ true → later ≡ later') → cond b later (some number) ≡ cond b later' (some number)
    go true f = f refl
    go false f = refl

module _ (ts : Types) (bound : ReachWithin ts) where
  kept_in_reach : (x : ℕ) → in_reach (kept_types ts) x ≡ in_reach ts x
  unfolding in_reach kept_definition
  kept_in_reach x = definition_reach (bound.low x) (ts x)

  kept_super : (x : ℕ) → in_reach ts x ≡ true → super_earlier_and_open (kept_types ts) x ≡ super_earlier_and_open ts x
  unfolding in_reach super_earlier_and_open kept_definition
  kept_super x e = kept-one_super ts x (ts x).supers (bound.low x) (parts_below (ts x).reach (ts x) e).supers

  in_reach_settled : (x : ℕ) → in_reach ts x ≡ true → super_earlier_and_open ts x ≡ true → Settled ts x
  unfolding in_reach
  in_reach_settled x e f = record { same = definition_same (bound.low x) (ts x) (super_alone ts x f) e; super = f }

  no_fault_settled : (x : ℕ) → links_fault ts x ≡ none → Settled ts x
  no_fault_settled x e = let links = links_kept ts x e in in_reach_settled x links.reach links.super

  settled_upto : (x : ℕ) → ((y : ℕ) → y < x → links_fault ts y ≡ none) → Settled ts x → (y : ℕ) → y ≤ x → Settled ts y
  settled_upto x before settled y h = go (decided (ltb y x))
    where
      go : (ltb y x ≡ true) ⊎ (ltb y x ≡ false) → Settled ts y
      go (inl earlier) = no_fault_settled y (before y (ltb-true y x earlier))
      go (inr last) = let q : y ≡ x = omega (arith, ltb-false) in rw q settled

  kept_fault : (x : ℕ) → ((y : ℕ) → y < x → links_fault ts y ≡ none) → links_fault (kept_types ts) x ≡ links_fault ts x
  unfolding links_fault
  kept_fault x before =
      same_fault out_of_reach (kept_in_reach x) (λ reach.
      same_fault bad_supertype (kept_super x reach) (λ super.
      same_fault oversize (kept_chain ts most_steps x (settled_upto x before (in_reach_settled x reach super))) (λ short. refl)))

-- the definitions of a section

kept-types : (ds : List Definition) → types_of (map kept_definition ds) ≡ kept_types (types_of ds)
unfolding kept_definition
kept-types ds = fun_ext (λ x. get_or-map kept_definition ds x blank)

kept_all_lem : (ds : List Definition) → ((x : ℕ) → kept_types (types_of ds) x ≡ types_of ds x) → map kept_definition ds ≡ ds
kept_all_lem [] same = refl
kept_all_lem (d ∷ ds) same = ap₂ ◌∷◌ (same zero) (kept_all_lem ds (λ x. same (suc x)))

module _ (ds : List Definition) (bound : ReachWithin (types_of ds)) where
  links_accepted : {m : ℕ} → scan (links_fault (types_of ds)) 0 (length ds) ≡ accepted m → map kept_definition ds ≡ ds
  links_accepted e = kept_all_lem ds (λ x. (no_fault_settled (types_of ds) bound x (go x (decided (ltb x (length ds))))).same)
    where
      go : (x : ℕ) → (ltb x (length ds) ≡ true) ⊎ (ltb x (length ds) ≡ false) → links_fault (types_of ds) x ≡ none
      go x (inl inside) = scan_met_none (links_fault (types_of ds)) 0 (length ds) e x (omega arith) (omega (arith, ltb-true))
      go x (inr out) = (blank-no_fault (types_of ds) x (get_or-eq_default ds blank (ltb-false _ _ out))).0

  kept_links : scan (links_fault (types_of (map kept_definition ds))) 0 (length ds) ≡ scan (links_fault (types_of ds)) 0 (length ds)
  kept_links =
      ap (λ ts. scan (links_fault ts) 0 (length ds)) (kept-types ds)
      ∙ scans_agree (links_fault (types_of ds)) (links_fault (kept_types (types_of ds))) (kept_fault (types_of ds) bound) 0 (length ds) (λ y h. absurd (omega arith))

  pub kept_accepted : {n : ℕ} → judge_types (types_of ds) (length ds) ≡ accepted n → map kept_definition ds ≡ ds
  kept_accepted e =
      let links = (judged-kept ds e).links in
      kept_all_lem ds (λ x. (in_reach_settled (types_of ds) bound x (links x).reach (links x).super).same)

  pub kept-verdict : judge_types (types_of (map kept_definition ds)) (length ds) ≡ judge_types (types_of ds) (length ds)
  unfolding judge_types
  kept-verdict = ap (λ links. and_then links (λ all. kept_rules)) kept_links ∙ go (scan (links_fault (types_of ds)) 0 (length ds)) refl
    where
      kept_rules : Judged ℕ
      kept_rules = scan (rule_fault (types_of (map kept_definition ds))) 0 (length ds)

      go : (links : Judged ℕ) → scan (links_fault (types_of ds)) 0 (length ds) ≡ links → and_then links (λ all. kept_rules) ≡ and_then links (λ all. scan (rule_fault (types_of ds)) 0 (length ds))
      go (accepted m) e = ap (λ es. scan (rule_fault (types_of es)) 0 (length ds)) (links_accepted e)
      go (rejected n p) e = refl
