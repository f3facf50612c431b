-- The rules refuse at the first fault in document 01's order, and at nothing else. Each test decides its relation; so the
-- first test of a type that fails is the first rule that it breaks, and a scan that goes from type to type stops at the
-- first type that breaks one. Before the rules come the bytes, and before the bytes the whole size.
use Prim.Native.Nat.{ℕ, zero, suc, ◌+◌, ◌<◌, ◌≤◌}
use native.Mathlib.Omega.{arith}
use mathlib.Core.Path.{◌≡◌, refl, sym, ◌∙◌}
use mathlib.Core.Logic.{◌↔◌, ◌⊎◌, inl, inr}
use mathlib.Core.Bool.{Bool, true, false, false≢true}
use mathlib.Core.Option.{Option, none, some}
use mathlib.Core.List.{List, [], ◌∷◌, ◌++◌}
use lib.ListN.{length}
use lib.Dec.{ltb}
use borrow.Author.Tests.{ltb-true, ltb-false}
use Rattle.scope.specs.Sizes.{most_steps}
use Rattle.scope.specs.Refusals.{oversize, out_of_reach, bad_supertype, no_match, clause_not_on_struct, describes_not_earlier, clauses_disagree, bad_descriptor, bad_describes}
use Rattle.scope.specs.Reading.{Read, got, refused, given}
use Rattle.scope.specs.Lists.{joined}
use Rattle.scope.specs.declared.Place.{Place}
use Rattle.scope.specs.Syntax.{Definition, Types, Group, types_of}
use Rattle.scope.specs.Sections.{read_after}
use Rattle.scope.specs.TypeRules.{in_reach, super_earlier_and_open, short_chain, matches_super, clauses_on_struct, describes_earlier, clauses_agree, descriptor_follows, describes_follows}
use Rattle.scope.specs.Judging.{Judged, accepted, rejected, and_then, first_broken, links_fault, rule_fault, scan, judge_types, judge_read, judge_library, Joined, judge_more, judge_joined, in_library, in_addon, plain}
use Rattle.scope.proofs.Truths.{none_is_not-some, decided}
use Rattle.scope.proofs.Accepted.{scan_met_none}
use Rattle.scope.proofs.Impossible.{contradiction, impossible}
use Rattle.facts_sections.specs.FirstFault.{Rule, AllKept, all_kept, kept_and, FirstBroken, broken, kept_then, link_rules, type_rules, FirstAmong, FirstFault, in_links, in_rules, LibraryRefused, library_bytes, library_rules, Refused, by_library, by_bytes, by_rules}
use Rattle.facts_sections.specs.Allowed.{LibraryAllowed}
use Rattle.facts_types.proofs.OwnForms.{own_matches_say, own_matches_tested}
use Rattle.facts_types.proofs.Judge.{scan_accepts}
use Rattle.facts_sections.proofs.SectionReading.{section_found, section_read}
use Rattle.facts_sections.proofs.Verdict.{library_allowed_lem, allowed_library, library_small}
use Rattle.facts_types.proofs.Named.{reach_says, reach_tested}
use Rattle.facts_types.proofs.Rules.{supertypes_say, supertypes_tested, chain_says, chain_tested, on_struct_says, on_struct_tested, earlier_says, earlier_tested, agree_says, agree-tested, descriptors_say, descriptors_tested, describes_say, describes_tested}

-- Tests that decide rules

data Decides : List (Bool × ℕ) → List Rule → Type 1 where
  no_test : Decides [] []
  a_test : {t : Bool} {k : ℕ} {P : Type 0} {tests : List (Bool × ℕ)} {rules : List Rule} → (t ≡ true → P) → (P → t ≡ true) → Decides tests rules
      → Decides ((t, k) ∷ tests) (record { says = P; number = k } ∷ rules)

links_decide : (ts : Types) (x : ℕ)
    → Decides ((in_reach ts x, out_of_reach) ∷ (super_earlier_and_open ts x, bad_supertype) ∷ (short_chain most_steps ts x, oversize) ∷ []) (link_rules ts x)
links_decide ts x =
    a_test (reach_says ts x) (reach_tested ts x) (a_test (supertypes_say ts x) (supertypes_tested ts x) (a_test (chain_says ts x) (chain_tested ts x) no_test))

rules_decide : (ts : Types) (x : ℕ)
    → Decides
    ((matches_super ts x, no_match)
    ∷ (clauses_on_struct ts x, clause_not_on_struct)
    ∷ (describes_earlier ts x, describes_not_earlier)
    ∷ (clauses_agree ts x, clauses_disagree)
    ∷ (descriptor_follows ts x, bad_descriptor)
    ∷ (describes_follows ts x, bad_describes)
    ∷ [])
    (type_rules ts x)
rules_decide ts x =
    a_test (own_matches_say ts x) (own_matches_tested ts x)
    (a_test (on_struct_says ts x) (on_struct_tested ts x)
    (a_test (earlier_says ts x) (earlier_tested ts x)
    (a_test (agree_says ts x) (agree-tested ts x)
    (a_test (descriptors_say ts x) (descriptors_tested ts x)
    (a_test (describes_say ts x) (describes_tested ts x) no_test)))))

kept_says : {tests : List (Bool × ℕ)} {rules : List Rule} → Decides tests rules → first_broken tests ≡ none → AllKept rules
kept_says no_test e = all_kept
kept_says (a_test {t = true} says tested more) e = kept_and (says refl) (kept_says more e)
kept_says (a_test {t = false} says tested more) e = absurd (none_is_not-some (sym e))

says_kept : {tests : List (Bool × ℕ)} {rules : List Rule} → Decides tests rules → AllKept rules → first_broken tests ≡ none
says_kept no_test all_kept = refl
says_kept (a_test says tested more) (kept_and p later) = rw (tested p) (says_kept more later)

broken_says : {tests : List (Bool × ℕ)} {rules : List Rule} {n : ℕ} → Decides tests rules → first_broken tests ≡ some n → FirstBroken rules n
broken_says no_test e = absurd (none_is_not-some e)
broken_says (a_test {t = true} says tested more) e = kept_then (says refl) (broken_says more e)
broken_says {n = n} (a_test {t = false} {k = k} says tested more) e = let same : k ≡ n = cc in rw (← same) (broken (λ p. false≢true (tested p)))

says_broken : {tests : List (Bool × ℕ)} {rules : List Rule} {n : ℕ} → Decides tests rules → FirstBroken rules n → first_broken tests ≡ some n
says_broken (a_test says tested more) (kept_then p later) = rw (tested p) (says_broken more later)
says_broken (a_test {t = true} says tested more) (broken wrong) = absurd (wrong (says refl))
says_broken (a_test {t = false} says tested more) (broken wrong) = refl
says_broken {n = n} no_test x4 = elim x4 [ ]

-- Type by type

record FaultsAre (fault : ℕ → Option ℕ) (rules : ℕ → List Rule) : Type 1 where
  kept : (x : ℕ) → fault x ≡ none → AllKept (rules x)
  unbroken : (x : ℕ) → AllKept (rules x) → fault x ≡ none
  fails : (x n : ℕ) → fault x ≡ some n → FirstBroken (rules x) n
  said : (x n : ℕ) → FirstBroken (rules x) n → fault x ≡ some n

link_faults : (ts : Types) → FaultsAre (links_fault ts) (link_rules ts)
unfolding links_fault
link_faults ts =
    record {
      kept = λ x. kept_says (links_decide ts x);
      unbroken = λ x. says_kept (links_decide ts x);
      fails = λ x n. broken_says (links_decide ts x);
      said = λ x n. says_broken (links_decide ts x);
    }

rule_faults : (ts : Types) → FaultsAre (rule_fault ts) (type_rules ts)
unfolding rule_fault
rule_faults ts =
    record {
      kept = λ x. kept_says (rules_decide ts x);
      unbroken = λ x. says_kept (rules_decide ts x);
      fails = λ x n. broken_says (rules_decide ts x);
      said = λ x n. says_broken (rules_decide ts x);
    }

-- The scan stops at the first fault

record Stops (fault : ℕ → Option ℕ) (x n number place : ℕ) : Type 0 where
  from : x ≤ place
  inside : place < x + n
  earlier : (y : ℕ) → x ≤ y → y < place → fault y ≡ none
  here : fault place ≡ some number

scan_stops : (fault : ℕ → Option ℕ) (x n : ℕ) {number place : ℕ} → scan fault x n ≡ rejected number (plain place) → Stops fault x n number place
unfolding scan
scan_stops fault x zero e = impossible cc
scan_stops fault x (suc n) {number} {place} e = go (fault x) refl e (scan_stops fault (x + 1) n)
  where
    reached : Stops fault (x + 1) n number place → fault x ≡ none → Stops fault x (suc n) number place
    reached later q = record {
      from = omega arith;
      inside = omega arith;
      earlier = λ y from before. first y from before (decided (ltb x y));
      here = later.here;
    }
      where
        first : (y : ℕ) → x ≤ y → y < place → (ltb x y ≡ true) ⊎ (ltb x y ≡ false) → fault y ≡ none
        first y from before (inl beyond) = later.earlier y (omega (arith, ltb-true)) before
        first y from before (inr at) = let same : y ≡ x = omega (arith, ltb-false) in rw same q

    go : (o : Option ℕ) → fault x ≡ o → given o (scan fault (x + 1) n) (λ k. rejected k (plain x)) ≡ rejected number (plain place)
        → (scan fault (x + 1) n ≡ rejected number (plain place) → Stops fault (x + 1) n number place) → Stops fault x (suc n) number place
    go none q f later = reached (later f) q
    go (some k) q f later =
        let same : k ≡ number = cc in
        let here : x ≡ place = cc in
        record { from = omega arith; inside = omega arith; earlier = λ y from before. absurd (omega arith); here = rw (← here, ← same) q }

stops_scan : (fault : ℕ → Option ℕ) (x n : ℕ) {number place : ℕ} → Stops fault x n number place → scan fault x n ≡ rejected number (plain place)
unfolding scan
stops_scan fault x zero stop = absurd (omega arith)
stops_scan fault x (suc n) {number} {place} stop = go (decided (ltb x place)) (stops_scan fault (x + 1) n)
  where
    go : (ltb x place ≡ true) ⊎ (ltb x place ≡ false) → (Stops fault (x + 1) n number place → scan fault (x + 1) n ≡ rejected number (plain place))
        → given (fault x) (scan fault (x + 1) n) (λ k. rejected k (plain x)) ≡ rejected number (plain place)
    go (inl before) later =
        let kept : fault x ≡ none = stop.earlier x (omega arith) (ltb-true x place before) in
        let rest : Stops fault (x + 1) n number place =
        record { from = omega (arith, ltb-true); inside = omega arith; earlier = λ y from under. stop.earlier y (omega arith) under; here = stop.here } in
        rw (kept, later rest)
    go (inr at) later =
        let here : place ≡ x = omega (arith, ltb-false) in
        let there : fault x ≡ some number = rw here at stop.here in
        rw (there, here)

-- The rules

module _ {fault : ℕ → Option ℕ} {rules : ℕ → List Rule} (are : FaultsAre fault rules) {n number place : ℕ} where
  stops_first : Stops fault 0 n number place → FirstAmong rules n number place
  stops_first stop =
      record { inside = omega arith; earlier = λ y before. are.kept y (stop.earlier y (omega arith) before); here = are.fails place number stop.here }

  first_stops : FirstAmong rules n number place → Stops fault 0 n number place
  first_stops first =
      let inside = first.inside in
      record { from = omega arith; inside = omega arith; earlier = λ y from before. are.unbroken y (first.earlier y before); here = are.said place number first.here }

module _ (ts : Types) (n : ℕ) {number place : ℕ} where
  rejected_first : judge_types ts n ≡ rejected number (plain place) → FirstFault ts n number place
  unfolding judge_types
  rejected_first e = go (scan (links_fault ts) 0 n) refl e
    where
      go : (j : Judged ℕ) → scan (links_fault ts) 0 n ≡ j → and_then j (λ links. scan (rule_fault ts) 0 n) ≡ rejected number (plain place) → FirstFault ts n number place
      go (rejected k p) q f = in_links (stops_first (link_faults ts) (scan_stops (links_fault ts) 0 n (q ∙ f)))
      go (accepted m) q f =
          in_rules
          (λ y below. (link_faults ts).kept y (scan_met_none (links_fault ts) 0 n q y (omega arith) (omega arith)))
          (stops_first (rule_faults ts) (scan_stops (rule_fault ts) 0 n f))

  first_rejected : FirstFault ts n number place → judge_types ts n ≡ rejected number (plain place)
  unfolding judge_types
  first_rejected (in_links first) = rw (stops_scan (links_fault ts) 0 n (first_stops (link_faults ts) first))
  first_rejected (in_rules links first) =
      rw (scan_accepts (links_fault ts) 0 n (λ y below. (link_faults ts).unbroken y (links y (omega arith))), stops_scan (rule_fault ts) 0 n (first_stops (rule_faults ts) first))

pub first_fault_said : (ts : Types) (n number place : ℕ) → (judge_types ts n ≡ rejected number (plain place)) ↔ FirstFault ts n number place
first_fault_said ts n number place = (rejected_first ts n, first_rejected ts n)

-- a fault of the rules lies at the number of a type

scan-plain : (fault : ℕ → Option ℕ) (x n : ℕ) {number : ℕ} {p : Place} → scan fault x n ≡ rejected number p → (place : ℕ) × (p ≡ plain place)
unfolding scan
scan-plain fault x zero e = impossible cc
scan-plain fault x (suc n) {number} {p} e = go (fault x) e (scan-plain fault (x + 1) n)
  where
    go : (o : Option ℕ) → given o (scan fault (x + 1) n) (λ k. rejected k (plain x)) ≡ rejected number p
        → (scan fault (x + 1) n ≡ rejected number p → (place : ℕ) × (p ≡ plain place)) → (place : ℕ) × (p ≡ plain place)
    go none f later = later f
    go (some k) f later = let here : p ≡ plain x = cc in (x, here)

pub rules-plain : (ts : Types) (n : ℕ) {number : ℕ} {p : Place} → judge_types ts n ≡ rejected number p → (place : ℕ) × (p ≡ plain place)
unfolding judge_types
rules-plain ts n {number} {p} e = go (scan (links_fault ts) 0 n) refl e
  where
    go : (j : Judged ℕ) → scan (links_fault ts) 0 n ≡ j → and_then j (λ links. scan (rule_fault ts) 0 n) ≡ rejected number p → (place : ℕ) × (p ≡ plain place)
    go (rejected k q) s f = scan-plain (links_fault ts) 0 n (s ∙ f)
    go (accepted m) s f = scan-plain (rule_fault ts) 0 n f

-- and is a fault of that type
pub fault_there : (ts : Types) (n : ℕ) {number place : ℕ} → judge_types ts n ≡ rejected number (plain place) → (links_fault ts place ≡ some number) ⊎ (rule_fault ts place ≡ some number)
unfolding judge_types
fault_there ts n {number} {place} e = go (scan (links_fault ts) 0 n) refl e
  where
    go : (j : Judged ℕ) → scan (links_fault ts) 0 n ≡ j → and_then j (λ links. scan (rule_fault ts) 0 n) ≡ rejected number (plain place) → (links_fault ts place ≡ some number) ⊎ (rule_fault ts place ≡ some number)
    go (rejected k q) s f = inl (scan_stops (links_fault ts) 0 n (s ∙ f)).here
    go (accepted m) s f = inr (scan_stops (rule_fault ts) 0 n f).here

-- what is made of a refusal by the rules, under its place
by_first : (C : Place → Type 1) (ts : Types) (n : ℕ) {number : ℕ} {p : Place} → judge_types ts n ≡ rejected number p → ((x : ℕ) → FirstFault ts n number x → C (plain x)) → C p
by_first C ts n {number} {p} e f = let (x, is) = rules-plain ts n e in go x is
  where
    go : (x : ℕ) → p ≡ plain x → C p
    go x is = let first : judge_types ts n ≡ rejected number (plain x) = cc in rw is (f x (rejected_first ts n first))

-- The library: the bytes before the rules, and before the bytes the whole size

refused_library : {library : List ℕ} {number : ℕ} {place : Place} → LibraryRefused library number place → judge_library library ≡ rejected number place
unfolding judge_library
refused_library (library_bytes e) = rw e
refused_library (library_rules {gs = gs} section first) = rw (section_read section, first_rejected (types_of (joined gs)) (length (joined gs)) first)

pub library_refused_exactly : (library : List ℕ) (number : ℕ) (place : Place) → (judge_library library ≡ rejected number place) ↔ LibraryRefused library number place
unfolding judge_library
library_refused_exactly library number place = (λ e. read (read_after 0 library) refl e, refused_library)
  where
    rules : (gs : List Group) {end : ℕ} → read_after 0 library ≡ got gs end → (j : Judged ℕ) → judge_types (types_of (joined gs)) (length (joined gs)) ≡ j
        → and_then j (λ n. accepted (joined gs)) ≡ rejected number place → LibraryRefused library number place
    rules gs q (accepted n) j f = absurd (contradiction cc)
    rules gs q (rejected k p) j f =
        let found = section_found 0 (omega arith) library q in
        let said : judge_types (types_of (joined gs)) (length (joined gs)) ≡ rejected number place = cc in
        by_first (LibraryRefused library number) (types_of (joined gs)) (length (joined gs)) said (λ x first. library_rules found.section first)

    read : (r : Read (List Group)) → read_after 0 library ≡ r → judge_read in_library r ≡ rejected number place → LibraryRefused library number place
    read (refused k p) q f = let bytes : read_after 0 library ≡ refused number p = cc in let here : in_library p ≡ place = cc in rw (← here) (library_bytes bytes)
    read (got gs end) q f = rules gs q (judge_types (types_of (joined gs)) (length (joined gs))) refl f

-- Both: the library before the add-on, then the add-on's bytes, then the rules of the joined list

refused_joined : {library addon : List ℕ} {number : ℕ} {place : Place} → Refused library addon number place → judge_joined library addon ≡ rejected number place
unfolding judge_joined
refused_joined (by_library r) = rw (refused_library r)
refused_joined (by_bytes shared e) = rw (allowed_library shared, e)
refused_joined (by_rules {ls = ls} {gs = gs} shared section first) =
    rw (allowed_library shared, section_read section, first_rejected (types_of (ls ++ joined gs)) (length (ls ++ joined gs)) first)

pub refused_exactly : (library addon : List ℕ) (number : ℕ) (place : Place) → (judge_joined library addon ≡ rejected number place) ↔ Refused library addon number place
unfolding judge_joined
refused_exactly library addon number place = (λ e. whole (judge_library library) refl e, refused_joined)
  where
    rules : (ls : List Definition) → LibraryAllowed library ls → (gs : List Group) {end : ℕ} → read_after (length ls) addon ≡ got gs end
        → (j : Judged ℕ) → judge_types (types_of (ls ++ joined gs)) (length (ls ++ joined gs)) ≡ j
        → and_then {B = Joined} j (λ all. accepted (record { before = length ls; types = ls ++ joined gs })) ≡ rejected number place → Refused library addon number place
    rules ls shared gs q (accepted n) j f = absurd (contradiction cc)
    rules ls shared gs q (rejected k p) j f =
        let found = section_found (length ls) (library_small shared) addon q in
        let said : judge_types (types_of (ls ++ joined gs)) (length (ls ++ joined gs)) ≡ rejected number place = cc in
        by_first (Refused library addon number) (types_of (ls ++ joined gs)) (length (ls ++ joined gs)) said (λ x first. by_rules shared found.section first)

    read : (ls : List Definition) → LibraryAllowed library ls → (r : Read (List Group)) → read_after (length ls) addon ≡ r → judge_more ls r ≡ rejected number place → Refused library addon number place
    read ls shared (refused k p) q f = let bytes : read_after (length ls) addon ≡ refused number p = cc in let here : in_addon p ≡ place = cc in rw (← here) (by_bytes shared bytes)
    read ls shared (got gs end) q f = rules ls shared gs q (judge_types (types_of (ls ++ joined gs)) (length (ls ++ joined gs))) refl f

    whole : (j : Judged (List Definition)) → judge_library library ≡ j → and_then j (λ ls. judge_more ls (read_after (length ls) addon)) ≡ rejected number place → Refused library addon number place
    whole (rejected k p) q f =
        let a : k ≡ number = cc in
        let b : p ≡ place = cc in
        let said : judge_library library ≡ rejected number place = rw (a, b) at q in
        by_library ((library_refused_exactly library number place).0 said)
    whole (accepted ls) q f = read ls (library_allowed_lem library ls q) (read_after (length ls) addon) refl f
