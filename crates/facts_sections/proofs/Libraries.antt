-- The laws of specs/Libraries.antt hold. A section's types reach no further than its end (Reaches.antt of facts_types); so the library's
-- types are judged in the joined list as they are alone (Longer.antt there).
use Prim.Native.Nat.{ℕ, ◌<◌, ◌≤◌}
use native.Mathlib.Omega.{arith}
use mathlib.Core.Path.{◌≡◌, refl, sym, ◌∙◌, ap, subst}
use mathlib.Core.Logic.{◌⊎◌, inl, inr}
use mathlib.Core.Bool.{true, false}
use mathlib.Core.Option.{none, some}
use mathlib.Core.List.{List, ◌++◌}
use lib.ListN.{length, length-append, take, get_or-append}
use lib.Seq.{take-append_seam}
use lib.Dec.{ltb}
use borrow.Author.Tests.{ltb-true, ltb-false, lt-ltb}
use Rattle.scope.specs.declared.Place.{Place}
use Rattle.scope.specs.Sizes.{most_bytes, most_types}
use Rattle.scope.specs.Refusals.{oversize}
use Rattle.scope.specs.Reading.{Read, got, refused}
use Rattle.scope.specs.Lists.{joined}
use Rattle.scope.specs.Syntax.{Definition, Group, blank, types_of}
use Rattle.scope.specs.Sections.{read_after}
use Rattle.scope.specs.Judging.{in_library, in_addon, plain, Judged, accepted, rejected, and_then, links_fault, rule_fault, judge_types, judge_library, Joined, judge_more, judge_joined}
use Rattle.scope.proofs.Accepted.{judged-kept}
use Rattle.scope.proofs.Impossible.{contradiction}
use Rattle.scope.proofs.Truths.{none_is_not-some, decided}
use Rattle.facts_types.specs.TypeRelations.{Names}
use Rattle.facts_types.specs.Chains.{ShortChain}
use Rattle.facts_types.specs.AllowedTypes.{AllowedTypes}
use Rattle.facts_types.proofs.Judge.{judged_allowed, allowed_judged}
use Rattle.facts_types.proofs.Named.{reach_says}
use Rattle.facts_types.proofs.Longer.{head_no_fault, head_alone}
use Rattle.facts_types.proofs.Reaches.{read_reach}
use Rattle.facts_sections.specs.Allowed.{Section, LibraryAllowed}
use Rattle.facts_sections.specs.FirstFault.{LibraryRefused, library_bytes, library_rules, Refused, by_library, by_bytes, by_rules}
use Rattle.facts_sections.specs.Libraries.{LibraryLaws}
use Rattle.facts_sections.proofs.SectionReading.{section_read}
use Rattle.facts_sections.proofs.Verdict.{library_allowed_lem, allowed_library, accepted_allowed}
use Rattle.facts_sections.proofs.FaultOrder.{refused_exactly, library_refused_exactly, rules-plain, fault_there}

-- how far a library's types reach

written_reach : {library : List ℕ} (gs : List Group) → Section 0 library gs → (x : ℕ) → x < length (joined gs) → (types_of (joined gs) x).reach ≤ length (joined gs)
written_reach {library} gs section x below = let far = read_reach 0 library gs (section_read section) x below in omega arith

library_reach : {library : List ℕ} {ls : List Definition} → LibraryAllowed library ls → (x : ℕ) → x < length ls → (types_of ls x).reach ≤ length ls
library_reach {ls = ls} a = subst (λ (ds : List Definition). (x : ℕ) → x < length ds → (types_of ds x).reach ≤ length ds) a.types (written_reach a.groups a.section)

-- after the library's yes

library_no_fault : {library : List ℕ} {ls : List Definition} (more : List Definition) → LibraryAllowed library ls → (x : ℕ) → x < length ls
    → (links_fault (types_of (ls ++ more)) x ≡ none) × (rule_fault (types_of (ls ++ more)) x ≡ none)
library_no_fault {ls = ls} more a = head_no_fault ls more (allowed_judged a.rules) (library_reach a)

pub never_there : {library : List ℕ} {ls : List Definition} (more : List Definition) {n x : ℕ} → LibraryAllowed library ls → judge_types (types_of (ls ++ more)) (length (ls ++ more)) ≡ rejected n (plain x) → length ls ≤ x
never_there {ls = ls} more {n} {x} a e = go (decided (ltb x (length ls)))
  where
    faulty : (links_fault (types_of (ls ++ more)) x ≡ some n) ⊎ (rule_fault (types_of (ls ++ more)) x ≡ some n) → x < length ls → ⊥
    faulty (inl f) below = none_is_not-some (sym (library_no_fault more a x below).0 ∙ f)
    faulty (inr f) below = none_is_not-some (sym (library_no_fault more a x below).1 ∙ f)

    go : (ltb x (length ls) ≡ true) ⊎ (ltb x (length ls) ≡ false) → length ls ≤ x
    go (inl below) = absurd (faulty (fault_there (types_of (ls ++ more)) (length (ls ++ more)) e) (ltb-true _ _ below))
    go (inr beyond) = ltb-false _ _ beyond

second_pass : (library addon : List ℕ) (ls : List Definition) (n x : ℕ) → judge_library library ≡ accepted ls → judge_joined library addon ≡ rejected n (plain x) → length ls ≤ x
unfolding judge_joined
second_pass library addon ls n x is e = go (read_after (length ls) addon) (rw is at e)
  where
    rules : (gs : List Group) (v : Judged ℕ) → judge_types (types_of (ls ++ joined gs)) (length (ls ++ joined gs)) ≡ v
        → and_then {B = Joined} v (λ all. accepted (record { before = length ls; types = ls ++ joined gs })) ≡ rejected n (plain x) → length ls ≤ x
    rules gs (accepted m) q f = absurd (contradiction cc)
    rules gs (rejected k p) q f =
        let said : judge_types (types_of (ls ++ joined gs)) (length (ls ++ joined gs)) ≡ rejected n (plain x) = cc in
        never_there (joined gs) (library_allowed_lem library ls is) said

    go : (r : Read (List Group)) → judge_more ls r ≡ rejected n (plain x) → length ls ≤ x
    go (refused k p) f = absurd (contradiction cc)
    go (got gs end) f = rules gs (judge_types (types_of (ls ++ joined gs)) (length (ls ++ joined gs))) refl f

-- the library first

library_first : (library addon : List ℕ) (n : ℕ) (p : Place) → judge_library library ≡ rejected n p → judge_joined library addon ≡ rejected n p
unfolding judge_joined
library_first library addon n p e = rw e

-- the whole size of each before its bytes

library_size_lem : (library addon : List ℕ) → most_bytes < length library → judge_joined library addon ≡ rejected oversize (in_library 0)
unfolding judge_joined judge_library read_after
library_size_lem library addon large = rw (lt-ltb most_bytes (length library) large)

addon_size_lem : (library addon : List ℕ) (ls : List Definition) → judge_library library ≡ accepted ls → most_bytes < length addon → judge_joined library addon ≡ rejected oversize (in_addon 0)
unfolding judge_joined read_after
addon_size_lem library addon ls e large = rw (e, lt-ltb most_bytes (length addon) large)

-- in which input a place lies

after-yes : {library addon : List ℕ} {n : ℕ} {q : Place} → Refused library addon n q → (judge_library library ≡ rejected n q) ⊎ ((ls : List Definition) × (judge_library library ≡ accepted ls))
after-yes {library} {n = n} {q} (by_library r) = inl ((library_refused_exactly library n q).1 r)
after-yes (by_bytes {ls = ls} shared e) = inr (ls, allowed_library shared)
after-yes (by_rules {ls = ls} shared section first) = inr (ls, allowed_library shared)

library_own : (library addon : List ℕ) (n p : ℕ) → judge_joined library addon ≡ rejected n (in_library p) → judge_library library ≡ rejected n (in_library p)
unfolding judge_joined
library_own library addon n p e = go (judge_library library) refl e
  where
    more : (ls : List Definition) (r : Read (List Group)) → judge_more ls r ≡ rejected n (in_library p) → ⊥
    more ls (refused k q) f = contradiction cc
    more ls (got gs end) f = never (judge_types (types_of (ls ++ joined gs)) (length (ls ++ joined gs))) refl f
      where
        never : (v : Judged ℕ) → judge_types (types_of (ls ++ joined gs)) (length (ls ++ joined gs)) ≡ v
            → and_then {B = Joined} v (λ all. accepted (record { before = length ls; types = ls ++ joined gs })) ≡ rejected n (in_library p) → ⊥
        never (accepted m) q g = contradiction cc
        never (rejected k place) q g =
            let (x, is) = rules-plain (types_of (ls ++ joined gs)) (length (ls ++ joined gs)) q in
            let same : place ≡ in_library p = cc in
            contradiction cc

    go : (v : Judged (List Definition)) → judge_library library ≡ v → and_then v (λ ls. judge_more ls (read_after (length ls) addon)) ≡ rejected n (in_library p) → judge_library library ≡ rejected n (in_library p)
    go (rejected k q) is f = let a : k ≡ n = cc in let b : q ≡ in_library p = cc in rw (a, b) at is
    go (accepted ls) is f = absurd (more ls (read_after (length ls) addon) f)

addon_after : (library addon : List ℕ) (n p : ℕ) → judge_joined library addon ≡ rejected n (in_addon p) → (ls : List Definition) × (judge_library library ≡ accepted ls)
addon_after library addon n p e = go (after-yes ((refused_exactly library addon n (in_addon p)).0 e))
  where
    no_library : {q : Place} → LibraryRefused library n q → q ≡ in_addon p → ⊥
    no_library (library_bytes f) same = contradiction cc
    no_library (library_rules section first) same = contradiction cc

    go : (judge_library library ≡ rejected n (in_addon p)) ⊎ ((ls : List Definition) × (judge_library library ≡ accepted ls)) → (ls : List Definition) × (judge_library library ≡ accepted ls)
    go (inl f) = absurd (no_library ((library_refused_exactly library n (in_addon p)).0 f) refl)
    go (inr a) = a

-- an accepted pair

library_head : (library addon : List ℕ) (j : Joined) → judge_joined library addon ≡ accepted j → judge_library library ≡ accepted (take j.before j.types)
library_head library addon j e =
    let a = accepted_allowed library addon j e in
    let own : take j.before j.types ≡ a.shared = ap (λ (k : Joined). take k.before k.types) (sym a.joins) ∙ take-append_seam a.shared (joined a.groups) in
    rw own (allowed_library a.library_allowed)

names_own : {library : List ℕ} {ls : List Definition} (more : List Definition) → LibraryAllowed library ls → (x y : ℕ) → x < length ls → Names (types_of (ls ++ more) x) y → y < length ls
names_own {ls = ls} more a x y below named =
    let own : types_of (ls ++ more) x ≡ types_of ls x = get_or-append ls more blank x below in
    let kept = judged-kept ls (allowed_judged a.rules) in
    let far = (reach_says (types_of ls) x (kept.links x).reach).reached (subst (λ (d : Definition). Names d y) own named) in
    let end = library_reach a x below in
    omega arith

never_mentions : (library addon : List ℕ) (j : Joined) (x y : ℕ) → judge_joined library addon ≡ accepted j → x < j.before → Names (types_of j.types x) y → y < j.before
never_mentions library addon j x y e below named =
    let a = accepted_allowed library addon j e in
    let before : j.before ≡ length a.shared = ap (λ (k : Joined). k.before) (sym a.joins) in
    let types : j.types ≡ a.shared ++ joined a.groups = ap (λ (k : Joined). k.types) (sym a.joins) in
    let inside = names_own (joined a.groups) a.library_allowed x y (omega arith) (subst (λ (ds : List Definition). Names (types_of ds x) y) types named) in
    omega arith

never_more : (library addon : List ℕ) (j : Joined) → judge_joined library addon ≡ accepted j → length j.types ≤ most_types
never_more library addon j e =
    let a = accepted_allowed library addon j e in
    let types : j.types ≡ a.shared ++ joined a.groups = ap (λ (k : Joined). k.types) (sym a.joins) in
    let both = length-append a.shared (joined a.groups) in
    let sizes = a.section.sizes.types in
    rw types (omega arith)

never_longer : (library addon : List ℕ) (j : Joined) (x : ℕ) → judge_joined library addon ≡ accepted j → x < length j.types → ShortChain (types_of j.types) x
never_longer library addon j x e inside = (accepted_allowed library addon j e).rules.chains.each x inside

library_alone : (library : List ℕ) (gs : List Group) (more : List Definition) → Section 0 library gs → AllowedTypes (joined gs ++ more) → AllowedTypes (joined gs)
library_alone library gs more section allowed = judged_allowed (joined gs) (head_alone (joined gs) more (allowed_judged allowed) (written_reach gs section))

pub library_laws : LibraryLaws
library_laws =
    record {
      first = library_first;
      library_size = library_size_lem;
      addon_size = addon_size_lem;
      own = library_own;
      after = addon_after;
      second = second_pass;
      head = library_head;
      together = never_more;
      chains = never_longer;
      unmentioned = never_mentions;
      alone = library_alone;
    }
