-- The verdict on a library and an add-on's section, both ways. Yes to allowed: what was read of each is a writing within the sizes,
-- the library's types were judged with yes, and so were those of the joined list. Allowed to yes: the writings are read back, and the
-- types are judged with yes.
use Prim.Native.Nat.{ℕ, ◌≤◌}
use native.Mathlib.Omega.{arith}
use mathlib.Core.Path.{◌≡◌, refl, subst}
use mathlib.Core.List.{List, ◌++◌}
use lib.ListN.{length}
use Rattle.scope.specs.Sizes.{most_types}
use Rattle.scope.specs.Lists.{joined}
use Rattle.scope.specs.Reading.{Read, got, refused}
use Rattle.scope.specs.Syntax.{Definition, Group, types_of}
use Rattle.scope.specs.Sections.{read_after}
use Rattle.scope.specs.Judging.{in_library, Judged, accepted, rejected, and_then, judge_types, judge_read, judge_library, Joined, judge_more, judge_joined}
use Rattle.scope.proofs.Impossible.{impossible}
use Rattle.facts_types.specs.AllowedTypes.{AllowedTypes}
use Rattle.facts_sections.specs.Allowed.{LibraryAllowed, Allowed}
use Rattle.facts_types.proofs.Judge.{judged_allowed, allowed_judged}
use Rattle.facts_sections.proofs.SectionReading.{section_found, section_read}

-- the library

pub library_allowed_lem : (library : List ℕ) (ls : List Definition) → judge_library library ≡ accepted ls → LibraryAllowed library ls
unfolding judge_library
library_allowed_lem library ls e = go (read_after 0 library) refl e
  where
    types_of_lem : (gs : List Group) {end : ℕ} → read_after 0 library ≡ got gs end → (j : Judged ℕ) → judge_types (types_of (joined gs)) (length (joined gs)) ≡ j → and_then j (λ n. accepted (joined gs)) ≡ accepted ls → LibraryAllowed library ls
    types_of_lem gs read (rejected n p) q f = impossible cc
    types_of_lem gs read (accepted n) q f =
        let found = section_found 0 (omega arith) library read in
        let same : joined gs ≡ ls = cc in
        record { groups = gs; section = found.section; types = same; rules = subst AllowedTypes same (judged_allowed (joined gs) q) }

    go : (r : Read (List Group)) → read_after 0 library ≡ r → judge_read in_library r ≡ accepted ls → LibraryAllowed library ls
    go (refused n p) read f = impossible cc
    go (got gs end) read f = types_of_lem gs read (judge_types (types_of (joined gs)) (length (joined gs))) refl f

pub allowed_library : {library : List ℕ} {ls : List Definition} → LibraryAllowed library ls → judge_library library ≡ accepted ls
unfolding judge_library
allowed_library a =
    let rules : AllowedTypes (joined a.groups) = rw a.types a.rules in
    rw (section_read a.section, allowed_judged rules, a.types)

-- a library leaves room for as many types as are left
pub library_small : {library : List ℕ} {ls : List Definition} → LibraryAllowed library ls → length ls ≤ most_types
library_small a = let sizes = a.section.sizes.types in rw (← a.types) (omega arith)

-- both

pub accepted_allowed : (library addon : List ℕ) (j : Joined) → judge_joined library addon ≡ accepted j → Allowed library addon j
unfolding judge_joined
accepted_allowed library addon j e = go (judge_library library) refl e
  where
    types_of_lem : (ls : List Definition) → LibraryAllowed library ls → (gs : List Group) {end : ℕ} → read_after (length ls) addon ≡ got gs end
        → (v : Judged ℕ) → judge_types (types_of (ls ++ joined gs)) (length (ls ++ joined gs)) ≡ v
        → and_then v (λ all. accepted (record { before = length ls; types = ls ++ joined gs })) ≡ accepted j → Allowed library addon j
    types_of_lem ls shared gs read (rejected n p) q f = impossible cc
    types_of_lem ls shared gs read (accepted n) q f =
        let found = section_found (length ls) (library_small shared) addon read in
        let same : record { before = length ls; types = ls ++ joined gs } ≡ j = cc in
        record {
          shared = ls;
          library_allowed = shared;
          groups = gs;
          section = found.section;
          joins = same;
          rules = subst (λ (k : Joined). AllowedTypes k.types) same (judged_allowed (ls ++ joined gs) q);
        }

    more : (ls : List Definition) → LibraryAllowed library ls → (r : Read (List Group)) → read_after (length ls) addon ≡ r → judge_more ls r ≡ accepted j → Allowed library addon j
    more ls shared (refused n p) read f = impossible cc
    more ls shared (got gs end) read f = types_of_lem ls shared gs read (judge_types (types_of (ls ++ joined gs)) (length (ls ++ joined gs))) refl f

    go : (v : Judged (List Definition)) → judge_library library ≡ v → and_then v (λ ls. judge_more ls (read_after (length ls) addon)) ≡ accepted j → Allowed library addon j
    go (rejected n p) q f = impossible cc
    go (accepted ls) q f = more ls (library_allowed_lem library ls q) (read_after (length ls) addon) refl f

pub allowed_accepted : {library addon : List ℕ} {j : Joined} → Allowed library addon j → judge_joined library addon ≡ accepted j
unfolding judge_joined
allowed_accepted a =
    let rules : AllowedTypes (a.shared ++ joined a.groups) = rw (← a.joins) at a.rules in
    rw (allowed_library a.library_allowed, section_read a.section, allowed_judged rules, a.joins)
