-- The laws of specs/Sections.antt hold. A section's reader gives its groups exactly where these are written within the sizes
-- (facts_sections), so it refuses exactly where none are; what it refuses is a byte fault (proofs/Reading.antt); and the
-- rules' first fault has the number that its rule bears.
use Prim.Native.Nat.{ℕ, ◌≤◌, ◌<◌}
use mathlib.Core.Path.{◌≡◌, refl, sym, ◌∙◌}
use mathlib.Core.List.{List, [], ◌∷◌, ◌++◌}
use lib.ListN.{length}
use Rattle.scope.specs.Refusals.{bytes_end, clause_not_on_struct}
use Rattle.scope.specs.Lists.{joined}
use Rattle.scope.specs.Reading.{Read, got, refused}
use Rattle.scope.specs.Syntax.{Group, Types, types_of}
use Rattle.scope.specs.declared.Place.{Place}
use Rattle.scope.specs.Sizes.{most_types}
use Rattle.scope.specs.Sections.{read_after, empty_library}
use Rattle.scope.specs.Judging.{plain, rejected, judge_joined}
use Rattle.scope.proofs.Impossible.{contradiction}
use Rattle.scope.proofs.Computes.{computes}
use Rattle.facts_sections.specs.FirstFault.{FirstBroken, broken, kept_then, link_rules, type_rules, FirstFault, in_links, in_rules, LibraryRefused, library_bytes, library_rules, Refused, by_library, by_bytes, by_rules}
use Rattle.facts_sections.proofs.SectionReading.{section_found, section_read}
use Rattle.facts_sections.proofs.FaultOrder.{first_fault_said, refused_exactly}
use Rattle.facts_sections.proofs.Libraries.{never_there}
use Rattle.facts_refusals.specs.Numbers.{ByteFault, RuleFault, is_out_of_reach, is_bad_supertype, is_long_chain, is_no_match, is_clause_not_on_struct, is_describes_not_earlier, is_clauses_disagree, is_bad_descriptor, is_bad_describes}
use Rattle.facts_refusals.specs.Sections.{Unwritten, BytesRefused, SaysNo, of_library_bytes, of_library_rules, of_bytes, of_rules, SectionRefusals}
use Rattle.facts_refusals.proofs.Reading.{Heeds, refuses, goes_on_lem, section_heeds}

got_is_not_refused : {A : Type 0} {x : A} {next n p : ℕ} → got x next ≡ refused n p → ⊥
got_is_not_refused e = contradiction cc

refused_unwritten : (first : ℕ) (s : List ℕ) → BytesRefused first s → Unwritten first s
refused_unwritten first s (number, place, e) gs section = got_is_not_refused (sym (section_read section) ∙ e)

unwritten_refused : (first : ℕ) → first ≤ most_types → (s : List ℕ) → Unwritten first s → BytesRefused first s
unwritten_refused first below s no_list = go (read_after first s) refl
  where
    go : (r : Read (List Group)) → read_after first s ≡ r → BytesRefused first s
    go (refused n p) e = (n, p, e)
    go (got gs end) e = absurd (no_list gs (section_found first below s e).section)

pub heeded : {A : Type 0} {hi n p : ℕ} {r : Read A} → Heeds hi r → r ≡ refused n p → ByteFault n × (p ≤ hi)
heeded {n = n} {p} (refuses {n = k} {p = q} fault inside) e =
    let same : k ≡ n = cc in
    let there : q ≡ p = cc in
    (rw (← same) fault, rw (← there) inside)
heeded (goes_on_lem inside) e = absurd (got_is_not_refused e)

pub byte_faults_lem : (first : ℕ) (s : List ℕ) (number place : ℕ) → read_after first s ≡ refused number place → ByteFault number × (place ≤ length s)
byte_faults_lem first s number place e = heeded (section_heeds first s) e

link_number : (ts : Types) (x : ℕ) {n : ℕ} → FirstBroken (link_rules ts x) n → RuleFault n
link_number ts x (broken no-reach) = is_out_of_reach
link_number ts x (kept_then reach (broken no_super)) = is_bad_supertype
link_number ts x (kept_then reach (kept_then super (broken no-chain))) = is_long_chain
link_number ts x {n = n} (kept_then reach (kept_then super (kept_then _ x17))) = elim x17 [ ]

is_type_number : (ts : Types) (x : ℕ) {n : ℕ} → FirstBroken (type_rules ts x) n → RuleFault n
is_type_number ts x (broken a) = is_no_match
is_type_number ts x (kept_then p (broken a)) = is_clause_not_on_struct
is_type_number ts x (kept_then p (kept_then q (broken a))) = is_describes_not_earlier
is_type_number ts x (kept_then p (kept_then q (kept_then r (broken a)))) = is_clauses_disagree
is_type_number ts x (kept_then p (kept_then q (kept_then r (kept_then t (broken a))))) = is_bad_descriptor
is_type_number ts x (kept_then p (kept_then q (kept_then r (kept_then t (kept_then u (broken a)))))) = is_bad_describes
is_type_number ts x {n = n} (kept_then p (kept_then q (kept_then r (kept_then t (kept_then u (kept_then _ x29)))))) = elim x29 [ ]

fault_number : {ts : Types} {n number place : ℕ} → FirstFault ts n number place → RuleFault number × (place < n)
fault_number {ts = ts} {place = place} (in_links first) = (link_number ts place first.here, first.inside)
fault_number {ts = ts} {place = place} (in_rules links first) = (is_type_number ts place first.here, first.inside)

why_library : {library addon : List ℕ} {number : ℕ} {place : Place} → LibraryRefused library number place → SaysNo library addon number place
why_library {library} {number = number} (library_bytes {p = p} f) =
    let (fault, inside) = byte_faults_lem 0 library number p f in of_library_bytes (refused_unwritten 0 library (number, p, f)) fault inside
why_library (library_rules section first) = let (fault, inside) = fault_number first in of_library_rules section first fault inside

why_no : {library addon : List ℕ} {number : ℕ} {place : Place} → Refused library addon number place → SaysNo library addon number place
why_no (by_library r) = why_library r
why_no {addon = addon} {number = number} (by_bytes {ls = ls} {p = p} shared f) =
    let (fault, inside) = byte_faults_lem (length ls) addon number p f in of_bytes shared (refused_unwritten (length ls) addon (number, p, f)) fault inside
why_no {number = number} (by_rules {ls = ls} {gs = gs} {x = x} shared section first) =
    let (fault, inside) = fault_number first in
    let own = never_there (joined gs) shared ((first_fault_said (types_of (ls ++ joined gs)) (length (ls ++ joined gs)) number x).1 first) in
    of_rules shared section first fault own inside

pub says_no_lem : (library addon : List ℕ) (number : ℕ) (place : Place) → judge_joined library addon ≡ rejected number place → SaysNo library addon number place
says_no_lem library addon number place e = why_no ((refused_exactly library addon number place).0 e)

pub section_refusals_lem : SectionRefusals
section_refusals_lem = record { unwritten = λ first below s. (refused_unwritten first s, unwritten_refused first below s); byte_faults = byte_faults_lem; says_no = says_no_lem }

-- Examples: no bytes write nothing; a clause on a function is refused by the rules, at type 0

pub nothing_written : Unwritten 0 []
unfolding computes
nothing_written = refused_unwritten 0 [] (bytes_end, 0, refl)

pub clause_on-function : SaysNo empty_library (0x01 ∷ 0x4C ∷ 0x00 ∷ 0x60 ∷ 0x00 ∷ 0x00 ∷ []) clause_not_on_struct (plain 0)
unfolding computes
clause_on-function = says_no_lem empty_library _ clause_not_on_struct (plain 0) refl
