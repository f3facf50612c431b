-- Sections of as many types as a limit allows, and of one more: structs without fields, 5F 00 each. They are read struct by struct and keep
-- every rule, so nothing of 1,024 types is computed: a library of 1,024 is accepted, and one of 1,025 is refused with 4 at the last; so
-- are 800 and 224 together, and 800 and 225; a section of 257 was refused with 4 and is accepted now.
use Prim.Native.Nat.{ℕ, zero, suc, ◌+◌, ◌*◌, ◌<◌, ◌≤◌}
use native.Mathlib.Omega.{arith}
use mathlib.Core.Path.{◌≡◌, refl, sym, ◌∙◌, ap}
use mathlib.Core.Bool.{false}
use mathlib.Core.Option.{none, some}
use mathlib.Core.List.{List, [], ◌∷◌, ◌++◌}
use lib.ListN.{length, get_elem?}
use lib.Dec.{eqb, ltb}
use borrow.Author.Tests.{eq-eqb, lt-ltb, le-ltb}
use Rattle.scope.specs.Sizes.{most_bytes, most_types}
use Rattle.scope.specs.Refusals.{oversize}
use Rattle.scope.specs.Reading.{got, refused, entries}
use Rattle.scope.specs.Numbers.{u32}
use Rattle.scope.specs.Lists.{joined}
use Rattle.scope.specs.Syntax.{struct, Definition, Group, Types, types_of}
use Rattle.scope.specs.Sections.{few_at, head_at, clause_at, describes_code, descriptor_code, form_at, definition_at, read_after, empty_library}
use Rattle.scope.specs.TypeRules.{names, in_reach, super_earlier_and_open, short_chain, matches_super, clauses_on_struct, describes_earlier, clauses_agree, descriptor_follows, describes_follows}
use Rattle.scope.specs.Judging.{in_library, in_addon, Judged, accepted, rejected, and_then, links_fault, rule_fault, judge_types, judge_library, Joined, judge_more, judge_joined}
use Rattle.scope.proofs.Computes.{computes}
use Rattle.scope.proofs.Accepted.{joined_more}
use Rattle.facts_types.proofs.Judge.{faultless_judged}
use Rattle.facts_sections.specs.Allowed.{Section}
use Rattle.facts_sections.specs.Between.{Between, nothing, byte}
use Rattle.facts_sections.specs.Limits.{group_under, groups_under, read_under}
use Rattle.facts_sections.specs.EmptyLibrary.{judge_alone, own_types, SameAnswers, SameTable, most_before, TooManyBefore}
use Rattle.facts_sections.proofs.Between.{whole}
use Rattle.facts_sections.proofs.SectionReading.{section_found}
use Rattle.facts_sections.proofs.Limits.{limits}
use Rattle.facts_sections.proofs.EmptyLibrary.{empty_library_lem}

-- n of them, and what they are read as after `first` types

unfoldable pub struct_bytes : ℕ → List ℕ
struct_bytes zero = []
struct_bytes (suc n) = 0x5F ∷ 0x00 ∷ struct_bytes n

abbrev plain_struct : ℕ → ℕ → Definition
plain_struct reach at = record { is_open = false; supers = []; describes = none; descriptor = none; form = struct []; from = at; to = at + 1 + 1; reach = reach }

unfoldable pub struct_groups : ℕ → ℕ → ℕ → List Group
struct_groups zero first at = []
struct_groups (suc n) first at = (plain_struct (first + 1) at ∷ []) ∷ struct_groups n (first + 1) (at + 1 + 1)

bytes_long : (n : ℕ) → length (struct_bytes n) ≡ 2 * n
unfolding struct_bytes
bytes_long zero = refl
bytes_long (suc n) = let more = bytes_long n in omega arith

groups_many : (n first at : ℕ) → length (joined (struct_groups n first at)) ≡ n
unfolding struct_groups
groups_many zero first at = refl
groups_many (suc n) first at = rw (groups_many n (first + 1) (at + 1 + 1))

structs-and-one : (n : ℕ) → struct_bytes n ++ (0x5F ∷ 0x00 ∷ []) ≡ struct_bytes (suc n)
unfolding struct_bytes
structs-and-one zero = refl
structs-and-one (suc n) = rw (structs-and-one n)

-- reading

module _ (s : List ℕ) (at : ℕ) where
  no_head : get_elem? s at ≡ some 0x5F → head_at s at ≡ got (record { is_open = false; supers = [] }) at
  unfolding head_at
  no_head a = rw a

  no_clause : (code : ℕ) → get_elem? s at ≡ some 0x5F → eqb 0x5F code ≡ false → clause_at code s at ≡ got none at
  unfolding clause_at
  no_clause code a other = rw (a, other)

  no_count : get_elem? s at ≡ some 0x00 → u32 s at ≡ got 0 (at + 1)
  unfolding computes
  no_count b = rw b

  no_fields : get_elem? s at ≡ some 0x5F → u32 s (at + 1) ≡ got 0 (at + 1 + 1) → form_at s at ≡ got (struct []) (at + 1 + 1)
  unfolding form_at few_at entries
  no_fields a count = rw (a, count)

struct_read : (reach : ℕ) (s : List ℕ) (at : ℕ) → get_elem? s at ≡ some 0x5F → get_elem? s (at + 1) ≡ some 0x00 → definition_at reach s at ≡ got (plain_struct reach at) (at + 1 + 1)
unfolding definition_at
struct_read reach s at a b = rw (no_head s at a, no_clause s at describes_code a refl, no_clause s at descriptor_code a refl, no_fields s at a (no_count s (at + 1) b))

module _ (most : ℕ) (s : List ℕ) where
  group_read : (first at : ℕ) → get_elem? s at ≡ some 0x5F → get_elem? s (at + 1) ≡ some 0x00 → first < most → group_under most first s at ≡ got (plain_struct (first + 1) at ∷ []) (at + 1 + 1)
  unfolding group_under
  group_read first at a b room = rw (a, lt-ltb first most room, struct_read (first + 1) s at a b)

  structs_read : (n first at : ℕ) {next : ℕ} → Between s at (struct_bytes n) next → first + n ≤ most → groups_under most n first s at ≡ got (struct_groups n first at) next
  unfolding groups_under struct_bytes struct_groups
  structs_read zero first at nothing room = refl
  structs_read (suc n) first at (byte a (byte b more)) room = rw (group_read first at a b (omega arith), structs_read n (first + 1) (at + 1 + 1) more (omega arith))

  -- and the one after the last that there is room for
  struct_refused : (n k first at : ℕ) {next : ℕ} (w : List ℕ) → Between s at (struct_bytes n ++ (0x5F ∷ w)) next → first + n ≡ most → groups_under most (n + suc k) first s at ≡ refused oversize (at + 2 * n)
  unfolding groups_under group_under struct_bytes
  struct_refused zero k first at w (byte a more) full =
      let q : 0 + suc k ≡ suc k = omega arith in
      let here : at + 2 * 0 ≡ at = omega arith in
      let none_left_lem : most ≤ first = omega arith in
      rw (q, a, le-ltb first most none_left_lem, here)
  struct_refused (suc n) k first at w (byte a (byte b more)) full =
      let q : suc n + suc k ≡ suc (n + suc k) = omega arith in
      let there : at + 1 + 1 + 2 * n ≡ at + 2 * suc n = omega arith in
      rw (q, group_read first at a b (omega arith), struct_refused n k (first + 1) (at + 1 + 1) w more (omega arith), there)

-- a whole section: a count of two bytes, then the structs

abbrev pub counted : ℕ → ℕ → ℕ → List ℕ
counted a b n = a ∷ b ∷ struct_bytes n

module _ (n a b : ℕ) (small : 2 + 2 * n ≤ most_bytes) where
  within-bytes : ltb most_bytes (length (counted a b n)) ≡ false
  within-bytes = let long = bytes_long n in le-ltb most_bytes (length (counted a b n)) (omega arith)

  many_read : (most first : ℕ) → first + n ≤ most → u32 (counted a b n) 0 ≡ got n 2 → read_under most first (counted a b n) ≡ got (struct_groups n first 2) (length (counted a b n))
  unfolding read_under
  many_read most first few count = go (whole (counted a b n))
    where
      go : Between (counted a b n) 0 (counted a b n) (length (counted a b n)) → read_under most first (counted a b n) ≡ got (struct_groups n first 2) (length (counted a b n))
      go (byte x (byte y more)) = rw (within-bytes, count, structs_read most (counted a b n) n first 2 more few, eq-eqb (length (counted a b n)) (length (counted a b n)) refl)

-- one more than the limit
one_more_refused : (most first n a b : ℕ) → first + n ≡ most → 2 + 2 * suc n ≤ most_bytes → u32 (counted a b (suc n)) 0 ≡ got (suc n) 2 → read_under most first (counted a b (suc n)) ≡ refused oversize (2 + 2 * n)
unfolding read_under
one_more_refused most first n a b full small count = go (whole (counted a b (suc n)))
  where
    go : Between (counted a b (suc n)) 0 (counted a b (suc n)) (length (counted a b (suc n))) → read_under most first (counted a b (suc n)) ≡ refused oversize (2 + 2 * n)
    go (byte x (byte y more)) =
        let last : Between (counted a b (suc n)) 2 (struct_bytes n ++ (0x5F ∷ 0x00 ∷ [])) (length (counted a b (suc n))) = rw (structs-and-one n) more in
        let one : suc n ≡ n + suc 0 = omega arith in
        let refusal : groups_under most (suc n) first (counted a b (suc n)) 2 ≡ refused oversize (2 + 2 * n) =
        ap (λ (k : ℕ). groups_under most k first (counted a b (suc n)) 2) one ∙ struct_refused most (counted a b (suc n)) n 0 first 2 (0x00 ∷ []) last full in
        rw (within-bytes (suc n) a b small, count, refusal)

-- the rules

data IsPlain : Definition → Type 0 where
  is_plain : {from to reach : ℕ} → IsPlain (record { is_open = false; supers = []; describes = none; descriptor = none; form = struct []; from = from; to = to; reach = reach })

type-plain : (n first at x : ℕ) → IsPlain (types_of (joined (struct_groups n first at)) x)
unfolding struct_groups
type-plain zero first at x = is_plain
type-plain (suc n) first at zero = is_plain
type-plain (suc n) first at (suc x) = type-plain n (first + 1) (at + 1 + 1) x

plain-no_fault : (ts : Types) (x : ℕ) {d : Definition} → ts x ≡ d → IsPlain d → (links_fault ts x ≡ none) × (rule_fault ts x ≡ none)
unfolding links_fault rule_fault names in_reach super_earlier_and_open short_chain matches_super clauses_on_struct describes_earlier clauses_agree descriptor_follows describes_follows
plain-no_fault ts x e is_plain = rw e (refl, refl)

record AllPlain (ds : List Definition) : Type 0 where
  each : (x : ℕ) → IsPlain (types_of ds x)

structs-plain : (n first at : ℕ) → AllPlain (joined (struct_groups n first at))
structs-plain n first at = record { each = type-plain n first at }

both-plain : (ds es : List Definition) → AllPlain ds → AllPlain es → AllPlain (ds ++ es)
both-plain ds es h k = record { each = λ x. go ds x h.each }
  where
    go : (ds : List Definition) (x : ℕ) → ((y : ℕ) → IsPlain (types_of ds y)) → IsPlain (types_of (ds ++ es) x)
    go [] x first = k.each x
    go (d ∷ ds) zero first = first 0
    go (d ∷ ds) (suc x) first = go ds x (λ y. first (suc y))

plain-judged : (ds : List Definition) → AllPlain ds → judge_types (types_of ds) (length ds) ≡ accepted (length ds)
plain-judged ds h = faultless_judged (types_of ds) (length ds) (λ x below. plain-no_fault (types_of ds) x refl (h.each x))

-- a library of 1,024 types, and one of 1,025

abbrev pub full_library : List ℕ
full_library = counted 0x80 0x08 most_types

abbrev pub full_types : List Definition
full_types = joined (struct_groups most_types 0 2)

full_count : u32 full_library 0 ≡ got most_types 2
unfolding computes
full_count = refl

full_read : read_after 0 full_library ≡ got (struct_groups most_types 0 2) (length full_library)
full_read = sym (limits.now 0 full_library) ∙ many_read most_types 0x80 0x08 (omega arith) most_types 0 (omega arith) full_count

pub full_accepted : judge_library full_library ≡ accepted full_types
unfolding judge_library
full_accepted = rw (full_read, plain-judged full_types (structs-plain most_types 0 2))

pub full_many : length full_types ≡ most_types
full_many = groups_many most_types 0 2

over_count : u32 (counted 0x81 0x08 1_025) 0 ≡ got 1_025 2
unfolding computes
over_count = refl

over_read : read_after 0 (counted 0x81 0x08 1_025) ≡ refused oversize 2_050
over_read = sym (limits.now 0 (counted 0x81 0x08 1_025)) ∙ one_more_refused most_types 0 most_types 0x81 0x08 (omega arith) (omega arith) over_count

pub over_refused : judge_library (counted 0x81 0x08 1_025) ≡ rejected oversize (in_library 2_050)
unfolding judge_library
over_refused = rw over_read

-- a library of 800 types leaves room for 224: an add-on of 224 is accepted, one of 225 is refused with 4 at its last

count_800 : u32 (counted 0xA0 0x06 800) 0 ≡ got 800 2
unfolding computes
count_800 = refl

abbrev types800 : List Definition
types800 = joined (struct_groups 800 0 2)

read_800 : read_after 0 (counted 0xA0 0x06 800) ≡ got (struct_groups 800 0 2) (length (counted 0xA0 0x06 800))
read_800 = sym (limits.now 0 (counted 0xA0 0x06 800)) ∙ many_read 800 0xA0 0x06 (omega arith) most_types 0 (omega arith) count_800

judged_800 : judge_types (types_of types800) (length types800) ≡ accepted (length types800)
judged_800 = plain-judged types800 (structs-plain 800 0 2)

-- the add-on is read after 800 types
after_800 : (addon : List ℕ) → judge_joined (counted 0xA0 0x06 800) addon ≡ judge_more types800 (read_under most_types 800 addon)
after_800 addon =
    joined_more (counted 0xA0 0x06 800) addon (struct_groups 800 0 2) read_800 judged_800
    ∙ ap (λ (n : ℕ). judge_more types800 (read_after n addon)) (groups_many 800 0 2) ∙ ap (judge_more types800) (sym (limits.now 800 addon))

count_224 : u32 (counted 0xE0 0x01 224) 0 ≡ got 224 2
unfolding computes
count_224 = refl

abbrev both1024 : List Definition
both1024 = types800 ++ joined (struct_groups 224 800 2)

pub accepted_800_224 : judge_joined (counted 0xA0 0x06 800) (counted 0xE0 0x01 224) ≡ accepted (record { before = length types800; types = both1024 })
accepted_800_224 =
    after_800 (counted 0xE0 0x01 224) ∙ ap (judge_more types800) (many_read 224 0xE0 0x01 (omega arith) most_types 800 (omega arith) count_224)
    ∙ ap (λ (v : Judged ℕ). and_then {B = Joined} v (λ all. accepted (record { before = length types800; types = both1024 }))) (plain-judged both1024 (both-plain types800 (joined (struct_groups 224 800 2)) (structs-plain 800 0 2) (structs-plain 224 800 2)))

count_225 : u32 (counted 0xE1 0x01 225) 0 ≡ got 225 2
unfolding computes
count_225 = refl

pub refused_800_225 : judge_joined (counted 0xA0 0x06 800) (counted 0xE1 0x01 225) ≡ rejected oversize (in_addon 450)
refused_800_225 = after_800 (counted 0xE1 0x01 225) ∙ ap (judge_more types800) (one_more_refused most_types 800 224 0xE1 0x01 (omega arith) (omega arith) count_225)

structs-section : (n a b : ℕ) → 2 + 2 * n ≤ most_bytes → n ≤ most_types → u32 (counted a b n) 0 ≡ got n 2 → Section 0 (counted a b n) (struct_groups n 0 2)
structs-section n a b small few count =
    let read : read_after 0 (counted a b n) ≡ got (struct_groups n 0 2) (length (counted a b n)) = sym (limits.now 0 (counted a b n)) ∙ many_read n a b small most_types 0 (omega arith) count in
    (section_found 0 (omega arith) (counted a b n) read).section

-- an add-on's section of 256 types has the answers of before; one of 257 was refused with 4 at the last, and is accepted

count_256 : u32 (counted 0x80 0x02 256) 0 ≡ got 256 2
unfolding computes
count_256 = refl

pub answers_256 : SameAnswers most_before (counted 0x80 0x02 256)
answers_256 = let many = groups_many 256 0 2 in empty_library_lem.few (counted 0x80 0x02 256) (struct_groups 256 0 2) (structs-section 256 0x80 0x02 (omega arith) (omega arith) count_256) (omega arith)

count_257 : u32 (counted 0x81 0x02 257) 0 ≡ got 257 2
unfolding computes
count_257 = refl

pub too_many_257 : TooManyBefore (counted 0x81 0x02 257)
too_many_257 = let many = groups_many 257 0 2 in empty_library_lem.many (counted 0x81 0x02 257) (struct_groups 257 0 2) (structs-section 257 0x81 0x02 (omega arith) (omega arith) count_257) (omega arith)

pub refused_257_before : judge_alone most_before (counted 0x81 0x02 257) ≡ rejected oversize (in_addon 514)
unfolding judge_alone
refused_257_before = rw (one_more_refused most_before 0 most_before 0x81 0x02 (omega arith) (omega arith) count_257)

accepted_257 : judge_alone most_types (counted 0x81 0x02 257) ≡ accepted (joined (struct_groups 257 0 2))
unfolding judge_alone
accepted_257 = rw (many_read 257 0x81 0x02 (omega arith) most_types 0 (omega arith) count_257, plain-judged (joined (struct_groups 257 0 2)) (structs-plain 257 0 2))

pub accepted_257_now : judge_joined empty_library (counted 0x81 0x02 257) ≡ accepted (own_types (joined (struct_groups 257 0 2)))
accepted_257_now = rw ((empty_library_lem.now (counted 0x81 0x02 257)).sections, accepted_257)

pub table_257 : SameTable (own_types (joined (struct_groups 257 0 2)))
table_257 = empty_library_lem.words (counted 0x81 0x02 257) (own_types (joined (struct_groups 257 0 2))) accepted_257_now
