-- The verdict on a library's section and an add-on's: which refusal, which place, in document 01's order; and asking the two for a
-- type by number. Request 5 of document 02: "one library of types for the fleet".
-- "A section's byte faults (1 to 5) come before its rules; then, type by type, 6, 7 and the chain; then, type by type
-- again, 8 to 13 in rising number." 32 of request 10 of document 02 is a byte fault too.
use Rattle.std.specs.Prelude.{ℕ, zero, suc, ◌+◌, ◌-◌, Bool, cond, List, [], ◌∷◌, ◌++◌, length, take, drop, ltb}
use Rattle.std.proofs.Math.Option.{Option, none, some}
use Rattle.scope.specs.declared.Place.{Place}
use Rattle.scope.specs.declared.Place
use Rattle.scope.specs.Sizes.{most_steps}
use Rattle.scope.specs.Refusals.{oversize, out_of_reach, bad_supertype, no_match, clause_not_on_struct, describes_not_earlier, clauses_disagree, bad_descriptor, bad_describes}
use Rattle.scope.specs.Reading.{Read, got, refused, given}
use Rattle.scope.specs.Lists.{joined}
use Rattle.scope.specs.Syntax.{Definition, Group, Types, types_of}
use Rattle.scope.specs.Sections.{read_after}
use Rattle.scope.specs.TypeRules.{in_reach, super_earlier_and_open, short_chain, matches_super, clauses_on_struct, describes_earlier, clauses_agree, descriptor_follows, describes_follows}

-- "A byte fault's place is counted in the library or the add-on's own input, and the answer says in which": a place in the one
-- or the other, or one with no input to name.
abbrev pub in_library : ℕ → Place
in_library p = Place.TheVariants.Library p

abbrev pub in_addon : ℕ → Place
in_addon p = Place.TheVariants.Addon p

abbrev pub plain : ℕ → Place
plain p = Place.TheVariants.Plain p

abbrev pub place_number : Place → ℕ
place_number (Place.TheVariants.Library p) = p
place_number (Place.TheVariants.Addon p) = p
place_number (Place.TheVariants.Plain p) = p

-- 1 the library, 2 the add-on's own input, 0 none
abbrev pub place_input : Place → ℕ
place_input (Place.TheVariants.Library p) = 1
place_input (Place.TheVariants.Addon p) = 2
place_input (Place.TheVariants.Plain p) = 0

-- what is accepted, or a refusal's number and place. No is `rejected` of what is judged, `refused` of what is read
-- (Reading.antt), and `Refused` in every enum of the code.
pub data Judged (A : Type 0) : Type 0 where
  accepted : A → Judged A
  rejected : ℕ → Place → Judged A

abbrev pub and_then : {A B : Type 0} → Judged A → (A → Judged B) → Judged B
and_then (accepted x) f = f x
and_then (rejected n p) f = rejected n p

-- the number of the first rule that is not kept
abbrev pub first_broken : List (Bool × ℕ) → Option ℕ
first_broken [] = none
first_broken (r ∷ more) = let later = first_broken more in cond r.0 later (some r.1)

-- 6, 7 and the chain, of one type
unfoldable pub links_fault : Types → ℕ → Option ℕ
links_fault ts x =
    first_broken ((in_reach ts x, out_of_reach) ∷ (super_earlier_and_open ts x, bad_supertype) ∷ (short_chain most_steps ts x, oversize) ∷ [])

-- 8 to 13 in rising number, of one type
unfoldable pub rule_fault : Types → ℕ → Option ℕ
rule_fault ts x =
    first_broken
    ((matches_super ts x, no_match)
    ∷ (clauses_on_struct ts x, clause_not_on_struct)
    ∷ (describes_earlier ts x, describes_not_earlier)
    ∷ (clauses_agree ts x, clauses_disagree)
    ∷ (descriptor_follows ts x, bad_descriptor)
    ∷ (describes_follows ts x, bad_describes)
    ∷ [])

-- type by type from x on, so many of them: the first fault with its type's number
unfoldable pub scan : (ℕ → Option ℕ) → ℕ → ℕ → Judged ℕ
scan fault x zero = accepted x
scan fault x (suc n) = let later = scan fault (x + 1) n in given (fault x) later (λ number. rejected number (plain x))

unfoldable pub judge_types : Types → ℕ → Judged ℕ
judge_types ts n = and_then (scan (links_fault ts) 0 n) (λ links. scan (rule_fault ts) 0 n)

-- the verdict on a section by itself, whose bytes lie in such an input: its types, by number
abbrev pub judge_read : (ℕ → Place) → Read (List Group) → Judged (List Definition)
judge_read input (got gs end) = let ds = joined gs in and_then (judge_types (types_of ds) (length ds)) (λ all. accepted ds)
judge_read input (refused n p) = rejected n (input p)

-- "All the library's faults, rules included, come after 14 and before any of the add-on's." It is judged by itself, so it "may
-- not mention the add-on's numbers": such a number is out of reach.
unfoldable pub judge_library : List ℕ → Judged (List Definition)
judge_library library = judge_read in_library (read_after 0 library)

-- the types of both sections, by number, and how many of them are the library's
pub record Joined : Type 0 where
  pub before : ℕ
  pub types : List Definition

-- the add-on's section after these types: its bytes, then the rules, over the joined list
abbrev pub judge_more : List Definition → Read (List Group) → Judged Joined
judge_more ls (got more end) =
    let ds = ls ++ joined more in
    and_then (judge_types (types_of ds) (length ds)) (λ all. accepted (record { before = length ls; types = ds }))
judge_more ls (refused n p) = rejected n (in_addon p)

-- the verdict on a library and an add-on's section
unfoldable pub judge_joined : List ℕ → List ℕ → Judged Joined
judge_joined library addon = and_then (judge_library library) (λ ls. judge_more ls (read_after (length ls) addon))

-- the same, for those who ask for the types alone
unfoldable pub judge_sections : List ℕ → List ℕ → Judged (List Definition)
judge_sections library section = and_then (judge_joined library section) (λ j. accepted j.types)

-- a definition, and whether the library holds it or the add-on's section
pub record Held : Type 0 where
  pub of_library : Bool
  pub definition : Definition

abbrev pub held_at : Joined → ℕ → Held
held_at j x = record { of_library = ltb x j.before; definition = types_of j.types x }

-- "Anyone can ask a section for a type by number. The section is judged first, with its own refusals; .. An absent number
-- gives refusal 6 with that number as place." Of two sections it is a number of the joined list.
unfoldable pub ask_type : List ℕ → List ℕ → ℕ → Judged Held
ask_type library addon x =
    and_then (judge_joined library addon) (λ j. cond (ltb x (length j.types)) (accepted (held_at j x)) (rejected out_of_reach (plain x)))

-- "The answer hands back the very bytes of that definition, .. Every refusal gives an empty part." They "come from whichever of
-- the two sections holds it, as a part of that one".
abbrev pub part_of : List ℕ → List ℕ → Judged Held → List ℕ
part_of library addon (accepted h) =
    take (h.definition.to - h.definition.from) (drop h.definition.from (cond h.of_library library addon))
part_of library addon (rejected n p) = []
