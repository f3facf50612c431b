-- Demand 2 of asking for a type: the part that is handed back is the writing of that definition, and lies where the table says.
-- "The section is judged first, with its own refusals; then the answer hands back the very bytes of that definition, from its
-- 50, 4F, clause or form byte on, and lent memory is as after the section alone. An absent number gives refusal 6 with that
-- number as place. Every refusal gives an empty part." proofs/OfAsked.antt proves it.
use Rattle.std.specs.Prelude.{ℕ, ◌+◌, ◌*◌, ◌≤◌, ◌<◌, ◌≡◌, ◌↔◌, Bool, true, false, cond, List, [], ◌++◌, length}
use Rattle.std.proofs.Math.Option.{some}
use Rattle.std.proofs.Math.ListN.{get_elem?}
use Rattle.scope.specs.declared.Asked.{Asked}
use Rattle.scope.specs.declared.Asked
use Rattle.scope.specs.Layout.{row_span}
use Rattle.scope.specs.Refusals.{buffer_too_small, out_of_reach}
use Rattle.scope.specs.declared.Place.{Place}
use Rattle.scope.specs.Syntax.{Definition}
use Rattle.scope.specs.Judging.{plain, Joined}
use Rattle.scope.specs.Memory.{joined_rows, joined_shared, joined_codes}
use Rattle.scope.specs.Answers.{TypeAsked, TypeHanded}
use Rattle.facts_sections.specs.Allowed.{Allowed}
use Rattle.facts_sections.specs.FirstFault.{Refused}
use Rattle.facts_sections.specs.Writing.{WritesDefinition}
use Rattle.facts_calls.specs.Zero.{Zero, ZeroBeyond}
use Rattle.facts_calls.specs.Lent.{TableSuffices, TableShort}

-- the part lies in the input between these places
pub record LiesIn (s part : List ℕ) (from to : ℕ) : Type 0 where
  pub before : List ℕ
  pub behind : List ℕ
  pub whole : s ≡ before ++ (part ++ behind)
  pub begins : from ≡ length before
  pub ends : to ≡ from + length part

-- "whichever of the two sections holds it": the library's numbers come first
pub data HeldBy (j : Joined) (x : ℕ) : Bool → Type 0 where
  library_holds : x < j.before → HeldBy j x true
  addon_holds : j.before ≤ x → HeldBy j x false

-- type x of an allowed library and section, of the library or not
pub record TypeOf (library s : List ℕ) (x : ℕ) (of_library : Bool) (d : Definition) : Type 0 where
  pub both : Joined
  pub allowed : Allowed library s both
  pub present : get_elem? both.types x ≡ some d
  pub held : HeldBy both x of_library

-- its bytes lie between these places of the section that holds it
pub record Lies (library s : List ℕ) (x : ℕ) (of_library : Bool) (from to : ℕ) : Type 0 where
  pub definition : Definition
  pub is_type : TypeOf library s x of_library definition
  pub begins : definition.from ≡ from
  pub ends : definition.to ≡ to

-- the sections are allowed and have no type x
pub record NoType (library s : List ℕ) (x : ℕ) : Type 0 where
  pub both : Joined
  pub allowed : Allowed library s both
  pub absent : length both.types ≤ x

-- why a type is not handed out
pub data AskSaysNo (library s : List ℕ) (x : ℕ) (rows shared codes : List ℕ) : ℕ → Place → Type 1 where
  by_memory : TableShort rows shared codes → AskSaysNo library s x rows shared codes buffer_too_small (plain 0)
  by_section : {number : ℕ} {place : Place} → TableSuffices rows shared codes → Refused library s number place → AskSaysNo library s x rows shared codes number place
  by_number : TableSuffices rows shared codes → NoType library s x → AskSaysNo library s x rows shared codes out_of_reach (plain x)

-- where a row says that its definition's bytes begin and end
abbrev pub begins_at : ℕ → ℕ
begins_at x = x * row_span + 7

abbrev pub ends_at : ℕ → ℕ
ends_at x = x * row_span + 8

-- where the bytes lie: the call whose answer is the section that holds them and the two places
module _ {library s : List ℕ} {x : ℕ} {rows shared codes rows' shared' codes' : List ℕ} {r : Asked} where
  pub record OfAsked (promise : TypeAsked library s x rows shared codes rows' shared' codes' r) : Type 1 where
    pub in_library : (from to : ℕ) → (r ≡ Asked.TheVariants.Library from to) ↔ (TableSuffices rows shared codes × Lies library s x true from to)
    pub in_addon : (from to : ℕ) → (r ≡ Asked.TheVariants.Addon from to) ↔ (TableSuffices rows shared codes × Lies library s x false from to)
    pub refused : (number : ℕ) (place : Place) → (r ≡ Asked.TheVariants.Refused number place) ↔ AskSaysNo library s x rows shared codes number place
    -- lent memory is as after the sections alone; zero after a refusal
    pub table : (j : Joined) (d : Definition) → TableSuffices rows shared codes → Allowed library s j → get_elem? j.types x ≡ some d
        → ZeroBeyond (joined_rows j) rows rows' × ZeroBeyond (joined_shared j) shared shared' × ZeroBeyond (joined_codes j) codes codes'
    pub wipes : (number : ℕ) (place : Place) → r ≡ Asked.TheVariants.Refused number place → Zero rows rows' × Zero shared shared' × Zero codes codes'

-- the very bytes: the call that hands them back
module _ {library s : List ℕ} {x : ℕ} {rows shared codes rows' shared' codes' part : List ℕ} where
  pub record OfHanded (promise : TypeHanded library s x rows shared codes rows' shared' codes' part) : Type 1 where
    -- the part is the writing of that definition, from its first byte to its end
    pub writes : (of_library : Bool) (d : Definition) → TableSuffices rows shared codes → TypeOf library s x of_library d → WritesDefinition d.reach d.from part d
    -- in the section that holds it
    pub lies : (of_library : Bool) (d : Definition) → TableSuffices rows shared codes → TypeOf library s x of_library d → LiesIn (cond of_library library s) part d.from d.to
    -- and the table says where
    pub row : (of_library : Bool) (d : Definition) → TableSuffices rows shared codes → TypeOf library s x of_library d
        → (get_elem? rows' (begins_at x) ≡ some d.from) × (get_elem? rows' (ends_at x) ≡ some d.to)
    pub empty : (number : ℕ) (place : Place) → AskSaysNo library s x rows shared codes number place → part ≡ []
    -- lent memory is as after the sections alone; zero after a refusal
    pub table : (j : Joined) (d : Definition) → TableSuffices rows shared codes → Allowed library s j → get_elem? j.types x ≡ some d
        → ZeroBeyond (joined_rows j) rows rows' × ZeroBeyond (joined_shared j) shared shared' × ZeroBeyond (joined_codes j) codes codes'
    pub wipes : (number : ℕ) (place : Place) → AskSaysNo library s x rows shared codes number place → Zero rows rows' × Zero shared shared' × Zero codes codes'
