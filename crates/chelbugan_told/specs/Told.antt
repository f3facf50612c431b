-- What a host is told by each call: the answer of document 01 as a kind and four words (Values.antt says which), and the lent
-- memory as it then stands.
use Rattle.std.specs.Prelude.{ℕ, ◌≡◌, List}
use Rattle.scope.specs.Memory.{wiped, joined_rows, joined_shared, joined_codes}
use Rattle.scope.specs.Bodies.{instructions}
use Rattle.scope.specs.Answers.{verdict_of, lent_after, counted, section_call, ask_call, asked_of, ask_table, body_call, RunMemory, RunTried}
use Rattle.scope.specs.declared.Ran.{Ran}
use Rattle.chelbugan_told.specs.Values.{verdict_kind, verdict_values, asked_kind, asked_values, RanTold}

-- judging a library and an add-on: the verdict of document 01, told; the table as `SectionJudged` of scope has it
pub record SectionTold (library section rows shared codes rows' shared' codes' : List ℕ) (r : ℕ) (answer' : List ℕ) : Type 0 where
  pub kind : r ≡ verdict_kind (verdict_of counted (section_call library section rows shared codes))
  pub values : answer' ≡ verdict_values (verdict_of counted (section_call library section rows shared codes))
  pub rows_after : rows' ≡ lent_after joined_rows rows (section_call library section rows shared codes)
  pub shared_after : shared' ≡ lent_after joined_shared shared (section_call library section rows shared codes)
  pub codes_after : codes' ≡ lent_after joined_codes codes (section_call library section rows shared codes)

-- asking for a type: the same, as `TypeAsked` has it
pub record TypeTold (library section : List ℕ) (x : ℕ) (rows shared codes rows' shared' codes' : List ℕ) (r : ℕ) (answer' : List ℕ) : Type 0 where
  pub kind : r ≡ asked_kind (asked_of (ask_call library section x rows shared codes))
  pub values : answer' ≡ asked_values (asked_of (ask_call library section x rows shared codes))
  pub rows_after : rows' ≡ lent_after joined_rows rows (ask_table library section x rows shared codes)
  pub shared_after : shared' ≡ lent_after joined_shared shared (ask_table library section x rows shared codes)
  pub codes_after : codes' ≡ lent_after joined_codes codes (ask_table library section x rows shared codes)

-- judging a body: the same, as `BodyJudged` has it
pub record BodyTold (library section s : List ℕ) (x : ℕ) (rows shared codes work rows' shared' codes' work' : List ℕ) (r : ℕ) (answer' : List ℕ) : Type 0 where
  pub kind : r ≡ verdict_kind (verdict_of instructions (body_call library section s x rows shared codes work))
  pub values : answer' ≡ verdict_values (verdict_of instructions (body_call library section s x rows shared codes work))
  pub rows_after : rows' ≡ wiped rows
  pub shared_after : shared' ≡ wiped shared
  pub codes_after : codes' ≡ wiped codes
  pub work_after : work' ≡ wiped work

-- a trial run: what `RunTried` says of the answer and of all eleven buffers, and that answer told
pub record RunTold (library section s : List ℕ) (x budget : ℕ) (m m' : RunMemory) (r : ℕ) (answer' : List ℕ) : Type 0 where
  pub ran : Ran
  pub tried : RunTried library section s x budget m m' ran
  pub told : RanTold ran r answer'
