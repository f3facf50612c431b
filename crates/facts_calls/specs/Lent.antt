-- Lent memory that suffices, and lent memory that does not. 14: "a lent buffer under its one size fixed in docs/, ..; never
-- otherwise". The sizes are those of scope's specs/Layout.antt.
use Rattle.std.specs.Prelude.{ℕ, ◌<◌, ◌≤◌, List, length}
use Rattle.scope.specs.Layout.{rows_size, codes_size, work_size, ends_size, counts_size, objects_size, cells_size, locals_size, operands_size, blocks_size}
use Rattle.scope.specs.Memory.{StateWords}
use Rattle.scope.specs.Answers.{RunMemory}

-- a buffer of its size or longer; one under its size
abbrev pub Fits : ℕ → List ℕ → Type 0
Fits size buffer = size ≤ length buffer

abbrev pub Under : ℕ → List ℕ → Type 0
Under size buffer = length buffer < size

-- the table

pub record TableSuffices (rows shared codes : List ℕ) : Type 0 where
  pub rows_fit : Fits rows_size rows
  pub shared_fit : Fits codes_size shared
  pub codes_fit : Fits codes_size codes

pub data TableShort (rows shared codes : List ℕ) : Type 0 where
  rows_under : Under rows_size rows → TableShort rows shared codes
  shared_under : Under codes_size shared → TableShort rows shared codes
  codes_under : Under codes_size codes → TableShort rows shared codes

-- and the scratch of a body

pub record BodySuffices (rows shared codes work : List ℕ) : Type 0 where
  pub table : TableSuffices rows shared codes
  pub work_fits : Fits work_size work

pub data BodyShort (rows shared codes work : List ℕ) : Type 0 where
  table_short : TableShort rows shared codes → BodyShort rows shared codes work
  work_under : Under work_size work → BodyShort rows shared codes work

-- and the scratch and the state of a run

pub record StateSuffices (w : StateWords) : Type 0 where
  pub counts_fit : Fits counts_size w.counts
  pub objects_fit : Fits objects_size w.objects
  pub cells_fit : Fits cells_size w.cells
  pub locals_fit : Fits locals_size w.locals
  pub operands_fit : Fits operands_size w.operands
  pub blocks_fit : Fits blocks_size w.blocks

pub data StateShort (w : StateWords) : Type 0 where
  counts_under : Under counts_size w.counts → StateShort w
  objects_under : Under objects_size w.objects → StateShort w
  cells_under : Under cells_size w.cells → StateShort w
  locals_under : Under locals_size w.locals → StateShort w
  operands_under : Under operands_size w.operands → StateShort w
  blocks_under : Under blocks_size w.blocks → StateShort w

pub record RunSuffices (m : RunMemory) : Type 0 where
  pub body : BodySuffices m.rows m.shared m.codes m.work
  pub ends_fit : Fits ends_size m.ends
  pub state : StateSuffices m.state

pub data RunShort (m : RunMemory) : Type 0 where
  body_short : BodyShort m.rows m.shared m.codes m.work → RunShort m
  ends_under : Under ends_size m.ends → RunShort m
  state_short : StateShort m.state → RunShort m
