-- The tests of lent memory pass exactly when every buffer suffices, and fail exactly when one is short.
use Prim.Native.Nat.{ℕ}
use native.Mathlib.Omega.{arith}
use mathlib.Core.Path.{◌≡◌, refl}
use mathlib.Core.Logic.{◌⊎◌, inl, inr}
use mathlib.Core.Bool.{Bool, true, false, ◌&&◌}
use mathlib.Core.List.{List}
use lib.ListN.{length}
use borrow.Author.Tests.{leb-true, leb-false, le-leb}
use Rattle.scope.specs.Layout.{rows_size, codes_size, work_size, ends_size, counts_size, objects_size, cells_size, locals_size, operands_size, blocks_size}
use Rattle.scope.specs.Memory.{StateWords}
use Rattle.scope.specs.Answers.{holds, table_lent, state_lent, run_lent, RunMemory}
use Rattle.scope.proofs.Truths.{both, from_both}
use Rattle.facts_calls.specs.Lent.{Fits, Under, TableSuffices, TableShort, rows_under, shared_under, codes_under, BodySuffices, BodyShort, table_short, work_under, StateSuffices, StateShort, counts_under, objects_under, cells_under, locals_under, operands_under, blocks_under, RunSuffices, RunShort, body_short, ends_under, state_short}

from_neither : (a b : Bool) → a && b ≡ false → (a ≡ false) ⊎ (b ≡ false)
from_neither true b e = inr e
from_neither false b e = inl refl

first_fails : {a : Bool} (b : Bool) → a ≡ false → a && b ≡ false
first_fails b e = rw e

second_fails : (a : Bool) {b : Bool} → b ≡ false → a && b ≡ false
second_fails true e = e
second_fails false e = refl

-- the first of two tests fails, or the others do
either : {A : Type 0} (a b : Bool) → a && b ≡ false → (a ≡ false → A) → (b ≡ false → A) → A
either {A} a b e first others = go (from_neither a b e)
  where
    go : (a ≡ false) ⊎ (b ≡ false) → A
    go (inl p) = first p
    go (inr q) = others q

fits : (size : ℕ) (buffer : List ℕ) → holds size buffer ≡ true → Fits size buffer
fits size buffer e = leb-true _ _ e

fitted : (size : ℕ) (buffer : List ℕ) → Fits size buffer → holds size buffer ≡ true
fitted size buffer h = le-leb _ _ h

under : (size : ℕ) (buffer : List ℕ) → holds size buffer ≡ false → Under size buffer
under size buffer e = leb-false _ _ e

undered : (size : ℕ) (buffer : List ℕ) → Under size buffer → holds size buffer ≡ false
undered size buffer h = go (holds size buffer) refl
  where
    go : (t : Bool) → holds size buffer ≡ t → t ≡ false
    go true e = absurd (let q = leb-true size (length buffer) e in omega arith)
    go false e = refl

-- the table

-- the first two of its tests
abbrev two-tests : List ℕ → List ℕ → Bool
two-tests rows shared = holds rows_size rows && holds codes_size shared

module _ {rows shared codes : List ℕ} where
  pub table_suffices : table_lent rows shared codes ≡ true → TableSuffices rows shared codes
  table_suffices e =
      let (of_two, c) = from_both (two-tests rows shared) (holds codes_size codes) e in
      let (a, b) = from_both (holds rows_size rows) (holds codes_size shared) of_two in
      record { rows_fit = fits rows_size rows a; shared_fit = fits codes_size shared b; codes_fit = fits codes_size codes c }

  pub table-lent : TableSuffices rows shared codes → table_lent rows shared codes ≡ true
  table-lent t = both (both (fitted rows_size rows t.rows_fit) (fitted codes_size shared t.shared_fit)) (fitted codes_size codes t.codes_fit)

  pub table_is_short : table_lent rows shared codes ≡ false → TableShort rows shared codes
  table_is_short e =
      either (two-tests rows shared) (holds codes_size codes) e (λ of_two.
      either (holds rows_size rows) (holds codes_size shared) of_two (λ a. rows_under (under rows_size rows a)) (λ a. shared_under (under codes_size shared a)))
      (λ a. codes_under (under codes_size codes a))

  pub short_table : TableShort rows shared codes → table_lent rows shared codes ≡ false
  short_table (rows_under a) = first_fails _ (first_fails (holds codes_size shared) (undered rows_size rows a))
  short_table (shared_under a) = first_fails _ (second_fails (holds rows_size rows) (undered codes_size shared a))
  short_table (codes_under a) = second_fails (two-tests rows shared) (undered codes_size codes a)

-- a body's

module _ {rows shared codes work : List ℕ} where
  pub body_suffices : table_lent rows shared codes && holds work_size work ≡ true → BodySuffices rows shared codes work
  body_suffices e = let (a, b) = from_both _ _ e in record { table = table_suffices a; work_fits = fits work_size work b }

  pub body-lent : BodySuffices rows shared codes work → table_lent rows shared codes && holds work_size work ≡ true
  body-lent t = both (table-lent t.table) (fitted work_size work t.work_fits)

  pub body_is_short : table_lent rows shared codes && holds work_size work ≡ false → BodyShort rows shared codes work
  body_is_short e = go (from_neither _ _ e)
    where
      go : (table_lent rows shared codes ≡ false) ⊎ (holds work_size work ≡ false) → BodyShort rows shared codes work
      go (inl a) = table_short (table_is_short a)
      go (inr b) = work_under (under work_size work b)

  pub short_body : BodyShort rows shared codes work → table_lent rows shared codes && holds work_size work ≡ false
  short_body (table_short a) = first_fails _ (short_table a)
  short_body (work_under b) = second_fails (table_lent rows shared codes) (undered work_size work b)

-- a run's

module _ (w : StateWords) where
  -- the tests of the state's buffers, the first two, the first three, and so on

  abbrev two : Bool
  two = holds counts_size w.counts && holds objects_size w.objects

  abbrev three : Bool
  three = two && holds cells_size w.cells

  abbrev four : Bool
  four = three && holds locals_size w.locals

  abbrev five : Bool
  five = four && holds operands_size w.operands

  state_suffices : state_lent w ≡ true → StateSuffices w
  state_suffices e =
      let (of-five, g) = from_both five (holds blocks_size w.blocks) e in
      let (of_four, f) = from_both four (holds operands_size w.operands) of-five in
      let (of_three, d) = from_both three (holds locals_size w.locals) of_four in
      let (of_two, c) = from_both two (holds cells_size w.cells) of_three in
      let (a, b) = from_both (holds counts_size w.counts) (holds objects_size w.objects) of_two in
      record {
        counts_fit = fits counts_size w.counts a;
        objects_fit = fits objects_size w.objects b;
        cells_fit = fits cells_size w.cells c;
        locals_fit = fits locals_size w.locals d;
        operands_fit = fits operands_size w.operands f;
        blocks_fit = fits blocks_size w.blocks g;
      }

  state-lent : StateSuffices w → state_lent w ≡ true
  state-lent t =
      let of_two = both (fitted counts_size w.counts t.counts_fit) (fitted objects_size w.objects t.objects_fit) in
      let of_three = both of_two (fitted cells_size w.cells t.cells_fit) in
      let of_four = both of_three (fitted locals_size w.locals t.locals_fit) in
      both (both of_four (fitted operands_size w.operands t.operands_fit)) (fitted blocks_size w.blocks t.blocks_fit)

  state_is_short : state_lent w ≡ false → StateShort w
  state_is_short e =
      either five (holds blocks_size w.blocks) e (λ of-five.
      either four (holds operands_size w.operands) of-five (λ of_four.
      either three (holds locals_size w.locals) of_four (λ of_three.
      either two (holds cells_size w.cells) of_three (λ of_two.
      either (holds counts_size w.counts) (holds objects_size w.objects) of_two
      (λ a. counts_under (under counts_size w.counts a))
      (λ a. objects_under (under objects_size w.objects a)))
      (λ a. cells_under (under cells_size w.cells a)))
      (λ a. locals_under (under locals_size w.locals a)))
      (λ a. operands_under (under operands_size w.operands a)))
      (λ a. blocks_under (under blocks_size w.blocks a))

  short_two : two ≡ false → state_lent w ≡ false
  short_two e = first_fails _ (first_fails _ (first_fails _ (first_fails (holds cells_size w.cells) e)))

  short_state : StateShort w → state_lent w ≡ false
  short_state (counts_under a) = short_two (first_fails _ (undered counts_size w.counts a))
  short_state (objects_under a) = short_two (second_fails (holds counts_size w.counts) (undered objects_size w.objects a))
  short_state (cells_under a) = first_fails _ (first_fails _ (first_fails _ (second_fails two (undered cells_size w.cells a))))
  short_state (locals_under a) = first_fails _ (first_fails _ (second_fails three (undered locals_size w.locals a)))
  short_state (operands_under a) = first_fails _ (second_fails four (undered operands_size w.operands a))
  short_state (blocks_under a) = second_fails five (undered blocks_size w.blocks a)

module _ (m : RunMemory) where
  abbrev body-test : Bool
  body-test = table_lent m.rows m.shared m.codes && holds work_size m.work

  pub run_suffices : run_lent m ≡ true → RunSuffices m
  run_suffices e =
      let (more, d) = from_both (body-test && holds ends_size m.ends) (state_lent m.state) e in
      let (a, c) = from_both body-test (holds ends_size m.ends) more in
      record { body = body_suffices a; ends_fit = fits ends_size m.ends c; state = state_suffices m.state d }

  pub run_lent_lem : RunSuffices m → run_lent m ≡ true
  run_lent_lem t = both (both (body-lent t.body) (fitted ends_size m.ends t.ends_fit)) (state-lent m.state t.state)

  pub run_is_short : run_lent m ≡ false → RunShort m
  run_is_short e =
      either (body-test && holds ends_size m.ends) (state_lent m.state) e (λ more.
      either body-test (holds ends_size m.ends) more (λ a. body_short (body_is_short a)) (λ a. ends_under (under ends_size m.ends a)))
      (λ a. state_short (state_is_short m.state a))

  pub short_run : RunShort m → run_lent m ≡ false
  short_run (body_short a) = first_fails _ (first_fails _ (short_body a))
  short_run (ends_under a) = first_fails _ (second_fails body-test (undered ends_size m.ends a))
  short_run (state_short a) = second_fails (body-test && holds ends_size m.ends) (short_state m.state a)
