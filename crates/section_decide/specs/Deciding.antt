-- What the verdict needs of the table, and what it leaves: the rows with their ranges, and else as they were.
use Rattle.std.specs.Prelude.{ℕ, ◌*◌, ◌≤◌, ◌<◌, ◌≡◌, List, length}
use Rattle.std.proofs.Math.Option.{none}
use Rattle.std.specs.Prelude.{Result, Ok}
use Rattle.scope.specs.declared.Rejected.{Rejected}
use Rattle.scope.specs.Sizes.{most_types}
use Rattle.scope.specs.Layout.{row_span}
use Rattle.scope.specs.Judging.{links_fault}
use Rattle.type_table.specs.View.{word_of, view}
use Rattle.type_numbering.specs.Ranges.{Numbered}
use Rattle.type_chain.specs.Depths.{Depths}
use Rattle.type_hierarchy.specs.Ranged.{Ranged}
use Rattle.section_judge.specs.Verdict.{ruled_is, judge_from}

-- n types, of which those before `first` have passed the first pass, and zero after them
pub record Decidable (first n : ℕ) (codes rows : List ℕ) : Type 0 where
  pub room : row_span * n ≤ length rows
  pub count : n ≤ most_types
  pub earlier : (x : ℕ) → x < first → links_fault (view rows codes) x ≡ none
  pub past : (x k : ℕ) → n ≤ x → word_of rows x k ≡ 0

-- the same, with depths in the end words
pub record Deep (first n : ℕ) (codes rows : List ℕ) : Type 0 where
  pub ok : Decidable first n codes rows
  pub depths : Depths n codes rows

pub record Decided (first n : ℕ) (codes rows rows' : List ℕ) (r : Result ℕ Rejected) : Type 0 where
  pub answer : r ≡ ruled_is (judge_from first (view rows codes) n)
  pub size : length rows' ≡ length rows
  pub numbered : (m : ℕ) → r ≡ Ok m → Numbered n codes rows rows'
  pub ranged : (m : ℕ) → r ≡ Ok m → Ranged rows' codes
