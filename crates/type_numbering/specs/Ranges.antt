-- The two words of a row that say its range, and what the functions that put them need and leave.
use Rattle.std.specs.Prelude.{ℕ, suc, ◌+◌, ◌*◌, ◌≤◌, ◌<◌, ◌≡◌, List, length}
use Rattle.scope.specs.Told.{Maybe}
use Rattle.std.specs.Prelude.{None, Some}
use Rattle.scope.specs.Sizes.{most_types}
use Rattle.scope.specs.Layout.{row_span}
use Rattle.scope.specs.Syntax.{super_of}
use Rattle.scope.specs.Memory.{or_zero}
use Rattle.scope.specs.Ranges.{total, size_in, start_in}
use Rattle.type_forest.specs.Forest.{Lower, Sizes, Starts}
use Rattle.type_forest.specs.Walks.{Grown, Placed}
use Rattle.type_table.specs.View.{view}
use Rattle.type_span.specs.Span.{start_at, end_at, Beside}

-- more than any sum of two sizes
abbrev pub small_word : ℕ
small_word = 4_096

-- what stands above a type: 0, or one more than its supertype
unfoldable pub parent_of : List ℕ → List ℕ → ℕ → ℕ
parent_of rows codes x = or_zero (super_of (view rows codes x))

-- the same as the code has it
abbrev pub parent_number : Maybe ℕ → ℕ
parent_number None = 0
parent_number (Some p) = suc p

pub record ParentIs (rows codes : List ℕ) (x : ℕ) (r : Maybe ℕ) : Type 0 where
  pub is : parent_number r ≡ parent_of rows codes x

-- the rows of n types, whose ends are cleared
pub record Clearable (n : ℕ) (rows : List ℕ) : Type 0 where
  pub room : row_span * n ≤ length rows

pub record Emptied (n : ℕ) (rows rows' : List ℕ) : Type 0 where
  pub beside : Beside n rows rows'
  pub fresh : (x : ℕ) → x < n → end_at rows' x ≡ 0

-- one turn of the walk of sizes

pub record Sizeable (k : ℕ) (codes rows : List ℕ) : Type 0 where
  pub room : row_span * suc k ≤ length rows
  pub count : k < most_types
  pub lower : parent_of rows codes k ≤ k
  pub small : (y : ℕ) → y ≤ k → end_at rows y < small_word

pub record SizedOne (k : ℕ) (codes rows rows' : List ℕ) : Type 0 where
  pub beside : Beside (suc k) rows rows'
  pub grown : Grown (parent_of rows codes) k (end_at rows) (end_at rows')

-- the walk

pub record Numberable (n : ℕ) (codes rows : List ℕ) : Type 0 where
  pub room : row_span * n ≤ length rows
  pub count : n ≤ most_types
  pub lower : Lower (parent_of rows codes) n

pub record Empty (n : ℕ) (codes rows : List ℕ) : Type 0 where
  pub ok : Numberable n codes rows
  pub fresh : (x : ℕ) → x < n → end_at rows x ≡ 0

pub record Sized (n : ℕ) (codes rows rows' : List ℕ) : Type 0 where
  pub beside : Beside n rows rows'
  pub sizes : Sizes (parent_of rows codes) n (end_at rows')
  pub all : total (parent_of rows codes) (end_at rows') 0 0 n ≤ n

-- one turn of the walk of starts

pub record Placeable (x next : ℕ) (codes rows : List ℕ) : Type 0 where
  pub room : row_span * suc x ≤ length rows
  pub count : x < most_types
  pub lower : parent_of rows codes x ≤ x
  pub small : (y : ℕ) → y ≤ x → end_at rows y < small_word
  pub next_small : next < small_word

pub record PlacedOne (x next : ℕ) (codes rows rows' : List ℕ) (r : ℕ) : Type 0 where
  pub beside : Beside (suc x) rows rows'
  pub placed : Placed (parent_of rows codes) x (start_at rows) (end_at rows) next (start_at rows') (end_at rows') r

-- the walk

pub record Startable (n : ℕ) (codes rows : List ℕ) : Type 0 where
  pub room : row_span * n ≤ length rows
  pub count : n ≤ most_types
  pub lower : Lower (parent_of rows codes) n
  pub sizes : Sizes (parent_of rows codes) n (end_at rows)
  pub all : total (parent_of rows codes) (end_at rows) 0 0 n ≤ n

-- the types have their ranges: each begins behind its supertype and its lower siblings, and ends behind all that is below it
pub record Numbered (n : ℕ) (codes rows rows' : List ℕ) : Type 0 where
  pub beside : Beside n rows rows'
  pub size : ℕ → ℕ
  pub sizes : Sizes (parent_of rows codes) n size
  pub starts : Starts (parent_of rows codes) n size (start_at rows')
  pub ends : (y : ℕ) → y < n → end_at rows' y ≡ start_at rows' y + size y
  -- which says the words
  pub starts_are : (x : ℕ) → x < n → start_at rows' x ≡ start_in (parent_of rows codes) n x
  pub ends_are : (x : ℕ) → x < n → end_at rows' x ≡ start_in (parent_of rows codes) n x + size_in (parent_of rows codes) n x
