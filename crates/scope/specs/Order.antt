-- Type rule 6, twice: as a relation with a constructor for each thing that its sentences say, and as a test that computes.
-- proofs/Order.antt shows that the two say the same of types whose supertypes have equal forms and short chains, as those of every
-- accepted section have.
use Rattle.std.specs.Prelude.{ℕ, zero, suc, ◌≡◌, Bool, true, false, not, ◌&&◌, ◌||◌, cond, eqb}
use Rattle.std.specs.Bool.{beq}
use Rattle.std.proofs.Math.Option.{some}
use Rattle.scope.specs.Sizes.{most_steps}
use Rattle.scope.specs.Reading.{given}
use Rattle.scope.specs.Lists.{some_of}
use Rattle.scope.specs.Abstract.{Abstract, STRUCT, FUNC, row, same_abstract, directly_above}
use Rattle.scope.specs.Syntax.{Heap, abstract, defined, exact, Number, i32, i64, f32, f64, Val, num, ref, Form, struct, func, Types, super_of}

-- "Two numbers are the same type only when equal."
abbrev pub same_type : ℕ → ℕ → Bool
same_type x y = eqb x y

-- struct or func: what a type of this form is below
abbrev pub kind_of : Form → Abstract
kind_of (struct fs) = STRUCT
kind_of (func ps rs) = FUNC

-- the bottom of its hierarchy
abbrev pub bottom_of : Form → Abstract
bottom_of f = (row (kind_of f)).bottom

-- the relation

pub data HeapOrder (ts : Types) : Heap → Heap → Type 0 where
  -- none below i31, struct, array; these below eq, eq below any; nofunc below func; noextern below extern
  listed : {a b : Abstract} → directly_above a b ≡ true → HeapOrder ts (abstract a) (abstract b)
  -- exact x is below x
  exactly : {x : ℕ} → HeapOrder ts (exact x) (defined x)
  -- x below its supertype
  supertype : {x y : ℕ} → super_of (ts x) ≡ some y → HeapOrder ts (defined x) (defined y)
  -- and below struct or func
  kind : {x : ℕ} {a : Abstract} → kind_of (ts x).form ≡ a → HeapOrder ts (defined x) (abstract a)
  -- and the hierarchy's bottom below exact x; nothing else is below exact x
  bottom : {x : ℕ} {a : Abstract} → bottom_of (ts x).form ≡ a → HeapOrder ts (abstract a) (exact x)
  -- order is reflexive and transitive
  reflexive : {h : Heap} → HeapOrder ts h h
  transitive : {h k l : Heap} → HeapOrder ts h k → HeapOrder ts k l → HeapOrder ts h l

pub data ValOrder (ts : Types) : Val → Val → Type 0 where
  -- references are ordered as what they refer to
  heaps : {n : Bool} {h k : Heap} → HeapOrder ts h k → ValOrder ts (ref n h) (ref n k)
  -- a non-null reference is below the nullable one
  nulls : {h : Heap} → ValOrder ts (ref false h) (ref true h)
  itself : {v : Val} → ValOrder ts v v
  chained : {u v w : Val} → ValOrder ts u v → ValOrder ts v w → ValOrder ts u w

-- the test

-- up the table, at most so many steps
unfoldable pub up_table : ℕ → Abstract → Abstract → Bool
up_table zero a b = same_abstract a b
up_table (suc steps) a b = same_abstract a b || some_of (λ c. up_table steps c b) (row a).above

-- three steps lead from none to any
abbrev pub abstract_below : Abstract → Abstract → Bool
abstract_below a b = up_table 3 a b

-- from x to y up the declared supertypes, at most so many steps
unfoldable pub climbs : ℕ → Types → ℕ → ℕ → Bool
climbs zero ts x y = same_type x y
climbs (suc steps) ts x y = same_type x y || given (super_of (ts x)) false (λ p. climbs steps ts p y)

unfoldable pub heap_below : Types → Heap → Heap → Bool
heap_below ts (abstract a) (abstract b) = abstract_below a b
heap_below ts (abstract a) (defined y) = same_abstract a (bottom_of (ts y).form)
heap_below ts (abstract a) (exact y) = same_abstract a (bottom_of (ts y).form)
heap_below ts (defined x) (abstract b) = abstract_below (kind_of (ts x).form) b
heap_below ts (defined x) (defined y) = climbs most_steps ts x y
heap_below ts (defined x) (exact y) = false
heap_below ts (exact x) (abstract b) = abstract_below (kind_of (ts x).form) b
heap_below ts (exact x) (defined y) = climbs most_steps ts x y
heap_below ts (exact x) (exact y) = same_type x y

abbrev pub number_code : Number → ℕ
number_code i32 = 0
number_code i64 = 1
number_code f32 = 2
number_code f64 = 3

abbrev pub same_number : Number → Number → Bool
same_number a b = eqb (number_code a) (number_code b)

unfoldable pub val_below : Types → Val → Val → Bool
val_below ts (num a) (num b) = same_number a b
val_below ts (num a) (ref m k) = false
val_below ts (ref n h) (num b) = false
val_below ts (ref n h) (ref m k) = (not n || m) && heap_below ts h k

-- Request 9 of document 02: "The test whether one type fits another should have three outcomes: fits, would fit if it couldn't
-- be null, doesn't fit."
pub data Fit : Type 0 where
  it_fits : Fit
  but_for_null : Fit
  unfit : Fit

-- the same type, not null
abbrev pub made_non_null : Val → Val
made_non_null (num a) = num a
made_non_null (ref n h) = ref false h

-- by the order itself: a type that is not below the other would fit where the same type, made non-null, is below it
unfoldable pub val_fit : Types → Val → Val → Fit
val_fit ts v w = cond (val_below ts v w) it_fits (cond (val_below ts (made_non_null v) w) but_for_null unfit)

-- "identical" means the types, not their bytes

unfoldable pub same_heap : Heap → Heap → Bool
same_heap (abstract a) (abstract b) = same_abstract a b
same_heap (abstract a) (defined y) = false
same_heap (abstract a) (exact y) = false
same_heap (defined x) (abstract b) = false
same_heap (defined x) (defined y) = same_type x y
same_heap (defined x) (exact y) = false
same_heap (exact x) (abstract b) = false
same_heap (exact x) (defined y) = false
same_heap (exact x) (exact y) = same_type x y

unfoldable pub same_val : Val → Val → Bool
same_val (num a) (num b) = same_number a b
same_val (num a) (ref m k) = false
same_val (ref n h) (num b) = false
same_val (ref n h) (ref m k) = beq n m && same_heap h k
