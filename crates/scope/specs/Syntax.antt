-- What the bytes of a section say, as a syntax of its own. A definition keeps the place of its bytes and the reach of
-- its group. A type number is kept as it was written: whether it names a type is a rule, not syntax.
use Rattle.std.specs.Prelude.{ℕ, Bool, true, false, List, [], ◌∷◌, get_or}
use Rattle.std.proofs.Math.Option.{Option, none, some}
use Rattle.scope.specs.Abstract.{Abstract}

-- Heap: an abstract type, a type number, or exact and a type number
pub data Heap : Type 0 where
  abstract : Abstract → Heap
  defined : ℕ → Heap
  exact : ℕ → Heap

pub data Number : Type 0 where
  i32 i64 f32 f64 : Number

-- A value type: a number's, or a reference's, nullable or not
pub data Val : Type 0 where
  num : Number → Val
  ref : Bool → Heap → Val

-- (ref null heap)
abbrev pub nullable : Heap → Val
nullable h = ref true h

-- (ref heap)
abbrev pub non_null : Heap → Val
non_null h = ref false h

-- what a field holds
abbrev pub Storage : Type 0
Storage = Val

pub record Field : Type 0 where
  pub holds : Storage
  pub mutable : Bool

pub data Form : Type 0 where
  struct : List Field → Form
  func : List Val → List Val → Form

pub record Definition : Type 0 where
  pub is_open : Bool
  pub supers : List ℕ
  pub describes : Option ℕ
  pub descriptor : Option ℕ
  pub form : Form
  -- where its bytes lie, from its 50, 4F, clause or form byte on
  pub from : ℕ
  pub to : ℕ
  -- a number may name any type up to the end of its own group: those below this one
  pub reach : ℕ

-- A group is a list of definitions; one definition alone is a group of one.
abbrev pub Group : Type 0
Group = List Definition

-- The types of a section by number. The rules are stated over them.
abbrev pub Types : Type 0
Types = ℕ → Definition

-- what stands at a number that names no type: no rule is asked of it
abbrev pub blank : Definition
blank = record { is_open = false; supers = []; describes = none; descriptor = none; form = struct []; from = 0; to = 0; reach = 0 }

abbrev pub types_of : List Definition → Types
types_of ds x = get_or ds x blank

-- the supertype, where there is one; a second one is refused by rule 1
abbrev pub first_of : List ℕ → Option ℕ
first_of [] = none
first_of (x ∷ more) = some x

abbrev pub super_of : Definition → Option ℕ
super_of d = first_of d.supers
