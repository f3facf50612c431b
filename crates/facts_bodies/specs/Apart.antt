-- What the checker says by functions, said here by relations of its own, so that a mistake in a function does not stand on both
-- sides: a hierarchy's top, a cast's source, target and rest, a supertype that two types share, what a label takes, what is set at
-- first, how many operands there are, how a list of values lies on the stack, and which local an instruction sets.
-- proofs/Apart.antt and proofs/Hierarchies.antt prove each function equal to its relation.
use Rattle.std.specs.Prelude.{ℕ, suc, ◌+◌, ◌≡◌, Bool, true, false, List, [], ◌∷◌, ◌++◌, length}
use Rattle.std.proofs.Math.Option.{Option, none, some}
use Rattle.scope.specs.Abstract.{Abstract, ANY, FUNC, EXTERN}
use Rattle.scope.specs.Syntax.{Heap, abstract, Val, ref, non_null, Types}
use Rattle.scope.specs.Order.{HeapOrder, ValOrder}
use Rattle.scope.specs.Instructions.{Cast}
use Rattle.scope.specs.BodyRules.{Context, Scope, Wanted, value}
use Rattle.scope.specs.Bodies.{Operand, known, Frame, of_block, of_loop, State, Function}
use Rattle.facts_bodies.specs.Premises.{HeapReached, Default}

-- "any reference of the target's hierarchy": any, func and extern are the tops, and a heap type's hierarchy is the one whose top
-- it is below
pub data IsTop : Abstract → Type 0 where
  any_is_top : IsTop ANY
  func_is_top : IsTop FUNC
  extern_is_top : IsTop EXTERN

pub data TopOf (ts : Types) (h : Heap) (t : Abstract) : Type 0 where
  top_of_lem : IsTop t → HeapOrder ts h (abstract t) → TopOf ts h t

-- "flags 0 to 3 (bit 0 source null, bit 1 target null), label, source, target"
abbrev pub cast_source : Cast → Val
cast_source k = ref k.source_null k.source

abbrev pub cast_target : Cast → Val
cast_target k = ref k.target_null k.target

-- Branching casts: "rt_1 and rt_2 share some arbitrary valid supertype rt'" (003): "C |- rt_1 <: rt'", "C |- rt_2 <: rt'" and
-- "C |- rt' : ok". The source is rt_1, the target rt_2; a reference type is valid where its number, if it has one, is in reach.
pub record ShareSupertype (count : ℕ) (ts : Types) (source target : Val) : Type 0 where
  pub null : Bool
  pub heap : Heap
  pub valid : HeapReached count heap
  pub above_source : ValOrder ts source (ref null heap)
  pub above_target : ValOrder ts target (ref null heap)

-- "i.e. that rt_1 and rt_2 must be in the same heap type hierarchy" (003); "so one hierarchy" (request 4 of document 02)
pub data OneHierarchy (ts : Types) (h k : Heap) : Type 0 where
  one_hierarchy_lem : {t : Abstract} → TopOf ts h t → TopOf ts k t → OneHierarchy ts h k

-- "The rest is the source, not null where the target may be null."
pub data Rest (k : Cast) : Val → Type 0 where
  rest_is_source : k.target_null ≡ false → Rest k (cast_source k)
  rest_not_null : k.target_null ≡ true → Rest k (non_null k.source)

-- A block's label takes its results, a loop's nothing, for a block has no parameters; the outermost label is the function's own
-- and takes its results. Innermost first.
pub data Labels (results : List Val) : List Frame → List (List Val) → Type 0 where
  own_label : Labels results [] (results ∷ [])
  block_label : {rs : List Val} {os : List Operand} {dead : Bool} {is_set : List Bool} {fs : List Frame} {more : List (List Val)}
      → Labels results fs more → Labels results (of_block rs os dead is_set ∷ fs) (rs ∷ more)
  loop_label : {rs : List Val} {os : List Operand} {dead : Bool} {is_set : List Bool} {fs : List Frame} {more : List (List Val)}
      → Labels results fs more → Labels results (of_loop rs os dead is_set ∷ fs) ([] ∷ more)

-- what an instruction sees where it stands
pub data Sees (c : Context) (st : State) : Scope → Type 0 where
  sees : {ls : List (List Val)} → Labels c.results st.frames ls → Sees c st (record { labels = ls; is_set = st.is_set })

-- "A local without a default must be set before it is read": parameters are set at first, and of the other locals those with a
-- default
pub data SetAtFirst : List Val → List Val → List Bool → Type 0 where
  none_set : SetAtFirst [] [] []
  parameter_set : {p : Val} {ps ls : List Val} {bs : List Bool} → SetAtFirst ps ls bs → SetAtFirst (p ∷ ps) ls (true ∷ bs)
  default_set : {v : Val} {ls : List Val} {bs : List Bool} → Default v → SetAtFirst [] ls bs → SetAtFirst [] (v ∷ ls) (true ∷ bs)
  default_missing : {v : Val} {ls : List Val} {bs : List Bool} → ¬ Default v → SetAtFirst [] ls bs → SetAtFirst [] (v ∷ ls) (false ∷ bs)

-- where a body starts: no block is open, no operand is there, nothing is unknown
pub data Starts (f : Function) (ls : List Val) : State → Type 0 where
  starts : {bs : List Bool} → SetAtFirst f.parameters ls bs → Starts f ls (record { frames = []; operands = []; dead = false; is_set = bs })

-- "operands in all frames": those around each open block, and those of the innermost
pub data Around : List Frame → ℕ → Type 0 where
  around_none : Around [] 0
  around_block : {rs : List Val} {os : List Operand} {dead : Bool} {is_set : List Bool} {fs : List Frame} {n : ℕ}
      → Around fs n → Around (of_block rs os dead is_set ∷ fs) (length os + n)
  around_loop : {rs : List Val} {os : List Operand} {dead : Bool} {is_set : List Bool} {fs : List Frame} {n : ℕ}
      → Around fs n → Around (of_loop rs os dead is_set ∷ fs) (length os + n)

pub data AllOperands (st : State) : ℕ → Type 0 where
  all_operands_lem : {n : ℕ} → Around st.frames n → AllOperands st (length st.operands + n)

-- values on the stack: the last of a list is on top, and is wanted first
pub data Wants : List Val → List Wanted → Type 0 where
  wants_none : Wants [] []
  wants_last : {vs : List Val} {v : Val} {ws : List Wanted} → Wants vs ws → Wants (vs ++ v ∷ []) (value v ∷ ws)

pub data Lie : List Val → List Operand → Type 0 where
  none_lie : Lie [] []
  last_lies : {vs : List Val} {v : Val} {os : List Operand} → Lie vs os → Lie (vs ++ v ∷ []) (known v ∷ os)

-- local.set and local.tee set that local and no other
pub data Marks : Option ℕ → List Bool → List Bool → Type 0 where
  marks_none : {bs : List Bool} → Marks none bs bs
  marks_this : {b : Bool} {bs : List Bool} → Marks (some 0) (b ∷ bs) (true ∷ bs)
  marks_later : {n : ℕ} {b : Bool} {bs more : List Bool} → Marks (some n) bs more → Marks (some (suc n)) (b ∷ bs) (b ∷ more)
  marks_nothing : {n : ℕ} → Marks (some n) [] []
