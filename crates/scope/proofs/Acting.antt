-- What an instruction may leave behind, case by case: other operands, another heap, another value in a local, or a branch.
-- In each case the machine is again typed against a state of the checker: the one after the instruction's plan, or the
-- one that a branch lands in.
use Prim.Native.Nat.{ℕ, zero, suc}
use mathlib.Core.Path.{◌≡◌, refl, sym}
use mathlib.Core.Bool.{Bool, true, false, cond, false≢true}
use mathlib.Core.Option.{Option, some}
use mathlib.Core.List.{List, [], ◌∷◌, ◌++◌, map, reverse, Forall₂}
use lib.ListN.{get_elem?, get_or, set}
use Rattle.scope.specs.Syntax.{Val, types_of}
use Rattle.scope.specs.Bodies.{Operand, Frame, label_of, State, Body, start_state}
use Rattle.scope.specs.Machine.{Value, Store, Block, Machine, Outcome, goes, with_operands, with_heap, with_locals, branch}
use Rattle.scope.specs.Running.{program_of}
use Rattle.scope.proofs.Truths.{none_is_not-some}
use Rattle.scope.proofs.Pairs.{some_is_one, set_first, set-second, set_both}
use Rattle.scope.proofs.HeapLaws.{grows_itself, operands_later, locals-later}
use Rattle.scope.proofs.Taking.{Tops}
use Rattle.scope.proofs.Standing.{Accepts, accepted_there, lands}
use Rattle.scope.proofs.Branching.{jumps}
use Rattle.scope.proofs.Soundness.{Has, HasOperand, its_value, Covers, not_set, is_set, HeapTyped, Grows, Stands, context_for, BlocksTyped, no_block, in_block, in_loop, Typed, Proceeds, proceeds}

-- a test's two sides

pub decide :
    {b : Body} {heap : Store} (t : Bool) (f : Bool → Outcome) → (t ≡ true → Proceeds b heap (f true)) → (t ≡ false → Proceeds b heap (f false))
    → Proceeds b heap (f t)
decide true f yes' no' = yes' refl
decide false f yes' no' = no' refl

pub either_side : {b : Body} {heap : Store} (t : Bool) {x y : Outcome} → (t ≡ true → Proceeds b heap x) → (t ≡ false → Proceeds b heap y) → Proceeds b heap (cond t x y)
either_side t {x} {y} f g = decide t (λ s. cond s x y) f g

-- the blocks, after a change of the heap or of a local

pub blocks-later :
    {b : Body} {heap later : Store} {locals : List (Option Value)} {fs : List Frame} {bs : List Block} → Grows heap later
    → BlocksTyped b heap locals fs bs → BlocksTyped b later locals fs bs
blocks-later grows no_block = no_block
blocks-later grows (in_block under covers rest) = in_block (operands_later grows under) covers (blocks-later grows rest)
blocks-later grows (in_loop under covers stands rest) = in_loop (operands_later grows under) covers stands (blocks-later grows rest)

-- a value covers whatever was set
covers_any : {v : Value} (t : Bool) → Covers t (some v)
covers_any true = is_set
covers_any false = not_set

pub blocks-set :
    {b : Body} {heap : Store} {locals : List (Option Value)} {fs : List Frame} {bs : List Block} (x : ℕ) (v : Value) → BlocksTyped b heap locals fs bs
    → BlocksTyped b heap (set locals x (some v)) fs bs
blocks-set x v no_block = no_block
blocks-set x v (in_block under covers rest) = in_block under (set-second x covers covers_any) (blocks-set x v rest)
blocks-set x v (in_loop under covers stands rest) = in_loop under (set-second x covers covers_any) stands (blocks-set x v rest)

-- a local that is set holds a value
pub covered :
    {set : List Bool} {locals : List (Option Value)} (x : ℕ) {held : Option Value} → Forall₂ Covers set locals → get_or set x false ≡ true
    → get_elem? locals x ≡ some held → (v : Value) × (held ≡ some v)
covered x Forall₂.nil e f = absurd (none_is_not-some f)
covered zero (Forall₂.cons not_set cs) e f = absurd (false≢true e)
covered zero (Forall₂.cons (is_set {v = v}) cs) e f = (v, sym (some_is_one f))
covered (suc x) (Forall₂.cons c cs) e f = covered x cs e f

module _ {b : Body} {st : State} (m : Machine) (typed : Typed b st m) (alive : st.dead ≡ false) where
  -- other operands
  pub stays :
      {os : List Operand} {vs : List Value} → Stands b (record { frames = st.frames; operands = os; dead = st.dead; is_set = st.is_set }) m.code
      → Forall₂ (HasOperand (types_of b.types) m.heap) vs os → Proceeds b m.heap (goes (with_operands m vs))
  stays {os} stands has =
      proceeds
      (record {
        state = record { frames = st.frames; operands = os; dead = st.dead; is_set = st.is_set };
        stands = stands;
        alive = alive;
        typed = record { store = typed.store; operands = has; set = typed.set; blocks = typed.blocks };
      })
      (grows_itself m.heap)

  -- another heap
  pub changes :
      {heap : Store} {os : List Operand} {vs : List Value}
      → Stands b (record { frames = st.frames; operands = os; dead = st.dead; is_set = st.is_set }) m.code
      → Grows m.heap heap → HeapTyped b.types heap → Forall₂ (HasOperand (types_of b.types) heap) vs os
      → Proceeds b m.heap (goes (with_operands (with_heap m heap) vs))
  changes {os} stands grows objects has =
      proceeds
      (record {
        state = record { frames = st.frames; operands = os; dead = st.dead; is_set = st.is_set };
        stands = stands;
        alive = alive;
        typed =
            record {
              store = record { objects = objects; values = locals-later grows typed.store.values };
              operands = has;
              set = typed.set;
              blocks = blocks-later grows typed.blocks;
            };
      })
      grows

  -- another value in a local
  pub sets :
      (x : ℕ) {t : Val} {v : Value} {os : List Operand} {vs : List Value}
      → get_elem? (context_for b).locals x ≡ some t → Has (types_of b.types) m.heap v t
      → Stands b (record { frames = st.frames; operands = os; dead = st.dead; is_set = set st.is_set x true }) m.code
      → Forall₂ (HasOperand (types_of b.types) m.heap) vs os
      → Proceeds b m.heap (goes (with_operands (with_locals m (set m.locals x (some v))) vs))
  sets x {t} {v} {os} e h stands has =
      proceeds
      (record {
        state = record { frames = st.frames; operands = os; dead = st.dead; is_set = set st.is_set x true };
        stands = stands;
        alive = alive;
        typed =
            record {
              store = record { objects = typed.store.objects; values = set_first x typed.store.values e (its_value h) };
              operands = has;
              set = set_both x typed.set is_set;
              blocks = blocks-set x v typed.blocks;
            };
      })
      (grows_itself m.heap)

  -- a branch
  pub branches_to :
      Accepts (context_for b) (start_state b.function b.locals) b.code
      → (l : ℕ) (rs : List Val) (ws : List Value) {later : State} {left : List Operand} {vs below : List Value}
      → get_elem? (map label_of st.frames ++ b.function.results ∷ []) l ≡ some rs
      → Tops (types_of b.types) m.heap (reverse rs) left vs below
      → Stands b later m.code → later.frames ≡ st.frames
      → Proceeds b m.heap (branch (program_of b) (with_operands m ws) l vs)
  branches_to accepts l rs ws e tops stands same =
      jumps (with_operands m ws) typed.store l l rs typed.blocks e tops (λ f fs opens. lands opens same stands (accepted_there accepts stands))
