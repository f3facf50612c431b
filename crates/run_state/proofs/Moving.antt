-- A move is what an instruction comes to: one law for each kind of move, from what the instruction comes to and what the move
-- can be carried out with.
use Prim.Native.Nat.{ℕ, ◌+◌, ◌^◌, ◌≤◌, ◌<◌}
use mathlib.Core.Path.{◌≡◌, refl, sym, ap, ◌∙◌}
use mathlib.Core.Bool.{true}
use mathlib.Core.Option.{some}
use mathlib.Core.List.{List, ◌∷◌, reverse}
use native.Mathlib.Omega.{arith}
use native.Mathlib.Nat.{mod-eq_of_lt}
use lib.ListN.{length, get_elem?, set, take, drop}
use Rattle.scope.specs.Syntax.{i32}
use Rattle.scope.specs.Machine.{Value, number, null, object, Object, Machine, Program, Outcome, goes, traps, stuck, with_operands, with_heap, with_locals, with_field, has_room, finish, branch}
use Rattle.scope.proofs.Impossible.{contradiction}
use Rattle.type_table.specs.View.{link_at}
use Rattle.run_value.specs.declared.Value
use Rattle.run_value.specs.declared.Value.{Value as Carrier}
use Rattle.run_value.specs.Carried.{decoded}
use Rattle.run_state.specs.declared.Move.{Move}
use Rattle.run_state.specs.declared.Move
use Rattle.run_state.specs.Moved.{with_object, defaults_at, moved, Astray, is_stuck, dangling, Ready, MoveIs}

module _ {p : Program} {codes : List ℕ} {m : Machine} {want : Outcome} where
  stands : {r : Move} → (r ≡ Move.TheVariants.Astray → ⊥) → want ≡ moved p codes m r → Ready m r → MoveIs p codes m want r
  stands other same ready = record { is = λ n. sym same; astray = λ e. absurd (other e); ready = ready }

  lost : Astray m want → MoveIs p codes m want Move.TheVariants.Astray
  unfolding Ready
  lost a = record { is = λ n. absurd (n refl); astray = λ e. a; ready = record { low = omega arith } }

  pub strays : want ≡ stuck → MoveIs p codes m want Move.TheVariants.Astray
  strays e = lost (rw e is_stuck)

  -- an operand names no object
  pub dangles : (i o : ℕ) → get_elem? m.operands i ≡ some (object o) → length m.heap ≤ o → MoveIs p codes m want Move.TheVariants.Astray
  dangles i o there past = lost (dangling i o there past)

  pub trapping : {number : ℕ} → want ≡ traps number → MoveIs p codes m want (Move.TheVariants.Traps number)
  unfolding moved Ready
  trapping e = stands (λ q. contradiction cc) e (record { low = omega arith })

  pub leaving : (n : ℕ) → want ≡ goes (with_operands m (drop n m.operands)) → n ≤ length m.operands → MoveIs p codes m want (Move.TheVariants.Leaves n)
  unfolding moved Ready
  leaving n e low = stands (λ q. contradiction cc) e (record { low = low })

  pub giving : (n : ℕ) (v : Carrier) → want ≡ goes (with_operands m (decoded v ∷ drop n m.operands)) → n ≤ length m.operands → MoveIs p codes m want (Move.TheVariants.Gives n v)
  unfolding moved Ready
  giving n v e low = stands (λ q. contradiction cc) e (record { low = low })

  pub setting_local :
      (n x : ℕ) (v : Carrier) → want ≡ goes (with_operands (with_locals m (set m.locals x (some (decoded v)))) (drop n m.operands))
      → n ≤ length m.operands → x < length m.locals → MoveIs p codes m want (Move.TheVariants.SetsLocal n x v)
  unfolding moved Ready
  setting_local n x v e low there =
      stands (λ q. contradiction cc) e (record { low = low; there = there })

  pub setting_field :
      (n o i : ℕ) (v : Carrier) (it : Object) → get_elem? m.heap o ≡ some it
      → want ≡ goes (with_operands (with_heap m (set m.heap o (with_field it i (decoded v)))) (drop n m.operands))
      → n ≤ length m.operands → i < length it.fields → MoveIs p codes m want (Move.TheVariants.SetsField n o i v)
  unfolding moved Ready
  setting_field n o i v it there e low field =
      stands (λ q. contradiction cc) (rw there e) (record { low = low; it = it; there = there; field = field })

  pub making :
      (n x d k : ℕ) → want ≡ goes (with_object m x (link_at d) (reverse (take k (drop n m.operands))) (drop (n + k) m.operands))
      → n + k ≤ length m.operands → has_room m.heap k ≡ true → MoveIs p codes m want (Move.TheVariants.Makes n x d k)
  unfolding moved Ready
  making n x d k e low room =
      stands (λ q. contradiction cc) e (record { low = low; room = room })

  pub making_default :
      (n x d first k : ℕ) → want ≡ goes (with_object m x (link_at d) (defaults_at codes first k) (drop n m.operands))
      → n ≤ length m.operands → has_room m.heap k ≡ true → MoveIs p codes m want (Move.TheVariants.MakesDefault n x d first k)
  unfolding moved Ready
  making_default n x d first k e low room =
      stands (λ q. contradiction cc) e (record { low = low; room = room })

  pub branching : (n l : ℕ) → want ≡ branch p m l (drop n m.operands) → n ≤ length m.operands → MoveIs p codes m want (Move.TheVariants.Branches n l)
  unfolding moved Ready
  branching n l e low = stands (λ q. contradiction cc) e (record { low = low })

  pub returning : want ≡ finish p m m.operands → MoveIs p codes m want Move.TheVariants.Returns
  unfolding moved Ready
  returning e = stands (λ q. contradiction cc) e (record { low = omega arith })

  -- values by the cases in which they are carried

  module _ (n : ℕ) where
    pub giving_i32 : (b : ℕ) → b < 2 ^ 32 → want ≡ goes (with_operands m (number i32 b ∷ drop n m.operands)) → n ≤ length m.operands → MoveIs p codes m want (Move.TheVariants.Gives n (Value.TheVariants.I32 b))
    giving_i32 b small e low =
        giving n (Value.TheVariants.I32 b) (e ∙ ap (λ (c : ℕ). goes (with_operands m (number i32 c ∷ drop n m.operands))) (sym (mod-eq_of_lt small))) low

    pub giving_null : want ≡ goes (with_operands m (null ∷ drop n m.operands)) → n ≤ length m.operands → MoveIs p codes m want (Move.TheVariants.Gives n Value.TheVariants.Null)
    giving_null = giving n Value.TheVariants.Null

    pub giving_object : (o : ℕ) → want ≡ goes (with_operands m (object o ∷ drop n m.operands)) → n ≤ length m.operands → MoveIs p codes m want (Move.TheVariants.Gives n (Value.TheVariants.Object o))
    giving_object o = giving n (Value.TheVariants.Object o)

-- the same outcome, said otherwise
pub same_want : {p : Program} {codes : List ℕ} {m : Machine} {want want' : Outcome} {r : Move} → want' ≡ want → MoveIs p codes m want r → MoveIs p codes m want' r
same_want e a = rw e a
