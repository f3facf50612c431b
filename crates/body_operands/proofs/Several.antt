-- Taking several operands. The loop over a list: what is left of all of its types, from the last, is what is left of the
-- first i, taken from what the others have left. A plan: one part after the other.
use Prim.Native.Nat.{ℕ, suc, ◌+◌, ◌-◌, ◌≤◌, ◌<◌}
use mathlib.Core.Path.{◌≡◌, sym, ap, ◌∙◌}
use mathlib.Core.Bool.{Bool}
use mathlib.Core.Option.{some}
use mathlib.Core.List.{List, [], ◌∷◌, ◌++◌, map}
use native.Mathlib.Omega.{arith}
use lib.ListN.{length, get_elem?, take}
use Rattle.scope.specs.Syntax.{Types, Val}
use Rattle.scope.specs.BodyRules.{Wanted, value, Ruled, and_ruled, from_top}
use Rattle.scope.specs.Bodies.{Operand, take_all}
use Rattle.body_state.specs.declared.Values.{Values}
use Rattle.body_state.specs.State.{wanted_at_code, values_of, stack, CodeOf}
use Rattle.body_words.proofs.Laws.{value_code, reverse_there}
use Rattle.body_take.specs.declared.Take.{Take}
use Rattle.body_take.specs.declared.Take
use Rattle.body_take.specs.Took.{took_of}
use Rattle.body_operands.specs.declared.Left.{Left}
use Rattle.body_operands.specs.declared.Left
use Rattle.body_operands.specs.Taking.{left_of, left_in}
use Rattle.body_operands.proofs.Laws.{left-append}

-- a list

pub record FromTop (ts : Types) (dead : Bool) (work : List ℕ) (base height : ℕ) (vs : List Val) (left i : ℕ) : Type 0 where
  pub same : left_in (take_all ts dead (from_top vs) (stack work base height)) ≡ left_in (take_all ts dead (from_top (take i vs)) (stack work base left))

module _ {ts : Types} {dead : Bool} {work : List ℕ} {base height : ℕ} {vs : List Val} {left i : ℕ} (p : FromTop ts dead work base height vs left i) where
  pub list_done : i ≤ 0 → left_of work base (Left.TheVariants.Is left) ≡ left_in (take_all ts dead (from_top vs) (stack work base height))
  unfolding take_all
  list_done h = let none : i ≡ 0 = omega arith in rw (p.same, none)

  -- the last of the first i is taken, and then those before it
  list_next : {v : Val} → 0 < i → get_elem? vs (i - 1) ≡ some v → left_in (take_all ts dead (from_top vs) (stack work base height)) ≡ and_ruled (left_in (take_all ts dead (value v ∷ []) (stack work base left))) (λ more. left_in (take_all ts dead (from_top (take (i - 1) vs)) more))
  list_next {v} h e =
      let one : i ≡ suc (i - 1) = omega arith in
      let last : from_top (take i vs) ≡ value v ∷ from_top (take (i - 1) vs) = ap (λ (k : ℕ). from_top (take k vs)) one ∙ ap (map value) (reverse_there vs (i - 1) e) in
      p.same
      ∙ ap (λ (ws : List Wanted). left_in (take_all ts dead ws (stack work base left))) last
      ∙ left-append ts dead (value v ∷ []) (from_top (take (i - 1) vs)) (stack work base left)

module _ {ts : Types} {dead : Bool} {work : List ℕ} {base height : ℕ} {codes : List ℕ} {list : Values} {left i : ℕ} (p : FromTop ts dead work base height (values_of codes list) left i) (h : 0 < i) (l : i ≤ length (values_of codes list)) {c : ℕ} (a : CodeOf codes list (i - 1) c) where
  list_one : (r : Take) → took_of work base r ≡ take_all ts dead (wanted_at_code (c + 2) ∷ []) (stack work base left) → left_in (take_all ts dead (from_top (values_of codes list)) (stack work base height)) ≡ and_ruled (left_in (took_of work base r)) (λ more. left_in (take_all ts dead (from_top (take (i - 1) (values_of codes list))) more))
  list_one r b = list_next p h (a.is (omega arith)) ∙ rw (b, value_code c)

  pub list_missed : {r : Take} {number : ℕ} → r ≡ Take.TheVariants.Fault number → took_of work base r ≡ take_all ts dead (wanted_at_code (c + 2) ∷ []) (stack work base left) → left_of work base (Left.TheVariants.Fault number) ≡ left_in (take_all ts dead (from_top (values_of codes list)) (stack work base height))
  list_missed {r} e b = sym (rw e at (list_one r b))

  pub list_turn : {r : Take} {o fewer : ℕ} → r ≡ Take.TheVariants.Took o fewer → took_of work base r ≡ take_all ts dead (wanted_at_code (c + 2) ∷ []) (stack work base left) → FromTop ts dead work base height (values_of codes list) fewer (i - 1)
  list_turn {r} e b = record { same = rw e at (list_one r b) }

pub ruleset list_exits = (list_done, list_missed, list_turn)

-- a plan

module _ (ts : Types) (dead : Bool) (work : List ℕ) (base : ℕ) (ws vs : List Wanted) (os : List Operand) {r : Left} where
  pub part_missed : {number : ℕ} → r ≡ Left.TheVariants.Fault number → left_of work base r ≡ left_in (take_all ts dead ws os) → left_of work base (Left.TheVariants.Fault number) ≡ left_in (take_all ts dead (ws ++ vs) os)
  part_missed e a = rw (left-append ts dead ws vs os, ← a, e)

  pub part_got : {h : ℕ} → r ≡ Left.TheVariants.Is h → left_of work base r ≡ left_in (take_all ts dead ws os) → {x : Ruled (List Operand)} → x ≡ left_in (take_all ts dead vs (stack work base h)) → x ≡ left_in (take_all ts dead (ws ++ vs) os)
  part_got e a b = rw (left-append ts dead ws vs os, ← a, e) b

pub ruleset part_exits = (part_missed, part_got)
