-- What comes of an instruction, made of its parts: the check goes on, or it is refused and nothing was written.
use Prim.Native.Nat.{ℕ, ◌+◌, ◌≤◌, ◌<◌}
use mathlib.Core.Path.{◌≡◌, ap}
use mathlib.Core.Bool.{Bool}
use mathlib.Core.List.{List, map}
use lib.ListN.{get_or, length}
use borrow.Author.Tests.{lt-leb, le-leb}
use Rattle.scope.specs.Sizes.{most_locals, most_operands}
use Rattle.scope.specs.Refusals.{oversize}
use Rattle.scope.specs.Lists.{sum}
use Rattle.scope.specs.BodyRules.{Ruled, allowed, fault}
use Rattle.scope.specs.Bodies.{Operand, outer_of, Next, goes_on, within_operands}
use Rattle.scope.proofs.Impossible.{contradiction}
use Rattle.body_state.specs.declared.Check.{Check}
use Rattle.body_state.specs.declared.Step.{Step}
use Rattle.body_state.specs.declared.Step
use Rattle.body_state.specs.State.{frames_at, state_at, Rests, Upright, Stamped, step_of, Stepped}
use Rattle.body_state.proofs.Alike.{below_all}

pub stepped-on : {work work' : List ℕ} {count depth : ℕ} {want : Ruled Next} (st : Check) → allowed (goes_on (state_at work' count st)) ≡ want → Upright work' count st → ((at : ℕ) → Stamped work count depth at → Stamped work' count st.depth at) → ((i : ℕ) → i < most_locals → get_or work' i 0 ≡ get_or work i 0) → length work' ≡ length work → Stepped work work' count depth want (Step.TheVariants.On st)
stepped-on {work} {work'} {count} st e u s t l =
    record {
      answer = e;
      upright = λ st' f. let same : st ≡ st' = cc in rw (← same) u;
      stamped = λ st' f at g. let same : st ≡ st' = cc in rw (← same) (s at g);
      types = t;
      size = l;
    }

-- nothing is written, and the check does not go on
pub stepped_stop : {work work' : List ℕ} (count depth : ℕ) {want : Ruled Next} (r : Step) → ((st : Check) → r ≡ Step.TheVariants.On st → ⊥) → work' ≡ work → step_of work count r ≡ want → Stepped work work' count depth want r
stepped_stop count depth r never e want =
    record {
      answer = rw e want;
      upright = λ st f. absurd (never st f);
      stamped = λ st f. absurd (never st f);
      types = λ i h. rw e;
      size = rw e;
    }

pub stepped_fault : {work work' : List ℕ} (count depth : ℕ) {want : Ruled Next} {n : ℕ} → work' ≡ work → fault n ≡ want → Stepped work work' count depth want (Step.TheVariants.Fault n)
stepped_fault count depth {n = n} e want = stepped_stop count depth (Step.TheVariants.Fault n) (λ st f. contradiction cc) e want

-- what a step is to come to may be written in another way
pub stepped_as : {work work' : List ℕ} {count depth : ℕ} {want want' : Ruled Next} {r : Step} → want ≡ want' → Stepped work work' count depth want r → Stepped work work' count depth want' r
stepped_as {work} {work'} {count} {depth} {want} {want'} {r} e s = rw (← e) s

-- 4: the operands in all frames

module _ {work : List ℕ} (count depth : ℕ) {base : ℕ} (r : Rests work depth base) (os : List Operand) (dead : Bool) (is_set : List Bool) where
  all_operands_lem : length os + sum (map (λ f. length (outer_of f)) (frames_at work count depth)) ≡ length os + base
  all_operands_lem = ap (λ (n : ℕ). length os + n) (below_all count depth r)

  pub within_on : length os + base ≤ most_operands → within_operands (record { frames = frames_at work count depth; operands = os; dead = dead; is_set = is_set }) ≡ allowed (goes_on (record { frames = frames_at work count depth; operands = os; dead = dead; is_set = is_set }))
  within_on h = rw (all_operands_lem, le-leb (length os + base) most_operands h)

  pub within_full : most_operands < length os + base → within_operands (record { frames = frames_at work count depth; operands = os; dead = dead; is_set = is_set }) ≡ fault oversize
  within_full h = rw (all_operands_lem, lt-leb (length os + base) most_operands h)
