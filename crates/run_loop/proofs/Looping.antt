-- Step after step: the run from where it stands, with the steps before it counted, is the whole run; and soundness says that
-- no step is astray.
use Prim.Native.Nat.{ℕ, suc, ◌+◌, ◌-◌, ◌≤◌, ◌<◌}
use mathlib.Core.Path.{◌≡◌, refl, sym, ap, ap₂, ◌∙◌}
use mathlib.Core.List.{List, []}
use native.Mathlib.Omega.{arith}
use Rattle.std.specs.Prelude.{Result, Ok, Err}
use Rattle.scope.specs.declared.Refused.{Refused}
use Rattle.scope.specs.Instructions.{instr_at}
use Rattle.scope.specs.Machine.{Machine, Program, Outcome, goes, step}
use Rattle.scope.specs.Running.{run_by, run, on_outcome}
use Rattle.scope.proofs.Soundness.{Reaches, at_first, one_more}
use Rattle.scope.proofs.Impossible.{contradiction, impossible}
use Rattle.body_immediates.specs.declared.Instruction.{Instruction}
use Rattle.body_immediates.specs.Coding.{instruction_is}
use Rattle.body_immediates.proofs.Laws.{instruction_got, instruction_refused}
use Rattle.body_decoded.specs.Decoded.{instr_of}
use Rattle.run_ends.specs.Matching.{code_at}
use Rattle.run_ends.proofs.Codes.{code_here, code_refused}
use Rattle.run_state.specs.declared.Stage.{Stage}
use Rattle.run_state.specs.declared.Stepped.{Stepped}
use Rattle.run_state.specs.declared.Stepped
use Rattle.run_state.specs.Moved.{outcome_at}
use Rattle.run_state.specs.Machines.{Words, words, machine_at, program_at, Orderly, start_stage}
use Rattle.run_state.proofs.Told.{state-words, last_state-words}
use Rattle.run_sound.specs.Sound.{Sound}
use Rattle.run_step.specs.Carried.{Steppable, StepOf}
use Rattle.run_turn.specs.declared.Ending.{Ending}
use Rattle.run_turn.specs.declared.Ending
use Rattle.run_turn.specs.declared.Turn.{Turn}
use Rattle.run_turn.specs.declared.Turn
use Rattle.run_turn.specs.Endings.{ending_at}
use Rattle.run_turn.specs.Turns.{turn_of}
use Rattle.run_turn.proofs.Turning.{comes_to, turn_means}
use Rattle.run_loop.specs.Runs.{Readable, Runnable, RanFrom}

-- what holds before each step
pub record Going (s rows codes ends' : List ℕ) (count : ℕ) (w₀ : Words) (results first budget : ℕ) (w : Words) (st : Stage) (steps : ℕ) : Type 0 where
  pub sound : Sound s (program_at rows codes results) (machine_at s count w₀ (start_stage first))
  pub orderly : Orderly s ends' count w st
  pub reaches : Reaches (program_at rows codes results) (machine_at s count w₀ (start_stage first)) steps (machine_at s count w st)
  pub rest : run (program_at rows codes results) budget 0 (machine_at s count w₀ (start_stage first)) ≡ run (program_at rows codes results) (budget - steps) steps (machine_at s count w st)

pub going_first :
    {s rows codes ends' : List ℕ} {count : ℕ} {w : Words} {results first : ℕ} {budget : ℕ} → Runnable s rows codes ends' count w results first
    → {st : Stage} → st ≡ start_stage first → Going s rows codes ends' count w results first budget w st 0
going_first {budget} may is =
    let all : budget - 0 ≡ budget = omega arith in
    rw is (record { sound = may.sound; orderly = may.orderly; reaches = at_first; rest = rw all refl })

-- one step of the written run
one-step :
    (p : Program) (budget steps : ℕ) (m : Machine) → steps < budget
    → run p (budget - steps) steps m ≡ on_outcome (step p m) steps m (λ later. run p (budget - (steps + 1)) (steps + 1) later)
unfolding run run_by
one-step p budget steps m h =
    let more : budget - steps ≡ suc (budget - (steps + 1)) = omega arith in
    ap (λ (left : ℕ). run p left steps m) more

-- the instruction at the place

module _ {s ends' : List ℕ} {count : ℕ} {w : Words} {st : Stage} (may : Readable s ends' count w st) {read : Result (Instruction × ℕ) Refused}
    (is : read ≡ instruction_is (instr_at s st.place)) where
  pub none_read :
      {no : Refused} → read ≡ Err no → {rows codes : List ℕ} {w' : Words} {results : ℕ}
      → StepOf s rows codes ends' count w w' st results Stepped.TheVariants.Astray
  none_read e = absurd (may.more (code_refused s st.place (instruction_refused (instr_at s st.place) is e)))

  pub one_read : {i : Instruction} {next : ℕ} → read ≡ Ok (i, next) → Steppable s ends' count w st i next
  one_read e =
      let (instr, got-it, kept) = instruction_got (instr_at s st.place) is e in
      record { orderly = may.orderly; here = record { instr = instr; read = got-it; kept = kept; back = ap instr_of kept ∙ may.back instr _ got-it } }

pub ruleset read_exits = (none_read, one_read)

-- the run

module _ {s rows codes ends' : List ℕ} {count : ℕ} {w₀ : Words} {results first budget : ℕ} {o c l p b : List ℕ} {st : Stage} {steps : ℕ}
    (g : Going s rows codes ends' count w₀ results first budget (words o c l p b) st steps) where
  some-code : code_at s st.place ≡ [] → ⊥
  unfolding machine_at
  some-code e = g.sound.more g.reaches e

  pub going_spent : steps ≤ budget → budget ≤ steps → RanFrom s rows codes count w₀ (words o c l p b) results first budget (Ending.TheVariants.Spent st budget)
  unfolding ending_at run run_by
  going_spent few h =
      let none : budget - steps ≡ 0 = omega arith in
      let all : steps ≡ budget = omega arith in
      let rest = g.rest ∙ ap₂ (λ (left done : ℕ). run (program_at rows codes results) left done (machine_at s count (words o c l p b) st)) none all in
      record { is = sym rest; told = state-words g.orderly some-code; valued = g.orderly.valued; low = omega (arith, g.orderly.framed.room, g.orderly.framed.deep) }

  pub going_may : Readable s ends' count (words o c l p b) st
  unfolding machine_at
  going_may = record { orderly = g.orderly; more = some-code; back = λ i next e. g.sound.back g.reaches (code_here s st.place e) e }

  module _ {o' c' l' p' b' : List ℕ} {r : Stepped} (stepped : StepOf s rows codes ends' count (words o c l p b) (words o' c' l' p' b') st results r) (h : steps < budget) where
    same_machine : (number : ℕ) → r ≡ Stepped.TheVariants.Traps number → machine_at s count (words o c l p b) st ≡ machine_at s count (words o' c' l' p' b') st
    same_machine number e = sym (ap (λ (w : Words). machine_at s count w st) (stepped.is.same number e))

    -- the whole run, by what comes after the step
    comes :
        {answer : Stepped} → r ≡ answer → (answer ≡ Stepped.TheVariants.Astray → ⊥)
        → run (program_at rows codes results) budget 0 (machine_at s count w₀ (start_stage first))
        ≡ comes_to s count (words o' c' l' p' b') first (λ n later. run (program_at rows codes results) (budget - n) n later) (turn_of answer st steps)
    comes {answer} e n =
        let some : (r ≡ Stepped.TheVariants.Astray → ⊥) = λ a. n (sym e ∙ a) in
        g.rest
        ∙ one-step (program_at rows codes results) budget steps (machine_at s count (words o c l p b) st) h
        ∙ ap (λ (out : Outcome). on_outcome out steps (machine_at s count (words o c l p b) st) (λ later. run (program_at rows codes results) (budget - (steps + 1)) (steps + 1) later)) (sym (stepped.is.is some))
        ∙ turn_means s count (words o' c' l' p' b') first (λ n later. run (program_at rows codes results) (budget - n) n later) (machine_at s count (words o c l p b) st) st steps r some same_machine
        ∙ ap (λ (q : Stepped). comes_to s count (words o' c' l' p' b') first (λ n later. run (program_at rows codes results) (budget - n) n later) (turn_of q st steps)) e

    module _ {t : Turn} (is : t ≡ turn_of r st steps) where
      -- the turn, by what the step came to
      by : {found : Turn} → t ≡ found → {answer : Stepped} → r ≡ answer → found ≡ turn_of answer st steps
      by f e = sym f ∙ is ∙ ap (λ (q : Stepped). turn_of q st steps) e

      -- the run goes on only where the step does
      went : {later : Stage} {after : ℕ} → t ≡ Turn.TheVariants.On later after → r ≡ Stepped.TheVariants.Goes later
      went {later} {after} f = go r refl
        where
          go : (q : Stepped) → r ≡ q → r ≡ Stepped.TheVariants.Goes later
          go (Stepped.TheVariants.Goes st') e =
              let both : Turn.TheVariants.On later after ≡ Turn.TheVariants.On st' (steps + 1) = by f e in
              let same : st' ≡ later = cc in
              e ∙ ap Stepped.TheVariants.Goes same
          go (Stepped.TheVariants.Ends st') e = let both : Turn.TheVariants.On later after ≡ Turn.TheVariants.Over (Ending.TheVariants.Done st' (steps + 1)) = by f e in impossible cc
          go (Stepped.TheVariants.Traps number) e = let both : Turn.TheVariants.On later after ≡ Turn.TheVariants.Over (Ending.TheVariants.Trapped number st (steps + 1)) = by f e in impossible cc
          go Stepped.TheVariants.Astray e = let both : Turn.TheVariants.On later after ≡ Turn.TheVariants.Over Ending.TheVariants.Astray = by f e in impossible cc

      pub going_turn :
          {later : Stage} {after : ℕ} → t ≡ Turn.TheVariants.On later after → Going s rows codes ends' count w₀ results first budget (words o' c' l' p' b') later (steps + 1)
      unfolding comes_to outcome_at
      going_turn {later} f =
          let e = went f in
          let some : (Stepped.TheVariants.Goes later ≡ Stepped.TheVariants.Astray → ⊥) = λ a. contradiction cc in
          let stepped-so : step (program_at rows codes results) (machine_at s count (words o c l p b) st) ≡ goes (machine_at s count (words o' c' l' p' b') later) =
          sym (stepped.is.is (λ a. some (sym e ∙ a))) ∙ ap (outcome_at s count (words o' c' l' p' b')) e in
          record { sound = g.sound; orderly = stepped.is.orderly later e; reaches = one_more g.reaches stepped-so; rest = comes e some }

      pub going_over : {ended : Ending} → t ≡ Turn.TheVariants.Over ended → RanFrom s rows codes count w₀ (words o' c' l' p' b') results first budget ended
      unfolding comes_to
      going_over {ended} f = go r refl
        where
          go : (q : Stepped) → r ≡ q → RanFrom s rows codes count w₀ (words o' c' l' p' b') results first budget ended
          go (Stepped.TheVariants.Goes later) e = let both : Turn.TheVariants.Over ended ≡ Turn.TheVariants.On later (steps + 1) = by f e in impossible cc
          go (Stepped.TheVariants.Ends later) e =
              let both : Turn.TheVariants.Over ended ≡ Turn.TheVariants.Over (Ending.TheVariants.Done later (steps + 1)) = by f e in
              let same : ended ≡ Ending.TheVariants.Done later (steps + 1) = cc in
              let values = stepped.is.valued later e in
              let over = stepped.is.over later e in
              rw same
              (record { is = sym (comes e (λ a. contradiction cc)); told = last_state-words values over; valued = values; low = omega (arith, over.depth) })
          go (Stepped.TheVariants.Traps number) e =
              let both : Turn.TheVariants.Over ended ≡ Turn.TheVariants.Over (Ending.TheVariants.Trapped number st (steps + 1)) = by f e in
              let same : ended ≡ Ending.TheVariants.Trapped number st (steps + 1) = cc in
              let kept : words o' c' l' p' b' ≡ words o c l p b = stepped.is.same number e in
              let comes' = comes e (λ a. contradiction cc) in
              let orderly' : Orderly s ends' count (words o' c' l' p' b') st = rw kept g.orderly in
              rw same
              (record {
                is = sym comes';
                told = state-words orderly' some-code;
                valued = orderly'.valued;
                low = omega (arith, orderly'.framed.room, orderly'.framed.deep);
              })
          go Stepped.TheVariants.Astray e = absurd (g.sound.never g.reaches (stepped.is.astray e))

pub ruleset run_exits = (going_first, going_spent, going_may, going_turn, going_over)
