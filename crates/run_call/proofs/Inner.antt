-- Each way out of the run: the state that the steps leave, the locals at their start, and what was prepared.
use Prim.Native.Nat.{ℕ, ◌*◌, ◌≤◌}
use mathlib.Core.Path.{◌≡◌, sym, ap, ◌∙◌}
use mathlib.Core.List.{List}
use native.Mathlib.Omega.{arith}
use lib.ListN.{length}
use Rattle.std.specs.Prelude.{Result, Ok, Err}
use Rattle.scope.specs.declared.Rejected.{Rejected}
use Rattle.scope.specs.declared.Place.{Place}
use Rattle.scope.specs.declared.Ran.{Ran}
use Rattle.scope.specs.declared.Ran
use Rattle.scope.specs.Layout.{block_span}
use Rattle.scope.specs.Judging.{rejected}
use Rattle.scope.specs.Running as running
use Rattle.scope.specs.Memory.{StateWords, state_words, filled}
use Rattle.scope.specs.Answers.{machine_of, ran_as}
use Rattle.run_stack.specs.Pile.{LocalRoom, Started}
use Rattle.run_state.specs.declared.Stage.{Stage}
use Rattle.run_state.specs.Machines.{words, machine_at, Valued}
use Rattle.run_state.specs.Written.{StateTold}
use Rattle.run_buffers.specs.States.{state_of, Settling, Settled}
use Rattle.run_buffers.proofs.Settles.{settled_told}
use Rattle.run_turn.specs.declared.Ending.{Ending}
use Rattle.run_turn.specs.Endings.{stage_of}
use Rattle.run_loop.specs.Runs.{RanFrom}
use Rattle.run_ending.specs.Telling.{tell_of}
use Rattle.run_ending.proofs.Endings.{told-ending, told-machine}
use Rattle.run_prepare.specs.Preparing.{Readied}
use Rattle.run_call.specs.Trial.{Startable, run_here, RunStarted, Placed, RunPlaced, Waiting, RunPrepared}
use Rattle.run_call.proofs.Startable.{trial_is, runnable}
use Rattle.run_call.proofs.Outer.{filled_long, refused_tried}

-- the run

module _ {s rows codes ends : List ℕ} {count : ℕ} {c o e l p b : List ℕ} {results first : ℕ}
    (may : Startable s rows codes ends count (state_of c o e l p b) results first) {budget : ℕ} {o' e' l' p' b' : List ℕ} {ended : Ending}
    (ran : RanFrom s rows codes count (words o e l p b) (words o' e' l' p' b') results first budget ended) {st : Stage} (at : st ≡ stage_of first ended) where
  pub may_settle : Settling count st (state_of c o' e' l' p' b')
  may_settle =
      let v : Valued count (words o' e' l' p' b') st = rw at ran.valued in
      let low : block_span * st.depth ≤ length b' = rw at ran.low in
      record {
        counts = may.room;
        objects = omega (arith, v.heap.object_room, v.heap.few);
        cells = omega (arith, v.heap.cell_room, v.heap.most);
        locals = omega (arith, v.local_room.room, v.local_room.few);
        operands = omega (arith, v.room, v.high);
        blocks = low;
        high = v.high;
      }

  module _ {state' : StateWords} (settled : Settled count st (state_of c o' e' l' p' b') state') (so : length o' ≡ length o) (se : length e' ≡ length e)
      (sl : length l' ≡ length l) (sp : length p' ≡ length p) (sb : length b' ≡ length b) where
    last_machine : machine_at s count (words o' e' l' p' b') st ≡ machine_of (run_here s rows codes count (state_of c o e l p b) results first budget)
    last_machine = ap (machine_at s count (words o' e' l' p' b')) at ∙ told-machine s count (words o' e' l' p' b') first ended ∙ ap machine_of ran.is

    pub run_settled : {r : Ran} → r ≡ tell_of first ended → RunStarted s rows codes count (state_of c o e l p b) state' results first budget r
    run_settled {r} tells =
        let told : StateTold count (words o' e' l' p' b') st (state_words s (machine_at s count (words o' e' l' p' b') st)) = rw at ran.told in
        let written = settled_told settled told in
        let machine = last_machine in
        record {
          answer = tells ∙ told-ending s count (words o' e' l' p' b') first ended ran.told ∙ ap (ran_as s) ran.is;
          written =
              rw (← machine)
              (record {
                counts = written.counts;
                objects = written.objects ∙ filled_long o o' (state_words s (machine_at s count (words o' e' l' p' b') st)).objects so;
                cells = written.cells ∙ filled_long e e' (state_words s (machine_at s count (words o' e' l' p' b') st)).cells se;
                locals = written.locals ∙ filled_long l l' (state_words s (machine_at s count (words o' e' l' p' b') st)).locals sl;
                operands = written.operands ∙ filled_long p p' (state_words s (machine_at s count (words o' e' l' p' b') st)).operands sp;
                blocks = written.blocks ∙ filled_long b b' (state_words s (machine_at s count (words o' e' l' p' b') st)).blocks sb;
              });
        }

pub ruleset settle_exits = (may_settle, run_settled)

-- the locals at their start

module _ {s rows codes work ends : List ℕ} {count : ℕ} {c o e l p b : List ℕ} {results next : ℕ}
    (may : Placed s rows codes work ends count (state_of c o e l p b) results next) where
  pub may_start-locals : LocalRoom l count
  may_start-locals = record { room = may.room.locals; few = may.placing.locals.few }

  module _ {l₁ : List ℕ} (started : Started work l l₁ count) where
    pub may_run : Startable s rows codes ends count (state_of c o e l₁ p b) results next
    may_run =
        record {
          runnable =
              runnable may.placing.runs may.placing.table may.placing.function may.placing.locals started may.matching
              may.room.objects
              may.room.cells
              (omega (arith, may.room.locals, started.size))
              may.room.operands
              may.room.blocks;
          ranged = may.placing.table.ranged;
          room = may.room.counts;
        }

    pub placed :
        {state' : StateWords} {budget : ℕ} {r : Ran} → RunStarted s rows codes count (state_of c o e l₁ p b) state' results next budget r
        → RunPlaced s rows codes work count (state_of c o e l p b) state' results next budget r
    placed {budget = budget} a =
        record {
          is = λ body placing.
              let same = trial_is placing.table placing.function placing.locals started o e p b budget in
              record {
                answer = a.answer ∙ ap (ran_as s) (sym same);
                counts = a.written.counts ∙ ap (λ (x : running.Ending). filled c (state_words s (machine_of x)).counts) (sym same);
                objects = a.written.objects ∙ ap (λ (x : running.Ending). filled o (state_words s (machine_of x)).objects) (sym same);
                cells = a.written.cells ∙ ap (λ (x : running.Ending). filled e (state_words s (machine_of x)).cells) (sym same);
                locals = a.written.locals ∙ filled_long l l₁ (state_words s (machine_of (run_here s rows codes count (state_of c o e l₁ p b) results next budget))).locals started.size ∙ ap (λ (x : running.Ending). filled l (state_words s (machine_of x)).locals) (sym same);
                operands = a.written.operands ∙ ap (λ (x : running.Ending). filled p (state_words s (machine_of x)).operands) (sym same);
                blocks = a.written.blocks ∙ ap (λ (x : running.Ending). filled b (state_words s (machine_of x)).blocks) (sym same);
              };
        }

-- what was prepared

module _ {s : List ℕ} {budget : ℕ} {rows codes work ends : List ℕ} {c o e l p b : List ℕ} {prepared : Result (ℕ × ℕ × ℕ) Rejected}
    (may : Waiting s budget rows codes work ends (state_of c o e l p b) prepared) where
  pub refusal-told :
      {no : Rejected} → prepared ≡ Err no → {c' o' e' l' p' b' : List ℕ}
      → c' ≡ c → o' ≡ o → e' ≡ e → l' ≡ l → p' ≡ p → b' ≡ b
      → RunPrepared s budget rows codes work ends (state_of c o e l p b) (state_of c' o' e' l' p' b') prepared (Ran.TheVariants.Refused no.number no.place)
  refusal-told {no} is f g h i j k =
      record { is = λ want prepares. let rejects : want ≡ rejected no.number no.place = rw is at prepares in refused_tried rejects may.zero f g h i j k }

  module _ {count results next : ℕ} (is : prepared ≡ Ok (count, results, next)) where
    pub may_place : Placed s rows codes work ends count (state_of c o e l p b) results next
    may_place =
        let ready : Readied may.want budget s rows codes work ends count results next = rw is at may.prepares in
        record { body = ready.body; placing = ready.placing; matching = ready.matching; room = may.room count results next is }

    pub run-told :
        {state' : StateWords} {r : Ran} → RunPlaced s rows codes work count (state_of c o e l p b) state' results next budget r
        → RunPrepared s budget rows codes work ends (state_of c o e l p b) state' prepared r
    run-told a =
        record {
          is = λ want prepares.
              let ready : Readied want budget s rows codes work ends count results next = rw is at prepares in
              rw ready.is (a.is ready.body ready.placing);
        }
