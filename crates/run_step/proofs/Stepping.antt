-- Each way out of a step: the instruction at the place is the first of the code that is left, so what is done is its step.
use Prim.Native.Nat.{ℕ, zero, suc, ◌-◌, ◌≤◌}
use mathlib.Core.Path.{◌≡◌, refl, sym, ap, subst, ◌∙◌}
use mathlib.Core.Logic.{◌⊎◌, inl, inr}
use mathlib.Core.List.{List}
use native.Mathlib.Omega.{arith}
use lib.ListN.{length}
use Rattle.scope.specs.Reading.{got}
use Rattle.scope.specs.Instructions.{Op, Instr, block, loop, end, op, instr_at}
use Rattle.scope.specs.Machine.{Machine, Program, Outcome, stuck, do_instr, step, step_on}
use Rattle.scope.proofs.Impossible.{contradiction, impossible}
use Rattle.run_values.specs.Layout.{opened_block, opened_loop}
use Rattle.body_immediates.specs.declared.Instruction.{Instruction}
use Rattle.body_immediates.specs.declared.Instruction
use Rattle.body_decoded.specs.Decoded.{instr_of}
use Rattle.run_ends.specs.declared.Kind.{Kind}
use Rattle.run_ends.specs.declared.Kind
use Rattle.run_ends.specs.Matching.{code_at}
use Rattle.run_ends.specs.Noting.{kind_of}
use Rattle.run_ends.proofs.Codes.{code_here}
use Rattle.run_ends.proofs.Notes.{kind_inside}
use Rattle.run_state.specs.declared.Stage.{Stage}
use Rattle.run_state.specs.declared.Move.{Move}
use Rattle.run_state.specs.declared.Move
use Rattle.run_state.specs.declared.Stepped.{Stepped}
use Rattle.run_state.specs.declared.Stepped
use Rattle.run_state.specs.Machines.{Words, words, lower, machine_at, program_at, at_place, Nested, Framed, Orderly}
use Rattle.run_state.specs.Moved.{moved, Astray, MoveIs, outcome_at, StepIs}
use Rattle.run_state.specs.Planned.{Holds}
use Rattle.run_state.specs.Controlled.{Piled, ControlIs}
use Rattle.run_state.proofs.Open.{innermost, lower_more, framed_op}
use Rattle.run_blocks.specs.Blocks.{Low, OpensAs, as_block, as_loop, Opens, Closable, Closes}
use Rattle.body_decoded.specs.Named.{Modest}
use Rattle.run_moves.specs.Moving.{MoveOf}
use Rattle.body_decoded.proofs.Naming.{modest}
use Rattle.run_step.specs.Carried.{Movable, Carried, Inside, InsideIs, Steppable, StepOf}
use Rattle.run_step.proofs.Controlling.{astray_here, machine_controls, controlled-step}

-- a move that is what the instruction comes to, carried out

astray_or-not : (it : Move) → (it ≡ Move.TheVariants.Astray) ⊎ (it ≡ Move.TheVariants.Astray → ⊥)
astray_or-not Move.TheVariants.Astray = inl refl
astray_or-not (Move.TheVariants.Traps a) = inr (λ e. contradiction cc)
astray_or-not (Move.TheVariants.Leaves a) = inr (λ e. contradiction cc)
astray_or-not (Move.TheVariants.Gives a b) = inr (λ e. contradiction cc)
astray_or-not (Move.TheVariants.SetsLocal a b c) = inr (λ e. contradiction cc)
astray_or-not (Move.TheVariants.SetsField a b c d) = inr (λ e. contradiction cc)
astray_or-not (Move.TheVariants.Makes a b c d) = inr (λ e. contradiction cc)
astray_or-not (Move.TheVariants.MakesDefault a b c d e) = inr (λ e. contradiction cc)
astray_or-not (Move.TheVariants.Branches a b) = inr (λ e. contradiction cc)
astray_or-not Move.TheVariants.Returns = inr (λ e. contradiction cc)

-- an answer that is not astray is no stuck machine
not_stuck : (s : List ℕ) (count : ℕ) (w : Words) (r : Stepped) → (r ≡ Stepped.TheVariants.Astray → ⊥) → outcome_at s count w r ≡ stuck → ⊥
unfolding outcome_at
not_stuck s count w (Stepped.TheVariants.Goes st) n e = contradiction cc
not_stuck s count w (Stepped.TheVariants.Ends st) n e = contradiction cc
not_stuck s count w (Stepped.TheVariants.Traps number) n e = contradiction cc
not_stuck s count w Stepped.TheVariants.Astray n e = n refl

module _ {s ends codes : List ℕ} {count : ℕ} {w w' : Words} {p : Program} {m : Machine} {want : Outcome} {it : Move} {r : Stepped}
    (move : MoveIs p codes m want it) (done : StepIs s ends count w w' m (moved p codes m it) r) where
  moves_so : (r ≡ Stepped.TheVariants.Astray → ⊥) → it ≡ Move.TheVariants.Astray → ⊥
  unfolding moved
  moves_so n e = not_stuck s count w' r n (done.is n ∙ ap (moved p codes m) e)

  strays_so : Astray m (moved p codes m it) → (it ≡ Move.TheVariants.Astray) ⊎ (it ≡ Move.TheVariants.Astray → ⊥) → Astray m want
  strays_so a (inl e) = move.astray e
  strays_so a (inr n) = subst (Astray m) (move.is n) a

  moved-step : StepIs s ends count w w' m want r
  moved-step =
      record {
        is = λ n. done.is n ∙ move.is (moves_so n);
        astray = λ e. strays_so (done.astray e) (astray_or-not it);
        orderly = done.orderly;
        valued = done.valued;
        over = done.over;
        same = done.same;
      }

-- inside a block

holds_here :
    (s : List ℕ) {ends : List ℕ} {count : ℕ} {w : Words} {st : Stage} → Orderly s ends count w st
    → Holds (machine_at s count w st) w.objects w.cells w.locals w.operands count st
unfolding machine_at
holds_here s o = record { heap = refl; values = refl; held = refl; kept = o.valued.heap }

pub inside_modest : {s ends : List ℕ} {count : ℕ} {w : Words} {st : Stage} {i : Instruction} → Inside s ends count w st i → Modest i
inside_modest may = may.modest

module _ {s ends rows codes : List ℕ} {count : ℕ} {o c l p b : List ℕ} {st : Stage} {i : Instruction} {it : Move} (move : MoveOf rows codes o c l p count st i it) where
  pub inside_movable : Inside s ends count (words o c l p b) st i → Movable s ends count (words o c l p b) st it
  inside_movable may =
      record {
        orderly = may.orderly;
        ready = (move.is (program_at rows codes 0) (machine_at s count (words o c l p b) st) may.what refl (holds_here s may.orderly) may.is).ready;
      }

  pub inside_carried :
      Inside s ends count (words o c l p b) st i → {w' : Words} {results : ℕ} {r : Stepped} → Carried s codes ends count (words o c l p b) w' st results it r
      → InsideIs s rows codes ends count (words o c l p b) w' st results i r
  inside_carried may carried =
      record { is = λ q x types results e. moved-step (move.is q (machine_at s count (words o c l p b) st) x types (holds_here s may.orderly) e) (carried.is q results) }

pub ruleset inside_exits = (inside_modest, inside_movable, inside_carried)

-- steps

step_here :
    (s : List ℕ) (count : ℕ) (w : Words) (st : Stage) {instr : Instr} {next : ℕ} (p : Program) → instr_at s st.place ≡ got instr next
    → step p (machine_at s count w st) ≡ do_instr p (machine_at s count w (at_place st next)) st.place instr
unfolding step machine_at
step_here s count w st p e = ap (step_on p (machine_at s count w st)) (code_here s st.place e)

inside_op : (instr : Instr) → Kind.TheVariants.Inside ≡ kind_of instr → (o : Op) × (instr ≡ op o)
inside_op (block rs) e = impossible cc
inside_op (loop rs) e = impossible cc
inside_op end e = impossible cc
inside_op (op o) e = (o, refl)

frame_below : {s ends blocks : List ℕ} {st : Stage} → Framed s ends blocks st → lower blocks (st.depth - 1) ≤ st.base
unfolding lower
frame_below {s} {ends} {blocks} {st} f = go st.depth f.base f.nested
  where
    go : (d : ℕ) → st.base ≡ lower blocks d → Nested s ends blocks d (code_at s st.place) → lower blocks (d - 1) ≤ st.base
    go zero e n = let none : 0 - 1 ≡ 0 = omega arith in rw none (omega arith)
    go (suc d) e n = let less : suc d - 1 ≡ d = omega arith in rw less (omega (arith, (innermost d n).low, e, lower_more blocks d))

module _ {s ends : List ℕ} {count : ℕ} {o c l p b : List ℕ} {st : Stage} {i : Instruction} {next : ℕ} (may : Steppable s ends count (words o c l p b) st i next) where
  piled : Piled p st
  piled = record { room = may.orderly.valued.room; canon = may.orderly.valued.canon; high = may.orderly.valued.high }

  pub stage_low : Low st
  stage_low = record { high = may.orderly.valued.high }

  pub frame_closable : Closable p b st
  frame_closable = record { piled = piled; low = frame_below may.orderly.framed }

  -- what opens, closes or leaves a block is the step of the instruction that was read
  stepped :
      {p' b' : List ℕ} (q : Program) (r : Stepped)
      → ControlIs s ends p' b' st (machine_at s count (words o c l p b) (at_place st next)) (do_instr q (machine_at s count (words o c l p b) (at_place st next)) st.place may.here.instr) r
      → StepIs s ends count (words o c l p b) (words o c l p' b') (machine_at s count (words o c l p b) st) (step q (machine_at s count (words o c l p b) st)) r
  stepped {p'} {b'} q r a = rw (step_here s count (words o c l p b) st q may.here.read) (controlled-step s ends count (words o c l p b) st next p' b' may.orderly.valued r a)

  opened :
      {kind : ℕ} {b' : List ℕ} {r : Stepped} → OpensAs kind may.here.instr → Opens b b' st next kind r
      → {rows codes : List ℕ} {results : ℕ} {o' c' l' p' : List ℕ} → o' ≡ o → c' ≡ c → l' ≡ l → p' ≡ p
      → StepOf s rows codes ends count (words o c l p b) (words o' c' l' p' b') st results r
  opened {r = r} kinds a {rows} {codes} {results} f g h k =
      rw (f, g, h, k)
      (record { is = stepped (program_at rows codes results) r (a.is s ends p may.here.instr (program_at rows codes results) (machine_at s count (words o c l p b) (at_place st next)) may.orderly.framed piled may.here.read kinds (machine_controls s count (words o c l p b) (at_place st next))) })

  pub step_block :
      {x : ℕ} → i ≡ Instruction.TheVariants.Block x → {b' : List ℕ} {r : Stepped} → Opens b b' st next opened_block r
      → {rows codes : List ℕ} {results : ℕ} {o' c' l' p' : List ℕ} → o' ≡ o → c' ≡ c → l' ≡ l → p' ≡ p
      → StepOf s rows codes ends count (words o c l p b) (words o' c' l' p' b') st results r
  unfolding instr_of
  step_block {x} e = opened (subst (OpensAs opened_block) (sym (ap instr_of e) ∙ may.here.back) as_block)

  pub step_loop :
      {x : ℕ} → i ≡ Instruction.TheVariants.Loop x → {b' : List ℕ} {r : Stepped} → Opens b b' st next opened_loop r
      → {rows codes : List ℕ} {results : ℕ} {o' c' l' p' : List ℕ} → o' ≡ o → c' ≡ c → l' ≡ l → p' ≡ p
      → StepOf s rows codes ends count (words o c l p b) (words o' c' l' p' b') st results r
  unfolding instr_of
  step_loop {x} e = opened (subst (OpensAs opened_loop) (sym (ap instr_of e) ∙ may.here.back) as_loop)

  pub step_end :
      i ≡ Instruction.TheVariants.End → {p' : List ℕ} {r : Stepped} {results : ℕ} → Closes p p' b st next results (length s) r
      → {rows codes : List ℕ} {o' c' l' b' : List ℕ} → o' ≡ o → c' ≡ c → l' ≡ l → b' ≡ b
      → StepOf s rows codes ends count (words o c l p b) (words o' c' l' p' b') st results r
  unfolding instr_of
  step_end e {r = r} {results} a {rows} {codes} f g h k =
      let is : may.here.instr ≡ end = sym may.here.back ∙ ap instr_of e in
      rw (f, g, h, k)
      (record {
        is =
            stepped (program_at rows codes results) r
            (rw is
            (a.is s ends (program_at rows codes results) (machine_at s count (words o c l p b) (at_place st next)) may.orderly.framed (may.here.read ∙ ap (λ (j : Instr). got j next) is) refl refl (machine_controls s count (words o c l p b) (at_place st next))));
      })

  module _ (not_block : (w : ℕ) → i ≡ Instruction.TheVariants.Block w → ⊥) (not_loop : (w : ℕ) → i ≡ Instruction.TheVariants.Loop w → ⊥) (not_end : i ≡ Instruction.TheVariants.End → ⊥) where
    what : (x : Op) × (may.here.instr ≡ op x)
    what = inside_op may.here.instr ((kind_inside not_block not_loop not_end).is may.here.instr may.here.kept)

    pub step_may : Inside s ends count (words o c l p b) (at_place st next) i
    step_may =
        record {
          orderly =
              record {
                valued =
                    record {
                      heap = may.orderly.valued.heap;
                      local_room = may.orderly.valued.local_room;
                      local_canon = may.orderly.valued.local_canon;
                      room = may.orderly.valued.room;
                      canon = may.orderly.valued.canon;
                      high = may.orderly.valued.high;
                    };
                framed = framed_op may.orderly.framed (may.here.read ∙ ap (λ (j : Instr). got j next) what.1);
              };
          modest = subst Modest (sym may.here.kept) (modest may.here.instr);
          what = what.0;
          is = may.here.back ∙ what.1;
        }

    past_step :
        {w' : Words} {want : Outcome} {r : Stepped} → StepIs s ends count (words o c l p b) w' (machine_at s count (words o c l p b) (at_place st next)) want r
        → StepIs s ends count (words o c l p b) w' (machine_at s count (words o c l p b) st) want r
    past_step a =
        record {
          is = a.is;
          astray = λ e. astray_here s count (words o c l p b) st next (a.astray e);
          orderly = a.orderly;
          valued = a.valued;
          over = a.over;
          same = a.same;
        }

    pub step_op :
        {rows codes : List ℕ} {results : ℕ} {o' c' l' p' : List ℕ} {r : Stepped}
        → InsideIs s rows codes ends count (words o c l p b) (words o' c' l' p' b) (at_place st next) results i r → {b' : List ℕ} → b' ≡ b
        → StepOf s rows codes ends count (words o c l p b) (words o' c' l' p' b') st results r
    unfolding do_instr
    step_op {rows} {codes} {results} a k =
        let here' = step_here s count (words o c l p b) st (program_at rows codes results) may.here.read in
        let is : may.here.instr ≡ op what.0 = what.1 in
        rw k (record { is = rw (here', is) (past_step (a.is (program_at rows codes results) what.0 refl refl (may.here.back ∙ is))) })

pub ruleset step_exits = (stage_low, frame_closable, step_block, step_loop, step_end, step_may, step_op)
