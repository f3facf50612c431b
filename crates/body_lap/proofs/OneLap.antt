-- Each way out of one instruction by the general path: what is left to be judged, with it counted, is what was to be judged.
use Prim.Native.Nat.{ℕ, ◌+◌, ◌-◌, ◌<◌, ◌≤◌}
use mathlib.Core.Path.{◌≡◌, refl, sym, ap, ◌∙◌}
use mathlib.Core.List.{List}
use native.Mathlib.Omega.{arith}
use lib.ListN.{length}
use mir.Syntax.{w64}
use mir.Val.{Fits}
use Rattle.scope.specs.Memory.{flag}
use Rattle.scope.specs.Bodies.{judge_from}
use Rattle.scope.proofs.Impossible.{impossible}
use Rattle.body_state.specs.declared.Check.{Check}
use Rattle.body_state.specs.declared.Scene.{Scene}
use Rattle.body_state.specs.State.{context_at, state_at, Upright}
use Rattle.body_progress.specs.declared.Progress.{Progress}
use Rattle.body_progress.specs.Standing.{check_of}
use Rattle.body_progress.specs.Counted.{counted, judged_on, Running}
use Rattle.body_turn.specs.declared.Turn.{Turn}
use Rattle.body_turn.specs.declared.Turn
use Rattle.body_turn.specs.Turning.{Turning, turned_on, Turned}
use Rattle.body_lap.specs.declared.Lap.{Lap}
use Rattle.body_lap.specs.declared.Lap
use Rattle.body_lap.specs.Laps.{Within, progress_of, Lapping, Lapped}
use Rattle.body_lap.proofs.Between.{flag_few, check_back}

module _ {table work : List ℕ} {k : Scene} {s : List ℕ} {from : Progress} (p : Lapping table work k s from) where
  pub lap_within : Within from
  lap_within = record { deep = p.running.stands.upright.deep; ordered = p.running.stands.ordered }

  pub count_fits : Fits w64 (from.count + 1)
  count_fits =
      let f = p.running.fewer in
      let i = p.running.inside in
      let b = p.short in
      record { fits = omega arith }

  module _ {check : Check} (e : check ≡ check_of from.depth from.base from.top from.dead) where
    pub lap_turning : Turning table work k check s from.next
    lap_turning =
        let u = p.running in
        let i = u.inside in
        let b = p.short in
        let turning : Turning table work k (check_of from.depth from.base from.top from.dead) s from.next = record { standing = record { tabled = p.tabled; opening = record { upright = u.stands.upright; stamped = u.stamped; early = omega arith } }; few = p.few } in
        rw e turning

    module _ {rows codes work' : List ℕ} {turn : Turn} (t : Turned rows codes work work' k check s from.next turn) where
      fuel : length s ≤ from.next + (length s - from.count)
      fuel = let f = p.running.fewer in let i = p.running.inside in omega arith

      told : {x : Turn} → turn ≡ x → judged_on rows codes k s work from ≡ turned_on rows codes k s work' from.count (length s - from.count - 1) x
      told f =
          ap (λ (st : Check). counted from.count (judge_from (length s - from.count) (context_at rows codes work k) (state_at work k.locals st) s from.next)) (sym e)
          ∙ t.answer from.count (length s - from.count) fuel
          ∙ ap (λ (y : Turn). turned_on rows codes k s work' from.count (length s - from.count - 1) y) f

      pub lap_refused : {n place : ℕ} → turn ≡ Turn.TheVariants.Refused n place → Lapped rows codes work work' k s from (Lap.TheVariants.Refused n place)
      lap_refused f = record { answer = told f; running = λ to z. impossible cc; further = λ to z. impossible cc; size = t.size }

      pub lap_finished : {following : ℕ} → turn ≡ Turn.TheVariants.Finished following → Lapped rows codes work work' k s from (Lap.TheVariants.Finished (from.count + 1) following)
      lap_finished f = record { answer = told f; running = λ to z. impossible cc; further = λ to z. impossible cc; size = t.size }

      one_fewer : length s - from.count - 1 ≡ length s - (from.count + 1)
      one_fewer = omega arith

      pub lap_on : {later : Check} {following : ℕ} → turn ≡ Turn.TheVariants.On later following → {to : Progress} → to ≡ progress_of (from.count + 1) later following → Lapped rows codes work work' k s from (Lap.TheVariants.On to)
      lap_on {later} {following} f {to} z =
          let o = t.onward later following f in
          let back = check_back later in
          let u : Upright work' k.locals (check_of later.depth later.base (later.base + later.height) (flag later.dead)) = rw back o.upright in
          let low = o.upright.low in
          let forward = o.forward in
          let fewer = p.running.fewer in
          let stands : Running work' k s (progress_of (from.count + 1) later following) = record { stands = record { upright = u; ordered = record { above = omega arith; low = low }; flag = flag_few later.dead }; stamped = o.stamped; inside = o.inside; fewer = omega arith } in
          let next : Lapped rows codes work work' k s from (Lap.TheVariants.On (progress_of (from.count + 1) later following)) =
          record {
            answer =
                told f
                ∙ ap (λ (n : ℕ). counted (from.count + 1) (judge_from n (context_at rows codes work' k) (state_at work' k.locals later) s following)) one_fewer
                ∙ ap (λ (st : Check). counted (from.count + 1) (judge_from (length s - (from.count + 1)) (context_at rows codes work' k) (state_at work' k.locals st) s following)) (sym back);
            running = λ x y. let one : progress_of (from.count + 1) later following ≡ x = cc in rw (← one) stands;
            further = λ x y. let one : progress_of (from.count + 1) later following ≡ x = cc in rw (← one) (let h : from.count + 1 ≤ from.count + 1 = omega arith in h);
            size = t.size;
          } in
          rw z next

pub ruleset lap_exits = (lap_within, count_fits, lap_turning, lap_refused, lap_finished, lap_on)
