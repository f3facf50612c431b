-- An answer about open blocks, by its cases.
use Prim.Native.Nat.{ℕ}
use mathlib.Core.Path.{◌≡◌, refl}
use mathlib.Core.List.{List}
use Rattle.scope.specs.Machine.{Machine, Outcome, stuck}
use Rattle.scope.proofs.Impossible.{contradiction, impossible}
use Rattle.run_state.specs.declared.Stage.{Stage}
use Rattle.run_state.specs.declared.Stepped.{Stepped}
use Rattle.run_state.specs.declared.Stepped
use Rattle.run_state.specs.Machines.{Framed, Over}
use Rattle.run_state.specs.Moved.{Astray, is_stuck}
use Rattle.run_state.specs.Controlled.{Piled, controlled, SameHeap, ControlIs}

-- a later stage of the same heap
abbrev pub restaged : Stage → ℕ → ℕ → ℕ → ℕ → Stage
restaged st place base height depth =
    record { place = place; objects = st.objects; cells = st.cells; base = base; height = height; depth = depth }

module _ {s ends operands blocks : List ℕ} {st : Stage} {m : Machine} {want : Outcome} where
  -- the same outcome, said otherwise
  pub control_for : {wanted : Outcome} {r : Stepped} → wanted ≡ want → ControlIs s ends operands blocks st m want r → ControlIs s ends operands blocks st m wanted r
  control_for e c = rw e c

  pub control_astray : Astray m want → ControlIs s ends operands blocks st m want Stepped.TheVariants.Astray
  control_astray a =
      record {
        is = λ n. absurd (n refl);
        astray = λ e. a;
        piled = λ l e. impossible cc;
        framed = λ l e. impossible cc;
        heap = λ l e. impossible cc;
        results = λ l e. impossible cc;
        over = λ l e. impossible cc;
        last_heap = λ l e. impossible cc;
        traps_not = λ n e. contradiction cc;
      }

  pub control_stuck : want ≡ stuck → ControlIs s ends operands blocks st m want Stepped.TheVariants.Astray
  control_stuck e = control_astray (rw e is_stuck)

  pub control_goes :
      (later : Stage) → controlled s operands blocks m (Stepped.TheVariants.Goes later) ≡ want → Piled operands later → Framed s ends blocks later → SameHeap st later
      → ControlIs s ends operands blocks st m want (Stepped.TheVariants.Goes later)
  control_goes later is piled framed heap =
      record {
        is = λ n. is;
        astray = λ e. impossible cc;
        piled = λ l e. let same : later ≡ l = cc in rw (← same) piled;
        framed = λ l e. let same : later ≡ l = cc in rw (← same) framed;
        heap = λ l e. let same : later ≡ l = cc in rw (← same) heap;
        results = λ l e. impossible cc;
        over = λ l e. impossible cc;
        last_heap = λ l e. impossible cc;
        traps_not = λ n e. contradiction cc;
      }

  pub control_ends :
      (later : Stage) → controlled s operands blocks m (Stepped.TheVariants.Ends later) ≡ want → Piled operands later → Over s later → SameHeap st later
      → ControlIs s ends operands blocks st m want (Stepped.TheVariants.Ends later)
  control_ends later is piled over heap =
      record {
        is = λ n. is;
        astray = λ e. impossible cc;
        piled = λ l e. impossible cc;
        framed = λ l e. impossible cc;
        heap = λ l e. impossible cc;
        results = λ l e. let same : later ≡ l = cc in rw (← same) piled;
        over = λ l e. let same : later ≡ l = cc in rw (← same) over;
        last_heap = λ l e. let same : later ≡ l = cc in rw (← same) heap;
        traps_not = λ n e. contradiction cc;
      }
