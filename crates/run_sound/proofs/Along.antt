-- Soundness along a run, for the run's code.
use Prim.Native.Nat.{ℕ, ◌≤◌}
use mathlib.Core.Path.{◌≡◌}
use mathlib.Core.List.{List}
use lib.ListN.{length}
use Rattle.scope.specs.Sizes.{most_types}
use Rattle.scope.specs.Bodies.{Body}
use Rattle.scope.specs.Machine.{Machine, Program}
use Rattle.scope.specs.Running.{start_of, program_of}
use Rattle.scope.proofs.Soundness.{Runs}
use Rattle.scope.proofs.SoundnessHolds.{soundness}
use Rattle.run_sound.specs.Sound.{Sound}
use Rattle.run_sound.proofs.Bounds.{machine_bounded}
use Rattle.run_sound.proofs.Astraying.{not_astray, code_there}
use Rattle.run_sound.proofs.Back.{read_back}

module _ {library section s : List ℕ} {x : ℕ} {b : Body} (runs : Runs library section s x b) (few : length b.types ≤ most_types) where
  sound_body : Sound s (program_of b) (start_of b)
  sound_body =
      record {
        bounds = λ reaches. machine_bounded (soundness.typed runs reaches);
        never = λ reaches astray. not_astray (soundness.typed runs reaches) (soundness.next runs reaches) astray;
        more = λ reaches e. code_there runs (soundness.typed runs reaches) e;
        back = λ reaches e read. read_back runs few (soundness.typed runs reaches) e read;
      }

  pub sound_run : {p : Program} {m₀ : Machine} → program_of b ≡ p → start_of b ≡ m₀ → Sound s p m₀
  sound_run e f = rw (← e, ← f) sound_body
