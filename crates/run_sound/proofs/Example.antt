-- What soundness along a run says of one body: a loop that makes objects until there is no room. After any number of steps
-- its operands and blocks fit; after one it stands before an instruction that reads back as itself, and is not astray.
use Prim.Native.Nat.{ℕ, ◌≤◌}
use native.Mathlib.Omega.{arith}
use mathlib.Core.Path.{◌≡◌, refl}
use mathlib.Core.List.{List, [], ◌∷◌}
use lib.ListN.{length, drop}
use Rattle.scope.specs.Sizes.{most_types}
use Rattle.scope.specs.Sections.{empty_library}
use Rattle.scope.specs.Judging.{Judged, accepted, rejected}
use Rattle.scope.specs.Instructions.{op, struct_new_default}
use Rattle.scope.specs.Bodies.{Body, judge_body}
use Rattle.scope.specs.Machine.{open_loop, Machine, with_control, step}
use Rattle.scope.specs.Running.{start_of, program_of}
use Rattle.scope.proofs.Computes.{computes}
use Rattle.scope.proofs.Programs.{types}
use Rattle.scope.proofs.Soundness.{Reaches, at_first, one_more, Runs}
use Rattle.body_immediates.specs.Coding.{instruction_of}
use Rattle.body_decoded.specs.Decoded.{instr_of}
use Rattle.run_state.specs.Moved.{Astray}
use Rattle.run_sound.specs.Sound.{Fitting, Sound}
use Rattle.run_sound.proofs.Along.{sound_run}

-- no locals; loop, struct.new_default 2, drop, br 0, end; unreachable, end
abbrev bytes : List ℕ
bytes = 0x00 ∷ 0x03 ∷ 0x40 ∷ 0xFB ∷ 0x01 ∷ 0x02 ∷ 0x1A ∷ 0x0C ∷ 0x00 ∷ 0x0B ∷ 0x00 ∷ 0x0B ∷ []

abbrev body_of : Judged Body → Body
body_of (accepted b) = b
body_of (rejected n p) = record { types = []; function = record { parameters = []; results = [] }; locals = []; code = [] }

abbrev maker : Body
maker = body_of (judge_body empty_library types bytes 6)

maker_runs : Runs empty_library types bytes 6 maker
unfolding computes
maker_runs = record { is_accepted = refl; defaults = refl }

maker_few : length maker.types ≤ most_types
unfolding computes
maker_few = omega arith

pub maker_sound : Sound bytes (program_of maker) (start_of maker)
maker_sound = sound_run maker_runs maker_few refl refl

-- in the loop, after one step
abbrev looping : Machine
looping = with_control (start_of maker) [] (open_loop 1 [] (drop 1 maker.code) ∷ []) (drop 1 maker.code)

maker_loops : Reaches (program_of maker) (start_of maker) 1 looping
unfolding computes
maker_loops = one_more {n = 0} at_first refl

pub maker-fits : {n : ℕ} {m : Machine} → Reaches (program_of maker) (start_of maker) n m → Fitting m
maker-fits reaches = maker_sound.bounds reaches

pub maker_goes : Astray looping (step (program_of maker) looping) → ⊥
maker_goes astray = maker_sound.never maker_loops astray

pub maker_reads : instr_of (instruction_of (op (struct_new_default 2))) ≡ op (struct_new_default 2)
unfolding computes
maker_reads = maker_sound.back {next = 6} {code = drop 2 maker.code} maker_loops refl refl
