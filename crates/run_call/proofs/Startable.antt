-- The memory in which the run of an accepted body starts: it says the written run's program and its first machine, so what
-- soundness says of that run holds of the run in this memory.
use Prim.Native.Nat.{ℕ, ◌≤◌}
use mathlib.Core.Path.{◌≡◌, refl, sym, ap, ap₂, ◌∙◌}
use mathlib.Core.List.{List, [], map}
use native.Mathlib.Omega.{arith}
use lib.ListN.{length}
use Rattle.scope.specs.Layout.{objects_size, cells_size, locals_size, operands_size, blocks_size}
use Rattle.scope.specs.Bodies.{Body}
use Rattle.scope.specs.Machine.{Machine, Program, default_of}
use Rattle.scope.specs.Running.{run, start_of, program_of, trial_of}
use Rattle.scope.proofs.Soundness.{Runs}
use Rattle.run_values.specs.Values.{numbered}
use Rattle.run_heap.proofs.Made.{kept-none}
use Rattle.run_stack.specs.Pile.{pile, Started}
use Rattle.run_ends.specs.Matching.{EndsOf, here}
use Rattle.run_state.specs.Machines.{words, lower, blocks_at, machine_at, program_at, outermost, Orderly, start_stage}
use Rattle.run_sound.proofs.Along.{sound_run}
use Rattle.run_loop.specs.Runs.{Runnable}
use Rattle.run_prepare.specs.Parts.{Parts, TypesAgain, FunctionAgain, LocalsAgain}
use Rattle.run_prepare.proofs.Bodily.{parts, few_types}

program_is :
    {b : Body} {rows codes : List ℕ} {types first n second results : ℕ} → TypesAgain b rows codes types → FunctionAgain b codes first n second results
    → program_of b ≡ program_at rows codes results
program_is t f =
    let v = sym t.types in
    let r = sym f.many_results in
    λ i. record { types = v i; results = r i }

module _ {b : Body} {s work : List ℕ} {count next : ℕ} (l : LocalsAgain b s work count next) {locals locals₁ : List ℕ} (a : Started work locals locals₁ count) where
  start_is : (objects cells operands blocks : List ℕ) → start_of b ≡ machine_at s count (words objects cells locals₁ operands blocks) (start_stage next)
  unfolding machine_at numbered pile blocks_at
  start_is objects cells operands blocks =
      let held = sym (a.is ∙ ap (map default_of) l.types) in
      let code = l.code in
      λ i. record { heap = []; locals = held i; operands = []; blocks = []; code = code i }

-- the written run is the run from what this memory says
pub trial_is :
    {b : Body} {rows codes : List ℕ} {types first n second results : ℕ} → TypesAgain b rows codes types → FunctionAgain b codes first n second results
    → {s work : List ℕ} {count next : ℕ} → LocalsAgain b s work count next → {locals locals₁ : List ℕ} → Started work locals locals₁ count
    → (objects cells operands blocks : List ℕ) (budget : ℕ)
    → (trial_of b budget).ending ≡ run (program_at rows codes results) budget 0 (machine_at s count (words objects cells locals₁ operands blocks) (start_stage next))
trial_is t f l a objects cells operands blocks budget = ap₂ (λ (p : Program) (m : Machine). run p budget 0 m) (program_is t f) (start_is l a objects cells operands blocks)

module _ {library section s : List ℕ} {x : ℕ} {b : Body} (runs : Runs library section s x b) {rows codes : List ℕ} {types first n second results : ℕ}
    (t : TypesAgain b rows codes types) (f : FunctionAgain b codes first n second results) {work : List ℕ} {count next : ℕ}
    (l : LocalsAgain b s work count next) {locals locals₁ : List ℕ} (a : Started work locals locals₁ count) {ends : List ℕ} (e : EndsOf s ends next)
    {objects cells operands blocks : List ℕ} where
  start_orderly :
      Parts library section s x b → objects_size ≤ length objects → cells_size ≤ length cells → locals_size ≤ length locals₁ → operands_size ≤ length operands → blocks_size ≤ length blocks
      → Orderly s ends count (words objects cells locals₁ operands blocks) (start_stage next)
  unfolding lower
  start_orderly p o c h v k =
      record {
        valued =
            record {
              heap = kept-none objects cells o c;
              local_room = record { room = h; few = l.few };
              local_canon = a.canon;
              room = v;
              canon = record { each = λ j z. absurd (omega arith) };
              high = omega arith;
            };
        framed =
            record {
              short = p.short;
              room = k;
              deep = omega arith;
              base = refl;
              charted = record { first = next; inside = l.inside; reached = here; matching = e };
              nested = outermost;
            };
      }

  pub runnable :
      objects_size ≤ length objects → cells_size ≤ length cells → locals_size ≤ length locals₁ → operands_size ≤ length operands → blocks_size ≤ length blocks
      → Runnable s rows codes ends count (words objects cells locals₁ operands blocks) results next
  runnable o c h v k =
      let p = parts runs.is_accepted in
      record { orderly = start_orderly p o c h v k; sound = sound_run runs (few_types p) (program_is t f) (start_is l a objects cells operands blocks) }
