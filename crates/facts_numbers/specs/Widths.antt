-- The bits of every number in a run are within the width of its kind: "bits below 2 ^ 32" of an i32 or f32, "below 2 ^ 64" of an i64
-- or f64, in every operand, local, field and below every open block, after every number of steps of a body that was read from
-- bytes. Constants are read so, defaults are zero, and every result is so (specs/Fitting.antt).
use Rattle.std.specs.Prelude.{ℕ, ◌<◌, ◌^◌, ◌≡◌, List, [], ◌∷◌}
use Rattle.std.proofs.Math.Option.{Option, none, some}
use Rattle.scope.specs.Syntax.{Number}
use Rattle.scope.specs.Judging.{accepted}
use Rattle.scope.specs.Bodies.{Code, Body, judge_body}
use Rattle.scope.specs.Machine.{Value, number, null, object, Object, Block, open_block, open_loop, Machine}
use Rattle.scope.specs.Running.{start_of, program_of}
use Rattle.scope.proofs.Soundness.{Reaches}
use Rattle.facts_codes.specs.Proper.{AreBytes, width_of, Proper}

pub data Every {A : Type 0} (P : A → Type 0) : List A → Type 0 where
  of_none : Every P []
  of_first : {x : A} {xs : List A} → P x → Every P xs → Every P (x ∷ xs)

pub data Within : Value → Type 0 where
  number_within : {k : Number} {n : ℕ} → n < 2 ^ width_of k → Within (number k n)
  null_within : Within null
  object_within : {o : ℕ} → Within (object o)

pub data LocalWithin : Option Value → Type 0 where
  no_value : LocalWithin none
  its_value_lem : {v : Value} → Within v → LocalWithin (some v)

pub data ObjectWithin : Object → Type 0 where
  its_fields : {it : Object} → Every Within it.fields → ObjectWithin it

-- code whose instructions were read from s
abbrev pub ProperCode : List ℕ → Code → Type 0
ProperCode s code = Every (λ i. Proper s i.1) code

pub data BlockWithin (s : List ℕ) : Block → Type 0 where
  block_within : {at n : ℕ} {below : List Value} → Every Within below → BlockWithin s (open_block at n below)
  loop_within : {at : ℕ} {below : List Value} {again : Code} → Every Within below → ProperCode s again → BlockWithin s (open_loop at below again)

pub record MachineWithin (s : List ℕ) (m : Machine) : Type 0 where
  pub heap : Every ObjectWithin m.heap
  pub locals : Every LocalWithin m.locals
  pub operands : Every Within m.operands
  pub blocks : Every (BlockWithin s) m.blocks
  pub code : ProperCode s m.code

pub record WithinWidths : Type 0 where
  pub after : (library section s : List ℕ) (x : ℕ) {b : Body} {n : ℕ} {m : Machine} → AreBytes s → judge_body library section s x ≡ accepted b → Reaches (program_of b) (start_of b) n m → MachineWithin s m
