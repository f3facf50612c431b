-- No machine that is typed is astray: its step proceeds, the machine after it is typed too and so fits, and an operand that
-- names an object has one that is there.
use Prim.Native.Nat.{ℕ, zero, suc, ◌<◌}
use native.Mathlib.Omega.{arith}
use mathlib.Core.Path.{◌≡◌, subst}
use mathlib.Core.Option.{some}
use mathlib.Core.List.{List, [], Forall₂}
use lib.ListN.{length, get_elem?}
use Rattle.scope.specs.Syntax.{Types}
use Rattle.scope.specs.Bodies.{Operand, State, Code, Body}
use Rattle.scope.specs.Machine.{Value, object, Store, Machine, Outcome, goes}
use Rattle.scope.specs.BodyRules.{Context}
use Rattle.scope.proofs.Truths.{none_is_not-some}
use Rattle.scope.proofs.Pairs.{some_is_one, inside}
use Rattle.scope.proofs.Standing.{Accepts, accepted_there}
use Rattle.scope.proofs.Starting.{runs_known}
use Rattle.scope.proofs.Soundness.{HasOperand, of_known, of_object, context_for, TypedHere, Proceeds, proceeds, Runs}
use Rattle.run_state.specs.Moved.{Astray, is_stuck, too_high, too_deep, dangling}
use Rattle.run_sound.specs.Sound.{Fitting}
use Rattle.run_sound.proofs.Bounds.{machine_bounded}

-- objects

module _ {ts : Types} {heap : Store} where
  names-one : {o : ℕ} {t : Operand} → HasOperand ts heap (object o) t → o < length heap
  names-one {o} (of_known (of_object there below)) = inside heap o there

  pub operand_there : {vs : List Value} {os : List Operand} (i : ℕ) {o : ℕ} → Forall₂ (HasOperand ts heap) vs os → get_elem? vs i ≡ some (object o) → o < length heap
  operand_there i Forall₂.nil e = absurd (none_is_not-some e)
  operand_there zero (Forall₂.cons {b = t} r rs) e = names-one (subst (λ (v : Value). HasOperand ts heap v t) (some_is_one e) r)
  operand_there (suc i) (Forall₂.cons r rs) e = operand_there i rs e

-- steps

later-fits : {b : Body} {heap : Store} {later : Machine} → Proceeds b heap (goes later) → Fitting later
later-fits (proceeds here grows) = machine_bounded here

pub not_astray : {b : Body} {m : Machine} {want : Outcome} → TypedHere b m → Proceeds b m.heap want → Astray m want → ⊥
not_astray here p is_stuck = elim p [ ]
not_astray here p (too_high h) = let fits = (later-fits p).operands in omega arith
not_astray here p (too_deep h) = let fits = (later-fits p).blocks in omega arith
not_astray here p (dangling i o e long) = let there = operand_there i here.typed.operands e in omega arith

-- code

pub accepted_here :
    {library section s : List ℕ} {x : ℕ} {b : Body} {m : Machine} {code : Code} → Runs library section s x b → (here : TypedHere b m) → m.code ≡ code
    → Accepts (context_for b) here.state code
accepted_here {b} runs here e = subst (Accepts (context_for b) here.state) e (accepted_there (runs_known runs).accepts here.stands)

none_accepted : {c : Context} {st : State} → Accepts c st [] → ⊥
none_accepted accepts = elim accepts [ ]

pub code_there : {library section s : List ℕ} {x : ℕ} {b : Body} {m : Machine} → Runs library section s x b → TypedHere b m → m.code ≡ [] → ⊥
code_there runs here e = none_accepted (accepted_here runs here e)
