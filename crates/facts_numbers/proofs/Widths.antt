-- Every number of a run is within the width of its kind, after every number of steps: the code of an accepted body was read, so
-- its constants are; the state that a run starts with is; and a step keeps it (proofs/StepWidths.antt).
use Prim.Native.Nat.{ℕ, zero, suc}
use mathlib.Core.List.{List, [], ◌∷◌, ◌++◌, map}
use lib.ListN.{length}
use lib.Dec.{eqb, ltb}
use Rattle.scope.specs.Sizes.{most_bytes}
use Rattle.scope.specs.Numbers.{u32}
use Rattle.scope.specs.Syntax.{Val, Definition, types_of}
use Rattle.scope.specs.Judging.{judge_sections}
use Rattle.scope.specs.Instructions.{instr_at}
use Rattle.scope.specs.BodyRules.{Context}
use Rattle.scope.specs.Bodies.{State, Function, Body, function_of, judge_instr, judge_from, locals_at, start_state, context_of, body_at, judge_body}
use Rattle.scope.specs.Machine.{Machine, Program, goes, default_of}
use Rattle.scope.specs.Running.{start_of}
use Rattle.scope.proofs.Telling.{Gives, gives_this, gives_nothing, gives_then, gives_either, gives_ruled, gives_next, Accepting, accepts_nothing, accepts_then, accepts_either, accepts_given, accepts_read}
use Rattle.scope.proofs.Soundness.{Reaches, at_first, one_more}
use Rattle.facts_codes.specs.Proper.{AreBytes}
use Rattle.facts_codes.proofs.Proper.{instr_proper}
use Rattle.facts_numbers.specs.Widths.{Every, of_none, of_first, LocalWithin, ProperCode, MachineWithin, WithinWidths}
use Rattle.facts_numbers.proofs.StepWidths.{default_within, Keeps, going, step_keeps}

-- the code of an accepted body was read

judged_proper : (left : ℕ) (c : Context) (st : State) (s : List ℕ) (at : ℕ) → Gives (ProperCode s) (judge_from left c st s at)
unfolding judge_from
judged_proper zero c st s at = gives_nothing
judged_proper (suc left) c st s at =
    gives_then (instr_at s at) (λ i next e.
    let proper = (instr_proper s at).tells i next e in
    gives_ruled (judge_instr c st i) at (λ n is.
    gives_next n
    (λ later same. gives_then (judge_from left c later s next) (λ code stop f. gives_this (of_first proper ((judged_proper left c later s next).tells code stop f))))
    (λ same. gives_this (of_first proper of_none))))

data Read (s : List ℕ) : Body → Type 0 where
  was_read : {b : Body} → ProperCode s b.code → Read s b

body_proper : (ds : List Definition) (f : Function) (s : List ℕ) → Gives (Read s) (body_at ds f s)
unfolding body_at
body_proper ds f s =
    gives_then (u32 s 0) (λ n from is.
    gives_then (locals_at (length ds) n (length f.parameters) s from) (λ ls at are.
    gives_then (judge_from (length s) (context_of ds f ls) (start_state f ls) s at) (λ code stop judged.
    gives_either (eqb stop (length s))
    (gives_this (was_read ((judged_proper (length s) (context_of ds f ls) (start_state f ls) s at).tells code stop judged)))
    gives_nothing)))

accepted_proper : (library section s : List ℕ) (x : ℕ) → Accepting (Read s) (judge_body library section s x)
unfolding judge_body
accepted_proper library section s x =
    accepts_then (judge_sections library section) (λ ds is.
    accepts_either (ltb most_bytes (length s)) accepts_nothing
    (accepts_given (function_of (types_of ds x).form) accepts_nothing (λ f. accepts_read (body_at ds f s) (body_proper ds f s))))

starts-within : (vs : List Val) → Every LocalWithin (map default_of vs)
starts-within [] = of_none
starts-within (v ∷ vs) = of_first (default_within v) (starts-within vs)

start-within : {s : List ℕ} {b : Body} → Read s b → MachineWithin s (start_of b)
start-within {b = b} (was_read code) =
    record { heap = of_none; locals = starts-within (b.function.parameters ++ b.locals); operands = of_none; blocks = of_none; code = code }

gone_on_lem : {s : List ℕ} {m : Machine} → Keeps s (goes m) → MachineWithin s m
gone_on_lem (going w) = w

reached-within : {s : List ℕ} → AreBytes s → {p : Program} {start : Machine} {n : ℕ} {m : Machine} → MachineWithin s start → Reaches p start n m → MachineWithin s m
reached-within bytes w at_first = w
reached-within bytes {p} w (one_more {k = k} reaches e) = gone_on_lem (rw e at (step_keeps bytes p (reached-within bytes w reaches)))

pub within_widths : WithinWidths
within_widths =
    record { after = λ library section s x {b} {n} {m} bytes is reaches. reached-within bytes (start-within ((accepted_proper library section s x).tells b is)) reaches }
