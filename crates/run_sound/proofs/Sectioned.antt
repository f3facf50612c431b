-- The types of an accepted body are those of its section, which is accepted: so the sizes of a section are the body's.
use Prim.Native.Nat.{ℕ}
use mathlib.Core.Path.{◌≡◌}
use mathlib.Core.List.{List}
use lib.ListN.{length}
use lib.Dec.{ltb, eqb}
use Rattle.scope.specs.Sizes.{most_bytes}
use Rattle.scope.specs.Numbers.{u32}
use Rattle.scope.specs.Syntax.{Definition, types_of}
use Rattle.scope.specs.Judging.{accepted, judge_sections}
use Rattle.scope.specs.Bodies.{Function, function_of, judge_from, locals_at, start_state, context_of, Body, body_at, judge_body}
use Rattle.scope.proofs.Telling.{Gives, gives_this, gives_nothing, gives_then, gives_either, Accepting, accepts_nothing, accepts_then, accepts_either, accepts_given, accepts_read}
use Rattle.scope.proofs.Soundness.{Runs}

module _ (library section : List ℕ) (ds : List Definition) (is : judge_sections library section ≡ accepted ds) where
  body-types : (f : Function) (s : List ℕ) → Gives (λ b. judge_sections library section ≡ accepted b.types) (body_at ds f s)
  unfolding body_at
  body-types f s =
      gives_then (u32 s 0) (λ n from counted.
      gives_then (locals_at (length ds) n (length f.parameters) s from) (λ ls at are.
      gives_then (judge_from (length s) (context_of ds f ls) (start_state f ls) s at) (λ code stop judged.
      gives_either (eqb stop (length s)) (gives_this is) gives_nothing)))

judged-types : (library section s : List ℕ) (x : ℕ) → Accepting (λ b. judge_sections library section ≡ accepted b.types) (judge_body library section s x)
unfolding judge_body
judged-types library section s x =
    accepts_then (judge_sections library section) (λ ds is.
    accepts_either (ltb most_bytes (length s)) accepts_nothing
    (accepts_given (function_of (types_of ds x).form) accepts_nothing (λ f. accepts_read (body_at ds f s) (body-types library section ds is f s))))

pub section_accepted : {library section s : List ℕ} {x : ℕ} {b : Body} → Runs library section s x b → judge_sections library section ≡ accepted b.types
section_accepted {library} {section} {s} {x} {b} runs = (judged-types library section s x).tells b runs.is_accepted
