-- How a run starts: of an accepted body the section is accepted, its code is accepted from the checker's first state, and
-- the first machine is typed against that state: no object, no operand, no block, and locals at their defaults.
use Prim.Native.Nat.{ℕ}
use mathlib.Core.Path.{◌≡◌, refl, subst}
use mathlib.Core.Bool.{Bool, true, false}
use mathlib.Core.List.{List, [], ◌∷◌, ◌++◌, map, Forall₂}
use lib.ListN.{length}
use lib.Dec.{ltb, eqb}
use Rattle.scope.specs.Sizes.{most_bytes}
use Rattle.scope.specs.Numbers.{u32}
use Rattle.scope.specs.Lists.{every}
use Rattle.scope.specs.Syntax.{Val, num, ref, Definition, Types, types_of}
use Rattle.scope.specs.Judging.{judge_sections}
use Rattle.scope.specs.BodyRules.{has_default}
use Rattle.scope.specs.Bodies.{Function, function_of, judge_from, locals_at, start_state, context_of, Body, body_at, judge_body}
use Rattle.scope.specs.Machine.{Store, default_of}
use Rattle.scope.specs.Running.{start_of}
use Rattle.scope.proofs.Truths.{none_is_not-some, from_both}
use Rattle.scope.proofs.Telling.{Gives, gives_this, gives_nothing, gives_then, gives_either, Accepting, accepts_nothing, accepts_then, accepts_either, accepts_given, accepts_read}
use Rattle.scope.proofs.Accepted.{Kept, sections_kept}
use Rattle.scope.proofs.Standing.{Accepts, judged_accepts}
use Rattle.scope.proofs.Soundness.{of_number, of_null, HasLocal, no_value, its_value, Covers, not_set, is_set, context_for, first, no_block, TypedHere, Runs}

-- an accepted body

-- its section keeps the type rules, and its code is accepted from the checker's first state
pub record Known (b : Body) : Type 0 where
  pub kept : Kept (types_of b.types)
  pub accepts : Accepts (context_for b) (start_state b.function b.locals) b.code

body_known : (ds : List Definition) (f : Function) (s : List ℕ) → Kept (types_of ds) → Gives Known (body_at ds f s)
unfolding body_at
body_known ds f s kept =
    gives_then (u32 s 0) (λ n from is.
    gives_then (locals_at (length ds) n (length f.parameters) s from) (λ ls at are.
    gives_then (judge_from (length s) (context_of ds f ls) (start_state f ls) s at) (λ code stop judged.
    gives_either (eqb stop (length s))
    (gives_this (record { kept = kept; accepts = (judged_accepts (length s) (context_of ds f ls) (start_state f ls) s at).tells code stop judged }))
    gives_nothing)))

pub judged_known : (library section s : List ℕ) (x : ℕ) → Accepting Known (judge_body library section s x)
unfolding judge_body
judged_known library section s x =
    accepts_then (judge_sections library section) (λ ds is.
    accepts_either (ltb most_bytes (length s)) accepts_nothing
    (accepts_given (function_of (types_of ds x).form) accepts_nothing (λ f. accepts_read (body_at ds f s) (body_known ds f s (sections_kept library section is)))))

-- the first machine

default_typed : {ts : Types} {heap : Store} (t : Val) → HasLocal ts heap (default_of t) t
default_typed (num k) = its_value of_number
default_typed (ref true h) = its_value of_null
default_typed (ref false h) = no_value

defaults_typed : {ts : Types} {heap : Store} (types : List Val) → Forall₂ (HasLocal ts heap) (map default_of types) types
defaults_typed [] = Forall₂.nil
defaults_typed (t ∷ types) = Forall₂.cons (default_typed t) (defaults_typed types)

-- a local with a default is set
default_covers : (t : Val) → Covers (has_default t) (default_of t)
default_covers (num k) = is_set
default_covers (ref true h) = is_set
default_covers (ref false h) = not_set

defaults_cover : (types : List Val) → Forall₂ Covers (map has_default types) (map default_of types)
defaults_cover [] = Forall₂.nil
defaults_cover (t ∷ types) = Forall₂.cons (default_covers t) (defaults_cover types)

-- and so is a parameter
parameters_cover : (ps ls : List Val) → every has_default ps ≡ true → Forall₂ Covers (map (λ v. true) ps ++ map has_default ls) (map default_of (ps ++ ls))
parameters_cover [] ls e = defaults_cover ls
parameters_cover (p ∷ ps) ls e =
    let (one, more) = from_both (has_default p) (every has_default ps) e in
    Forall₂.cons (subst (λ (t : Bool). Covers t (default_of p)) one (default_covers p)) (parameters_cover ps ls more)

pub start-typed : {library section s : List ℕ} {x : ℕ} {b : Body} → Runs library section s x b → TypedHere b (start_of b)
start-typed {b} runs =
    record {
      state = start_state b.function b.locals;
      stands = first;
      alive = refl;
      typed =
          record {
            store = record { objects = record { well_made = λ o e. absurd (none_is_not-some e) }; values = defaults_typed (b.function.parameters ++ b.locals) };
            operands = Forall₂.nil;
            set = parameters_cover b.function.parameters b.locals runs.defaults;
            blocks = no_block;
          };
    }

pub runs_known : {library section s : List ℕ} {x : ℕ} {b : Body} → Runs library section s x b → Known b
runs_known {library} {section} {s} {x} {b} runs = (judged_known library section s x).tells b runs.is_accepted
