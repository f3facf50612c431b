-- Where the machines of a run stand in the code of its body. The code ahead is a tail of it, and every open block was opened by an
-- instruction in it: so its place says the rest of it, since no two instructions have one place.
use Prim.Native.Nat.{ℕ, zero, suc, ◌+◌, ◌≤◌, ◌<◌}
use native.Mathlib.Omega.{arith}
use mathlib.Core.Path.{◌≡◌, refl, sym, ◌∙◌, ap, subst}
use mathlib.Core.Option.{Option}
use mathlib.Core.List.{List, [], ◌∷◌, ◌++◌, map}
use lib.ListN.{length}
use Rattle.scope.specs.Syntax.{Val}
use Rattle.scope.specs.Judging.{accepted}
use Rattle.scope.specs.Reading.{got}
use Rattle.scope.specs.Instructions.{Op, Instr, block, loop, end, op, instr_at}
use Rattle.scope.specs.Bodies.{Code, Body, judge_body}
use Rattle.scope.specs.Machine.{Value, Store, Block, open_block, open_loop, Machine, Program, Outcome, goes, ends, traps, step}
use Rattle.scope.specs.Running.{start_of, program_of, place_of}
use Rattle.scope.specs.Memory.{state_words}
use Rattle.scope.proofs.Impossible.{contradiction}
use Rattle.scope.proofs.Forward.{never_back}
use Rattle.scope.proofs.ForwardBodies.{instr_takes}
use Rattle.scope.proofs.Soundness.{Reaches, at_first, one_more}
use Rattle.facts_steps.specs.Places.{state}
use Rattle.facts_steps.specs.Branches.{Labelled, innermost, further_out, PastEnds, none_open, closes, opens_block, opens_loop, passes, no_end, Finishes, finishes, Branches, out_of_block, to_loop, out_of_function}
use Rattle.facts_steps.specs.Rules.{Does, does_nop, does_return, does_br, does_br_if_zero, does_br_if, does_drop, does_local_get, does_local_set, does_local_tee, does_i32_const, does_i64_const, does_f32_const, does_f64_const, does_one, does_two, does_ref_null, does_null_is_null, does_object_is_null, does_eq_nulls, does_eq_one_object, does_eq_two_objects, does_eq_null_first, does_eq_null_second, does_as_non_null, does_make, does_struct_get, does_struct_set, does_get_desc, does_test_yes, does_test_no, does_cast, does_cast_desc_eq, does_on_cast, does_not_on_cast, does_on_fail, does_not_on_fail, does_on_desc_eq, does_not_on_desc_eq, does_on_desc_eq_fail, does_not_on_desc_eq_fail, does_trap, Steps, steps_block, steps_loop, steps_block_end, steps_loop_end, steps_function_end, steps_op}
use Rattle.facts_steps.specs.Laws.{StepOf}
use Rattle.facts_steps.proofs.Laws.{step_laws}
use Rattle.facts_calls.specs.Meant.{Placed, none_placed, next_placed}
use Rattle.facts_calls.proofs.Placed.{accepted_body}
use Rattle.facts_states.specs.Laws.{Kind, a_block, a_loop, Opened, opened_as, Alike, OneToOne}
use Rattle.facts_states.proofs.Alike.{words_alike}

data Tail : Code → Code → Type 0 where
  whole : {code : Code} → Tail code code
  later : {i : ℕ × Instr} {code more : Code} → Tail code more → Tail code (i ∷ more)

rest_of : {i : ℕ × Instr} {code all : Code} → Tail (i ∷ code) all → Tail code all
rest_of whole = later whole
rest_of (later t) = later (rest_of t)

nothing_left : (all : Code) → Tail [] all
nothing_left [] = whole
nothing_left (i ∷ all) = later (nothing_left all)

past_tail : {n : ℕ} {code rest all : Code} → PastEnds n code rest → Tail code all → Tail rest all
past_tail none_open t = t
past_tail (closes more) t = past_tail more (rest_of t)
past_tail (opens_block more) t = past_tail more (rest_of t)
past_tail (opens_loop more) t = past_tail more (rest_of t)
past_tail (passes more) t = past_tail more (rest_of t)
past_tail no_end t = t

-- opened by an instruction of this code
data OpenedIn (all : Code) : Block → Type 0 where
  by_block : {at n : ℕ} {rs : List Val} {below : List Value} {code : Code} → Tail ((at, block rs) ∷ code) all → n ≡ length rs → OpenedIn all (open_block at n below)
  by_loop : {at : ℕ} {rs : List Val} {below : List Value} {again : Code} → Tail ((at, loop rs) ∷ again) all → OpenedIn all (open_loop at below again)

data AllOpenedIn (all : Code) : List Block → Type 0 where
  none_opened : AllOpenedIn all []
  one_opened : {b : Block} {bs : List Block} → OpenedIn all b → AllOpenedIn all bs → AllOpenedIn all (b ∷ bs)

record Inside (all : Code) (m : Machine) : Type 0 where
  ahead : Tail m.code all
  opened : AllOpenedIn all m.blocks

-- a step stays inside

data Keeps (all : Code) : Outcome → Type 0 where
  on_going : {m : Machine} → Inside all m → Keeps all (goes m)
  on_ending : {m : Machine} → Keeps all (ends m)
  on_trap : {n : ℕ} → Keeps all (traps n)

finish-kept : {all : Code} {p : Program} {heap : Store} {locals : List (Option Value)} {vs : List Value} {r : Outcome} → Finishes p heap locals vs r → Keeps all r
finish-kept (finishes s) = on_ending

outer_opened : {all : Code} {b : Block} {bs outer : List Block} {l : ℕ} → AllOpenedIn all bs → Labelled l bs b outer → AllOpenedIn all (b ∷ outer)
outer_opened f innermost = f
outer_opened (one_opened o f) (further_out w) = outer_opened f w

its_outer : {all : Code} {b : Block} {bs : List Block} → AllOpenedIn all (b ∷ bs) → AllOpenedIn all bs
its_outer (one_opened o f) = f

its_own : {all : Code} {b : Block} {bs : List Block} → AllOpenedIn all (b ∷ bs) → OpenedIn all b
its_own (one_opened o f) = o

loop-code : {all : Code} {at : ℕ} {below : List Value} {again : Code} → OpenedIn all (open_loop at below again) → Tail again all
loop-code (by_loop t) = rest_of t

branch_kept : {all : Code} {p : Program} {heap : Store} {locals : List (Option Value)} {blocks : List Block} {code : Code} {l : ℕ} {vs : List Value} {r : Outcome}
    → Tail code all → AllOpenedIn all blocks → Branches p heap locals blocks code l vs r → Keeps all r
branch_kept a f (out_of_block w s e) = on_going (record { ahead = past_tail e a; opened = its_outer (outer_opened f w) })
branch_kept a f (to_loop w) = on_going (record { ahead = loop-code (its_own (outer_opened f w)); opened = outer_opened f w })
branch_kept a f (out_of_function e t) = finish-kept t

op_kept : {all : Code} {p : Program} {heap : Store} {locals : List (Option Value)} {blocks : List Block} {code : Code} {vs : List Value} {o : Op} {r : Outcome}
    → Tail code all → AllOpenedIn all blocks → Does p heap locals blocks code vs o r → Keeps all r
op_kept a f does_nop = on_going (record { ahead = a; opened = f })
op_kept a f (does_return e) = finish-kept e
op_kept a f (does_br b) = branch_kept a f b
op_kept a f does_br_if_zero = on_going (record { ahead = a; opened = f })
op_kept a f (does_br_if x b) = branch_kept a f b
op_kept a f does_drop = on_going (record { ahead = a; opened = f })
op_kept a f (does_local_get x) = on_going (record { ahead = a; opened = f })
op_kept a f (does_local_set x) = on_going (record { ahead = a; opened = f })
op_kept a f (does_local_tee x) = on_going (record { ahead = a; opened = f })
op_kept a f does_i32_const = on_going (record { ahead = a; opened = f })
op_kept a f does_i64_const = on_going (record { ahead = a; opened = f })
op_kept a f does_f32_const = on_going (record { ahead = a; opened = f })
op_kept a f does_f64_const = on_going (record { ahead = a; opened = f })
op_kept a f (does_one x) = on_going (record { ahead = a; opened = f })
op_kept a f (does_two x) = on_going (record { ahead = a; opened = f })
op_kept a f does_ref_null = on_going (record { ahead = a; opened = f })
op_kept a f does_null_is_null = on_going (record { ahead = a; opened = f })
op_kept a f does_object_is_null = on_going (record { ahead = a; opened = f })
op_kept a f does_eq_nulls = on_going (record { ahead = a; opened = f })
op_kept a f does_eq_one_object = on_going (record { ahead = a; opened = f })
op_kept a f (does_eq_two_objects x) = on_going (record { ahead = a; opened = f })
op_kept a f does_eq_null_first = on_going (record { ahead = a; opened = f })
op_kept a f does_eq_null_second = on_going (record { ahead = a; opened = f })
op_kept a f does_as_non_null = on_going (record { ahead = a; opened = f })
op_kept a f (does_make x y) = on_going (record { ahead = a; opened = f })
op_kept a f (does_struct_get x y) = on_going (record { ahead = a; opened = f })
op_kept a f (does_struct_set x y z) = on_going (record { ahead = a; opened = f })
op_kept a f (does_get_desc x y) = on_going (record { ahead = a; opened = f })
op_kept a f (does_test_yes x) = on_going (record { ahead = a; opened = f })
op_kept a f (does_test_no x) = on_going (record { ahead = a; opened = f })
op_kept a f (does_cast x) = on_going (record { ahead = a; opened = f })
op_kept a f (does_cast_desc_eq x) = on_going (record { ahead = a; opened = f })
op_kept a f (does_on_cast x b) = branch_kept a f b
op_kept a f (does_not_on_cast x) = on_going (record { ahead = a; opened = f })
op_kept a f (does_on_fail x b) = branch_kept a f b
op_kept a f (does_not_on_fail x) = on_going (record { ahead = a; opened = f })
op_kept a f (does_on_desc_eq x b) = branch_kept a f b
op_kept a f (does_not_on_desc_eq x) = on_going (record { ahead = a; opened = f })
op_kept a f (does_on_desc_eq_fail x b) = branch_kept a f b
op_kept a f (does_not_on_desc_eq_fail x) = on_going (record { ahead = a; opened = f })
op_kept a f (does_trap t) = on_trap

step_kept : {all : Code} (p : Program) (m : Machine) {r : Outcome} → Inside all m → StepOf p m r → Keeps all r
step_kept {all} p m inside s = go inside.ahead inside.opened s
  where
    go : {blocks : List Block} {code : Code} {r : Outcome} → Tail code all → AllOpenedIn all blocks → Steps p m.heap m.locals m.operands blocks code r → Keeps all r
    go a f steps_block = on_going (record { ahead = rest_of a; opened = one_opened (by_block a refl) f })
    go a f steps_loop = on_going (record { ahead = rest_of a; opened = one_opened (by_loop a) f })
    go a f steps_block_end = on_going (record { ahead = rest_of a; opened = its_outer f })
    go a f steps_loop_end = on_going (record { ahead = rest_of a; opened = its_outer f })
    go a f (steps_function_end t) = finish-kept t
    go a f (steps_op d) = op_kept (rest_of a) f d

same_goes : {m n : Machine} → ◌≡◌ {A = Outcome} (goes m) (goes n) → m ≡ n
same_goes e = cc

kept-inside : {all : Code} {m : Machine} {r : Outcome} → Keeps all r → r ≡ goes m → Inside all m
kept-inside {all} (on_going {m = n} i) e = subst (Inside all) (same_goes e) i
kept-inside on_ending e = absurd (contradiction cc)
kept-inside on_trap e = absurd (contradiction cc)

reached-inside : (b : Body) {n : ℕ} {m : Machine} → Reaches (program_of b) (start_of b) n m → Inside b.code m
reached-inside b at_first = record { ahead = whole; opened = none_opened }
reached-inside b (one_more {k = k} {later = m} r e) =
    kept-inside (step_kept (program_of b) k (reached-inside b r) ((step_laws.goes_on_lem (program_of b) k m).0 e)) refl

-- places rise

data Rising (stop : ℕ) : ℕ → Code → Type 0 where
  no_more : {from : ℕ} → from ≤ stop → Rising stop from []
  one_more_lem : {from at : ℕ} {i : Instr} {code : Code} → from ≤ at → Rising stop (suc at) code → Rising stop from ((at, i) ∷ code)

rising_from : {stop from lower : ℕ} {code : Code} → lower ≤ from → Rising stop from code → Rising stop lower code
rising_from {lower = lower} h (no_more l) = no_more {from = lower} (omega arith)
rising_from {lower = lower} h (one_more_lem {at = at} l more) = one_more_lem {from = lower} {at = at} (omega arith) more

placed_rising : {s : List ℕ} {at stop : ℕ} {code : Code} → Placed s at code stop → Rising stop at code
placed_rising (none_placed {at = at}) = no_more {from = at} (omega arith)
placed_rising {s} (next_placed {at = at} e more) =
    let (forward, inside) = never_back instr_takes s at e in
    one_more_lem {from = at} {at = at} (omega arith) (rising_from {lower = suc at} (omega arith) (placed_rising more))

-- the place of a tail is at least the first's
place_from : (s : List ℕ) {from : ℕ} {code all : Code} → Rising (length s) from all → Tail code all → from ≤ place_of s code
place_from s (no_more l) whole = l
place_from s (one_more_lem l more) whole = l
place_from s (one_more_lem l more) (later t) = let h = place_from s more t in omega arith

one_tail : (s : List ℕ) {from : ℕ} {code rest all : Code} → Rising (length s) from all → Tail code all → Tail rest all → place_of s code ≡ place_of s rest → code ≡ rest
one_tail s r whole whole e = refl
one_tail s (one_more_lem l more) whole (later t) e = absurd (let h = place_from s more t in let none-such : ⊥ = omega arith in none-such)
one_tail s (one_more_lem l more) (later t) whole e = absurd (let h = place_from s more t in let none-such : ⊥ = omega arith in none-such)
one_tail s (one_more_lem l more) (later t) (later u) e = one_tail s more t u e

-- blocks that were opened at the same places are the same

block_same : {rs ss : List Val} → block rs ≡ block ss → rs ≡ ss
block_same e = cc

first_same : {i j : ℕ × Instr} {code more : Code} → i ∷ code ≡ j ∷ more → i ≡ j
first_same e = cc

block_types_lem : {at k : ℕ} {rs ss : List Val} {code more : Code} → (at, block rs) ∷ code ≡ (k, block ss) ∷ more → rs ≡ ss
block_types_lem e = block_same (ap (λ (i : ℕ × Instr). i.1) (first_same e))

code-after : {i j : ℕ × Instr} {code more : Code} → i ∷ code ≡ j ∷ more → code ≡ more
code-after e = cc

kinds_apart : a_block ≡ a_loop → ⊥
kinds_apart e = contradiction cc

module _ (s : List ℕ) {from : ℕ} {all : Code} (rising : Rising (length s) from all) where
  same_results : {at k n m : ℕ} {rs ss : List Val} {code more : Code} → Tail ((at, block rs) ∷ code) all → Tail ((k, block ss) ∷ more) all → at ≡ k → n ≡ length rs → m ≡ length ss → n ≡ m
  same_results {rs = rs} {ss} t u p q w = q ∙ ap length (block_types_lem (one_tail s rising t u p)) ∙ sym w

  same_again : {at k : ℕ} {rs ss : List Val} {code more : Code} → Tail ((at, loop rs) ∷ code) all → Tail ((k, loop ss) ∷ more) all → at ≡ k → code ≡ more
  same_again t u p = code-after (one_tail s rising t u p)

  one-opening : {b c : Block} → OpenedIn all b → OpenedIn all c → opened_as b ≡ opened_as c → b ≡ c
  one-opening (by_block {at = at} {n = n} {below = below} t q) (by_block {at = k} {n = m} {below = lower} u w) e =
      let p : at ≡ k = ap (λ (o : Opened). o.place) e in
      let l : below ≡ lower = ap (λ (o : Opened). o.below) e in
      let r : n ≡ m = same_results t u p q w in
      rw (p, r, l)
  one-opening (by_block t q) (by_loop u) e = absurd (kinds_apart (ap (λ (o : Opened). o.kind) e))
  one-opening (by_loop t) (by_block u w) e = absurd (kinds_apart (sym (ap (λ (o : Opened). o.kind) e)))
  one-opening (by_loop {at = at} {below = below} {again = again} t) (by_loop {at = k} {below = lower} {again = round} u) e =
      let p : at ≡ k = ap (λ (o : Opened). o.place) e in
      let l : below ≡ lower = ap (λ (o : Opened). o.below) e in
      let r : again ≡ round = same_again t u p in
      rw (p, l, r)

  blocks-one : {bs cs : List Block} → AllOpenedIn all bs → AllOpenedIn all cs → map opened_as bs ≡ map opened_as cs → bs ≡ cs
  blocks-one none_opened none_opened e = refl
  blocks-one none_opened (one_opened o f) e = absurd (contradiction cc)
  blocks-one (one_opened o f) none_opened e = absurd (contradiction cc)
  blocks-one (one_opened {b = b} {bs = bs} o f) (one_opened {b = c} {bs = cs} q g) e =
      let first : opened_as b ≡ opened_as c = cc in
      let others : map opened_as bs ≡ map opened_as cs = cc in
      let one = one-opening o q first in
      let more = blocks-one f g others in
      rw (one, more)

machine_same : (m n : Machine) → m.heap ≡ n.heap → m.locals ≡ n.locals → m.operands ≡ n.operands → m.blocks ≡ n.blocks → m.code ≡ n.code → m ≡ n
machine_same m n a b c d e = rw (← a, ← b, ← c, ← d, ← e)

words_same : (library section s : List ℕ) (x : ℕ) (b : Body) → judge_body library section s x ≡ accepted b
    → (i j : ℕ) (m n : Machine) → Reaches (program_of b) (start_of b) i m → Reaches (program_of b) (start_of b) j n
    → state_words s m ≡ state_words s n → m ≡ n
words_same library section s x b judged i j m n r q e =
    let alike = words_alike s m n e in
    let one = reached-inside b r in
    let other = reached-inside b q in
    let rising = placed_rising (accepted_body library section s x judged).placed in
    machine_same m n alike.heap alike.locals alike.operands (blocks-one s rising one.opened other.opened alike.blocks) (one_tail s rising one.ahead other.ahead alike.place)

pub one_to_one : OneToOne
one_to_one = record { alike = words_alike; same = words_same }
