-- The bytes of a body: the checker's walk over them and the relations go through the same items. There are no more
-- instructions than bytes, for each one takes a byte at least, so the walk's bound is never met.
use Prim.Native.Nat.{ℕ, zero, suc, ◌+◌, ◌≤◌}
use native.Mathlib.Omega.{arith}
use mathlib.Core.Path.{◌≡◌, refl, ap, subst₂}
use mathlib.Core.Bool.{Bool, true, false, cond}
use mathlib.Core.List.{List, [], ◌∷◌, ◌++◌, map}
use lib.ListN.{length, replicate}
use lib.Dec.{leb}
use borrow.Author.Tests.{leb-true, le-leb}
use Rattle.scope.specs.Sizes.{most_locals}
use Rattle.scope.specs.Refusals.{oversize, out_of_reach}
use Rattle.scope.specs.Reading.{Read, got, refused, then}
use Rattle.scope.specs.Numbers.{u32}
use Rattle.scope.specs.Syntax.{Val}
use Rattle.scope.specs.Sections.{val_at}
use Rattle.scope.specs.TypeRules.{val_names}
use Rattle.scope.specs.Instructions.{Instr, instr_at}
use Rattle.scope.specs.BodyRules.{Context, Ruled, allowed, fault}
use Rattle.scope.specs.Bodies.{State, Next, goes_on, finished, judge_instr, Code, on_ruled, on_next, judge_from, locals_at}
use Rattle.scope.proofs.Forward.{never_back}
use Rattle.scope.proofs.ForwardBodies.{instr_takes}
use Rattle.scope.proofs.Impossible.{contradiction}
use Rattle.facts_bodies.specs.Premises.{ValReached}
use Rattle.facts_bodies.specs.Typing.{TypedInstr, TypedBody, last_end, goes_on_lem, InstrsAt, no_instr, next_instr, Entry, Locals, no_locals, more_locals, EntriesAt, no_entry, next_entry}
use Rattle.facts_bodies.proofs.Premises.{Ordered, all_below, tested_value_reached, value_reached-tested}
use Rattle.facts_bodies.proofs.Steps.{allowed_typed, typed_allowed}

-- readings

pub refused_is_not_got : {A : Type 0} {n p next : ℕ} {x : A} → refused n p ≡ got x next → ⊥
refused_is_not_got e = contradiction cc

pub same_got : {A : Type 0} {x y : A} {n m : ℕ} → got x n ≡ got y m → (x ≡ y) × (n ≡ m)
same_got e = (cc, cc)

pub first_got : {A B : Type 0} {y : B} {stop : ℕ} (r : Read A) (f : A → ℕ → Read B)
    → then r f ≡ got y stop
    → (x : A) × (next : ℕ) × (r ≡ got x next) × (f x next ≡ got y stop)
first_got (got x next) f e = (x, next, refl, e)
first_got (refused n p) f e = absurd (refused_is_not_got e)

pub cond_got : {A : Type 0} {x : A} {stop : ℕ} (t : Bool) (more : Read A) (n p : ℕ) → cond t more (refused n p) ≡ got x stop → (t ≡ true) × (more ≡ got x stop)
cond_got true more n p e = (refl, e)
cond_got false more n p e = absurd (refused_is_not_got e)

-- locals

module _ (s : List ℕ) (count : ℕ) where
  -- so many entries were read, and they stand for these locals
  pub record LocalsRead (n before at : ℕ) (vs : List Val) (stop : ℕ) : Type 0 where
    pub entries : List Entry
    pub counted : length entries ≡ n
    pub reads : EntriesAt s at entries stop
    pub stands : Locals count before entries vs

  as_locals : {n before at stop end : ℕ} {vs ws : List Val} → LocalsRead n before at vs stop → got vs stop ≡ got ws end → LocalsRead n before at ws end
  as_locals {n} {before} {at} l e = let (values, offset) = same_got e in subst₂ (LocalsRead n before at) values offset l

  -- the tests of one entry, after which `more` is read
  entry_allowed : {vs : List Val} {stop : ℕ} (at all k : ℕ) (v : Val) (more : Read (List Val))
      → cond (all_below count (val_names v)) (cond (leb all most_locals) (then more (λ ws end. got (replicate k v ++ ws) end)) (refused oversize at)) (refused out_of_reach at) ≡ got vs stop
      → (ws : List Val) × (end : ℕ) × ValReached count v × (all ≤ most_locals) × (more ≡ got ws end) × (got (replicate k v ++ ws) end ≡ got vs stop)
  entry_allowed at all k v more e =
      let (below, sized) = cond_got _ _ _ _ e in
      let (few, rest) = cond_got _ _ _ _ sized in
      let (ws, end, later, same) = first_got more _ rest in
      (ws, end, tested_value_reached count v below, leb-true _ _ few, later, same)

  one_more_lem : {n before at type next stop k : ℕ} {v : Val} {vs : List Val}
      → u32 s at ≡ got k type
      → val_at s type ≡ got v next
      → ValReached count v
      → before + k ≤ most_locals
      → LocalsRead n (before + k) next vs stop
      → LocalsRead (suc n) before at (replicate k v ++ vs) stop
  one_more_lem {k = k} {v = v} counted typed below few later =
      record {
        entries = record { many = k; type = v } ∷ later.entries;
        counted = ap suc later.counted;
        reads = next_entry counted typed later.reads;
        stands = more_locals below few later.stands;
      }

  pub got_locals : (n before at : ℕ) {vs : List Val} {stop : ℕ} → locals_at count n before s at ≡ got vs stop → LocalsRead n before at vs stop
  unfolding locals_at
  got_locals zero before at e = as_locals (record { entries = []; counted = refl; reads = no_entry; stands = no_locals }) e
  got_locals (suc n) before at e =
      let (k, type, counted, more) = first_got (u32 s at) _ e in
      let (v, next, typed, tests) = first_got (val_at s type) _ more in
      let (ws, end, below, few, later, same) = entry_allowed at (before + k) k v (locals_at count n (before + k) s next) tests in
      as_locals {stop = end} {vs = replicate k v ++ ws} (one_more_lem {stop = end} {vs = ws} counted typed below few (got_locals n (before + k) next later)) same

  pub locals_got : {before at stop : ℕ} {es : List Entry} {vs : List Val} → EntriesAt s at es stop → Locals count before es vs → locals_at count (length es) before s at ≡ got vs stop
  unfolding locals_at
  locals_got no_entry no_locals = refl
  locals_got {before = before} (next_entry {e = e} counted typed later) (more_locals below few rest) =
      rw (counted, typed, value_reached-tested count below, le-leb _ _ few, locals_got {before = before + e.many} later rest)

-- instructions

abbrev pub instructions_of : Code → List Instr
instructions_of code = map (λ p. p.1) code

ruled_got : {A B : Type 0} {y : B} {stop : ℕ} (r : Ruled A) (at : ℕ) (f : A → Read B)
    → on_ruled r (λ number. refused number at) f ≡ got y stop
    → (x : A) × (r ≡ allowed x) × (f x ≡ got y stop)
ruled_got (allowed x) at f e = (x, refl, e)
ruled_got (fault n) at f e = absurd (refused_is_not_got e)

module _ (c : Context) (ordered : Ordered c.types) (s : List ℕ) where
  -- the bytes read as this code, and it is typed
  pub record Walked (st : State) (at : ℕ) (code : Code) (stop : ℕ) : Type 0 where
    pub reads : InstrsAt s at (instructions_of code) stop
    pub typed : TypedBody c st (instructions_of code)

  as_walked : {st : State} {at stop end : ℕ} {code more : Code} → Walked st at code stop → got code stop ≡ got more end → Walked st at more end
  as_walked {st} {at} w e = let (codes, place) = same_got e in subst₂ (Walked st at) codes place w

  pub got_walked : (left : ℕ) (st : State) (at : ℕ) {code : Code} {stop : ℕ} → judge_from left c st s at ≡ got code stop → Walked st at code stop
  unfolding judge_from
  got_walked zero st at e = absurd (refused_is_not_got e)
  got_walked (suc left) st at {code} {stop} e =
      let (i, next, read, more) = first_got (instr_at s at) _ e in
      let (n, ruled, rest) = ruled_got (judge_instr c st i) at _ more in
      go n i next read (allowed_typed c st ordered i ruled) rest (λ later code stop f. got_walked left later next {code = code} {stop = stop} f)
    where
      go : (n : Next) (i : Instr) (next : ℕ)
          → instr_at s at ≡ got i next
          → TypedInstr c st i n
          → on_next n (λ later. then (judge_from left c later s next) (λ code stop. got ((at, i) ∷ code) stop)) (got ((at, i) ∷ []) next) ≡ got code stop
          → ((later : State) (code : Code) (stop : ℕ) → judge_from left c later s next ≡ got code stop → Walked later next code stop)
          → Walked st at code stop
      go finished i next read t f later = as_walked (record { reads = next_instr read no_instr; typed = last_end t }) f
      go (goes_on st') i next read t f later =
          let (code', stop', walk, same) = first_got (judge_from left c st' s next) _ f in
          let rest = later st' code' stop' walk in
          as_walked (record { reads = next_instr read rest.reads; typed = goes_on_lem t rest.typed }) same

  no_instruction_past : (at : ℕ) {next : ℕ} {i : Instr} → instr_at s at ≡ got i next → length s ≤ at + zero → ⊥
  no_instruction_past at read room = let (before, inside) = never_back instr_takes s at read in omega arith

  pub typed_got : (left : ℕ) {st : State} {at stop : ℕ} {is : List Instr}
      → TypedBody c st is
      → InstrsAt s at is stop
      → length s ≤ at + left
      → (code : Code) × (judge_from left c st s at ≡ got code stop) × (instructions_of code ≡ is)
  unfolding judge_from
  typed_got zero (last_end t) (next_instr read more) room = absurd (no_instruction_past _ read room)
  typed_got zero (goes_on_lem t later) (next_instr read more) room = absurd (no_instruction_past _ read room)
  typed_got (suc left) {st} {at} (last_end {i = i} t) (next_instr read no_instr) room =
      ((at, i) ∷ [], rw (read, typed_allowed c st ordered t), refl)
  typed_got (suc left) {st} {at} (goes_on_lem {i = i} t later) (next_instr {next = next} read more) room =
      let (before, inside) = never_back instr_takes s at read in
      let (code, walk, same) = typed_got left later more (omega arith) in
      ((at, i) ∷ code, rw (read, typed_allowed c st ordered t, walk), ap (λ is. i ∷ is) same)
