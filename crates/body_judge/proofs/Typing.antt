-- Each way out of judging a body against the types of an accepted section: the table says what the definition reads from
-- the section, so the locals, the context and the state that the check begins with are the definition's.
use Prim.Native.Nat.{ℕ, ◌+◌, ◌-◌, ◌*◌, ◌≤◌}
use mathlib.Core.Path.{◌≡◌, refl, sym, ap, ap₂, ◌∙◌}
use mathlib.Core.Bool.{Bool, true, false, cond}
use mathlib.Core.List.{List, []}
use native.Mathlib.Omega.{arith}
use native.Mathlib.Nat.{zero-add}
use lib.ListN.{length}
use lib.Dec.{eqb}
use borrow.Author.Tests.{eq-eqb, ne_eqb}
use Rattle.std.specs.Prelude.{Result, Ok, Err}
use Rattle.scope.specs.Told.{no_in}
use Rattle.std.specs.Prelude.{Result, Ok, Err}
use Rattle.scope.specs.declared.Rejected.{Rejected}
use Rattle.scope.specs.declared.Refused.{Refused}
use Rattle.scope.specs.Sizes.{most_each}
use Rattle.scope.specs.Refusals.{left_over, not_a_function}
use Rattle.scope.specs.Reading.{Read, got, refused, then}
use Rattle.scope.specs.Numbers.{u32}
use Rattle.scope.specs.Syntax.{Val, func, Definition, types_of}
use Rattle.scope.specs.Sections.{ended}
use Rattle.scope.specs.BodyRules.{Context}
use Rattle.scope.specs.Bodies.{State, Function, Code, Body, instructions, start_state, context_of, locals_at, judge_from, body_at, judged_of}
use Rattle.scope.specs.Judging.{plain}
use Rattle.scope.specs.Answers.{verdict_of}
use Rattle.scope.proofs.Impossible.{impossible}
use Rattle.scope.proofs.Told.{value_is, place_is, read_refused}
use Rattle.type_table.specs.declared.Shape.{Shape}
use Rattle.type_table.specs.declared.Shape
use Rattle.type_table.specs.Answers.{shape_form}
use Rattle.type_table.specs.View.{val_at_code, codes_at, view}
use Rattle.body_state.specs.Layout.{stamps_from, frames_from, frame_span, stamp_word}
use Rattle.body_state.specs.State.{stack, sets_at, frames_at, context_at, state_at, floor}
use Rattle.body_state.proofs.Answers.{codes-length}
use Rattle.body_start.specs.Beginning as beginning
use Rattle.body_start.specs.Beginning.{locals_first, started_is, Starting, StartedAs}
use Rattle.body_loop.specs.Loop.{begin, Begun, ended_is, JudgedFrom}
use Rattle.body_judge.specs.Typed.{finished_as, Typing, typed_on, TypedJudged}

-- last, 5

pub finish_refused : (s : List ℕ) {e : Result (ℕ × ℕ) Refused} {no : Refused} → e ≡ Err no → Err (no_in no.number (plain no.at)) ≡ finished_as s e
finish_refused s f = rw f refl

module _ (s : List ℕ) {e : Result (ℕ × ℕ) Refused} {count stop : ℕ} (f : e ≡ Ok (count, stop)) where
  pub finish_all : stop ≡ length s → Ok count ≡ finished_as s e
  finish_all h = rw (f, eq-eqb stop (length s) h) refl

  pub finish_over : (stop ≡ length s → ⊥) → Err (no_in left_over (plain stop)) ≡ finished_as s e
  finish_over h = rw (f, ne_eqb stop (length s) h) refl

-- how a body is read: its locals, then its instructions, then nothing

then-then : {A B C : Type 0} (o : Read A) (f : A → ℕ → Read B) (g : B → ℕ → Read C) → then (then o f) g ≡ then o (λ x at. then (f x at) g)
then-then (got x at) f g = refl
then-then (refused n p) f g = refl

rest : List Definition → Function → List ℕ → List Val → ℕ → Read Body
rest ds f s ls first = then (judge_from (length s) (context_of ds f ls) (start_state f ls) s first) (λ code stop. ended s (record { types = ds; function = f; locals = ls; code = code }) stop)

body_read : (ds : List Definition) (f : Function) (s : List ℕ) → body_at ds f s ≡ then (locals_first (length ds) (length f.parameters) s) (rest ds f s)
unfolding body_at locals_first rest
body_read ds f s = sym (then-then (u32 s 0) (λ n entries. locals_at (length ds) n (length f.parameters) s entries) (rest ds f s))

-- the verdict, by what was read of the instructions
read_verdict : (ds : List Definition) (f : Function) (s : List ℕ) (ls : List Val) (o : Read Code) → verdict_of instructions (judged_of (then o (λ code stop. ended s (record { types = ds; function = f; locals = ls; code = code }) stop))) ≡ finished_as s (ended_is 0 o)
read_verdict ds f s ls (got code stop) = go (eqb stop (length s))
  where
    go : (all : Bool) → verdict_of instructions (judged_of (cond all (got (record { types = ds; function = f; locals = ls; code = code }) stop) (refused left_over stop))) ≡ cond all (Ok (0 + length code)) (Err (no_in left_over (plain stop)))
    go true = rw (zero-add (length code)) refl
    go false = refl
read_verdict ds f s ls (refused n p) = refl

-- the locals, as they were read

pub started_got : (params : ℕ) (o : Read (List Val)) {r : Result (ℕ × ℕ) Refused} {locals next : ℕ} → r ≡ started_is params o → r ≡ Ok (locals, next) → (vs : List Val) × (o ≡ got vs next) × (locals ≡ params + length vs)
started_got params (got vs m) p q = (vs, ap (got vs) (place_is p q), sym (value_is p q))
started_got params (refused n m) p q = impossible cc

pub started_refused : (params : ℕ) (o : Read (List Val)) {r : Result (ℕ × ℕ) Refused} {no : Refused} → r ≡ started_is params o → r ≡ Err no → o ≡ refused no.number no.at
started_refused params (got vs m) p q = impossible cc
started_refused params (refused m k) p q = read_refused p q

-- the function's type

pub form_is_lem : (rows codes : List ℕ) (x : ℕ) (shape : Shape) → (view rows codes x).form ≡ shape_form codes shape → (ds : List Definition) → view rows codes ≡ types_of ds → (types_of ds x).form ≡ shape_form codes shape
form_is_lem rows codes x shape a ds v = ap (λ (ts : ℕ → Definition). (ts x).form) (sym v) ∙ a

module _ {rows codes work s : List ℕ} {types x : ℕ} (t : Typing rows codes work s types x) {shape : Shape} where
  pub typed_struct : {first n : ℕ} → shape ≡ Shape.TheVariants.Struct first n → (view rows codes x).form ≡ shape_form codes shape → {work' : List ℕ} → work' ≡ work → TypedJudged rows codes work work' s types x (Err (no_in not_a_function (plain 0)))
  unfolding typed_on
  typed_struct e a same = record { answer = λ ds v l. rw (form_is_lem rows codes x shape a ds v, e) refl; size = rw same }

  module _ {first n second m : ℕ} (e : shape ≡ Shape.TheVariants.Func first n second m) (a : (view rows codes x).form ≡ shape_form codes shape) where
    -- the parameters and the results, as the table has them
    function : Function
    function = record { parameters = codes_at val_at_code codes first n; results = codes_at val_at_code codes second m }

    typed_is : (ds : List Definition) → view rows codes ≡ types_of ds → typed_on ds s x ≡ judged_of (body_at ds function s)
    unfolding typed_on function
    typed_is ds v = rw (form_is_lem rows codes x shape a ds v, e) refl

    many : length (codes_at val_at_code codes first n) ≡ n
    many = codes-length val_at_code codes first n

    pub may_start : Starting work types n
    may_start =
        let form : (view rows codes x).form ≡ func (codes_at val_at_code codes first n) (codes_at val_at_code codes second m) = a ∙ rw e refl in
        let few : length (codes_at val_at_code codes first n) ≤ most_each = t.sized.few (codes_at val_at_code codes first n) (codes_at val_at_code codes second m) form in
        record { zero = t.sized.fresh.zero; room = omega (arith, t.sized.fresh.room); few = rw many at few; known = t.sized.known }

    -- the locals are read as the definition reads them
    locals_as : (ds : List Definition) → view rows codes ≡ types_of ds → length ds ≡ types → typed_on ds s x ≡ judged_of (then (locals_first types n s) (rest ds function s))
    unfolding function
    locals_as ds v l = typed_is ds v ∙ ap judged_of (body_read ds function s ∙ ap₂ (λ (k : ℕ) (j : ℕ). then (locals_first k j s) (rest ds function s)) l many)

    module _ {r : Result (ℕ × ℕ) Refused} {work₁ : List ℕ} (b : StartedAs (locals_first types n s) s codes work work₁ first n r) where
      pub typed_unstarted : {no : Refused} → r ≡ Err no → TypedJudged rows codes work work₁ s types x (Err (no_in no.number (plain no.at)))
      typed_unstarted f = record { answer = λ ds v l. rw (locals_as ds v l, started_refused n (locals_first types n s) b.answer f) refl; size = b.size }

      module _ {locals next : ℕ} (f : r ≡ Ok (locals, next)) where
        begun : (vs : List Val) → locals_first types n s ≡ got vs next → locals ≡ n + length vs → Begun work₁ (record { types = types; locals = locals; first = second; results = m }) s next
        begun vs read count =
            let start = b.begun vs next read in
            record {
              upright = record { room = omega (arith, t.sized.fresh.room, b.size); few = omega (arith, start.few); deep = omega arith; low = omega arith; rests = floor };
              stamped = record { locals = λ i h. let z = start.blank (stamps_from + i) (omega arith) in omega (arith, start.forward); frames = λ k h. let z = start.blank (frames_from + (frame_span * k + stamp_word)) (omega arith) in omega (arith, start.forward) };
              few = t.sized.known;
              inside = start.inside;
              short = t.short;
            }

        pub may_judge : Begun work₁ (record { types = types; locals = locals; first = second; results = m }) s next
        may_judge = let (vs, read, count) = started_got n (locals_first types n s) b.answer f in begun vs read count

        module _ {work₂ : List ℕ} {end : Result (ℕ × ℕ) Refused} (j : JudgedFrom rows codes work₁ work₂ (record { types = types; locals = locals; first = second; results = m }) s next end) where
          -- what the check begins with is what the definition begins with
          context_is : (vs : List Val) → locals_first types n s ≡ got vs next → locals ≡ n + length vs → (ds : List Definition) → view rows codes ≡ types_of ds → length ds ≡ types → context_at rows codes work₁ (record { types = types; locals = locals; first = second; results = m }) ≡ context_of ds function vs
          unfolding context_at function
          context_is vs read count ds v l =
              let start = b.begun vs next read in
              let all = ap (codes_at _ work₁ 0) count ∙ start.types in
              λ i. record { types = v i; count = sym l i; locals = all i; results = codes_at val_at_code codes second m }

          state_is : (vs : List Val) → locals_first types n s ≡ got vs next → locals ≡ n + length vs → state_at work₁ locals begin ≡ start_state function vs
          unfolding state_at frames_at stack function
          state_is vs read count =
              let start = b.begun vs next read in
              let sets = ap (sets_at work₁ 1 0) count ∙ start.sets in
              λ i. record { frames = []; operands = []; dead = false; is_set = sets i }

          verdict : (vs : List Val) → locals_first types n s ≡ got vs next → locals ≡ n + length vs → (ds : List Definition) → view rows codes ≡ types_of ds → length ds ≡ types → finished_as s end ≡ verdict_of instructions (typed_on ds s x)
          unfolding rest
          verdict vs read count ds v l =
              let from = ap₂ (λ (c : Context) (st : State). judge_from (length s) c st s next) (context_is vs read count ds v l) (state_is vs read count) in
              let ends = ap (finished_as s) (j.answer ∙ ap (ended_is 0) from) in
              let all = locals_as ds v l ∙ ap (λ (o : Read (List Val)). judged_of (then o (rest ds function s))) read in
              ends ∙ sym (ap (verdict_of instructions) all ∙ read_verdict ds function s vs (judge_from (length s) (context_of ds function vs) (start_state function vs) s next))

          pub typed-ended : {v : Result ℕ Rejected} → v ≡ finished_as s end → TypedJudged rows codes work work₂ s types x v
          typed-ended g =
              let (vs, read, count) = started_got n (locals_first types n s) b.answer f in
              record { answer = λ ds v l. g ∙ verdict vs read count ds v l; size = j.size ∙ b.size }

pub ruleset typed_exits = (finish_refused, finish_all, finish_over, typed_struct, may_start, typed_unstarted, may_judge, typed-ended)
