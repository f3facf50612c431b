-- The parts of an accepted body, read a second time: no reading refuses now, and each gives what the first one gave.
use Prim.Native.Nat.{ℕ, ◌+◌, ◌^◌, ◌≤◌, ◌<◌}
use mathlib.Core.Path.{◌≡◌, refl, sym, ap, ◌∙◌}
use mathlib.Core.Bool.{Bool, true}
use mathlib.Core.List.{List}
use native.Mathlib.Omega.{arith}
use lib.ListN.{length, replicate}
use Rattle.std.specs.Prelude.{Result, Ok, Err}
use Rattle.std.specs.Prelude.{Result, Ok, Err}
use Rattle.scope.specs.declared.Rejected.{Rejected}
use Rattle.scope.specs.declared.Refused.{Refused}
use Rattle.scope.specs.Reading.{got}
use Rattle.scope.specs.Syntax.{Val, func, Definition, types_of}
use Rattle.scope.specs.Layout.{work_size, ends_size}
use Rattle.scope.specs.Judging.{accepted, Joined, judge_joined}
use Rattle.scope.specs.Bodies.{Body}
use Rattle.scope.specs.declared.Place.{Place}
use Rattle.scope.proofs.Accepted.{sections_joined}
use Rattle.scope.proofs.Impossible.{contradiction}
use Rattle.scope.proofs.Told.{place_is}
use Rattle.type_table.specs.declared.Shape.{Shape}
use Rattle.type_table.specs.declared.Shape
use Rattle.type_table.specs.Answers.{shape_form}
use Rattle.type_table.specs.View.{val_at_code, codes_at, view, both_codes}
use Rattle.body_state.specs.State.{val_at_word}
use Rattle.body_state.proofs.Answers.{codes-length}
use Rattle.body_start.specs.Beginning.{locals_first, Starting, StartedAs}
use Rattle.run_ends.specs.Matching.{Fillable, Filled, EndsOf}
use Rattle.section_both.specs.Both.{joined_is, BothJudged}
use Rattle.section_both.proofs.Viewing.{viewed}
use Rattle.body_judge.proofs.Typing.{started_got, started_refused, form_is_lem}
use Rattle.run_prepare.specs.Parts.{Parts, TypesAgain, FunctionAgain, LocalsAgain}
use Rattle.run_prepare.proofs.Bodily.{few_types, few_parameters}

-- what the sizes of its parts allow

pub may_start-again :
    {b : Body} {rows codes : List ℕ} {types first n second m : ℕ} → TypesAgain b rows codes types → FunctionAgain b codes first n second m → {work : List ℕ}
    → work ≡ replicate (length work) 0 → work_size ≤ length work → Starting work types n
may_start-again t f zero room = record { zero = zero; room = omega arith; few = f.few; known = t.few }

module _ {library section s : List ℕ} {x : ℕ} {b : Body} (p : Parts library section s x b) where
  -- the sections

  module _ {rows shared codes rows₁ shared₁ codes₁ : List ℕ} {v : Result (ℕ × ℕ) Rejected} (a : BothJudged library section rows shared codes rows₁ shared₁ codes₁ v) where
    record JudgedAgain : Type 0 where
      both : Joined
      judged : judge_joined library section ≡ accepted both
      same : both.types ≡ b.types

    judged-again : JudgedAgain
    judged-again = go (sections_joined library section p.judged)
      where
        go : (j : Joined) × (judge_joined library section ≡ accepted j) × (j.types ≡ b.types) → JudgedAgain
        go (j, is, types) = record { both = j; judged = is; same = types }

    verdict-again : v ≡ Ok (judged-again.both.before, (length b.types))
    verdict-again =
        let again = judged-again in
        a.answer ∙ ap joined_is again.judged ∙ ap (λ (ds : List Definition). Ok (again.both.before, (length ds))) again.same

    pub sections_unrefused : {no : Rejected} → v ≡ Err no → ⊥
    sections_unrefused e = let f = verdict-again in contradiction cc

    pub sections_again : {before count : ℕ} → v ≡ Ok (before, count) → TypesAgain b rows₁ (both_codes shared₁ codes₁) count
    sections_again {count = count} e =
        let f = verdict-again in
        let many : count ≡ length b.types = place_is e f in
        let again = judged-again in
        record { types = viewed library section again.judged (a.stands again.both again.judged) ∙ ap types_of again.same; many = many; few = omega (arith, few_types p); ranged = a.ranged again.both again.judged }

    pub count_fits : {before count : ℕ} → v ≡ Ok (before, count) → count < 2 ^ 16
    count_fits e = let few = (sections_again e).few in omega arith

  -- the function's type

  module _ {rows codes : List ℕ} {types : ℕ} (t : TypesAgain b rows codes types) where
    form_again : (shape : Shape) → (view rows codes x).form ≡ shape_form codes shape → shape_form codes shape ≡ func b.function.parameters b.function.results
    form_again shape a = sym (form_is_lem rows codes x shape a b.types t.types) ∙ p.form

    pub shape_not_struct : {shape : Shape} {first n : ℕ} → shape ≡ Shape.TheVariants.Struct first n → (view rows codes x).form ≡ shape_form codes shape → ⊥
    shape_not_struct {shape} e a = let f = ap (shape_form codes) (sym e) ∙ form_again shape a in contradiction cc

    pub shape_again :
        {shape : Shape} {first n second m : ℕ} → shape ≡ Shape.TheVariants.Func first n second m → (view rows codes x).form ≡ shape_form codes shape
        → FunctionAgain b codes first n second m
    shape_again {shape} {first} {n} {second} {m} e a =
        let f : func (codes_at val_at_code codes first n) (codes_at val_at_code codes second m) ≡ func b.function.parameters b.function.results = ap (shape_form codes) (sym e) ∙ form_again shape a in
        let ps : codes_at val_at_code codes first n ≡ b.function.parameters = cc in
        let rs : codes_at val_at_code codes second m ≡ b.function.results = cc in
        let many : n ≡ length b.function.parameters = sym (codes-length val_at_code codes first n) ∙ ap length ps in
        record { parameters = ps; results = rs; many_parameters = many; many_results = sym (codes-length val_at_code codes second m) ∙ ap length rs; few = omega (arith, few_parameters p) }

  -- the locals

  module _ {rows codes : List ℕ} {types first n second m : ℕ} (t : TypesAgain b rows codes types) (f : FunctionAgain b codes first n second m) where
    read_again : locals_first types n s ≡ got b.locals p.first
    read_again = rw (t.many, f.many_parameters) p.read

    module _ {work work₁ : List ℕ} {r : Result (ℕ × ℕ) Refused} (a : StartedAs (locals_first types n s) s codes work work₁ first n r) where
      pub start_unrefused : {no : Refused} → r ≡ Err no → ⊥
      start_unrefused e = let g = started_refused n (locals_first types n s) a.answer e in let h = read_again in contradiction cc

      pub start-again : {count next : ℕ} → r ≡ Ok (count, next) → LocalsAgain b s work₁ count next
      start-again {count} {next} e =
          let (vs, got-them, many) = started_got n (locals_first types n s) a.answer e in
          with_locals_lem vs got-them many
        where
          with_locals_lem : (vs : List Val) → locals_first types n s ≡ got vs next → count ≡ n + length vs → LocalsAgain b s work₁ count next
          with_locals_lem vs got-them many =
              let h = read_again in
              let begun = a.begun vs next got-them in
              let same : vs ≡ b.locals = cc in
              let place : p.first ≡ next = cc in
              record {
                types = ap (codes_at val_at_word work₁ 0) many ∙ begun.types ∙ rw (f.parameters, same) refl;
                few = omega (arith, begun.few);
                inside = begun.inside;
                code = rw place at p.code;
                balanced = rw place at p.balanced;
              }

  -- the matching ends

  module _ {work : List ℕ} {count next : ℕ} (l : LocalsAgain b s work count next) where
    pub may_fill_again : {ends : List ℕ} → ends_size ≤ length ends → Fillable s ends next
    may_fill_again room = record { short = p.short; room = omega (arith, p.short); inside = l.inside }

    module _ {ends ends₁ : List ℕ} {r : Bool} (a : Filled s ends ends₁ next r) where
      pub ends_told : r ≡ true
      ends_told = a.told l.balanced

      pub ends_again : EndsOf s ends₁ next
      ends_again = a.matching ends_told
