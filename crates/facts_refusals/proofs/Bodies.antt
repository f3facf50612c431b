-- The no to a body, both ways: each step of the verdict that says no is a case of `BodySaysNo`, with the steps before it
-- passed, and each case makes the verdict say just that.
use Prim.Native.Nat.{ℕ, zero, suc, ◌+◌, ◌≤◌, ◌<◌}
use native.Mathlib.Omega.{arith}
use mathlib.Core.Path.{◌≡◌, refl, sym, ◌∙◌, ap}
use mathlib.Core.Logic.{◌↔◌}
use mathlib.Core.Bool.{Bool, true, false, cond, false≢true}
use mathlib.Core.Option.{Option, none, some}
use mathlib.Core.List.{List, ◌++◌}
use lib.ListN.{length, replicate}
use lib.Dec.{ltb, leb, eqb}
use borrow.Author.Tests.{eqb-true, eq-eqb, ltb-true, ltb-false, lt-ltb, le-ltb, leb-true, leb-false, le-leb}
use Rattle.scope.specs.Sizes.{most_bytes, most_locals}
use Rattle.scope.specs.Refusals.{oversize, out_of_reach, not_a_function, left_over}
use Rattle.scope.specs.Reading.{Read, got, refused, given, then}
use Rattle.scope.specs.Numbers.{u32}
use Rattle.scope.specs.Syntax.{Val, Definition, types_of}
use Rattle.scope.specs.Sections.{val_at, ended}
use Rattle.scope.specs.TypeRules.{val_names}
use Rattle.scope.specs.declared.Place.{Place}
use Rattle.scope.specs.Judging.{plain, Judged, accepted, rejected, and_then, Joined, judge_joined, judge_sections}
use Rattle.scope.specs.Instructions.{Instr}
use Rattle.scope.specs.Bodies.{Code, judge_from, locals_at, Function, function_of, Body, start_state, context_of, body_at, judged_of, judge_body}
use Rattle.scope.proofs.Impossible.{contradiction}
use Rattle.scope.proofs.Truths.{none_is_not-some}
use Rattle.scope.proofs.Accepted.{accepted_passes}
use Rattle.facts_sections.proofs.Exactly.{accepted_exactly}
use Rattle.facts_sections.proofs.FaultOrder.{refused_exactly}
use Rattle.facts_bodies.specs.Premises.{ValReached}
use Rattle.facts_bodies.specs.Typing.{InstrsAt, FunctionType, TypedBody}
use Rattle.facts_bodies.proofs.Premises.{Ordered, passes_ordered, all_below, tested_value_reached, value_reached-tested}
use Rattle.facts_bodies.proofs.Bytes.{got_locals, locals_got, got_walked, typed_got}
use Rattle.facts_bodies.proofs.Verdict.{found_function, function_found}
use Rattle.facts_refusals.specs.Bodies.{FirstFaulty, count_bytes, type_bytes, type_unreached, too_many, FaultyEntry, this_entry, later_entry, Begins, LocalsStand, BodySaysNo, by_section, by_size, by_type, by_count, by_locals, by_instruction, by_rest}
use Rattle.facts_refusals.proofs.Faulty.{refused_one, as_refused, got_is_not_refused, refused_faulty, faulty_refused}

-- locals

module _ (count : ℕ) (s : List ℕ) where
  under-names : {n m p q : ℕ} {before from k : ℕ} → FaultyEntry count s k from before n p → n ≡ m → p ≡ q → FaultyEntry count s k from before m q
  under-names {p = p} {before = before} {from} {k} f a b = rw (← a, ← b) f

  refused_entry : (n before from : ℕ) {number place : ℕ} → locals_at count n before s from ≡ refused number place → FaultyEntry count s n from before number place
  unfolding locals_at
  refused_entry zero before from e = absurd (got_is_not_refused e)
  refused_entry (suc n) before from {number} {place} e = go (u32 s from) refl e (λ k next f. refused_entry n (before + k) next f)
    where
      sized : (k type next : ℕ) (v : Val) → u32 s from ≡ got k type → val_at s type ≡ got v next → ValReached count v → (t : Bool) → leb (before + k) most_locals ≡ t
          → cond t (then (locals_at count n (before + k) s next) (λ vs stop. got (replicate k v ++ vs) stop)) (refused oversize from) ≡ refused number place
          → (locals_at count n (before + k) s next ≡ refused number place → FaultyEntry count s n next (before + k) number place)
          → FaultyEntry count s (suc n) from before number place
      sized k type next v a b reach true few f more = last (locals_at count n (before + k) s next) refl f
        where
          last : (r : Read (List Val)) → locals_at count n (before + k) s next ≡ r → then r (λ vs stop. got (replicate k v ++ vs) stop) ≡ refused number place → FaultyEntry count s (suc n) from before number place
          last (got vs stop) q g = absurd (got_is_not_refused g)
          last (refused m p) q g = later_entry {e = record { many = k; type = v }} a b reach (leb-true _ _ few) (more (q ∙ g))
      sized k type next v a b reach false few f more =
          let (number_same, place_same) = refused_one f in
          under-names (this_entry (too_many a b reach (leb-false _ _ few))) number_same place_same

      typed : (k type : ℕ) → u32 s from ≡ got k type → (r : Read Val) → val_at s type ≡ r
          → then r (λ v next. cond (all_below count (val_names v)) (cond (leb (before + k) most_locals) (then (locals_at count n (before + k) s next) (λ vs stop. got (replicate k v ++ vs) stop)) (refused oversize from)) (refused out_of_reach from)) ≡ refused number place
          → ((next : ℕ) → locals_at count n (before + k) s next ≡ refused number place → FaultyEntry count s n next (before + k) number place)
          → FaultyEntry count s (suc n) from before number place
      typed k type a (refused m p) b f more = this_entry (type_bytes a (b ∙ as_refused f))
      typed k type a (got v next) b f more = reached (all_below count (val_names v)) refl f
        where
          reached : (t : Bool) → all_below count (val_names v) ≡ t
              → cond t (cond (leb (before + k) most_locals) (then (locals_at count n (before + k) s next) (λ vs stop. got (replicate k v ++ vs) stop)) (refused oversize from)) (refused out_of_reach from) ≡ refused number place
              → FaultyEntry count s (suc n) from before number place
          reached true below g = sized k type next v a b (tested_value_reached count v below) (leb (before + k) most_locals) refl g (more next)
          reached false below g =
              let (number_same, place_same) = refused_one g in
              let unreached : ¬ ValReached count v = λ r. false≢true (sym below ∙ value_reached-tested count r) in
              under-names (this_entry (type_unreached a b unreached)) number_same place_same

      go : (r : Read ℕ) → u32 s from ≡ r
          → then r (λ k type. then (val_at s type) (λ v next. cond (all_below count (val_names v)) (cond (leb (before + k) most_locals) (then (locals_at count n (before + k) s next) (λ vs stop. got (replicate k v ++ vs) stop)) (refused oversize from)) (refused out_of_reach from))) ≡ refused number place
          → ((k next : ℕ) → locals_at count n (before + k) s next ≡ refused number place → FaultyEntry count s n next (before + k) number place)
          → FaultyEntry count s (suc n) from before number place
      go (refused m p) a f more = this_entry (count_bytes (a ∙ as_refused f))
      go (got k type) a f more = typed k type a (val_at s type) refl f (more k)

  not-reached : {v : Val} → ¬ ValReached count v → all_below count (val_names v) ≡ false
  not-reached {v} no-reach = go (all_below count (val_names v)) refl
    where
      go : (t : Bool) → all_below count (val_names v) ≡ t → t ≡ false
      go true e = absurd (no-reach (tested_value_reached count v e))
      go false e = refl

  lt-leb : (a b : ℕ) → b < a → leb a b ≡ false
  lt-leb a b h = go (leb a b) refl
    where
      go : (t : Bool) → leb a b ≡ t → t ≡ false
      go true e = absurd (let q = leb-true a b e in omega arith)
      go false e = refl

  entry_refused : {n before from number place : ℕ} → FaultyEntry count s n from before number place → locals_at count n before s from ≡ refused number place
  unfolding locals_at
  entry_refused (this_entry (count_bytes a)) = rw a
  entry_refused (this_entry (type_bytes a b)) = rw (a, b)
  entry_refused (this_entry (type_unreached a b no-reach)) = rw (a, b, not-reached no-reach)
  entry_refused (this_entry (too_many a b reach many)) = rw (a, b, value_reached-tested count reach, lt-leb _ _ many)
  entry_refused (later_entry a b reach few more) = rw (a, b, value_reached-tested count reach, le-leb _ _ few, entry_refused more)

-- the whole body

rejected_one : {A : Type 0} {n k : ℕ} {p q : Place} → ◌≡◌ {A = Judged A} (rejected n p) (rejected k q) → (n ≡ k) × (p ≡ q)
rejected_one e = (cc, cc)

accepted_is_not_rejected : {A : Type 0} {x : A} {n : ℕ} {p : Place} → accepted x ≡ rejected n p → ⊥
accepted_is_not_rejected e = contradiction cc

module _ (s : List ℕ) (ds : List Definition) (f : Function) where
  -- what is left to read, from the last step back to the first

  abbrev after-code : List Val → Code → ℕ → Read Body
  after-code ls code stop = ended s (record { types = ds; function = f; locals = ls; code = code }) stop

  abbrev after-locals : List Val → ℕ → Read Body
  after-locals ls first = then (judge_from (length s) (context_of ds f ls) (start_state f ls) s first) (after-code ls)

  abbrev after_count : ℕ → ℕ → Read Body
  after_count n from = then (locals_at (length ds) n (length f.parameters) s from) after-locals

module _ (library section s : List ℕ) (x : ℕ) where
  -- the same no under other names
  as_said : {n k : ℕ} {p q : Place} → BodySaysNo library section s x n p → n ≡ k → p ≡ q → BodySaysNo library section s x k q
  as_said no' a b = rw (← a, ← b) no'

  module _ (ds : List Definition) {many : ℕ} (judged : judge_joined library section ≡ accepted (record { before = many; types = ds })) where
    ordered : Ordered (types_of ds)
    ordered = passes_ordered (accepted_passes library section judged)

    locals_stand : (f : Function) {n from first : ℕ} {ls : List Val} → u32 s 0 ≡ got n from → locals_at (length ds) n (length f.parameters) s from ≡ got ls first → LocalsStand s ds f ls first
    locals_stand f {n} {from} counted locals =
        let read = got_locals s (length ds) n (length f.parameters) from locals in
        record { entries = read.entries; from = from; counted = rw read.counted counted; reads = read.reads; locals = read.stands }

    module _ (f : Function) (begins : Begins library section s x ds f) {number place : ℕ} where
      on-end : {ls : List Val} {first : ℕ} → LocalsStand s ds f ls first → (code : Code) (stop : ℕ) → judge_from (length s) (context_of ds f ls) (start_state f ls) s first ≡ got code stop
          → (b : Body) (t : Bool) → eqb stop (length s) ≡ t → cond t (got b stop) (refused left_over stop) ≡ refused number place → BodySaysNo library section s x number (plain place)
      on-end stand code stop walk b true same e = absurd (got_is_not_refused e)
      on-end {ls} {first} stand code stop walk b false same e =
          let (number_same, place_same) = refused_one e in
          let walked = got_walked (context_of ds f ls) ordered s (length s) (start_state f ls) first walk in
          let left : ¬ (stop ≡ length s) = λ q. false≢true (sym same ∙ eq-eqb stop (length s) q) in
          as_said (by_rest begins stand walked.reads walked.typed left) number_same (ap plain place_same)

      on-instructions : {ls : List Val} {first : ℕ} → LocalsStand s ds f ls first → (r : Read Code) → judge_from (length s) (context_of ds f ls) (start_state f ls) s first ≡ r
          → then r (after-code s ds f ls) ≡ refused number place → BodySaysNo library section s x number (plain place)
      on-instructions {ls} {first} stand (refused n p) walk e =
          by_instruction begins stand (refused_faulty (context_of ds f ls) ordered s (length s) (start_state f ls) first (omega arith) (walk ∙ as_refused e))
      on-instructions stand (got code stop) walk e = on-end stand code stop walk _ (eqb stop (length s)) refl e

      on-locals : (n from : ℕ) → u32 s 0 ≡ got n from → (r : Read (List Val)) → locals_at (length ds) n (length f.parameters) s from ≡ r
          → then r (after-locals s ds f) ≡ refused number place → BodySaysNo library section s x number (plain place)
      on-locals n from counted (refused m p) locals e = by_locals begins counted (refused_entry (length ds) s n (length f.parameters) from (locals ∙ as_refused e))
      on-locals n from counted (got ls first) locals e = on-instructions (locals_stand f counted locals) (judge_from (length s) (context_of ds f ls) (start_state f ls) s first) refl e

      on_count : (r : Read ℕ) → u32 s 0 ≡ r → then r (after_count s ds f) ≡ refused number place → BodySaysNo library section s x number (plain place)
      on_count (refused m p) counted e = by_count begins (counted ∙ as_refused e)
      on_count (got n from) counted e = on-locals n from counted (locals_at (length ds) n (length f.parameters) s from) refl e

      read_no : body_at ds f s ≡ refused number place → BodySaysNo library section s x number (plain place)
      unfolding body_at
      read_no e = on_count (u32 s 0) refl e

    read_says : (f : Function) → Begins library section s x ds f → {number : ℕ} {place : Place} (r : Read Body) → body_at ds f s ≡ r → judged_of r ≡ rejected number place → BodySaysNo library section s x number place
    read_says f begins (got b stop) read e = absurd (accepted_is_not_rejected e)
    read_says f begins (refused n p) read e = let (a, b) = rejected_one e in as_said (read_no f begins read) a b

    typed_no : {number : ℕ} {place : Place} → length s ≤ most_bytes → (o : Option Function) → function_of (types_of ds x).form ≡ o
        → given o (rejected not_a_function (plain 0)) (λ f. judged_of (body_at ds f s)) ≡ rejected number place → BodySaysNo library section s x number place
    typed_no small none found e =
        let (a, b) = rejected_one e in
        as_said (by_type ((accepted_exactly library section _).0 judged) small (λ f t. none_is_not-some (sym found ∙ function_found ds x t))) a b
    typed_no small (some f) found e =
        read_says f (record { before = many; allowed = (accepted_exactly library section _).0 judged; small = small; is_function = found_function ds x found }) (body_at ds f s) refl e

    sized_no : {number : ℕ} {place : Place} (t : Bool) → ltb most_bytes (length s) ≡ t
        → cond t (rejected oversize (plain 0)) (given (function_of (types_of ds x).form) (rejected not_a_function (plain 0)) (λ f. judged_of (body_at ds f s))) ≡ rejected number place → BodySaysNo library section s x number place
    sized_no true large e = let (a, b) = rejected_one e in as_said (by_size ((accepted_exactly library section _).0 judged) (ltb-true _ _ large)) a b
    sized_no false fits e = typed_no (ltb-false _ _ fits) (function_of (types_of ds x).form) refl e

  pub body-no : {number : ℕ} {place : Place} → judge_body library section s x ≡ rejected number place → BodySaysNo library section s x number place
  unfolding judge_body judge_sections
  body-no {number} {place} e = go (judge_joined library section) refl e
    where
      go : (v : Judged Joined) → judge_joined library section ≡ v
          → and_then (and_then v (λ j. accepted j.types)) (λ ds. cond (ltb most_bytes (length s)) (rejected oversize (plain 0)) (given (function_of (types_of ds x).form) (rejected not_a_function (plain 0)) (λ f. judged_of (body_at ds f s)))) ≡ rejected number place
          → BodySaysNo library section s x number place
      go (rejected n p) judged f = let (a, b) = rejected_one f in as_said (by_section ((refused_exactly library section n p).0 judged)) a b
      go (accepted j) judged f = sized_no j.types judged (ltb most_bytes (length s)) refl f

  no-function : {ds : List Definition} → ((f : Function) → ¬ FunctionType ds x f) → function_of (types_of ds x).form ≡ none
  no-function {ds} no-type = go (function_of (types_of ds x).form) refl
    where
      go : (o : Option Function) → function_of (types_of ds x).form ≡ o → o ≡ none
      go none e = refl
      go (some f) e = absurd (no-type f (found_function ds x e))

  not-at-end : {stop : ℕ} → ¬ (stop ≡ length s) → eqb stop (length s) ≡ false
  not-at-end {stop} left = go (eqb stop (length s)) refl
    where
      go : (t : Bool) → eqb stop (length s) ≡ t → t ≡ false
      go true e = absurd (left (eqb-true _ _ e))
      go false e = refl

  module _ {ds : List Definition} {f : Function} (begins : Begins library section s x ds f) where
    begun : judge_body library section s x ≡ judged_of (body_at ds f s)
    unfolding judge_body judge_sections
    begun = rw ((accepted_exactly library section _).1 begins.allowed, le-ltb _ _ begins.small, function_found ds x begins.is_function)

    read_refused : {number place : ℕ} → body_at ds f s ≡ refused number place → judge_body library section s x ≡ rejected number (plain place)
    read_refused e = begun ∙ ap judged_of e

    count_refused : {number place : ℕ} → u32 s 0 ≡ refused number place → body_at ds f s ≡ refused number place
    unfolding body_at
    count_refused e = rw e

    locals_refused : {n from number place : ℕ} → u32 s 0 ≡ got n from → FaultyEntry (length ds) s n from (length f.parameters) number place → body_at ds f s ≡ refused number place
    unfolding body_at
    locals_refused counted faulty = rw (counted, entry_refused (length ds) s faulty)

    instruction_refused : {ls : List Val} {first number place : ℕ} → LocalsStand s ds f ls first → FirstFaulty (context_of ds f ls) (start_state f ls) s first number place → body_at ds f s ≡ refused number place
    unfolding body_at
    instruction_refused {ls} stand faulty =
        rw (stand.counted, locals_got s (length ds) stand.reads stand.locals, faulty_refused (context_of ds f ls) (ordered ds ((accepted_exactly library section _).1 begins.allowed)) s (length s) faulty.reads faulty.derivable faulty.faulty (omega arith))

    rest_refused : {ls : List Val} {is : List Instr} {first stop : ℕ} → LocalsStand s ds f ls first → InstrsAt s first is stop → TypedBody (context_of ds f ls) (start_state f ls) is
        → ¬ (stop ≡ length s) → body_at ds f s ≡ refused left_over stop
    unfolding body_at
    rest_refused {ls} stand reads typed left =
        let (code, walk, same) = typed_got (context_of ds f ls) (ordered ds ((accepted_exactly library section _).1 begins.allowed)) s (length s) typed reads (omega arith) in
        rw (stand.counted, locals_got s (length ds) stand.reads stand.locals, walk, not-at-end left)

  pub no_body : {number : ℕ} {place : Place} → BodySaysNo library section s x number place → judge_body library section s x ≡ rejected number place
  unfolding judge_body judge_sections
  no_body (by_section no') = rw ((refused_exactly library section _ _).1 no')
  no_body (by_size allowed large) = rw ((accepted_exactly library section _).1 allowed, lt-ltb _ _ large)
  no_body (by_type allowed small no-type) = rw ((accepted_exactly library section _).1 allowed, le-ltb _ _ small, no-function no-type)
  no_body (by_count begins e) = read_refused begins (count_refused begins e)
  no_body (by_locals begins counted faulty) = read_refused begins (locals_refused begins counted faulty)
  no_body (by_instruction begins stand faulty) = read_refused begins (instruction_refused begins stand faulty)
  no_body (by_rest begins stand reads typed left) = read_refused begins (rest_refused begins stand reads typed left)

  pub body-no_exactly : (number : ℕ) (place : Place) → (judge_body library section s x ≡ rejected number place) ↔ BodySaysNo library section s x number place
  body-no_exactly number place = (body-no, no_body)
