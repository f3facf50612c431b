-- Each way out of the question whether a value passes a cast, by what it is as a reference.
use Prim.Native.Nat.{ℕ, ◌+◌, ◌*◌, ◌≤◌, ◌<◌}
use mathlib.Core.Path.{◌≡◌, refl, ap, ◌∙◌}
use mathlib.Core.Bool.{Bool, false}
use mathlib.Core.Option.{Option, some}
use mathlib.Core.List.{List}
use lib.ListN.{get_elem?, drop}
use lib.Dec.{eqb}
use Rattle.scope.specs.Told.{Maybe}
use Rattle.std.specs.Prelude.{None, Some}
use Rattle.scope.specs.Reading.{given}
use Rattle.scope.specs.Syntax.{exact}
use Rattle.scope.specs.Order.{heap_below}
use Rattle.scope.specs.Machine.{Value, Object, Store, Outcome, stuck, on_taken, on_reference, is_very}
use Rattle.scope.proofs.Impossible.{impossible}
use Rattle.run_value.specs.declared.Value.{Value as Carrier}
use Rattle.type_table.specs.View.{heap_at_code, view}
use Rattle.type_table.proofs.Codes.{heap-at-code}
use Rattle.type_table.proofs.Laws.{link_nothing, link_to}
use Rattle.run_objects.specs.Objects.{store_at, object_at, TypeOf, DescriptorOf}
use Rattle.run_objects.proofs.Packs.{store_there, store_none}
use Rattle.run_stack.specs.Pile.{head_of}
use Rattle.run_state.specs.declared.Reference.{Reference}
use Rattle.run_state.specs.declared.Reference
use Rattle.run_state.specs.Planned.{Seen, reference_at}
use Rattle.run_state.proofs.Tops.{on_top_lem, wrong_top, null_top, object_top}
use Rattle.run_passing.specs.Passes.{Answers, PassesAs, PassesDescriptorAs}

-- both casts ask a reference: null passes or not, an object by a test
abbrev asks : Store → Bool → (Object → Bool) → Value → (Bool → Outcome) → Outcome
asks os null_too test v f = on_reference v (λ r. given r (f null_too) (λ o. given (get_elem? os o) stuck (λ x. f (test x))))

-- a value that is there, and the answer of it
answered :
    {vs : List Value} {ask : Value → (Bool → Outcome) → Outcome} {w : Value} (b : Bool) → head_of vs ≡ some w → ((f : Bool → Outcome) → ask w f ≡ f b)
    → Answers vs ask (Some b)
answered {vs} {ask} {w} b e same =
    record {
      wrong = λ q. impossible cc;
      there = λ c q. (w, e);
      is = λ c q v g f.
          let this : c ≡ b = cc in
          let that : v ≡ w = cc in
          rw (this, that) (on_top_lem vs e (λ u below. ask u (f u below)) ∙ same (f w (drop 1 vs)));
    }

-- no answer
unanswered :
    {vs : List Value} {ask : Value → (Bool → Outcome) → Outcome} → ((f : Value → List Value → Bool → Outcome) → on_taken vs (λ v below. ask v (f v below)) ≡ stuck)
    → Answers vs ask None
unanswered lost =
    record {
      wrong = λ q. lost;
      there = λ c q. impossible cc;
      is = λ c q. impossible cc;
    }

module _ {top : Maybe Carrier} {q : Reference} (seen_as : q ≡ reference_at top) {vs : List Value} (s : Seen vs top) where
  ask_wrong : (os : Store) (null_too : Bool) (test : Object → Bool) → q ≡ Reference.TheVariants.Wrong → Answers vs (asks os null_too test) None
  ask_wrong os null_too test e =
      unanswered (λ f. wrong_top s seen_as e (λ v below r. given r (f v below null_too) (λ o. given (get_elem? os o) stuck (λ x. f v below (test x)))))

  ask_null : (os : Store) (null_too : Bool) (test : Object → Bool) → q ≡ Reference.TheVariants.Null → Answers vs (asks os null_too test) (Some null_too)
  ask_null os null_too test e = answered null_too (null_top s seen_as e) (λ f. refl)

  module _ (objects cells : List ℕ) {n : ℕ} (null_too : Bool) (test : Object → Bool) {o : ℕ} (e : q ≡ Reference.TheVariants.To o) where
    ask_past : n ≤ o → Answers vs (asks (store_at objects cells n) null_too test) None
    ask_past h =
        unanswered (λ f. on_top_lem vs (object_top s seen_as e) (λ v below. asks (store_at objects cells n) null_too test v (f v below)) ∙ rw (store_none objects cells n o h) refl)

    ask_object : o < n → {b : Bool} → test (object_at objects cells o) ≡ b → Answers vs (asks (store_at objects cells n) null_too test) (Some b)
    ask_object h {b} t =
        answered b (object_top s seen_as e) (λ f. ap (λ (it : Option Object). given it stuck (λ x. f (test x))) (store_there objects cells n o h) ∙ ap f t)

-- a cast by type

abbrev belongs : List ℕ → List ℕ → ℕ → Object → Bool
belongs rows codes h x = heap_below (view rows codes) (exact x.type) (heap_at_code h)

module _ (rows codes objects : List ℕ) (n : ℕ) {top : Maybe Carrier} (null_too : Bool) (h : ℕ) {q : Reference} (seen_as : q ≡ reference_at top) where
  pub cast_wrong : q ≡ Reference.TheVariants.Wrong → PassesAs rows codes objects n top null_too h None
  cast_wrong e = record { answers = λ vs cells s. ask_wrong seen_as s (store_at objects cells n) null_too (belongs rows codes h) e }

  pub cast_null : q ≡ Reference.TheVariants.Null → PassesAs rows codes objects n top null_too h (Some null_too)
  cast_null e = record { answers = λ vs cells s. ask_null seen_as s (store_at objects cells n) null_too (belongs rows codes h) e }

  module _ {o : ℕ} (e : q ≡ Reference.TheVariants.To o) where
    pub cast_past : n ≤ o → PassesAs rows codes objects n top null_too h None
    cast_past l = record { answers = λ vs cells s. ask_past seen_as s objects cells null_too (belongs rows codes h) e l }

    pub cast_object :
        o < n → {made : ℕ} → TypeOf objects o made → {below : Bool} → below ≡ heap_below (view rows codes) (heap_at_code (11 + 2 * made)) (heap_at_code h)
        → PassesAs rows codes objects n top null_too h (Some below)
    cast_object l {made} t b =
        record {
          answers = λ vs cells s.
              ask_object seen_as s objects cells null_too (belongs rows codes h) e l (rw (t.is cells, b, heap-at-code (exact made)));
        }

-- a cast by descriptor

abbrev is_of : ℕ → Object → Bool
is_of d x = is_very x.descriptor d

module _ (objects : List ℕ) (n : ℕ) {top : Maybe Carrier} (null_too : Bool) (d : ℕ) {q : Reference} (seen_as : q ≡ reference_at top) where
  pub very_wrong : q ≡ Reference.TheVariants.Wrong → PassesDescriptorAs objects n top null_too d None
  very_wrong e = record { answers = λ vs cells s. ask_wrong seen_as s (store_at objects cells n) null_too (is_of d) e }

  pub very_null : q ≡ Reference.TheVariants.Null → PassesDescriptorAs objects n top null_too d (Some null_too)
  very_null e = record { answers = λ vs cells s. ask_null seen_as s (store_at objects cells n) null_too (is_of d) e }

  module _ {o : ℕ} (e : q ≡ Reference.TheVariants.To o) where
    pub very_past : n ≤ o → PassesDescriptorAs objects n top null_too d None
    very_past l = record { answers = λ vs cells s. ask_past seen_as s objects cells null_too (is_of d) e l }

    module _ (l : o < n) {link : Maybe ℕ} (t : DescriptorOf objects o link) where
      pub very_none : link ≡ None → PassesDescriptorAs objects n top null_too d (Some false)
      very_none g =
          record {
            answers = λ vs cells s.
                ask_object seen_as s objects cells null_too (is_of d) e l (ap (λ (c : Option ℕ). is_very c d) (link_nothing (object_at objects cells o).descriptor (t.is cells) g));
          }

      pub very_object : {c : ℕ} → link ≡ Some c → PassesDescriptorAs objects n top null_too d (Some (eqb c d))
      very_object g =
          record {
            answers = λ vs cells s.
                ask_object seen_as s objects cells null_too (is_of d) e l (ap (λ (c : Option ℕ). is_very c d) (link_to (object_at objects cells o).descriptor (t.is cells) g));
          }

pub ruleset passing_exits = (cast_wrong, cast_null, cast_past, cast_object, very_wrong, very_null, very_past, very_none, very_object)
