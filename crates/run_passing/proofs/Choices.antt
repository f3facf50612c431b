-- The move of a cast is that of the way which is chosen by the answer.
use Prim.Native.Nat.{ℕ}
use mathlib.Core.Path.{◌≡◌, refl}
use mathlib.Core.Bool.{Bool, true, false}
use mathlib.Core.Option.{Option, some}
use mathlib.Core.List.{List}
use lib.ListN.{drop}
use Rattle.scope.specs.Told.{Maybe}
use Rattle.std.specs.Prelude.{None, Some}
use Rattle.scope.specs.Reading.{given}
use Rattle.scope.specs.Refusals.{trap_null_descriptor}
use Rattle.scope.specs.Machine.{Value, Store, Machine, Program, Outcome, traps, on_taken, on_reference, cast_passes, descriptor_cast_passes}
use Rattle.run_value.specs.declared.Value.{Value as Carrier}
use Rattle.type_table.specs.View.{heap_at_code}
use Rattle.run_stack.specs.Pile.{head_of}
use Rattle.run_state.specs.declared.Reference.{Reference}
use Rattle.run_state.specs.declared.Reference
use Rattle.run_state.specs.declared.Move.{Move}
use Rattle.run_state.specs.declared.Move
use Rattle.run_state.specs.Moved.{MoveIs}
use Rattle.run_state.specs.Planned.{reference_at}
use Rattle.run_state.proofs.Tops.{on_top_lem, top_low, wrong_top, null_top, object_top}
use Rattle.run_state.proofs.Moving.{strays, trapping}
use Rattle.run_passing.specs.Passes.{Answers, PassesAs, PassesDescriptorAs, chosen_of, CastChosen, DescriptorChosen}

module _ (p : Program) (codes : List ℕ) (m : Machine) {vs : List Value} {ask : Value → (Bool → Outcome) → Outcome} {passing : Maybe Bool} (a : Answers vs ask passing) (yes' no' : Move) (f : Value → List Value → Bool → Outcome) where
  -- the two moves are those of the two answers
  choice :
      ((v : Value) → head_of vs ≡ some v → MoveIs p codes m (f v (drop 1 vs) true) yes')
      → ((v : Value) → head_of vs ≡ some v → MoveIs p codes m (f v (drop 1 vs) false) no')
      → MoveIs p codes m (on_taken vs (λ v below. ask v (f v below))) (chosen_of passing yes' no')
  choice yes-is no-is = go passing refl
    where
      go : (q : Maybe Bool) → passing ≡ q → MoveIs p codes m (on_taken vs (λ v below. ask v (f v below))) (chosen_of q yes' no')
      go None e = strays (a.wrong e f)
      go (Some true) e = let (v, top) = a.there true e in rw (a.is true e v top f) (yes-is v top)
      go (Some false) e = let (v, top) = a.there false e in rw (a.is false e v top f) (no-is v top)

pub cast_chosen :
    {rows codes objects : List ℕ} {n : ℕ} {first : Maybe Carrier} {null_too : Bool} {h : ℕ} {passing : Maybe Bool} → PassesAs rows codes objects n first null_too h passing
    → {yes' no' r : Move} → r ≡ chosen_of passing yes' no' → CastChosen rows codes objects n first null_too h yes' no' r
cast_chosen {codes} {null_too} {h} {passing} a {yes'} {no'} e =
    record {
      is = λ p m cells total types knows f yes-is no-is.
          let here : Answers m.operands (cast_passes p.types m.heap null_too (heap_at_code h)) passing = rw (types, knows.heap) (a.answers m.operands cells knows.top) in
          rw e (choice p codes m here yes' no' f yes-is no-is);
    }

-- past the descriptor, as a reference
abbrev past_descriptor : Store → Bool → (List Value → Bool → Outcome) → List Value → Option ℕ → Outcome
past_descriptor os null_too f others r =
    given r (traps trap_null_descriptor) (λ d. on_taken others (λ w below. descriptor_cast_passes os null_too d w (f others)))

module _ {objects : List ℕ} {n : ℕ} {first second : Maybe Carrier} {null_too : Bool} {yes' no' : Move} {q : Reference} (is : q ≡ reference_at first) where
  pub descriptor_wrong : q ≡ Reference.TheVariants.Wrong → DescriptorChosen objects n first second null_too yes' no' Move.TheVariants.Astray
  descriptor_wrong e =
      record {
        is = λ p codes m cells total knows next f yes-is no-is.
            strays (wrong_top knows.top is e (λ v. past_descriptor m.heap null_too f));
      }

  pub descriptor_null : q ≡ Reference.TheVariants.Null → DescriptorChosen objects n first second null_too yes' no' (Move.TheVariants.Traps trap_null_descriptor)
  descriptor_null e =
      record {
        is = λ p codes m cells total knows next f yes-is no-is.
            trapping (on_top_lem m.operands (null_top knows.top is e) (λ v others. on_reference v (past_descriptor m.heap null_too f others)));
      }

  pub descriptor_chosen :
      {d : ℕ} → q ≡ Reference.TheVariants.To d → {passing : Maybe Bool} → PassesDescriptorAs objects n second null_too d passing → {r : Move} → r ≡ chosen_of passing yes' no'
      → DescriptorChosen objects n first second null_too yes' no' r
  descriptor_chosen {d} e {passing} a g =
      record {
        is = λ p codes m cells total knows next f yes-is no-is.
            let top = object_top knows.top is e in
            let low = top_low m.operands top in
            let here : Answers (drop 1 m.operands) (descriptor_cast_passes m.heap null_too d) passing = rw knows.heap (a.answers (drop 1 m.operands) cells next) in
            rw (g, on_top_lem m.operands top (λ v others. on_reference v (past_descriptor m.heap null_too f others)))
            (choice p codes m here yes' no' (λ v below. f (drop 1 m.operands)) (λ v h. yes-is low) (λ v h. no-is low));
      }

pub ruleset chosen_exits = (cast_chosen, descriptor_wrong, descriptor_null, descriptor_chosen)
