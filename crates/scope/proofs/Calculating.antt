-- The numeric instructions. Of those that the run does, the line in specs/Arithmetic.antt takes as many operands as the code's
-- kinds in specs/Numeric.antt say: one test of all lines, read off at each. So the operands that the checker asked for are there,
-- and the result has the kind that it gave. Any other code stops at trap 46.
use Prim.Native.Nat.{ℕ}
use mathlib.Core.Path.{◌≡◌, refl, subst}
use mathlib.Core.Bool.{Bool, true, false, cond}
use mathlib.Core.Option.{Option, none, some}
use mathlib.Core.List.Forall₂
use mathlib.Core.List.{List, [], ◌∷◌}
use lib.ListN.{replicate}
use lib.Dec.{eqb}
use borrow.Author.Tests.{eq-eqb, eqb-true}
use Rattle.scope.specs.Reading.{given}
use Rattle.scope.specs.Lists.{every}
use Rattle.scope.specs.Syntax.{Number, num}
use Rattle.scope.specs.Order.{number_code, same_number}
use Rattle.scope.specs.Numeric.{Numeric, numeric_of}
use Rattle.scope.specs.Instructions.{numeric, find}
use Rattle.scope.specs.Arithmetic.{Deed, of_one, of_two, deeds, deed_of}
use Rattle.scope.specs.BodyRules.{value, operands_of}
use Rattle.scope.specs.Bodies.{Operand, known, State, Body}
use Rattle.scope.specs.Machine.{Value, Machine, with_operands, traps, stuck, calculate, do_numeric, do_op}
use Rattle.scope.specs.Refusals.{trap_other_numeric}
use Rattle.scope.proofs.Truths.{from_both}
use Rattle.scope.proofs.Pairs.{some_is_one}
use Rattle.scope.proofs.Impossible.{impossible}
use Rattle.scope.proofs.Taking.{of_type, done, also}
use Rattle.scope.proofs.Acting.{stays}
use Rattle.scope.proofs.Plain.{leaving, Does, On}
use Rattle.scope.proofs.Soundness.{of_number, of_known, Stands, Typed, Proceeds, is_trap, is_other_numeric}

-- what holds of every line of a table holds of the line that is found
pub at_found : {A : Type 0} (holds : ℕ → A → Bool) (code : ℕ) (rows : List (ℕ × A)) {x : A} → every (λ r. holds r.0 r.1) rows ≡ true → find code rows ≡ some x → holds code x ≡ true
at_found holds code [] all e = impossible cc
at_found {A} holds code (r ∷ rows) {x} all e =
    let both = from_both (holds r.0 r.1) (every (λ r. holds r.0 r.1) rows) all in
    go (eqb code r.0) refl both.0 (λ f. at_found holds code rows both.1 f) e
  where
    go :
        (t : Bool) → eqb code r.0 ≡ t → holds r.0 r.1 ≡ true → (find code rows ≡ some x → holds code x ≡ true)
        → cond t (some r.1) (find code rows) ≡ some x → holds code x ≡ true
    go true is first later e = subst (λ (y : A). holds code y ≡ true) (some_is_one e) (rw (eqb-true code r.0 is) first)
    go false is first later e = later e

-- how many operands a line takes
abbrev pub takes_of : Deed → ℕ
takes_of (of_one f) = 1
takes_of (of_two f) = 2

abbrev suits : ℕ → Deed → Bool
suits code deed = given (numeric_of code) false (λ kinds. eqb kinds.operands (takes_of deed))

all_suit : every (λ r. suits r.0 r.1) deeds ≡ true
unfolding numeric_of
all_suit = refl

pub deed_suits : (code : ℕ) {deed : Deed} {kinds : Numeric} → deed_of code ≡ some deed → numeric_of code ≡ some kinds → kinds.operands ≡ takes_of deed
unfolding deed_of
deed_suits code {deed} {kinds} e is =
    let found : suits code deed ≡ true = at_found suits code deeds all_suit e in
    eqb-true kinds.operands (takes_of deed) (rw is at found)

pub same_number_lem : (k : Number) → same_number k k ≡ true
same_number_lem k = eq-eqb (number_code k) (number_code k) refl

module _ {b : Body} {st : State} (m : Machine) (typed : Typed b st m) (alive : st.dead ≡ false) where
  does :
      (kinds : Numeric) (deed : Deed) {taken left : List Operand} {vs below : List Value}
      → On b m (replicate (takes_of deed) (value (num kinds.kind))) taken left vs below
      → Stands b (leaving st (known (num kinds.result) ∷ left)) m.code
      → Proceeds b m.heap (calculate (with_operands m vs) kinds vs deed)
  does kinds (of_one f) (also (of_type of_number) is (done has)) stands =
      rw (same_number_lem kinds.kind) (stays m typed alive stands (Forall₂.cons (of_known of_number) has))
  does kinds (of_two f) (also (of_type of_number) is (also (of_type of_number) too (done has))) stands =
      rw (same_number_lem kinds.kind) (stays m typed alive stands (Forall₂.cons (of_known of_number) has))

  pub calculates :
      (code : ℕ) (kinds : Numeric) {taken left : List Operand} {vs below : List Value} → numeric_of code ≡ some kinds
      → On b m (operands_of kinds) taken left vs below → Stands b (leaving st (known (num kinds.result) ∷ left)) m.code
      → Does b m vs (numeric code)
  unfolding do_op do_numeric
  calculates code kinds {taken} {left} {vs} {below} is takes stands = go (deed_of code) refl
    where
      go : (d : Option Deed) → deed_of code ≡ d → Proceeds b m.heap (given d (traps trap_other_numeric) (λ deed. given (numeric_of code) stuck (λ kinds. calculate (with_operands m vs) kinds vs deed)))
      go none e = is_trap is_other_numeric
      go (some deed) e =
          let many = deed_suits code e is in
          rw is (does kinds deed (subst (λ (n : ℕ). On b m (replicate n (value (num kinds.kind))) taken left vs below) many takes) stands)
