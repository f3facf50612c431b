-- What is left when operands are taken, and what an answer tells of it.
use Prim.Native.Nat.{ℕ}
use mathlib.Core.Path.{◌≡◌, refl, sym, ap, ◌∙◌}
use mathlib.Core.Bool.{Bool, true, false}
use mathlib.Core.List.{List, [], ◌∷◌, ◌++◌}
use Rattle.scope.specs.Refusals.{bad_operand}
use Rattle.scope.specs.Syntax.{Types}
use Rattle.scope.specs.BodyRules.{Wanted, Ruled, allowed, fault, test, and_ruled}
use Rattle.scope.specs.Order.{Fit, it_fits, but_for_null, unfit}
use Rattle.scope.specs.Bodies.{Operand, unknown, Taken, also_taken, fit, operand_test, take_all}
use Rattle.scope.proofs.Impossible.{impossible}
use Rattle.body_state.specs.State.{stack}
use Rattle.body_operands.specs.declared.Left.{Left}
use Rattle.body_operands.specs.declared.Left
use Rattle.body_operands.specs.Taking.{left_in, left_of}

-- what was taken besides does not change what is left
left_also : (o : Operand) (t : Ruled Taken) → left_in (and_ruled t (λ u. allowed (also_taken o u))) ≡ left_in t
left_also o (allowed t) = refl
left_also o (fault n) = refl

left-test : (o : Operand) (holds : Bool) (f : List Operand → Ruled (List Operand)) (t u : Ruled Taken) → left_in u ≡ and_ruled (left_in t) f → left_in (test holds bad_operand (and_ruled u (λ v. allowed (also_taken o v)))) ≡ and_ruled (left_in (test holds bad_operand (and_ruled t (λ v. allowed (also_taken o v))))) f
left-test o true f t u e = left_also o u ∙ e ∙ ap (λ (r : Ruled (List Operand)). and_ruled r f) (sym (left_also o t))
left-test o false f t u e = refl

left-fit : (o : Operand) (outcome : Fit) (f : List Operand → Ruled (List Operand)) (t u : Ruled Taken) → left_in u ≡ and_ruled (left_in t) f → left_in (operand_test outcome (and_ruled u (λ v. allowed (also_taken o v)))) ≡ and_ruled (left_in (operand_test outcome (and_ruled t (λ v. allowed (also_taken o v))))) f
left-fit o it_fits f t u e = left_also o u ∙ e ∙ ap (λ (r : Ruled (List Operand)). and_ruled r f) (sym (left_also o t))
left-fit o but_for_null f t u e = refl
left-fit o unfit f t u e = refl

module _ (ts : Types) (dead : Bool) where
  -- what is left of several is what is left of the later ones, taken from what the earlier ones leave
  pub left-append : (ws vs : List Wanted) (os : List Operand) → left_in (take_all ts dead (ws ++ vs) os) ≡ and_ruled (left_in (take_all ts dead ws os)) (λ more. left_in (take_all ts dead vs more))
  unfolding take_all
  left-append [] vs os = refl
  left-append (w ∷ ws) vs [] =
      left-test unknown dead (λ more. left_in (take_all ts dead vs more)) (take_all ts dead ws []) (take_all ts dead (ws ++ vs) []) (left-append ws vs [])
  left-append (w ∷ ws) vs (o ∷ os) =
      left-fit o (fit ts o w) (λ more. left_in (take_all ts dead vs more)) (take_all ts dead ws os) (take_all ts dead (ws ++ vs) os) (left-append ws vs os)

-- what an answer tells of what was taken

pub left_got : (work : List ℕ) (base : ℕ) (t : Ruled Taken) {r : Left} {height : ℕ} → r ≡ Left.TheVariants.Is height → left_of work base r ≡ left_in t → (u : Taken) × (t ≡ allowed u) × (u.left ≡ stack work base height)
left_got work base (allowed u) {height = height} e a =
    let same : allowed (stack work base height) ≡ allowed u.left = rw e at a in (u, refl, cc)
left_got work base (fault n) {height = height} e a =
    let same : allowed (stack work base height) ≡ fault n = rw e at a in impossible cc

pub left_missed : (work : List ℕ) (base : ℕ) (t : Ruled Taken) {r : Left} {number : ℕ} → r ≡ Left.TheVariants.Fault number → left_of work base r ≡ left_in t → t ≡ fault number
left_missed work base (allowed u) {number = number} e a =
    let same : fault number ≡ allowed u.left = rw e at a in impossible cc
left_missed work base (fault n) {number = number} e a = let same : ◌≡◌ {A = Ruled (List Operand)} (fault number) (fault n) = rw e at a in cc
