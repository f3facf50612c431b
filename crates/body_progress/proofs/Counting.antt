-- One instruction more is counted; and what a body is checked against stands as it stood where the locals' types do.
use Prim.Native.Nat.{ℕ, zero, suc, ◌+◌, ◌<◌, ◌≤◌}
use mathlib.Core.Path.{◌≡◌, refl, ap₂}
use mathlib.Core.List.{List, [], ◌∷◌}
use native.Mathlib.Omega.{arith}
use lib.ListN.{get_or, length}
use Rattle.scope.specs.Sizes.{most_locals}
use Rattle.scope.specs.Reading.{Read, got, refused, then}
use Rattle.scope.specs.Instructions.{Instr}
use Rattle.scope.specs.Bodies.{Code}
use Rattle.type_table.specs.View.{val_at_code, codes_at, view}
use Rattle.body_state.specs.declared.Scene.{Scene}
use Rattle.body_state.specs.State.{val_at_word, context_at}
use Rattle.body_progress.specs.Counted.{counted}

pub counted-one : (before place : ℕ) (j : Instr) (o : Read Code) → counted before (then o (λ code stop. got ((place, j) ∷ code) stop)) ≡ counted (before + 1) o
counted-one before place j (got code stop) = let sum : before + suc (length code) ≡ before + 1 + length code = omega arith in rw sum
counted-one before place j (refused n p) = refl

-- the locals' types stand as they stood, and so does what a body is checked against

codes_same : (work work' : List ℕ) (at n : ℕ) → ((i : ℕ) → i < at + n → get_or work' i 0 ≡ get_or work i 0) → codes_at val_at_word work' at n ≡ codes_at val_at_word work at n
unfolding codes_at
codes_same work work' at zero same = refl
codes_same work work' at (suc n) same = ap₂ (λ (w : ℕ) vs. val_at_word w ∷ vs) (same at (omega arith)) (codes_same work work' (at + 1) n (λ i h. same i (omega arith)))

pub context_same : (rows codes work work' : List ℕ) (k : Scene) → k.locals ≤ most_locals → ((i : ℕ) → i < most_locals → get_or work' i 0 ≡ get_or work i 0) → context_at rows codes work' k ≡ context_at rows codes work k
unfolding context_at
context_same rows codes work work' k few same =
    let locals = codes_same work work' 0 k.locals (λ i h. same i (omega arith)) in
    λ i. record { types = view rows codes; count = k.types; locals = locals i; results = codes_at val_at_code codes k.first k.results }
