-- Code by its place. An instruction takes a byte at least and lies inside the input, so that as many instructions as
-- there are bytes are enough from any place.
use Prim.Native.Nat.{ℕ, zero, suc, ◌+◌, ◌-◌, ◌≤◌}
use mathlib.Core.Path.{◌≡◌, refl, sym, ap, ◌∙◌}
use mathlib.Core.List.{List, [], ◌∷◌}
use native.Mathlib.Omega.{arith}
use lib.ListN.{length}
use Rattle.scope.specs.Reading.{Read, got, refused}
use Rattle.scope.specs.Instructions.{Instr, block, loop, end, op, instr_at}
use Rattle.scope.specs.Bodies.{Code}
use Rattle.scope.specs.Machine.{ends_left, past_ends}
use Rattle.scope.proofs.Forward.{never_back}
use Rattle.scope.proofs.ForwardBodies.{instr_takes}
use Rattle.run_ends.specs.Matching.{on_read, code_from, code_at, Reached, here, further}

-- what is left does not matter where it is enough

from_refused : (left : ℕ) (s : List ℕ) (at : ℕ) {n p : ℕ} → instr_at s at ≡ refused n p → code_from left s at ≡ []
unfolding code_from
from_refused zero s at e = refl
from_refused (suc left) s at e = rw e

from_end : (left : ℕ) (s : List ℕ) (at : ℕ) → length s ≤ at → code_from left s at ≡ []
from_end left s at h = go (instr_at s at) refl
  where
    go : (o : Read Instr) → instr_at s at ≡ o → code_from left s at ≡ []
    go (got i next) e = let (forward, inside) = never_back instr_takes s at e in absurd (omega arith)
    go (refused n p) e = from_refused left s at e

from_enough : (left more : ℕ) (s : List ℕ) (at : ℕ) → length s ≤ at + left → length s ≤ at + more → code_from left s at ≡ code_from more s at
unfolding code_from
from_enough zero more s at h k = sym (from_end more s at (omega arith))
from_enough (suc left) zero s at h k = from_end (suc left) s at (omega arith)
from_enough (suc left) (suc more) s at h k = go (instr_at s at) refl (λ next f g. from_enough left more s next f g)
  where
    go : (o : Read Instr) → instr_at s at ≡ o → ((next : ℕ) → length s ≤ next + left → length s ≤ next + more → code_from left s next ≡ code_from more s next) → on_read o [] (λ i next. (at, i) ∷ code_from left s next) ≡ on_read o [] (λ i next. (at, i) ∷ code_from more s next)
    go (got i next) e later =
        let (forward, inside) = never_back instr_takes s at e in
        ap (λ (code : Code). (at, i) ∷ code) (later next (omega arith) (omega arith))
    go (refused n p) e later = refl

module _ (s : List ℕ) (at : ℕ) where
  pub code_here : {i : Instr} {next : ℕ} → instr_at s at ≡ got i next → code_at s at ≡ (at, i) ∷ code_at s next
  unfolding code_at code_from
  code_here {i} {next} e =
      let (forward, inside) = never_back instr_takes s at e in
      let one_more_lem : length s ≡ suc (length s - 1) = omega arith in
      let rest : code_from (length s - 1) s next ≡ code_from (length s) s next = from_enough (length s - 1) (length s) s next (omega arith) (omega arith) in
      ap (λ (left : ℕ). code_from left s at) one_more_lem ∙ rw (e, rest)

  pub code_refused : {n p : ℕ} → instr_at s at ≡ refused n p → code_at s at ≡ []
  unfolding code_at
  code_refused e = from_refused (length s) s at e

  pub code-none : length s ≤ at → code_at s at ≡ []
  unfolding code_at
  code-none h = from_end (length s) s at h

-- one reading

pub reached_next : {s : List ℕ} {first at next : ℕ} {i : Instr} → Reached s first at → instr_at s at ≡ got i next → Reached s first next
reached_next here e = further e here
reached_next (further f r) e = further f (reached_next r e)

pub reached-inside : {s : List ℕ} {first at : ℕ} → first ≤ length s → Reached s first at → at ≤ length s
reached-inside h here = h
reached-inside {s} h (further {first} f r) = reached-inside (never_back instr_takes s first f).1 r

pub one_next : {o : Read Instr} {i j : Instr} {m n : ℕ} → o ≡ got i m → o ≡ got j n → m ≡ n
one_next e f = cc

-- past the ends of what is open

pub past_past : (m n : ℕ) (code : Code) → past_ends m (past_ends n code) ≡ past_ends (m + n) code
unfolding past_ends
past_past m n [] = refl
past_past m zero (i ∷ code) = let all : m + 0 ≡ m = omega arith in rw all
past_past m (suc n) (i ∷ code) = past_past m (ends_left i.1 n) code ∙ more i.1 ∙ ap (λ (k : ℕ). past_ends k (i ∷ code)) (sym (onto n))
  where
    onto : (k : ℕ) → m + suc k ≡ suc (m + k)
    onto k = omega arith

    more : (j : Instr) → past_ends (m + ends_left j n) code ≡ past_ends (ends_left j (m + n)) code
    more (block rs) = rw (onto (suc n), onto n)
    more (loop rs) = rw (onto (suc n), onto n)
    more end = refl
    more (op o) = rw (onto n)

pub past_own_end : (at : ℕ) (code : Code) → past_ends 1 ((at, end) ∷ code) ≡ code
unfolding past_ends
past_own_end at [] = refl
past_own_end at (i ∷ code) = refl
