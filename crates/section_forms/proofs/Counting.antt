-- A list's entries take a byte each: every reader of an entry moves on, so the place after a list lies as far ahead as it
-- has entries.
use Prim.Native.Nat.{ℕ, zero, suc, ◌+◌, ◌≤◌}
use mathlib.Core.Path.{◌≡◌, ap}
use mathlib.Core.List.{List, ◌∷◌}
use native.Mathlib.Omega.{arith}
use lib.ListN.{length}
use Rattle.scope.specs.Sizes.{most_each}
use Rattle.scope.specs.Reading.{Read, got, refused, Reader, then, entries}
use Rattle.scope.specs.Sections.{few_at}
use Rattle.scope.proofs.Forward.{Ends, stops, reaches, Takes, unsigned-takes}
use Rattle.scope.proofs.Impossible.{impossible}

data Counted {A : Type 0} (at : ℕ) : Read (List A) → Type 0 where
  uncounted : {k place : ℕ} → Counted at (refused k place)
  counted : {xs : List A} {next : ℕ} → at + length xs ≤ next → Counted at (got xs next)

one_more_lem : {A : Type 0} {at next : ℕ} (x : A) {o : Read (List A)} → at + 1 ≤ next → Counted next o → Counted at (then o (λ xs stop. got (x ∷ xs) stop))
one_more_lem x h uncounted = uncounted
one_more_lem {at = at} x h (counted {xs = xs} {next = stop} k) = let q : at + length (x ∷ xs) ≤ stop = omega arith in counted q

none_more : (at : ℕ) → at + 0 ≤ at
none_more at = omega arith

entries-counted : {A : Type 0} {one : Reader A} → Takes one → (room n : ℕ) (s : List ℕ) (at : ℕ) → Counted at (entries one room n s at)
unfolding entries
entries-counted t room zero s at = counted (none_more at)
entries-counted t zero (suc n) s at = uncounted
entries-counted {A} {one} t (suc room) (suc n) s at = go (t.takes s at) (λ next. entries-counted t room n s next)
  where
    go : {o : Read A} → Ends (at + 1) (length s) o → ((next : ℕ) → Counted next (entries one room n s next)) → Counted at (then o (λ x next. then (entries one room n s next) (λ xs stop. got (x ∷ xs) stop)))
    go stops later = uncounted
    go (reaches {x = x} {next = next} a b) later = one_more_lem x a (later next)

few_counted : {A : Type 0} {one : Reader A} → Takes one → (s : List ℕ) (at : ℕ) → Counted at (few_at one s at)
unfolding few_at
few_counted {A} {one} t s at = go ((unsigned-takes 32).takes s at)
  where
    earlier : {next : ℕ} {o : Read (List A)} → at + 1 ≤ next → Counted next o → Counted at o
    earlier h uncounted = uncounted
    earlier {next} h (counted {xs = xs} {next = stop} k) = let q : at + length xs ≤ stop = omega arith in counted q

    go : {o : Read ℕ} → Ends (at + 1) (length s) o → Counted at (then o (λ n next. entries one most_each n s next))
    go stops = uncounted
    go (reaches {x = n} {next = next} a b) = earlier a (entries-counted t most_each n s next)

pub few_ahead : {A : Type 0} {one : Reader A} → Takes one → (s : List ℕ) (at : ℕ) {xs : List A} {next : ℕ} → few_at one s at ≡ got xs next → at + length xs ≤ next
few_ahead {A} {one} t s at {xs} {next} e = go (few_counted t s at) e
  where
    go : {o : Read (List A)} → Counted at o → o ≡ got xs next → at + length xs ≤ next
    go uncounted q = impossible cc
    go (counted {xs = ys} {next = stop} h) q = let a : ys ≡ xs = cc in let b : stop ≡ next = cc in let c : length ys ≡ length xs = ap length a in omega arith
