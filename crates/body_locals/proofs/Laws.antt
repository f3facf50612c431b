-- What a caller learns from `locals_at`: the locals that the definition read, and a
-- place after them that lies inside the input.
use Prim.Native.Nat.{ℕ, zero, suc, ◌+◌, ◌≤◌}
use mathlib.Core.Path.{◌≡◌}
use mathlib.Core.List.{List}
use native.Mathlib.Omega.{arith}
use native.Mathlib.Nat.{le_trans, le_refl}
use lib.ListN.{length}
use lib.Dec.{ltb, leb}
use Rattle.std.specs.Prelude.{Ok}
use Rattle.scope.specs.Sizes.{most_locals}
use Rattle.scope.specs.Lists.{every}
use Rattle.scope.specs.Reading.{Read, got}
use Rattle.scope.specs.Syntax.{Val}
use Rattle.scope.specs.TypeRules.{val_names}
use Rattle.scope.specs.Bodies.{locals_at}
use Rattle.scope.proofs.Forward.{Ends, stops, reaches, ends_then, ends_cond, one_less, unsigned-takes, val_takes}
use Rattle.scope.proofs.Impossible.{impossible}
use Rattle.scope.proofs.Told.{told_got}
use Rattle.body_locals.specs.Entries.{locals_is}

pub locals_got : (before : ℕ) (o : Read (List Val)) {count next : ℕ} → Ok (count, next) ≡ locals_is before o → (vs : List Val) × (o ≡ got vs next) × (count ≡ before + length vs)
locals_got before o p = told_got (λ vs. before + length vs) o p

locals_ends : (types n before : ℕ) (s : List ℕ) (at : ℕ) → at ≤ length s → Ends at (length s) (locals_at types n before s at)
unfolding locals_at
locals_ends types zero before s at h = reaches (le_refl at) h
locals_ends types (suc n) before s at h =
    ends_then ((unsigned-takes 32).takes s at) (λ k type a b.
    ends_then (val_takes.takes s type) (λ v next c d.
    ends_cond (every (λ x. ltb x types) (val_names v))
    (ends_cond (leb (before + k) most_locals)
    (ends_then (locals_ends types n (before + k) s next d) (λ vs stop e f. reaches (le_trans (le_trans (one_less a) (one_less c)) e) f))
    stops)
    stops))

pub locals-inside : (types n before : ℕ) (s : List ℕ) (at : ℕ) {vs : List Val} {next : ℕ} → at ≤ length s → locals_at types n before s at ≡ got vs next → (at ≤ next) × (next ≤ length s)
locals-inside types n before s at {vs} {next} h e = go (locals_ends types n before s at h) e
  where
    go : {o : Read (List Val)} → Ends at (length s) o → o ≡ got vs next → (at ≤ next) × (next ≤ length s)
    go stops q = impossible cc
    go (reaches {next = m} a b) q = let same : m ≡ next = cc in (omega arith, omega arith)
