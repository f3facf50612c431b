-- Each way out of the reader of a byte, as a law over plain variables: what the answer says of the input.
use Prim.Native.Nat.{ℕ, zero, suc, ◌≤◌, ◌<◌, ◌^◌}
use mathlib.Core.Path.{◌≡◌, refl}
use mathlib.Core.Option.{none, some}
use mathlib.Core.List.{List, [], ◌∷◌}
use native.Mathlib.Omega.{arith}
use native.Mathlib.Nat.{le_of_suc-le-suc, not-suc-le-zero}
use lib.ListN.{length, get_or, get_elem?}
use Rattle.std.specs.Prelude.{None, Some}
use Rattle.number_bytes.specs.Bytes.{ByteAt}
use Rattle.scope.proofs.Impossible.{impossible}

-- the element of a list at a place inside it, and past its end

pub element_there : (s : List ℕ) (at : ℕ) → at < length s → get_elem? s at ≡ some (get_or s at 0)
element_there [] at h = absurd (not-suc-le-zero h)
element_there (x ∷ xs) zero h = refl
element_there (x ∷ xs) (suc at) h = element_there xs at (le_of_suc-le-suc h)

pub element_missing : (s : List ℕ) (at : ℕ) → length s ≤ at → get_elem? s at ≡ none
element_missing [] at h = refl
element_missing (x ∷ xs) zero h = absurd (not-suc-le-zero h)
element_missing (x ∷ xs) (suc at) h = element_missing xs at (le_of_suc-le-suc h)

-- byte_at

pub byte_there : {s : List ℕ} {at : ℕ} → at < length s → get_or s at 0 < 2 ^ 8 → ByteAt s at (Some (get_or s at 0))
byte_there {s} {at} h small = record { is = rw (element_there s at h); small = λ b e. let q : get_or s at 0 ≡ b = cc in (omega arith, h) }

pub byte_missing : {s : List ℕ} {at : ℕ} → length s ≤ at → ByteAt s at None
byte_missing {s} {at} h =
    record { is = rw (element_missing s at h); small = λ b e. impossible cc }

pub ruleset byte_exits = (byte_there, byte_missing)
