-- What a caller learns from a byte that was read, or was missing.
use Prim.Native.Nat.{ℕ, ◌+◌, ◌^◌, ◌<◌}
use mathlib.Core.Path.{◌≡◌, refl}
use mathlib.Core.Option.{Option, none, some}
use mathlib.Core.List.{List}
use native.Mathlib.Omega.{arith}
use lib.ListN.{length}
use mir.Syntax.{w64}
use mir.Val.{Fits}
use Rattle.scope.specs.Told.{Maybe}
use Rattle.std.specs.Prelude.{None, Some}
use Rattle.scope.proofs.Impossible.{impossible}
use Rattle.number_bytes.specs.Bytes.{byte_is, ByteAt}

-- a byte reader's answer, taken apart

pub byte_got : (o : Option ℕ) {r : Maybe ℕ} {b : ℕ} → r ≡ byte_is o → r ≡ Some b → o ≡ some b
byte_got none p q = impossible cc
byte_got (some x) p q = cc

pub byte_none : (o : Option ℕ) {r : Maybe ℕ} → r ≡ byte_is o → r ≡ None → o ≡ none
byte_none none p q = refl
byte_none (some x) p q = impossible cc

-- there is a place after it

pub next_fits : {s : List ℕ} {next : ℕ} {r : Maybe ℕ} {b : ℕ} → length s < 2 ^ 64 → ByteAt s next r → r ≡ Some b → Fits w64 (next + 1)
next_fits {s} {next} {b = b} l a e = let h : next < length s = (a.small b e).1 in record { fits = omega arith }
