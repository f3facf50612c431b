-- Each way out of a read of the scratch. A store is that of crate lent_u16, whose laws speak of numbers of any width.
use Prim.Native.Nat.{ℕ, ◌≤◌, ◌<◌, ◌^◌}
use mathlib.Core.Path.{refl, sym}
use mathlib.Core.List.{List}
use native.Mathlib.Omega.{arith}
use lib.ListN.{length, get_or, get_or-eq_default}
use Rattle.lent_u32.specs.Scratch.{Word32At}

pub word_there : {m : List ℕ} {at : ℕ} → at < length m → get_or m at 0 < 2 ^ 32 → Word32At m at (get_or m at 0)
word_there h small = record { is = refl; small = omega arith }

pub word_past : {m : List ℕ} {at : ℕ} → length m ≤ at → Word32At m at 0
word_past {m} {at} h = record { is = sym (get_or-eq_default m 0 h); small = omega arith }

pub ruleset word_exits = (word_past)
