-- Each way out of a function on words, as a law over plain variables. Past the end of a list a read gives the default and
-- a store changes nothing.
use Prim.Native.Nat.{ℕ, ◌≤◌, ◌<◌, ◌^◌}
use mathlib.Core.Path.{◌≡◌, refl, sym}
use mathlib.Core.List.{List}
use native.Mathlib.Omega.{arith}
use lib.ListN.{length, get_or, set, get_or-eq_default}
use lib.Seq.{set_out}
use Rattle.lent_u16.specs.Words.{WordAt}

-- reading

pub word_there : {m : List ℕ} {at : ℕ} → at < length m → get_or m at 0 < 2 ^ 16 → WordAt m at (get_or m at 0)
word_there h small = record { is = refl; small = small }

pub word_past : {m : List ℕ} {at : ℕ} → length m ≤ at → WordAt m at 0
word_past {m} {at} h = record { is = sym (get_or-eq_default m 0 h); small = omega arith }

pub ruleset word_exits = (word_past)

-- storing

pub put_past : (m : List ℕ) (at v : ℕ) → length m ≤ at → m ≡ set m at v
put_past m at v h = sym (set_out m at v h)

pub ruleset put_exits = (put_past)
