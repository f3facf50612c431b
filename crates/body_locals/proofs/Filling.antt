-- The same word written again and again: after i turns it stands so many times from the place on.
use Prim.Native.Nat.{ℕ, ◌+◌, ◌%◌, ◌^◌, ◌<◌}
use mathlib.Core.Path.{◌≡◌}
use mathlib.Core.List.{List, [], ◌∷◌}
use native.Mathlib.Omega.{arith}
use native.Mathlib.Nat.{mod-eq_of_lt}
use lib.ListN.{length, set, replicate, length-replicate, replicate-append-replicate}
use Rattle.type_table.proofs.Puts.{Puts, puts_one, puts_more, puts_length}
use Rattle.body_locals.specs.Entries.{Space}

pub filled_turn : {work₀ work work' : List ℕ} {at k code i : ℕ} → Puts work₀ work at (replicate i code) → Space work₀ at k code → i < k → work' ≡ set work (at + i) (code % 2 ^ 32) → Puts work₀ work' at (replicate (i + 1) code)
filled_turn {work = work} {work' = work'} {at = at} {code = code} {i = i} p space h e =
    let small : code % 2 ^ 32 ≡ code = mod-eq_of_lt space.small in
    let here : at + i < length work = omega (arith, space.room, puts_length p) in
    let one : Puts work work' (at + i) (code ∷ []) = rw (e, small) (puts_one work (at + i) code here) in
    rw (← replicate-append-replicate i 1 code) (puts_more p (rw length-replicate one))
