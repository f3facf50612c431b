-- What a local holds, read and put.
use Prim.Native.Nat.{ℕ, ◌≤◌, ◌<◌}
use mathlib.Core.Path.{◌≡◌, refl, sym, ap, ◌∙◌}
use mathlib.Core.Option.{none, some}
use mathlib.Core.List.{List}
use native.Mathlib.Omega.{arith}
use native.Mathlib.Nat.{zero-add}
use lib.ListN.{length, get_or, get_elem?, set}
use lib.Seq.{set_out}
use Rattle.run_value.specs.declared.Value.{Value as Carrier}
use Rattle.run_value.specs.Carried.{decoded, value_kind, value_bits, with_value, ValueIs}
use Rattle.run_value.proofs.Laws.{said, canon_said, some_kind}
use Rattle.run_values.specs.Layout.{kind_place, bits_place}
use Rattle.run_values.specs.Values.{Word64At, held_at, held_from, entry_in}
use Rattle.run_values.proofs.Numbered.{numbered-length, numbered_there, numbered-none}
use Rattle.run_values.proofs.Laws.{held_none, held-some, held_canon_some, put_long, put_among, put_all}
use Rattle.run_stack.specs.declared.HeldLocal.{HeldLocal}
use Rattle.run_stack.specs.declared.HeldLocal
use Rattle.run_stack.specs.Pile.{LocalRoom, LocalIs, LocalSet}

-- read

pub local_there_lem : (locals : List ℕ) (count x : ℕ) → x < count → get_elem? (held_from locals 0 count) x ≡ some (held_at (get_or locals (kind_place x) 0) (get_or locals (bits_place x) 0))
unfolding entry_in
local_there_lem locals count x h = numbered_there (entry_in held_at locals) 0 count x h ∙ ap (λ (k : ℕ). some (entry_in held_at locals k)) (zero-add x)

pub local_none : (locals : List ℕ) (count x : ℕ) → count ≤ x → get_elem? (held_from locals 0 count) x ≡ none
local_none locals count x h = numbered-none (entry_in held_at locals) 0 count x h

pub locals-length : (locals : List ℕ) (count : ℕ) → length (held_from locals 0 count) ≡ count
locals-length locals count = numbered-length (entry_in held_at locals) 0 count

pub local_absent : (locals : List ℕ) {count x : ℕ} → count ≤ x → LocalIs locals count x HeldLocal.TheVariants.Absent
local_absent locals {count} {x} h = record { is = sym (local_none locals count x h) }

module _ {locals : List ℕ} {count x k : ℕ} (h : x < count) (a : Word64At locals (kind_place x) k) where
  pub local_unset : k ≡ 0 → LocalIs locals count x HeldLocal.TheVariants.Unset
  local_unset e =
      let kind : get_or locals (kind_place x) 0 ≡ 0 = sym a.is ∙ e in
      record { is = sym (local_there_lem locals count x h ∙ ap some (held_none (get_or locals (bits_place x) 0) kind)) }

  pub local_held : (k ≡ 0 → ⊥) → {n : ℕ} → Word64At locals (bits_place x) n → {v : Carrier} → ValueIs k n v → LocalIs locals count x (HeldLocal.TheVariants.Is v)
  local_held d {n} b {v} c =
      let held : held_at k n ≡ some (decoded v) = held-some n d ∙ ap some (sym c.is) in
      record { is = sym (local_there_lem locals count x h ∙ ap some (rw (← a.is, ← b.is) held)) }

-- what the answer tells

module _ {locals : List ℕ} {count x : ℕ} {r : HeldLocal} where
  pub local_missed : r ≡ HeldLocal.TheVariants.Absent → LocalIs locals count x r → get_elem? (held_from locals 0 count) x ≡ none
  local_missed e a = sym (rw e at a.is)

  pub local_empty : r ≡ HeldLocal.TheVariants.Unset → LocalIs locals count x r → get_elem? (held_from locals 0 count) x ≡ some none
  local_empty e a = sym (rw e at a.is)

  pub local_got : {v : Carrier} → r ≡ HeldLocal.TheVariants.Is v → LocalIs locals count x r → get_elem? (held_from locals 0 count) x ≡ some (some (decoded v))
  local_got e a = sym (rw e at a.is)

-- a local that is set

pub local_set-none : (locals : List ℕ) {count x : ℕ} (v : Carrier) → count ≤ x → LocalSet locals locals count x v
local_set-none locals {count} {x} v h =
    let beyond : length (held_from locals 0 count) ≤ x = rw (locals-length locals count) h in
    record { is = sym (set_out (held_from locals 0 count) x (some (decoded v)) beyond); canon = λ all. all; size = refl }

pub local_set_there : {locals locals' : List ℕ} {x : ℕ} (v : Carrier) → locals' ≡ with_value locals x v → {count : ℕ} → x < count → LocalRoom locals count → LocalSet locals locals' count x v
local_set_there {locals} {locals'} {x} v e {count} h room =
    let k : ℕ = value_kind v in
    let n : ℕ = value_bits v in
    let inside : bits_place x < length locals = omega (arith, room.room, room.few) in
    record {
      is =
          ap (λ (m : List ℕ). held_from m 0 count) e
          ∙ put_among locals x k n inside held_at 0 count x h (zero-add x)
          ∙ ap (set (held_from locals 0 count) x) (held-some n (some_kind v) ∙ ap some (said v));
      canon = λ all. rw e (put_all locals x k n inside (held_canon_some (canon_said v)) all);
      size = rw e (put_long locals x k n);
    }

pub ruleset local_exits = (local_absent, local_unset, local_held, local_set-none, local_set_there)
