-- Asking one type after the other is asking the whole list.
use Prim.Native.Nat.{ℕ, zero, suc, ◌+◌}
use mathlib.Core.Path.{◌≡◌, refl, ap}
use mathlib.Core.Bool.{Bool, true, false, ◌&&◌}
use mathlib.Core.List.{List}
use lib.ListN.{get_or}
use Rattle.std.specs.List.{list_all, range_with_len}
use Rattle.scope.specs.BodyRules.{has_default}
use Rattle.lent_u16.specs.Words.{WordAt}
use Rattle.type_table.specs.View.{val_at_code, field_at_code, codes_at}
use Rattle.body_plan_defaults.specs.Defaults.{type_of, all_default}

-- the type of the word at one place
abbrev pub defaults_at : Bool → List ℕ → ℕ → Bool
defaults_at fields codes at = has_default (val_at_code (type_of fields (get_or codes at 0)))

pub each_default : (fields : Bool) (codes : List ℕ) (first n : ℕ) → list_all (defaults_at fields codes) (range_with_len first n) ≡ all_default fields codes first n
unfolding all_default codes_at field_at_code
each_default true codes first zero = refl
each_default false codes first zero = refl
each_default true codes first (suc n) = ap (λ (b : Bool). defaults_at true codes first && b) (each_default true codes (first + 1) n)
each_default false codes first (suc n) = ap (λ (b : Bool). defaults_at false codes first && b) (each_default false codes (first + 1) n)

pub word_default : (fields : Bool) {codes : List ℕ} {at w k : ℕ} {b : Bool} → WordAt codes at w → k ≡ type_of fields w → b ≡ has_default (val_at_code k) → b ≡ defaults_at fields codes at
word_default fields a e f = rw (f, e, a.is) refl
