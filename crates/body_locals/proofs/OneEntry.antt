-- Each way out of the reader of one entry of a locals list, in the definition's order: count, type, reach, size.
use Prim.Native.Nat.{ℕ, ◌+◌, ◌≤◌, ◌<◌}
use mathlib.Core.Path.{◌≡◌, refl, sym, ap, ◌∙◌}
use mathlib.Core.Bool.{Bool, true, false, not, cond}
use mathlib.Core.List.{List}
use native.Mathlib.Omega.{arith}
use lib.Dec.{ltb, leb}
use borrow.Author.Tests.{not-true, not-false, le-leb, lt-leb}
use mir.Syntax.{w64}
use mir.Val.{Fits}
use Rattle.scope.specs.Told.{no_at}
use Rattle.std.specs.Prelude.{Result, Ok, Err}
use Rattle.scope.specs.declared.Refused.{Refused}
use Rattle.scope.specs.Sizes.{most_types, most_locals}
use Rattle.scope.specs.Refusals.{oversize, out_of_reach}
use Rattle.scope.specs.Reading.{got, refused}
use Rattle.scope.specs.Numbers.{u32}
use Rattle.scope.specs.Lists.{every}
use Rattle.scope.specs.Syntax.{Val}
use Rattle.scope.specs.Sections.{val_at}
use Rattle.scope.specs.TypeRules.{val_names}
use Rattle.scope.proofs.Told.{told_got, told_refused, passed}
use Rattle.number_values.specs.Values.{natural_is}
use Rattle.number_values.proofs.Laws.{natural_got, natural_refused, natural_bounds}
use Rattle.type_table.specs.Kept.{kept_val}
use Rattle.type_table.specs.View.{val_at_code}
use Rattle.type_table.proofs.CodesBack.{val_code_lem}
use Rattle.type_table.proofs.KeptReach.{val_keeps}
use Rattle.type_read.specs.Codes.{coded_is, val_code_kept}
use Rattle.type_reach.specs.Names.{all_below}
use Rattle.body_locals.specs.declared.Entry.{Entry}
use Rattle.body_locals.specs.Entries.{Limits, entry_at, entry_is}

-- what the code of a type says of its reach is what the type does
code_reach : {types : ℕ} → types ≤ most_types → (v : Val) → all_below types (val_names (val_at_code (val_code_kept v))) ≡ every (λ x. ltb x types) (val_names v)
unfolding all_below val_code_kept
code_reach {types} h v = let few : types ≤ 4_095 = omega arith in rw (val_code_lem (kept_val v)) ((val_keeps few).reach v)

module _ (types before : ℕ) (s : List ℕ) (at : ℕ) where
  pub entry_uncounted : {no : Refused} → Err no ≡ natural_is (u32 s at) → Err no ≡ entry_is (entry_at types before s at)
  unfolding entry_at
  entry_uncounted a = rw (natural_refused (u32 s at) a refl)

  module _ {k from : ℕ} (a : Ok (k, from) ≡ natural_is (u32 s at)) where
    pub count_fits : Limits types before → Fits w64 (before + k)
    count_fits limits = let b = natural_bounds {s = s} {at = at} a refl in record { fits = omega (arith, limits.fewer, b.small) }

    pub entry_untyped : {no : Refused} → Err no ≡ coded_is val_code_kept (val_at s from) → Err no ≡ entry_is (entry_at types before s at)
    unfolding entry_at
    entry_untyped b = rw (natural_got (u32 s at) a refl, told_refused val_code_kept (val_at s from) b)

    module _ {c next : ℕ} (b : Ok (c, next) ≡ coded_is val_code_kept (val_at s from)) {t : Bool} (d : t ≡ all_below types (val_names (val_at_code c))) (limits : Limits types before) where
      entry_read : (v : Val) → val_at s from ≡ got v next → c ≡ val_code_kept v → entry_at types before s at ≡ cond t (cond (leb (before + k) most_locals) (got (k, v) next) (refused oversize at)) (refused out_of_reach at)
      unfolding entry_at
      entry_read v read code =
          let same : every (λ x. ltb x types) (val_names v) ≡ t = sym (d ∙ ap (λ (u : ℕ). all_below types (val_names (val_at_code u))) code ∙ code_reach limits.few v) in
          rw (natural_got (u32 s at) a refl, read, same)

      entry_with : {i : Result (Entry × ℕ) Refused} → ((v : Val) → c ≡ val_code_kept v → i ≡ entry_is (cond t (cond (leb (before + k) most_locals) (got (k, v) next) (refused oversize at)) (refused out_of_reach at))) → i ≡ entry_is (entry_at types before s at)
      entry_with f = let (v, read, code) = told_got val_code_kept (val_at s from) b in f v code ∙ sym (ap entry_is (entry_read v read code))

      pub entry_out : not t ≡ true → Err (no_at out_of_reach at) ≡ entry_is (entry_at types before s at)
      entry_out g = entry_with (λ v code. rw (not-true t g))

      pub entry_over : not t ≡ false → most_locals < before + k → Err (no_at oversize at) ≡ entry_is (entry_at types before s at)
      entry_over g h = entry_with (λ v code. rw (not-false t g, lt-leb (before + k) most_locals h))

      pub entry_got : not t ≡ false → before + k ≤ most_locals → Ok (record { count = k; code = c }, next) ≡ entry_is (entry_at types before s at)
      entry_got g h = entry_with (λ v code. rw (not-false t g, le-leb (before + k) most_locals h, code))

pub ruleset entry_exits = (passed, entry_uncounted, entry_untyped, entry_out, entry_over, entry_got)
