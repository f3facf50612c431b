-- After a library of 1,024 types: an add-on has room for empty groups alone. Its count without a group is 1 at 1, a definition alone is 4 at
-- 1, a group of none is accepted and a group of one is 4 where the definition would begin.
use Prim.Native.Nat.{ℕ}
use mathlib.Core.Path.{◌≡◌, refl, ap, ◌∙◌}
use mathlib.Core.List.{List, [], ◌∷◌, ◌++◌}
use lib.ListN.{length}
use Rattle.scope.specs.Sizes.{most_types}
use Rattle.scope.specs.Refusals.{bytes_end, oversize}
use Rattle.scope.specs.Reading.{got, refused}
use Rattle.scope.specs.Syntax.{Definition, types_of}
use Rattle.scope.specs.Sections.{read_after}
use Rattle.scope.specs.Judging.{in_addon, Judged, accepted, rejected, and_then, judge_types, judge_library, Joined, judge_more, judge_joined}
use Rattle.scope.proofs.Computes.{computes}
use Rattle.facts_types.proofs.Judge.{allowed_judged}
use Rattle.facts_sections.proofs.Verdict.{library_allowed_lem}
use Rattle.facts_sections.proofs.ManyTypes.{full_library, full_types, full_accepted, full_many}

no_group_read : read_after most_types (0x01 ∷ []) ≡ refused bytes_end 1
unfolding computes
no_group_read = refl

alone_read : read_after most_types (0x01 ∷ 0x00 ∷ []) ≡ refused oversize 1
unfolding computes
alone_read = refl

none_read : read_after most_types (0x01 ∷ 0x4E ∷ 0x00 ∷ []) ≡ got ([] ∷ []) 3
unfolding computes
none_read = refl

one_read : read_after most_types (0x01 ∷ 0x4E ∷ 0x01 ∷ []) ≡ refused oversize 3
unfolding computes
one_read = refl

append-nil : {A : Type 0} (xs : List A) → xs ++ [] ≡ xs
append-nil [] = refl
append-nil (x ∷ xs) = rw (append-nil xs)

module _ (library : List ℕ) {ls : List Definition} (is : judge_library library ≡ accepted ls) (full : length ls ≡ most_types) where
  read_full : (addon : List ℕ) → judge_joined library addon ≡ judge_more ls (read_after most_types addon)
  unfolding judge_joined
  read_full addon = rw is (ap (λ (n : ℕ). judge_more ls (read_after n addon)) full)

  pub count_alone : judge_joined library (0x01 ∷ []) ≡ rejected bytes_end (in_addon 1)
  count_alone = read_full (0x01 ∷ []) ∙ ap (judge_more ls) no_group_read

  pub one_too_many : judge_joined library (0x01 ∷ 0x00 ∷ []) ≡ rejected oversize (in_addon 1)
  one_too_many = read_full (0x01 ∷ 0x00 ∷ []) ∙ ap (judge_more ls) alone_read

  pub group_of_one : judge_joined library (0x01 ∷ 0x4E ∷ 0x01 ∷ []) ≡ rejected oversize (in_addon 3)
  group_of_one = read_full (0x01 ∷ 0x4E ∷ 0x01 ∷ []) ∙ ap (judge_more ls) one_read

  all_kept : judge_types (types_of (ls ++ [])) (length (ls ++ [])) ≡ accepted (length ls)
  all_kept = rw (append-nil ls) (allowed_judged (library_allowed_lem library ls is).rules)

  pub group_of_none : judge_joined library (0x01 ∷ 0x4E ∷ 0x00 ∷ []) ≡ accepted (record { before = length ls; types = ls })
  group_of_none =
      read_full (0x01 ∷ 0x4E ∷ 0x00 ∷ []) ∙ ap (judge_more ls) none_read
      ∙ ap (λ (v : Judged ℕ). and_then {B = Joined} v (λ all. accepted (record { before = length ls; types = ls ++ [] }))) all_kept
      ∙ ap (λ (ds : List Definition). accepted (record { before = length ls; types = ds })) (append-nil ls)

-- there is such a library: 1,024 structs without fields

pub full_and-none : judge_joined full_library (0x01 ∷ 0x4E ∷ 0x00 ∷ []) ≡ accepted (record { before = length full_types; types = full_types })
full_and-none = group_of_none full_library full_accepted full_many

pub full_and-one : judge_joined full_library (0x01 ∷ 0x4E ∷ 0x01 ∷ []) ≡ rejected oversize (in_addon 3)
full_and-one = group_of_one full_library full_accepted full_many
