-- The laws of specs/EmptyLibrary.antt hold. With the byte 00 the section is read after no types; read alike, it is judged alike, and all
-- that follows looks at the verdict alone. Under two limits it is read alike, or the narrower one says 4 (Limits.antt).
use Prim.Native.Nat.{ℕ, ◌<◌, ◌≤◌}
use native.Mathlib.Omega.{arith}
use mathlib.Core.Path.{◌≡◌, refl, sym, ◌∙◌, ap, subst}
use mathlib.Core.Bool.{Bool, true, false, cond}
use mathlib.Core.List.{List, []}
use lib.ListN.{length}
use lib.Dec.{ltb}
use borrow.Author.Tests.{le-ltb}
use Rattle.scope.specs.Sizes.{most_bytes, most_types}
use Rattle.scope.specs.Refusals.{oversize, out_of_reach, not_a_function}
use Rattle.scope.specs.Reading.{Read, got, refused, given}
use Rattle.scope.specs.Lists.{joined}
use Rattle.scope.specs.Syntax.{Definition, Group, types_of}
use Rattle.scope.specs.Sections.{read_after, empty_library}
use Rattle.scope.specs.Judging.{in_addon, plain, Judged, accepted, rejected, and_then, judge_types, judge_library, Joined, judge_more, judge_joined, judge_sections, held_at, ask_type, part_of}
use Rattle.scope.specs.Bodies.{function_of, judged_of, body_at, judge_body}
use Rattle.scope.specs.Running.{trial_run}
use Rattle.scope.specs.Memory.{rows_from}
use Rattle.scope.proofs.Computes.{computes}
use Rattle.scope.proofs.Impossible.{contradiction}
use Rattle.facts_sections.specs.Allowed.{Section}
use Rattle.facts_sections.specs.Limits.{read_under, Wider, the_same, too_many}
use Rattle.facts_sections.specs.EmptyLibrary.{types_alone, judge_alone, ask_alone, part_alone, body_alone, run_alone, own_types, own_type, SameAnswers, SameTable, most_before, TooManyBefore, Compared, as_before, too_many_before, EmptyLibrary}
use Rattle.facts_sections.proofs.SectionReading.{section_read}
use Rattle.facts_sections.proofs.Limits.{limits}

no_types : judge_library empty_library ≡ accepted []
unfolding computes
no_types = refl

-- what goes on with the types goes on with the same types
carried : {A : Type 0} (v : Judged (List Definition)) (f : Joined → Judged A) → and_then (and_then v (λ ds. accepted (own_types ds))) f ≡ and_then v (λ ds. f (own_types ds))
carried (accepted ds) f = refl
carried (rejected n p) f = refl

taken : {A : Type 0} (v : Judged (List Definition)) (f : List Definition → Judged A) → and_then (and_then v (λ ds. accepted ds)) f ≡ and_then v f
taken (accepted ds) f = refl
taken (rejected n p) f = refl

-- a section that is read alike under a limit

module _ (most : ℕ) (s : List ℕ) (alike : read_under most 0 s ≡ read_after 0 s) where
  same_sections : judge_joined empty_library s ≡ and_then (judge_alone most s) (λ ds. accepted (own_types ds))
  unfolding judge_joined judge_alone
  same_sections = rw (no_types, alike) (go (read_after 0 s))
    where
      rules : (gs : List Group) (v : Judged ℕ) → and_then {B = Joined} v (λ all. accepted (record { before = 0; types = joined gs })) ≡ and_then (and_then v (λ all. accepted (joined gs))) (λ ds. accepted (own_types ds))
      rules gs (accepted m) = refl
      rules gs (rejected n p) = refl

      go : (r : Read (List Group)) → judge_more [] r ≡ and_then (types_alone r) (λ ds. accepted (own_types ds))
      go (got gs end) = rules gs (judge_types (types_of (joined gs)) (length (joined gs)))
      go (refused n p) = refl

  same_types : (x : ℕ) → ask_type empty_library s x ≡ and_then (ask_alone most s x) (λ d. accepted (own_type d))
  unfolding ask_type ask_alone
  same_types x = rw same_sections (go (judge_alone most s))
    where
      -- no number is below 0
      test : (ds : List Definition) (b : Bool) → cond b (accepted (held_at (own_types ds) x)) (rejected out_of_reach (plain x)) ≡ and_then (cond b (accepted (types_of ds x)) (rejected out_of_reach (plain x))) (λ d. accepted (own_type d))
      test ds true = rw (le-ltb x 0 (omega arith))
      test ds false = refl

      go : (v : Judged (List Definition))
          → and_then (and_then v (λ ds. accepted (own_types ds))) (λ j. cond (ltb x (length j.types)) (accepted (held_at j x)) (rejected out_of_reach (plain x)))
          ≡ and_then (and_then v (λ ds. cond (ltb x (length ds)) (accepted (types_of ds x)) (rejected out_of_reach (plain x)))) (λ d. accepted (own_type d))
      go (accepted ds) = test ds (ltb x (length ds))
      go (rejected n p) = refl

  same_parts : (x : ℕ) → part_of empty_library s (ask_type empty_library s x) ≡ part_alone s (ask_alone most s x)
  same_parts x = ap (part_of empty_library s) (same_types x) ∙ go (ask_alone most s x)
    where
      go : (v : Judged Definition) → part_of empty_library s (and_then v (λ d. accepted (own_type d))) ≡ part_alone s v
      go (accepted d) = refl
      go (rejected n p) = refl

  same_bodies : (body : List ℕ) (x : ℕ) → judge_body empty_library s body x ≡ body_alone most s body x
  unfolding judge_body judge_sections body_alone
  same_bodies body x =
      rw (same_sections, carried (judge_alone most s) (λ j. accepted j.types))
      (taken (judge_alone most s) (λ ds. cond (ltb most_bytes (length body)) (rejected oversize (plain 0)) (given (function_of (types_of ds x).form) (rejected not_a_function (plain 0)) (λ f. judged_of (body_at ds f body)))))

  same_runs : (body : List ℕ) (x budget : ℕ) → trial_run empty_library s body x budget ≡ run_alone most s body x budget
  unfolding trial_run run_alone
  same_runs body x budget = rw (same_bodies body x)

  same_answers : SameAnswers most s
  same_answers = record { sections = same_sections; types = same_types; parts = same_parts; bodies = same_bodies; runs = same_runs }

-- today's limit

answers_now : (s : List ℕ) → SameAnswers most_types s
answers_now s = same_answers most_types s (limits.now 0 s)

-- the add-on's types are all there are
none_before : (s : List ℕ) (j : Joined) → judge_joined empty_library s ≡ accepted j → own_types j.types ≡ j
none_before s j e = go (judge_alone most_types s) (sym (answers_now s).sections ∙ e)
  where
    go : (v : Judged (List Definition)) → and_then v (λ ds. accepted (own_types ds)) ≡ accepted j → own_types j.types ≡ j
    go (rejected n p) f = absurd (contradiction cc)
    go (accepted ds) f = let is : own_types ds ≡ j = cc in ap (λ (k : Joined). own_types k.types) (sym is) ∙ is

same_table : (s : List ℕ) (j : Joined) → judge_joined empty_library s ≡ accepted j → SameTable j
unfolding rows_from
same_table s j e = subst SameTable (none_before s j e) (record { rows = refl; shared = refl; codes = refl })

-- document 01's limit

few_types : (s : List ℕ) (gs : List Group) → Section 0 s gs → length (joined gs) ≤ most_before → SameAnswers most_before s
few_types s gs section few =
    let read : read_under most_types 0 s ≡ got gs (length s) = limits.now 0 s ∙ section_read section in
    same_answers most_before s (limits.within most_before most_types 0 s gs (length s) (omega arith) read (omega arith) ∙ sym (section_read section))

was_too_many : (s : List ℕ) {p : ℕ} → read_under most_before 0 s ≡ refused oversize p → judge_alone most_before s ≡ rejected oversize (in_addon p)
unfolding judge_alone
was_too_many s e = rw e

many_types_lem : (s : List ℕ) (gs : List Group) → Section 0 s gs → most_before < length (joined gs) → TooManyBefore s
many_types_lem s gs section many = go (limits.wider most_before most_types 0 s (omega arith))
  where
    go : Wider (read_under most_before 0 s) (read_under most_types 0 s) → TooManyBefore s
    go (too_many {p = p} e) = (p, was_too_many s e)
    go (the_same e) = absurd (let within = limits.holds most_before 0 s gs (length s) (omega arith) (e ∙ limits.now 0 s ∙ section_read section) in omega arith)

either_way : (s : List ℕ) → Compared s
either_way s = go (limits.wider most_before most_types 0 s (omega arith))
  where
    go : Wider (read_under most_before 0 s) (read_under most_types 0 s) → Compared s
    go (too_many {p = p} e) = too_many_before (p, was_too_many s e)
    go (the_same e) = as_before (same_answers most_before s (e ∙ limits.now 0 s))

pub empty_library_lem : EmptyLibrary
empty_library_lem = record { now = answers_now; words = same_table; few = few_types; many = many_types_lem; every = either_way }
