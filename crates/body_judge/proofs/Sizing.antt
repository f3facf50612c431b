-- Each way out of the test of a body's size.
use Prim.Native.Nat.{ℕ, ◌≤◌, ◌<◌}
use mathlib.Core.Path.{◌≡◌}
use mathlib.Core.List.{List}
use lib.ListN.{length}
use borrow.Author.Tests.{lt-ltb, le-ltb}
use Rattle.scope.specs.Told.{no_in}
use Rattle.std.specs.Prelude.{Result, Err}
use Rattle.scope.specs.declared.Rejected.{Rejected}
use Rattle.scope.specs.Sizes.{most_bytes}
use Rattle.scope.specs.Refusals.{oversize}
use Rattle.scope.specs.Judging.{plain}
use Rattle.body_judge.specs.Typed.{Sized, Typing, sized_on, TypedJudged, SizedJudged}

module _ {rows codes work : List ℕ} {types x : ℕ} (z : Sized rows codes work types x) (s : List ℕ) where
  pub sized_over : most_bytes < length s → {work' : List ℕ} → work' ≡ work → SizedJudged rows codes work work' s types x (Err (no_in oversize (plain 0)))
  unfolding sized_on
  sized_over h e = record { answer = λ ds v l. rw (lt-ltb most_bytes (length s) h); size = rw e }

  pub may_type : length s ≤ most_bytes → Typing rows codes work s types x
  may_type h = record { sized = z; short = h }

  pub sized_typed : length s ≤ most_bytes → {work' : List ℕ} {r : Result ℕ Rejected} → TypedJudged rows codes work work' s types x r → SizedJudged rows codes work work' s types x r
  unfolding sized_on
  sized_typed h t = record { answer = λ ds v l. rw (le-ltb most_bytes (length s) h) (t.answer ds v l); size = t.size }

pub ruleset sized_exits = (sized_over, may_type, sized_typed)
