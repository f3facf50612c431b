-- "The limit of 256 types becomes 1,024": the readers with any limit. A wider one changes an answer only where the narrower one says 4,
-- and no answer of a section within the narrower one.
use Rattle.std.specs.Prelude.{ℕ, zero, suc, ◌+◌, ◌-◌, ◌≤◌, ◌≡◌, cond, List, [], ◌∷◌, length, eqb, ltb}
use Rattle.scope.specs.Sizes.{most_bytes, most_types}
use Rattle.scope.specs.Refusals.{oversize}
use Rattle.scope.specs.Reading.{Read, got, refused, Reader, then, on_byte, entries}
use Rattle.scope.specs.Numbers.{u32}
use Rattle.scope.specs.Lists.{joined}
use Rattle.scope.specs.Syntax.{Group}
use Rattle.scope.specs.Sections.{definition_at, ended, read_after}

unfoldable pub group_under : ℕ → ℕ → Reader Group
group_under most first s at =
    on_byte s at (λ b.
    let several = then (u32 s (at + 1)) (λ n next. entries (definition_at (first + n)) (most - first) n s next) in
    let alone = then (definition_at (first + 1) s at) (λ d next. got (d ∷ []) next) in
    cond (eqb b 0x4E) several (cond (ltb first most) alone (refused oversize at)))

unfoldable pub groups_under : ℕ → ℕ → ℕ → Reader (List Group)
groups_under most zero first s at = got [] at
groups_under most (suc n) first s at =
    then (group_under most first s at) (λ g next. then (groups_under most n (first + length g) s next) (λ gs end. got (g ∷ gs) end))

unfoldable pub read_under : ℕ → ℕ → List ℕ → Read (List Group)
read_under most first s =
    let groups = then (u32 s 0) (λ n next. then (groups_under most n first s next) (ended s)) in
    cond (ltb most_bytes (length s)) (refused oversize 0) groups

-- what a narrower limit says, and what a wider one does: the same, or the narrower one 4
pub data Wider {A : Type 0} (narrow wide : Read A) : Type 0 where
  the_same : narrow ≡ wide → Wider narrow wide
  too_many : {p : ℕ} → narrow ≡ refused oversize p → Wider narrow wide

pub record Limits : Type 0 where
  -- today's reader is the one with 1,024
  pub now : (first : ℕ) (s : List ℕ) → read_under most_types first s ≡ read_after first s
  -- what is read is within the limit, with those before it
  pub holds : (most first : ℕ) (s : List ℕ) (gs : List Group) (end : ℕ) → first ≤ most → read_under most first s ≡ got gs end → first + length (joined gs) ≤ most
  pub wider : (narrow wide first : ℕ) (s : List ℕ) → narrow ≤ wide → Wider (read_under narrow first s) (read_under wide first s)
  -- a section within the narrower limit is read as before
  pub within : (narrow wide first : ℕ) (s : List ℕ) (gs : List Group) (end : ℕ) → narrow ≤ wide → read_under wide first s ≡ got gs end → first + length (joined gs) ≤ narrow
      → read_under narrow first s ≡ got gs end
