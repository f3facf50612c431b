-- What the readers of locals answer and leave in the scratch, by the definitions of document 01.
use Rattle.std.specs.Prelude.{ℕ, ◌+◌, ◌<◌, ◌≤◌, ◌^◌, ◌≡◌, cond, List, map, length, ltb, leb}
use Rattle.scope.specs.Told.{told}
use Rattle.std.specs.Prelude.{Result}
use Rattle.scope.specs.declared.Refused.{Refused}
use Rattle.scope.specs.Sizes.{most_types, most_locals}
use Rattle.scope.specs.Refusals.{oversize, out_of_reach}
use Rattle.scope.specs.Reading.{Read, got, refused, Reader, then}
use Rattle.scope.specs.Numbers.{u32}
use Rattle.scope.specs.Lists.{every}
use Rattle.scope.specs.Syntax.{Val}
use Rattle.scope.specs.Sections.{val_at}
use Rattle.scope.specs.TypeRules.{val_names}
use Rattle.scope.specs.Bodies.{locals_at}
use Rattle.type_table.proofs.Puts.{Puts}
use Rattle.type_read.specs.Codes.{val_code_kept}
use Rattle.body_locals.specs.declared.Entry.{Entry}

-- within the sizes so far, so that a sum with a u32 is exact
pub record Limits (types before : ℕ) : Type 0 where
  pub few : types ≤ most_types
  pub fewer : before ≤ most_locals

-- one entry of the definition's list: how many locals, of which type
unfoldable pub entry_at : ℕ → ℕ → Reader (ℕ × Val)
entry_at types before s at =
    then (u32 s at) (λ k type.
    then (val_at s type) (λ v next.
    cond (every (λ x. ltb x types) (val_names v)) (cond (leb (before + k) most_locals) (got (k, v) next) (refused oversize at)) (refused out_of_reach at)))

abbrev pub entry_of : ℕ × Val → Entry
entry_of e = record { count = e.0; code = val_code_kept e.1 }

abbrev pub entry_is : Read (ℕ × Val) → Result (Entry × ℕ) Refused
entry_is = told entry_of

-- k words of 32 bits fit from a place on
pub record Space (work : List ℕ) (at k code : ℕ) : Type 0 where
  pub room : at + k ≤ length work
  pub small : code < 2 ^ 32

-- The scratch has a word from `first` on for each of the most locals.
pub record Lent (work : List ℕ) (types before first : ℕ) : Type 0 where
  pub few : types ≤ most_types
  pub fewer : before ≤ most_locals
  pub room : first + most_locals ≤ length work

-- how many locals there are, so many before those that were read
abbrev pub locals_is : ℕ → Read (List Val) → Result (ℕ × ℕ) Refused
locals_is before = told (λ vs. before + length vs)

-- the answer, and the codes of the locals after those of the parameters
pub record LocalsPut (types n before : ℕ) (s : List ℕ) (at : ℕ) (work work' : List ℕ) (first : ℕ) (r : Result (ℕ × ℕ) Refused) : Type 0 where
  pub answer : r ≡ locals_is before (locals_at types n before s at)
  pub memory : (vs : List Val) (next : ℕ) → locals_at types n before s at ≡ got vs next → Puts work work' (first + before) (map val_code_kept vs)
  pub size : length work' ≡ length work
