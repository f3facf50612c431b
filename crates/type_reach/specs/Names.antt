-- The numbers that a definition names, as the code comes to them: by links, by codes, and by lists of codes.
use Rattle.std.specs.Prelude.{ℕ, ◌<◌, ◌≡◌, Bool, true, false, List, map, ltb}
use Rattle.scope.specs.Told.{Maybe}
use Rattle.scope.specs.Lists.{every, joined, as_list}
use Rattle.scope.specs.TypeRules.{val_names, field_names}
use Rattle.lent_u16.specs.Words.{word_limit}
use Rattle.type_table.specs.View.{val_at_code, field_at_code, codes_at}
use Rattle.type_table.specs.Answers.{link_option}

-- each number is in reach
unfoldable pub all_below : ℕ → List ℕ → Bool
all_below reach ns = every (λ y. ltb y reach) ns

-- the number that a link names is in reach
unfoldable pub link_below : ℕ → Maybe ℕ → Bool
link_below reach link = all_below reach (as_list (link_option link))

-- what a field's code names, or a value type's
unfoldable pub code_names : Bool → ℕ → List ℕ
code_names true c = field_names (field_at_code c)
code_names false c = val_names (val_at_code c)

-- what the n codes from i on name
unfoldable pub codes_names : Bool → List ℕ → ℕ → ℕ → List ℕ
codes_names true codes i n = joined (map field_names (codes_at field_at_code codes i n))
codes_names false codes i n = joined (map val_names (codes_at val_at_code codes i n))

-- the first word that is the code of a type out of reach
pub record Limit (fields : Bool) (reach limit : ℕ) : Type 0 where
  pub is : (c : ℕ) → c < word_limit → all_below reach (code_names fields c) ≡ ltb c limit
