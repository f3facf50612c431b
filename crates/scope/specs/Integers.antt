-- The integer operations of change request 1, over the width in bits (32, 64): "add, sub, eqz and comparisons of integers".
-- An integer is kept as a pattern below 2 ^ n. facts_floats has the laws, once over the width.
use Rattle.std.specs.Prelude.{ℕ, ◌+◌, ◌-◌, ◌%◌, ◌^◌, ◌<◌, Bool, cond, not, eqb, ltb, leb}
use Rattle.scope.specs.Numbers.{Whole, plus, minus}

-- modulo 2 ^ n
unfoldable pub int_add : ℕ → ℕ → ℕ → ℕ
int_add n a b = (a + b) % 2 ^ n

unfoldable pub int_sub : ℕ → ℕ → ℕ → ℕ
int_sub n a b = (a + (2 ^ n - b)) % 2 ^ n

-- The signed order, as it is meant. A pattern stands for a whole number by two's complement: from half of 2 ^ n on, for one
-- below zero.
abbrev pub stands_for : ℕ → ℕ → Whole
stands_for n a = cond (ltb a (2 ^ (n - 1))) (plus a) (minus (2 ^ n - a))

-- whole numbers in their order; minus 0 is plus 0
pub data WholeLess : Whole → Whole → Type 0 where
  both_above : {m n : ℕ} → m < n → WholeLess (plus m) (plus n)
  both_below : {m n : ℕ} → n < m → WholeLess (minus m) (minus n)
  across_zero : {m n : ℕ} → 0 < m + n → WholeLess (minus m) (plus n)

-- The signed order, computed: with the highest bit turned, patterns stand in the order of what they stand for.
abbrev pub top_turned : ℕ → ℕ → ℕ
top_turned n a = (a + 2 ^ (n - 1)) % 2 ^ n

-- eqz
abbrev pub int_is_zero : ℕ → Bool
int_is_zero a = eqb a 0

-- eq, ne
abbrev pub int_equal : ℕ → ℕ → Bool
int_equal a b = eqb a b

abbrev pub int_unequal : ℕ → ℕ → Bool
int_unequal a b = not (eqb a b)

-- lt_s, lt_u
unfoldable pub int_less_signed : ℕ → ℕ → ℕ → Bool
int_less_signed n a b = ltb (top_turned n a) (top_turned n b)

abbrev pub int_less_unsigned : ℕ → ℕ → Bool
int_less_unsigned a b = ltb a b

-- gt_s, gt_u
abbrev pub int_greater_signed : ℕ → ℕ → ℕ → Bool
int_greater_signed n a b = int_less_signed n b a

abbrev pub int_greater_unsigned : ℕ → ℕ → Bool
int_greater_unsigned a b = ltb b a

-- le_s, le_u
unfoldable pub int_at_most_signed : ℕ → ℕ → ℕ → Bool
int_at_most_signed n a b = leb (top_turned n a) (top_turned n b)

abbrev pub int_at_most_unsigned : ℕ → ℕ → Bool
int_at_most_unsigned a b = leb a b

-- ge_s, ge_u
abbrev pub int_at_least_signed : ℕ → ℕ → ℕ → Bool
int_at_least_signed n a b = int_at_most_signed n b a

abbrev pub int_at_least_unsigned : ℕ → ℕ → Bool
int_at_least_unsigned a b = leb b a
