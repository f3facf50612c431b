-- Integer vectors of 32 and 64 bits: sums and differences that come around, and pairs with their order as signed numbers and
-- then as unsigned ones, and eqz; worked out over whole numbers from the remark beside each; "least" and "greatest" are those of the
-- signed numbers.
use Rattle.std.specs.Prelude.{true, false, List, [], ◌∷◌}
use Rattle.scope.specs.Integers.{int_add, int_sub}
use Rattle.facts_floats.specs.Vectors.{less, equal, greater, IntCase, comes, ZeroTested, tests, IntOrdered, orders}

abbrev pub bits32_cases : List IntCase
bits32_cases =
    comes int_add 0x00000001 0x00000002 0x00000003  -- within the width
    ∷ comes int_add 0xFFFFFFFF 0x00000001 0x00000000  -- -1 + 1, around
    ∷ comes int_add 0x7FFFFFFF 0x00000001 0x80000000  -- the greatest and 1: the least
    ∷ comes int_add 0x80000000 0x80000000 0x00000000  -- twice the least
    ∷ comes int_add 0xFFFFFFFF 0xFFFFFFFF 0xFFFFFFFE  -- -1 + -1
    ∷ comes int_sub 0x00000002 0x00000001 0x00000001  -- within the width
    ∷ comes int_sub 0x00000000 0x00000001 0xFFFFFFFF  -- 0 - 1, around
    ∷ comes int_sub 0x80000000 0x00000001 0x7FFFFFFF  -- the least less 1: the greatest
    ∷ comes int_sub 0x00000005 0x00000007 0xFFFFFFFE  -- 5 - 7
    ∷ comes int_sub 0x7FFFFFFF 0xFFFFFFFF 0x80000000  -- the greatest less -1
    ∷ comes int_sub 0x80000000 0x80000000 0x00000000  -- the least less itself
    ∷ comes int_sub 0x00000000 0x80000000 0x80000000  -- 0 less the least is the least
    ∷ []

abbrev pub bits32_ordered : List IntOrdered
bits32_ordered =
    orders 0x00000000 0x00000000 equal equal  -- 0 and 0
    ∷ orders 0x00000000 0x00000001 less less  -- 0 and 1
    ∷ orders 0x7FFFFFFF 0x80000000 greater less  -- the greatest and the least
    ∷ orders 0x80000000 0x7FFFFFFF less greater  -- the least and the greatest
    ∷ orders 0x80000000 0x80000000 equal equal  -- the least and itself
    ∷ orders 0x80000000 0x80000001 less less  -- the least and the next
    ∷ orders 0xFFFFFFFF 0x00000000 less greater  -- -1 and 0
    ∷ orders 0xFFFFFFFF 0xFFFFFFFE greater greater  -- -1 and -2
    ∷ orders 0x00000000 0x80000000 greater less  -- 0 and the least
    ∷ orders 0x00000001 0xFFFFFFFF greater less  -- 1 and -1
    ∷ orders 0x7FFFFFFF 0x7FFFFFFE greater greater  -- the greatest and the one before it
    ∷ orders 0xFFFFFFFF 0x80000000 greater greater  -- -1 and the least
    ∷ []

abbrev pub bits64_cases : List IntCase
bits64_cases =
    comes int_add 0x0000000000000001 0x0000000000000002 0x0000000000000003  -- within the width
    ∷ comes int_add 0xFFFFFFFFFFFFFFFF 0x0000000000000001 0x0000000000000000  -- -1 + 1, around
    ∷ comes int_add 0x7FFFFFFFFFFFFFFF 0x0000000000000001 0x8000000000000000  -- the greatest and 1: the least
    ∷ comes int_add 0x8000000000000000 0x8000000000000000 0x0000000000000000  -- twice the least
    ∷ comes int_add 0xFFFFFFFFFFFFFFFF 0xFFFFFFFFFFFFFFFF 0xFFFFFFFFFFFFFFFE  -- -1 + -1
    ∷ comes int_sub 0x0000000000000002 0x0000000000000001 0x0000000000000001  -- within the width
    ∷ comes int_sub 0x0000000000000000 0x0000000000000001 0xFFFFFFFFFFFFFFFF  -- 0 - 1, around
    ∷ comes int_sub 0x8000000000000000 0x0000000000000001 0x7FFFFFFFFFFFFFFF  -- the least less 1: the greatest
    ∷ comes int_sub 0x0000000000000005 0x0000000000000007 0xFFFFFFFFFFFFFFFE  -- 5 - 7
    ∷ comes int_sub 0x7FFFFFFFFFFFFFFF 0xFFFFFFFFFFFFFFFF 0x8000000000000000  -- the greatest less -1
    ∷ comes int_sub 0x8000000000000000 0x8000000000000000 0x0000000000000000  -- the least less itself
    ∷ comes int_sub 0x0000000000000000 0x8000000000000000 0x8000000000000000  -- 0 less the least is the least
    ∷ []

abbrev pub bits64_ordered : List IntOrdered
bits64_ordered =
    orders 0x0000000000000000 0x0000000000000000 equal equal  -- 0 and 0
    ∷ orders 0x0000000000000000 0x0000000000000001 less less  -- 0 and 1
    ∷ orders 0x7FFFFFFFFFFFFFFF 0x8000000000000000 greater less  -- the greatest and the least
    ∷ orders 0x8000000000000000 0x7FFFFFFFFFFFFFFF less greater  -- the least and the greatest
    ∷ orders 0x8000000000000000 0x8000000000000000 equal equal  -- the least and itself
    ∷ orders 0x8000000000000000 0x8000000000000001 less less  -- the least and the next
    ∷ orders 0xFFFFFFFFFFFFFFFF 0x0000000000000000 less greater  -- -1 and 0
    ∷ orders 0xFFFFFFFFFFFFFFFF 0xFFFFFFFFFFFFFFFE greater greater  -- -1 and -2
    ∷ orders 0x0000000000000000 0x8000000000000000 greater less  -- 0 and the least
    ∷ orders 0x0000000000000001 0xFFFFFFFFFFFFFFFF greater less  -- 1 and -1
    ∷ orders 0x7FFFFFFFFFFFFFFF 0x7FFFFFFFFFFFFFFE greater greater  -- the greatest and the one before it
    ∷ orders 0xFFFFFFFFFFFFFFFF 0x8000000000000000 greater greater  -- -1 and the least
    ∷ []

abbrev pub zero_tested : List ZeroTested
zero_tested =
    tests 0 true
    ∷ tests 1 false
    ∷ tests 0x80000000 false
    ∷ tests 0xFFFFFFFF false
    ∷ tests 0x8000000000000000 false
    ∷ tests 0xFFFFFFFFFFFFFFFF false
    ∷ []
