-- Float vectors of f32: add, sub, mul and div, the rounding alone, neg, and the comparisons. Each was worked out from the remark
-- beside it by exact fractions of whole numbers: the values of the operands, their sum, product or quotient, and by halving
-- intervals the two magnitudes beside it; no processor's float was asked.
use Rattle.std.specs.Prelude.{◌+◌, ◌-◌, ◌^◌, List, [], ◌∷◌}
use Rattle.scope.specs.Floats.{float_add, float_sub, float_mul, float_div}
use Rattle.facts_floats.specs.Vectors.{Case, gives, Fraction, rounds, Turned, turns, less, equal, greater, unordered, Compared, compares}

abbrev pub single_cases : List Case
single_cases =
    -- ties, both ways
    gives float_add 0x3F800000 0x33800000 0x3F800000  -- 1 and half of its last digit: a tie, down to the even 1
    ∷ gives float_add 0x3F800001 0x33800000 0x3F800002  -- the next number and as much: a tie, up to the even one
    ∷ gives float_add 0x3F800000 0x33800001 0x3F800001  -- a little more than half: up
    ∷ gives float_add 0x3F800000 0x337FFFFF 0x3F800000  -- a little less than half: down
    ∷ gives float_add 0xBF800000 0xB3800000 0xBF800000  -- -1 and half of its last digit: a tie, to the even -1
    ∷ gives float_add 0xBF800001 0xB3800000 0xBF800002  -- the next number below: a tie, away from zero to the even one
    ∷ gives float_sub 0x40000000 0x33800000 0x40000000  -- 2 less a quarter of its last digit: half of the last digit below 2: a tie, up to the even 2
    ∷ gives float_mul 0x3F800001 0x3FC00000 0x3FC00002  -- 1.5 times the number after 1: 1.5 last digits past 1.5, a tie up to the even one
    -- the largest subnormal and its neighbours
    ∷ gives float_add 0x007FFFFF 0x00000001 0x00800000  -- the largest subnormal and one unit: the least normal value
    ∷ gives float_sub 0x00800000 0x00000001 0x007FFFFF  -- and back
    ∷ gives float_sub 0x007FFFFF 0x00000001 0x007FFFFE  -- one unit less, still a subnormal
    ∷ gives float_add 0x007FFFFF 0x007FFFFF 0x00FFFFFE  -- twice the largest subnormal is exact
    ∷ gives float_mul 0x00FFFFFF 0x3F000000 0x00800000  -- half of an odd number of units: a tie, up to the least normal value
    ∷ gives float_mul 0x00FFFFFD 0x3F000000 0x007FFFFE  -- a tie, down to the even subnormal below the largest
    ∷ gives float_mul 0x007FFFFF 0x3F800000 0x007FFFFF  -- a subnormal stays what it is
    -- the least values
    ∷ gives float_add 0x00000001 0x00000001 0x00000002  -- two units
    ∷ gives float_mul 0x00000001 0x3F000000 0x00000000  -- half a unit: a tie, down to 0
    ∷ gives float_mul 0x00000001 0x3F000001 0x00000001  -- a little more than half a unit: up
    ∷ gives float_mul 0x00000003 0x3F000000 0x00000002  -- one unit and a half: a tie, up to two
    ∷ gives float_mul 0x80000001 0x3F000000 0x80000000  -- minus half a unit: a tie, to -0
    ∷ gives float_div 0x00000003 0x40000000 0x00000002  -- the same tie by a quotient
    ∷ gives float_div 0x00000001 0x40400000 0x00000000  -- a third of a unit: 0
    ∷ gives float_div 0x40000000 0x7F7FFFFF 0x00400000  -- a quotient of two normal values that is subnormal
    -- overflow
    ∷ gives float_add 0x7F7FFFFF 0x73000000 0x7F800000  -- half of the last digit past the greatest value: infinity
    ∷ gives float_add 0x7F7FFFFF 0x72FFFFFF 0x7F7FFFFF  -- just below that half: the greatest value
    ∷ gives float_add 0xFF7FFFFF 0xF3000000 0xFF800000  -- the same below zero
    ∷ gives float_sub 0xFF7FFFFF 0x72FFFFFF 0xFF7FFFFF  -- just below that half, below zero
    ∷ gives float_mul 0x7F7FFFFF 0x3F800001 0x7F800000  -- a product past the greatest value
    ∷ gives float_mul 0x5F800000 0x5F000000 0x7F000000  -- the greatest power of two
    ∷ gives float_mul 0x5F800000 0x5F800000 0x7F800000  -- the power of two after it
    ∷ gives float_div 0x7F7FFFFF 0x3F000000 0x7F800000  -- twice the greatest value
    ∷ gives float_div 0x7F7FFFFF 0x3F7FFFFF 0x7F800000  -- exactly the power of two after the greatest value
    -- quotients
    ∷ gives float_div 0x3F800000 0x40400000 0x3EAAAAAB  -- 1 / 3
    ∷ gives float_div 0x40000000 0x40400000 0x3F2AAAAB  -- 2 / 3
    ∷ gives float_div 0x3F800000 0x41200000 0x3DCCCCCD  -- 1 / 10
    ∷ gives float_div 0xC0A00000 0x41200000 0xBF000000  -- -5 / 10 is exact
    ∷ gives float_add 0x3DCCCCCD 0x3E4CCCCD 0x3E99999A  -- 1 / 10 and 1 / 5, each rounded before
    -- signs of zero
    ∷ gives float_add 0x80000000 0x80000000 0x80000000  -- -0 + -0
    ∷ gives float_add 0x80000000 0x00000000 0x00000000  -- -0 + 0
    ∷ gives float_add 0x00000000 0x80000000 0x00000000  -- 0 + -0
    ∷ gives float_sub 0x00000000 0x00000000 0x00000000  -- 0 - 0
    ∷ gives float_sub 0x80000000 0x00000000 0x80000000  -- -0 - 0
    ∷ gives float_sub 0x3F800000 0x3F800000 0x00000000  -- 1 - 1
    ∷ gives float_add 0xBF800000 0x3F800000 0x00000000  -- -1 + 1
    ∷ gives float_add 0x80000000 0x007FFFFF 0x007FFFFF  -- -0 + the largest subnormal
    ∷ gives float_mul 0x80000000 0x3F800000 0x80000000  -- -0 times 1
    ∷ gives float_mul 0x80000000 0xBF800000 0x00000000  -- -0 times -1
    ∷ gives float_div 0x00000000 0xBF800000 0x80000000  -- 0 / -1
    ∷ gives float_div 0x80000000 0xBF800000 0x00000000  -- -0 / -1
    -- infinities
    ∷ gives float_sub 0x7F800000 0x7F800000 0x7FC00000  -- inf - inf
    ∷ gives float_add 0xFF800000 0x7F800000 0x7FC00000  -- -inf + inf
    ∷ gives float_add 0x7F800000 0x7F800000 0x7F800000  -- inf + inf
    ∷ gives float_sub 0xFF800000 0x7F800000 0xFF800000  -- -inf - inf
    ∷ gives float_add 0x7F7FFFFF 0xFF800000 0xFF800000  -- the greatest value and -inf
    ∷ gives float_mul 0x00000000 0x7F800000 0x7FC00000  -- 0 times inf
    ∷ gives float_mul 0xFF800000 0x00000000 0x7FC00000  -- -inf times 0
    ∷ gives float_mul 0x7F800000 0xC0000000 0xFF800000  -- inf times -2
    ∷ gives float_mul 0xFF800000 0xFF800000 0x7F800000  -- -inf times -inf
    ∷ gives float_div 0x7F800000 0xFF800000 0x7FC00000  -- inf / -inf
    ∷ gives float_div 0xFF800000 0x00000000 0xFF800000  -- -inf / 0
    ∷ gives float_div 0x3F800000 0xFF800000 0x80000000  -- 1 / -inf
    -- division by zero
    ∷ gives float_div 0x00000000 0x00000000 0x7FC00000  -- 0 / 0
    ∷ gives float_div 0x00000000 0x80000000 0x7FC00000  -- 0 / -0
    ∷ gives float_div 0x3F800000 0x00000000 0x7F800000  -- 1 / 0
    ∷ gives float_div 0x3F800000 0x80000000 0xFF800000  -- 1 / -0
    ∷ gives float_div 0x80000001 0x00000000 0xFF800000  -- minus one unit / 0
    ∷ gives float_div 0xBF800000 0x80000000 0x7F800000  -- -1 / -0
    -- a NaN in: the positive canonical one out
    ∷ gives float_add 0x7F800001 0x3F800000 0x7FC00000  -- a signalling NaN
    ∷ gives float_add 0x3F800000 0xFFBFFFFF 0x7FC00000  -- a negative signalling NaN with a payload
    ∷ gives float_sub 0x7FC01234 0x00000000 0x7FC00000  -- a quiet NaN with a payload
    ∷ gives float_sub 0x00000000 0xFFC00000 0x7FC00000  -- 0 less the negative canonical one
    ∷ gives float_mul 0xFFBFFFFF 0x00000000 0x7FC00000  -- a NaN times 0
    ∷ gives float_mul 0x7F800000 0x7F800001 0x7FC00000  -- inf times a NaN
    ∷ gives float_div 0xFFC01234 0xFFC01234 0x7FC00000  -- a NaN by itself
    ∷ gives float_div 0x3F800000 0x7F800001 0x7FC00000  -- 1 by a NaN
    ∷ []

-- Just beside a half-way point: rounded to an f64 first, each would lie on the point, and the tie would go the other way. 2 ^ 149
-- units are the number 1. No sum, product or quotient of two f32 comes so near to such a point without lying on it.
abbrev pub single_rounded : List Fraction
single_rounded =
    rounds (2 ^ 149 + 2 ^ 125 + 2 ^ 89) 1 0x3F800001  -- 1 + 2^-24 + 2^-60: up, and not down to the even 1
    ∷ rounds (2 ^ 149 + 2 ^ 126 + 2 ^ 125 - 2 ^ 89) 1 0x3F800001  -- 1 + 3 * 2^-24 - 2^-60: down, and not up to the even one
    ∷ rounds (2 ^ 59 + 1) (2 ^ 60) 0x00000001  -- half a unit and 2^-60 of one: up, and not down to 0
    ∷ []

abbrev pub single_turned : List Turned
single_turned =
    turns 0x00000000 0x80000000  -- 0
    ∷ turns 0x80000000 0x00000000  -- -0
    ∷ turns 0x3F800000 0xBF800000  -- 1
    ∷ turns 0x807FFFFF 0x007FFFFF  -- minus the largest subnormal
    ∷ turns 0xFF800000 0x7F800000  -- -inf
    ∷ turns 0x7F800001 0xFF800001  -- a signalling NaN stays one
    ∷ turns 0xFFBFFFFF 0x7FBFFFFF  -- a negative one
    ∷ turns 0xFFC00000 0x7FC00000  -- the negative canonical one
    ∷ turns 0x7FC01234 0xFFC01234  -- a quiet one keeps its payload
    ∷ []

abbrev pub single_compared : List Compared
single_compared =
    compares 0x00000000 0x80000000 equal  -- 0 and -0
    ∷ compares 0x80000000 0x00000000 equal  -- -0 and 0
    ∷ compares 0x80000000 0x00000001 less  -- -0 and one unit
    ∷ compares 0x80000001 0x00000000 less  -- minus one unit and 0
    ∷ compares 0x007FFFFF 0x00800000 less  -- the largest subnormal and the least normal value
    ∷ compares 0x80800000 0x807FFFFF less  -- the same below zero
    ∷ compares 0x3F800000 0x3F800000 equal  -- 1 and 1
    ∷ compares 0x3F800000 0xBF800000 greater  -- 1 and -1
    ∷ compares 0xC0000000 0xBF800000 less  -- -2 and -1
    ∷ compares 0x7F7FFFFF 0x7F800000 less  -- the greatest value and inf
    ∷ compares 0xFF800000 0xFF7FFFFF less  -- -inf and the least value
    ∷ compares 0x7F800000 0x7F800000 equal  -- inf and inf
    ∷ compares 0xFF800000 0x7F800000 less  -- -inf and inf
    ∷ compares 0x7F800000 0xFF800000 greater  -- inf and -inf
    ∷ compares 0x7FC00000 0x7FC00000 unordered  -- a NaN and itself
    ∷ compares 0x7F800001 0x3F800000 unordered  -- a signalling NaN and 1
    ∷ compares 0xFF800000 0xFFC01234 unordered  -- -inf and a NaN
    ∷ compares 0x00000000 0xFFBFFFFF unordered  -- 0 and a NaN
    ∷ []
