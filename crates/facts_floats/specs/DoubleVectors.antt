-- Float vectors of f64: add, sub, mul and div, neg, and the comparisons. Each was worked out from the remark beside it by
-- exact fractions of whole numbers: the values of the operands, their sum, product or quotient, and by halving intervals the
-- two magnitudes beside it; no processor's float was asked.
use Rattle.std.specs.Prelude.{List, [], ◌∷◌}
use Rattle.scope.specs.Floats.{float_add, float_sub, float_mul, float_div}
use Rattle.facts_floats.specs.Vectors.{Case, gives, Turned, turns, less, equal, greater, unordered, Compared, compares}

abbrev pub double_cases : List Case
double_cases =
    -- ties, both ways
    gives float_add 0x3FF0000000000000 0x3CA0000000000000 0x3FF0000000000000  -- 1 and half of its last digit: a tie, down to the even 1
    ∷ gives float_add 0x3FF0000000000001 0x3CA0000000000000 0x3FF0000000000002  -- the next number and as much: a tie, up to the even one
    ∷ gives float_add 0x3FF0000000000000 0x3CA0000000000001 0x3FF0000000000001  -- a little more than half: up
    ∷ gives float_add 0x3FF0000000000000 0x3C9FFFFFFFFFFFFF 0x3FF0000000000000  -- a little less than half: down
    ∷ gives float_add 0xBFF0000000000000 0xBCA0000000000000 0xBFF0000000000000  -- -1 and half of its last digit: a tie, to the even -1
    ∷ gives float_add 0xBFF0000000000001 0xBCA0000000000000 0xBFF0000000000002  -- the next number below: a tie, away from zero to the even one
    ∷ gives float_sub 0x4000000000000000 0x3CA0000000000000 0x4000000000000000  -- 2 less a quarter of its last digit: half of the last digit below 2: a tie, up to the even 2
    ∷ gives float_mul 0x3FF0000000000001 0x3FF8000000000000 0x3FF8000000000002  -- 1.5 times the number after 1: 1.5 last digits past 1.5, a tie up to the even one
    -- the largest subnormal and its neighbours
    ∷ gives float_add 0x000FFFFFFFFFFFFF 0x0000000000000001 0x0010000000000000  -- the largest subnormal and one unit: the least normal value
    ∷ gives float_sub 0x0010000000000000 0x0000000000000001 0x000FFFFFFFFFFFFF  -- and back
    ∷ gives float_sub 0x000FFFFFFFFFFFFF 0x0000000000000001 0x000FFFFFFFFFFFFE  -- one unit less, still a subnormal
    ∷ gives float_add 0x000FFFFFFFFFFFFF 0x000FFFFFFFFFFFFF 0x001FFFFFFFFFFFFE  -- twice the largest subnormal is exact
    ∷ gives float_mul 0x001FFFFFFFFFFFFF 0x3FE0000000000000 0x0010000000000000  -- half of an odd number of units: a tie, up to the least normal value
    ∷ gives float_mul 0x001FFFFFFFFFFFFD 0x3FE0000000000000 0x000FFFFFFFFFFFFE  -- a tie, down to the even subnormal below the largest
    ∷ gives float_mul 0x000FFFFFFFFFFFFF 0x3FF0000000000000 0x000FFFFFFFFFFFFF  -- a subnormal stays what it is
    -- the least values
    ∷ gives float_add 0x0000000000000001 0x0000000000000001 0x0000000000000002  -- two units
    ∷ gives float_mul 0x0000000000000001 0x3FE0000000000000 0x0000000000000000  -- half a unit: a tie, down to 0
    ∷ gives float_mul 0x0000000000000001 0x3FE0000000000001 0x0000000000000001  -- a little more than half a unit: up
    ∷ gives float_mul 0x0000000000000003 0x3FE0000000000000 0x0000000000000002  -- one unit and a half: a tie, up to two
    ∷ gives float_mul 0x8000000000000001 0x3FE0000000000000 0x8000000000000000  -- minus half a unit: a tie, to -0
    ∷ gives float_div 0x0000000000000003 0x4000000000000000 0x0000000000000002  -- the same tie by a quotient
    ∷ gives float_div 0x0000000000000001 0x4008000000000000 0x0000000000000000  -- a third of a unit: 0
    ∷ gives float_div 0x4000000000000000 0x7FEFFFFFFFFFFFFF 0x0008000000000000  -- a quotient of two normal values that is subnormal
    -- overflow
    ∷ gives float_add 0x7FEFFFFFFFFFFFFF 0x7C90000000000000 0x7FF0000000000000  -- half of the last digit past the greatest value: infinity
    ∷ gives float_add 0x7FEFFFFFFFFFFFFF 0x7C8FFFFFFFFFFFFF 0x7FEFFFFFFFFFFFFF  -- just below that half: the greatest value
    ∷ gives float_add 0xFFEFFFFFFFFFFFFF 0xFC90000000000000 0xFFF0000000000000  -- the same below zero
    ∷ gives float_sub 0xFFEFFFFFFFFFFFFF 0x7C8FFFFFFFFFFFFF 0xFFEFFFFFFFFFFFFF  -- just below that half, below zero
    ∷ gives float_mul 0x7FEFFFFFFFFFFFFF 0x3FF0000000000001 0x7FF0000000000000  -- a product past the greatest value
    ∷ gives float_mul 0x5FF0000000000000 0x5FE0000000000000 0x7FE0000000000000  -- the greatest power of two
    ∷ gives float_mul 0x5FF0000000000000 0x5FF0000000000000 0x7FF0000000000000  -- the power of two after it
    ∷ gives float_div 0x7FEFFFFFFFFFFFFF 0x3FE0000000000000 0x7FF0000000000000  -- twice the greatest value
    ∷ gives float_div 0x7FEFFFFFFFFFFFFF 0x3FEFFFFFFFFFFFFF 0x7FF0000000000000  -- exactly the power of two after the greatest value
    -- quotients
    ∷ gives float_div 0x3FF0000000000000 0x4008000000000000 0x3FD5555555555555  -- 1 / 3
    ∷ gives float_div 0x4000000000000000 0x4008000000000000 0x3FE5555555555555  -- 2 / 3
    ∷ gives float_div 0x3FF0000000000000 0x4024000000000000 0x3FB999999999999A  -- 1 / 10
    ∷ gives float_div 0xC014000000000000 0x4024000000000000 0xBFE0000000000000  -- -5 / 10 is exact
    ∷ gives float_add 0x3FB999999999999A 0x3FC999999999999A 0x3FD3333333333334  -- 1 / 10 and 1 / 5, each rounded before
    -- signs of zero
    ∷ gives float_add 0x8000000000000000 0x8000000000000000 0x8000000000000000  -- -0 + -0
    ∷ gives float_add 0x8000000000000000 0x0000000000000000 0x0000000000000000  -- -0 + 0
    ∷ gives float_add 0x0000000000000000 0x8000000000000000 0x0000000000000000  -- 0 + -0
    ∷ gives float_sub 0x0000000000000000 0x0000000000000000 0x0000000000000000  -- 0 - 0
    ∷ gives float_sub 0x8000000000000000 0x0000000000000000 0x8000000000000000  -- -0 - 0
    ∷ gives float_sub 0x3FF0000000000000 0x3FF0000000000000 0x0000000000000000  -- 1 - 1
    ∷ gives float_add 0xBFF0000000000000 0x3FF0000000000000 0x0000000000000000  -- -1 + 1
    ∷ gives float_add 0x8000000000000000 0x000FFFFFFFFFFFFF 0x000FFFFFFFFFFFFF  -- -0 + the largest subnormal
    ∷ gives float_mul 0x8000000000000000 0x3FF0000000000000 0x8000000000000000  -- -0 times 1
    ∷ gives float_mul 0x8000000000000000 0xBFF0000000000000 0x0000000000000000  -- -0 times -1
    ∷ gives float_div 0x0000000000000000 0xBFF0000000000000 0x8000000000000000  -- 0 / -1
    ∷ gives float_div 0x8000000000000000 0xBFF0000000000000 0x0000000000000000  -- -0 / -1
    -- infinities
    ∷ gives float_sub 0x7FF0000000000000 0x7FF0000000000000 0x7FF8000000000000  -- inf - inf
    ∷ gives float_add 0xFFF0000000000000 0x7FF0000000000000 0x7FF8000000000000  -- -inf + inf
    ∷ gives float_add 0x7FF0000000000000 0x7FF0000000000000 0x7FF0000000000000  -- inf + inf
    ∷ gives float_sub 0xFFF0000000000000 0x7FF0000000000000 0xFFF0000000000000  -- -inf - inf
    ∷ gives float_add 0x7FEFFFFFFFFFFFFF 0xFFF0000000000000 0xFFF0000000000000  -- the greatest value and -inf
    ∷ gives float_mul 0x0000000000000000 0x7FF0000000000000 0x7FF8000000000000  -- 0 times inf
    ∷ gives float_mul 0xFFF0000000000000 0x0000000000000000 0x7FF8000000000000  -- -inf times 0
    ∷ gives float_mul 0x7FF0000000000000 0xC000000000000000 0xFFF0000000000000  -- inf times -2
    ∷ gives float_mul 0xFFF0000000000000 0xFFF0000000000000 0x7FF0000000000000  -- -inf times -inf
    ∷ gives float_div 0x7FF0000000000000 0xFFF0000000000000 0x7FF8000000000000  -- inf / -inf
    ∷ gives float_div 0xFFF0000000000000 0x0000000000000000 0xFFF0000000000000  -- -inf / 0
    ∷ gives float_div 0x3FF0000000000000 0xFFF0000000000000 0x8000000000000000  -- 1 / -inf
    -- division by zero
    ∷ gives float_div 0x0000000000000000 0x0000000000000000 0x7FF8000000000000  -- 0 / 0
    ∷ gives float_div 0x0000000000000000 0x8000000000000000 0x7FF8000000000000  -- 0 / -0
    ∷ gives float_div 0x3FF0000000000000 0x0000000000000000 0x7FF0000000000000  -- 1 / 0
    ∷ gives float_div 0x3FF0000000000000 0x8000000000000000 0xFFF0000000000000  -- 1 / -0
    ∷ gives float_div 0x8000000000000001 0x0000000000000000 0xFFF0000000000000  -- minus one unit / 0
    ∷ gives float_div 0xBFF0000000000000 0x8000000000000000 0x7FF0000000000000  -- -1 / -0
    -- a NaN in: the positive canonical one out
    ∷ gives float_add 0x7FF0000000000001 0x3FF0000000000000 0x7FF8000000000000  -- a signalling NaN
    ∷ gives float_add 0x3FF0000000000000 0xFFF7FFFFFFFFFFFF 0x7FF8000000000000  -- a negative signalling NaN with a payload
    ∷ gives float_sub 0x7FF8000000001234 0x0000000000000000 0x7FF8000000000000  -- a quiet NaN with a payload
    ∷ gives float_sub 0x0000000000000000 0xFFF8000000000000 0x7FF8000000000000  -- 0 less the negative canonical one
    ∷ gives float_mul 0xFFF7FFFFFFFFFFFF 0x0000000000000000 0x7FF8000000000000  -- a NaN times 0
    ∷ gives float_mul 0x7FF0000000000000 0x7FF0000000000001 0x7FF8000000000000  -- inf times a NaN
    ∷ gives float_div 0xFFF8000000001234 0xFFF8000000001234 0x7FF8000000000000  -- a NaN by itself
    ∷ gives float_div 0x3FF0000000000000 0x7FF0000000000001 0x7FF8000000000000  -- 1 by a NaN
    ∷ []

abbrev pub double_turned : List Turned
double_turned =
    turns 0x0000000000000000 0x8000000000000000  -- 0
    ∷ turns 0x8000000000000000 0x0000000000000000  -- -0
    ∷ turns 0x3FF0000000000000 0xBFF0000000000000  -- 1
    ∷ turns 0x800FFFFFFFFFFFFF 0x000FFFFFFFFFFFFF  -- minus the largest subnormal
    ∷ turns 0xFFF0000000000000 0x7FF0000000000000  -- -inf
    ∷ turns 0x7FF0000000000001 0xFFF0000000000001  -- a signalling NaN stays one
    ∷ turns 0xFFF7FFFFFFFFFFFF 0x7FF7FFFFFFFFFFFF  -- a negative one
    ∷ turns 0xFFF8000000000000 0x7FF8000000000000  -- the negative canonical one
    ∷ turns 0x7FF8000000001234 0xFFF8000000001234  -- a quiet one keeps its payload
    ∷ []

abbrev pub double_compared : List Compared
double_compared =
    compares 0x0000000000000000 0x8000000000000000 equal  -- 0 and -0
    ∷ compares 0x8000000000000000 0x0000000000000000 equal  -- -0 and 0
    ∷ compares 0x8000000000000000 0x0000000000000001 less  -- -0 and one unit
    ∷ compares 0x8000000000000001 0x0000000000000000 less  -- minus one unit and 0
    ∷ compares 0x000FFFFFFFFFFFFF 0x0010000000000000 less  -- the largest subnormal and the least normal value
    ∷ compares 0x8010000000000000 0x800FFFFFFFFFFFFF less  -- the same below zero
    ∷ compares 0x3FF0000000000000 0x3FF0000000000000 equal  -- 1 and 1
    ∷ compares 0x3FF0000000000000 0xBFF0000000000000 greater  -- 1 and -1
    ∷ compares 0xC000000000000000 0xBFF0000000000000 less  -- -2 and -1
    ∷ compares 0x7FEFFFFFFFFFFFFF 0x7FF0000000000000 less  -- the greatest value and inf
    ∷ compares 0xFFF0000000000000 0xFFEFFFFFFFFFFFFF less  -- -inf and the least value
    ∷ compares 0x7FF0000000000000 0x7FF0000000000000 equal  -- inf and inf
    ∷ compares 0xFFF0000000000000 0x7FF0000000000000 less  -- -inf and inf
    ∷ compares 0x7FF0000000000000 0xFFF0000000000000 greater  -- inf and -inf
    ∷ compares 0x7FF8000000000000 0x7FF8000000000000 unordered  -- a NaN and itself
    ∷ compares 0x7FF0000000000001 0x3FF0000000000000 unordered  -- a signalling NaN and 1
    ∷ compares 0xFFF0000000000000 0xFFF8000000001234 unordered  -- -inf and a NaN
    ∷ compares 0x0000000000000000 0xFFF7FFFFFFFFFFFF unordered  -- 0 and a NaN
    ∷ []
