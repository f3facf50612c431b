-- The language's two formats of floats, as the definitions' widths.
use Rattle.std.specs.Float.{Format, binary32, binary64}
use Rattle.scope.specs.Rounding.{Width, single, double}

abbrev pub width_of : Format → Width
width_of binary32 = single
width_of binary64 = double
