-- The table of numbers holds: each row is computed.
use native.Mathlib.Omega.{arith}
use mathlib.Core.Path.{refl}
use Rattle.facts_constants.specs.Constants.{RefusalNumbers, TrapNumbers, SizeNumbers, LentSizes, LentBytes}

pub refusal-numbers : RefusalNumbers
refusal-numbers =
    record {
      one = refl;
      two = refl;
      three = refl;
      four = refl;
      five = refl;
      six = refl;
      seven = refl;
      eight = refl;
      nine = refl;
      ten = refl;
      eleven = refl;
      twelve = refl;
      thirteen = refl;
      fourteen = refl;
      twenty = refl;
      twenty_one = refl;
      twenty_two = refl;
      twenty_three = refl;
      twenty_four = refl;
      twenty_five = refl;
      twenty_seven = refl;
      twenty_eight = refl;
      twenty_nine = refl;
      thirty_one = refl;
      thirty_two = refl;
    }

pub trap_numbers : TrapNumbers
trap_numbers = record { forty_one = refl; forty_two = refl; forty_three = refl; forty_four = refl; forty_five = refl; forty_six = refl }

pub size_numbers : SizeNumbers
size_numbers = record { bytes = refl; types = refl; each = refl; steps = refl; locals = refl; operands = refl; frames = refl; blocks = refl; budget = refl; objects = refl; cells = refl }

pub lent-sizes : LentSizes
lent-sizes =
    record {
      rows = refl;
      codes = refl;
      work = refl;
      ends = refl;
      counts = refl;
      objects = refl;
      cells = refl;
      locals = refl;
      operands = refl;
      blocks = refl;
      a_row = refl;
      a_value = refl;
      an_object = refl;
      a_block = refl;
    }

pub lent-bytes : LentBytes
lent-bytes =
    record {
      rows = omega arith;
      shared = omega arith;
      codes = omega arith;
      work = omega arith;
      ends = omega arith;
      counts = omega arith;
      objects = omega arith;
      cells = omega arith;
      locals = omega arith;
      operands = omega arith;
      blocks = omega arith;
    }
