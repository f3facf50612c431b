use Prim.Native.Nat.{◌-◌}
use Rattle.number_bits.proofs.Bits.{Part}
use Rattle.number_bits.proofs.leb_loop.Given as goal

abbrev pub invariant-loop-count : goal.invariant-loop-count
invariant-loop-count l = Part l.most l.s l.at l.value l.weight l.next l.count

abbrev pub decreases-loop-count : goal.decreases-loop-count
decreases-loop-count l = l.most - l.count
