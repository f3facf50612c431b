use borrow.Author.Rules.{rules}
use Rattle.body_quick_frames.proofs.Framing.{framed_exits}
use Rattle.body_quick_frames.proofs.framed.Goals as goal

pub overflow_cast-locals : goal.overflow_cast-locals
overflow_cast-locals c = search (framed_exits, rules)

pub open-requires : goal.open-requires
open-requires c = search (framed_exits, rules)

pub open-requires-in-3 : goal.open-requires-in-3
open-requires-in-3 c = search (framed_exits, rules)

pub close-requires : goal.close-requires
close-requires c = search (framed_exits, rules)

pub not_told-requires : goal.not_told-requires
not_told-requires c = search (framed_exits, rules)

pub returns-in-2 : goal.returns-in-2
returns-in-2 c = search (framed_exits, rules)

pub returns-in-3 : goal.returns-in-3
returns-in-3 c = search (framed_exits, rules)

pub returns-in-11 : goal.returns-in-11
returns-in-11 c = search (framed_exits, rules)

pub returns-in_default : goal.returns-in_default
returns-in_default c = search (framed_exits, rules)
