use borrow.Author.Rules.{rules}
use Rattle.body_quick_frames.proofs.Opens.{type_exits}
use Rattle.body_quick_frames.proofs.block_at.Goals as goal

pub byte-b-requires : goal.byte-b-requires
byte-b-requires c = search (type_exits, rules)

pub returns-in-64 : goal.returns-in-64
returns-in-64 c = search (type_exits, rules)

pub returns-in-127 : goal.returns-in-127
returns-in-127 c = search (type_exits, rules)

pub returns-in-126 : goal.returns-in-126
returns-in-126 c = search (type_exits, rules)

pub returns-in-125 : goal.returns-in-125
returns-in-125 c = search (type_exits, rules)

pub returns-in-124 : goal.returns-in-124
returns-in-124 c = search (type_exits, rules)

pub returns-in_default : goal.returns-in_default
returns-in_default c = search (type_exits, rules)
