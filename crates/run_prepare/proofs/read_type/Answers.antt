-- `run_prepare::read_type` meets its contract: an accepted body has a function's type.
use borrow.Author.Rules.{rules}
use Rattle.run_prepare.proofs.Ways.{type_exits}
use Rattle.run_prepare.proofs.read_type.Goals as goal

pub enum_told-1 : goal.enum_told-1
enum_told-1 c = search (type_exits, rules)

pub enum_known-shape : goal.enum_known-shape
enum_known-shape c = search (type_exits, rules)

pub read_body-requires : goal.read_body-requires
read_body-requires c = search (type_exits, rules)

pub returns-in-Struct : goal.returns-in-Struct
returns-in-Struct c = search (type_exits, rules)

pub returns-in-Func : goal.returns-in-Func
returns-in-Func c = search (type_exits, rules)
