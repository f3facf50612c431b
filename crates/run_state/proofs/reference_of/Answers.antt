-- `run_state::reference_of` meets its contract.
use borrow.Author.Rules.{rules}
use Rattle.run_state.proofs.Tops.{reference_exits}
use Rattle.run_state.proofs.reference_of.Goals as goal

pub enum_told-1 : goal.enum_told-1
enum_told-1 c = search (reference_exits, rules)

pub enum_known-top : goal.enum_known-top
enum_known-top c = search (reference_exits, rules)

pub enum_told-in-Null : goal.enum_told-in-Null
enum_told-in-Null c = search (reference_exits, rules)

pub enum_known-v : goal.enum_known-v
enum_known-v c = search (reference_exits, rules)

pub returns-in-None : goal.returns-in-None
returns-in-None c = search (reference_exits, rules)

pub returns-in-Null : goal.returns-in-Null
returns-in-Null c = search (reference_exits, rules)

pub returns-in-Object : goal.returns-in-Object
returns-in-Object c = search (reference_exits, rules)

pub returns-in_default : goal.returns-in_default
returns-in_default c = search (reference_exits, rules)
