-- `section_call::ask_type` meets its contract: both sections are judged, then the number is looked up in their table.
use borrow.Author.Rules.{rules}
use Rattle.section_call.proofs.Asking.{ask_exits, asked_in_library, asked_in_addon}
use Rattle.section_call.proofs.ask_type.Goals as goal

pub returns-in-Err : goal.returns-in-Err
returns-in-Err c = search (ask_exits, rules)

pub returns-in-Library : goal.returns-in-Library
returns-in-Library c = search (asked_in_library, ask_exits, rules)

pub returns-in-Addon : goal.returns-in-Addon
returns-in-Addon c = search (asked_in_addon, ask_exits, rules)

pub returns-in-Refused : goal.returns-in-Refused
returns-in-Refused c = search (ask_exits, rules)
