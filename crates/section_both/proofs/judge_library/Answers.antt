-- `section_both::judge_library` meets its contract: the library is read, then its own types are judged.
use Rattle.section_both.proofs.Joining.{library_refused, after-judged}
use Rattle.section_both.proofs.Opening.{library_decidable}
use borrow.Author.Rules.{rules}
use Rattle.section_both.proofs.judge_library.Goals as goal

pub decide-requires : goal.decide-requires
decide-requires c = search (library_decidable, rules)

pub returns-in-Err : goal.returns-in-Err
returns-in-Err c = search (library_refused, rules)

pub returns-in-Ok : goal.returns-in-Ok
returns-in-Ok c = search (after-judged, rules)
