-- `section_both::judge_addon` meets its contract: the add-on is read, then its own types are judged.
use Rattle.section_both.proofs.Joining.{addon_refused, after-judged}
use Rattle.section_both.proofs.Opening.{addon_decidable}
use borrow.Author.Rules.{rules}
use Rattle.section_both.proofs.judge_addon.Goals as goal

pub decide-requires : goal.decide-requires
decide-requires c = search (addon_decidable, rules)

pub returns-in-Err : goal.returns-in-Err
returns-in-Err c = search (addon_refused, rules)

pub returns-in-Ok : goal.returns-in-Ok
returns-in-Ok c = search (after-judged, rules)
