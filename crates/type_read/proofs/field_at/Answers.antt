-- `type_read::field_at` meets its contract: the type, then the flag.
use borrow.Author.Rules.{rules}
use Rattle.scope.specs.Sections.{field_at}
use Rattle.scope.proofs.Told.{passed, passes}
use Rattle.type_read.proofs.Fields.{field_exits}
use Rattle.type_read.proofs.field_at.Goals as goal

pub returns-in_err-code : goal.returns-in_err-code
unfolding field_at
returns-in_err-code c = search (passed, passes, rules)

pub returns-in_err-bit : goal.returns-in_err-bit
returns-in_err-bit c = search (field_exits, rules)

pub overflow_mul-result : goal.overflow_mul-result
overflow_mul-result c = search (field_exits, rules)

pub overflow_add-result : goal.overflow_add-result
overflow_add-result c = search (field_exits, rules)

pub returns : goal.returns
returns c = search (field_exits, rules)
