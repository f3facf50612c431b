-- `section_call::type_bytes` meets its contract: the bytes that the answer names.
use borrow.Author.Rules.{rules}
use Rattle.section_call.proofs.Asking.{handed-bytes}
use Rattle.section_call.proofs.type_bytes.Goals as goal

pub returns : goal.returns
returns c = search (handed-bytes, rules)
