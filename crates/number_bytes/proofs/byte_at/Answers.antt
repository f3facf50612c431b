-- `number_bytes::byte_at` meets its contract: the byte is there where the place is below the length.
use borrow.Author.Rules.{rules}
use native.Mathlib.Omega.{arith}
use Rattle.number_bytes.proofs.Exits.{byte_there, byte_exits}
use Rattle.number_bytes.proofs.byte_at.Goals as goal

pub returns-then-at-s : goal.returns-then-at-s
returns-then-at-s c = byte_there (search rules) (omega (arith, c.type_inv.s c.args.at))

pub returns-else-at-s : goal.returns-else-at-s
returns-else-at-s c = search (byte_exits, rules)
