-- `number::s64_at` meets its contract: nine bytes as they are, and a tenth by what it leaves.
use borrow.Author.Rules.{rules}
use Rattle.number.proofs.Wide.{wide_exits}
use Rattle.number.proofs.s64_at.Goals as goal

pub leb_at-read-requires : goal.leb_at-read-requires
leb_at-read-requires c = search (wide_exits, rules)

pub enum_known-read : goal.enum_known-read
enum_known-read c = search (wide_exits, rules)

pub signed_byte-requires : goal.signed_byte-requires
signed_byte-requires c = search (wide_exits, rules)

pub enum_known-read-in-Bits-1 : goal.enum_known-read-in-Bits-1
enum_known-read-in-Bits-1 c = search (wide_exits, rules)

pub signed_of-requires : goal.signed_of-requires
signed_of-requires c = search (wide_exits, rules)

pub enum_told-1 : goal.enum_told-1
enum_told-1 c = search (wide_exits, rules)

pub enum_known-read-in-Long-1 : goal.enum_known-read-in-Long-1
enum_known-read-in-Long-1 c = search (wide_exits, rules)

pub tenth_at-requires : goal.tenth_at-requires
tenth_at-requires c = search (wide_exits, rules)

pub returns-in-One : goal.returns-in-One
returns-in-One c = search (wide_exits, rules)

pub returns-in-Bits : goal.returns-in-Bits
returns-in-Bits c = search (wide_exits, rules)

pub returns-in-Cut : goal.returns-in-Cut
returns-in-Cut c = search (wide_exits, rules)

pub returns-in-Long : goal.returns-in-Long
returns-in-Long c = search (wide_exits, rules)
