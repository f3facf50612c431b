-- `number::u32_at` meets its contract: the bits, or what is wrong with them, as the definition takes them.
use borrow.Author.Rules.{rules}
use Rattle.number.proofs.Ranges.{natural_exits}
use Rattle.number.proofs.u32_at.Goals as goal

pub leb_at-read-requires : goal.leb_at-read-requires
leb_at-read-requires c = search (natural_exits, rules)

pub enum_known-read : goal.enum_known-read
enum_known-read c = search (natural_exits, rules)

pub enum_known-read-in-Bits-1 : goal.enum_known-read-in-Bits-1
enum_known-read-in-Bits-1 c = search (natural_exits, rules)

pub natural_of-requires : goal.natural_of-requires
natural_of-requires c = search (natural_exits, rules)

pub enum_told-1 : goal.enum_told-1
enum_told-1 c = search (natural_exits, rules)

pub enum_told-in-Long : goal.enum_told-in-Long
enum_told-in-Long c = search (natural_exits, rules)

pub returns-in-One : goal.returns-in-One
returns-in-One c = search (natural_exits, rules)

pub returns-in-Bits : goal.returns-in-Bits
returns-in-Bits c = search (natural_exits, rules)

pub returns-in-Cut : goal.returns-in-Cut
returns-in-Cut c = search (natural_exits, rules)

pub returns-in-Long : goal.returns-in-Long
returns-in-Long c = search (natural_exits, rules)
