-- `number::signed_at` meets its contract: the bits, or what is wrong with them, as the definition takes them, at every width of five bytes.
use borrow.Author.Rules.{rules}
use Rattle.number.proofs.Ranges.{width_exits}
use Rattle.number.proofs.signed_at.Goals as goal

pub leb_at-read-requires : goal.leb_at-read-requires
leb_at-read-requires c = search (width_exits, rules)

pub enum_known-read : goal.enum_known-read
enum_known-read c = search (width_exits, rules)

pub signed_byte-requires : goal.signed_byte-requires
signed_byte-requires c = search (width_exits, rules)

pub enum_known-read-in-Bits-1 : goal.enum_known-read-in-Bits-1
enum_known-read-in-Bits-1 c = search (width_exits, rules)

pub signed_of-requires : goal.signed_of-requires
signed_of-requires c = search (width_exits, rules)

pub enum_told-1 : goal.enum_told-1
enum_told-1 c = search (width_exits, rules)

pub enum_told-in-Long : goal.enum_told-in-Long
enum_told-in-Long c = search (width_exits, rules)

pub returns-in-One : goal.returns-in-One
returns-in-One c = search (width_exits, rules)

pub returns-in-Bits : goal.returns-in-Bits
returns-in-Bits c = search (width_exits, rules)

pub returns-in-Cut : goal.returns-in-Cut
returns-in-Cut c = search (width_exits, rules)

pub returns-in-Long : goal.returns-in-Long
returns-in-Long c = search (width_exits, rules)
