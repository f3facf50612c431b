-- `number_values::sign_weight` meets its contract: the weight of each count of bytes is written out.
use borrow.Author.Rules.{rules}
use mathlib.Core.Path.{refl}
use lib.Dec.{lit≤}
use Rattle.number_values.proofs.Signed.{sign_arm, sign_nine}
use Rattle.number_values.proofs.sign_weight.Goals as goal

pub returns-in-1 : goal.returns-in-1
returns-in-1 c = sign_arm {n = 1} (search rules) refl refl (lit≤ tt)

pub returns-in-2 : goal.returns-in-2
returns-in-2 c = sign_arm {n = 2} (search rules) refl refl (lit≤ tt)

pub returns-in-3 : goal.returns-in-3
returns-in-3 c = sign_arm {n = 3} (search rules) refl refl (lit≤ tt)

pub returns-in-4 : goal.returns-in-4
returns-in-4 c = sign_arm {n = 4} (search rules) refl refl (lit≤ tt)

pub returns-in-5 : goal.returns-in-5
returns-in-5 c = sign_arm {n = 5} (search rules) refl refl (lit≤ tt)

pub returns-in-6 : goal.returns-in-6
returns-in-6 c = sign_arm {n = 6} (search rules) refl refl (lit≤ tt)

pub returns-in-7 : goal.returns-in-7
returns-in-7 c = sign_arm {n = 7} (search rules) refl refl (lit≤ tt)

pub returns-in-8 : goal.returns-in-8
returns-in-8 c = sign_arm {n = 8} (search rules) refl refl (lit≤ tt)

pub returns-in_default : goal.returns-in_default
returns-in_default c = search (sign_nine, rules)
