-- `run_move_fields::set_field_move` meets its contract.
use Prim.Native.Nat.{ℕ, ◌^◌, ◌<◌}
use native.Mathlib.Omega.{arith}
use lib.ListN.{get_or}
use borrow.Author.Rules.{rules}
use Rattle.run_move_fields.proofs.Fields.{field_exits, field_fits}
use Rattle.run_move_fields.proofs.set_field_move.Goals as goal

pub returns-then-n-o : goal.returns-then-n-o
returns-then-n-o c = search (field_exits, rules)

pub overflow_cast-result-in-Some-held : goal.overflow_cast-result-in-Some-held
overflow_cast-result-in-Some-held c =
    let words : (j : ℕ) → get_or c.args.objects.now j 0 < 2 ^ 16 = λ j. omega (arith, c.type_inv.objects j) in
    search (field_fits, words, rules)

pub returns-in-Wrong : goal.returns-in-Wrong
returns-in-Wrong c = search (field_exits, rules)

pub returns-in-Null : goal.returns-in-Null
returns-in-Null c = search (field_exits, rules)

pub returns-in-None : goal.returns-in-None
returns-in-None c = search (field_exits, rules)

pub returns-in-Some-held : goal.returns-in-Some-held
returns-in-Some-held c = search (field_exits, rules)
