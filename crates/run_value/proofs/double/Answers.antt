-- `run_value::double` meets its contract.
use Rattle.std.proofs.Common.{rules}
use Rattle.run_value.proofs.Exits.{float_exits}
use Rattle.run_value.proofs.double.Goals as goal

pub returns : goal.returns
returns c = search (float_exits, rules)
