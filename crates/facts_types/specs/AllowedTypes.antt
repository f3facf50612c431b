-- What document 01 allows of types, whatever bytes they were written in: type rules 1 to 6, and the chain's size.
use Rattle.std.specs.Prelude.{List, length}
use Rattle.scope.specs.Syntax.{Definition, types_of}
use Rattle.facts_types.specs.TypeRelations.{Valid}
use Rattle.facts_types.specs.Chains.{ShortChains}

-- of types by number: every one is valid, and none is more than 63 steps below another
pub record AllowedTypes (ds : List Definition) : Type 0 where
  pub valid : Valid (types_of ds) (length ds)
  pub chains : ShortChains (types_of ds) (length ds)
