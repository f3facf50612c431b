-- `body_locals::locals_at` meets its contract: each turn takes one entry from what the definition still has to read.
use native.Mathlib.Omega.{arith}
use Rattle.body_locals.proofs.Listing.{listed-done, listed_refused, listed_space, listed_turn}
use Rattle.body_locals.proofs.locals_at.Goals as goal

pub returns-in_err-entry : goal.returns-in_err-entry
returns-in_err-entry c = listed_refused c.loop.invariant (omega arith) c.in_err-entry.ensures c.from_residual.ensures.1

pub fill-requires : goal.fill-requires
fill-requires c = listed_space c.loop.invariant (omega arith) c.in_ok-entry.ensures c.requires

pub loop-preserved : goal.loop-preserved
loop-preserved c = listed_turn c.loop.invariant (omega arith) c.in_ok-entry.ensures c.fill.ensures

pub returns : goal.returns
returns c = listed-done c.loop.invariant (omega arith)
