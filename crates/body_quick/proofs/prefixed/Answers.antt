-- `body_quick::prefixed` meets its contract: each arm has the number that follows FB.
use borrow.Author.Rules.{rules}
use Rattle.body_quick.proofs.Arms.{after_as}
use Rattle.body_quick.proofs.prefixed.Goals as goal

pub new-requires-clause-asked_after : goal.new-requires-clause-asked_after
new-requires-clause-asked_after c = search (after_as, rules)

pub new_default-requires-clause-asked_after : goal.new_default-requires-clause-asked_after
new_default-requires-clause-asked_after c = search (after_as, rules)

pub get-requires-clause-asked_after : goal.get-requires-clause-asked_after
get-requires-clause-asked_after c = search (after_as, rules)

pub set-requires-clause-asked_after : goal.set-requires-clause-asked_after
set-requires-clause-asked_after c = search (after_as, rules)
