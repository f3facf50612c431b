-- What the judge of types answers, and the parts in which it asks the rules.
use Rattle.std.specs.Prelude.{ℕ, ◌-◌, Bool, true, false, [], ◌∷◌}
use Rattle.std.proofs.Math.Option.{Option, none, some}
use Rattle.scope.specs.Told.{no_in}
use Rattle.std.specs.Prelude.{Result, Ok, Err}
use Rattle.scope.specs.declared.Rejected.{Rejected}
use Rattle.scope.specs.Refusals.{clause_not_on_struct, describes_not_earlier, clauses_disagree, bad_descriptor, bad_describes}
use Rattle.scope.specs.Syntax.{Types}
use Rattle.scope.specs.TypeRules.{clauses_on_struct, describes_earlier, clauses_agree, descriptor_follows, describes_follows}
use Rattle.scope.specs.Judging.{Judged, accepted, rejected, and_then, first_broken, links_fault, rule_fault, scan}
use Rattle.section_judge.specs.declared.Fault.{Fault}
use Rattle.section_judge.specs.declared.Fault

abbrev pub fault_is : Option ℕ → Fault
fault_is none = Fault.TheVariants.Nothing
fault_is (some number) = Fault.TheVariants.Number number

-- the number that is accepted, or the refusal
abbrev pub ruled_is : Judged ℕ → Result ℕ Rejected
ruled_is (accepted n) = Ok n
ruled_is (rejected number place) = Err (no_in number place)

-- 12 and 13, of one type
unfoldable pub follow_fault : Types → ℕ → Option ℕ
follow_fault ts x = first_broken ((descriptor_follows ts x, bad_descriptor) ∷ (describes_follows ts x, bad_describes) ∷ [])

-- 9 to 13, of one type
unfoldable pub clauses_fault : Types → ℕ → Option ℕ
clauses_fault ts x =
    first_broken
    ((clauses_on_struct ts x, clause_not_on_struct)
    ∷ (describes_earlier ts x, describes_not_earlier)
    ∷ (clauses_agree ts x, clauses_disagree)
    ∷ (descriptor_follows ts x, bad_descriptor)
    ∷ (describes_follows ts x, bad_describes)
    ∷ [])

-- the fault of one type in the first pass, over the links, and in the second
unfoldable pub fault_of : Bool → Types → ℕ → Option ℕ
fault_of true = links_fault
fault_of false = rule_fault

-- the two passes over the types from `first` on of n; from 0 on they are scope's judge_types
unfoldable pub judge_from : ℕ → Types → ℕ → Judged ℕ
judge_from first ts n = and_then (scan (links_fault ts) first (n - first)) (λ links. scan (rule_fault ts) first (n - first))
