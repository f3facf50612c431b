use Rattle.type_table.specs.View.{view, both_codes}
use Rattle.section_judge.proofs.Scanning.{Pass}
use Rattle.section_judge.specs.Verdict.{fault_of}
use Rattle.section_judge.proofs.scan_types.Given as goal

abbrev pub invariant-loop-x : goal.invariant-loop-x
invariant-loop-x l = Pass (fault_of l.links (view l.rows (both_codes l.shared l.codes))) l.first l.n l.x
