-- `section_forms::few_at` meets its contract: the count, then the entries.
use Rattle.section_forms.proofs.Forms.{few_room}
use Rattle.section_forms.proofs.few_at.Goals as goal

pub entries_at-requires : goal.entries_at-requires
entries_at-requires c = few_room c.args.s.now c.args.at c.in_ok-n.ensures c.requires
