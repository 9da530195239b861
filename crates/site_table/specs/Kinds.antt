-- What is counted, by what a turn did that handed nothing in.
use Rattle.turn_rule.specs.declared.notes.TallyNote.{TallyNote}
use Rattle.turn_rule.specs.Steps.{zeros}
use Rattle.site_table.specs.Turns.{one_look, one_found, one_kept}
use Rattle.site_table.specs.declared.kinds.Deed.{Deed}
use Rattle.site_table.specs.declared.kinds.Deed.TheVariants as deed

abbrev pub counts_of : Deed → TallyNote
counts_of deed.Nothing = zeros
counts_of deed.Looked = one_look
counts_of deed.Found = one_found
counts_of deed.Kept = one_kept
