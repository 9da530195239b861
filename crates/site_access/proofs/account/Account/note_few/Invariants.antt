use Rattle.std.proofs.Common.{◌≡◌, ◌++◌, take}
use Rattle.site_access.specs.Viewing.{viewable_of, NotesNodes}
use Rattle.site_access.proofs.account.Account.note_few.Given as goal

abbrev pub invariant-ids : goal.invariant-ids
invariant-ids l =
    (l.found.items ≡ l.initial.found.items ++ viewable_of l.state.rows l.self.viewer (take l.n-index l.ids)) × NotesNodes l.state.rows l.self.viewer (take l.n-index l.ids) l.initial.noted l.noted
