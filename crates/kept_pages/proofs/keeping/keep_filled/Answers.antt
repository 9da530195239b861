use Rattle.std.proofs.Common.{sym, subst}
use Rattle.cache_entries.specs.declared.entry.Entry.{Entry}
use Rattle.kept_pages.specs.Houses.{IsMadeFor}
use Rattle.kept_pages.proofs.Entries.{entry_made_for, made_is_here}
use Rattle.kept_pages.proofs.keeping.keep_filled.Goals as goal

pub keep_if-requires-clause-made : goal.keep_if-requires-clause-made
keep_if-requires-clause-made g c =
    subst (λ (e : Entry). IsMadeFor c.args.reader.now c.args.key.subject e) (sym c.in_ok-entry.ensures.ok)
    (entry_made_for c.args.reader.now c.args.key.subject _ _ c.requires.whole c.requires.closed c.requires.asked c.in_ok-entry_of.ensures)

pub returns-clause-here : goal.returns-clause-here
returns-clause-here g c =
    made_is_here c.args.reader.now c.args.key.subject _
    (subst (λ (e : Entry). IsMadeFor c.args.reader.now c.args.key.subject e) (sym c.in_ok-entry.ensures.ok)
    (entry_made_for c.args.reader.now c.args.key.subject _ _ c.requires.whole c.requires.closed c.requires.asked c.in_ok-entry_of.ensures))
