use Rattle.kept_pages.proofs.Entries.{steady_of, reads_on, found_has_sum, fresh_here}
use Rattle.kept_pages.proofs.Shelves.{entry_seen, redirect_seen, nothing_seen}
use Rattle.kept_pages.proofs.looking.look_once.Goals as goal

pub if_fresh-requires-clause-of_log : goal.if_fresh-requires-clause-of_log
if_fresh-requires-clause-of_log g c =
    found_has_sum _ c.args.reader.now c.args.key.now c.in-Entry.entry c.in_ok-entry.field-0
    c.in-Entry.is c.in_ok-entry.ensures.sound (reads_on (steady_of c.in_ok-entry.ensures.moves c.in_ok-entry.ensures.stays) c.requires.reads)

pub returns-in_ok-if_fresh-in-Entry-clause-here : goal.returns-in_ok-if_fresh-in-Entry-clause-here
returns-in_ok-if_fresh-in-Entry-clause-here g c =
    fresh_here _ c.args.reader.now c.args.key.now c.in_ok-if_fresh-in-Entry.field-0 c.in-Entry.entry c.in_ok-entry.field-0
    c.in-Entry.is c.in_ok-entry.ensures.sound (reads_on (steady_of c.in_ok-entry.ensures.moves c.in_ok-entry.ensures.stays) c.requires.reads)
    c.in_ok-if_fresh-in-Entry.ensures.fresh

pub returns-in_ok-if_fresh-in-Entry-clause-told : goal.returns-in_ok-if_fresh-in-Entry-clause-told
returns-in_ok-if_fresh-in-Entry-clause-told g c =
    entry_seen c.args.reader.now _ _ c.args.bin c.args.key.now c.in-Entry.entry c.in_ok-entry.field-0 c.in_ok-if_fresh-in-Entry.field-0
    c.in-Entry.is c.in_ok-entry.ensures.looks c.in_ok-if_fresh-in-Entry.ensures.fresh c.in_ok-if_fresh-in-Entry.ensures.stale

pub returns-in-Redirect-clause-told : goal.returns-in-Redirect-clause-told
returns-in-Redirect-clause-told g c =
    redirect_seen c.args.reader.now _ _ c.args.bin c.args.key.now c.in-Redirect.contexts c.in_ok-entry.field-0 c.in-Redirect.is c.in_ok-entry.ensures.looks

pub returns-in-Absent-clause-told : goal.returns-in-Absent-clause-told
returns-in-Absent-clause-told g c =
    nothing_seen c.args.reader.now _ _ c.args.bin c.args.key.now c.in_ok-entry.field-0 c.in-Absent.is c.in_ok-entry.ensures.looks
