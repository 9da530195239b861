use Rattle.std.proofs.Common.{refl, sym, ap, subst, true≢false, None}
use Rattle.std.specs.Prelude.{IfSome}
use Rattle.std.specs.Arc.{arc_value}
use Rattle.cache_entries.specs.declared.key.Key.{Key}
use Rattle.cache_entries.specs.declared.key.Subject.{Subject}
use Rattle.cache_entries.specs.declared.key.Subject.TheVariants as subject
use Rattle.cache_entries.specs.declared.kept.Bin.TheVariants as bin
use Rattle.cache_entries.specs.Entries.{IsHere}
use Rattle.page_meaning.specs.Meaning.{meaning}
use Rattle.element_entries.specs.Keys.{visit}
use Rattle.kept_pages.proofs.Current.{current_is_fresh}
use Rattle.kept_pages.proofs.Entries.{steady_of, reads_on, found_has_sum, fresh_here}
use Rattle.kept_pages.proofs.Shelves.{entry_seen, redirect_seen, nothing_seen, seen_first}
use Rattle.kept_pages.proofs.looking.look_shared.Goals as goal

pub if_current-requires-clause-of_log : goal.if_current-requires-clause-of_log
if_current-requires-clause-of_log g c =
    found_has_sum _ c.args.reader.now c.args.key.now c.in-Entry.entry c.in_ok-entry.field-0
    c.in-Entry.is c.in_ok-entry.ensures.sound (reads_on (steady_of c.in_ok-entry.ensures.moves c.in_ok-entry.ensures.stays) c.requires.reads)

pub if_current-requires-clause-current : goal.if_current-requires-clause-current
if_current-requires-clause-current g c = λ now.
    current_is_fresh _ c.args.reader.now c.args.key.now c.in-Entry.entry c.in_ok-entry.field-0
    c.in-Entry.is c.in_ok-entry.ensures.sound (reads_on (steady_of c.in_ok-entry.ensures.moves c.in_ok-entry.ensures.stays) c.requires.reads)
    (ap (λ (k : Key). k.subject) c.requires.is_first) now

pub returns-in-Entry-clause-here : goal.returns-in-Entry-clause-here
returns-in-Entry-clause-here g c =
    subst (λ (s : Subject). IfSome c.in_ok-if_current-in-Entry.field-0 (λ e. IsHere meaning s (visit c.args.reader.now) (arc_value e))) (ap (λ (k : Key). k.subject) c.requires.is_first)
    (fresh_here _ c.args.reader.now c.args.key.now c.in_ok-if_current-in-Entry.field-0 c.in-Entry.entry c.in_ok-entry.field-0
    c.in-Entry.is c.in_ok-entry.ensures.sound (reads_on (steady_of c.in_ok-entry.ensures.moves c.in_ok-entry.ensures.stays) c.requires.reads)
    c.in_ok-if_current-in-Entry.ensures.fresh)

pub returns-in-Entry-clause-told : goal.returns-in-Entry-clause-told
returns-in-Entry-clause-told g c = λ shelves told.
    seen_first c.args.reader.now shelves bin.Anonymous (subject.Target c.args.reader.now.ask.target) c.args.key.now (record { entry = c.in_ok-if_current-in-Entry.field-0; told = None }) _ c.requires.is_first
    (entry_seen c.args.reader.now _ _ bin.Anonymous c.args.key.now c.in-Entry.entry c.in_ok-entry.field-0 c.in_ok-if_current-in-Entry.field-0
    c.in-Entry.is c.in_ok-entry.ensures.looks c.in_ok-if_current-in-Entry.ensures.fresh c.in_ok-if_current-in-Entry.ensures.stale shelves told)
    (λ two. refl)

pub returns-in-Redirect-clause-told : goal.returns-in-Redirect-clause-told
returns-in-Redirect-clause-told g c = λ shelves told.
    seen_first c.args.reader.now shelves bin.Anonymous (subject.Target c.args.reader.now.ask.target) c.args.key.now _ _ c.requires.is_first
    (redirect_seen c.args.reader.now _ _ bin.Anonymous c.args.key.now c.in-Redirect.field-0 c.in_ok-entry.field-0 c.in-Redirect.is c.in_ok-entry.ensures.looks shelves told)
    (λ two. absurd (true≢false (sym two)))

pub returns-clause-told : goal.returns-clause-told
returns-clause-told g c = λ shelves told.
    seen_first c.args.reader.now shelves bin.Anonymous (subject.Target c.args.reader.now.ask.target) c.args.key.now (record { entry = None; told = None }) _ c.requires.is_first
    (nothing_seen c.args.reader.now _ _ bin.Anonymous c.args.key.now c.in_ok-entry.field-0 c.in-Absent.is c.in_ok-entry.ensures.looks shelves told)
    (λ two. refl)
