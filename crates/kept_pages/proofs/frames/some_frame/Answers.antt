use Rattle.std.specs.Arc.{arc_value}
use Rattle.std.proofs.lemmas.Result.{IfOk-weaker}
use Rattle.cache_entries.specs.declared.key.Subject.TheVariants as subject
use Rattle.cache_entries.specs.declared.kept.Bin.TheVariants as bin
use Rattle.element_entries.specs.Keys.{visit}
use Rattle.kept_pages.specs.Needed.{InFrame, met_in_frame}
use Rattle.kept_pages.proofs.Counting.{tells_built, tells_found}
use Rattle.kept_pages.proofs.Shelves.{lent}
use Rattle.kept_pages.proofs.frames.some_frame.Goals as goal

pub returns-in-Some-clause-told : goal.returns-in-Some-clause-told
returns-in-Some-clause-told g c =
    tells_found c.args.reader.now (met_in_frame c.args.reader.now.ask.path (visit c.args.reader.now)) (InFrame c.args.reader.now.ask.path (visit c.args.reader.now)) bin.Dynamic (subject.Page c.args.reader.now.ask.path) c.in-Some.entry c.in_ok-entry.field-0 _ _ c.in-Some.is
    (rw c.ask.ensures at (rw c.in_ok-duplicate.ensures at (rw c.in_ok-key.ensures at c.in_ok-entry.ensures.told)))

pub returns-in-None-clause-told : goal.returns-in-None-clause-told
returns-in-None-clause-told g c =
    IfOk-weaker c.built_frame.result _ _
    (λ child built.
    tells_built c.args.reader.now (met_in_frame c.args.reader.now.ask.path (visit c.args.reader.now)) (InFrame c.args.reader.now.ask.path (visit c.args.reader.now)) bin.Dynamic (subject.Page c.args.reader.now.ask.path) (arc_value child.entry) c.in_ok-entry.field-0 _ _ _ _ child.built c.in-None.is
    (lent c.in_ok-entry.field-0.told c.as_deref.result c.as_deref.ensures.cases)
    (rw c.ask.ensures at (rw c.in_ok-duplicate.ensures at (rw c.in_ok-key.ensures at c.in_ok-entry.ensures.told))) built)
    c.built_frame.ensures.told
