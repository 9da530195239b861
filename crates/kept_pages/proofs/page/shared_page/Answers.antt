use Rattle.std.proofs.Common.{sym, subst}
use Rattle.std.specs.Arc.{arc_value}
use Rattle.std.proofs.lemmas.Result.{IfOk-weaker}
use Rattle.content_state.specs.Met.{met_nothing}
use Rattle.cache_entries.specs.declared.key.Subject.TheVariants as subject
use Rattle.cache_entries.specs.declared.kept.Bin.TheVariants as bin
use Rattle.element_entries.specs.Keys.{visit}
use Rattle.kept_pages.specs.Needed.{OfWhole, OfTarget}
use Rattle.kept_pages.specs.Held.{Tells}
use Rattle.kept_pages.proofs.Counting.{tells_built, tells_found, tells_target}
use Rattle.kept_pages.proofs.Shelves.{lent}
use Rattle.kept_pages.proofs.page.shared_page.Goals as goal

pub returns-in-Some-clause-told : goal.returns-in-Some-clause-told
returns-in-Some-clause-told g c =
    let r = c.args.reader.now in
    IfOk-weaker c.page_of.result _ _
    (λ p same. subst (λ n. Tells r (OfTarget (visit r)) (g.H.House.sees c.args.house.now) (g.H.House.sees c.look_for_target.new.house) 0 n) (sym same)
    (tells_target r (arc_value c.in-Some.entry) _ _ 0
    (tells_found r met_nothing (OfWhole r.ask.path (visit r)) bin.Anonymous (subject.Target r.ask.target) c.in-Some.entry c.in_ok-entry.field-0-0 _ _ c.in-Some.is c.in_ok-entry.ensures.told)))
    c.page_of.ensures.built

pub returns-clause-told : goal.returns-clause-told
returns-clause-told g c =
    let r = c.args.reader.now in
    IfOk-weaker c.built_page.result _ _
    (λ p built.
    tells_target r built.0 _ _ p.built
    (tells_built r met_nothing (OfWhole r.ask.path (visit r)) bin.Anonymous (subject.Target r.ask.target) built.0 c.in_ok-entry.field-0-0 _ _ _ _ p.built c.in-None.is
    (lent c.in_ok-entry.field-0-0.told c.as_deref.result c.as_deref.ensures.cases) c.in_ok-entry.ensures.told built.1))
    c.built_page.ensures.told
