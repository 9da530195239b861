use Rattle.std.proofs.Common.{sym, subst, None}
use Rattle.std.proofs.lemmas.Result.{IfOk-weaker}
use Rattle.element_entries.specs.Keys.{visit}
use Rattle.kept_pages.specs.Held.{Tells}
use Rattle.late_pages.specs.Needed.{OpenedFor}
use Rattle.late_pages.proofs.Told.{tells_target, tells_beside}
use Rattle.late_pages.proofs.first.shared_first.Goals as goal

pub returns-in-Some-clause-told : goal.returns-in-Some-clause-told
returns-in-Some-clause-told g c =
    let r = c.args.reader.now in
    IfOk-weaker c.found_page.result _ _
    (λ l same. subst (λ n. Tells r (OpenedFor None (visit r)) (g.H.House.sees c.args.house.now) (g.H.House.sees c.look_for_target.new.house) 0 n) (sym same)
    (tells_target r c.in-Some.entry c.in_ok-entry.field-0-0 _ _ c.in-Some.is c.in_ok-entry.ensures.told))
    c.found_page.ensures.built

pub returns-in-None-clause-told : goal.returns-in-None-clause-told
returns-in-None-clause-told g c =
    let r = c.args.reader.now in
    IfOk-weaker c.opened.result _ _
    (λ l told. tells_beside r c.in_ok-entry.field-0-0 _ _ _ l.built c.in_ok-entry.ensures.told told)
    c.opened.ensures.told
