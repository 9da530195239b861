use Rattle.std.proofs.Common.{sym, subst}
use Rattle.std.specs.Arc.{arc_value}
use Rattle.std.proofs.lemmas.Result.{IfOk-weaker}
use Rattle.element_entries.specs.Keys.{visit}
use Rattle.kept_pages.specs.Held.{Tells}
use Rattle.late_pages.specs.Needed.{OfOpened}
use Rattle.late_pages.proofs.Told.{tells_opened}
use Rattle.late_pages.proofs.first.opened.Goals as goal

pub returns-clause-told : goal.returns-clause-told
returns-clause-told g c =
    let r = c.args.reader.now in
    IfOk-weaker c.opened_frame.result _ _
    (λ l same. subst (λ n. Tells r (OfOpened (visit r)) (g.H.House.sees c.args.house.now) (g.H.House.sees c.some_frame.new.house) 0 n) (sym same)
    (tells_opened r (arc_value c.in_ok-frame.frame.entry) _ _ c.in_ok-frame.frame.built c.in_ok-frame.ensures.here c.in_ok-frame.ensures.told))
    c.opened_frame.ensures.built
