use Rattle.element_entries.specs.Keys.{visit}
use Rattle.std.proofs.lemmas.Result.{IfOk-weaker}
use Rattle.std.proofs.Common.{sym, subst}
use Rattle.content_state.specs.Met.{met_nothing}
use Rattle.kept_pages.specs.Needed.{OfWhole}
use Rattle.kept_pages.specs.Held.{Tells}
use Rattle.kept_pages.proofs.Counting.{tells_needed}
use Rattle.kept_pages.proofs.OfFrames.{made_page}
use Rattle.kept_pages.proofs.page.own_page.Goals as goal

pub page_of-requires-clause-makes : goal.page_of-requires-clause-makes
page_of-requires-clause-makes g c =
    made_page (visit c.args.reader.now) c.in_ok-joined.field-0.joined c.in_ok-joined.ensures.whole

pub returns-clause-told : goal.returns-clause-told
returns-clause-told g c =
    let whole = OfWhole c.args.reader.now.ask.path (visit c.args.reader.now) in
    IfOk-weaker c.page_of.result _ _
    (λ p same. subst (λ n. Tells c.args.reader.now whole (g.H.House.sees c.args.house.now) (g.H.House.sees c.whole_page.new.house) 0 n) (sym same)
    (tells_needed c.args.reader.now whole met_nothing _ _ _ 0 _ c.in_ok-joined.ensures.told))
    c.page_of.ensures.built
