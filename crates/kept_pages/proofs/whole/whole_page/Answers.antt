use Rattle.std.specs.Arc.{arc_value}
use Rattle.std.proofs.lemmas.Result.{IfOk-weaker}
use Rattle.element_entries.specs.Keys.{visit}
use Rattle.kept_pages.proofs.Counting.{tells_whole}
use Rattle.kept_pages.proofs.whole.whole_page.Goals as goal

pub returns-clause-told : goal.returns-clause-told
returns-clause-told g c =
    IfOk-weaker c.fill_frame.result _ _
    (λ f holes.
    tells_whole c.args.reader.now c.args.reader.now.ask.path (visit c.args.reader.now) (arc_value c.in_ok-frame.frame.entry) f.joined.cacheability _ _ _ c.in_ok-frame.frame.built f.built c.in_ok-frame.ensures.here c.in_ok-frame.ensures.told holes)
    c.fill_frame.ensures.told
