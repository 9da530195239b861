use Rattle.render_array.specs.declared.element.Element.TheVariants as element
use Rattle.render_array.specs.Built.{plan_of}
use Rattle.element_entries.specs.Keys.{visit}
use Rattle.kept_pages.specs.Joins.{in_shared}
use Rattle.kept_pages.specs.Needed.{NeededInFrame, tags_asked}
use Rattle.kept_pages.proofs.Counting.{begun_asked}
use Rattle.kept_pages.proofs.Parts.{begun_whole}
use Rattle.kept_pages.proofs.frames.build_frame.Goals as goal

pub returns-clause-whole : goal.returns-clause-whole
returns-clause-whole g c =
    begun_whole in_shared (visit c.args.reader.now) (plan_of c.args.reader.now.ask.path element.Page) _ c.add_shared_parts.new.filled.joined c.in_ok-segments.ensures
    (rw c.parts.ensures at c.in_ok-add_shared_parts.ensures.joins)

pub returns-clause-told : goal.returns-clause-told
returns-clause-told g c =
    begun_asked c.args.reader.now (NeededInFrame (visit c.args.reader.now)) (plan_of c.args.reader.now.ask.path element.Page) (visit c.args.reader.now) c.in_ok-segments.field-0 _ _ _ _ c.in_ok-segments.ensures
    (tags_asked (visit c.args.reader.now)) (rw c.parts.ensures at c.in_ok-add_shared_parts.ensures.told)
