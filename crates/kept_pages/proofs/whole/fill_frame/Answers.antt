use Rattle.std.proofs.Common.{[], subst}
use Rattle.std.specs.Arc.{arc_value}
use Rattle.cacheability.specs.declared.cacheability.Cacheability.{Cacheability}
use Rattle.element_entries.specs.Keys.{visit}
use Rattle.kept_pages.specs.Went.{TakesIn}
use Rattle.kept_pages.specs.Needed.{InHoles}
use Rattle.kept_pages.specs.Held.{Tells}
use Rattle.kept_pages.proofs.OfFrames.{frame_whole}
use Rattle.kept_pages.proofs.whole.fill_frame.Goals as goal

pub returns-clause-whole : goal.returns-clause-whole
returns-clause-whole g c =
    frame_whole c.args.reader.now.ask.path (visit c.args.reader.now) (arc_value c.args.frame.now.entry) c.in_ok-filled.filled.joined c.add_parts.new.filled.joined c.requires.here c.in_ok-filled.ensures.opens
    (rw c.element_level-below.ensures at (rw c.deref.ensures at (rw c.parts.ensures at c.in_ok-add_parts.ensures.joins)))

pub returns-clause-told : goal.returns-clause-told
returns-clause-told g c =
    let page = arc_value c.args.frame.now.entry in
    let new = c.add_parts.new.filled in
    subst (λ (said : Cacheability). Tells c.args.reader.now (TakesIn (InHoles (visit c.args.reader.now) page) [] said new.joined.cacheability) (g.H.House.sees c.args.house.now) (g.H.House.sees c.add_parts.new.house) c.args.frame.now.built new.built)
    c.in_ok-filled.ensures.opens.cacheability
    (subst (λ n. Tells c.args.reader.now (TakesIn (InHoles (visit c.args.reader.now) page) [] c.in_ok-filled.filled.joined.cacheability new.joined.cacheability) (g.H.House.sees c.args.house.now) (g.H.House.sees c.add_parts.new.house) n new.built)
    c.in_ok-filled.ensures.built
    (rw c.element_level-below.ensures at (rw c.deref.ensures at (rw c.parts.ensures at c.in_ok-add_parts.ensures.told))))
