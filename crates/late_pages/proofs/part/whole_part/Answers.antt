use Rattle.std.proofs.Common.{◌∙◌, ◌++◌, ap}
use Rattle.std.specs.Arc.{arc_value}
use Rattle.cache_entries.specs.declared.entry.Entry.{Entry}
use Rattle.late_pages.proofs.Frame.{part_shows}
use Rattle.late_pages.proofs.part.whole_part.Goals as goal

pub returns-clause-shows : goal.returns-clause-shows
returns-clause-shows c v f here =
    part_shows v f (arc_value c.args.child.now.entry) c.parts.result.now c.in_ok-parts.parts (arc_value c.in_ok-nothing.nothing) c.extend_from_slice.new.self.items here
    (c.parts.ensures ∙ ap (λ (e : Entry). e.segments) c.deref.ensures) c.in_ok-parts.ensures
    (c.in_ok-extend_from_slice.ensures.items ∙ ap (λ ls. ls ++ c.as_slice.result.now) c.new-libraries.ensures.items ∙ c.as_slice.ensures ∙ ap (λ (e : Entry). e.libraries) c.deref-2.ensures)
