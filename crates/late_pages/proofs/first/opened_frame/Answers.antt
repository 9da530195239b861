use Rattle.std.proofs.Common.{◌∙◌, ◌++◌, ap, sym}
use Rattle.std.specs.Arc.{arc_value}
use Rattle.std.specs.Prelude.{◌==◌}
use Rattle.cache_entries.specs.declared.entry.Entry.{Entry}
use Rattle.late_out.specs.Marks.{body_end}
use Rattle.render_array.specs.Shown.{meta_text}
use Rattle.late_pages.proofs.Frame.{frame_ends, no_status, some_status, frame_first, none_there, some_there}
use Rattle.late_pages.proofs.first.opened_frame.Goals as goal
use Rattle.late_pages.proofs.first.opened_frame.Goals.{then-is_empty, else-is_empty+in_ok-parts}

pub without_end-requires : goal.without_end-requires
without_end-requires c =
    frame_ends c.args.reader.now (arc_value c.args.frame.now.entry) c.parts.result.now c.requires.here
    (c.parts.ensures ∙ ap (λ (e : Entry). e.segments) c.deref-2.ensures) (arc_value c.in_ok-meta.meta) _ c.requires.html c.in_ok-text.ensures.text

pub unreachable-requires : goal.unreachable-requires
unreachable-requires c =
    no_status c.args.reader.now (arc_value c.args.frame.now.entry) c.parts.result.now c.requires.here
    (c.parts.ensures ∙ ap (λ (e : Entry). e.segments) c.deref-2.ensures) c.deref-3.result.now c.deref-3.ensures c.in-None.is

pub returns-clause-status : goal.returns-clause-status
returns-clause-status c =
    some_status c.args.reader.now (arc_value c.args.frame.now.entry) c.parts.result.now c.requires.here
    (c.parts.ensures ∙ ap (λ (e : Entry). e.segments) c.deref-2.ensures) c.deref-3.result.now c.in-Some.status c.deref-3.ensures c.in-Some.is

pub returns-clause-first : goal.returns-clause-first
returns-clause-first c =
    frame_first c.args.reader.now (arc_value c.args.frame.now.entry) c.parts.result.now c.requires.here
    (c.parts.ensures ∙ ap (λ (e : Entry). e.segments) c.deref-2.ensures) c.deref-3.result.now c.in-Some.status (arc_value c.in_ok-meta.meta) c.in_ok-text.field-0.text c.if-is_empty.parts c.in_ok-text.field-0.holes.items
    c.requires.viewer c.requires.html c.deref-3.ensures c.in-Some.is
    (c.in_ok-meta.ensures.ok ∙ c.new.ensures ∙ c.in_ok-lines.ensures ∙ ap meta_text (c.as_slice.ensures ∙ ap (λ (e : Entry). e.libraries) c.deref.ensures)) c.in_ok-text.ensures.text c.in_ok-text.ensures.places
    (λ none. elim c.if-is_empty.branch [
      | then-is_empty w ↦ w.parts-is
      | else-is_empty+in_ok-parts w ↦ absurd (none_there c.in_ok-text.field-0.holes.items (w.if-is_empty.ensures ∙ ap (λ n. n == 0) c.in_ok-text.field-0.holes.ok.0) none)
    ])
    (λ h others more. elim c.if-is_empty.branch [
      | then-is_empty w ↦ absurd (some_there c.in_ok-text.field-0.holes.items h others (w.if-is_empty.ensures ∙ ap (λ n. n == 0) c.in_ok-text.field-0.holes.ok.0) more)
      | else-is_empty+in_ok-parts w ↦ w.in_ok-parts.ensures ∙ ap (λ t. t ++ body_end) (sym w.parts-is)
    ])
