use Rattle.std.specs.Arc.{arc_value}
use Rattle.std.proofs.Common.{subst}
use Rattle.cache_entries.specs.declared.entry.Entry.{Entry}
use Rattle.element_entries.specs.Keys.{visit}
use Rattle.kept_pages.specs.Joins.{Takes}
use Rattle.kept_pages.proofs.Counting.{told_fragment}
use Rattle.kept_pages.proofs.frames.add_shared_fragment.Goals as goal

pub returns-clause-told : goal.returns-clause-told
returns-clause-told g c =
    told_fragment c.args.reader.now (visit c.args.reader.now) _ _ c.args.fragment.now (arc_value c.in_ok-child.child.entry) c.args.filled.now.joined c.add_child.new.joined c.in_ok-child.child.built c.args.filled.now.built _
    c.saturating_add-filled.ensures (subst (λ (e : Entry). Takes e c.args.filled.now.joined c.add_child.new.joined) c.deref.ensures c.in_ok-add_child.ensures) c.in_ok-child.ensures.told
