use Rattle.std.proofs.Common.{refl, subst}
use Rattle.std.specs.Arc.{arc_value}
use Rattle.std.specs.Option.{option_copied}
use Rattle.std.proofs.lemmas.Result.{on_ok_weaker, IfOk-weaker}
use Rattle.content_state.specs.Met.{met}
use Rattle.cache_entries.specs.declared.entry.Entry.{Entry}
use Rattle.cache_entries.specs.declared.key.Subject.TheVariants as subject
use Rattle.cache_entries.specs.declared.kept.Bin.TheVariants as bin
use Rattle.render_array.specs.declared.element.Element.{Element}
use Rattle.render_array.specs.Built.{plan_of}
use Rattle.render_array.specs.Whole.{element_level, shown_below}
use Rattle.element_entries.specs.Keys.{visit}
use Rattle.kept_pages.specs.Joins.{Takes}
use Rattle.kept_pages.specs.Held.{Tells}
use Rattle.kept_pages.specs.Needed.{met_fragment, InFragment, NeededBelow, NeededFor}
use Rattle.kept_pages.specs.Went.{GathersIn}
use Rattle.kept_pages.proofs.Counting.{built_up, counts_fragment, tells_built, tells_found, begun_told, told_bytes, told_open, told_child, told_more, told_begin, told_whole}
use Rattle.kept_pages.proofs.Entries.{steady_on, steady_same}
use Rattle.kept_pages.proofs.Shelves.{lent}
use Rattle.kept_pages.proofs.Parts.{nothing_below, joins_none, joins_bytes, joins_open, joins_child, joins_part, begun_whole, if_ok_three}
use Rattle.kept_pages.proofs.filling.+filling.Goals as goal

pub add_part-returns-in-Bytes-clause-joins : goal.add_part-returns-in-Bytes-clause-joins
add_part-returns-in-Bytes-clause-joins g t c =
    rw c.in-Bytes.is (on_ok_weaker c.add_bytes.result (joins_bytes (shown_below c.args.below) _ _ _ _) c.add_bytes.ensures)

pub add_part-returns-in-Bytes-clause-told : goal.add_part-returns-in-Bytes-clause-told
add_part-returns-in-Bytes-clause-told g t c =
    rw c.in-Bytes.is (on_ok_weaker c.add_bytes.result
    (told_bytes c.args.reader.now (NeededBelow c.args.below (visit c.args.reader.now)) (g.H.House.sees c.args.house.now) (arc_value c.in-Bytes.shared) _ _ c.args.filled.now.built) c.add_bytes.ensures)

pub add_part-returns-in-None-clause-joins : goal.add_part-returns-in-None-clause-joins
add_part-returns-in-None-clause-joins g t c =
    rw c.in-Hole.is (on_ok_weaker c.leave_open.result (joins_open (shown_below c.args.below) (visit c.args.reader.now) _ _ _ (nothing_below c.args.below _ (c.in-None.ensures.stays refl))) c.leave_open.ensures)

pub add_part-returns-in-None-clause-told : goal.add_part-returns-in-None-clause-told
add_part-returns-in-None-clause-told g t c =
    rw c.in-Hole.is (on_ok_weaker c.leave_open.result
    (told_open c.args.reader.now c.args.below (visit c.args.reader.now) (g.H.House.sees c.args.house.now) _ _ _ c.args.filled.now.built (c.in-None.ensures.stays refl)) c.leave_open.ensures)

pub add_part-returns-in_ok-add_child-in-Some-clause-joins : goal.add_part-returns-in_ok-add_child-in-Some-clause-joins
add_part-returns-in_ok-add_child-in-Some-clause-joins g t c =
    rw c.in-Hole.is (joins_child c.args.below (visit c.args.reader.now) _ c.in-Some.fragment (arc_value c.in_ok-child-in-Some.child.entry) c.args.filled.now.joined c.add_child.new.joined
    c.in-Some.ensures.there c.in-Some.ensures.lower c.in_ok-child-in-Some.ensures.here
    (subst (λ (e : Entry). Takes e c.args.filled.now.joined c.add_child.new.joined) c.deref.ensures c.in_ok-add_child-in-Some.ensures))

pub add_part-returns-in_ok-add_child-in-Some-clause-told : goal.add_part-returns-in_ok-add_child-in-Some-clause-told
add_part-returns-in_ok-add_child-in-Some-clause-told g t c =
    rw c.in-Hole.is (told_child c.args.reader.now c.args.below (visit c.args.reader.now) _ _ _ c.in-Some.fragment (arc_value c.in_ok-child-in-Some.child.entry) c.args.filled.now.joined c.add_child.new.joined
    c.in_ok-child-in-Some.child.built c.args.filled.now.built c.saturating_add-filled.result
    c.in-Some.ensures.there c.in-Some.ensures.lower c.saturating_add-filled.ensures
    (subst (λ (e : Entry). Takes e c.args.filled.now.joined c.add_child.new.joined) c.deref.ensures c.in_ok-add_child-in-Some.ensures) c.in_ok-child-in-Some.ensures.told)

pub add_parts-loop-part-init : goal.add_parts-loop-part-init
add_parts-loop-part-init g t c = record {
  steady = steady_same (g.H.House.sees c.args.house.now);
  joins = joins_none (shown_below c.args.below) (visit c.args.reader.now) c.args.filled.now.joined;
  told = told_begin c.args.reader.now (NeededBelow c.args.below (visit c.args.reader.now)) (g.H.House.sees c.args.house.now) c.args.filled.now.joined c.args.filled.now.built;
}

pub add_parts-returns-clause-told : goal.add_parts-returns-clause-told
add_parts-returns-clause-told g t c =
    told_whole c.args.reader.now (NeededBelow c.args.below (visit c.args.reader.now)) c.args.parts.now c.loop-part.part-index _ _ _ _ _ _ c.loop-part-test.false c.loop-part.invariant.told

pub add_parts-loop-part-preserved : goal.add_parts-loop-part-preserved
add_parts-loop-part-preserved g t c = record {
  steady = steady_on c.loop-part.invariant.steady c.in_ok-add_part.ensures.steady;
  joins = joins_part _ _ _ _ _ _ _ _ c.loop-part-test.true c.part-item.is c.loop-part.invariant.joins c.in_ok-add_part.ensures.joins;
  told = told_more c.args.reader.now (NeededBelow c.args.below (visit c.args.reader.now)) c.args.parts.now _ _ _ _ _ _ _ _ _ _ _ c.loop-part-test.true c.part-item.is c.loop-part.invariant.told c.in_ok-add_part.ensures.told;
}

pub built_fragment-returns-clause-told : goal.built_fragment-returns-clause-told
built_fragment-returns-clause-told g t c =
    let v = visit c.args.reader.now in
    let f = c.in_ok-filled.filled in
    if_ok_three c.keep_whole.result
    (λ child says same closes.
    built_up c.args.reader.now (met_fragment c.args.fragment.now v) (InFragment v c.args.fragment.now) bin.Fragments (subject.Fragment c.args.fragment.now) (option_copied c.args.told) f.joined.cacheability (arc_value child.entry) _ _ _ 1 f.built child.built refl
    (counts_fragment (subject.Fragment c.args.fragment.now) (arc_value child.entry)) same says
    (subst (λ (e : Element). Tells c.args.reader.now (GathersIn (NeededFor c.args.reader.now.ask.path v e) (met (plan_of c.args.reader.now.ask.path e) v) f.joined.cacheability) (g.H.House.sees c.args.house.now) (g.H.House.sees c.fill.new.house) 1 f.built) c.element_of.ensures c.in_ok-filled.ensures.told) closes)
    c.keep_whole.ensures.says c.keep_whole.ensures.built c.keep_whole.ensures.told

pub fill-returns-clause-whole : goal.fill-returns-clause-whole
fill-returns-clause-whole g t c =
    begun_whole (shown_below (element_level c.args.element)) (visit c.args.reader.now) (plan_of c.args.reader.now.ask.path c.args.element) _ c.add_parts.new.filled.joined c.in_ok-segments.ensures
    (rw c.element_level-below.ensures at (rw c.parts.ensures at c.in_ok-add_parts.ensures.joins))

pub fill-returns-clause-told : goal.fill-returns-clause-told
fill-returns-clause-told g t c =
    begun_told c.args.reader.now (NeededBelow (element_level c.args.element) (visit c.args.reader.now)) (plan_of c.args.reader.now.ask.path c.args.element) (visit c.args.reader.now) c.in_ok-segments.field-0 _ _ _ _ c.in_ok-segments.ensures
    (rw c.element_level-below.ensures at (rw c.parts.ensures at c.in_ok-add_parts.ensures.told))

pub some_fragment-returns-in-Some-clause-told : goal.some_fragment-returns-in-Some-clause-told
some_fragment-returns-in-Some-clause-told g t c =
    let v = visit c.args.reader.now in
    tells_found c.args.reader.now (met_fragment c.args.fragment.now v) (InFragment v c.args.fragment.now) bin.Fragments (subject.Fragment c.args.fragment.now) c.in-Some.entry c.in_ok-entry.field-0-0 _ _ c.in-Some.is c.in_ok-entry.ensures.told

pub some_fragment-returns-clause-told : goal.some_fragment-returns-clause-told
some_fragment-returns-clause-told g t c =
    let v = visit c.args.reader.now in
    IfOk-weaker c.built_fragment.result _ _
    (λ child built.
    tells_built c.args.reader.now (met_fragment c.args.fragment.now v) (InFragment v c.args.fragment.now) bin.Fragments (subject.Fragment c.args.fragment.now) (arc_value child.entry) c.in_ok-entry.field-0-0 _ _ _ _ child.built c.in-None.is
    (lent c.in_ok-entry.field-0-0.told c.as_deref.result c.as_deref.ensures.cases) c.in_ok-entry.ensures.told built)
    c.built_fragment.ensures.told
