use Rattle.std.proofs.lemmas.Result.{on_ok_weaker}
use Rattle.element_entries.specs.Keys.{visit}
use Rattle.kept_pages.proofs.Counting.{told_meta, told_lazy, told_shown}
use Rattle.kept_pages.proofs.OfFrames.{joins_meta, joins_lazy, joins_shown}
use Rattle.kept_pages.proofs.frames.add_shared_place.Goals as goal

pub returns-in-Meta-clause-joins : goal.returns-in-Meta-clause-joins
returns-in-Meta-clause-joins g c =
    rw c.in-Meta.is (on_ok_weaker c.leave_open.result (joins_meta (visit c.args.reader.now) _ _) (rw c.in-Meta.is at c.leave_open.ensures))

pub returns-then-branch-clause-joins : goal.returns-then-branch-clause-joins
returns-then-branch-clause-joins g c =
    rw c.in-Fragment.is (on_ok_weaker c.leave_open-then-branch.result
    (joins_lazy (visit c.args.reader.now) c.in-Fragment.fragment c.in_ok-is_left_open-in-Fragment.field-0 _ _ _ c.if-branch.true c.in_ok-is_left_open-in-Fragment.ensures)
    (rw c.in-Fragment.is at c.leave_open-then-branch.ensures))

pub returns-in-Meta-clause-told : goal.returns-in-Meta-clause-told
returns-in-Meta-clause-told g c =
    rw c.in-Meta.is (on_ok_weaker c.leave_open.result (told_meta c.args.reader.now (visit c.args.reader.now) (g.H.House.sees c.args.house.now) _ _ c.args.filled.now.built) (rw c.in-Meta.is at c.leave_open.ensures))

pub returns-then-branch-clause-told : goal.returns-then-branch-clause-told
returns-then-branch-clause-told g c =
    rw c.in-Fragment.is (on_ok_weaker c.leave_open-then-branch.result
    (told_lazy c.args.reader.now (visit c.args.reader.now) c.in-Fragment.fragment (g.H.House.sees c.args.house.now) c.in_ok-is_left_open-in-Fragment.field-0 _ _ _ c.args.filled.now.built
    c.if-branch.true c.in_ok-is_left_open-in-Fragment.ensures)
    (rw c.in-Fragment.is at c.leave_open-then-branch.ensures))

pub returns-else-branch-clause-told : goal.returns-else-branch-clause-told
returns-else-branch-clause-told g c =
    rw c.in-Fragment.is (on_ok_weaker c.add_shared_fragment.result
    (told_shown c.args.reader.now (visit c.args.reader.now) c.in-Fragment.fragment _ _ c.in_ok-is_left_open-in-Fragment.field-0 _ _ c.add_shared_fragment.new.filled.joined _ _
    c.if-branch.false c.in_ok-is_left_open-in-Fragment.ensures)
    c.add_shared_fragment.ensures.told)

pub returns-else-branch-clause-joins : goal.returns-else-branch-clause-joins
returns-else-branch-clause-joins g c =
    rw c.in-Fragment.is (on_ok_weaker c.add_shared_fragment.result
    (joins_shown (visit c.args.reader.now) c.in-Fragment.fragment c.in_ok-is_left_open-in-Fragment.field-0 _ _ _ c.if-branch.false c.in_ok-is_left_open-in-Fragment.ensures)
    c.add_shared_fragment.ensures.takes)
