use Rattle.content_state.specs.Viewer.{access_content}
use Rattle.render_canvas.proofs.Run.{next, done, if_true, if_false}
use Rattle.render_array.proofs.blocks.listing_body.Goals as goal

pub returns-in_default : goal.returns-in_default
returns-in_default c = rw c.in_default.is done

pub returns-in_default-listing : goal.returns-in_default-listing
returns-in_default-listing c = rw c.in-Some.is (next _ c.in_default-listing.ensures.shows done)

pub returns-then-holds : goal.returns-then-holds
unfolding access_content
returns-then-holds c =
    rw c.in-Some.is (next _ c.in-Some-listing.ensures.shows (next _ c.holds.ensures (if_true _ c.if-holds.true c.open.ensures)))

pub returns-else-holds : goal.returns-else-holds
unfolding access_content
returns-else-holds c =
    rw c.in-Some.is (next _ c.in-Some-listing.ensures.shows (next _ c.holds.ensures (if_false _ c.if-holds.false done)))
