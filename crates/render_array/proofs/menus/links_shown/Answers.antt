use Rattle.std.proofs.Math.ListN.{drop_of_length-le}
use Rattle.render_array.proofs.MenuLaws.{leads_begin, leads_next, leads_end}
use Rattle.render_array.proofs.menus.links_shown.Goals as goal

pub places-init : goal.places-init
places-init c = leads_begin _ _ _ _

pub places-preserved : goal.places-preserved
places-preserved c =
    leads_next _ _ _ _ _ c.get.result c.depth_at.result c.places-test.true c.get.ensures.lookup c.depth_at.ensures c.places.invariant c.link_at.ensures
    c.link_closed.ensures

pub returns : goal.returns
returns c = leads_end _ _ _ _ (drop_of_length-le _ c.places-test.false) c.places.invariant
