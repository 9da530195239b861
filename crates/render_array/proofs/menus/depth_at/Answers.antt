use Rattle.std.proofs.Common.{◌∙◌, ap, Some, None}
use Rattle.render_array.proofs.MenuLaws.{got, depth_of, depth_from}
use Rattle.render_array.proofs.menus.depth_at.Goals as goal

pub returns-in-Some : goal.returns-in-Some
returns-in-Some c = ap depth_of (got c.args.places.now c.args.at (Some c.in-Some.place) c.in-Some.ensures.lookup) ∙ depth_from c.args.places.now c.args.at

pub returns-in-None : goal.returns-in-None
returns-in-None c = ap depth_of (got c.args.places.now c.args.at None c.in-None.ensures.lookup) ∙ depth_from c.args.places.now c.args.at
