use Rattle.std.proofs.lemmas.Bool.{lt-ltb, le-ltb}
use Rattle.render_array.specs.Menus.{link_closed}
use Rattle.render_array.specs.Pieces as pieces
use Rattle.render_canvas.proofs.Run.{next, if_true, if_false}
use Rattle.render_array.proofs.menus.link_closed.Goals as goal

pub returns-then-depth-next : goal.returns-then-depth-next
unfolding link_closed pieces.submenu_start
returns-then-depth-next c = if_true _ (lt-ltb _ _ c.if-depth-next.true) c.write.ensures

pub returns : goal.returns
unfolding link_closed pieces.item_end
returns c = if_false _ (le-ltb _ _ c.if-depth-next.false) (next _ c.write-2.ensures c.lists_end.ensures)
