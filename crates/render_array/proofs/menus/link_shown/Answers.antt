use Rattle.render_array.specs.Menus.{link_shown}
use Rattle.render_array.specs.Pieces as pieces
use Rattle.render_canvas.proofs.Run.{next, next_write, next_escaped}
use Rattle.render_array.proofs.menus.link_shown.Goals as goal

pub returns : goal.returns
unfolding link_shown pieces.link_start pieces.link_between pieces.link_end
returns c =
    next_write _ _ _ c.write.ensures c.item_start.ensures (next _ c.write-2.ensures
    (next_escaped _ _ _ c.escaped.ensures c.as_slice.ensures (next _ c.write-3.ensures
    (next_escaped _ _ _ c.escaped-2.ensures c.as_slice-2.ensures c.write-4.ensures))))
