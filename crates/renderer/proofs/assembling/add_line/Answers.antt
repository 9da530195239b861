use Rattle.render_array.specs.Pieces.{meta_start, meta_end}
use Rattle.renderer.proofs.Texts.{three}
use Rattle.renderer.proofs.assembling.add_line.Goals as goal

pub returns : goal.returns
unfolding meta_start meta_end
returns c =
    three _ _ _ _ _ _ _ _ c.in_ok-extend_from_slice.ensures.items c.in_ok-extend_from_slice-2.ensures.items c.library_name.ensures
    c.in_ok-extend_from_slice-3.ensures.items
