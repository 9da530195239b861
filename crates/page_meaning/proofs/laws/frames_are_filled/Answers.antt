use Rattle.render_array.proofs.Leaves.{page_closed}
use Rattle.page_meaning.proofs.Frames.{page_filled}
use Rattle.page_meaning.proofs.laws.frames_are_filled.Goals as goal

pub returns : goal.returns
returns c = record { filled = page_filled; closed = page_closed }
