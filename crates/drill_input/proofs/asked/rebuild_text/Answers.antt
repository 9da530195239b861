use Rattle.drill_input.specs.Asked.{rebuild_text, session_lines}
use Rattle.drill_input.proofs.asked.rebuild_text.Goals as goal

pub returns : goal.returns
unfolding rebuild_text session_lines
returns c =
    c.with_bytes.ensures _
    (c.with_bytes-text.ensures _
    c.from_slice-text.ensures.items)
