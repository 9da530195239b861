use Rattle.drill_input.proofs.asked.get_with.Goals as goal

pub returns : goal.returns
returns c =
    c.with_bytes.ensures _
    (c.with_bytes-text-3.ensures _
    (c.with_bytes-text-2.ensures _
    (c.with_bytes-text.ensures _
    c.from_slice-text.ensures.items)))
