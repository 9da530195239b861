use Rattle.std.proofs.Common.{drop}
use Rattle.http_heads.proofs.Heads.{at_head_shows, has_head, parts_at}
use Rattle.http_heads.proofs.extent.extent_of.Goals as goal

-- how far the whole head reaches with the rest is how far the bytes reach
pub returns-in-Head : goal.returns-in-Head
returns-in-Head c =
    let (h, at) = c.in-Head.ensures.1 in
    let bytes = c.args.bytes.now in
    let has = has_head bytes c.args.window.now c.find_head.new.spans c.in-Head.head h c.requires.window at in
    at_head_shows bytes h (drop c.in-Head.head.len bytes) c.extent_at.result has (rw c.split_at.ensures.back at (c.extent_at.ensures h (parts_at c.args.window.now c.find_head.new.spans c.in-Head.head h at) at.len))
