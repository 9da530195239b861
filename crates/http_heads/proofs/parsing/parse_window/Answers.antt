use Rattle.std.proofs.Common.{drop}
use Rattle.std.proofs.lemmas.Result.{IfOk-weaker}
use Rattle.http_heads.proofs.Heads.{at_head_parses, has_head, parts_at}
use Rattle.http_heads.proofs.parsing.parse_window.Goals as goal

-- what the whole head makes of the rest is what the bytes begin with
pub returns-in-Head : goal.returns-in-Head
returns-in-Head c =
    let (h, at) = c.in-Head.ensures.1 in
    let bytes = c.args.bytes.now in
    let has = has_head bytes c.args.window.now c.find_head.new.spans c.in-Head.head h c.requires.window at in
    IfOk-weaker c.answer.result _ _ (λ p a. at_head_parses bytes h (drop c.in-Head.head.len bytes) p has (rw c.split_at.ensures.back at a)) (c.answer.ensures h (parts_at c.args.window.now c.find_head.new.spans c.in-Head.head h at) at.len)
