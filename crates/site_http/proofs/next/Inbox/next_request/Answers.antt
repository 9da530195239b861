use Rattle.std.proofs.Common.{◌≡◌, ◌∙◌, ◌+◌, ◌<◌, List, ℕ, length, ap, sym, subst, arith, length-append}
use Rattle.http_heads.specs.declared.parsed.Parsed.TheVariants.{More}
use Rattle.http_heads.specs.Parses.{Parses}
use Rattle.http_heads.proofs.Laws.{more_is_short}
use Rattle.site_http.proofs.Failing.{fails_to_fetch}
use Rattle.site_http.proofs.next.Inbox.next_request.Goals as goal

pub pieces-smaller : goal.pieces-smaller
pieces-smaller g c =
    let more = c.in-Ok-true.ensures.ok.more in
    let new : length c.read_more.new.self ≡ length c.take_next.new.self + length more =
    ap length c.in-Ok-true.ensures.ok.buffer_is ∙ length-append c.take_next.new.self more in
    let same = ap length c.in_default.ensures.decided.1 in
    let short = more_is_short c.pieces.self c.in_default.ensures.decided.0 in
    let grows : 0 < length more = c.in-Ok-true.ensures.ok.grows c.in-Ok-true.field-0-test in
    omega arith

pub returns-in-Err-clause-fetches : goal.returns-in-Err-clause-fetches
returns-in-Err-clause-fetches g c =
    fails_to_fetch c.in-Err.trouble (g.S.Source.left c.args.source.now) (g.S.Source.left c.pieces.source) (g.S.Source.left c.read_more.new.source) c.args.self.now c.pieces.invariant.more c.take_next.new.self c.read_more.new.self c.pieces.invariant.source c.pieces.invariant.needed (c.in_default.ensures.decided.1 ∙ c.pieces.invariant.inbox) (subst (λ (l : List ℕ). Parses l More) (sym c.in_default.ensures.decided.1) c.in_default.ensures.decided.0) c.in-Err.ensures.err
