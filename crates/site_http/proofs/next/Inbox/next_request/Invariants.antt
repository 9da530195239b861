use Rattle.std.proofs.Common.{◌≡◌, ◌++◌, ◌-◌, List, ℕ, length}
use Rattle.site_io.specs.Told.{before}
use Rattle.http_heads.specs.Laws.{pending_limit}
use Rattle.site_http.specs.Turn.{ReadInNeed}
use Rattle.site_http.proofs.next.Inbox.next_request.Given as goal

abbrev pub invariant-pieces : goal.invariant-pieces
invariant-pieces g l = record {
  more : List ℕ;
  source : g.S.Source.left l.fn.source ≡ before more (g.S.Source.left l.source);
  inbox : l.self ≡ l.fn.self ++ more;
  needed : ReadInNeed l.fn.self more;
  faults : g.S.Source.faults l.source ≡ g.S.Source.faults l.fn.source;
}

abbrev pub decreases-pieces : goal.decreases-pieces
decreases-pieces g l = pending_limit - length l.self
