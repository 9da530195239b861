use Rattle.std.proofs.Common.{◌∙◌, ℕ, ap, subst}
use Rattle.http_heads.specs.Reply.{head_text}
use Rattle.site_late.specs.Heads.{late_head, media_of}
use Rattle.content_state.specs.State.{State}
use Rattle.site_house.specs.House.{history_of}
use Rattle.site_house.specs.History.{newest}
use Rattle.kept_pages.proofs.Entries.{seen_on}
use Rattle.site_late.specs.Ready.{IsReady}
use Rattle.site_late.proofs.Seen.{needed_first, newest_seen, seen_number, seen_state}
use Rattle.site_late.proofs.Statuses.{page_replies}
use Rattle.site_late.proofs.late.make_ready.Goals as goal

pub late_first-requires-clause-seen : goal.late_first-requires-clause-seen
late_first-requires-clause-seen g c =
    newest_seen (g.H.House.sees c.snapshot.new.self) c.deref-state.result.now (c.deref-state.ensures ∙ c.in_ok-newest.ensures.state) c.in_ok-newest.ensures.valid

pub late_head-requires : goal.late_head-requires
late_head-requires g c = page_replies c.in_ok-late.late.status c.in_ok-late.ensures.status

pub returns-clause-ready : goal.returns-clause-ready
returns-clause-ready g c =
    let mid = g.H.House.sees c.snapshot.new.self in
    let new = g.H.House.sees c.late_first.new.house in
    let state = c.deref-state.result.now in
    let is = c.deref-state.ensures ∙ c.in_ok-newest.ensures.state in
    let behind = c.in_ok-late.ensures.moves in
    subst (λ (s : State). IsReady s (g.H.House.sees c.args.house.now) new c.args.ask.now c.args.now c.args.closing (record { newest = c.in_ok-newest.newest; viewer = c.viewer_of-viewer.result; head = c.in_ok-head.head; late = c.in_ok-late.late })) c.deref-state.ensures
    (record {
      number = newest (history_of mid);
      on = seen_number c.in_ok-newest.ensures.moves c.in_ok-newest.ensures.valid behind;
      state_is = seen_state state is behind;
      seen = seen_on mid new state behind (newest_seen mid state is c.in_ok-newest.ensures.valid);
      opened = record { viewer = c.viewer_of-viewer.ensures; first = c.in_ok-late.ensures.first };
      head_is = c.in_ok-head.ensures ∙ ap (λ (n : ℕ). head_text (late_head (media_of c.args.ask.now.path) c.in_ok-late.late.status n c.args.closing)) c.number.ensures;
      needed = needed_first state c.viewer_of-viewer.result c.args.ask.now c.args.now c.in_ok-late.late.built c.viewer_of-viewer.ensures c.in_ok-newest.ensures.keeps_all c.in_ok-late.ensures.told;
    })
