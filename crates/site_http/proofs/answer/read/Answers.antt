use Rattle.std.proofs.Common.{◌∙◌, [], sym}
use Rattle.kept_pages.proofs.Entries.{seen_on}
use Rattle.site_house.proofs.Moving.{moves_same}
use Rattle.site_late.proofs.Seen.{newest_seen}
use Rattle.site_http.proofs.Made.{said_on, needed_on}
use Rattle.site_http.specs.Kept.{shelves_of}
use Rattle.site_http.proofs.Again.{recent_stay}
use Rattle.site_http.proofs.Kept.{keeps_nothing, same_shelves}
use Rattle.site_http.specs.Recent.{given_bytes, page_bytes}
use Rattle.site_http.proofs.answer.read.Goals as goal

pub reply_on-requires-clause-seen : goal.reply_on-requires-clause-seen
reply_on-requires-clause-seen g c =
    newest_seen (g.H.House.sees c.snapshot.new.self) c.deref-state.result.now (c.deref-state.ensures ∙ c.in_ok-newest.ensures.state) c.in_ok-newest.ensures.valid

pub returns-in-Some-clause-says : goal.returns-in-Some-clause-says
returns-in-Some-clause-says g c =
    let old = g.H.House.sees c.args.house.now in
    let house = g.H.House.sees c.snapshot.new.self in
    let is = c.deref-state.ensures ∙ c.in_ok-newest.ensures.state in
    record {
      needs = [];
      holds = said_on old house house c.deref-state.result.now c.args.reading c.args.ask.now c.args.now c.args.closing (page_bytes c.in-Some.reply.value.page) 0 []
          c.in_ok-newest.ensures.moves c.in_ok-newest.ensures.valid is (moves_same house)
          (c.in-Some.ensures house (recent_stay c.args.recent.now c.in_ok-newest.ensures.moves c.requires.recent) (newest_seen house c.deref-state.result.now is c.in_ok-newest.ensures.valid));
      kept = keeps_nothing (shelves_of old) (shelves_of house) (same_shelves old house c.in_ok-newest.ensures.keeps_all);
    }

pub returns-in-Some-clause-recent : goal.returns-in-Some-clause-recent
returns-in-Some-clause-recent g c = recent_stay c.args.recent.now c.in_ok-newest.ensures.moves c.requires.recent

pub returns-clause-says : goal.returns-clause-says
returns-clause-says g c =
    let old = g.H.House.sees c.args.house.now in
    let mid = g.H.House.sees c.snapshot.new.self in
    let new = g.H.House.sees c.reply_on.new.house in
    let n = c.in_ok-reply.ensures.says in
    rw c.given-given.ensures.text
    (record {
      needs = n.needs;
      holds = said_on old mid new c.deref-state.result.now c.args.reading c.args.ask.now c.args.now c.args.closing (given_bytes c.in_ok-reply.reply.given) c.in_ok-reply.reply.built n.needs
          c.in_ok-newest.ensures.moves c.in_ok-newest.ensures.valid (c.deref-state.ensures ∙ c.in_ok-newest.ensures.state) c.reply_on.ensures.moves n.holds;
      kept = needed_on old mid new n.needs c.in_ok-newest.ensures.keeps_all n.kept;
    })

pub returns-clause-recent : goal.returns-clause-recent
returns-clause-recent g c =
    let house = g.H.House.sees c.snapshot.new.self in
    let is = c.deref-state.ensures ∙ c.in_ok-newest.ensures.state in
    c.given-given.ensures.recent (g.H.House.sees c.reply_on.new.house) c.deref-state.result.now
    (seen_on house (g.H.House.sees c.reply_on.new.house) c.deref-state.result.now c.reply_on.ensures.moves (newest_seen house c.deref-state.result.now is c.in_ok-newest.ensures.valid))
    (sym c.number.ensures) c.requires.right c.in_ok-reply.ensures.again
    c.reply_on.ensures.recent

pub returns-in_err-newest-clause-recent : goal.returns-in_err-newest-clause-recent
returns-in_err-newest-clause-recent g c = recent_stay c.args.recent.now c.in_err-newest.ensures.moves c.requires.recent

pub reply_on-requires-clause-recent : goal.reply_on-requires-clause-recent
reply_on-requires-clause-recent g c = recent_stay c.args.recent.now c.in_ok-newest.ensures.moves c.requires.recent
