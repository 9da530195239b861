use Rattle.content_state.proofs.SeenRows.{got_text}
use Rattle.content_state.proofs.site_rules.note_text.Goals as goal

pub returns-in_ok-insert-in-Some : goal.returns-in_ok-insert-in-Some
returns-in_ok-insert-in-Some c held =
    rw c.in-Some.is
    (got_text c.args.seen.now c.insert.new.self (record { what = c.args.what; text = c.in-Some.text }) held
    (c.in_ok-insert-in-Some.ensures.updates.0 held))
