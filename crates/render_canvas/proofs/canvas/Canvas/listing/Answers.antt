use Rattle.content_state.specs.Read.{ListingRow}
use Rattle.render_canvas.proofs.Run.{read, retagged}
use Rattle.render_canvas.proofs.canvas.Canvas.listing.Goals as goal

pub returns-clause-shows : goal.returns-clause-shows
returns-clause-shows c = read (ListingRow c.args.name) _ _ _ (retagged c.listing-tag.ensures.tag c.tag.ensures) (rw (← c.self.view_is) c.listing-tag.ensures.row)

pub returns-clause-there : goal.returns-clause-there
returns-clause-there c = rw (← c.self.view_is) c.listing-tag.ensures.row
