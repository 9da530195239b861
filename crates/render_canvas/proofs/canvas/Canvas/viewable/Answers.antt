use Rattle.std.proofs.Common.{[], ◌++◌, ◌≡◌, ◌∙◌, sym, ap, subst, arith}
use Rattle.std.specs.Prelude.{All}
use Rattle.std.specs.Option.{IsSome}
use Rattle.indexed_rows.specs.Rows.{node_of}
use Rattle.site_access.specs.Viewing.{viewable_of}
use Rattle.content_state.specs.Context.{Visit}
use Rattle.render_canvas.proofs.Taken.{nodes_noted}
use Rattle.render_canvas.proofs.canvas.Canvas.viewable.Goals as goal

pub note_viewable-requires-clause-there : goal.note_viewable-requires-clause-there
note_viewable-requires-clause-there c =
    subst (λ s. All (λ n. IsSome (node_of s.visit.rows n)) c.args.ids.now) (sym c.self.view_is) c.requires

pub returns-in-Ok : goal.returns-in-Ok
returns-in-Ok c =
    let rows = c.self.inside.state.now.rows in
    let viewer = c.self.inside.account.now.viewer in
    let v : Visit = record { rows = rows; viewer = viewer; ask = c.self.inside.ask.now; moment = c.self.inside.moment } in
    let found : c.note_viewable.new.found.items ≡ viewable_of rows viewer c.args.ids.now =
    c.in-Ok.ensures.answer ∙ ap (λ l. l ++ viewable_of rows viewer c.args.ids.now) c.new-found.ensures.items in
    rw (← c.self.view_is)
    (rw found
    (nodes_noted v c.self.inside.board c.self.inside.libraries.items c.self.inside.last c.self.inside.whole (grind arith) c.args.ids.now [] c.self.inside.cacheability _ c.in-Ok.ensures.depends))
