use Rattle.std.proofs.Common.{◌≡◌, ap, sym, subst, arith}
use Rattle.std.specs.Prelude.{Some}
use Rattle.std.specs.Option.{IsSome}
use Rattle.cacheability.specs.Cacheability.{merged}
use Rattle.indexed_rows.specs.Rows.{node_of}
use Rattle.site_access.specs.Access.{type_in, node_type_of, field_of, owner_in, access_to_found_field}
use Rattle.site_access.specs.Depends.{found_field_depends}
use Rattle.site_access.specs.Noting.{decision_of}
use Rattle.site_access.specs.Plans.{field_access}
use Rattle.site_access.proofs.PlansDecide.{field_read}
use Rattle.render_canvas.proofs.Fields.{field_there}
use Rattle.content_state.specs.Context.{Visit}
use Rattle.render_canvas.proofs.Taken.{noted}
use Rattle.render_canvas.proofs.canvas.Canvas.field_access.Goals as goal

pub note_field-requires-clause-has_field : goal.note_field-requires-clause-has_field
note_field-requires-clause-has_field c =
    subst (λ s. IsSome (field_of s.visit.rows (node_type_of s.visit.rows c.args.n) c.args.field.now)) (sym c.self.view_is)
    (field_there c.args.self.now.visit.rows c.args.n c.args.node.now c.args.field.now c.requires.node_is c.requires.has_field)

pub returns-in-Ok : goal.returns-in-Ok
returns-in-Ok c =
    let rows = c.self.inside.state.now.rows in
    let viewer = c.self.inside.account.now.viewer in
    let op = c.args.op in
    let n = c.args.n in
    let type = c.args.node.now.node_type in
    let name = c.args.field.now in
    let v : Visit = record { rows = rows; viewer = viewer; ask = c.self.inside.ask.now; moment = c.self.inside.moment } in
    let there : node_of rows n ≡ Some c.args.node.now =
    subst (λ s. node_of s.visit.rows n ≡ Some c.args.node.now) (sym c.self.view_is) c.requires.node_is in
    let answer : decision_of c.in-Ok.decision ≡ access_to_found_field rows viewer op (owner_in (node_of rows n)) name (field_of rows type name) =
    subst (λ t. decision_of c.in-Ok.decision ≡ access_to_found_field rows viewer op (owner_in (node_of rows n)) name (field_of rows t name)) (ap type_in there) c.in-Ok.ensures.answer in
    let depends : c.note_field.new.noted ≡ merged c.self.inside.cacheability (found_field_depends op n type (field_of rows type name)) =
    subst (λ t. c.note_field.new.noted ≡ merged c.self.inside.cacheability (found_field_depends op n t (field_of rows t name))) (ap type_in there) c.in-Ok.ensures.depends in
    rw (← c.self.view_is)
    (noted v c.self.inside.board c.self.inside.libraries.items c.self.inside.last c.self.inside.whole (grind arith) (field_access op n type name) c.self.inside.cacheability _
    (found_field_depends op n type (field_of rows type name)) _ _ (field_read op n type name v) answer depends)
