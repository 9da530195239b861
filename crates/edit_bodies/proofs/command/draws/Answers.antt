use Rattle.std.proofs.Common.{refl, ap, ◌∙◌, codes}
use Rattle.sent_objects.specs.Object.{object_in as told}
use Rattle.edit_bodies.specs.Bodies.{sent_of}
use Rattle.edit_bodies.specs.Commands.{draws}
use Rattle.edit_bodies.specs.Keys.{has}
use Rattle.edit_bodies.proofs.SameCommands.{has_same}
use Rattle.edit_bodies.proofs.command.draws.Goals as goal

pub returns-in-CreateUser-Object : goal.returns-in-CreateUser-Object
unfolding sent_of draws
returns-in-CreateUser-Object c =
    let found = c.in-CreateUser-Object in
    rw (found.is-0, found.is-1) (c.has.ensures ∙ ap (has (codes "pass")) c.brief.ensures.value ∙ has_same (codes "pass") (told found.object) refl)

pub returns-in-ChangeUser-Object : goal.returns-in-ChangeUser-Object
unfolding sent_of draws
returns-in-ChangeUser-Object c =
    let found = c.in-ChangeUser-Object in
    rw (found.is-0, found.is-1) (c.has-in-ChangeUser-Object.ensures ∙ ap (has (codes "pass")) c.brief-in-ChangeUser-Object.ensures.value ∙ has_same (codes "pass") (told found.object) refl)
