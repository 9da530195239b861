use Rattle.std.proofs.Common.{◌≡◌}
use Rattle.std.specs.List.{find}
use Rattle.site_commands.specs.Sessions.{is_user_with, users_of}
use Rattle.edit_machine.proofs.sessions.first_user.Given as goal

-- the first of the rows that are left is the first of all
abbrev pub invariant-rows : goal.invariant-rows
invariant-rows l =
    find (λ e. is_user_with l.name l.pass e.1) (users_of l.cell-iterator)
    ≡ find (λ e. is_user_with l.name l.pass e.1) (users_of l.fn.state.rows)
