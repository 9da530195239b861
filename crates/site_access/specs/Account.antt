-- A viewer with what it is permitted and granted.
use Rattle.std.specs.Prelude.{List, ◌≡◌}
use Rattle.content_rows.specs.declared.cell.Cell.{Cell}
use Rattle.content_rows.specs.declared.row.Row.{Row}
use Rattle.content_state.specs.declared.ask.Viewer.{Viewer}
use Rattle.content_state.specs.Viewer.{viewer_permissions, view_grants_of, may, bypass_node_access, access_content}
use Rattle.site_access.specs.declared.account.Account.{Account}

-- the account is the viewer's: it has what the rows permit and grant to it
pub record IsAccountOf (rows : List (Cell × Row)) (viewer : Viewer) (account : Account) : Type 0 where
  pub viewer_is : account.viewer ≡ viewer
  pub permissions_are : account.permissions ≡ viewer_permissions rows viewer
  pub bypasses_is : account.bypasses ≡ may rows viewer bypass_node_access
  pub accesses_is : account.accesses ≡ may rows viewer access_content
  pub grants_are : account.grants ≡ view_grants_of rows viewer

-- what holds on all rows that the account is of
abbrev pub OnRows : Account → (List (Cell × Row) → Type 0) → Type 0
OnRows account P = (rows : List (Cell × Row)) → IsAccountOf rows account.viewer account → P rows
