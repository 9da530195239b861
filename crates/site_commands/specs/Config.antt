-- Edits of what is configured by whole rows: roles, content types, blocks, menus, listings and the settings.
-- https://www.drupal.org/docs/drupal-apis/configuration-api/configuration-entity-overview
use Rattle.std.specs.Prelude.{ℕ, List, [], ◌∷◌, Option, Some, None, is_none, codes}
use Rattle.content_rows.specs.declared.cell.Cell.{Cell}
use Rattle.content_rows.specs.declared.cell.Cell.TheVariants as cell
use Rattle.content_rows.specs.declared.row.Row.{Row}
use Rattle.content_rows.specs.declared.row.Row.TheVariants as row
use Rattle.content_state.specs.State.{State}
use Rattle.indexed_rows.specs.Rows.{row_at, term_of}
use Rattle.content_state.specs.declared.ask.Viewer.{Viewer}
use Rattle.json_keys.specs.declared.checked.Checked.{Checked}
use Rattle.json_keys.specs.declared.rule.Rule.TheVariants as rule
use Rattle.valid_edits.specs.Fits.{is_locked_role}
use Rattle.valid_edits.specs.Holders.{is_used}
use Rattle.site_commands.specs.Causes.{Decision, decided, needs, breaks, of_body, of_target, set, removed, commit_of, accepted}
use Rattle.site_commands.specs.Nodes.{path_taken}
use Rattle.site_commands.specs.Users.{administer_permissions}
use Rattle.site_commands.specs.declared.answer.Done.TheVariants as done
use Rattle.site_commands.specs.declared.answer.Refusal.{Refusal}
use Rattle.site_commands.specs.declared.command.ConfigKind.{ConfigKind}
use Rattle.site_commands.specs.declared.command.ConfigKind.TheVariants as kind

unfoldable pub administer_types : List ℕ
administer_types = codes "administer content types"

unfoldable pub administer_blocks : List ℕ
administer_blocks = codes "administer blocks"

unfoldable pub administer_menu : List ℕ
administer_menu = codes "administer menu"

unfoldable pub administer_views : List ℕ
administer_views = codes "administer views"

unfoldable pub administer_site : List ℕ
administer_site = codes "administer site configuration"

-- the permission that a kind needs
abbrev pub permission_for : ConfigKind → List ℕ
permission_for kind.Role = administer_permissions
permission_for kind.NodeType = administer_types
permission_for kind.Block = administer_blocks
permission_for kind.Menu = administer_menu
permission_for kind.Listing = administer_views

-- the cell of a kind and a name
abbrev pub cell_for : ConfigKind → List ℕ → Cell
cell_for kind.Role name = cell.Role name
cell_for kind.NodeType name = cell.NodeType name
cell_for kind.Block name = cell.Block name
cell_for kind.Menu name = cell.Menu name
cell_for kind.Listing name = cell.Listing name

-- ---- set

-- a listing's term is there, where it names one
abbrev pub absent_term : List (Cell × Row) → Option ℕ → Option Refusal
absent_term rows None = None
absent_term rows (Some t) = breaks (codes "term") rule.Absent (is_none (term_of rows t))

-- of a listing, that its term is there and its path is its own; of the others nothing
abbrev pub row_refusals : List (Cell × Row) → Cell → Row → List (Option Refusal)
row_refusals rows c (row.Listing listing) = absent_term rows listing.term ∷ path_taken rows c listing.path ∷ []
row_refusals rows c _ = []

abbrev pub set_right : State → ℕ → Cell → Row → Decision
set_right state pass c r =
    decided (row_refusals state.rows c r) (accepted state (commit_of pass (set c r ∷ [])) done.Saved)

abbrev pub set_row : State → Viewer → List ℕ → Checked Row → ℕ → Cell → Decision
set_row state viewer permission body pass c =
    decided (needs state.rows viewer permission ∷ []) (of_body body (set_right state pass c))

-- to make or to replace a row
abbrev pub set_config : State → Viewer → ConfigKind → Option (List ℕ) → Checked Row → ℕ → Decision
set_config state viewer k name body pass =
    of_target name (λ n. set_row state viewer (permission_for k) body pass (cell_for k n))

-- to replace the settings
abbrev pub set_site : State → Viewer → Checked Row → ℕ → Decision
set_site state viewer body pass = set_row state viewer administer_site body pass cell.Site

-- ---- removed

-- the roles that every viewer or every user has stay, and so does a type that nodes have
abbrev pub remove_refusals : List (Cell × Row) → ConfigKind → List ℕ → List (Option Refusal)
remove_refusals rows kind.Role name = breaks (codes "cell") rule.Locked (is_locked_role name) ∷ []
remove_refusals rows kind.NodeType name = breaks (codes "cell") rule.Used (is_used rows name) ∷ []
remove_refusals rows _ name = []

abbrev pub remove_there : State → Viewer → ConfigKind → ℕ → List ℕ → Decision
remove_there state viewer k pass name =
    decided (needs state.rows viewer (permission_for k) ∷ remove_refusals state.rows k name)
    (accepted state (commit_of pass (removed (cell_for k name) ∷ [])) done.Saved)

-- to remove a row that is there
abbrev pub remove_config : State → Viewer → ConfigKind → Option (List ℕ) → ℕ → Decision
remove_config state viewer k name pass =
    of_target name (λ n. of_target (row_at state.rows (cell_for k n)) (λ r. remove_there state viewer k pass n))
