-- Edits of what is configured by whole rows keep a state valid.
use Rattle.std.proofs.Common.{ℕ, List, [], ◌∷◌}
use Rattle.std.specs.Prelude.{Option, Some, None}
use Rattle.content_rows.specs.ValidRow.{IsValidRow}
use Rattle.content_rows.specs.declared.cell.Cell.{Cell}
use Rattle.content_rows.specs.declared.cell.Cell.TheVariants as cell
use Rattle.content_rows.specs.declared.row.Row.{Row}
use Rattle.content_rows.specs.declared.row.Row.TheVariants as row
use Rattle.content_state.specs.State.{State}
use Rattle.indexed_rows.specs.Rows.{row_at}
use Rattle.content_state.specs.SiteRules.{IsValidState}
use Rattle.content_state.specs.declared.ask.Viewer.{Viewer}
use Rattle.json_keys.specs.declared.checked.Checked.{Checked}
use Rattle.valid_edits.specs.Holders.{path_holder, is_used}
use Rattle.valid_edits.specs.Fits.{is_locked_role, Fits, MayGoTogether}
use Rattle.valid_edits.proofs.Rows.{no_map}
use Rattle.valid_edits.proofs.Going.{role_may_go, type_may_go, block_may_go, menu_may_go, listing_may_go}
use Rattle.site_commands.specs.Causes.{needs, of_body, of_target, set, removed, commit_of, accepted}
use Rattle.site_commands.specs.Config.{administer_site, permission_for, cell_for, row_refusals, set_right, set_row, set_config, set_site, remove_refusals, remove_there, remove_config}
use Rattle.site_commands.specs.Right.{OfBody, IsConfigRow}
use Rattle.site_commands.specs.declared.answer.Done.TheVariants as done
use Rattle.site_commands.specs.declared.answer.Refusal.TheVariants as refusal
use Rattle.site_commands.specs.declared.command.ConfigKind.{ConfigKind}
use Rattle.site_commands.specs.declared.command.ConfigKind.TheVariants as kind
use Rattle.edit_laws.proofs.Accepting.{AllNone, OnlyKeeps, refused, after_causes, after_body, after_target, writing}
use Rattle.edit_laws.proofs.Parts.{untrue, one_cell}

module _ (state : State) (valid : IsValidState state) (viewer : Viewer) (pass : ℕ) where
  -- ---- a row that is set

  -- of a listing its path is free, and of the others nothing has to be
  config_fits : (k : ConfigKind) (name : List ℕ) (r : Row) → IsValidRow (cell_for k name) r → AllNone (row_refusals state.rows (cell_for k name) r) → Fits state.rows (cell_for k name) r
  config_fits kind.Role name (row.Role r) right none = tt
  config_fits kind.NodeType name (row.NodeType r) right none = tt
  config_fits kind.Block name (row.Block r) right none = tt
  config_fits kind.Menu name (row.Menu r) right none = tt
  config_fits kind.Listing name (row.Listing r) right none = no_map refusal.PathTaken (path_holder state.rows (cell.Listing name) r.path) none.1.0
  config_fits _ name _ right none = absurd right

  site_fits : (r : Row) → IsValidRow cell.Site r → Fits state.rows cell.Site r
  site_fits (row.Site r) right = tt
  site_fits _ right = absurd right

  row_set : (permission : List ℕ) (c : Cell) (body : Checked Row) → OfBody (IsValidRow c) body
      → ((r : Row) → IsValidRow c r → AllNone (row_refusals state.rows c r) → Fits state.rows c r) → OnlyKeeps state pass (set_row state viewer permission body pass c)
  row_set permission c body right fits =
      after_causes state pass (needs state.rows viewer permission ∷ []) (of_body body (set_right state pass c)) (λ allowed.
      after_body state pass (IsValidRow c) body (set_right state pass c) right (λ r row_right.
      let writes = set c r ∷ [] in
      after_causes state pass (row_refusals state.rows c r) (accepted state (commit_of pass writes) done.Saved) (λ none.
      writing state pass valid writes done.Saved (one_cell c) ((row_right, fits r row_right none), tt))))

  pub set_config_keeps : (k : ConfigKind) (name : Option (List ℕ)) (body : Checked Row) → OfBody (IsConfigRow k name) body → OnlyKeeps state pass (set_config state viewer k name body pass)
  set_config_keeps k None body right = refused state pass refusal.NoTarget
  set_config_keeps k (Some name) body right = row_set (permission_for k) (cell_for k name) body right (config_fits k name)

  pub set_site_keeps : (body : Checked Row) → OfBody (IsValidRow cell.Site) body → OnlyKeeps state pass (set_site state viewer body pass)
  set_site_keeps body right = row_set administer_site cell.Site body right (λ r row_right none. site_fits r row_right)

  -- ---- a row that goes

  may_go : (k : ConfigKind) (name : List ℕ) → AllNone (remove_refusals state.rows k name) → MayGoTogether state.rows (cell_for k name ∷ [])
  may_go kind.Role name none = role_may_go state valid name (untrue (is_locked_role name) _ none.0)
  may_go kind.NodeType name none = type_may_go state valid name (untrue (is_used state.rows name) _ none.0)
  may_go kind.Block name none = block_may_go state valid name
  may_go kind.Menu name none = menu_may_go state valid name
  may_go kind.Listing name none = listing_may_go state valid name

  pub remove_config_keeps : (k : ConfigKind) (name : Option (List ℕ)) → OnlyKeeps state pass (remove_config state viewer k name pass)
  remove_config_keeps k name =
      after_target state pass name (λ n. of_target (row_at state.rows (cell_for k n)) (λ r. remove_there state viewer k pass n)) (λ n named.
      after_target state pass (row_at state.rows (cell_for k n)) (λ r. remove_there state viewer k pass n) (λ r is.
      let writes = removed (cell_for k n) ∷ [] in
      after_causes state pass (needs state.rows viewer (permission_for k) ∷ remove_refusals state.rows k n) (accepted state (commit_of pass writes) done.Saved) (λ none.
      writing state pass valid writes done.Saved (one_cell (cell_for k n)) (may_go k n none.1, tt))))
