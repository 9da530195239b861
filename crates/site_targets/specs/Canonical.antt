-- The canonical targets of a site: each page of HTML that it has stands under one of these, and a node or a listing that has a path
-- stands under it.
-- https://api.drupal.org/api/drupal/core!modules!path_alias!src!AliasManager.php/class/AliasManager/10
use Rattle.std.specs.Prelude.{ℕ, List, [], ◌∷◌, ◌++◌, Option, Some, None, decimal}
use Rattle.std.specs.List.{filter_map}
use Rattle.content_rows.specs.declared.cell.Cell.{Cell}
use Rattle.content_rows.specs.declared.cell.Cell.TheVariants as cell
use Rattle.content_rows.specs.declared.row.Row.{Row}
use Rattle.content_rows.specs.declared.row.Row.TheVariants as row
use Rattle.content_state.specs.Route.{root_path, node_front, term_front, user_front, login_path}

-- a user's profile: `/user/<u>`
abbrev pub user_target : Cell × Row → Option (List ℕ)
user_target (cell.User u, row.User user) = Some (user_front ++ decimal u)
user_target _ = None

-- a term's page: `/taxonomy/term/<t>`
abbrev pub term_target : Cell × Row → Option (List ℕ)
term_target (cell.Term t, row.Term term) = Some (term_front ++ decimal t)
term_target _ = None

-- a node's page: its path, or `/node/<n>` where it has none
abbrev pub path_or_number : ℕ → Option (List ℕ) → List ℕ
path_or_number n None = node_front ++ decimal n
path_or_number n (Some path) = path

abbrev pub node_target : Cell × Row → Option (List ℕ)
node_target (cell.Node n, row.Node node) = Some (path_or_number n node.path)
node_target _ = None

-- a listing's page: its path, where it has one
abbrev pub listing_target : Cell × Row → Option (List ℕ)
listing_target (cell.Listing name, row.Listing listing) = listing.path
listing_target _ = None

-- the target of the page of a cell's row, of whatever kind
abbrev pub row_target : Cell × Row → Option (List ℕ)
row_target (cell.User u, row.User user) = Some (user_front ++ decimal u)
row_target (cell.Term t, row.Term term) = Some (term_front ++ decimal t)
row_target (cell.Node n, row.Node node) = Some (path_or_number n node.path)
row_target (cell.Listing name, row.Listing listing) = listing.path
row_target _ = None

-- `/`, the users, the terms, the nodes, the listings, each kind in the order of its cells, and the login form
abbrev pub canonical : List (Cell × Row) → List (List ℕ)
canonical rows =
    root_path
    ∷ (filter_map user_target rows
    ++ (filter_map term_target rows
    ++ (filter_map node_target rows
    ++ (filter_map listing_target rows
    ++ login_path ∷ []))))
