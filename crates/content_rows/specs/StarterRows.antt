-- The rows that a new site begins with, in the order of their cells.
use Rattle.std.specs.Prelude.{ℕ, List, [], ◌∷◌, true, false, Some, None, codes, All, map}
use Rattle.std.specs.List.Sorted.{IsStrictlySortedBy}
use Rattle.content_rows.specs.CellOrder.{cell_cmp}
use Rattle.content_rows.specs.ValidRow.{IsValidRow}
use Rattle.content_rows.specs.declared.cell.Cell.{Cell}
use Rattle.content_rows.specs.declared.cell.Cell.TheVariants as cell
use Rattle.content_rows.specs.declared.row.Row.{Row}
use Rattle.content_rows.specs.declared.row.Row.TheVariants as row

-- `/` shows the front page listing
abbrev pub starter_site : Row
starter_site = row.Site (record { front = codes "/node"; name = codes "Site" })

-- one node and one user are there, and no term
abbrev pub starter_seq : Row
starter_seq = row.Seq (record { node = 2; term = 1; user = 2 })

-- a content type with a body that everybody may see and edit
abbrev pub starter_page_type : Row
starter_page_type = row.NodeType (record {
  fields = record { edit = None; label = codes "Body"; name = codes "body"; owner = false; teaser = true; view = None } ∷ [];
  label = codes "Page";
  submitted = false;
})

-- a role, called so, whose holders may view published content
abbrev pub starter_role : List ℕ → Row
starter_role label = row.Role (record {
  admin = false;
  grants = [];
  label = label;
  permissions = codes "access content" ∷ [];
})

-- the first user, who has every permission and no password yet
abbrev pub starter_admin : Row
starter_admin = row.User (record {
  created = 0;
  digest = None;
  grants = [];
  name = codes "admin";
  roles = [];
  salt = [];
  status = true;
  uuid = codes "u-1";
})

-- the first node, by the first user
abbrev pub starter_node : Row
starter_node = row.Node (record {
  changed = 100;
  created = 100;
  fields = record { name = codes "body"; value = codes "Hello" } ∷ [];
  grants = [];
  path = None;
  promote = true;
  refs = [];
  status = true;
  sticky = false;
  terms = [];
  title = codes "First";
  node_type = codes "page";
  uid = 1;
  uuid = codes "n-1";
  vid = 1;
})

-- promoted content of every type and age
abbrev pub starter_frontpage : Row
starter_frontpage = row.Listing (record {
  age = None;
  path = Some (codes "/node");
  promoted = true;
  recent = None;
  term = None;
  title = codes "Home";
  types = [];
})

unfoldable pub starter_rows : List (Cell × Row)
starter_rows =
    (cell.Site, starter_site)
    ∷ (cell.Seq, starter_seq)
    ∷ (cell.NodeType (codes "page"), starter_page_type)
    ∷ (cell.Role (codes "anonymous"), starter_role (codes "Anonymous"))
    ∷ (cell.Role (codes "authenticated"), starter_role (codes "Member"))
    ∷ (cell.User 1, starter_admin)
    ∷ (cell.Node 1, starter_node)
    ∷ (cell.Listing (codes "frontpage"), starter_frontpage)
    ∷ []

-- each row is right for its cell
abbrev pub AllValid : List (Cell × Row) → Type 0
AllValid rows = All (λ placed. IsValidRow placed.0 placed.1) rows

-- each row's cell comes after those of the rows before it
abbrev pub InCellOrder : List (Cell × Row) → Type 0
InCellOrder rows = IsStrictlySortedBy cell_cmp (map (λ placed. placed.0) rows)
