-- The rows that a new site begins with are right, and in the order of their cells.
use Rattle.std.proofs.Common.{List, [], ◌∷◌, None, refl, codes, lit≤, rules}
use Rattle.std.proofs.lemmas.List.Elements.{All-cons, All-nil}
use Rattle.std.specs.Option.{ForSome}
use Rattle.std.specs.Str.{is_utf8, chars}
use Rattle.std.specs.List.{IsDistinct, AllByRecursion}
use Rattle.std.specs.List.Sorted.{IsStrictlySortedBy}
use Rattle.content_rows.specs.declared.cell.Cell.{Cell}
use Rattle.content_rows.specs.declared.cell.Cell.TheVariants as cell
use Rattle.content_rows.specs.declared.row.Row.{Row}
use Rattle.content_rows.specs.Kinds.{IsId, IsAge, IsSpan}
use Rattle.content_rows.specs.ValidRow.{IsValidRow, IsValidField}
use Rattle.content_rows.specs.StarterRows.{starter_site, starter_seq, starter_page_type, starter_role, starter_admin, starter_node, starter_frontpage, starter_rows, AllValid, InCellOrder}

abbrev Placed : Cell × Row → Type 0
Placed placed = IsValidRow placed.0 placed.1

none_at : {X : Type 0} (P : X → Type 0) → ForSome None P
none_at P x e = search rules

all_placed : (rows : List (Cell × Row)) → AllByRecursion Placed rows → AllValid rows
all_placed [] h = All-nil Placed
all_placed (r ∷ rs) h = All-cons Placed r rs h.0 (all_placed rs h.1)

site_valid : IsValidRow cell.Site starter_site
unfolding is_utf8 chars lib.Utf8.encode
site_valid = record { front = refl; name = refl }

seq_valid : IsValidRow cell.Seq starter_seq
seq_valid = record { node = lit≤ tt; term = lit≤ tt; user = lit≤ tt }

page_type_valid : IsValidRow (cell.NodeType (codes "page")) starter_page_type
unfolding is_utf8 chars lib.Utf8.encode IsDistinct
page_type_valid = record {
  few_fields = lit≤ tt;
  fields = All-cons IsValidField _ [] (record { edit = refl; label = refl; view = refl }) (All-nil IsValidField);
  label = refl;
  once = (tt, tt);
}

anonymous_valid : IsValidRow (cell.Role (codes "anonymous")) (starter_role (codes "Anonymous"))
unfolding is_utf8 chars lib.Utf8.encode
anonymous_valid = record { few_grants = lit≤ tt; label = refl; few_permissions = lit≤ tt; permissions = refl }

authenticated_valid : IsValidRow (cell.Role (codes "authenticated")) (starter_role (codes "Member"))
unfolding is_utf8 chars lib.Utf8.encode
authenticated_valid = record { few_grants = lit≤ tt; label = refl; few_permissions = lit≤ tt; permissions = refl }

admin_valid : IsValidRow (cell.User 1) starter_admin
unfolding is_utf8 chars lib.Utf8.encode
admin_valid = (
  (lit≤ tt, lit≤ tt),
  record {
    created = lit≤ tt;
    digest = refl;
    few_grants = lit≤ tt;
    name = refl;
    few_roles = lit≤ tt;
    salt = refl;
    uuid = refl;
  },
)

node_valid : IsValidRow (cell.Node 1) starter_node
unfolding is_utf8 chars lib.Utf8.encode IsStrictlySortedBy
node_valid = (
  (lit≤ tt, lit≤ tt),
  record {
    changed = lit≤ tt;
    created = lit≤ tt;
    field_texts = refl;
    by_name = (tt, tt);
    few_grants = lit≤ tt;
    path = refl;
    few_refs = lit≤ tt;
    refs = All-nil IsId;
    few_terms = lit≤ tt;
    terms = All-nil IsId;
    title = refl;
    uid = lit≤ tt;
    uuid = refl;
    vid = lit≤ tt;
  },
)

frontpage_valid : IsValidRow (cell.Listing (codes "frontpage")) starter_frontpage
unfolding is_utf8 chars lib.Utf8.encode
frontpage_valid = record {
  age = none_at IsAge;
  path = refl;
  recent = none_at IsSpan;
  term = none_at IsId;
  title = refl;
  few_types = lit≤ tt;
  paired = refl;
}

pub in_cell_order : InCellOrder starter_rows
unfolding starter_rows IsStrictlySortedBy
in_cell_order = search rules

pub starter_valid : AllValid starter_rows
unfolding starter_rows
starter_valid =
    all_placed starter_rows
    (site_valid, (seq_valid, (page_type_valid, (anonymous_valid, (authenticated_valid, (admin_valid, (node_valid, (frontpage_valid, tt))))))))
