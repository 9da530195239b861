-- The rows of the site that is drawn: those of a new site, a session of its first user, eight users with a grant each, and
-- 199 nodes.
use Rattle.std.specs.Prelude.{ℕ, zero, suc, List, [], ◌∷◌, ◌++◌, ◌+◌, ◌==◌, true, false, not, None, codes, if◌then◌else◌}
use Rattle.std.specs.Fmt.{decimal}
use Rattle.content_rows.specs.StarterRows.{starter_rows}
use Rattle.content_rows.specs.declared.cell.Cell.{Cell}
use Rattle.content_rows.specs.declared.cell.Cell.TheVariants as cell
use Rattle.content_rows.specs.declared.row.GrantRow.{GrantRow}
use Rattle.content_rows.specs.declared.row.Row.{Row}
use Rattle.content_rows.specs.declared.row.Row.TheVariants as row
use Rattle.drill_input.specs.declared.site.Choices.{Choices}
use Rattle.drill_input.specs.Draws.{drawn, after}

-- a word, and then a number in decimal
abbrev pub numbered : List ℕ → ℕ → List ℕ
numbered word number = word ++ decimal number

-- a session of a user
abbrev pub session_row : ℕ → Row
session_row user = row.Session (record { expires = 4000000000; uid = user })

-- a user, who holds one grant of the realm `club`
abbrev pub user_row : ℕ → ℕ → Row
user_row user gid = row.User (record {
  created = 0;
  digest = None;
  grants = record { realm = codes "club"; gid = gid } ∷ [];
  name = numbered (codes "u") user;
  roles = [];
  salt = [];
  status = true;
  uuid = numbered (codes "u-") user;
})

-- what a node has by draw: the number of its body, whether it is published, promoted and sticky, and its owner
abbrev pub choices : ℕ → Choices
choices seed = record {
  body = drawn 1000 (after 1 seed);
  status = not (drawn 8 (after 2 seed) == 0);
  promote = drawn 2 (after 3 seed) == 0;
  sticky = drawn 16 (after 4 seed) == 0;
  uid = 2 + drawn 8 (after 5 seed);
}

-- one node in four has an access record, which lets the holders of a grant of the realm `club` view it
abbrev pub records_drawn : ℕ → List GrantRow
records_drawn seed =
    if drawn 4 (after 1 seed) == 0
    then record { delete = false; gid = drawn 3 (after 2 seed); realm = codes "club"; update = false; view = true } ∷ []
    else []

abbrev pub after_records : ℕ → ℕ
after_records seed = if drawn 4 (after 1 seed) == 0 then after 2 seed else after 1 seed

-- a node with these
abbrev pub node_row : ℕ → Choices → List GrantRow → Row
node_row node made records = row.Node (record {
  changed = 100 + node;
  created = 100 + node;
  fields = record { name = codes "body"; value = numbered (codes "b") made.body } ∷ [];
  grants = records;
  path = None;
  promote = made.promote;
  refs = [];
  status = made.status;
  sticky = made.sticky;
  terms = [];
  title = numbered (codes "n") node;
  node_type = codes "page";
  uid = made.uid;
  uuid = numbered (codes "n-") node;
  vid = 1;
})

-- the rows so far, each with its cell, and the member that the last draw used
pub record SiteDrawn : Type 0 where
  pub entries : List (Cell × Row)
  pub seed : ℕ

-- one user more, and a session of it
abbrev pub and_user : ℕ → SiteDrawn → SiteDrawn
and_user user so_far = record {
  entries = (so_far.entries ++ (cell.User user, user_row user (drawn 3 (after 1 so_far.seed))) ∷ []) ++ (cell.Session (numbered (codes "s") user), session_row user) ∷ [];
  seed = after 1 so_far.seed;
}

-- one node more
abbrev pub and_node : ℕ → SiteDrawn → SiteDrawn
and_node node so_far = record {
  entries = so_far.entries ++ (cell.Node node, node_row node (choices so_far.seed) (records_drawn (after 5 so_far.seed))) ∷ [];
  seed = after_records (after 5 so_far.seed);
}

-- so many users from 2 on, and so many nodes from 2 on
unfoldable pub and_users : ℕ → SiteDrawn → SiteDrawn
and_users zero start = start
and_users (suc count) start = and_user (count + 2) (and_users count start)

unfoldable pub and_nodes : ℕ → SiteDrawn → SiteDrawn
and_nodes zero start = start
and_nodes (suc count) start = and_node (count + 2) (and_nodes count start)

-- the rows of a new site, and a session `abc` of its first user
abbrev pub begun : ℕ → SiteDrawn
begun seed = record { entries = starter_rows ++ (cell.Session (codes "abc"), session_row 1) ∷ []; seed = seed }

-- the next ids to give, past those that are given
abbrev pub and_seq : SiteDrawn → SiteDrawn
and_seq so_far = record so_far { entries = so_far.entries ++ (cell.Seq, row.Seq (record { node = 201; term = 1; user = 10 })) ∷ [] }

-- all rows, in the order in which they are set: of a cell that stands twice the later one counts
abbrev pub site_drawn : ℕ → SiteDrawn
site_drawn seed = and_seq (and_nodes 199 (and_users 8 (begun seed)))
