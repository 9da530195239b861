-- What is told as JSON of a node, a term, a user and a listing: an object, compact, its keys in the order of their bytes.
-- RFC 8259 (JSON).
use Rattle.std.specs.Prelude.{ℕ, List, ◌++◌, Option, Some, None, codes}
use Rattle.std.specs.Fmt.{decimal}
use denote.Ref.{Bor}
use Rattle.serde_json.specs.Data.{Data, array, object, string, no_members, member}
use Rattle.serde_json.specs.Written.{compact_text}
use Rattle.access_result.specs.declared.reason.Reason.{Reason}
use Rattle.access_result.specs.Reason.{reason_text}
use Rattle.content_rows.specs.declared.row.FieldValue.{FieldValue}
use Rattle.content_rows.specs.declared.row.Node.{Node}
use Rattle.content_rows.specs.declared.row.Term.{Term}
use Rattle.content_rows.specs.declared.row.User.{User}
use Rattle.row_kinds.specs.Look.{whole_data, text_data, option_data, items_data, texts_data}

-- a node, with those of its fields and of its terms that are shown
abbrev pub node_data : ℕ → Node → List FieldValue → List ℕ → Data
node_data n node fields terms = object
    (member (codes "created") (whole_data node.created)
    (member (codes "fields") (object (texts_data fields))
    (member (codes "nid") (whole_data n)
    (member (codes "path") (option_data text_data node.path)
    (member (codes "terms") (array (items_data whole_data terms))
    (member (codes "title") (text_data node.title)
    (member (codes "type") (text_data node.node_type)
    (member (codes "uid") (whole_data node.uid) no_members))))))))

abbrev pub term_data : ℕ → Term → Data
term_data t term = object
    (member (codes "description") (text_data term.description)
    (member (codes "name") (text_data term.name)
    (member (codes "tid") (whole_data t) no_members)))

abbrev pub user_data : ℕ → User → Data
user_data u user = object
    (member (codes "created") (whole_data user.created)
    (member (codes "name") (text_data user.name)
    (member (codes "uid") (whole_data u) no_members)))

-- where a node stands: its own path, else by its number
abbrev pub href_of : ℕ → Option (List ℕ) → List ℕ
href_of n None = codes "/node/" ++ decimal n
href_of n (Some path) = path

-- what a number and a reference to its node show
abbrev pub shown_node : ℕ × Bor Node → ℕ × Node
shown_node e = (e.0, e.1.now)

-- a node of a listing
abbrev pub listed_data : ℕ × Node → Data
listed_data e = object
    (member (codes "href") (text_data (href_of e.0 e.1.path))
    (member (codes "nid") (whole_data e.0)
    (member (codes "title") (text_data e.1.title) no_members)))

-- a page of a listing: its nodes, its number counted from 0, and how many pages there are
abbrev pub listing_data : List (ℕ × Node) → ℕ → ℕ → Data
listing_data nodes page pages = object
    (member (codes "nodes") (array (items_data listed_data nodes))
    (member (codes "page") (whole_data page)
    (member (codes "pages") (whole_data pages) no_members)))

-- why access is denied
abbrev pub denied_data : Reason → Data
denied_data reason = object
    (member (codes "code") (string (codes "denied"))
    (member (codes "reason") (text_data (reason_text reason)) no_members))

-- that nothing is there
abbrev pub no_target_data : Data
no_target_data = object (member (codes "code") (string (codes "no-target")) no_members)

unfoldable pub node_json : ℕ → Node → List FieldValue → List ℕ → List ℕ
node_json n node fields terms = compact_text (node_data n node fields terms)

unfoldable pub term_json : ℕ → Term → List ℕ
term_json t term = compact_text (term_data t term)

unfoldable pub user_json : ℕ → User → List ℕ
user_json u user = compact_text (user_data u user)

unfoldable pub listing_json : List (ℕ × Node) → ℕ → ℕ → List ℕ
listing_json nodes page pages = compact_text (listing_data nodes page pages)

unfoldable pub denied_json : Reason → List ℕ
denied_json reason = compact_text (denied_data reason)

unfoldable pub no_target_json : List ℕ
no_target_json = compact_text no_target_data
