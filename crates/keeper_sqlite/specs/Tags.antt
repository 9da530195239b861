-- The tags that texts name.
use Rattle.std.specs.Prelude.{ℕ, List, length, drop, Option, None, Some, option_map, if◌then◌else◌, codes, nat_eq, IsTrue, ◌≡◌, ◌<◌, ◌^◌}
use Rattle.std.specs.List.{starts_with}
use Rattle.std.specs.Str.{bytes_eq}
use Rattle.cacheability.specs.Tag.{tag_text}
use Rattle.cacheability.specs.declared.tag.Tag.{Tag}
use Rattle.cacheability.specs.declared.tag.Tag.TheVariants as tag
use Rattle.content_rows.specs.IdText.{id_of}
use Rattle.content_rows.specs.LiteralName.{is_name}
use Rattle.json_keys.specs.Fault.{or_else}
use Rattle.row_json.specs.Cells.{name_after}

-- the number below 2 ^ 32 that a text is in decimal: an id, or one of the two that are no ids
abbrev pub number_of : List ℕ → Option ℕ
number_of t =
    or_else (id_of t)
    (if bytes_eq t (codes "0") then Some 0 else if bytes_eq t (codes "4294967295") then Some 4294967295 else None)

-- the number that follows a front
abbrev pub number_after : List ℕ → List ℕ → Option ℕ
number_after front t = if starts_with nat_eq t front then number_of (drop (length front) t) else None

abbrev pub word_tag : List ℕ → Option Tag
word_tag t =
    if bytes_eq t (codes "config:system.site") then Some tag.Site
    else if bytes_eq t (codes "taxonomy_term_list") then Some tag.TermList
    else if bytes_eq t (codes "node_list") then Some tag.NodeList
    else if bytes_eq t (codes "config:block_list") then Some tag.BlockList
    else if bytes_eq t (codes "rendered") then Some tag.Rendered
    else if bytes_eq t (codes "4xx-response") then Some tag.NotFound
    else None

abbrev pub named_tag : List ℕ → Option Tag
named_tag t = or_else (option_map tag.NodeType (name_after (codes "config:node.type.") t))
    (or_else (option_map tag.Role (name_after (codes "config:user.role.") t)) (option_map tag.NodeListOf (name_after (codes "node_list:") t)))

abbrev pub placed_tag : List ℕ → Option Tag
placed_tag t = or_else (option_map tag.Menu (name_after (codes "config:system.menu.") t))
    (or_else (option_map tag.Listing (name_after (codes "config:views.view.") t)) (option_map tag.Block (name_after (codes "config:block.block.") t)))

abbrev pub numbered_tag : List ℕ → Option Tag
numbered_tag t = or_else (option_map tag.User (number_after (codes "user:") t))
    (or_else (option_map tag.Term (number_after (codes "taxonomy_term:") t)) (option_map tag.Node (number_after (codes "node:") t)))

abbrev pub comment_tag : List ℕ → Option Tag
comment_tag t =
    or_else (option_map tag.Comment (number_after (codes "comment:") t)) (option_map tag.CommentList (number_after (codes "comment_list:") t))

-- the tag that a text names
abbrev pub tag_of : List ℕ → Option Tag
tag_of t = or_else (word_tag t) (or_else (named_tag t) (or_else (placed_tag t) (or_else (numbered_tag t) (comment_tag t))))

-- what the type of a tag says: its name is one, or its number is below 2 ^ 32
abbrev pub IsTypedTag : Tag → Type 0
IsTypedTag (tag.NodeType name) = IsTrue (is_name name)
IsTypedTag (tag.Role name) = IsTrue (is_name name)
IsTypedTag (tag.NodeListOf name) = IsTrue (is_name name)
IsTypedTag (tag.Menu name) = IsTrue (is_name name)
IsTypedTag (tag.Listing name) = IsTrue (is_name name)
IsTypedTag (tag.Block name) = IsTrue (is_name name)
IsTypedTag (tag.User n) = n < 2 ^ 32
IsTypedTag (tag.Term n) = n < 2 ^ 32
IsTypedTag (tag.Node n) = n < 2 ^ 32
IsTypedTag (tag.Comment n) = n < 2 ^ 32
IsTypedTag (tag.CommentList n) = n < 2 ^ 32
IsTypedTag _ = Unit {0}

-- each tag is read of its text
abbrev pub TagsAreReadBack : Type 0
TagsAreReadBack = (t : Tag) → IsTypedTag t → tag_of (tag_text t) ≡ Some t
