-- What paths of JSON name. All below `/json/` is answered as JSON. `/json/node/<n>`, `/json/term/<t>` and `/json/user/<u>` name
-- the node, the term or the user of that number, in decimal without a leading zero, and `/json/listing/<name>` the listing of
-- that machine name; no other path below `/json/` names anything. RFC 8259 (JSON).
use Rattle.std.specs.Prelude.{ℕ, List, [], ◌∷◌, Bool, Option, Some, None, codes, drop, length, option_map, nat_eq, is_some, if◌then◌else◌}
use Rattle.std.specs.List.{starts_with}
use Rattle.cacheability.specs.declared.tag.Tag.{Tag}
use Rattle.cacheability.specs.declared.tag.Tag.TheVariants as tag
use Rattle.content_rows.specs.declared.cell.Cell.{Cell}
use Rattle.content_rows.specs.declared.row.Row.{Row}
use Rattle.content_rows.specs.IdText.{id_of}
use Rattle.content_rows.specs.LiteralName.{name_of}
use Rattle.content_state.specs.declared.entity.Entity.{Entity}
use Rattle.content_state.specs.declared.entity.Entity.TheVariants as entity
use Rattle.indexed_rows.specs.Rows.{node_of, term_of, user_of, listing_of}

-- the id that follows a front
abbrev pub id_after : List ℕ → List ℕ → Option ℕ
id_after front path = if starts_with nat_eq path front then id_of (drop (length front) path) else None

-- the machine name that follows a front
abbrev pub name_after : List ℕ → List ℕ → Option (List ℕ)
name_after front path = if starts_with nat_eq path front then name_of (drop (length front) path) else None

unfoldable pub json_front : List ℕ
json_front = codes "/json/"

unfoldable pub json_node_front : List ℕ
json_node_front = codes "/json/node/"

unfoldable pub json_term_front : List ℕ
json_term_front = codes "/json/term/"

unfoldable pub json_user_front : List ℕ
json_user_front = codes "/json/user/"

unfoldable pub json_listing_front : List ℕ
json_listing_front = codes "/json/listing/"

-- a path that is answered as JSON
abbrev pub is_json : List ℕ → Bool
is_json path = starts_with nat_eq path json_front

-- a path has one of the four forms at most
abbrev pub entity_by : Option ℕ → Option ℕ → Option ℕ → Option (List ℕ) → Option Entity
entity_by (Some n) t u list = Some (entity.Node n)
entity_by None (Some t) u list = Some (entity.Term t)
entity_by None None (Some u) list = Some (entity.User u)
entity_by None None None list = option_map entity.Listing list

-- what a path names by its form
abbrev pub entity_in : List ℕ → Option Entity
entity_in path =
    entity_by (id_after json_node_front path) (id_after json_term_front path) (id_after json_user_front path) (name_after json_listing_front path)

-- its row is there
abbrev pub is_entity_there : List (Cell × Row) → Entity → Bool
is_entity_there rows (entity.Node n) = is_some (node_of rows n)
is_entity_there rows (entity.Term t) = is_some (term_of rows t)
is_entity_there rows (entity.User u) = is_some (user_of rows u)
is_entity_there rows (entity.Listing name) = is_some (listing_of rows name)

-- the tag of its row
abbrev pub entity_tag : Entity → Tag
entity_tag (entity.Node n) = tag.Node n
entity_tag (entity.Term t) = tag.Term t
entity_tag (entity.User u) = tag.User u
entity_tag (entity.Listing name) = tag.Listing name

-- the tag of the row that a path of JSON names by its number, whether it is there or not
abbrev pub entity_tags : Option Entity → List Tag
entity_tags None = []
entity_tags (Some (entity.Listing name)) = []
entity_tags (Some it) = entity_tag it ∷ []
