-- The rules that the keys of a row keep together.
use Rattle.std.specs.Prelude.{ℕ, List, [], ◌∷◌, length, map, Bool, true, false, not, ◌&&◌, Option, None, Some, is_some, if◌then◌else◌, option_map, codes}
use Rattle.std.specs.List.{list_all, list_any}
use Rattle.std.specs.Str.{bytes_eq}
use Rattle.content_rows.specs.MenuTree.{has_its_parent, reaches_top}
use Rattle.content_rows.specs.ValidRow.{is_clock, is_placed_text, has_name}
use Rattle.content_rows.specs.declared.row.Block.{Block}
use Rattle.content_rows.specs.declared.row.Link.{Link}
use Rattle.content_rows.specs.declared.row.Listing.{Listing}
use Rattle.content_rows.specs.declared.row.Menu.{Menu}
use Rattle.content_rows.specs.declared.row.NodeType.{NodeType}
use Rattle.content_rows.specs.declared.row.Row.{Row}
use Rattle.content_rows.specs.declared.row.Row.TheVariants as row
use Rattle.json_keys.specs.declared.rule.Rule.{Rule}
use Rattle.json_keys.specs.declared.rule.Rule.TheVariants as rule

abbrev pub differ : Bool → Bool → Bool
differ true b = not b
differ false b = b

-- whether each text is there once
abbrev pub are_distinct : List (List ℕ) → Bool
are_distinct [] = true
are_distinct (t ∷ ts) = not (list_any (bytes_eq t) ts) && are_distinct ts

abbrev pub type_fault : NodeType → Option (List ℕ × Rule)
type_fault r = if are_distinct (map (λ f. f.name) r.fields) then None else Some (codes "fields", rule.Twice)

abbrev pub links_fault : List Link → Option Rule
links_fault links =
    if not (are_distinct (map (λ l. l.id) links)) then Some rule.Twice
    else if not (list_all (has_its_parent links) links) then Some rule.Absent
    else if not (list_all (reaches_top (length links) links) links) then Some rule.Cycle
    else if not (list_all (reaches_top 9 links) links) then Some rule.Deep
    else None

abbrev pub menu_fault : Menu → Option (List ℕ × Rule)
menu_fault r = option_map (λ f. (codes "links", f)) (links_fault r.links)

abbrev pub listing_fault : Listing → Option (List ℕ × Rule)
listing_fault r = if differ (is_some r.age) (is_some r.recent) then Some (codes "age", rule.Pair) else None

abbrev pub block_fault : Block → Option (List ℕ × Rule)
block_fault r =
    if differ (is_some r.age) (is_clock r.kind) then Some (codes "age", rule.Pair)
    else if differ (is_some r.name) (has_name r.kind) then Some (codes "name", rule.Pair)
    else if differ (is_some r.text) (is_placed_text r.kind) then Some (codes "text", rule.Pair)
    else None

-- the first rule that the keys of a row break together, with the key that it is told of
abbrev pub whole_fault : Row → Option (List ℕ × Rule)
whole_fault (row.NodeType r) = type_fault r
whole_fault (row.Menu r) = menu_fault r
whole_fault (row.Listing r) = listing_fault r
whole_fault (row.Block r) = block_fault r
whole_fault _ = None
