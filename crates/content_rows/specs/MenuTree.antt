-- The links of a menu stand under one another: each names its parent, or stands at the top.
use Rattle.std.specs.Prelude.{ℕ, zero, suc, List, Bool, true, false, Option, find, is_some}
use Rattle.std.specs.Option.{option_map_or}
use Rattle.std.specs.Str.{bytes_eq}
use Rattle.content_rows.specs.declared.row.Link.{Link}

-- the link of a menu with this id
abbrev pub link_at : List Link → List ℕ → Option Link
link_at links id = find (λ l. bytes_eq l.id id) links

-- the link stands at the top, or its parent is there
abbrev pub has_its_parent : List Link → Link → Bool
has_its_parent links link = option_map_or (λ id. is_some (link_at links id)) link.parent true

-- the walk from a link to its parent and on comes to the top within so many links, the first counted
unfoldable pub reaches_top : ℕ → List Link → Link → Bool
reaches_top zero links link = false
reaches_top (suc more) links link =
    option_map_or (λ id. option_map_or (reaches_top more links) (link_at links id) false) link.parent true
