-- Which edit a method and a path name. Methods are exact, in their case too (RFC 9110, section 9.1).
use Rattle.std.specs.Prelude.{ℕ, List, [], ◌∷◌, Option, Some, None, Bool, ◌&&◌, not, nat_eq, nat_le, length, ◌-◌, take, drop, codes, if◌then◌else◌}
use Rattle.std.specs.List.{list_any, starts_with}
use Rattle.std.specs.Option.{option_map, option_or}
use Rattle.std.specs.Str.{bytes_eq, is_utf8}
use Rattle.content_rows.specs.IdText.{id_of}
use Rattle.content_rows.specs.Kinds.{is_slash}
use Rattle.content_rows.specs.LiteralName.{name_of}
use Rattle.site_commands.specs.declared.command.ConfigKind.TheVariants as kind
use Rattle.edit_paths.specs.declared.edit.Edit.{Edit}
use Rattle.edit_paths.specs.declared.edit.Edit.TheVariants as edit

-- a segment of a path is not empty and has no slash
abbrev pub is_segment : List ℕ → Bool
is_segment text = nat_le 1 (length text) && not (list_any is_slash text)

-- the segment that follows a front and ends the path
abbrev pub segment_after : List ℕ → List ℕ → Option (List ℕ)
segment_after front path =
    let rest = drop (length front) path in
    if starts_with nat_eq path front && is_segment rest then Some rest else None

-- the segment that stands between a front and an end
abbrev pub segment_between : List ℕ → List ℕ → List ℕ → Option (List ℕ)
segment_between front end path =
    let cut = length path - length end in
    if bytes_eq (drop cut path) end then segment_after front (take cut path) else None

-- ---- forms of paths, each with its edit

-- just this path
abbrev pub fixed : List ℕ → Edit → List ℕ → Option Edit
fixed text named path = if bytes_eq path text then Some named else None

-- this front and a segment, for what has the id that the segment writes, if it writes one
abbrev pub by_id : List ℕ → (Option ℕ → Edit) → List ℕ → Option Edit
by_id front make path = option_map make (option_map id_of (segment_after front path))

-- this front, a segment and this end, for what has the id that the segment writes, if it writes one
abbrev pub by_id_then : List ℕ → List ℕ → (Option ℕ → Edit) → List ℕ → Option Edit
by_id_then front end make path = option_map make (option_map id_of (segment_between front end path))

-- this front and a segment, for what has the name that the segment is, if it is one
abbrev pub by_name : List ℕ → (Option (List ℕ) → Edit) → List ℕ → Option Edit
by_name front make path = option_map make (option_map name_of (segment_after front path))

-- ---- the table

-- POST
unfoldable pub posts : List (List ℕ → Option Edit)
posts =
    fixed (codes "/node") edit.CreateNode
    ∷ fixed (codes "/taxonomy/term") edit.CreateTerm
    ∷ fixed (codes "/user") edit.CreateUser
    ∷ by_name (codes "/config/role/") (edit.Set kind.Role)
    ∷ by_name (codes "/config/type/") (edit.Set kind.NodeType)
    ∷ by_name (codes "/config/block/") (edit.Set kind.Block)
    ∷ by_name (codes "/config/menu/") (edit.Set kind.Menu)
    ∷ by_name (codes "/config/listing/") (edit.Set kind.Listing)
    ∷ fixed (codes "/config/site") edit.SetSite
    ∷ fixed (codes "/user/login") edit.Login
    ∷ fixed (codes "/user/logout") edit.Logout
    ∷ fixed (codes "/cache/rebuild") edit.Rebuild
    ∷ by_id_then (codes "/node/") (codes "/comment") edit.CreateComment
    ∷ []

-- PATCH
unfoldable pub patches : List (List ℕ → Option Edit)
patches =
    by_id (codes "/node/") edit.ChangeNode
    ∷ by_id (codes "/taxonomy/term/") edit.ChangeTerm
    ∷ by_id (codes "/user/") edit.ChangeUser
    ∷ by_id (codes "/comment/") edit.ChangeComment
    ∷ []

-- DELETE
unfoldable pub deletes : List (List ℕ → Option Edit)
deletes =
    by_id (codes "/node/") edit.RemoveNode
    ∷ by_id (codes "/taxonomy/term/") edit.RemoveTerm
    ∷ by_name (codes "/config/role/") (edit.Remove kind.Role)
    ∷ by_name (codes "/config/type/") (edit.Remove kind.NodeType)
    ∷ by_name (codes "/config/block/") (edit.Remove kind.Block)
    ∷ by_name (codes "/config/menu/") (edit.Remove kind.Menu)
    ∷ by_name (codes "/config/listing/") (edit.Remove kind.Listing)
    ∷ by_id (codes "/comment/") edit.RemoveComment
    ∷ []

-- the edit of the first of these forms that a path has; no path has two forms of one method
abbrev pub first_edit : List (List ℕ → Option Edit) → List ℕ → Option Edit
first_edit [] path = None
first_edit (form ∷ forms) path = option_or (form path) (first_edit forms path)

-- the forms of a method's paths
abbrev pub forms_of : List ℕ → List (List ℕ → Option Edit)
forms_of method =
    if bytes_eq method (codes "POST") then posts
    else if bytes_eq method (codes "PATCH") then patches
    else if bytes_eq method (codes "DELETE") then deletes
    else []

-- the edit that a method and a path name: the path is UTF-8 and has one of the method's forms
abbrev pub paired : List ℕ → List ℕ → Option Edit
paired method path = if is_utf8 path then first_edit (forms_of method) path else None
