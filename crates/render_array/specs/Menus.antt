-- What a menu shows, as plans of reads.
-- https://www.drupal.org/docs/user_guide/en/menu-concept.html
use Rattle.std.specs.Prelude.{ℕ, zero, suc, Bool, false, List, [], ◌∷◌, ◌++◌, nat_le, nat_lt, ◌-◌, Option, Some, None, slice_get, if◌then◌else◌}
use Rattle.std.specs.List.{list_any}
use Rattle.std.specs.Str.{bytes_eq}
use Rattle.cacheability.specs.declared.context.Context.TheVariants as context
use Rattle.content_rows.specs.declared.row.Menu.{Menu}
use Rattle.content_rows.specs.declared.row.Link.{Link}
use Rattle.content_state.specs.declared.route.Route.{Route}
use Rattle.content_state.specs.declared.route.Route.TheVariants as route
use Rattle.content_state.specs.declared.element.Library.TheVariants as library
use Rattle.content_state.specs.Read.{MenuRow, PathRoute}
use Rattle.content_state.specs.Plan.{Plan, Done, write, escaped, attach, reading, asking, folded, ◌>>=◌, ◌>>◌}
use Rattle.site_access.specs.Routes.{route_access}
use Rattle.site_lists.specs.declared.tree.MenuPlace.{MenuPlace}
use Rattle.site_lists.specs.MenuPlaces.{places_of}
use Rattle.render_canvas.specs.Decision.{is_allowed}
use Rattle.render_array.specs.Pieces as pieces

-- ---- which links are shown

-- whether the viewer may follow a link: its target is there and may be viewed
abbrev pub may_follow_to : Route → Plan Bool
may_follow_to route.Nothing = Done false
may_follow_to to = route_access to >>= λ access. Done (is_allowed access)

unfoldable pub may_follow : List ℕ → Plan Bool
may_follow path = reading (PathRoute path) >>= may_follow_to

abbrev pub may_follow_link : Option Link → Plan Bool
may_follow_link None = Done false
may_follow_link (Some link) = may_follow link.path

-- Of the links in preorder, those that were found to be shown so far, and how deep a further one may stand: a link stands
-- one level deeper at most than the last that was shown, and below a hidden one none is.
pub record Shown : Type 0 where
  pub places : List MenuPlace
  pub deepest : ℕ

abbrev pub none_shown : Shown
none_shown = record { places = []; deepest = 1 }

-- a link that is shown opens the level below it; one that is hidden closes it
abbrev pub with_place : Shown → MenuPlace → Bool → Shown
with_place found place follows =
    if follows then record { places = found.places ++ place ∷ []; deepest = suc place.depth }
    else record { places = found.places; deepest = place.depth }

-- with one more link, where its parent is shown and the viewer may follow it
unfoldable pub with_shown : List Link → Shown → MenuPlace → Plan Shown
with_shown links found place =
    if nat_le place.depth found.deepest
    then (may_follow_link (slice_get links place.link) >>= λ follows. Done (with_place found place follows))
    else Done found

-- ---- how they are written

-- a link, marked where it is in the active trail
unfoldable pub link_shown : Bool → Link → Plan (Unit {0})
link_shown active link = do
  write (if active then pieces.active_item_start else pieces.item_start)
  write pieces.link_start
  escaped link.path
  write pieces.link_between
  escaped link.title
  write pieces.link_end

abbrev pub link_at : List (List ℕ) → Option Link → Plan (Unit {0})
link_at trail None = Done tt
link_at trail (Some link) = link_shown (list_any (bytes_eq link.id) trail) link

-- the end of so many lists below links, and of those links
abbrev pub lists_end : ℕ → Plan (Unit {0})
lists_end zero = Done tt
lists_end (suc levels) = write pieces.submenu_end >> lists_end levels

-- Behind a link at a depth, before one at the next depth: where that one stands below it, its list begins; else the link
-- ends, and the lists and links that it stood in down to that depth.
unfoldable pub link_closed : ℕ → ℕ → Plan (Unit {0})
link_closed depth next =
    if nat_lt depth next then write pieces.submenu_start
    else (write pieces.item_end >> lists_end (depth - next))

abbrev pub depth_after : List MenuPlace → ℕ
depth_after [] = 1
depth_after (place ∷ places) = place.depth

unfoldable pub links_shown : List (List ℕ) → List Link → List MenuPlace → Plan (Unit {0})
links_shown trail links [] = Done tt
links_shown trail links (place ∷ places) =
    link_at trail (slice_get links place.link)
    >> (link_closed place.depth (depth_after places) >> links_shown trail links places)

-- the links of a menu: those that the viewer may follow, and whose parents are shown
unfoldable pub menu_view : List ℕ → Menu → Plan (Unit {0})
menu_view name menu = do
  attach library.Menu
  trail ← asking (context.MenuTrail name)
  found ← folded (with_shown menu.links) none_shown (places_of menu.links)
  write pieces.menu_start
  links_shown trail menu.links found.places
  write pieces.menu_end

abbrev pub menu_or_nothing : List ℕ → Option Menu → Plan (Unit {0})
menu_or_nothing name None = Done tt
menu_or_nothing name (Some menu) = menu_view name menu

unfoldable pub menu_shown : List ℕ → Plan (Unit {0})
menu_shown name = reading (MenuRow name) >>= menu_or_nothing name
