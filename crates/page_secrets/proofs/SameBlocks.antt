-- What blocks and menus show is the same on alike visits.
use Rattle.std.proofs.Common.{ℕ, zero, suc, List, [], ◌∷◌, ◌-◌, true, false}
use Rattle.std.specs.Prelude.{Bool, ◌==◌, ◌&&◌, nat_le, nat_lt, length, slice_get, unwrap_or, Option, Some, None}
use Rattle.std.specs.List.{list_any}
use Rattle.std.specs.Str.{bytes_eq}
use Rattle.cacheability.specs.declared.context.Context.TheVariants as context
use Rattle.content_rows.specs.declared.row.Block.{Block}
use Rattle.content_rows.specs.declared.row.BlockKind.{BlockKind}
use Rattle.content_rows.specs.declared.row.BlockKind.TheVariants as kind
use Rattle.content_rows.specs.declared.row.Link.{Link}
use Rattle.content_rows.specs.declared.row.Listing.{Listing}
use Rattle.content_rows.specs.declared.row.Menu.{Menu}
use Rattle.content_rows.specs.declared.row.Region.{Region}
use Rattle.content_rows.specs.declared.row.User.{User}
use Rattle.content_state.specs.Plan.{Plan, write, escaped, ◌>>◌}
use Rattle.content_state.specs.declared.route.Route.{Route}
use Rattle.content_state.specs.declared.route.Route.TheVariants as route
use Rattle.content_state.specs.Read.{BlockRow, MenuRow, ListingRow, AllBlocks, PathRoute}
use Rattle.content_state.specs.Context.{Visit}
use Rattle.content_state.specs.Viewer.{access_content}
use Rattle.site_lists.specs.declared.tree.MenuPlace.{MenuPlace}
use Rattle.site_lists.specs.MenuPlaces.{places_of}
use Rattle.site_lists.specs.Visible.{for_viewer, at_front, names_front, on_path, visible}
use Rattle.render_canvas.specs.Decision.{is_allowed}
use Rattle.render_canvas.specs.Reads.{region_names}
use Rattle.render_array.specs.Pieces.{hello_start, paragraph_end}
use Rattle.render_array.specs.Menus.{may_follow_to, may_follow, may_follow_link, Shown, none_shown, with_place, with_shown, link_shown, link_at, lists_end, link_closed, depth_after, links_shown, menu_view, menu_or_nothing, menu_shown}
use Rattle.render_array.specs.Blocks.{text_body, menu_there, menu_body, listing_there, listing_body, hello, name_of_user, greeting_body, csrf_of_session, csrf_body, clock_body, body_of_kind, block_label, block_view, block_or_nothing, block_shown, block_if_visible, block_place, region}
use Rattle.page_secrets.proofs.Settled.{Alike, alike_bind, alike_done, alike_write, alike_escaped, alike_attach, alike_part, alike_clock, alike_if, alike_each, alike_folded}
use Rattle.page_secrets.proofs.Visits.{AlikeVisits, alike_reading, alike_user, alike_asking}
use Rattle.page_secrets.proofs.Deciding.{same_holds, same_route_access}

-- what greets a user that was found
abbrev hello_found : Option User → Plan (Unit {0})
hello_found found = do
  write hello_start
  escaped (name_of_user found)
  write paragraph_end

module _ (v v' : Visit) (alike : AlikeVisits v v') where
  -- ---- which links are shown

  same_follow_to : (to : Route) → Alike v v' (may_follow_to to) (may_follow_to to)
  same_follow_to route.Nothing = alike_done false
  same_follow_to (route.Node n) = alike_bind _ _ (same_route_access alike (route.Node n)) (λ access. alike_done (is_allowed access))
  same_follow_to (route.Term t) = alike_bind _ _ (same_route_access alike (route.Term t)) (λ access. alike_done (is_allowed access))
  same_follow_to (route.User u) = alike_bind _ _ (same_route_access alike (route.User u)) (λ access. alike_done (is_allowed access))
  same_follow_to (route.Listing name) = alike_bind _ _ (same_route_access alike (route.Listing name)) (λ access. alike_done (is_allowed access))
  same_follow_to (route.Json it) = alike_bind _ _ (same_route_access alike (route.Json it)) (λ access. alike_done (is_allowed access))
  same_follow_to route.Login = alike_bind _ _ (same_route_access alike route.Login) (λ access. alike_done (is_allowed access))

  same_follow : (path : List ℕ) → Alike v v' (may_follow path) (may_follow path)
  unfolding may_follow
  same_follow path = alike_bind _ _ (alike_reading alike (PathRoute path) tt) same_follow_to

  same_follow_link : (link : Option Link) → Alike v v' (may_follow_link link) (may_follow_link link)
  same_follow_link None = alike_done false
  same_follow_link (Some link) = same_follow link.path

  same_with_shown : (links : List Link) (found : Shown) (place : MenuPlace) → Alike v v' (with_shown links found place) (with_shown links found place)
  unfolding with_shown
  same_with_shown links found place =
      alike_if (nat_le place.depth found.deepest)
      (alike_bind _ _ (same_follow_link (slice_get links place.link)) (λ follows. alike_done (with_place found place follows)))
      (alike_done found)

  -- ---- how they are written

  same_link_shown : (active : Bool) (link : Link) → Alike v v' (link_shown active link) (link_shown active link)
  unfolding link_shown
  same_link_shown active link =
      alike_bind _ _ (alike_write _) (λ _. alike_bind _ _ (alike_write _) (λ _. alike_bind _ _ (alike_escaped _) (λ _.
      alike_bind _ _ (alike_write _) (λ _. alike_bind _ _ (alike_escaped _) (λ _. alike_write _)))))

  same_link_at : (trail : List (List ℕ)) (link : Option Link) → Alike v v' (link_at trail link) (link_at trail link)
  same_link_at trail None = alike_done tt
  same_link_at trail (Some link) = same_link_shown (list_any (bytes_eq link.id) trail) link

  same_lists_end : (levels : ℕ) → Alike v v' (lists_end levels) (lists_end levels)
  same_lists_end zero = alike_done tt
  same_lists_end (suc levels) = alike_bind _ _ (alike_write _) (λ _. same_lists_end levels)

  same_link_closed : (depth next : ℕ) → Alike v v' (link_closed depth next) (link_closed depth next)
  unfolding link_closed
  same_link_closed depth next =
      alike_if (nat_lt depth next) (alike_write _) (alike_bind _ _ (alike_write _) (λ _. same_lists_end (depth - next)))

  same_links_shown : (trail : List (List ℕ)) (links : List Link) (places : List MenuPlace) → Alike v v' (links_shown trail links places) (links_shown trail links places)
  unfolding links_shown
  same_links_shown trail links [] = alike_done tt
  same_links_shown trail links (place ∷ places) =
      alike_bind _ _ (same_link_at trail (slice_get links place.link)) (λ _.
      alike_bind _ _ (same_link_closed place.depth (depth_after places)) (λ _. same_links_shown trail links places))

  same_menu_view : (name : List ℕ) (menu : Menu) → Alike v v' (menu_view name menu) (menu_view name menu)
  unfolding menu_view
  same_menu_view name menu =
      alike_bind _ _ (alike_attach _) (λ _. alike_bind _ _ (alike_asking alike (context.MenuTrail name)) (λ trail.
      alike_bind _ _ (alike_folded (with_shown menu.links) (with_shown menu.links) none_shown (places_of menu.links) (same_with_shown menu.links)) (λ found.
      alike_bind _ _ (alike_write _) (λ _. alike_bind _ _ (same_links_shown trail menu.links found.places) (λ _. alike_write _)))))

  same_menu_found : (name : List ℕ) (menu : Option Menu) → Alike v v' (menu_or_nothing name menu) (menu_or_nothing name menu)
  same_menu_found name None = alike_done tt
  same_menu_found name (Some menu) = same_menu_view name menu

  pub same_menu_shown : (name : List ℕ) → Alike v v' (menu_shown name) (menu_shown name)
  unfolding menu_shown
  same_menu_shown name = alike_bind _ _ (alike_reading alike (MenuRow name) tt) (same_menu_found name)

  -- ---- what blocks of each kind show

  same_text : (text : Option (List ℕ)) → Alike v v' (text_body text) (text_body text)
  same_text None = alike_done tt
  same_text (Some text) = alike_bind _ _ (alike_write _) (λ _. alike_bind _ _ (alike_escaped _) (λ _. alike_write _))

  same_menu_there : (name : List ℕ) (menu : Option Menu) → Alike v v' (menu_there name menu) (menu_there name menu)
  same_menu_there name None = alike_done tt
  same_menu_there name (Some menu) = alike_part _

  same_menu_body : (name : Option (List ℕ)) → Alike v v' (menu_body name) (menu_body name)
  same_menu_body None = alike_done tt
  same_menu_body (Some name) = alike_bind _ _ (alike_reading alike (MenuRow name) tt) (same_menu_there name)

  same_listing_there : (name : List ℕ) (listing : Option Listing) → Alike v v' (listing_there name listing) (listing_there name listing)
  same_listing_there name None = alike_done tt
  same_listing_there name (Some listing) =
      alike_bind _ _ (same_holds alike access_content) (λ allowed. alike_if allowed (alike_part _) (alike_done tt))

  same_listing_body : (name : Option (List ℕ)) → Alike v v' (listing_body name) (listing_body name)
  same_listing_body None = alike_done tt
  same_listing_body (Some name) = alike_bind _ _ (alike_reading alike (ListingRow name) tt) (same_listing_there name)

  same_hello_found : (found : Option User) → Alike v v' (hello_found found) (hello_found found)
  same_hello_found found = alike_bind _ _ (alike_write _) (λ _. alike_bind _ _ (alike_escaped _) (λ _. alike_write _))

  same_hello : (uid : ℕ) → Alike v v' (hello uid) (hello uid)
  unfolding hello
  same_hello uid = alike_user alike uid hello_found (same_hello_found None) (λ user digest salt. same_hello_found (Some user))

  same_greeting : Alike v v' greeting_body greeting_body
  unfolding greeting_body
  same_greeting = alike_bind _ _ (alike_asking alike context.User) (λ uid. alike_if (uid == 0) (alike_write _) (same_hello uid))

  same_csrf_of : (session : Option (List ℕ)) → Alike v v' (csrf_of_session session) (csrf_of_session session)
  same_csrf_of None = alike_done tt
  same_csrf_of (Some token) = alike_bind _ _ (alike_write _) (λ _. alike_bind _ _ (alike_write _) (λ _. alike_write _))

  same_csrf : Alike v v' csrf_body csrf_body
  unfolding csrf_body
  same_csrf = alike_bind _ _ (alike_asking alike context.Session) same_csrf_of

  same_clock : (age : ℕ) → Alike v v' (clock_body age) (clock_body age)
  unfolding clock_body
  same_clock age =
      alike_bind _ _ (alike_attach _) (λ _. alike_bind _ _ (alike_clock age) (λ moment. alike_bind _ _ (alike_write _) (λ _.
      alike_bind _ _ (alike_write _) (λ _. alike_write _))))

  same_body : (k : BlockKind) (block : Block) → Alike v v' (body_of_kind k block) (body_of_kind k block)
  same_body kind.Text block = same_text block.text
  same_body kind.Menu block = same_menu_body block.name
  same_body kind.Listing block = same_listing_body block.name
  same_body kind.Greeting block = same_greeting
  same_body kind.Csrf block = same_csrf
  same_body kind.Clock block = same_clock (unwrap_or block.age 0)

  same_label : (label : List ℕ) → Alike v v' (block_label label) (block_label label)
  unfolding block_label
  same_label label =
      alike_if (length label == 0) (alike_done tt)
      (alike_bind _ _ (alike_write _) (λ _. alike_bind _ _ (alike_escaped _) (λ _. alike_write _)))

  same_block_view : (block : Block) → Alike v v' (block_view block) (block_view block)
  unfolding block_view
  same_block_view block =
      alike_bind _ _ (alike_write _) (λ _. alike_bind _ _ (same_label block.label) (λ _.
      alike_bind _ _ (same_body block.kind block) (λ _. alike_write _)))

  same_block_found : (block : Option Block) → Alike v v' (block_or_nothing block) (block_or_nothing block)
  same_block_found None = alike_done tt
  same_block_found (Some block) = same_block_view block

  pub same_block_shown : (name : List ℕ) → Alike v v' (block_shown name) (block_shown name)
  unfolding block_shown
  same_block_shown name = alike_bind _ _ (alike_reading alike (BlockRow name) tt) same_block_found

  -- ---- a region

  same_for_viewer : (roles : List (List ℕ)) → Alike v v' (for_viewer roles) (for_viewer roles)
  unfolding for_viewer
  same_for_viewer [] = alike_done true
  same_for_viewer (role ∷ roles) = alike_bind _ _ (alike_asking alike context.UserRoles) (λ own. alike_done _)

  same_at_front : (named : Bool) → Alike v v' (at_front named) (at_front named)
  unfolding at_front
  same_at_front named = alike_if named (alike_asking alike context.IsFront) (alike_done false)

  same_on_path : (hide : Bool) (places : List (List ℕ)) → Alike v v' (on_path hide places) (on_path hide places)
  unfolding on_path
  same_on_path hide [] = alike_done true
  same_on_path hide (place ∷ places) =
      alike_bind _ _ (alike_asking alike context.UrlPath) (λ path.
      alike_bind _ _ (same_at_front (names_front (place ∷ places))) (λ front. alike_done _))

  same_visible : (block : Block) → Alike v v' (visible block) (visible block)
  unfolding visible
  same_visible block =
      alike_bind _ _ (same_for_viewer block.roles) (λ mine. alike_bind _ _ (same_on_path block.hide block.paths) (λ here. alike_done (mine && here)))

  same_if_visible : (name : List ℕ) (block : Option Block) → Alike v v' (block_if_visible name block) (block_if_visible name block)
  same_if_visible name None = alike_done tt
  same_if_visible name (Some block) = alike_bind _ _ (same_visible block) (λ shows. alike_if shows (alike_part _) (alike_done tt))

  same_block_place : (name : List ℕ) → Alike v v' (block_place name) (block_place name)
  unfolding block_place
  same_block_place name = alike_bind _ _ (alike_reading alike (BlockRow name) tt) (same_if_visible name)

  same_region_names : (where_placed : Region) → Alike v v' (region_names where_placed) (region_names where_placed)
  unfolding region_names
  same_region_names where_placed = alike_bind _ _ (alike_reading alike AllBlocks tt) (λ blocks. alike_done _)

  pub same_region : (where_placed : Region) → Alike v v' (region where_placed) (region where_placed)
  unfolding region
  same_region where_placed = alike_bind _ _ (same_region_names where_placed) (λ names. alike_each block_place block_place names same_block_place)
