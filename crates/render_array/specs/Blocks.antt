-- What a block shows, and which blocks stand in a region, as plans of reads.
-- https://www.drupal.org/docs/user_guide/en/block-concept.html
use Rattle.std.specs.Prelude.{ℕ, List, [], length, ◌==◌, Option, Some, None, unwrap_or, if◌then◌else◌}
use Rattle.cacheability.specs.declared.context.Context.TheVariants as context
use Rattle.content_rows.specs.declared.row.Block.{Block}
use Rattle.content_rows.specs.declared.row.BlockKind.{BlockKind}
use Rattle.content_rows.specs.declared.row.BlockKind.TheVariants as kind
use Rattle.content_rows.specs.declared.row.Listing.{Listing}
use Rattle.content_rows.specs.declared.row.Menu.{Menu}
use Rattle.content_rows.specs.declared.row.Region.{Region}
use Rattle.content_rows.specs.declared.row.User.{User}
use Rattle.content_state.specs.declared.element.Hole.TheVariants as hole
use Rattle.content_state.specs.declared.element.Fragment.TheVariants as fragment
use Rattle.content_state.specs.declared.element.Placing.TheVariants as placing
use Rattle.content_state.specs.declared.element.Library.TheVariants as library
use Rattle.content_state.specs.Read.{BlockRow, MenuRow, ListingRow, UserRow}
use Rattle.content_state.specs.Viewer.{access_content}
use Rattle.content_state.specs.Plan.{Plan, Done, write, escaped, attach, part, reading, asking, clock, each, ◌>>=◌, ◌>>◌}
use Rattle.site_access.specs.Plans.{holds}
use Rattle.site_dates.specs.Dates.{moment_text_of}
use Rattle.site_lists.specs.Visible.{visible}
use Rattle.user_roles.specs.Csrf.{csrf_value}
use Rattle.render_canvas.specs.Reads.{region_names}
use Rattle.render_array.specs.Pieces as pieces

-- ---- what each kind shows

abbrev pub text_body : Option (List ℕ) → Plan (Unit {0})
text_body None = Done tt
text_body (Some text) = do
  write pieces.paragraph_start
  escaped text
  write pieces.paragraph_end

-- a menu that is there
abbrev pub menu_there : List ℕ → Option Menu → Plan (Unit {0})
menu_there name None = Done tt
menu_there name (Some menu) = part (hole.Fragment (fragment.Menu name))

abbrev pub menu_body : Option (List ℕ) → Plan (Unit {0})
menu_body None = Done tt
menu_body (Some name) = reading (MenuRow name) >>= menu_there name

-- a listing that is there, for a viewer who may access content
abbrev pub listing_there : List ℕ → Option Listing → Plan (Unit {0})
listing_there name None = Done tt
listing_there name (Some listing) = do
  allowed ← holds access_content
  if allowed then part (hole.Fragment (fragment.Listing name placing.InBlock)) else Done tt

abbrev pub listing_body : Option (List ℕ) → Plan (Unit {0})
listing_body None = Done tt
listing_body (Some name) = reading (ListingRow name) >>= listing_there name

abbrev pub name_of_user : Option User → List ℕ
name_of_user None = []
name_of_user (Some user) = user.name

unfoldable pub hello : ℕ → Plan (Unit {0})
hello uid = do
  user ← reading (UserRow uid)
  write pieces.hello_start
  escaped (name_of_user user)
  write pieces.paragraph_end

-- a greeting of who is logged in; for everybody else where to log in
unfoldable pub greeting_body : Plan (Unit {0})
greeting_body = do
  uid ← asking context.User
  if uid == 0 then write pieces.login_link else hello uid

abbrev pub csrf_of_session : Option (List ℕ) → Plan (Unit {0})
csrf_of_session None = Done tt
csrf_of_session (Some token) = do
  write pieces.csrf_start
  write (csrf_value token)
  write pieces.paragraph_end

-- the value that guards the forms of a session
unfoldable pub csrf_body : Plan (Unit {0})
csrf_body = asking context.Session >>= csrf_of_session

-- the time, which may be shown so many seconds
unfoldable pub clock_body : ℕ → Plan (Unit {0})
clock_body age = do
  attach library.Clock
  moment ← clock age
  write pieces.time_start
  write (moment_text_of moment)
  write pieces.time_end

abbrev pub body_of_kind : BlockKind → Block → Plan (Unit {0})
body_of_kind kind.Text block = text_body block.text
body_of_kind kind.Menu block = menu_body block.name
body_of_kind kind.Listing block = listing_body block.name
body_of_kind kind.Greeting block = greeting_body
body_of_kind kind.Csrf block = csrf_body
body_of_kind kind.Clock block = clock_body (unwrap_or block.age 0)

-- ---- a block

unfoldable pub block_label : List ℕ → Plan (Unit {0})
block_label label = if length label == 0 then Done tt else (do
  write pieces.label_start
  escaped label
  write pieces.label_end)

unfoldable pub block_view : Block → Plan (Unit {0})
block_view block = do
  write pieces.block_start
  block_label block.label
  body_of_kind block.kind block
  write pieces.block_end

abbrev pub block_or_nothing : Option Block → Plan (Unit {0})
block_or_nothing None = Done tt
block_or_nothing (Some block) = block_view block

unfoldable pub block_shown : List ℕ → Plan (Unit {0})
block_shown name = reading (BlockRow name) >>= block_or_nothing

-- ---- a region

abbrev pub block_if_visible : List ℕ → Option Block → Plan (Unit {0})
block_if_visible name None = Done tt
block_if_visible name (Some block) = do
  shows ← visible block
  if shows then part (hole.Fragment (fragment.Block name)) else Done tt

unfoldable pub block_place : List ℕ → Plan (Unit {0})
block_place name = reading (BlockRow name) >>= block_if_visible name

-- its visible blocks, by weight, then by name
unfoldable pub region : Region → Plan (Unit {0})
region where_placed = region_names where_placed >>= each block_place
