-- What is kept of the page of a path, unless that is one of JSON, ends as a page does.
use Rattle.std.proofs.Common.{ℕ, List, [], ◌∷◌, ◌++◌, ◌≡◌, refl, sym, ◌∙◌, ap, subst, append_assoc, append-nil, Bool, true, false, Option, Some, None}
use Rattle.std.specs.Prelude.{◌&&◌, is_some, if◌then◌else◌}
use Rattle.std.specs.Str.{bytes_eq}
use Rattle.access_result.specs.declared.reason.Reason.{Reason}
use Rattle.cacheability.specs.declared.op.Op.TheVariants as op
use Rattle.content_rows.specs.declared.cell.Cell.{Cell}
use Rattle.content_rows.specs.declared.cell.Cell.TheVariants as cell
use Rattle.content_rows.specs.declared.row.Row.{Row}
use Rattle.content_rows.specs.declared.row.Node.{Node}
use Rattle.content_rows.specs.declared.row.Term.{Term}
use Rattle.content_rows.specs.declared.row.User.{User}
use Rattle.content_rows.specs.declared.row.Listing.{Listing}
use Rattle.content_rows.specs.declared.row.Region.TheVariants as at
use Rattle.content_state.specs.declared.element.Fragment.TheVariants as fragment
use Rattle.content_state.specs.declared.element.Hole.TheVariants as hole
use Rattle.content_state.specs.declared.element.Library.{Library}
use Rattle.content_state.specs.declared.element.Mode.TheVariants as mode
use Rattle.content_state.specs.declared.element.Placing.TheVariants as placing
use Rattle.content_state.specs.declared.route.Route.{Route}
use Rattle.content_state.specs.declared.route.Route.TheVariants as route
use Rattle.content_state.specs.Entities.{id_after, is_json, entity_in}
use Rattle.content_state.specs.Read.{answer, NodeRow, TermRow, UserRow, ListingRow, PathRoute}
use Rattle.content_state.specs.Route.{node_front, term_front, user_front, root_path, login_path, front_path, cell_route, cell_with, found_route, json_route, led_to, route_of}
use Rattle.content_state.specs.Context.{Visit}
use Rattle.content_state.specs.Plan.{Piece, bytes, Plan, Done, Write, ◌>>=◌, ◌>>◌, Needs, Made, reading, write, part}
use Rattle.content_state.specs.Places.{Filling, filled_in}
use Rattle.indexed_rows.specs.Rows.{node_of, term_of, user_of, listing_of}
use Rattle.site_access.specs.Access.{Access, Allowed, Denied}
use Rattle.site_access.specs.Plans.{node_access}
use Rattle.site_access.specs.Terms.{term_access}
use Rattle.site_access.specs.Users.{user_access}
use Rattle.site_access.specs.Routes.{listing_access}
use Rattle.late_out.specs.Marks.{body_end}
use Rattle.page_meaning.specs.Meaning.{for_everybody, framed as kept_of}
use Rattle.page_meaning.proofs.Frames.{split, filled_then}
use Rattle.render_array.specs.declared.element.Element.TheVariants as element
use Rattle.render_array.specs.Blocks.{region}
use Rattle.render_array.specs.Pieces as pieces
use Rattle.render_array.specs.Page.{page_top, page_bottom, framed, denied_content, denied, not_found, node_answer, node_found, node_page, term_content, term_answer, term_found, term_page, member_since, user_answer, user_found, user_page, listing_answer, listing_found, listing_page, login_content, login_page, nothing_found, page_at, page}
use Rattle.render_array.specs.Whole.{element_level, shown_below}

-- ---- a path that isn't one of JSON leads to no JSON

abbrev IsHtml : Route → Type 0
IsHtml (route.Json it) = ⊥
IsHtml _ = Unit {0}

if_there : (b : Bool) (r : Route) → IsHtml r → IsHtml (if b then r else route.Nothing)
if_there true r html = html
if_there false r html = tt

module _ (rows : List (Cell × Row)) where
  cell_html : (o : Option Cell) → IsHtml (cell_route rows o)
  cell_html (Some (cell.Node n)) = if_there (is_some (node_of rows n)) (route.Node n) tt
  cell_html (Some (cell.Listing name)) = if_there (is_some (listing_of rows name)) (route.Listing name) tt
  cell_html _ = tt

  found_html : (path : List ℕ) (n t u : Option ℕ) → IsHtml (found_route rows path n t u)
  found_html path (Some n) t u = if_there (is_some (node_of rows n)) (route.Node n) tt
  found_html path None (Some t) u = if_there (is_some (term_of rows t)) (route.Term t) tt
  found_html path None None (Some u) = if_there (is_some (user_of rows u)) (route.User u) tt
  found_html path None None None = cell_html (cell_with rows path)

  login_html : (b : Bool) (r : Route) → IsHtml r → IsHtml (if b then route.Login else r)
  login_html true r html = tt
  login_html false r html = html

  led_html : (path : List ℕ) → is_json path ≡ false → IsHtml (led_to rows path)
  led_html path isnt =
      subst (λ (b : Bool). IsHtml (if b then json_route rows (entity_in path) else (if bytes_eq path login_path then route.Login else found_route rows path (id_after node_front path) (id_after term_front path) (id_after user_front path)))) (sym isnt)
      (login_html (bytes_eq path login_path) (found_route rows path (id_after node_front path) (id_after term_front path) (id_after user_front path))
      (found_html path (id_after node_front path) (id_after term_front path) (id_after user_front path)))

  -- where the path is that of the front
  either_html : (root front : Bool) (path : List ℕ) → is_json path ≡ false → is_json (front_path rows) ≡ front → IsHtml (if (root && front) then route.Nothing else led_to rows (if root then front_path rows else path))
  either_html true true path isnt is = tt
  either_html true false path isnt is = led_html (front_path rows) is
  either_html false front path isnt is = led_html path isnt

  pub route_html : (path : List ℕ) → is_json path ≡ false → IsHtml (route_of rows path)
  unfolding route_of
  route_html path isnt = either_html (bytes_eq path root_path) (is_json (front_path rows)) path isnt refl

-- ---- what a plan makes ends as a page does

abbrev pub EndsSo : List Piece → Type 0
EndsSo shown = (front : List Piece) × (shown ≡ front ++ bytes body_end)

so_behind : (own rest shown : List Piece) → shown ≡ own ++ rest → EndsSo rest → EndsSo shown
so_behind own rest shown is ends = (own ++ ends.0, is ∙ ap (λ ps. own ++ ps) ends.1 ∙ sym (append_assoc own ends.0 (bytes body_end)))

module _ (fill : Filling) (v : Visit) where
  -- with its places filled in
  abbrev Ends : {A : Type 0} → Plan A → Type 0
  Ends {A} p = (x : A) (shown : List Piece) (libraries : List Library) (needs : Needs) → Made (filled_in fill p) v x shown libraries needs → EndsSo shown

  ends_then : {A B : Type 0} (p : Plan A) (f : A → Plan B) → ((a : A) → Ends (f a)) → Ends (p >>= f)
  ends_then p f each x shown libraries needs made =
      let s = split (filled_in fill p) (λ a. filled_in fill (f a)) v x shown libraries needs
      (subst (λ q. Made q v x shown libraries needs) (filled_then fill p f) made) in
      so_behind s.own s.rest shown s.shown_is (each s.given x s.rest s.others needs s.follows)

  -- what gives something behind it shows nothing more
  ends_giving : {A B : Type 0} (p : Plan A) (g : A → B) → Ends p → Ends (p >>= λ a. Done (g a))
  ends_giving p g ends x shown libraries needs made =
      let s = split (filled_in fill p) (λ a. Done (g a)) v x shown libraries needs
      (subst (λ q. Made q v x shown libraries needs) (filled_then fill p (λ a. Done (g a))) made) in
      let own = ends s.given s.own s.attached needs s.made in
      (own.0, s.shown_is ∙ ap (λ ps. s.own ++ ps) s.follows.1 ∙ append-nil s.own ∙ own.1)

  ends_writing : {A : Type 0} (bs : List ℕ) (p : Plan A) → Ends p → Ends (Write bs p)
  ends_writing bs p ends x shown libraries needs made = so_behind (bytes bs) made.0 shown made.1 (ends x made.0 libraries needs made.2)

  last_written : Ends {A = Unit {0}} (Write pieces.page_end (Done tt))
  unfolding pieces.page_end body_end
  last_written x shown libraries needs made =
      let rest : made.0 ≡ [] = made.2.1 in
      (bytes (60 ∷ 47 ∷ 102 ∷ 111 ∷ 111 ∷ 116 ∷ 101 ∷ 114 ∷ 62 ∷ []), made.1 ∙ ap (λ ps. bytes pieces.page_end ++ ps) rest ∙ append-nil (bytes pieces.page_end))

  bottom_ends : Ends page_bottom
  unfolding page_bottom write
  bottom_ends =
      ends_writing pieces.main_end (region at.Aside >>= λ _. Write pieces.aside_end (region at.Footer >>= λ _. Write pieces.page_end (Done tt)))
      (ends_then (region at.Aside) (λ _. Write pieces.aside_end (region at.Footer >>= λ _. Write pieces.page_end (Done tt)))
      (λ a. ends_writing pieces.aside_end (region at.Footer >>= λ _. Write pieces.page_end (Done tt))
      (ends_then (region at.Footer) (λ _. Write pieces.page_end (Done tt)) (λ b. last_written))))

  framed_ends : (status : ℕ) (title : List ℕ) (content : Plan (Unit {0})) → Ends (framed status title content)
  unfolding framed
  framed_ends status title content =
      ends_then (page_top title) (λ _. content >> (page_bottom >> Done status))
      (λ a. ends_then content (λ _. page_bottom >> Done status) (λ b. ends_giving page_bottom (λ _. status) bottom_ends))

  not_found_ends : Ends not_found
  unfolding not_found
  not_found_ends = framed_ends 404 pieces.not_found_title (write pieces.not_found_content)

  denied_ends : (why : Reason) → Ends (denied why)
  unfolding denied
  denied_ends why = framed_ends 403 pieces.denied_title (denied_content why)

  node_answer_ends : (n : ℕ) (node : Node) (access : Access) → Ends (node_answer n node access)
  node_answer_ends n node Allowed = framed_ends 200 node.title (part (hole.Fragment (fragment.Node n mode.Full)))
  node_answer_ends n node (Denied why) = denied_ends why

  node_ends : (n : ℕ) (o : Option Node) → Ends (node_found n o)
  node_ends n None = not_found_ends
  node_ends n (Some node) = ends_then (node_access op.View n) (node_answer n node) (node_answer_ends n node)

  term_answer_ends : (t : ℕ) (term : Term) (access : Access) → Ends (term_answer t term access)
  term_answer_ends t term Allowed = framed_ends 200 term.name (term_content t term)
  term_answer_ends t term (Denied why) = denied_ends why

  term_ends : (t : ℕ) (o : Option Term) → Ends (term_found t o)
  term_ends t None = not_found_ends
  term_ends t (Some term) = ends_then (term_access t) (term_answer t term) (term_answer_ends t term)

  user_answer_ends : (user : User) (access : Access) → Ends (user_answer user access)
  user_answer_ends user Allowed = framed_ends 200 user.name (member_since user.created)
  user_answer_ends user (Denied why) = denied_ends why

  user_ends : (u : ℕ) (o : Option User) → Ends (user_found u o)
  user_ends u None = not_found_ends
  user_ends u (Some user) = ends_then (user_access u) (user_answer user) (user_answer_ends user)

  listing_answer_ends : (name : List ℕ) (listing : Listing) (access : Access) → Ends (listing_answer name listing access)
  listing_answer_ends name listing Allowed = framed_ends 200 listing.title (part (hole.Fragment (fragment.Listing name placing.OnPage)))
  listing_answer_ends name listing (Denied why) = denied_ends why

  listing_ends : (name : List ℕ) (o : Option Listing) → Ends (listing_found name o)
  listing_ends name None = not_found_ends
  listing_ends name (Some listing) = ends_then listing_access (listing_answer name listing) (listing_answer_ends name listing)

  nothing_ends : (json : Bool) → json ≡ false → Ends (nothing_found json)
  unfolding nothing_found
  nothing_ends true isnt = absurd (let impossible = isnt in cc)
  nothing_ends false isnt = not_found_ends

  login_ends : Ends login_page
  unfolding login_page
  login_ends = framed_ends 200 pieces.login_title login_content

  at_ends : (json : Bool) (r : Route) → json ≡ false → IsHtml r → Ends (page_at json r)
  unfolding node_page term_page user_page listing_page reading
  at_ends json (route.Node n) isnt html = λ x shown libraries needs made. node_ends n (answer v.rows (NodeRow n)) x shown libraries needs made.1
  at_ends json (route.Term t) isnt html = λ x shown libraries needs made. term_ends t (answer v.rows (TermRow t)) x shown libraries needs made.1
  at_ends json (route.User u) isnt html = λ x shown libraries needs made. user_ends u (answer v.rows (UserRow u)) x shown libraries needs made.1
  at_ends json (route.Listing name) isnt html = λ x shown libraries needs made. listing_ends name (answer v.rows (ListingRow name)) x shown libraries needs made.1
  at_ends json (route.Json it) isnt html = absurd html
  at_ends json route.Login isnt html = login_ends
  at_ends json route.Nothing isnt html = nothing_ends json isnt

  page_ends : (path : List ℕ) → is_json path ≡ false → Ends (page path)
  unfolding page reading
  page_ends path isnt x shown libraries needs made = at_ends (is_json path) (answer v.rows (PathRoute path)) isnt (route_html v.rows path isnt) x shown libraries needs made.1

pub frame_ends : (path : List ℕ) (v : Visit) (x : Option ℕ) (shown : List Piece) (libraries : List Library) (needs : Needs) → is_json path ≡ false → Made (kept_of path) v x shown libraries needs → EndsSo shown
frame_ends path v x shown libraries needs isnt made =
    ends_giving (for_everybody (shown_below (element_level element.Page))) v (page path) (λ s. Some s) (page_ends (for_everybody (shown_below (element_level element.Page))) v path isnt) x shown libraries needs made
