-- The status of a page is that of its route, and of access to it.
use Rattle.std.proofs.Common.{ℕ, List, [], ◌≡◌, ◌≢◌, ◌+◌, ◌-◌, take, drop, refl, ap, subst}
use Rattle.std.proofs.lemmas.Bool.{false≢true}
use Rattle.std.specs.Prelude.{Bool, true, false, Option, Some, None, length, unwrap_or}
use Rattle.std.specs.Option.{IsSome}
use Rattle.access_result.specs.declared.reason.Reason.{Reason}
use Rattle.content_rows.specs.declared.row.FieldValue.{FieldValue}
use Rattle.content_rows.specs.declared.row.Node.{Node}
use Rattle.content_rows.specs.declared.row.NodeType.{NodeType}
use Rattle.content_rows.specs.declared.row.Term.{Term}
use Rattle.content_rows.specs.declared.row.User.{User}
use Rattle.content_rows.specs.declared.row.Listing.{Listing}
use Rattle.content_state.specs.declared.element.Hole.TheVariants as hole
use Rattle.content_state.specs.declared.element.Fragment.TheVariants as fragment
use Rattle.content_state.specs.declared.element.Mode.TheVariants as mode
use Rattle.content_state.specs.declared.element.Placing.TheVariants as placing
use Rattle.content_state.specs.declared.entity.Entity.{Entity}
use Rattle.content_state.specs.declared.entity.Entity.TheVariants as entity
use Rattle.content_state.specs.declared.route.Route.{Route}
use Rattle.content_state.specs.declared.route.Route.TheVariants as route
use Rattle.content_state.specs.Entities.{is_json}
use Rattle.content_state.specs.Read.{answer, TypeRow, NodeRow, TermRow, UserRow, ListingRow}
use Rattle.content_state.specs.Route.{route_of}
use Rattle.content_state.specs.There.{IsThere}
use Rattle.content_state.specs.Context.{Visit}
use Rattle.content_state.specs.Plan.{Plan, Done, ◌>>=◌, reading, write, part, folded}
use Rattle.content_state.proofs.There.{leads_there}
use Rattle.site_access.specs.Access.{Access, Allowed, Denied}
use Rattle.site_access.specs.Routes.{access_to_route, route_access}
use Rattle.site_access.proofs.RoutePlans.{route_read}
use Rattle.site_lists.specs.declared.paging.Page.{Page}
use Rattle.site_lists.specs.ListingPlan.{listing_rows, asked_page}
use Rattle.site_lists.specs.Paging.{page_at as page_of_rows, last_page}
use Rattle.render_canvas.specs.Reads.{by_viewer}
use Rattle.json_out.specs.Told.{node_json, term_json, user_json, listing_json, denied_json, no_target_json}
use Rattle.render_array.specs.Nodes.{may_view_node, with_viewable_term}
use Rattle.render_array.specs.Json.{told, json_denied, json_not_found, shown_fields, json_node_answer, json_node_found, json_node, json_term_answer, json_term_found, json_term, json_user_answer, json_user_found, json_user, with_listed, json_listing_page, json_listing_view, json_listing_answer, json_listing_found, json_listing, json_page}
use Rattle.render_array.specs.Pieces.{denied_title, not_found_title, not_found_content, login_title}
use Rattle.render_array.specs.Page.{page_top, page_bottom, denied_content, framed, denied, not_found, node_answer, node_found, node_page, term_content, term_answer, term_found, term_page, member_since, user_answer, user_found, user_page, listing_answer, listing_found, listing_page, login_content, login_page, nothing_found, page_at, page}
use Rattle.render_array.specs.declared.element.Element.TheVariants as element
use Rattle.render_array.specs.Whole.{shown_below, whole}
use Rattle.render_array.specs.Shown.{visit_of}
use Rattle.site_targets.specs.Open.{access_status, route_status, path_status, StatusesFollowAccess}
use Rattle.site_targets.proofs.Sure.{GivesOn, gives_then, gives_after, gives_silent, gives_filled, gives_made}

abbrev Is : ℕ → ℕ → Type 0
Is code status = status ≡ code

framed_gives : (v : Visit) (status : ℕ) (title : List ℕ) (content : Plan (Unit {0})) → GivesOn (Is status) v (framed status title content)
unfolding framed
framed_gives v status title content =
    gives_after {A = Unit {0}} (Is status) v (page_top title) (λ _. content >>= λ _. page_bottom >>= λ _. Done status)
    (λ _. gives_after {A = Unit {0}} (Is status) v content (λ _. page_bottom >>= λ _. Done status)
    (λ _. gives_after {A = Unit {0}} (Is status) v page_bottom (λ _. Done status) (λ _. refl)))

denied_gives : (v : Visit) (why : Reason) → GivesOn (Is 403) v (denied why)
unfolding denied
denied_gives v why = framed_gives v 403 denied_title (denied_content why)

not_found_gives : (v : Visit) → GivesOn (Is 404) v not_found
unfolding not_found
not_found_gives v = framed_gives v 404 not_found_title (write not_found_content)

login_gives : (v : Visit) → GivesOn (Is 200) v login_page
unfolding login_page
login_gives v = framed_gives v 200 login_title login_content

-- the page of what is there, by what decides about access to it
node_answer_gives : (v : Visit) (n : ℕ) (node : Node) (access : Access) → GivesOn (Is (access_status access)) v (node_answer n node access)
node_answer_gives v n node Allowed = framed_gives v 200 node.title (part (hole.Fragment (fragment.Node n mode.Full)))
node_answer_gives v n node (Denied why) = denied_gives v why

term_answer_gives : (v : Visit) (t : ℕ) (term : Term) (access : Access) → GivesOn (Is (access_status access)) v (term_answer t term access)
term_answer_gives v t term Allowed = framed_gives v 200 term.name (term_content t term)
term_answer_gives v t term (Denied why) = denied_gives v why

user_answer_gives : (v : Visit) (user : User) (access : Access) → GivesOn (Is (access_status access)) v (user_answer user access)
user_answer_gives v user Allowed = framed_gives v 200 user.name (member_since user.created)
user_answer_gives v user (Denied why) = denied_gives v why

listing_answer_gives : (v : Visit) (name : List ℕ) (listing : Listing) (access : Access) → GivesOn (Is (access_status access)) v (listing_answer name listing access)
listing_answer_gives v name listing Allowed = framed_gives v 200 listing.title (part (hole.Fragment (fragment.Listing name placing.OnPage)))
listing_answer_gives v name listing (Denied why) = denied_gives v why

-- what is decided about access to a route on a visit
decided : (v : Visit) (to : Route) → GivesOn (λ access. access ≡ access_to_route v.rows v.viewer to) v (route_access to)
decided v to =
    let reads = route_read to v in gives_silent v (route_access to) (access_to_route v.rows v.viewer to) reads.silent reads.result

-- an answer by that
by_access : (v : Visit) (to : Route) (answers : Access → Plan ℕ) → ((access : Access) → GivesOn (Is (access_status access)) v (answers access)) → GivesOn (Is (access_status (access_to_route v.rows v.viewer to))) v (route_access to >>= answers)
by_access v to answers gives =
    let access = access_to_route v.rows v.viewer to in
    gives_then (λ a. a ≡ access) (Is (access_status access)) v (route_access to) answers (decided v to)
    (λ a is. subst (λ b. GivesOn (Is (access_status b)) v (answers a)) is (gives a))

node_there_gives : (v : Visit) (n : ℕ) (found : Option Node) → IsSome found → GivesOn (Is (access_status (access_to_route v.rows v.viewer (route.Node n)))) v (node_found n found)
node_there_gives v n None there = absurd (false≢true there)
node_there_gives v n (Some node) there = by_access v (route.Node n) (node_answer n node) (node_answer_gives v n node)

term_there_gives : (v : Visit) (t : ℕ) (found : Option Term) → IsSome found → GivesOn (Is (access_status (access_to_route v.rows v.viewer (route.Term t)))) v (term_found t found)
term_there_gives v t None there = absurd (false≢true there)
term_there_gives v t (Some term) there = by_access v (route.Term t) (term_answer t term) (term_answer_gives v t term)

user_there_gives : (v : Visit) (u : ℕ) (found : Option User) → IsSome found → GivesOn (Is (access_status (access_to_route v.rows v.viewer (route.User u)))) v (user_found u found)
user_there_gives v u None there = absurd (false≢true there)
user_there_gives v u (Some user) there = by_access v (route.User u) (user_answer user) (user_answer_gives v user)

listing_there_gives : (v : Visit) (name : List ℕ) (found : Option Listing) → IsSome found → GivesOn (Is (access_status (access_to_route v.rows v.viewer (route.Listing name)))) v (listing_found name found)
listing_there_gives v name None there = absurd (false≢true there)
listing_there_gives v name (Some listing) there =
    by_access v (route.Listing name) (listing_answer name listing) (listing_answer_gives v name listing)

-- ---- what is told as JSON

told_gives : (v : Visit) (status : ℕ) (text : List ℕ) → GivesOn (Is status) v (told status text)
unfolding told write
told_gives v status text = refl

json_denied_gives : (v : Visit) (why : Reason) → GivesOn (Is 403) v (json_denied why)
unfolding json_denied
json_denied_gives v why = told_gives v 403 (denied_json why)

json_not_found_gives : (v : Visit) → GivesOn (Is 404) v json_not_found
unfolding json_not_found
json_not_found_gives v = told_gives v 404 no_target_json

-- what is told of a node, once its type is read
abbrev node_told : ℕ → Node → Option NodeType → Plan ℕ
node_told n node type = do
  fields ← shown_fields n node type
  terms ← folded with_viewable_term [] node.terms
  told 200 (node_json n node fields terms)

node_told_gives : (v : Visit) (n : ℕ) (node : Node) (type : Option NodeType) → GivesOn (Is 200) v (node_told n node type)
node_told_gives v n node type =
    gives_after {A = List FieldValue} (Is 200) v (shown_fields n node type) (λ fields. folded with_viewable_term [] node.terms >>= λ terms. told 200 (node_json n node fields terms))
    (λ fields. gives_after {A = List ℕ} (Is 200) v (folded with_viewable_term [] node.terms) (λ terms. told 200 (node_json n node fields terms))
    (λ terms. told_gives v 200 (node_json n node fields terms)))

json_node_answer_gives : (v : Visit) (n : ℕ) (node : Node) (access : Access) → GivesOn (Is (access_status access)) v (json_node_answer n node access)
unfolding reading
json_node_answer_gives v n node Allowed = node_told_gives v n node (answer v.rows (TypeRow node.node_type))
json_node_answer_gives v n node (Denied why) = json_denied_gives v why

json_term_answer_gives : (v : Visit) (t : ℕ) (term : Term) (access : Access) → GivesOn (Is (access_status access)) v (json_term_answer t term access)
json_term_answer_gives v t term Allowed = told_gives v 200 (term_json t term)
json_term_answer_gives v t term (Denied why) = json_denied_gives v why

json_user_answer_gives : (v : Visit) (u : ℕ) (user : User) (access : Access) → GivesOn (Is (access_status access)) v (json_user_answer u user access)
json_user_answer_gives v u user Allowed = told_gives v 200 (user_json u user)
json_user_answer_gives v u user (Denied why) = json_denied_gives v why

json_listing_page_gives : (v : Visit) (ids : List ℕ) (page : Page) → GivesOn (Is 200) v (json_listing_page ids page)
unfolding json_listing_page
json_listing_page_gives v ids page =
    gives_after {A = List (ℕ × Node)} (Is 200) v (folded with_listed [] (take (page.end - page.start) (drop page.start ids))) (λ nodes. told 200 (listing_json nodes page.number (last_page (length ids) + 1)))
    (λ nodes. told_gives v 200 (listing_json nodes page.number (last_page (length ids) + 1)))

-- a page of a listing, by which is asked for
abbrev asked_of : List ℕ → Plan ℕ
asked_of ids = asked_page >>= λ asked. json_listing_page ids (page_of_rows (length ids) asked)

json_listing_gives : (v : Visit) (listing : Listing) → GivesOn (Is 200) v (json_listing_view listing)
unfolding json_listing_view
json_listing_gives v listing =
    gives_after {A = Unit {0}} (Is 200) v by_viewer (λ _. listing_rows may_view_node listing >>= asked_of)
    (λ _. gives_after {A = List ℕ} (Is 200) v (listing_rows may_view_node listing) asked_of
    (λ ids. gives_after {A = ℕ} (Is 200) v asked_page (λ asked. json_listing_page ids (page_of_rows (length ids) asked))
    (λ asked. json_listing_page_gives v ids (page_of_rows (length ids) asked))))

json_listing_answer_gives : (v : Visit) (listing : Listing) (access : Access) → GivesOn (Is (access_status access)) v (json_listing_answer listing access)
json_listing_answer_gives v listing Allowed = json_listing_gives v listing
json_listing_answer_gives v listing (Denied why) = json_denied_gives v why

json_node_there_gives : (v : Visit) (n : ℕ) (found : Option Node) → IsSome found → GivesOn (Is (access_status (access_to_route v.rows v.viewer (route.Node n)))) v (json_node_found n found)
json_node_there_gives v n None there = absurd (false≢true there)
json_node_there_gives v n (Some node) there = by_access v (route.Node n) (json_node_answer n node) (json_node_answer_gives v n node)

json_term_there_gives : (v : Visit) (t : ℕ) (found : Option Term) → IsSome found → GivesOn (Is (access_status (access_to_route v.rows v.viewer (route.Term t)))) v (json_term_found t found)
json_term_there_gives v t None there = absurd (false≢true there)
json_term_there_gives v t (Some term) there = by_access v (route.Term t) (json_term_answer t term) (json_term_answer_gives v t term)

json_user_there_gives : (v : Visit) (u : ℕ) (found : Option User) → IsSome found → GivesOn (Is (access_status (access_to_route v.rows v.viewer (route.User u)))) v (json_user_found u found)
json_user_there_gives v u None there = absurd (false≢true there)
json_user_there_gives v u (Some user) there = by_access v (route.User u) (json_user_answer u user) (json_user_answer_gives v u user)

json_listing_there_gives : (v : Visit) (name : List ℕ) (found : Option Listing) → IsSome found → GivesOn (Is (access_status (access_to_route v.rows v.viewer (route.Listing name)))) v (json_listing_found found)
json_listing_there_gives v name None there = absurd (false≢true there)
json_listing_there_gives v name (Some listing) there =
    by_access v (route.Listing name) (json_listing_answer listing) (json_listing_answer_gives v listing)

json_gives : (v : Visit) (it : Entity) → IsThere v.rows (route.Json it) → GivesOn (Is (route_status v.rows v.viewer (route.Json it))) v (json_page it)
unfolding json_node json_term json_user json_listing reading
json_gives v (entity.Node n) there = json_node_there_gives v n (answer v.rows (NodeRow n)) there
json_gives v (entity.Term t) there = json_term_there_gives v t (answer v.rows (TermRow t)) there
json_gives v (entity.User u) there = json_user_there_gives v u (answer v.rows (UserRow u)) there
json_gives v (entity.Listing name) there = json_listing_there_gives v name (answer v.rows (ListingRow name)) there

-- ---- the page of a path

nothing_gives : (v : Visit) (json : Bool) → GivesOn (Is 404) v (nothing_found json)
unfolding nothing_found
nothing_gives v true = json_not_found_gives v
nothing_gives v false = not_found_gives v

at_gives : (v : Visit) (json : Bool) (to : Route) → (to ≢ route.Nothing → IsThere v.rows to) → GivesOn (Is (route_status v.rows v.viewer to)) v (page_at json to)
unfolding node_page term_page user_page listing_page reading
at_gives v json (route.Node n) there = node_there_gives v n (answer v.rows (NodeRow n)) (there (λ e. absurd (something e)))
  where
    something : route.Node n ≡ route.Nothing → ⊥
    something e = cc
at_gives v json (route.Term t) there = term_there_gives v t (answer v.rows (TermRow t)) (there (λ e. absurd (something e)))
  where
    something : route.Term t ≡ route.Nothing → ⊥
    something e = cc
at_gives v json (route.User u) there = user_there_gives v u (answer v.rows (UserRow u)) (there (λ e. absurd (something e)))
  where
    something : route.User u ≡ route.Nothing → ⊥
    something e = cc
at_gives v json (route.Listing name) there =
    listing_there_gives v name (answer v.rows (ListingRow name)) (there (λ e. absurd (something e)))
  where
    something : route.Listing name ≡ route.Nothing → ⊥
    something e = cc
at_gives v json (route.Json it) there = json_gives v it (there (λ e. absurd (something e)))
  where
    something : route.Json it ≡ route.Nothing → ⊥
    something e = cc
at_gives v json route.Login there = login_gives v
at_gives v json route.Nothing there = nothing_gives v json

page_gives : (v : Visit) (path : List ℕ) → GivesOn (Is (path_status v.rows v.viewer path)) v (page path)
unfolding page reading
page_gives v path = at_gives v (is_json path) (route_of v.rows path) (leads_there v.rows path)

-- the whole page of a path, on a visit
pub whole_gives : (v : Visit) (path : List ℕ) → GivesOn (λ s. s ≡ Some (path_status v.rows v.viewer path)) v (whole path element.Page)
whole_gives v path =
    let code = path_status v.rows v.viewer path in
    gives_filled (λ s. s ≡ Some code) v (shown_below 5) (page path >>= λ s. Done (Some s))
    (gives_then (Is code) (λ s. s ≡ Some code) v (page path) (λ s. Done (Some s)) (page_gives v path) (λ s is. ap (λ x. Some x) is))

pub follow_access : StatusesFollowAccess
follow_access rows ask moment status body page =
    let v : Visit = visit_of rows ask moment in
    ap (λ s. unwrap_or s 0)
    (gives_made (λ s. s ≡ Some (path_status rows v.viewer ask.path)) (whole ask.path element.Page) v (Some status) page.shown page.libraries page.shows.needs (whole_gives v ask.path) page.shows.made)
