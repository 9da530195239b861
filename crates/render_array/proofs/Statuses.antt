-- The statuses that pages have.
use Rattle.std.proofs.Common.{ℕ, List, [], length, Bool, true, false, ◌+◌, ◌-◌, take, drop, refl, sym, subst}
use Rattle.std.specs.Prelude.{Option, Some, None, IsTrue}
use Rattle.access_result.specs.declared.reason.Reason.{Reason}
use Rattle.content_rows.specs.declared.row.FieldValue.{FieldValue}
use Rattle.content_rows.specs.declared.row.Node.{Node}
use Rattle.content_rows.specs.declared.row.NodeType.{NodeType}
use Rattle.content_rows.specs.declared.row.Term.{Term}
use Rattle.content_rows.specs.declared.row.User.{User}
use Rattle.content_rows.specs.declared.row.Listing.{Listing}
use Rattle.content_state.specs.declared.element.Library.{Library}
use Rattle.content_state.specs.declared.entity.Entity.{Entity}
use Rattle.content_state.specs.declared.entity.Entity.TheVariants as entity
use Rattle.content_state.specs.declared.route.Route.{Route}
use Rattle.content_state.specs.declared.route.Route.TheVariants as route
use Rattle.content_state.specs.Entities.{is_json}
use Rattle.content_state.specs.Read.{Answer, answer, TypeRow, NodeRow, TermRow, UserRow, ListingRow, PathRoute}
use Rattle.content_state.specs.Context.{Visit, Value, value}
use Rattle.content_state.specs.Plan.{Piece, Plan, Done, Write, Attach, Reading, Asking, Clock, Part, ◌>>=◌, Needs, Made, reading, folded, write, part}
use Rattle.cacheability.specs.declared.op.Op.TheVariants as op
use Rattle.site_access.specs.Access.{Access, Allowed, Denied}
use Rattle.site_access.specs.Plans.{node_access}
use Rattle.site_access.specs.Terms.{term_access}
use Rattle.site_access.specs.Users.{user_access}
use Rattle.site_access.specs.Routes.{listing_access}
use Rattle.site_lists.specs.declared.paging.Page.{Page}
use Rattle.site_lists.specs.ListingPlan.{listing_rows, asked_page}
use Rattle.site_lists.specs.Paging.{page_at as page_of_rows, last_page}
use Rattle.json_out.specs.Told.{node_json, term_json, user_json, listing_json, denied_json, no_target_json}
use Rattle.render_canvas.specs.Reads.{by_viewer}
use Rattle.render_array.specs.Nodes.{may_view_node, with_viewable_term}
use Rattle.render_array.specs.Json.{told, json_denied, json_not_found, shown_fields, json_node_answer, json_node_found, json_node, json_term_answer, json_term_found, json_term, json_user_answer, json_user_found, json_user, with_listed, json_listing_page, json_listing_view, json_listing_answer, json_listing_found, json_listing, json_page}
use Rattle.render_array.specs.Pieces.{denied_title, not_found_title, not_found_content, login_title}
use Rattle.content_state.specs.declared.element.Hole.{Hole}
use Rattle.content_state.specs.declared.element.Hole.TheVariants as hole
use Rattle.content_state.specs.declared.element.Fragment.TheVariants as fragment
use Rattle.content_state.specs.declared.element.Mode.TheVariants as mode
use Rattle.content_state.specs.declared.element.Placing.TheVariants as placing
use Rattle.content_state.specs.Places.{Filling, at_place, filled_in}
use Rattle.render_array.specs.Page.{page_top, page_bottom, denied_content, framed, denied, not_found, node_answer, node_found, node_page, term_content, term_answer, term_found, term_page, member_since, user_answer, user_found, user_page, listing_answer, listing_found, listing_page, login_content, login_page, nothing_found, page_at, page}
use Rattle.render_array.specs.declared.element.Element.TheVariants as element
use Rattle.render_array.specs.Whole.{shown_below, whole}
use Rattle.render_array.specs.Shown.{is_page_status, IsPageStatus}

-- whatever is read, what the plan gives has the property
abbrev Gives : {A : Type 0} → (A → Type 0) → Plan A → Type 0
Gives P (Done a) = P a
Gives P (Write bs k) = Gives P k
Gives P (Attach l k) = Gives P k
Gives {A} P (Reading r k) = (x : Answer r) → Gives P (k x)
Gives {A} P (Asking c k) = (x : Value c) → Gives P (k x)
Gives {A} P (Clock age k) = (t : ℕ) → Gives P (k t)
Gives P (Part h k) = Gives P k

gives_made : {A : Type 0} (P : A → Type 0) (p : Plan A) (v : Visit) (x : A) (shown : List Piece) (libraries : List Library) (needs : Needs) → Gives P p → Made p v x shown libraries needs → P x
gives_made P (Done a) v x shown libraries needs gives made = subst P (sym made.0) gives
gives_made P (Write bs k) v x shown libraries needs gives made = gives_made P k v x made.0 libraries needs gives made.2
gives_made P (Attach l k) v x shown libraries needs gives made = gives_made P k v x shown made.0 needs gives made.2
gives_made P (Reading r k) v x shown libraries needs gives made = gives_made P (k (answer v.rows r)) v x shown libraries needs (gives (answer v.rows r)) made.1
gives_made P (Asking c k) v x shown libraries needs gives made = gives_made P (k (value v c)) v x shown libraries needs (gives (value v c)) made.1
gives_made P (Clock age k) v x shown libraries needs gives made = gives_made P (k made.0) v x shown libraries needs (gives made.0) made.3
gives_made P (Part h k) v x shown libraries needs gives made = gives_made P k v x made.0 libraries needs gives made.2

gives_bind : {A B : Type 0} (P : B → Type 0) (p : Plan A) (f : A → Plan B) → ((a : A) → Gives P (f a)) → Gives P (p >>= f)
gives_bind P (Done a) f each = each a
gives_bind P (Write bs k) f each = gives_bind P k f each
gives_bind P (Attach l k) f each = gives_bind P k f each
gives_bind P (Reading r k) f each = λ x. gives_bind P (k x) f each
gives_bind P (Asking c k) f each = λ x. gives_bind P (k x) f each
gives_bind P (Clock age k) f each = λ t. gives_bind P (k t) f each
gives_bind P (Part h k) f each = gives_bind P k f each

abbrev IsStatus : ℕ → Type 0
IsStatus status = IsTrue (is_page_status status)

framed_gives : (status : ℕ) (title : List ℕ) (content : Plan (Unit {0})) → IsStatus status → Gives IsStatus (framed status title content)
unfolding framed
framed_gives status title content is =
    gives_bind {A = Unit {0}} IsStatus (page_top title) (λ _. content >>= λ _. page_bottom >>= λ _. Done status)
    (λ _. gives_bind {A = Unit {0}} IsStatus content (λ _. page_bottom >>= λ _. Done status)
    (λ _. gives_bind {A = Unit {0}} IsStatus page_bottom (λ _. Done status) (λ _. is)))

denied_gives : (reason : Reason) → Gives IsStatus (denied reason)
unfolding denied
denied_gives reason = framed_gives 403 denied_title (denied_content reason) refl

not_found_gives : Gives IsStatus not_found
unfolding not_found
not_found_gives = framed_gives 404 not_found_title (write not_found_content) refl

node_answer_gives : (n : ℕ) (node : Node) (access : Access) → Gives IsStatus (node_answer n node access)
node_answer_gives n node Allowed = framed_gives 200 node.title (part (hole.Fragment (fragment.Node n mode.Full))) refl
node_answer_gives n node (Denied reason) = denied_gives reason

node_found_gives : (n : ℕ) (node : Option Node) → Gives IsStatus (node_found n node)
node_found_gives n None = not_found_gives
node_found_gives n (Some node) = gives_bind {A = Access} IsStatus (node_access op.View n) (node_answer n node) (node_answer_gives n node)

node_gives : (n : ℕ) → Gives IsStatus (node_page n)
unfolding node_page
node_gives n = gives_bind {A = Option Node} IsStatus (reading (NodeRow n)) (node_found n) (node_found_gives n)

term_answer_gives : (t : ℕ) (term : Term) (access : Access) → Gives IsStatus (term_answer t term access)
term_answer_gives t term Allowed = framed_gives 200 term.name (term_content t term) refl
term_answer_gives t term (Denied reason) = denied_gives reason

term_found_gives : (t : ℕ) (term : Option Term) → Gives IsStatus (term_found t term)
term_found_gives t None = not_found_gives
term_found_gives t (Some term) = gives_bind {A = Access} IsStatus (term_access t) (term_answer t term) (term_answer_gives t term)

term_gives : (t : ℕ) → Gives IsStatus (term_page t)
unfolding term_page
term_gives t = gives_bind {A = Option Term} IsStatus (reading (TermRow t)) (term_found t) (term_found_gives t)

user_answer_gives : (user : User) (access : Access) → Gives IsStatus (user_answer user access)
user_answer_gives user Allowed = framed_gives 200 user.name (member_since user.created) refl
user_answer_gives user (Denied reason) = denied_gives reason

user_found_gives : (u : ℕ) (user : Option User) → Gives IsStatus (user_found u user)
user_found_gives u None = not_found_gives
user_found_gives u (Some user) = gives_bind {A = Access} IsStatus (user_access u) (user_answer user) (user_answer_gives user)

user_gives : (u : ℕ) → Gives IsStatus (user_page u)
unfolding user_page
user_gives u = gives_bind {A = Option User} IsStatus (reading (UserRow u)) (user_found u) (user_found_gives u)

listing_answer_gives : (name : List ℕ) (listing : Listing) (access : Access) → Gives IsStatus (listing_answer name listing access)
listing_answer_gives name listing Allowed = framed_gives 200 listing.title (part (hole.Fragment (fragment.Listing name placing.OnPage))) refl
listing_answer_gives name listing (Denied reason) = denied_gives reason

listing_found_gives : (name : List ℕ) (listing : Option Listing) → Gives IsStatus (listing_found name listing)
listing_found_gives name None = not_found_gives
listing_found_gives name (Some listing) = gives_bind {A = Access} IsStatus listing_access (listing_answer name listing) (listing_answer_gives name listing)

listing_gives : (name : List ℕ) → Gives IsStatus (listing_page name)
unfolding listing_page
listing_gives name = gives_bind {A = Option Listing} IsStatus (reading (ListingRow name)) (listing_found name) (listing_found_gives name)

login_gives : Gives IsStatus login_page
unfolding login_page
login_gives = framed_gives 200 login_title login_content refl

-- ---- what is told as JSON

told_gives : (status : ℕ) (text : List ℕ) → IsStatus status → Gives IsStatus (told status text)
unfolding told write
told_gives status text is = is

json_denied_gives : (reason : Reason) → Gives IsStatus (json_denied reason)
unfolding json_denied
json_denied_gives reason = told_gives 403 (denied_json reason) refl

json_not_found_gives : Gives IsStatus json_not_found
unfolding json_not_found
json_not_found_gives = told_gives 404 no_target_json refl

json_node_answer_gives : (n : ℕ) (node : Node) (access : Access) → Gives IsStatus (json_node_answer n node access)
json_node_answer_gives n node Allowed =
    gives_bind {A = Option NodeType} IsStatus (reading (TypeRow node.node_type)) (λ type. shown_fields n node type >>= rest)
    (λ type. gives_bind {A = List FieldValue} IsStatus (shown_fields n node type) rest
    (λ fields. gives_bind {A = List ℕ} IsStatus (folded with_viewable_term [] node.terms) (λ terms. told 200 (node_json n node fields terms))
    (λ terms. told_gives 200 (node_json n node fields terms) refl)))
  where
    rest : List FieldValue → Plan ℕ
    rest fields = folded with_viewable_term [] node.terms >>= λ terms. told 200 (node_json n node fields terms)
json_node_answer_gives n node (Denied reason) = json_denied_gives reason

json_node_found_gives : (n : ℕ) (node : Option Node) → Gives IsStatus (json_node_found n node)
json_node_found_gives n None = json_not_found_gives
json_node_found_gives n (Some node) = gives_bind {A = Access} IsStatus (node_access op.View n) (json_node_answer n node) (json_node_answer_gives n node)

json_node_gives : (n : ℕ) → Gives IsStatus (json_node n)
unfolding json_node
json_node_gives n = gives_bind {A = Option Node} IsStatus (reading (NodeRow n)) (json_node_found n) (json_node_found_gives n)

json_term_answer_gives : (t : ℕ) (term : Term) (access : Access) → Gives IsStatus (json_term_answer t term access)
json_term_answer_gives t term Allowed = told_gives 200 (term_json t term) refl
json_term_answer_gives t term (Denied reason) = json_denied_gives reason

json_term_found_gives : (t : ℕ) (term : Option Term) → Gives IsStatus (json_term_found t term)
json_term_found_gives t None = json_not_found_gives
json_term_found_gives t (Some term) = gives_bind {A = Access} IsStatus (term_access t) (json_term_answer t term) (json_term_answer_gives t term)

json_term_gives : (t : ℕ) → Gives IsStatus (json_term t)
unfolding json_term
json_term_gives t = gives_bind {A = Option Term} IsStatus (reading (TermRow t)) (json_term_found t) (json_term_found_gives t)

json_user_answer_gives : (u : ℕ) (user : User) (access : Access) → Gives IsStatus (json_user_answer u user access)
json_user_answer_gives u user Allowed = told_gives 200 (user_json u user) refl
json_user_answer_gives u user (Denied reason) = json_denied_gives reason

json_user_found_gives : (u : ℕ) (user : Option User) → Gives IsStatus (json_user_found u user)
json_user_found_gives u None = json_not_found_gives
json_user_found_gives u (Some user) = gives_bind {A = Access} IsStatus (user_access u) (json_user_answer u user) (json_user_answer_gives u user)

json_user_gives : (u : ℕ) → Gives IsStatus (json_user u)
unfolding json_user
json_user_gives u = gives_bind {A = Option User} IsStatus (reading (UserRow u)) (json_user_found u) (json_user_found_gives u)

json_listing_page_gives : (ids : List ℕ) (page : Page) → Gives IsStatus (json_listing_page ids page)
unfolding json_listing_page
json_listing_page_gives ids page =
    gives_bind {A = List (ℕ × Node)} IsStatus (folded with_listed [] (take (page.end - page.start) (drop page.start ids)))
    (λ nodes. told 200 (listing_json nodes page.number (last_page (length ids) + 1)))
    (λ nodes. told_gives 200 (listing_json nodes page.number (last_page (length ids) + 1)) refl)

json_listing_view_gives : (listing : Listing) → Gives IsStatus (json_listing_view listing)
unfolding json_listing_view
json_listing_view_gives listing =
    gives_bind {A = Unit {0}} IsStatus by_viewer (λ _. listing_rows may_view_node listing >>= rest)
    (λ _. gives_bind {A = List ℕ} IsStatus (listing_rows may_view_node listing) rest
    (λ ids. gives_bind {A = ℕ} IsStatus asked_page (λ asked. json_listing_page ids (page_of_rows (length ids) asked))
    (λ asked. json_listing_page_gives ids (page_of_rows (length ids) asked))))
  where
    rest : List ℕ → Plan ℕ
    rest ids = asked_page >>= λ asked. json_listing_page ids (page_of_rows (length ids) asked)

json_listing_answer_gives : (listing : Listing) (access : Access) → Gives IsStatus (json_listing_answer listing access)
json_listing_answer_gives listing Allowed = json_listing_view_gives listing
json_listing_answer_gives listing (Denied reason) = json_denied_gives reason

json_listing_found_gives : (listing : Option Listing) → Gives IsStatus (json_listing_found listing)
json_listing_found_gives None = json_not_found_gives
json_listing_found_gives (Some listing) = gives_bind {A = Access} IsStatus listing_access (json_listing_answer listing) (json_listing_answer_gives listing)

json_listing_gives : (name : List ℕ) → Gives IsStatus (json_listing name)
unfolding json_listing
json_listing_gives name = gives_bind {A = Option Listing} IsStatus (reading (ListingRow name)) json_listing_found json_listing_found_gives

json_gives : (it : Entity) → Gives IsStatus (json_page it)
json_gives (entity.Node n) = json_node_gives n
json_gives (entity.Term t) = json_term_gives t
json_gives (entity.User u) = json_user_gives u
json_gives (entity.Listing name) = json_listing_gives name

-- ---- pages

nothing_found_gives : (json : Bool) → Gives IsStatus (nothing_found json)
unfolding nothing_found
nothing_found_gives true = json_not_found_gives
nothing_found_gives false = not_found_gives

at_gives : (json : Bool) (r : Route) → Gives IsStatus (page_at json r)
at_gives json (route.Node n) = node_gives n
at_gives json (route.Term t) = term_gives t
at_gives json (route.User u) = user_gives u
at_gives json (route.Listing name) = listing_gives name
at_gives json (route.Json it) = json_gives it
at_gives json route.Login = login_gives
at_gives json route.Nothing = nothing_found_gives json

page_gives : (path : List ℕ) → Gives IsStatus (page path)
unfolding page
page_gives path = gives_bind {A = Route} IsStatus (reading (PathRoute path)) (page_at (is_json path)) (at_gives (is_json path))

gives_at : {A : Type 0} (P : A → Type 0) (o : Option (Plan (Option ℕ))) (h : Hole) (k : Plan A) → Gives P k → Gives P (at_place o h k)
gives_at P None h k gives = gives
gives_at P (Some child) h k gives = gives_bind P child (λ _. k) (λ _. gives)

-- what a plan gives it gives where its places are filled in
gives_filled : {A : Type 0} (P : A → Type 0) (fill : Filling) (p : Plan A) → Gives P p → Gives P (filled_in fill p)
gives_filled P fill (Done a) gives = gives
gives_filled P fill (Write bs k) gives = gives_filled P fill k gives
gives_filled P fill (Attach l k) gives = gives_filled P fill k gives
gives_filled P fill (Reading r k) gives = λ x. gives_filled P fill (k x) (gives x)
gives_filled P fill (Asking c k) gives = λ x. gives_filled P fill (k x) (gives x)
gives_filled P fill (Clock age k) gives = λ t. gives_filled P fill (k t) (gives t)
gives_filled P fill (Part h k) gives = gives_at P (fill h) h (filled_in fill k) (gives_filled P fill k gives)

gives_some : (p : Plan ℕ) → Gives IsStatus p → Gives IsPageStatus (p >>= λ s. Done (Some s))
gives_some (Done a) gives = gives
gives_some (Write bs k) gives = gives_some k gives
gives_some (Attach l k) gives = gives_some k gives
gives_some (Reading r k) gives = λ x. gives_some (k x) (gives x)
gives_some (Asking c k) gives = λ x. gives_some (k x) (gives x)
gives_some (Clock age k) gives = λ t. gives_some (k t) (gives t)
gives_some (Part h k) gives = gives_some k gives

-- a page is there, may not be viewed, or is not found
pub page_status : (path : List ℕ) (v : Visit) (status : Option ℕ) (shown : List Piece) (libraries : List Library) (needs : Needs) → Made (whole path element.Page) v status shown libraries needs → IsPageStatus status
page_status path v status shown libraries needs made =
    gives_made IsPageStatus (whole path element.Page) v status shown libraries needs
    (gives_filled IsPageStatus (shown_below 5) (page path >>= λ s. Done (Some s)) (gives_some (page path) (page_gives path))) made
