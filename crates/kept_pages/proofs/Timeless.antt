-- The plan of a page of HTML, its places left open, reads no clock, and one of JSON leaves no place open.
use Rattle.std.proofs.Common.{ℕ, List, [], ◌∷◌, ◌⊎◌, inl, inr, Bool, true, false, length, Option, Some, None}
use Rattle.std.specs.Prelude.{◌==◌, if◌then◌else◌}
use Rattle.access_result.specs.declared.reason.Reason.{Reason}
use Rattle.cacheability.specs.declared.op.Op.TheVariants as op
use Rattle.content_rows.specs.declared.row.Node.{Node}
use Rattle.content_rows.specs.declared.row.Term.{Term}
use Rattle.content_rows.specs.declared.row.User.{User}
use Rattle.content_rows.specs.declared.row.Listing.{Listing}
use Rattle.content_rows.specs.declared.row.Block.{Block}
use Rattle.content_rows.specs.declared.row.Region.{Region}
use Rattle.content_rows.specs.declared.row.Region.TheVariants as at
use Rattle.content_state.specs.declared.element.Hole.{Hole}
use Rattle.content_state.specs.declared.element.Hole.TheVariants as hole
use Rattle.content_state.specs.declared.element.Fragment.TheVariants as fragment
use Rattle.content_state.specs.declared.element.Mode.TheVariants as mode
use Rattle.content_state.specs.declared.element.Placing.TheVariants as placing
use Rattle.content_state.specs.Entities.{is_json}
use Rattle.content_state.specs.declared.route.Route.{Route}
use Rattle.content_state.specs.declared.route.Route.TheVariants as route
use Rattle.content_state.specs.Read.{answer, NodeRow, TermRow, UserRow, ListingRow, BlockRow, PathRoute}
use Rattle.content_state.specs.Viewer.{access_content}
use Rattle.content_state.specs.Context.{Visit, value}
use Rattle.content_state.specs.Plan.{Plan, Done, Write, Attach, Reading, Asking, Clock, Part, ◌>>=◌, reading, asking, write, escaped, attach, part, each}
use Rattle.site_access.specs.Access.{Access, Allowed, Denied}
use Rattle.site_access.specs.Plans.{holds, node_access}
use Rattle.site_access.specs.Terms.{term_access}
use Rattle.site_access.specs.Users.{user_access}
use Rattle.site_access.specs.Routes.{listing_access}
use Rattle.site_access.proofs.SilentPlans.{IsSilent}
use Rattle.site_access.proofs.PlansDecide.{node_read}
use Rattle.site_access.proofs.RoutePlans.{term_read, user_read}
use Rattle.site_lists.specs.Visible.{for_viewer, names_front, at_front, on_path, visible}
use Rattle.render_array.specs.Pieces as pieces
use Rattle.render_canvas.specs.Reads.{region_names}
use Rattle.render_array.specs.Blocks.{block_if_visible, block_place, region}
use Rattle.render_array.specs.Page.{page_top, page_bottom, framed, denied_content, denied, not_found, node_answer, node_found, node_page, described, term_content, term_answer, term_found, term_page, member_since, user_answer, user_found, user_page, listing_answer, listing_found, listing_page, login_content, login_page, nothing_found, page_at, page}
use Rattle.render_array.specs.Json.{told, json_not_found}
use Rattle.render_array.proofs.Leaves.{Leaves, leaves_bind, json_leaves}
use Rattle.render_array.specs.declared.element.Element.TheVariants as element
use Rattle.render_array.specs.Built.{plan_of}

-- on the visit the plan leaves no place open, whenever the clock is looked at
abbrev pub HasNoPlace : {A : Type 0} → Visit → Plan A → Type 0
HasNoPlace v p = Leaves (λ (h : Hole). ⊥) v p

-- on the visit the plan reads no clock
abbrev pub Timeless : {A : Type 0} → Visit → Plan A → Type 0
Timeless v (Done a) = Unit {0}
Timeless v (Write bs k) = Timeless v k
Timeless v (Attach l k) = Timeless v k
Timeless v (Reading r k) = Timeless v (k (answer v.rows r))
Timeless v (Asking c k) = Timeless v (k (value v c))
Timeless v (Clock age k) = ⊥
Timeless v (Part h k) = Timeless v k

module _ (v : Visit) where
  both : {A B : Type 0} (p : Plan A) (f : A → Plan B) → Timeless v p → ((a : A) → Timeless v (f a)) → Timeless v (p >>= f)
  both (Done a) f first then_each = then_each a
  both (Write bs k) f first then_each = both k f first then_each
  both (Attach l k) f first then_each = both k f first then_each
  both (Reading r k) f first then_each = both (k (answer v.rows r)) f first then_each
  both (Asking c k) f first then_each = both (k (value v c)) f first then_each
  both (Clock age k) f first then_each = absurd first
  both (Part h k) f first then_each = both k f first then_each

  either : {A : Type 0} (b : Bool) (p q : Plan A) → Timeless v p → Timeless v q → Timeless v (if b then p else q)
  either true p q first second = first
  either false p q first second = second

  each_timeless : {A : Type 0} (f : A → Plan (Unit {0})) (xs : List A) → ((x : A) → Timeless v (f x)) → Timeless v (each f xs)
  unfolding each
  each_timeless f [] of_each = tt
  each_timeless f (x ∷ xs) of_each = both (f x) (λ _. each f xs) (of_each x) (λ _. each_timeless f xs of_each)

  silent_timeless : {A : Type 0} (p : Plan A) → IsSilent p v → Timeless v p
  silent_timeless (Done a) silent = tt
  silent_timeless (Write bs k) silent = absurd silent
  silent_timeless (Attach l k) silent = absurd silent
  silent_timeless (Reading r k) silent = silent_timeless (k (answer v.rows r)) silent
  silent_timeless (Asking c k) silent = silent_timeless (k (value v c)) silent
  silent_timeless (Clock age k) silent = absurd silent
  silent_timeless (Part h k) silent = absurd silent

  holds_timeless : (permission : List ℕ) → Timeless v (holds permission)
  unfolding holds asking
  holds_timeless permission = tt

  for_viewer_timeless : (roles : List (List ℕ)) → Timeless v (for_viewer roles)
  unfolding for_viewer asking
  for_viewer_timeless [] = tt
  for_viewer_timeless (role ∷ roles) = tt

  on_path_timeless : (hide : Bool) (places : List (List ℕ)) → Timeless v (on_path hide places)
  unfolding on_path at_front asking
  on_path_timeless hide [] = tt
  on_path_timeless hide (place ∷ places) =
      both (at_front (names_front (place ∷ places))) _ (either (names_front (place ∷ places)) _ _ tt tt) (λ a. tt)

  visible_timeless : (block : Block) → Timeless v (visible block)
  unfolding visible
  visible_timeless block =
      both (for_viewer block.roles) _ (for_viewer_timeless block.roles)
      (λ mine. both (on_path block.hide block.paths) _ (on_path_timeless block.hide block.paths) (λ a. tt))

  if_visible_timeless : (name : List ℕ) (o : Option Block) → Timeless v (block_if_visible name o)
  unfolding part
  if_visible_timeless name None = tt
  if_visible_timeless name (Some row) = both (visible row) _ (visible_timeless row) (λ shows. either shows _ _ tt tt)

  block_place_timeless : (name : List ℕ) → Timeless v (block_place name)
  unfolding block_place reading
  block_place_timeless name = if_visible_timeless name (answer v.rows (BlockRow name))

  region_timeless : (where_placed : Region) → Timeless v (region where_placed)
  unfolding region region_names reading
  region_timeless where_placed = each_timeless block_place _ block_place_timeless

  top_timeless : (title : List ℕ) → Timeless v (page_top title)
  unfolding page_top reading write escaped part
  top_timeless title = both (region at.Header) _ (region_timeless at.Header) (λ a. tt)

  bottom_timeless : Timeless v page_bottom
  unfolding page_bottom write
  bottom_timeless =
      both (region at.Aside) _ (region_timeless at.Aside) (λ a. both (region at.Footer) _ (region_timeless at.Footer) (λ b. tt))

  framed_timeless : (status : ℕ) (title : List ℕ) (content : Plan (Unit {0})) → Timeless v content → Timeless v (framed status title content)
  unfolding framed
  framed_timeless status title content of_content =
      both (page_top title) _ (top_timeless title)
      (λ a. both content _ of_content (λ b. both page_bottom _ bottom_timeless (λ c. tt)))

  not_found_timeless : Timeless v not_found
  unfolding not_found write
  not_found_timeless = framed_timeless 404 pieces.not_found_title (write pieces.not_found_content) tt

  denied_timeless : (why : Reason) → Timeless v (denied why)
  unfolding denied denied_content write escaped
  denied_timeless why = framed_timeless 403 pieces.denied_title (denied_content why) tt

  node_answer_timeless : (n : ℕ) (node : Node) (access : Access) → Timeless v (node_answer n node access)
  unfolding part
  node_answer_timeless n node Allowed = framed_timeless 200 node.title (part (hole.Fragment (fragment.Node n mode.Full))) tt
  node_answer_timeless n node (Denied why) = denied_timeless why

  node_found_timeless : (n : ℕ) (o : Option Node) → Timeless v (node_found n o)
  node_found_timeless n None = not_found_timeless
  node_found_timeless n (Some node) =
      both (node_access op.View n) (node_answer n node) (silent_timeless (node_access op.View n) (node_read op.View n v).silent) (node_answer_timeless n node)

  described_timeless : (text : List ℕ) → Timeless v (described text)
  unfolding described write escaped
  described_timeless text = either (length text == 0) _ _ tt tt

  term_content_timeless : (t : ℕ) (term : Term) → Timeless v (term_content t term)
  unfolding term_content part
  term_content_timeless t term =
      both (described term.description) _ (described_timeless term.description)
      (λ a. both (holds access_content) _ (holds_timeless access_content) (λ allowed. either allowed _ _ tt tt))

  term_answer_timeless : (t : ℕ) (term : Term) (access : Access) → Timeless v (term_answer t term access)
  term_answer_timeless t term Allowed = framed_timeless 200 term.name (term_content t term) (term_content_timeless t term)
  term_answer_timeless t term (Denied why) = denied_timeless why

  term_found_timeless : (t : ℕ) (o : Option Term) → Timeless v (term_found t o)
  term_found_timeless t None = not_found_timeless
  term_found_timeless t (Some term) =
      both (term_access t) (term_answer t term) (silent_timeless (term_access t) (term_read t v).silent) (term_answer_timeless t term)

  user_answer_timeless : (user : User) (access : Access) → Timeless v (user_answer user access)
  unfolding member_since write
  user_answer_timeless user Allowed = framed_timeless 200 user.name (member_since user.created) tt
  user_answer_timeless user (Denied why) = denied_timeless why

  user_found_timeless : (u : ℕ) (o : Option User) → Timeless v (user_found u o)
  user_found_timeless u None = not_found_timeless
  user_found_timeless u (Some user) =
      both (user_access u) (user_answer user) (silent_timeless (user_access u) (user_read u v).silent) (user_answer_timeless user)

  listing_answer_timeless : (name : List ℕ) (row : Listing) (access : Access) → Timeless v (listing_answer name row access)
  unfolding part
  listing_answer_timeless name row Allowed = framed_timeless 200 row.title (part (hole.Fragment (fragment.Listing name placing.OnPage))) tt
  listing_answer_timeless name row (Denied why) = denied_timeless why

  listing_access_timeless : Timeless v listing_access
  unfolding listing_access
  listing_access_timeless = both (holds access_content) _ (holds_timeless access_content) (λ a. tt)

  listing_found_timeless : (name : List ℕ) (o : Option Listing) → Timeless v (listing_found name o)
  listing_found_timeless name None = not_found_timeless
  listing_found_timeless name (Some row) = both listing_access (listing_answer name row) listing_access_timeless (listing_answer_timeless name row)

  login_timeless : Timeless v login_page
  unfolding login_page login_content attach write
  login_timeless = framed_timeless 200 pieces.login_title login_content tt

  -- what is true of each page: where a clock is read, no place is left open
  abbrev IsEither : {A : Type 0} → Plan A → Type 0
  IsEither p = Timeless v p ⊎ HasNoPlace v p

  nothing_either : (json : Bool) → IsEither (nothing_found json)
  unfolding nothing_found json_not_found told write
  nothing_either true = inr tt
  nothing_either false = inl not_found_timeless

  at_either : (json : Bool) (r : Route) → IsEither (page_at json r)
  unfolding node_page term_page user_page listing_page reading
  at_either json (route.Node n) = inl (node_found_timeless n (answer v.rows (NodeRow n)))
  at_either json (route.Term t) = inl (term_found_timeless t (answer v.rows (TermRow t)))
  at_either json (route.User u) = inl (user_found_timeless u (answer v.rows (UserRow u)))
  at_either json (route.Listing name) = inl (listing_found_timeless name (answer v.rows (ListingRow name)))
  at_either json (route.Json it) = inr (json_leaves (λ h. ⊥) v it)
  at_either json route.Login = inl login_timeless
  at_either json route.Nothing = nothing_either json

  page_either : (path : List ℕ) → IsEither (page path)
  unfolding page reading
  page_either path = at_either (is_json path) (answer v.rows (PathRoute path))

  then_either : {A B : Type 0} (p : Plan A) (f : A → Plan B) → ((a : A) → Timeless v (f a)) → ((a : A) → HasNoPlace v (f a)) → IsEither p → IsEither (p >>= f)
  then_either p f timeless closed (inl first) = inl (both p f first timeless)
  then_either p f timeless closed (inr first) = inr (leaves_bind (λ h. ⊥) v p f first closed)

  pub plan_either : (path : List ℕ) → IsEither (plan_of path element.Page)
  plan_either path = then_either (page path) _ (λ status. tt) (λ status. tt) (page_either path)
