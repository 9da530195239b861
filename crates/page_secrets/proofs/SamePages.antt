-- A page, with what stands in its places, is the same on alike visits.
use Rattle.std.proofs.Common.{◌≡◌, ◌∙◌, ℕ, zero, suc, List, true, false, refl, sym, ap, subst, inl, inr}
use Rattle.std.specs.Prelude.{Bool, ◌==◌, length, Option, Some, None, option_map, if◌then◌else◌}
use Rattle.cacheability.specs.declared.op.Op.TheVariants as op
use Rattle.access_result.specs.declared.reason.Reason.{Reason}
use Rattle.content_rows.specs.declared.row.Node.{Node}
use Rattle.content_rows.specs.declared.row.Term.{Term}
use Rattle.content_rows.specs.declared.row.User.{User}
use Rattle.content_rows.specs.declared.row.Listing.{Listing}
use Rattle.content_rows.specs.declared.row.Region.TheVariants as at
use Rattle.content_state.specs.declared.route.Route.{Route}
use Rattle.content_state.specs.declared.route.Route.TheVariants as route
use Rattle.content_state.specs.declared.element.Fragment.{Fragment}
use Rattle.content_state.specs.declared.element.Fragment.TheVariants as fragment
use Rattle.content_state.specs.declared.element.Hole.{Hole}
use Rattle.content_state.specs.declared.element.Hole.TheVariants as hole
use Rattle.indexed_rows.specs.Rows.{node_of}
use Rattle.content_state.specs.Entities.{is_json}
use Rattle.content_state.specs.Read.{SiteRow, TermRow, ListingRow, PathRoute}
use Rattle.content_state.specs.Context.{Visit}
use Rattle.content_state.specs.Viewer.{access_content}
use Rattle.content_state.specs.Plan.{Plan, Done, reading, ◌>>◌}
use Rattle.content_state.specs.Places.{filled_in}
use Rattle.site_access.specs.Access.{Access, Allowed, Denied, access_to_node}
use Rattle.site_access.specs.Plans.{node_access}
use Rattle.render_canvas.specs.Decision.{is_allowed}
use Rattle.render_array.specs.declared.element.Element.TheVariants as element
use Rattle.render_array.specs.Page.{page_top, page_bottom, framed, denied_content, denied, not_found, node_answer, node_found, node_page, described, term_content, term_answer, term_found, term_page, member_since, user_answer, user_found, user_page, listing_answer, listing_found, listing_page, login_content, login_page, nothing_found, page_at, page}
use Rattle.render_array.specs.Built.{fragment_shown, plan_of}
use Rattle.render_array.specs.Whole.{plan_at, level, shown_below, whole}
use Rattle.page_secrets.specs.Alike.{with_fields}
use Rattle.page_secrets.proofs.Settled.{settled, settled_filling, Alike, alike_bind, alike_after, alike_done, alike_write, alike_escaped, alike_attach, alike_part, alike_if, alike_filled}
use Rattle.page_secrets.proofs.Visits.{AreAlikeFound, AlikeVisits, alike_reading, alike_user}
use Rattle.page_secrets.proofs.Deciding.{node_left, same_node_access, same_holds, same_term_access, same_user_access, same_listing_access}
use Rattle.page_secrets.proofs.SameNodes.{same_node_shown}
use Rattle.page_secrets.proofs.SameListings.{same_listing_shown, same_term_listing}
use Rattle.page_secrets.proofs.SameBlocks.{same_menu_shown, same_block_shown, same_region}
use Rattle.page_secrets.proofs.SameJson.{same_json_not_found, same_json_page}

-- ---- an answer that denies is the same whatever is behind it

module _ (v v' : Visit) (alike : AlikeVisits v v') where
  same_top : (title : List ℕ) → Alike v v' (page_top title) (page_top title)
  unfolding page_top
  same_top title =
      alike_bind _ _ (alike_reading alike SiteRow tt) (λ site. alike_bind _ _ (alike_write _) (λ _. alike_bind _ _ (alike_escaped _) (λ _.
      alike_bind _ _ (alike_write _) (λ _. alike_bind _ _ (alike_escaped _) (λ _. alike_bind _ _ (alike_write _) (λ _.
      alike_bind _ _ (alike_part _) (λ _. alike_bind _ _ (alike_write _) (λ _. alike_bind _ _ (same_region v v' alike at.Header) (λ _.
      alike_bind _ _ (alike_write _) (λ _. alike_bind _ _ (alike_escaped _) (λ _. alike_write _)))))))))))

  same_bottom : Alike v v' page_bottom page_bottom
  unfolding page_bottom
  same_bottom =
      alike_bind _ _ (alike_write _) (λ _. alike_bind _ _ (same_region v v' alike at.Aside) (λ _. alike_bind _ _ (alike_write _) (λ _.
      alike_bind _ _ (same_region v v' alike at.Footer) (λ _. alike_write _))))

  same_framed : (status : ℕ) (title : List ℕ) (content content' : Plan (Unit {0})) → Alike v v' content content'
      → Alike v v' (framed status title content) (framed status title content')
  unfolding framed
  same_framed status title content content' same =
      alike_bind _ _ (same_top title) (λ _. alike_bind _ _ same (λ _. alike_bind _ _ same_bottom (λ _. alike_done status)))

  same_denied : (reason : Reason) → Alike v v' (denied reason) (denied reason)
  unfolding denied denied_content
  same_denied reason =
      same_framed 403 _ _ _ (alike_bind _ _ (alike_write _) (λ _. alike_bind _ _ (alike_escaped _) (λ _. alike_write _)))

  same_not_found : Alike v v' not_found not_found
  unfolding not_found
  same_not_found = same_framed 404 _ _ _ (alike_write _)

  -- ---- nodes

  same_node_answer : (n : ℕ) (node : Node) (access : Access) → Alike v v' (node_answer n node access) (node_answer n node access)
  same_node_answer n node Allowed = same_framed 200 node.title _ _ (alike_part _)
  same_node_answer n node (Denied reason) = same_denied reason

  hidden_answer : (n : ℕ) (node node' : Node) (access : Access) → is_allowed access ≡ false → Alike v v' (node_answer n node access) (node_answer n node' access)
  hidden_answer n node node' Allowed allowed = cc
  hidden_answer n node node' (Denied reason) allowed = same_denied reason

  same_node_found : (n : ℕ) (found found' : Option Node) → AreAlikeFound v.viewer v.rows v'.rows n found found'
      → Alike v v' (node_found n found) (node_found n found')
  same_node_found n None None nodes = same_not_found
  same_node_found n (Some node) (Some node') (inl hidden) =
      let access = access_to_node v.rows v.viewer op.View n in
      alike_after (node_access op.View n) (node_access op.View n) access access (node_answer n node) (node_answer n node') (node_left v n) (node_left v' n ∙ ap Done (sym (alike.access n)))
      (hidden_answer n node node' access hidden.denied)
  same_node_found n (Some node) (Some node') (inr differs) =
      subst (λ o. Alike v v' (node_found n (Some node)) (node_found n (Some o))) (sym differs.others)
      (alike_bind (node_answer n node) (node_answer n (with_fields node node'.fields)) (same_node_access alike n) (λ access. titled access))
    where
      titled : (access : Access) → Alike v v' (node_answer n node access) (node_answer n (with_fields node node'.fields) access)
      titled Allowed = same_framed 200 node.title _ _ (alike_part _)
      titled (Denied reason) = same_denied reason
  same_node_found n None (Some node') nodes = absurd nodes
  same_node_found n (Some node) None nodes = absurd nodes

  same_node_page : (n : ℕ) → Alike v v' (node_page n) (node_page n)
  unfolding node_page reading
  same_node_page n = record { same = (same_node_found n (node_of v.rows n) (node_of v'.rows n) (alike.found n)).same }

  -- ---- terms, users, listings, the login form

  same_described : (text : List ℕ) → Alike v v' (described text) (described text)
  unfolding described
  same_described text =
      alike_if (length text == 0) (alike_done tt)
      (alike_bind _ _ (alike_write _) (λ _. alike_bind _ _ (alike_escaped _) (λ _. alike_write _)))

  same_term_content : (t : ℕ) (term : Term) → Alike v v' (term_content t term) (term_content t term)
  unfolding term_content
  same_term_content t term =
      alike_bind _ _ (same_described term.description) (λ _. alike_bind _ _ (same_holds alike access_content) (λ allowed.
      alike_if allowed (alike_part _) (alike_done tt)))

  same_term_answer : (t : ℕ) (term : Term) (access : Access) → Alike v v' (term_answer t term access) (term_answer t term access)
  same_term_answer t term Allowed = same_framed 200 term.name _ _ (same_term_content t term)
  same_term_answer t term (Denied reason) = same_denied reason

  same_term_found : (t : ℕ) (term : Option Term) → Alike v v' (term_found t term) (term_found t term)
  same_term_found t None = same_not_found
  same_term_found t (Some term) = alike_bind _ _ (same_term_access alike t) (same_term_answer t term)

  same_term_page : (t : ℕ) → Alike v v' (term_page t) (term_page t)
  unfolding term_page
  same_term_page t = alike_bind _ _ (alike_reading alike (TermRow t) tt) (same_term_found t)

  same_member : (moment : ℕ) → Alike v v' (member_since moment) (member_since moment)
  unfolding member_since
  same_member moment = alike_bind _ _ (alike_write _) (λ _. alike_bind _ _ (alike_write _) (λ _. alike_write _))

  same_user_answer : (user : User) (access : Access) → Alike v v' (user_answer user access) (user_answer user access)
  same_user_answer user Allowed = same_framed 200 user.name _ _ (same_member user.created)
  same_user_answer user (Denied reason) = same_denied reason

  same_user_found : (u : ℕ) (user : Option User) → Alike v v' (user_found u user) (user_found u user)
  same_user_found u None = same_not_found
  same_user_found u (Some user) = alike_bind _ _ (same_user_access alike u) (same_user_answer user)

  same_user_page : (u : ℕ) → Alike v v' (user_page u) (user_page u)
  unfolding user_page
  same_user_page u = alike_user alike u (user_found u) same_not_found (λ user digest salt. same_user_found u (Some user))

  same_listing_answer : (name : List ℕ) (listing : Listing) (access : Access) → Alike v v' (listing_answer name listing access) (listing_answer name listing access)
  same_listing_answer name listing Allowed = same_framed 200 listing.title _ _ (alike_part _)
  same_listing_answer name listing (Denied reason) = same_denied reason

  same_listing_found : (name : List ℕ) (listing : Option Listing) → Alike v v' (listing_found name listing) (listing_found name listing)
  same_listing_found name None = same_not_found
  same_listing_found name (Some listing) = alike_bind _ _ (same_listing_access alike) (same_listing_answer name listing)

  same_listing_page : (name : List ℕ) → Alike v v' (listing_page name) (listing_page name)
  unfolding listing_page
  same_listing_page name = alike_bind _ _ (alike_reading alike (ListingRow name) tt) (same_listing_found name)

  same_login_page : Alike v v' login_page login_page
  unfolding login_page login_content
  same_login_page = same_framed 200 _ _ _ (alike_bind _ _ (alike_attach _) (λ _. alike_write _))

  -- ---- the page of a path

  same_nothing_found : (json : Bool) → Alike v v' (nothing_found json) (nothing_found json)
  unfolding nothing_found
  same_nothing_found json = alike_if json (same_json_not_found v v' alike) same_not_found

  same_page_at : (json : Bool) (to : Route) → Alike v v' (page_at json to) (page_at json to)
  same_page_at json (route.Node n) = same_node_page n
  same_page_at json (route.Term t) = same_term_page t
  same_page_at json (route.User u) = same_user_page u
  same_page_at json (route.Listing name) = same_listing_page name
  same_page_at json (route.Json it) = same_json_page v v' alike it
  same_page_at json route.Login = same_login_page
  same_page_at json route.Nothing = same_nothing_found json

  same_page : (path : List ℕ) → Alike v v' (page path) (page path)
  unfolding page
  same_page path = alike_bind _ _ (alike_reading alike (PathRoute path) tt) (same_page_at (is_json path))

  -- ---- what stands in its places

  same_fragment : (f : Fragment) → Alike v v' (fragment_shown f) (fragment_shown f)
  same_fragment (fragment.Block name) = same_block_shown v v' alike name
  same_fragment (fragment.Menu name) = same_menu_shown v v' alike name
  same_fragment (fragment.Listing name where_placed) = same_listing_shown v v' alike name where_placed
  same_fragment (fragment.TermListing t) = same_term_listing v v' alike t
  same_fragment (fragment.Node n mode) = same_node_shown v v' alike n mode

  same_at_place : (k : ℕ) (h : Hole) → ((g : Hole) → settled_filling v (shown_below k) g ≡ settled_filling v' (shown_below k) g)
      → option_map (settled v) (option_map (filled_in (shown_below k)) (plan_at h)) ≡ option_map (settled v') (option_map (filled_in (shown_below k)) (plan_at h))
  same_at_place k hole.Meta below = refl
  same_at_place k (hole.Fragment f) below =
      let shown : Alike v v' (fragment_shown f >> Done None) (fragment_shown f >> Done None) = alike_bind _ _ (same_fragment f) (λ _. alike_done None) in
      ap Some (alike_filled (shown_below k) (fragment_shown f >> Done None) (fragment_shown f >> Done None) below shown).same

  same_below : (k : ℕ) (h : Hole) → settled_filling v (shown_below k) h ≡ settled_filling v' (shown_below k) h
  same_below zero h = refl
  same_below (suc k) h = elim (level h == k) as (λ b. option_map (settled v) (if b then option_map (filled_in (shown_below k)) (plan_at h) else shown_below k h) ≡ option_map (settled v') (if b then option_map (filled_in (shown_below k)) (plan_at h) else shown_below k h)) [
    | true ↦ same_at_place k h (same_below k)
    | false ↦ same_below k h
  ]

  -- the whole page of a path
  pub same_whole : (path : List ℕ) → settled v (whole path element.Page) ≡ settled v' (whole path element.Page)
  same_whole path =
      (alike_filled (shown_below 5) (plan_of path element.Page) (plan_of path element.Page) (same_below 5)
      (alike_bind _ _ (same_page path) (λ status. alike_done (Some status)))).same
