-- On rows that are alike for a viewer, visits of that viewer are alike.
use Rattle.std.proofs.Common.{◌≡◌, ◌∙◌, ℕ, List, refl, sym, ap, subst, map, inl, inr}
use Rattle.std.proofs.Math.Path.{fun_ext}
use Rattle.std.specs.Prelude.{Bool, ◌&&◌, ◌||◌, is_some, Option, Some, None, option_and_then, option_map, if◌then◌else◌}
use Rattle.std.specs.List.{filter, filter_map, find}
use Rattle.std.specs.Str.{bytes_eq}
use Rattle.cacheability.specs.declared.op.Op.TheVariants as op
use Rattle.cacheability.specs.declared.context.Context.{Context}
use Rattle.cacheability.specs.declared.context.Context.TheVariants as context
use Rattle.content_rows.specs.Permission.{role_names, permissions_of, has, grants_of}
use Rattle.content_rows.specs.declared.cell.Cell.{Cell}
use Rattle.content_rows.specs.declared.cell.Cell.TheVariants as cell
use Rattle.content_rows.specs.declared.row.Row.{Row}
use Rattle.content_rows.specs.declared.row.User.{User}
use Rattle.content_rows.specs.declared.row.Node.{Node}
use Rattle.content_rows.specs.declared.row.Menu.{Menu}
use Rattle.content_rows.specs.declared.row.Session.{Session}
use Rattle.content_rows.specs.declared.row.Listing.{Listing}
use Rattle.content_rows.specs.declared.permission.ViewGrants.TheVariants as view_grants
use Rattle.content_state.specs.declared.ask.Ask.{Ask}
use Rattle.content_state.specs.declared.ask.Viewer.{Viewer}
use Rattle.content_state.specs.declared.entity.Entity.{Entity}
use Rattle.content_state.specs.declared.entity.Entity.TheVariants as entity
use Rattle.content_state.specs.declared.route.Route.TheVariants as route
use Rattle.content_state.specs.Entities.{id_after, is_json, entity_in, is_entity_there}
use Rattle.indexed_rows.specs.Rows.{row_at, as_site, as_type, as_role, as_user, as_term, as_node, as_menu, as_listing, as_block, as_session, site_of, type_of, role_of, user_of, term_of, node_of, menu_of, listing_of, block_of, session_of, nodes_of, terms_of, InOrder}
use Rattle.content_state.specs.Route.{node_front, term_front, user_front, root_path, login_path, front_in, front_path, meant, node_route, listing_route, cell_route, cell_with, found_route, json_route, led_to, fronts_json, route_of}
use Rattle.content_state.specs.Read.{Read, SiteRow, TypeRow, RoleRow, UserRow, TermRow, NodeRow, MenuRow, ListingRow, BlockRow, AllNodes, NodesOfType, AllTerms, AllBlocks, CommentRow, CommentsOf, PathRoute, answer}
use Rattle.content_state.specs.Context.{Visit, trail_in, value, upward, preorder}
use Rattle.content_state.specs.Viewer.{viewer_by, viewer_with, viewer_of, roles_of, present_roles, viewer_permissions, view_grants_of, bypass_node_access}
use Rattle.site_access.specs.Access.{Access, access_by, access_to_node, access_to_found_field, field_of, field_of_type}
use Rattle.site_lists.specs.Listed.{in_order, ids_in_order, is_listed, rank_cmp}
use Rattle.render_canvas.specs.Decision.{is_allowed}
use Rattle.page_secrets.specs.Alike.{AreAlikeNodes}
use Rattle.page_secrets.specs.Passwords.{with_password}
use Rattle.page_secrets.proofs.Likeness.{LookAlikeAt}
use Rattle.page_secrets.proofs.Decided.{decided, votes_by, as_votes, both_denied, field_by, as_field}
use Rattle.page_secrets.proofs.Visits.{IsOfNone, AreAlikeFound, AreOneUser, sees, listed, AlikeVisits}
use Rattle.page_secrets.proofs.SameCells.{AreAlikeLists, alike_lists, same_terms, same_blocks, same_cell_with, same_ranks, same_comments}

module _ (viewer : Viewer) (rows rows' : List (Cell × Row)) (alike : (c : Cell) → LookAlikeAt viewer rows rows' c (row_at rows c) (row_at rows' c)) where
  -- ---- rows that are no nodes, no users and no comments

  by_cell : (c : Cell) (f g : Option Row) → ((n : ℕ) → c ≡ cell.Node n → ⊥) → ((u : ℕ) → c ≡ cell.User u → ⊥) → ((k : ℕ) → c ≡ cell.Comment k → ⊥) → LookAlikeAt viewer rows rows' c f g → f ≡ g
  by_cell c f g no_node no_user no_comment (inl (inl same)) = same
  by_cell c f g no_node no_user no_comment (inl (inr nodes)) = absurd (no_node nodes.n nodes.cell_is)
  by_cell c f g no_node no_user no_comment (inr (inl users)) = absurd (no_user users.u users.cell_is)
  by_cell c f g no_node no_user no_comment (inr (inr comments)) = absurd (no_comment comments.k comments.cell_is)

  same_row : (c : Cell) → ((n : ℕ) → c ≡ cell.Node n → ⊥) → ((u : ℕ) → c ≡ cell.User u → ⊥) → ((k : ℕ) → c ≡ cell.Comment k → ⊥) → row_at rows c ≡ row_at rows' c
  same_row c no_node no_user no_comment = by_cell c (row_at rows c) (row_at rows' c) no_node no_user no_comment (alike c)

  same_site : site_of rows ≡ site_of rows'
  same_site = ap (option_and_then as_site) (same_row cell.Site (λ n e. cc) (λ u e. cc) (λ k e. cc))

  same_type : (name : List ℕ) → type_of rows name ≡ type_of rows' name
  same_type name = ap (option_and_then as_type) (same_row (cell.NodeType name) (λ n e. cc) (λ u e. cc) (λ k e. cc))

  same_role : (name : List ℕ) → role_of rows name ≡ role_of rows' name
  same_role name = ap (option_and_then as_role) (same_row (cell.Role name) (λ n e. cc) (λ u e. cc) (λ k e. cc))

  same_term : (t : ℕ) → term_of rows t ≡ term_of rows' t
  same_term t = ap (option_and_then as_term) (same_row (cell.Term t) (λ n e. cc) (λ u e. cc) (λ k e. cc))

  same_menu : (name : List ℕ) → menu_of rows name ≡ menu_of rows' name
  same_menu name = ap (option_and_then as_menu) (same_row (cell.Menu name) (λ n e. cc) (λ u e. cc) (λ k e. cc))

  same_listing : (name : List ℕ) → listing_of rows name ≡ listing_of rows' name
  same_listing name = ap (option_and_then as_listing) (same_row (cell.Listing name) (λ n e. cc) (λ u e. cc) (λ k e. cc))

  same_block_row : (name : List ℕ) → block_of rows name ≡ block_of rows' name
  same_block_row name = ap (option_and_then as_block) (same_row (cell.Block name) (λ n e. cc) (λ u e. cc) (λ k e. cc))

  same_session : (name : List ℕ) → session_of rows name ≡ session_of rows' name
  same_session name = ap (option_and_then as_session) (same_row (cell.Session name) (λ n e. cc) (λ u e. cc) (λ k e. cc))

  -- ---- users

  same_itself : (found : Option User) → AreOneUser found found
  same_itself None = tt
  same_itself (Some user) = refl

  users_by : (u : ℕ) (f g : Option Row) → LookAlikeAt viewer rows rows' (cell.User u) f g → AreOneUser (option_and_then as_user f) (option_and_then as_user g)
  users_by u f g (inl (inl same)) =
      subst (λ o. AreOneUser (option_and_then as_user f) (option_and_then as_user o)) same (same_itself (option_and_then as_user f))
  users_by u f g (inl (inr nodes)) = absurd (no_node nodes.n nodes.cell_is)
    where
      no_node : (n : ℕ) → cell.User u ≡ cell.Node n → ⊥
      no_node n e = cc
  users_by u f g (inr (inr comments)) = absurd (no_comment comments.k comments.cell_is)
    where
      no_comment : (k : ℕ) → cell.User u ≡ cell.Comment k → ⊥
      no_comment k e = cc
  users_by u f g (inr (inl users)) =
      subst (λ o. AreOneUser (option_and_then as_user o) (option_and_then as_user g)) (sym users.found_is)
      (subst (λ o. AreOneUser (Some users.user) (option_and_then as_user o)) (sym users.found_too) users.others)

  one_user : (u : ℕ) → AreOneUser (user_of rows u) (user_of rows' u)
  one_user u = users_by u (row_at rows (cell.User u)) (row_at rows' (cell.User u)) (alike (cell.User u))

  -- what doesn't hang on the password is the same
  told_by : {X : Type 0} (g : Option User → X) (found found' : Option User) → AreOneUser found found'
      → ((user : User) (digest : Option (List ℕ)) (salt : List ℕ) → g (Some user) ≡ g (Some (with_password user digest salt)))
      → g found ≡ g found'
  told_by g None None one same = refl
  told_by g (Some user) (Some user') one same = same user user'.digest user'.salt ∙ ap (λ o. g (Some o)) (sym one)
  told_by g None (Some user') one same = absurd one
  told_by g (Some user) None one same = absurd one

  of_user : {X : Type 0} (g : Option User → X) (u : ℕ)
      → ((user : User) (digest : Option (List ℕ)) (salt : List ℕ) → g (Some user) ≡ g (Some (with_password user digest salt)))
      → g (user_of rows u) ≡ g (user_of rows' u)
  of_user g u same = told_by g (user_of rows u) (user_of rows' u) (one_user u) same

  -- ---- who views

  viewer_from : (token : List ℕ) (moment : ℕ) (session : Option Session) → viewer_with rows token session moment ≡ viewer_with rows' token session moment
  viewer_from token moment None = refl
  viewer_from token moment (Some session) =
      of_user (λ o. viewer_by token session o moment) session.uid (λ user digest salt. refl)

  pub same_viewer : (cookie : Option (List ℕ)) (moment : ℕ) → viewer_of rows cookie moment ≡ viewer_of rows' cookie moment
  same_viewer None moment = refl
  same_viewer (Some token) moment =
      viewer_from token moment (session_of rows token) ∙ ap (λ s. viewer_with rows' token s moment) (same_session token)

  same_roles : roles_of rows viewer ≡ roles_of rows' viewer
  same_roles = of_user (role_names viewer.uid) viewer.uid (λ user digest salt. refl)

  same_present : present_roles rows viewer ≡ present_roles rows' viewer
  same_present =
      let roles : role_of rows ≡ role_of rows' = fun_ext same_role in
      let names = same_roles in
      λ i. filter_map (roles i) (names i)

  same_permissions : viewer_permissions rows viewer ≡ viewer_permissions rows' viewer
  same_permissions = ap (permissions_of viewer.uid) same_present

  granted_same : grants_of (user_of rows viewer.uid) (present_roles rows viewer) ≡ grants_of (user_of rows' viewer.uid) (present_roles rows' viewer)
  granted_same =
      of_user (λ o. grants_of o (present_roles rows viewer)) viewer.uid (λ user digest salt. refl)
      ∙ ap (grants_of (user_of rows' viewer.uid)) same_present

  same_grants : view_grants_of rows viewer ≡ view_grants_of rows' viewer
  same_grants =
      let held = same_permissions in
      let grants = granted_same in
      λ i. if has (held i) bypass_node_access then view_grants.All else view_grants.These (grants i)

  -- ---- paths

  same_front : front_path rows ≡ front_path rows'
  same_front = ap front_in same_site

  same_meant : (path : List ℕ) → meant rows path ≡ meant rows' path
  same_meant path = ap (λ front. if bytes_eq path root_path then front else path) same_front

  same_trail : (path : List ℕ) (menu : Option Menu) → trail_in rows path menu ≡ trail_in rows' path menu
  same_trail path None = refl
  same_trail path (Some menu) =
      ap (λ to. upward 9 menu.links (option_map (λ l. l.id) (find (λ l. bytes_eq l.path to) (preorder 9 menu.links None)))) (same_meant path)

  -- ---- nodes

  itself : (n : ℕ) (found : Option Node) → AreAlikeFound viewer rows rows' n found found
  itself n None = tt
  itself n (Some node) = inr (record { others = refl; values = λ name. inl refl })

  same_number : (n m : ℕ) → cell.Node n ≡ cell.Node m → n ≡ m
  same_number n m e = cc

  found_by : (n : ℕ) (f g : Option Row) → LookAlikeAt viewer rows rows' (cell.Node n) f g
      → AreAlikeFound viewer rows rows' n (option_and_then as_node f) (option_and_then as_node g)
  found_by n f g (inl (inl same)) =
      subst (λ o. AreAlikeFound viewer rows rows' n (option_and_then as_node f) (option_and_then as_node o)) same (itself n (option_and_then as_node f))
  found_by n f g (inr (inl users)) = absurd (no_user users.u users.cell_is)
    where
      no_user : (u : ℕ) → cell.Node n ≡ cell.User u → ⊥
      no_user u e = cc
  found_by n f g (inr (inr comments)) = absurd (no_comment comments.k comments.cell_is)
    where
      no_comment : (k : ℕ) → cell.Node n ≡ cell.Comment k → ⊥
      no_comment k e = cc
  found_by n f g (inl (inr nodes)) =
      subst (λ o. AreAlikeFound viewer rows rows' n (option_and_then as_node o) (option_and_then as_node g)) (sym nodes.found_is)
      (subst (λ o. AreAlikeFound viewer rows rows' n (Some nodes.node) (option_and_then as_node o)) (sym nodes.found_too)
      (subst (λ m. AreAlikeNodes viewer rows rows' m nodes.node nodes.node') (sym (same_number n nodes.n nodes.cell_is)) nodes.alike))

  same_found : (n : ℕ) → AreAlikeFound viewer rows rows' n (node_of rows n) (node_of rows' n)
  same_found n = found_by n (row_at rows (cell.Node n)) (row_at rows' (cell.Node n)) (alike (cell.Node n))

  there_same : (n : ℕ) (f g : Option Node) → AreAlikeFound viewer rows rows' n f g → is_some f ≡ is_some g
  there_same n None None nodes = refl
  there_same n (Some node) (Some node') nodes = refl
  there_same n None (Some node') nodes = absurd nodes
  there_same n (Some node) None nodes = absurd nodes

  -- ---- access

  -- what the viewer's votes for a node decide, which both rows give it alike
  abbrev votes_of : Option Node → List Bool
  votes_of found = votes_by viewer (viewer_permissions rows viewer) (grants_of (user_of rows viewer.uid) (present_roles rows viewer)) found

  abbrev decided_of : ℕ → Option Node → Access
  decided_of n found = decided n (viewer_permissions rows viewer) (votes_of found)

  node_decided : (n : ℕ) → access_to_node rows viewer op.View n ≡ decided_of n (node_of rows n)
  node_decided n = ap (access_by rows viewer op.View n) (as_votes rows viewer (node_of rows n))

  node_decided' : (n : ℕ) → access_to_node rows' viewer op.View n ≡ decided_of n (node_of rows' n)
  node_decided' n =
      ap (access_by rows' viewer op.View n) (as_votes rows' viewer (node_of rows' n))
      ∙ (let held = sym same_permissions in
      let grants = sym granted_same in
      λ i. decided n (held i) (votes_by viewer (held i) (grants i) (node_of rows' n)))

  -- a node that both have alike gets the same access
  access_by_found : (n : ℕ) (f g : Option Node) → AreAlikeFound viewer rows rows' n f g → node_of rows n ≡ f → node_of rows' n ≡ g
      → access_to_node rows viewer op.View n ≡ access_to_node rows' viewer op.View n
  access_by_found n None None nodes is is' =
      node_decided n ∙ ap (decided_of n) is ∙ sym (node_decided' n ∙ ap (decided_of n) is')
  access_by_found n (Some node) (Some node') (inl hidden) is is' =
      node_decided n
      ∙ both_denied n (viewer_permissions rows viewer) (votes_of (node_of rows n)) (votes_of (node_of rows' n)) (ap is_allowed (sym (node_decided n)) ∙ hidden.denied) (ap is_allowed (sym (node_decided' n)) ∙ hidden.denied_too)
      ∙ sym (node_decided' n)
  access_by_found n (Some node) (Some node') (inr differs) is is' =
      node_decided n ∙ ap (decided_of n) is ∙ sym (node_decided' n ∙ ap (decided_of n) (is' ∙ ap Some differs.others))
  access_by_found n None (Some node') nodes is is' = absurd nodes
  access_by_found n (Some node) None nodes is is' = absurd nodes

  same_access : (n : ℕ) → access_to_node rows viewer op.View n ≡ access_to_node rows' viewer op.View n
  same_access n = access_by_found n (node_of rows n) (node_of rows' n) (same_found n) refl refl

  same_fields : (uid : ℕ) (type name : List ℕ)
      → access_to_found_field rows viewer op.View uid name (field_of rows type name) ≡ access_to_found_field rows' viewer op.View uid name (field_of rows' type name)
  same_fields uid type name =
      let held = same_permissions in
      let found = same_type type in
      as_field rows viewer uid name (field_of rows type name)
      ∙ (λ i. field_by viewer (held i) uid name (field_of_type name (found i)))
      ∙ sym (as_field rows' viewer uid name (field_of rows' type name))

  -- ---- what is read of the lists of rows

  module _ (in_order_is : InOrder rows) (in_order_too : InOrder rows') where
    lists : AreAlikeLists viewer rows rows' rows rows'
    lists = alike_lists viewer rows rows' rows rows' in_order_is in_order_too alike

    same_node_route : (n : ℕ) → node_route rows n ≡ node_route rows' n
    same_node_route n = ap (λ b. if b then route.Node n else route.Nothing) (there_same n (node_of rows n) (node_of rows' n) (same_found n))

    same_listing_route : (name : List ℕ) → listing_route rows name ≡ listing_route rows' name
    same_listing_route name = ap (λ o. if is_some o then route.Listing name else route.Nothing) (same_listing name)

    same_cell_route : (c : Option Cell) → cell_route rows c ≡ cell_route rows' c
    same_cell_route (Some (cell.Node n)) = same_node_route n
    same_cell_route (Some (cell.Listing name)) = same_listing_route name
    same_cell_route _ = refl

    same_found_route : (path : List ℕ) (n t u : Option ℕ) → found_route rows path n t u ≡ found_route rows' path n t u
    same_found_route path (Some n) t u = same_node_route n
    same_found_route path None (Some t) u = ap (λ o. if is_some o then route.Term t else route.Nothing) (same_term t)
    same_found_route path None None (Some u) = of_user (λ o. if is_some o then route.User u else route.Nothing) u (λ user digest salt. refl)
    same_found_route path None None None =
        same_cell_route (cell_with rows path) ∙ ap (cell_route rows') (same_cell_with viewer rows rows' path rows rows' lists)

    same_entity_there : (it : Entity) → is_entity_there rows it ≡ is_entity_there rows' it
    same_entity_there (entity.Node n) = there_same n (node_of rows n) (node_of rows' n) (same_found n)
    same_entity_there (entity.Term t) = ap (λ o. is_some o) (same_term t)
    same_entity_there (entity.User u) = of_user (λ o. is_some o) u (λ user digest salt. refl)
    same_entity_there (entity.Listing name) = ap (λ o. is_some o) (same_listing name)

    same_json_route : (it : Option Entity) → json_route rows it ≡ json_route rows' it
    same_json_route None = refl
    same_json_route (Some it) = ap (λ b. if b then route.Json it else route.Nothing) (same_entity_there it)

    same_led : (path : List ℕ) → led_to rows path ≡ led_to rows' path
    same_led path =
        let json = same_json_route (entity_in path) in
        let found = same_found_route path (id_after node_front path) (id_after term_front path) (id_after user_front path) in
        λ i. if is_json path then json i else (if bytes_eq path login_path then route.Login else found i)

    same_fronts : (path : List ℕ) → fronts_json rows path ≡ fronts_json rows' path
    same_fronts path = ap (λ front. bytes_eq path root_path && is_json front) same_front

    same_route : (path : List ℕ) → route_of rows path ≡ route_of rows' path
    unfolding route_of
    same_route path =
        let fronts = same_fronts path in
        let led = same_led (meant rows path) ∙ ap (led_to rows') (same_meant path) in
        λ i. if fronts i then route.Nothing else led i

    module _ (ask : Ask) (moment : ℕ) where
      abbrev here : Visit
      here = record { rows = rows; viewer = viewer; ask = ask; moment = moment }

      abbrev there : Visit
      there = record { rows = rows'; viewer = viewer; ask = ask; moment = moment }

      same_value : (c : Context) → value here c ≡ value there c
      same_value context.Language = refl
      same_value context.Theme = refl
      same_value context.User = refl
      same_value context.UserRoles = same_roles
      same_value context.UserPermissions = same_permissions
      same_value context.NodeGrantsView = same_grants
      same_value context.Url = refl
      same_value context.UrlPath = refl
      same_value context.IsFront = ap (λ front. bytes_eq ask.path root_path || bytes_eq ask.path front) same_front
      same_value context.QueryArgs = refl
      same_value (context.QueryArg name) = refl
      same_value context.Session = refl
      same_value context.SessionExists = refl
      same_value (context.MenuTrail name) =
          same_trail ask.path (menu_of rows name) ∙ ap (trail_in rows' ask.path) (same_menu name)

      same_answer : (r : Read) → IsOfNone r → answer rows r ≡ answer rows' r
      same_answer SiteRow none = same_site
      same_answer (TypeRow t) none = same_type t
      same_answer (RoleRow r) none = same_role r
      same_answer (UserRow u) none = absurd none
      same_answer (TermRow t) none = same_term t
      same_answer (NodeRow n) none = absurd none
      same_answer (MenuRow m) none = same_menu m
      same_answer (ListingRow l) none = same_listing l
      same_answer (BlockRow b) none = same_block_row b
      same_answer AllNodes none = absurd none
      same_answer (NodesOfType t) none = absurd none
      same_answer AllTerms none = same_terms viewer rows rows' rows rows' lists
      same_answer AllBlocks none = same_blocks viewer rows rows' rows rows' lists
      same_answer (CommentRow k) none = absurd none
      same_answer (CommentsOf n) none = absurd none
      same_answer (PathRoute p) none = same_route p

      same_listed : (listing : Listing) (at : ℕ) → listed here listing at ≡ listed there listing at
      same_listed listing at =
          ap (λ terms. ids_in_order (filter (λ e. is_listed terms listing at e.1 && sees here e.0) (nodes_of rows))) (same_terms viewer rows rows' rows rows' lists)
          ∙ ap (λ ranks. map (λ r. r.id.0) (in_order rank_cmp ranks))
          (same_ranks viewer rows rows' (terms_of rows') listing at (sees there) (λ n. ap is_allowed (same_access n)) rows rows' lists)

      pub visits_alike : AlikeVisits here there
      visits_alike = record {
        moment = refl;
        values = same_value;
        rows = same_answer;
        access = same_access;
        fields = same_fields;
        found = same_found;
        users = one_user;
        listings = same_listed;
        comments = λ n. same_comments viewer rows rows' n rows rows' lists;
      }
