-- The places that plans leave open, on a visit.
use Rattle.std.proofs.Common.{ℕ, zero, suc, List, [], ◌∷◌, ◌++◌, ◌≡◌, ◌<◌, sym, ◌∙◌, ap, subst, refl, arith, Bool, true, false, length, Option, Some, None}
use Rattle.std.proofs.lemmas.Bool.{eqb-true, eqb-false}
use Rattle.std.proofs.lemmas.List.{map-append}
use Rattle.std.specs.List.{list_any}
use Rattle.std.specs.Prelude.{◌==◌, ◌&&◌, ◌+◌, nat_le, nat_lt, ◌-◌, slice_get, if◌then◌else◌, take, drop, unwrap_or}
use Rattle.access_result.specs.declared.reason.Reason.{Reason}
use Rattle.content_rows.specs.declared.row.Node.{Node}
use Rattle.content_rows.specs.declared.row.NodeType.{NodeType}
use Rattle.content_rows.specs.declared.row.FieldRow.{FieldRow}
use Rattle.content_rows.specs.declared.row.FieldValue.{FieldValue}
use Rattle.content_rows.specs.declared.row.Term.{Term}
use Rattle.content_rows.specs.declared.row.Comment.{Comment}
use Rattle.content_rows.specs.declared.row.User.{User}
use Rattle.content_rows.specs.declared.row.Link.{Link}
use Rattle.content_rows.specs.declared.row.Menu.{Menu}
use Rattle.content_rows.specs.declared.row.Listing.{Listing}
use Rattle.content_rows.specs.declared.row.Block.{Block}
use Rattle.content_rows.specs.declared.row.BlockKind.{BlockKind}
use Rattle.content_rows.specs.declared.row.BlockKind.TheVariants as kind
use Rattle.content_rows.specs.declared.row.Region.{Region}
use Rattle.content_rows.specs.declared.row.Region.TheVariants as at
use Rattle.cacheability.specs.declared.op.Op.TheVariants as op
use Rattle.cacheability.specs.declared.context.Context.TheVariants as context
use Rattle.content_state.specs.declared.element.Hole.{Hole}
use Rattle.content_state.specs.declared.element.Hole.TheVariants as hole
use Rattle.content_state.specs.declared.element.Fragment.{Fragment}
use Rattle.content_state.specs.declared.element.Fragment.TheVariants as fragment
use Rattle.content_state.specs.declared.element.Mode.{Mode}
use Rattle.content_state.specs.declared.element.Mode.TheVariants as mode
use Rattle.content_state.specs.declared.element.Depth.{Depth}
use Rattle.content_state.specs.declared.element.Depth.TheVariants as depth
use Rattle.content_state.specs.declared.element.Placing.{Placing}
use Rattle.content_state.specs.declared.element.Placing.TheVariants as placing
use Rattle.content_state.specs.declared.element.Library.{Library}
use Rattle.content_state.specs.declared.entity.Entity.{Entity}
use Rattle.content_state.specs.declared.entity.Entity.TheVariants as entity
use Rattle.content_state.specs.declared.route.Route.{Route}
use Rattle.content_state.specs.declared.route.Route.TheVariants as route
use Rattle.content_state.specs.Entities.{is_json}
use Rattle.content_state.specs.Read.{answer, TypeRow, NodeRow, TermRow, UserRow, MenuRow, ListingRow, BlockRow, PathRoute, CommentsOf}
use Rattle.content_state.specs.Viewer.{access_content}
use Rattle.content_state.specs.Context.{Visit, value}
use Rattle.content_state.specs.Plan.{Piece, Byte, Place, bytes, Plan, Done, Write, Attach, Reading, Asking, Clock, Part, ◌>>=◌, ◌>>◌, Needs, Made, reading, asking, clock, write, escaped, attach, part, each, folded}
use Rattle.content_state.specs.Places.{Filling, at_place, filled_in}
use Rattle.site_access.specs.Access.{Access, Allowed, Denied}
use Rattle.site_access.specs.Plans.{holds, node_access, field_access}
use Rattle.site_access.specs.Terms.{term_access}
use Rattle.site_access.specs.Users.{user_access}
use Rattle.site_access.specs.Comments.{access_comments, administer_comments}
use Rattle.site_access.specs.Routes.{listing_access, route_access}
use Rattle.site_access.proofs.SilentPlans.{IsSilent}
use Rattle.site_access.proofs.PlansDecide.{node_read, field_read}
use Rattle.site_access.proofs.RoutePlans.{term_read, user_read, route_read}
use Rattle.site_comments.specs.declared.reader.CommentReader.{CommentReader}
use Rattle.site_comments.specs.Viewed.{reads_some, is_shown}
use Rattle.site_lists.specs.declared.tree.MenuPlace.{MenuPlace}
use Rattle.site_lists.specs.declared.paging.Page.{Page}
use Rattle.site_lists.specs.Listed.{term_listing}
use Rattle.site_lists.specs.ListingPlan.{of_types, among, terms_for, candidate_rows, moment_within, with_viewable, listing_rows, asked_page}
use Rattle.site_lists.specs.MenuPlaces.{places_of}
use Rattle.site_lists.specs.Paging.{page_at as page_of_rows, last_page}
use Rattle.site_lists.specs.Visible.{for_viewer, names_front, at_front, on_path, visible}
use Rattle.render_canvas.specs.Decision.{is_allowed}
use Rattle.render_array.specs.Pieces as pieces
use Rattle.render_canvas.specs.Reads.{region_names, by_viewer}
use Rattle.render_array.specs.Nodes.{may_view_node, may_view_field, may_view_term, may_view_user, linked_author, author_found, author, by_line, submitted, is_submitted, submitted_if, field_value, field_shown, field, teaser_field, fields, teaser_fields, with_term, with_viewable_term, term_named, term_item, terms_shown, terms, embedded, refs, refs_below, comment_text, comment_shown, comment_below, replies, comments_shown, comments_for, comments, node_full, href, linked_title, node_teaser, node_embed, node_in_mode, node_or_nothing, node_shown}
use Rattle.render_array.specs.Listings.{page_number, listed_node, listed_nodes, nodes_or_none, previous_link, next_link, pager_shown, pager, pager_in, page_of_nodes, listing_view, listing_or_nothing, listing_shown, term_listing_shown}
use Rattle.render_array.specs.Menus.{may_follow_to, may_follow, may_follow_link, Shown, none_shown, with_shown, link_shown, link_at, lists_end, link_closed, depth_after, links_shown, menu_view, menu_or_nothing, menu_shown}
use Rattle.render_array.specs.Blocks.{text_body, menu_there, menu_body, listing_there, listing_body, hello, greeting_body, csrf_of_session, csrf_body, clock_body, body_of_kind, block_label, block_view, block_or_nothing, block_shown, block_if_visible, block_place, region}
use Rattle.json_out.specs.Told.{node_json, term_json, user_json, listing_json, denied_json, no_target_json}
use Rattle.render_array.specs.Json.{told, json_denied, json_not_found, with_shown_field, shown_fields, json_node_answer, json_node_found, json_node, json_term_answer, json_term_found, json_term, json_user_answer, json_user_found, json_user, with_row, with_listed, json_listing_page, json_listing_view, json_listing_answer, json_listing_found, json_listing, json_page}
use Rattle.render_array.specs.Page.{page_top, page_bottom, framed, denied_content, denied, not_found, node_answer, node_found, node_page, described, term_content, term_answer, term_found, term_page, member_since, user_answer, user_found, user_page, listing_answer, listing_found, listing_page, login_content, login_page, nothing_found, page_at, page}
use Rattle.render_array.specs.Built.{fragment_shown}
use Rattle.render_array.specs.declared.element.Element.TheVariants as element
use Rattle.render_array.specs.Whole.{fragment_level, level, shown_below, whole}
use Rattle.render_array.specs.Shown.{OnlyMeta}

-- each place that the plan leaves open on the visit, whenever the clock is looked at, has the property
abbrev pub Leaves : {A : Type 0} → (Hole → Type 0) → Visit → Plan A → Type 0
Leaves P v (Done a) = Unit {0}
Leaves P v (Write bs k) = Leaves P v k
Leaves P v (Attach l k) = Leaves P v k
Leaves P v (Reading r k) = Leaves P v (k (answer v.rows r))
Leaves P v (Asking c k) = Leaves P v (k (value v c))
Leaves P v (Clock age k) = (t : ℕ) → Leaves P v (k t)
Leaves P v (Part h k) = P h × Leaves P v k

pub leaves_bind : {A B : Type 0} (P : Hole → Type 0) (v : Visit) (p : Plan A) (f : A → Plan B) → Leaves P v p → ((a : A) → Leaves P v (f a)) → Leaves P v (p >>= f)
leaves_bind P v (Done a) f first then_each = then_each a
leaves_bind P v (Write bs k) f first then_each = leaves_bind P v k f first then_each
leaves_bind P v (Attach l k) f first then_each = leaves_bind P v k f first then_each
leaves_bind P v (Reading r k) f first then_each = leaves_bind P v (k (answer v.rows r)) f first then_each
leaves_bind P v (Asking c k) f first then_each = leaves_bind P v (k (value v c)) f first then_each
leaves_bind P v (Clock age k) f first then_each = λ t. leaves_bind P v (k t) f (first t) then_each
leaves_bind P v (Part h k) f first then_each = (first.0, leaves_bind P v k f first.1 then_each)

-- What plans leave open is told here in few words: of one after another, a choice, each of a list, a fold along a list,
-- and of what shows nothing.
module _ (P : Hole → Type 0) (v : Visit) where
  both : {A B : Type 0} (p : Plan A) (f : A → Plan B) → Leaves P v p → ((a : A) → Leaves P v (f a)) → Leaves P v (p >>= f)
  both p f first then_each = leaves_bind P v p f first then_each

  either : {A : Type 0} (b : Bool) (p q : Plan A) → Leaves P v p → Leaves P v q → Leaves P v (if b then p else q)
  either true p q first second = first
  either false p q first second = second

  each_leaves : {A : Type 0} (f : A → Plan (Unit {0})) (xs : List A) → ((x : A) → Leaves P v (f x)) → Leaves P v (each f xs)
  unfolding each
  each_leaves f [] of_each = tt
  each_leaves f (x ∷ xs) of_each = both (f x) (λ _. each f xs) (of_each x) (λ _. each_leaves f xs of_each)

  folded_leaves : {A B : Type 0} (f : B → A → Plan B) (b : B) (xs : List A) → ((c : B) (x : A) → Leaves P v (f c x)) → Leaves P v (folded f b xs)
  unfolding folded
  folded_leaves f b [] of_each = tt
  folded_leaves f b (x ∷ xs) of_each = both (f b x) (λ c. folded f c xs) (of_each b x) (λ c. folded_leaves f c xs of_each)

  silent_leaves : {A : Type 0} (p : Plan A) → IsSilent p v → Leaves P v p
  silent_leaves (Done a) silent = tt
  silent_leaves (Write bs k) silent = elim silent [ ]
  silent_leaves (Attach l k) silent = elim silent [ ]
  silent_leaves (Reading r k) silent = silent_leaves (k (answer v.rows r)) silent
  silent_leaves (Asking c k) silent = silent_leaves (k (value v c)) silent
  silent_leaves (Clock age k) silent = elim silent [ ]
  silent_leaves (Part h k) silent = elim silent [ ]

  -- whether a decision allows it
  allowed_leaves : (p : Plan Access) → IsSilent p v → Leaves P v (p >>= λ access. Done (is_allowed access))
  allowed_leaves p silent = both p (λ access. Done (is_allowed access)) (silent_leaves p silent) (λ a. tt)

  holds_leaves : (permission : List ℕ) → Leaves P v (holds permission)
  unfolding holds asking
  holds_leaves permission = tt

  -- ---- nodes

  view_node_leaves : (n : ℕ) → Leaves P v (may_view_node n)
  unfolding may_view_node
  view_node_leaves n = allowed_leaves (node_access op.View n) (node_read op.View n v).silent

  view_field_leaves : (n : ℕ) (type name : List ℕ) → Leaves P v (may_view_field n type name)
  unfolding may_view_field
  view_field_leaves n type name = allowed_leaves (field_access op.View n type name) (field_read op.View n type name v).silent

  view_term_leaves : (t : ℕ) → Leaves P v (may_view_term t)
  unfolding may_view_term
  view_term_leaves t = allowed_leaves (term_access t) (term_read t v).silent

  view_user_leaves : (u : ℕ) → Leaves P v (may_view_user u)
  unfolding may_view_user
  view_user_leaves u = allowed_leaves (user_access u) (user_read u v).silent

  linked_author_leaves : (u : ℕ) (name : List ℕ) → Leaves P v (linked_author u name)
  unfolding linked_author write escaped
  linked_author_leaves u name = tt

  author_found_leaves : (u : ℕ) (o : Option User) → Leaves P v (author_found u o)
  unfolding write escaped
  author_found_leaves u None = tt
  author_found_leaves u (Some user) =
      both (may_view_user u) _ (view_user_leaves u)
      (λ allowed. either allowed _ _ (linked_author_leaves u user.name) tt)

  author_leaves : (uid : ℕ) → Leaves P v (author uid)
  unfolding author write reading
  author_leaves uid = either (uid == 0) _ _ tt (author_found_leaves uid (answer v.rows (UserRow uid)))

  by_line_leaves : (uid created : ℕ) → Leaves P v (by_line uid created)
  unfolding by_line write
  by_line_leaves uid created = both (author uid) _ (author_leaves uid) (λ a. tt)

  submitted_leaves : (node : Node) → Leaves P v (submitted node)
  unfolding submitted
  submitted_leaves node = by_line_leaves node.uid node.created

  submitted_if_leaves : (node : Node) (type : Option NodeType) → Leaves P v (submitted_if node type)
  unfolding submitted_if
  submitted_if_leaves node type = either (is_submitted type) _ _ (submitted_leaves node) tt

  field_shown_leaves : (label text : List ℕ) → Leaves P v (field_shown label text)
  unfolding field_shown write escaped
  field_shown_leaves label text = tt

  field_leaves : (n : ℕ) (node : Node) (row : FieldRow) → Leaves P v (field n node row)
  unfolding field
  field_leaves n node row =
      either (length (field_value node row.name) == 0) _ _ tt
      (both (may_view_field n node.node_type row.name) _ (view_field_leaves n node.node_type row.name)
      (λ allowed. either allowed _ _ (field_shown_leaves row.label (field_value node row.name)) tt))

  teaser_field_leaves : (n : ℕ) (node : Node) (row : FieldRow) → Leaves P v (teaser_field n node row)
  unfolding teaser_field
  teaser_field_leaves n node row = either row.teaser _ _ (field_leaves n node row) tt

  fields_leaves : (n : ℕ) (node : Node) (o : Option NodeType) → Leaves P v (fields n node o)
  fields_leaves n node None = tt
  fields_leaves n node (Some type) = each_leaves (field n node) type.fields (field_leaves n node)

  teaser_fields_leaves : (n : ℕ) (node : Node) (o : Option NodeType) → Leaves P v (teaser_fields n node o)
  teaser_fields_leaves n node None = tt
  teaser_fields_leaves n node (Some type) = each_leaves (teaser_field n node) type.fields (teaser_field_leaves n node)

  with_term_leaves : (found : List ℕ) (t : ℕ) (o : Option Term) → Leaves P v (with_term found t o)
  with_term_leaves found t None = tt
  with_term_leaves found t (Some term) = both (may_view_term t) _ (view_term_leaves t) (λ a. tt)

  with_viewable_term_leaves : (found : List ℕ) (t : ℕ) → Leaves P v (with_viewable_term found t)
  unfolding with_viewable_term reading
  with_viewable_term_leaves found t = with_term_leaves found t (answer v.rows (TermRow t))

  term_named_leaves : (t : ℕ) (o : Option Term) → Leaves P v (term_named t o)
  unfolding write escaped
  term_named_leaves t None = tt
  term_named_leaves t (Some term) = tt

  term_item_leaves : (t : ℕ) → Leaves P v (term_item t)
  unfolding term_item reading
  term_item_leaves t = term_named_leaves t (answer v.rows (TermRow t))

  terms_shown_leaves : (ts : List ℕ) → Leaves P v (terms_shown ts)
  unfolding terms_shown write
  terms_shown_leaves ts = both (each term_item ts) _ (each_leaves term_item ts term_item_leaves) (λ a. tt)

  terms_leaves : (node : Node) → Leaves P v (terms node)
  unfolding terms
  terms_leaves node =
      both (folded with_viewable_term [] node.terms) _ (folded_leaves with_viewable_term [] node.terms with_viewable_term_leaves)
      (λ found. either (length found == 0) _ _ tt (terms_shown_leaves found))

  refs_leaves : (deep : Depth) (node : Node) → ((n : ℕ) → P (hole.Fragment (fragment.Node n (mode.Embed deep)))) → Leaves P v (refs deep node)
  unfolding refs embedded part
  refs_leaves deep node place = each_leaves (embedded deep) node.refs (λ n. (place n, tt))

  -- ---- comments

  comment_text_leaves : (text : List ℕ) → Leaves P v (comment_text text)
  unfolding comment_text write escaped
  comment_text_leaves text = tt

  comment_shown_leaves : (below : Option ℕ → Plan (Unit {0})) (e : ℕ × Comment) → ((parent : Option ℕ) → Leaves P v (below parent)) → Leaves P v (comment_shown below e)
  unfolding comment_shown reading write
  comment_shown_leaves below e of_below =
      both (by_line e.1.uid e.1.created) _ (by_line_leaves e.1.uid e.1.created)
      (λ a. both (comment_text e.1.body) _ (comment_text_leaves e.1.body)
      (λ b. both (below (Some e.0)) _ (of_below (Some e.0)) (λ c. tt)))

  comment_below_leaves : (below : Option ℕ → Plan (Unit {0})) (reader : CommentReader) (parent : Option ℕ) (e : ℕ × Comment) → ((k : Option ℕ) → Leaves P v (below k)) → Leaves P v (comment_below below reader parent e)
  unfolding comment_below
  comment_below_leaves below reader parent e of_below = either (is_shown reader parent e.1) _ _ (comment_shown_leaves below e of_below) tt

  replies_leaves : (levels : ℕ) (reader : CommentReader) (all : List (ℕ × Comment)) (parent : Option ℕ) → Leaves P v (replies levels reader all parent)
  unfolding replies
  replies_leaves zero reader all parent = tt
  replies_leaves (suc levels) reader all parent =
      each_leaves (comment_below (replies levels reader all) reader parent) all
      (λ e. comment_below_leaves (replies levels reader all) reader parent e (replies_leaves levels reader all))

  comments_shown_leaves : (reader : CommentReader) (all : List (ℕ × Comment)) → Leaves P v (comments_shown reader all)
  unfolding comments_shown attach write
  comments_shown_leaves reader all =
      either (list_any (λ e. is_shown reader None e.1) all) _ _ (both (replies 9 reader all None) _ (replies_leaves 9 reader all None) (λ a. tt)) tt

  comments_for_leaves : (reader : CommentReader) (n : ℕ) → Leaves P v (comments_for reader n)
  unfolding comments_for reading
  comments_for_leaves reader n = either (reads_some reader) _ _ (comments_shown_leaves reader (answer v.rows (CommentsOf n))) tt

  comments_leaves : (n : ℕ) → Leaves P v (comments n)
  unfolding comments
  comments_leaves n =
      both (holds administer_comments) _ (holds_leaves administer_comments)
      (λ administers. both (holds access_comments) _ (holds_leaves access_comments)
      (λ accesses. comments_for_leaves (record { administers = administers; accesses = accesses }) n))

  node_full_leaves : (n : ℕ) (node : Node) → ((m : ℕ) → P (hole.Fragment (fragment.Node m (mode.Embed depth.One)))) → Leaves P v (node_full n node)
  unfolding node_full attach reading write
  node_full_leaves n node place =
      let type = answer v.rows (TypeRow node.node_type) in
      both (submitted_if node type) _ (submitted_if_leaves node type)
      (λ a. both (fields n node type) _ (fields_leaves n node type)
      (λ b. both (terms node) _ (terms_leaves node)
      (λ c. both (refs depth.One node) _ (refs_leaves depth.One node place)
      (λ d. both (comments n) _ (comments_leaves n) (λ e. tt)))))

  href_leaves : (n : ℕ) (o : Option (List ℕ)) → Leaves P v (href n o)
  unfolding write escaped
  href_leaves n None = tt
  href_leaves n (Some path) = tt

  linked_title_leaves : (n : ℕ) (node : Node) → Leaves P v (linked_title n node)
  unfolding linked_title write escaped
  linked_title_leaves n node = both (href n node.path) _ (href_leaves n node.path) (λ a. tt)

  node_teaser_leaves : (n : ℕ) (node : Node) → Leaves P v (node_teaser n node)
  unfolding node_teaser attach reading write
  node_teaser_leaves n node =
      let type = answer v.rows (TypeRow node.node_type) in
      both (linked_title n node) _ (linked_title_leaves n node)
      (λ a. both (submitted_if node type) _ (submitted_if_leaves node type)
      (λ b. both (teaser_fields n node type) _ (teaser_fields_leaves n node type) (λ c. tt)))

  node_embed_leaves : (deep : Depth) (n : ℕ) (node : Node) → Leaves P v (refs_below deep node) → Leaves P v (node_embed deep n node)
  unfolding node_embed attach reading write
  node_embed_leaves deep n node below =
      let type = answer v.rows (TypeRow node.node_type) in
      both (linked_title n node) _ (linked_title_leaves n node)
      (λ a. both (teaser_fields n node type) _ (teaser_fields_leaves n node type)
      (λ b. both (refs_below deep node) _ below (λ c. tt)))

  or_nothing_leaves : (m : Mode) (n : ℕ) (o : Option Node) → ((node : Node) → Leaves P v (node_in_mode m n node)) → Leaves P v (node_or_nothing m n o)
  or_nothing_leaves m n None in_mode = tt
  or_nothing_leaves m n (Some node) in_mode =
      both (may_view_node n) _ (view_node_leaves n) (λ allowed. either allowed _ _ (in_mode node) tt)

  node_leaves : (n : ℕ) (m : Mode) → ((node : Node) → Leaves P v (node_in_mode m n node)) → Leaves P v (node_shown n m)
  unfolding node_shown reading
  node_leaves n m in_mode = or_nothing_leaves m n (answer v.rows (NodeRow n)) in_mode

  -- ---- listings

  of_types_leaves : (types : List (List ℕ)) → Leaves P v (of_types types)
  unfolding of_types reading
  of_types_leaves [] = tt
  of_types_leaves (t ∷ ts) = both (of_types ts) _ (of_types_leaves ts) (λ a. tt)

  among_leaves : (types : List (List ℕ)) → Leaves P v (among types)
  unfolding reading
  among_leaves [] = tt
  among_leaves (t ∷ ts) = of_types_leaves (t ∷ ts)

  terms_for_leaves : (term : Option ℕ) → Leaves P v (terms_for term)
  unfolding reading
  terms_for_leaves None = tt
  terms_for_leaves (Some t) = tt

  candidates_leaves : (listing : Listing) (moment : ℕ) → Leaves P v (candidate_rows listing moment)
  unfolding candidate_rows
  candidates_leaves listing moment =
      both (among listing.types) _ (among_leaves listing.types) (λ nodes. both (terms_for listing.term) _ (terms_for_leaves listing.term) (λ terms. tt))

  moment_leaves : (age : Option ℕ) → Leaves P v (moment_within age)
  unfolding clock
  moment_leaves None = tt
  moment_leaves (Some age) = λ t. tt

  viewable_leaves : (ids : List ℕ) (n : ℕ) → Leaves P v (with_viewable may_view_node ids n)
  unfolding with_viewable
  viewable_leaves ids n = both (may_view_node n) _ (view_node_leaves n) (λ allowed. either allowed _ _ tt tt)

  rows_leaves : (listing : Listing) → Leaves P v (listing_rows may_view_node listing)
  unfolding listing_rows
  rows_leaves listing =
      both (moment_within listing.age) _ (moment_leaves listing.age)
      (λ moment. both (candidate_rows listing moment) _ (candidates_leaves listing moment)
      (λ ids. folded_leaves (with_viewable may_view_node) [] ids viewable_leaves))

  number_leaves : (where_placed : Placing) → Leaves P v (page_number where_placed)
  unfolding asked_page asking
  number_leaves placing.OnPage = tt
  number_leaves placing.InBlock = tt

  previous_leaves : (page : Page) → Leaves P v (previous_link page)
  unfolding previous_link write
  previous_leaves page = either page.is_first _ _ tt tt

  next_leaves : (page : Page) → Leaves P v (next_link page)
  unfolding next_link write
  next_leaves page = either page.is_last _ _ tt tt

  pager_leaves : (page : Page) → Leaves P v (pager page)
  unfolding pager pager_shown attach write
  pager_leaves page =
      either (page.is_first && page.is_last) _ _ tt
      (both (previous_link page) _ (previous_leaves page) (λ a. both (next_link page) _ (next_leaves page) (λ b. tt)))

  pager_in_leaves : (where_placed : Placing) (page : Page) → Leaves P v (pager_in where_placed page)
  pager_in_leaves placing.OnPage page = pager_leaves page
  pager_in_leaves placing.InBlock page = tt

  by_viewer_leaves : Leaves P v by_viewer
  unfolding by_viewer asking
  by_viewer_leaves = tt

  -- a listing leaves open the places of teasers
  module _ (teaser : (n : ℕ) → P (hole.Fragment (fragment.Node n mode.Teaser))) where
    listed_leaves : (ids : List ℕ) → Leaves P v (nodes_or_none ids)
    unfolding nodes_or_none listed_nodes listed_node write part
    listed_leaves ids =
        either (length ids == 0) _ _ tt
        (both (each listed_node ids) _ (each_leaves listed_node ids (λ n. (teaser n, tt))) (λ a. tt))

    of_nodes_leaves : (where_placed : Placing) (ids : List ℕ) (page : Page) → Leaves P v (page_of_nodes where_placed ids page)
    unfolding page_of_nodes
    of_nodes_leaves where_placed ids page =
        both (nodes_or_none (take (page.end - page.start) (drop page.start ids))) _ (listed_leaves (take (page.end - page.start) (drop page.start ids)))
        (λ a. pager_in_leaves where_placed page)

    listing_view_leaves : (where_placed : Placing) (listing : Listing) → Leaves P v (listing_view where_placed listing)
    unfolding listing_view
    listing_view_leaves where_placed listing =
        both by_viewer _ by_viewer_leaves
        (λ a. both (listing_rows may_view_node listing) _ (rows_leaves listing)
        (λ ids. both (page_number where_placed) _ (number_leaves where_placed)
        (λ asked. of_nodes_leaves where_placed ids (page_of_rows (length ids) asked))))

    listing_or_leaves : (where_placed : Placing) (o : Option Listing) → Leaves P v (listing_or_nothing where_placed o)
    listing_or_leaves where_placed None = tt
    listing_or_leaves where_placed (Some listing) = listing_view_leaves where_placed listing

    listing_leaves : (name : List ℕ) (where_placed : Placing) → Leaves P v (listing_shown name where_placed)
    unfolding listing_shown reading
    listing_leaves name where_placed = listing_or_leaves where_placed (answer v.rows (ListingRow name))

    term_listing_leaves : (t : ℕ) → Leaves P v (term_listing_shown t)
    unfolding term_listing_shown
    term_listing_leaves t = listing_view_leaves placing.OnPage (term_listing t)

  -- ---- menus

  follow_to_leaves : (to : Route) → Leaves P v (may_follow_to to)
  follow_to_leaves (route.Node n) = allowed_leaves (route_access (route.Node n)) (route_read (route.Node n) v).silent
  follow_to_leaves (route.Term t) = allowed_leaves (route_access (route.Term t)) (route_read (route.Term t) v).silent
  follow_to_leaves (route.User u) = allowed_leaves (route_access (route.User u)) (route_read (route.User u) v).silent
  follow_to_leaves (route.Listing name) = allowed_leaves (route_access (route.Listing name)) (route_read (route.Listing name) v).silent
  follow_to_leaves (route.Json it) = allowed_leaves (route_access (route.Json it)) (route_read (route.Json it) v).silent
  follow_to_leaves route.Login = tt
  follow_to_leaves route.Nothing = tt

  follow_leaves : (path : List ℕ) → Leaves P v (may_follow path)
  unfolding may_follow reading
  follow_leaves path = follow_to_leaves (answer v.rows (PathRoute path))

  follow_link_leaves : (o : Option Link) → Leaves P v (may_follow_link o)
  follow_link_leaves None = tt
  follow_link_leaves (Some link) = follow_leaves link.path

  with_shown_leaves : (links : List Link) (found : Shown) (place : MenuPlace) → Leaves P v (with_shown links found place)
  unfolding with_shown
  with_shown_leaves links found place =
      either (nat_le place.depth found.deepest) _ _
      (both (may_follow_link (slice_get links place.link)) _ (follow_link_leaves (slice_get links place.link)) (λ a. tt)) tt

  link_at_leaves : (trail : List (List ℕ)) (o : Option Link) → Leaves P v (link_at trail o)
  unfolding link_shown write escaped
  link_at_leaves trail None = tt
  link_at_leaves trail (Some link) = tt

  lists_end_leaves : (levels : ℕ) → Leaves P v (lists_end levels)
  unfolding write
  lists_end_leaves zero = tt
  lists_end_leaves (suc levels) = lists_end_leaves levels

  closed_link_leaves : (depth next : ℕ) → Leaves P v (link_closed depth next)
  unfolding link_closed write
  closed_link_leaves depth next = either (nat_lt depth next) _ _ tt (lists_end_leaves (depth - next))

  links_leaves : (trail : List (List ℕ)) (links : List Link) (places : List MenuPlace) → Leaves P v (links_shown trail links places)
  unfolding links_shown
  links_leaves trail links [] = tt
  links_leaves trail links (place ∷ places) =
      both (link_at trail (slice_get links place.link)) _ (link_at_leaves trail (slice_get links place.link))
      (λ a. both (link_closed place.depth (depth_after places)) _ (closed_link_leaves place.depth (depth_after places))
      (λ b. links_leaves trail links places))

  menu_view_leaves : (name : List ℕ) (menu : Menu) → Leaves P v (menu_view name menu)
  unfolding menu_view attach asking write
  menu_view_leaves name menu =
      both (folded (with_shown menu.links) none_shown (places_of menu.links)) _
      (folded_leaves (with_shown menu.links) none_shown (places_of menu.links) (with_shown_leaves menu.links))
      (λ found. both (links_shown (value v (context.MenuTrail name)) menu.links found.places) _
      (links_leaves (value v (context.MenuTrail name)) menu.links found.places) (λ a. tt))

  menu_or_leaves : (name : List ℕ) (o : Option Menu) → Leaves P v (menu_or_nothing name o)
  menu_or_leaves name None = tt
  menu_or_leaves name (Some menu) = menu_view_leaves name menu

  menu_leaves : (name : List ℕ) → Leaves P v (menu_shown name)
  unfolding menu_shown reading
  menu_leaves name = menu_or_leaves name (answer v.rows (MenuRow name))

  -- ---- blocks

  for_viewer_leaves : (roles : List (List ℕ)) → Leaves P v (for_viewer roles)
  unfolding for_viewer asking
  for_viewer_leaves [] = tt
  for_viewer_leaves (role ∷ roles) = tt

  on_path_leaves : (hide : Bool) (places : List (List ℕ)) → Leaves P v (on_path hide places)
  unfolding on_path at_front asking
  on_path_leaves hide [] = tt
  on_path_leaves hide (place ∷ places) =
      both (at_front (names_front (place ∷ places))) _ (either (names_front (place ∷ places)) _ _ tt tt) (λ a. tt)

  visible_leaves : (block : Block) → Leaves P v (visible block)
  unfolding visible
  visible_leaves block =
      both (for_viewer block.roles) _ (for_viewer_leaves block.roles)
      (λ mine. both (on_path block.hide block.paths) _ (on_path_leaves block.hide block.paths) (λ a. tt))

  text_body_leaves : (o : Option (List ℕ)) → Leaves P v (text_body o)
  unfolding write escaped
  text_body_leaves None = tt
  text_body_leaves (Some text) = tt

  greeting_leaves : Leaves P v greeting_body
  unfolding greeting_body hello asking reading write escaped
  greeting_leaves = either (v.viewer.uid == 0) _ _ tt tt

  csrf_leaves : (o : Option (List ℕ)) → Leaves P v (csrf_of_session o)
  unfolding write
  csrf_leaves None = tt
  csrf_leaves (Some token) = tt

  csrf_body_leaves : Leaves P v csrf_body
  unfolding csrf_body asking
  csrf_body_leaves = csrf_leaves v.viewer.session

  clock_leaves : (age : ℕ) → Leaves P v (clock_body age)
  unfolding clock_body attach clock write
  clock_leaves age = λ t. tt

  label_leaves : (label : List ℕ) → Leaves P v (block_label label)
  unfolding block_label write escaped
  label_leaves label = either (length label == 0) _ _ tt tt

  -- a block leaves open the places of menus and of listings
  module _ (menu : (name : List ℕ) → P (hole.Fragment (fragment.Menu name))) (listing : (name : List ℕ) → P (hole.Fragment (fragment.Listing name placing.InBlock))) where
    menu_there_leaves : (name : List ℕ) (o : Option Menu) → Leaves P v (menu_there name o)
    unfolding part
    menu_there_leaves name None = tt
    menu_there_leaves name (Some row) = (menu name, tt)

    menu_body_leaves : (o : Option (List ℕ)) → Leaves P v (menu_body o)
    unfolding reading
    menu_body_leaves None = tt
    menu_body_leaves (Some name) = menu_there_leaves name (answer v.rows (MenuRow name))

    listing_there_leaves : (name : List ℕ) (o : Option Listing) → Leaves P v (listing_there name o)
    unfolding part
    listing_there_leaves name None = tt
    listing_there_leaves name (Some row) =
        both (holds access_content) _ (holds_leaves access_content) (λ allowed. either allowed _ _ (listing name, tt) tt)

    listing_body_leaves : (o : Option (List ℕ)) → Leaves P v (listing_body o)
    unfolding reading
    listing_body_leaves None = tt
    listing_body_leaves (Some name) = listing_there_leaves name (answer v.rows (ListingRow name))

    body_leaves : (k : BlockKind) (block : Block) → Leaves P v (body_of_kind k block)
    body_leaves kind.Text block = text_body_leaves block.text
    body_leaves kind.Menu block = menu_body_leaves block.name
    body_leaves kind.Listing block = listing_body_leaves block.name
    body_leaves kind.Greeting block = greeting_leaves
    body_leaves kind.Csrf block = csrf_body_leaves
    body_leaves kind.Clock block = clock_leaves (unwrap_or block.age 0)

    block_view_leaves : (block : Block) → Leaves P v (block_view block)
    unfolding block_view write
    block_view_leaves block =
        both (block_label block.label) _ (label_leaves block.label)
        (λ a. both (body_of_kind block.kind block) _ (body_leaves block.kind block) (λ b. tt))

    block_or_leaves : (o : Option Block) → Leaves P v (block_or_nothing o)
    block_or_leaves None = tt
    block_or_leaves (Some block) = block_view_leaves block

    block_leaves : (name : List ℕ) → Leaves P v (block_shown name)
    unfolding block_shown reading
    block_leaves name = block_or_leaves (answer v.rows (BlockRow name))

  -- ---- what is told as JSON leaves no place open

  told_leaves : (status : ℕ) (text : List ℕ) → Leaves P v (told status text)
  unfolding told write
  told_leaves status text = tt

  json_denied_leaves : (why : Reason) → Leaves P v (json_denied why)
  unfolding json_denied
  json_denied_leaves why = told_leaves 403 (denied_json why)

  json_not_found_leaves : Leaves P v json_not_found
  unfolding json_not_found
  json_not_found_leaves = told_leaves 404 no_target_json

  shown_field_leaves : (n : ℕ) (node : Node) (found : List FieldValue) (row : FieldRow) → Leaves P v (with_shown_field n node found row)
  unfolding with_shown_field
  shown_field_leaves n node found row =
      either (length (field_value node row.name) == 0) _ _ tt
      (both (may_view_field n node.node_type row.name) _ (view_field_leaves n node.node_type row.name) (λ allowed. tt))

  shown_fields_leaves : (n : ℕ) (node : Node) (o : Option NodeType) → Leaves P v (shown_fields n node o)
  shown_fields_leaves n node None = tt
  shown_fields_leaves n node (Some type) = folded_leaves (with_shown_field n node) [] type.fields (shown_field_leaves n node)

  json_node_answer_leaves : (n : ℕ) (node : Node) (access : Access) → Leaves P v (json_node_answer n node access)
  unfolding reading
  json_node_answer_leaves n node Allowed =
      let type = answer v.rows (TypeRow node.node_type) in
      both (shown_fields n node type) _ (shown_fields_leaves n node type)
      (λ fields. both (folded with_viewable_term [] node.terms) _ (folded_leaves with_viewable_term [] node.terms with_viewable_term_leaves)
      (λ terms. told_leaves 200 (node_json n node fields terms)))
  json_node_answer_leaves n node (Denied why) = json_denied_leaves why

  json_node_found_leaves : (n : ℕ) (o : Option Node) → Leaves P v (json_node_found n o)
  json_node_found_leaves n None = json_not_found_leaves
  json_node_found_leaves n (Some node) =
      both (node_access op.View n) (json_node_answer n node) (silent_leaves (node_access op.View n) (node_read op.View n v).silent) (json_node_answer_leaves n node)

  json_term_answer_leaves : (t : ℕ) (term : Term) (access : Access) → Leaves P v (json_term_answer t term access)
  json_term_answer_leaves t term Allowed = told_leaves 200 (term_json t term)
  json_term_answer_leaves t term (Denied why) = json_denied_leaves why

  json_term_found_leaves : (t : ℕ) (o : Option Term) → Leaves P v (json_term_found t o)
  json_term_found_leaves t None = json_not_found_leaves
  json_term_found_leaves t (Some term) =
      both (term_access t) (json_term_answer t term) (silent_leaves (term_access t) (term_read t v).silent) (json_term_answer_leaves t term)

  json_user_answer_leaves : (u : ℕ) (user : User) (access : Access) → Leaves P v (json_user_answer u user access)
  json_user_answer_leaves u user Allowed = told_leaves 200 (user_json u user)
  json_user_answer_leaves u user (Denied why) = json_denied_leaves why

  json_user_found_leaves : (u : ℕ) (o : Option User) → Leaves P v (json_user_found u o)
  json_user_found_leaves u None = json_not_found_leaves
  json_user_found_leaves u (Some user) =
      both (user_access u) (json_user_answer u user) (silent_leaves (user_access u) (user_read u v).silent) (json_user_answer_leaves u user)

  with_row_leaves : (found : List (ℕ × Node)) (n : ℕ) (o : Option Node) → Leaves P v (with_row found n o)
  with_row_leaves found n None = tt
  with_row_leaves found n (Some node) = tt

  with_listed_leaves : (found : List (ℕ × Node)) (n : ℕ) → Leaves P v (with_listed found n)
  unfolding with_listed reading
  with_listed_leaves found n = with_row_leaves found n (answer v.rows (NodeRow n))

  json_listing_page_leaves : (ids : List ℕ) (page : Page) → Leaves P v (json_listing_page ids page)
  unfolding json_listing_page
  json_listing_page_leaves ids page =
      both (folded with_listed [] (take (page.end - page.start) (drop page.start ids))) _
      (folded_leaves with_listed [] (take (page.end - page.start) (drop page.start ids)) with_listed_leaves)
      (λ nodes. told_leaves 200 (listing_json nodes page.number (last_page (length ids) + 1)))

  asked_leaves : Leaves P v asked_page
  unfolding asked_page asking
  asked_leaves = tt

  json_listing_view_leaves : (listing : Listing) → Leaves P v (json_listing_view listing)
  unfolding json_listing_view
  json_listing_view_leaves listing =
      both by_viewer _ by_viewer_leaves
      (λ a. both (listing_rows may_view_node listing) _ (rows_leaves listing)
      (λ ids. both asked_page _ asked_leaves
      (λ asked. json_listing_page_leaves ids (page_of_rows (length ids) asked))))

  listing_access_leaves : Leaves P v listing_access
  unfolding listing_access
  listing_access_leaves = both (holds access_content) _ (holds_leaves access_content) (λ a. tt)

  json_listing_answer_leaves : (listing : Listing) (access : Access) → Leaves P v (json_listing_answer listing access)
  json_listing_answer_leaves listing Allowed = json_listing_view_leaves listing
  json_listing_answer_leaves listing (Denied why) = json_denied_leaves why

  json_listing_found_leaves : (o : Option Listing) → Leaves P v (json_listing_found o)
  json_listing_found_leaves None = json_not_found_leaves
  json_listing_found_leaves (Some listing) = both listing_access (json_listing_answer listing) listing_access_leaves (json_listing_answer_leaves listing)

  pub json_leaves : (it : Entity) → Leaves P v (json_page it)
  unfolding json_node json_term json_user json_listing reading
  json_leaves (entity.Node n) = json_node_found_leaves n (answer v.rows (NodeRow n))
  json_leaves (entity.Term t) = json_term_found_leaves t (answer v.rows (TermRow t))
  json_leaves (entity.User u) = json_user_found_leaves u (answer v.rows (UserRow u))
  json_leaves (entity.Listing name) = json_listing_found_leaves (answer v.rows (ListingRow name))

  -- ---- a page leaves open the place of the libraries, and those of blocks, of a node in full and of listings
  module _ (meta : P hole.Meta) (block : (name : List ℕ) → P (hole.Fragment (fragment.Block name))) (full : (n : ℕ) → P (hole.Fragment (fragment.Node n mode.Full))) (of_term : (t : ℕ) → P (hole.Fragment (fragment.TermListing t))) (listing : (name : List ℕ) → P (hole.Fragment (fragment.Listing name placing.OnPage))) where
    if_visible_leaves : (name : List ℕ) (o : Option Block) → Leaves P v (block_if_visible name o)
    unfolding part
    if_visible_leaves name None = tt
    if_visible_leaves name (Some row) =
        both (visible row) _ (visible_leaves row) (λ shows. either shows _ _ (block name, tt) tt)

    block_place_leaves : (name : List ℕ) → Leaves P v (block_place name)
    unfolding block_place reading
    block_place_leaves name = if_visible_leaves name (answer v.rows (BlockRow name))

    region_leaves : (where_placed : Region) → Leaves P v (region where_placed)
    unfolding region region_names reading
    region_leaves where_placed = each_leaves block_place _ block_place_leaves

    top_leaves : (title : List ℕ) → Leaves P v (page_top title)
    unfolding page_top reading write escaped part
    top_leaves title = (meta, both (region at.Header) _ (region_leaves at.Header) (λ a. tt))

    bottom_leaves : Leaves P v page_bottom
    unfolding page_bottom write
    bottom_leaves =
        both (region at.Aside) _ (region_leaves at.Aside) (λ a. both (region at.Footer) _ (region_leaves at.Footer) (λ b. tt))

    framed_leaves : (status : ℕ) (title : List ℕ) (content : Plan (Unit {0})) → Leaves P v content → Leaves P v (framed status title content)
    unfolding framed
    framed_leaves status title content of_content =
        both (page_top title) _ (top_leaves title)
        (λ a. both content _ of_content (λ b. both page_bottom _ bottom_leaves (λ c. tt)))

    not_found_leaves : Leaves P v not_found
    unfolding not_found write
    not_found_leaves = framed_leaves 404 pieces.not_found_title (write pieces.not_found_content) tt

    denied_leaves : (why : Reason) → Leaves P v (denied why)
    unfolding denied denied_content write escaped
    denied_leaves why = framed_leaves 403 pieces.denied_title (denied_content why) tt

    node_answer_leaves : (n : ℕ) (node : Node) (access : Access) → Leaves P v (node_answer n node access)
    unfolding part
    node_answer_leaves n node Allowed = framed_leaves 200 node.title (part (hole.Fragment (fragment.Node n mode.Full))) (full n, tt)
    node_answer_leaves n node (Denied why) = denied_leaves why

    node_found_leaves : (n : ℕ) (o : Option Node) → Leaves P v (node_found n o)
    node_found_leaves n None = not_found_leaves
    node_found_leaves n (Some node) =
        both (node_access op.View n) (node_answer n node) (silent_leaves (node_access op.View n) (node_read op.View n v).silent) (node_answer_leaves n node)

    described_leaves : (text : List ℕ) → Leaves P v (described text)
    unfolding described write escaped
    described_leaves text = either (length text == 0) _ _ tt tt

    term_content_leaves : (t : ℕ) (term : Term) → Leaves P v (term_content t term)
    unfolding term_content part
    term_content_leaves t term =
        both (described term.description) _ (described_leaves term.description)
        (λ a. both (holds access_content) _ (holds_leaves access_content) (λ allowed. either allowed _ _ (of_term t, tt) tt))

    term_answer_leaves : (t : ℕ) (term : Term) (access : Access) → Leaves P v (term_answer t term access)
    term_answer_leaves t term Allowed = framed_leaves 200 term.name (term_content t term) (term_content_leaves t term)
    term_answer_leaves t term (Denied why) = denied_leaves why

    term_found_leaves : (t : ℕ) (o : Option Term) → Leaves P v (term_found t o)
    term_found_leaves t None = not_found_leaves
    term_found_leaves t (Some term) =
        both (term_access t) (term_answer t term) (silent_leaves (term_access t) (term_read t v).silent) (term_answer_leaves t term)

    user_answer_leaves : (user : User) (access : Access) → Leaves P v (user_answer user access)
    unfolding member_since write
    user_answer_leaves user Allowed = framed_leaves 200 user.name (member_since user.created) tt
    user_answer_leaves user (Denied why) = denied_leaves why

    user_found_leaves : (u : ℕ) (o : Option User) → Leaves P v (user_found u o)
    user_found_leaves u None = not_found_leaves
    user_found_leaves u (Some user) =
        both (user_access u) (user_answer user) (silent_leaves (user_access u) (user_read u v).silent) (user_answer_leaves user)

    listing_answer_leaves : (name : List ℕ) (row : Listing) (access : Access) → Leaves P v (listing_answer name row access)
    unfolding part
    listing_answer_leaves name row Allowed = framed_leaves 200 row.title (part (hole.Fragment (fragment.Listing name placing.OnPage))) (listing name, tt)
    listing_answer_leaves name row (Denied why) = denied_leaves why

    listing_found_leaves : (name : List ℕ) (o : Option Listing) → Leaves P v (listing_found name o)
    listing_found_leaves name None = not_found_leaves
    listing_found_leaves name (Some row) = both listing_access (listing_answer name row) listing_access_leaves (listing_answer_leaves name row)

    login_leaves : Leaves P v login_page
    unfolding login_page login_content attach write
    login_leaves = framed_leaves 200 pieces.login_title login_content tt

    nothing_found_leaves : (json : Bool) → Leaves P v (nothing_found json)
    unfolding nothing_found
    nothing_found_leaves json = either json _ _ json_not_found_leaves not_found_leaves

    at_leaves : (json : Bool) (r : Route) → Leaves P v (page_at json r)
    unfolding node_page term_page user_page listing_page reading
    at_leaves json (route.Node n) = node_found_leaves n (answer v.rows (NodeRow n))
    at_leaves json (route.Term t) = term_found_leaves t (answer v.rows (TermRow t))
    at_leaves json (route.User u) = user_found_leaves u (answer v.rows (UserRow u))
    at_leaves json (route.Listing name) = listing_found_leaves name (answer v.rows (ListingRow name))
    at_leaves json (route.Json it) = json_leaves it
    at_leaves json route.Login = login_leaves
    at_leaves json route.Nothing = nothing_found_leaves json

    page_leaves : (path : List ℕ) → Leaves P v (page path)
    unfolding page reading
    page_leaves path = at_leaves (is_json path) (answer v.rows (PathRoute path))

-- the places that stand in a fragment of a level: those of fragments of lower levels
abbrev IsBelow : ℕ → Hole → Type 0
IsBelow k hole.Meta = ⊥
IsBelow k (hole.Fragment f) = fragment_level f < k

-- a fragment leaves open places of lower levels
module _ (P : Hole → Type 0) (v : Visit) where
  embed_leaves : (deep : Depth) (n : ℕ) (node : Node) → ((h : Hole) → IsBelow (fragment_level (fragment.Node n (mode.Embed deep))) h → P h) → Leaves P v (node_embed deep n node)
  embed_leaves depth.One n node lower =
      node_embed_leaves P v depth.One n node (refs_leaves P v depth.Two node (λ m. lower (hole.Fragment (fragment.Node m (mode.Embed depth.Two))) (omega arith)))
  embed_leaves depth.Two n node lower =
      node_embed_leaves P v depth.Two n node (refs_leaves P v depth.Three node (λ m. lower (hole.Fragment (fragment.Node m (mode.Embed depth.Three))) (omega arith)))
  embed_leaves depth.Three n node lower = node_embed_leaves P v depth.Three n node tt

  mode_leaves : (m : Mode) (n : ℕ) → ((h : Hole) → IsBelow (fragment_level (fragment.Node n m)) h → P h) → (node : Node) → Leaves P v (node_in_mode m n node)
  mode_leaves mode.Full n lower node =
      node_full_leaves P v n node (λ m. lower (hole.Fragment (fragment.Node m (mode.Embed depth.One))) (omega arith))
  mode_leaves mode.Teaser n lower node = node_teaser_leaves P v n node
  mode_leaves (mode.Embed deep) n lower node = embed_leaves deep n node lower

  fragment_leaves : (f : Fragment) → ((h : Hole) → IsBelow (fragment_level f) h → P h) → Leaves P v (fragment_shown f)
  fragment_leaves (fragment.Block name) lower =
      block_leaves P v (λ menu. lower (hole.Fragment (fragment.Menu menu)) (omega arith))
      (λ listing. lower (hole.Fragment (fragment.Listing listing placing.InBlock)) (omega arith)) name
  fragment_leaves (fragment.Menu name) lower = menu_leaves P v name
  fragment_leaves (fragment.Listing name where_placed) lower =
      listing_leaves P v (λ n. lower (hole.Fragment (fragment.Node n mode.Teaser)) (omega arith)) name where_placed
  fragment_leaves (fragment.TermListing t) lower =
      term_listing_leaves P v (λ n. lower (hole.Fragment (fragment.Node n mode.Teaser)) (omega arith)) t
  fragment_leaves (fragment.Node n m) lower = node_leaves P v n m (mode_leaves m n lower)

-- Which places stay open once all others are filled in: `Open` says it of each.
module _ (Open : Hole → Type 0) where
  -- a place is such a one, or what is filled in there leaves such places open alone
  abbrev ClosedAt : Visit → Option (Plan (Option ℕ)) → Hole → Type 0
  ClosedAt v None h = Open h
  ClosedAt v (Some child) h = Leaves Open v child

  closed_at : {A : Type 0} (v : Visit) (o : Option (Plan (Option ℕ))) (h : Hole) (k : Plan A) → ClosedAt v o h → Leaves Open v k → Leaves Open v (at_place o h k)
  closed_at v None h k closed rest = (closed, rest)
  closed_at v (Some child) h k closed rest = leaves_bind Open v child (λ _. k) closed (λ _. rest)

  closed : {A : Type 0} (v : Visit) (fill : Filling) (p : Plan A) → Leaves (λ h. ClosedAt v (fill h) h) v p → Leaves Open v (filled_in fill p)
  closed v fill (Done a) leaves = tt
  closed v fill (Write bs k) leaves = closed v fill k leaves
  closed v fill (Attach l k) leaves = closed v fill k leaves
  closed v fill (Reading r k) leaves = closed v fill (k (answer v.rows r)) leaves
  closed v fill (Asking c k) leaves = closed v fill (k (value v c)) leaves
  closed v fill (Clock age k) leaves = λ t. closed v fill (k t) (leaves t)
  closed v fill (Part h k) leaves = closed_at v (fill h) h (filled_in fill k) leaves.0 (closed v fill k leaves.1)

  -- a fragment whose places are closed is closed
  closed_fragment : (v : Visit) (fill : Filling) (f : Fragment) → ((h : Hole) → IsBelow (fragment_level f) h → ClosedAt v (fill h) h) → Leaves Open v (filled_in {A = Option ℕ} fill (fragment_shown f >> Done None))
  closed_fragment v fill f lower =
      closed v fill (fragment_shown f >> Done None)
      (leaves_bind (λ h. ClosedAt v (fill h) h) v (fragment_shown f) (λ _. Done None) (fragment_leaves (λ h. ClosedAt v (fill h) h) v f lower) (λ a. tt))

  -- a place of a lower level is closed
  choice_closed : (v : Visit) (b : Bool) (h : Hole) (here there : Option (Plan (Option ℕ))) → (b ≡ true → ClosedAt v here h) → (b ≡ false → ClosedAt v there h) → ClosedAt v (if b then here else there) h
  choice_closed v true h here there if_here if_there = if_here refl
  choice_closed v false h here there if_here if_there = if_there refl

  closed_below : (v : Visit) (k : ℕ) (h : Hole) → IsBelow k h → ClosedAt v (shown_below k h) h
  closed_below v zero hole.Meta below = absurd below
  closed_below v zero (hole.Fragment f) below = absurd (omega arith)
  closed_below v (suc k) hole.Meta below = absurd below
  closed_below v (suc k) (hole.Fragment f) below =
      choice_closed v (fragment_level f == k) (hole.Fragment f) (Some (filled_in (shown_below k) (fragment_shown f >> Done None))) (shown_below k (hole.Fragment f))
      (λ is. closed_fragment v (shown_below k) f (λ h lower. closed_below v k h (subst (λ l. IsBelow l h) (eqb-true (fragment_level f) k is) lower)))
      (λ is. let other = eqb-false (fragment_level f) k is in closed_below v k (hole.Fragment f) (omega arith))

  -- whatever the path, a whole fragment leaves such places open alone
  whole_fragment : (path : List ℕ) (f : Fragment) (v : Visit) → Leaves Open v (whole path (element.Fragment f))
  whole_fragment path f v = closed_fragment v (shown_below (fragment_level f)) f (λ h lower. closed_below v (fragment_level f) h lower)

-- the place of the libraries
abbrev IsMeta : Hole → Type 0
IsMeta hole.Meta = Unit {0}
IsMeta (hole.Fragment f) = ⊥

only_bytes : (bs : List ℕ) (ps : List Piece) → OnlyMeta ps → OnlyMeta (bytes bs ++ ps)
only_bytes [] ps only = only
only_bytes (b ∷ bs) ps only = only_bytes bs ps only

only_place : (h : Hole) (ps : List Piece) → IsMeta h → OnlyMeta ps → OnlyMeta (Place h ∷ ps)
only_place hole.Meta ps is only = only
only_place (hole.Fragment f) ps is only = is

only_made : {A : Type 0} (p : Plan A) (v : Visit) (x : A) (shown : List Piece) (libraries : List Library) (needs : Needs) → Leaves IsMeta v p → Made p v x shown libraries needs → OnlyMeta shown
only_made (Done a) v x shown libraries needs leaves made = subst OnlyMeta (sym made.1) tt
only_made (Write bs k) v x shown libraries needs leaves made = subst OnlyMeta (sym made.1) (only_bytes bs made.0 (only_made k v x made.0 libraries needs leaves made.2))
only_made (Attach l k) v x shown libraries needs leaves made = only_made k v x shown made.0 needs leaves made.2
only_made (Reading r k) v x shown libraries needs leaves made = only_made (k (answer v.rows r)) v x shown libraries needs leaves made.1
only_made (Asking c k) v x shown libraries needs leaves made = only_made (k (value v c)) v x shown libraries needs leaves made.1
only_made (Clock age k) v x shown libraries needs leaves made = only_made (k made.0) v x shown libraries needs (leaves made.0) made.3
only_made (Part h k) v x shown libraries needs leaves made = subst OnlyMeta (sym made.1) (only_place h made.0 leaves.0 (only_made k v x made.0 libraries needs leaves.1 made.2))

-- no place of a whole page stays open but that of the libraries
pub page_closed : (path : List ℕ) (v : Visit) (x : Option ℕ) (shown : List Piece) (libraries : List Library) (needs : Needs) → Made (whole path element.Page) v x shown libraries needs → OnlyMeta shown
page_closed path v x shown libraries needs made =
    only_made (whole path element.Page) v x shown libraries needs
    (closed IsMeta v (shown_below 5) (page path >>= λ s. Done (Some s))
    (leaves_bind (λ h. ClosedAt IsMeta v (shown_below 5 h) h) v (page path) (λ s. Done (Some s))
    (page_leaves (λ h. ClosedAt IsMeta v (shown_below 5 h) h) v tt
    (λ name. closed_below IsMeta v 5 (hole.Fragment (fragment.Block name)) (omega arith))
    (λ n. closed_below IsMeta v 5 (hole.Fragment (fragment.Node n mode.Full)) (omega arith))
    (λ t. closed_below IsMeta v 5 (hole.Fragment (fragment.TermListing t)) (omega arith))
    (λ name. closed_below IsMeta v 5 (hole.Fragment (fragment.Listing name placing.OnPage)) (omega arith))
    path)
    (λ s. tt)))
    made

-- nor does one of a whole fragment
pub fragment_closed : (path : List ℕ) (f : Fragment) (v : Visit) (x : Option ℕ) (shown : List Piece) (libraries : List Library) (needs : Needs) → Made (whole path (element.Fragment f)) v x shown libraries needs → OnlyMeta shown
fragment_closed path f v x shown libraries needs made =
    only_made (whole path (element.Fragment f)) v x shown libraries needs (whole_fragment IsMeta path f v) made

-- what leaves no place open shows bytes
only_written : {A : Type 0} (p : Plan A) (v : Visit) (x : A) (shown : List Piece) (libraries : List Library) (needs : Needs) → Leaves (λ h. ⊥) v p → Made p v x shown libraries needs → (text : List ℕ) × (shown ≡ bytes text)
only_written (Done a) v x shown libraries needs leaves made = ([], made.1)
only_written (Write bs k) v x shown libraries needs leaves made =
    let rest = only_written k v x made.0 libraries needs leaves made.2 in
    (bs ++ rest.0, made.1 ∙ ap (λ ps. bytes bs ++ ps) rest.1 ∙ sym (map-append Byte bs rest.0))
only_written (Attach l k) v x shown libraries needs leaves made = only_written k v x shown made.0 needs leaves made.2
only_written (Reading r k) v x shown libraries needs leaves made = only_written (k (answer v.rows r)) v x shown libraries needs leaves made.1
only_written (Asking c k) v x shown libraries needs leaves made = only_written (k (value v c)) v x shown libraries needs leaves made.1
only_written (Clock age k) v x shown libraries needs leaves made = only_written (k made.0) v x shown libraries needs (leaves made.0) made.3
only_written (Part h k) v x shown libraries needs leaves made = absurd leaves.0

-- no place at all of a whole fragment stays open
pub fragment_written : (path : List ℕ) (f : Fragment) (v : Visit) (x : Option ℕ) (shown : List Piece) (libraries : List Library) (needs : Needs) → Made (whole path (element.Fragment f)) v x shown libraries needs → (text : List ℕ) × (shown ≡ bytes text)
fragment_written path f v x shown libraries needs made =
    only_written (whole path (element.Fragment f)) v x shown libraries needs (whole_fragment (λ h. ⊥) path f v) made
