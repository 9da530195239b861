-- A read is the same on two states of one log where no tag that covers it was invalidated in between.
use Rattle.std.proofs.Common.{ℕ, List, [], ◌∷◌, ◌++◌, ◌≡◌, ◌⊎◌, refl, sym, ◌∙◌, ap, subst, arith, inl, inr, Bool, true, false, cond, ◌==◌, ◌&&◌, Option, Some, None, Contains, is_some}
use Rattle.std.specs.Prelude.{if◌then◌else◌, option_and_then}
use Rattle.std.specs.List.{cons_option, filter, filter_map}
use Rattle.std.specs.Str.{bytes_eq}
use Rattle.std.proofs.lemmas.List.Elements.{Contains-append_left, Contains-append_right}
use Rattle.std.proofs.lemmas.Bool.Decides.{eqb_tells}
use Rattle.std.proofs.lemmas.Slice.Eq.{bytes_eq-Decides}
use Rattle.cacheability.specs.declared.tag.Tag.{Tag}
use Rattle.cacheability.specs.declared.tag.Tag.TheVariants as tag
use Rattle.tag_counts.specs.Counts.{count_of}
use Rattle.content_rows.specs.declared.cell.Cell.{Cell}
use Rattle.content_rows.specs.declared.cell.Cell.TheVariants as cell
use Rattle.content_rows.specs.declared.row.Row.{Row}
use Rattle.content_rows.specs.declared.row.Row.TheVariants as row
use Rattle.content_rows.specs.declared.row.Node.{Node}
use Rattle.content_rows.specs.declared.row.Comment.{Comment}
use Rattle.content_state.specs.declared.entity.Entity.{Entity}
use Rattle.content_state.specs.declared.entity.Entity.TheVariants as entity
use Rattle.content_state.specs.declared.route.Route.{Route}
use Rattle.content_state.specs.declared.route.Route.TheVariants as route
use Rattle.content_state.specs.State.{State}
use Rattle.indexed_rows.specs.Rows.{InOrder, row_at, as_site, as_type, as_role, as_user, as_term, as_node, as_menu, as_listing, as_block, as_comment, node_entry, term_entry, block_entry, comment_entry, node_of, term_of, user_of, listing_of}
use Rattle.content_state.specs.Entities.{id_after, is_json, entity_in, entity_tags}
use Rattle.content_state.specs.Route.{fronts_json, json_route, node_front, term_front, user_front, login_path, root_path, front_in, front_path, meant, found_route, led_to, route_of, cell_with, cell_route, tag_of_id, numbered_tags, route_tags, front_tags, path_tags}
use Rattle.content_state.specs.Read.{Read, SiteRow, TypeRow, RoleRow, UserRow, TermRow, NodeRow, MenuRow, ListingRow, BlockRow, AllNodes, NodesOfType, AllTerms, AllBlocks, CommentRow, CommentsOf, PathRoute, cover}
use Rattle.content_state.specs.Replay.{list_of_type, list_of_node, bumps}
use Rattle.content_state.specs.SiteRules.{IsValidState}
use Rattle.state_commits.specs.Edits.{SameRead, AreFitFor, CoveredReadsStay}
use Rattle.state_commits.proofs.Steps.{Names, Tells}
use Rattle.state_commits.proofs.Logs.{Kin, kin, same_row, same_gathered, leads_from, ordered_on}
use Rattle.state_commits.proofs.Owners.{owns, first_of, tags_of, led_by_owner, all_right, owner, Comes, NoOne, Someone, comes, leads_to_owner}

-- which writes have to do with the lists
nodes_told : Tells node_entry tag.NodeList
nodes_told (cell.Node n) old new never x which = absurd (never (1, omega arith, refl))
nodes_told _ old new never x which = refl

terms_told : Tells term_entry tag.TermList
terms_told (cell.Term t) old new never x which = absurd (never (1, omega arith, refl))
terms_told _ old new never x which = refl

blocks_told : Tells block_entry tag.BlockList
blocks_told (cell.Block b) old new never x which = absurd (never (1, omega arith, refl))
blocks_told _ old new never x which = refl

owners_told : (path : List ℕ) → Tells (owns path) tag.NotFound
owners_told path (cell.Node n) old new never x which = absurd (never (2, omega arith, refl))
owners_told path (cell.Listing l) old new never x which = absurd (never (1, omega arith, refl))
owners_told path _ old new never x which = refl

-- the nodes of a type, or the comments of a node, gathered at once
abbrev pub kept_if : {Y : Type 0} → (Y → Bool) → Option Y → Option Y
kept_if p None = None
kept_if p (Some y) = cond (p y) (Some y) None

pub gathered_at_once : {X Y : Type 0} (p : Y → Bool) (f : X → Option Y) (xs : List X) → filter p (filter_map f xs) ≡ filter_map (λ x. kept_if p (f x)) xs
gathered_at_once p f [] = refl
gathered_at_once {X} {Y} p f (x ∷ xs) = go (f x) (gathered_at_once p f xs)
  where
    pick : (b : Bool) (y : Y) → filter p (filter_map f xs) ≡ filter_map (λ z. kept_if p (f z)) xs → cond b (y ∷ filter p (filter_map f xs)) (filter p (filter_map f xs)) ≡ cons_option (cond b (Some y) None) (filter_map (λ z. kept_if p (f z)) xs)
    pick true y rest = ap (λ l. y ∷ l) rest
    pick false y rest = rest

    go : (o : Option Y) → filter p (filter_map f xs) ≡ filter_map (λ z. kept_if p (f z)) xs → filter p (cons_option o (filter_map f xs)) ≡ cons_option (kept_if p o) (filter_map (λ z. kept_if p (f z)) xs)
    go None rest = rest
    go (Some y) rest = pick (p y) y rest

abbrev is_of_type : List ℕ → ℕ × Node → Bool
is_of_type t e = bytes_eq e.1.node_type t

abbrev node_of_type : List ℕ → Cell × Row → Option (ℕ × Node)
node_of_type t e = kept_if (is_of_type t) (node_entry e)

-- a write by which a node of a type comes or goes invalidates the list of that type
lists_type : (t : List ℕ) (n : ℕ) (r : Node) (old new : Option Row) → r.node_type ≡ t → (old ≡ Some (row.Node r)) ⊎ (new ≡ Some (row.Node r)) → Contains (bumps (cell.Node n) old new) (tag.NodeListOf t)
lists_type t n r old new typed (inl is) =
    subst (λ o. Contains (bumps (cell.Node n) o new) (tag.NodeListOf t)) (sym is) (3, omega arith, ap tag.NodeListOf typed)
lists_type t n r old new typed (inr is) =
    Contains-append_right (tag.Node n ∷ tag.NodeList ∷ tag.NotFound ∷ []) (list_of_type old ++ list_of_type new) (tag.NodeListOf t)
    (Contains-append_right (list_of_type old) (list_of_type new) (tag.NodeListOf t)
    (subst (λ o. Contains (list_of_type o) (tag.NodeListOf t)) (sym is) (0, omega arith, ap tag.NodeListOf typed)))

typed_told : (t : List ℕ) → Tells (node_of_type t) (tag.NodeListOf t)
typed_told t (cell.Node n) old new never (row.Node r) which = go (bytes_eq r.node_type t) refl
  where
    go : (b : Bool) → bytes_eq r.node_type t ≡ b → cond {A = Option (ℕ × Node)} b (Some (n, r)) None ≡ None
    go true is = absurd (never (lists_type t n r old new ((bytes_eq-Decides r.node_type t).0 is) which))
    go false is = refl
typed_told t _ old new never _ which = refl

abbrev pub is_on : ℕ → ℕ × Comment → Bool
is_on n e = e.1.node == n

abbrev pub comment_on : ℕ → Cell × Row → Option (ℕ × Comment)
comment_on n e = kept_if (is_on n) (comment_entry e)

-- a write by which a comment of a node comes or goes invalidates the list of that node's comments
lists_node : (n c : ℕ) (r : Comment) (old new : Option Row) → r.node ≡ n → (old ≡ Some (row.Comment r)) ⊎ (new ≡ Some (row.Comment r)) → Contains (bumps (cell.Comment c) old new) (tag.CommentList n)
lists_node n c r old new on (inl is) =
    subst (λ o. Contains (bumps (cell.Comment c) o new) (tag.CommentList n)) (sym is) (1, omega arith, ap tag.CommentList on)
lists_node n c r old new on (inr is) =
    Contains-append_right (tag.Comment c ∷ []) (list_of_node old ++ list_of_node new) (tag.CommentList n)
    (Contains-append_right (list_of_node old) (list_of_node new) (tag.CommentList n)
    (subst (λ o. Contains (list_of_node o) (tag.CommentList n)) (sym is) (0, omega arith, ap tag.CommentList on)))

on_told : (n : ℕ) → Tells (comment_on n) (tag.CommentList n)
on_told n (cell.Comment c) old new never (row.Comment r) which = elim (eqb_tells r.node n) as (λ _. comment_on n (cell.Comment c, row.Comment r) ≡ None) [
  | inl is ↦ absurd (never (lists_node n c r old new is.1 which))
  | inr is ↦ ap (λ b. cond {A = Option (ℕ × Comment)} b (Some (c, r)) None) is.0
]
on_told n _ old new never _ which = refl

-- the tags of a route, by those of the numbers that stand in the path
by_numbers : (to : Route) (path : List ℕ) → route_tags to path ≡ tags_of to (numbered_tags path)
by_numbers (route.Node n) path = refl
by_numbers (route.Term t) path = refl
by_numbers (route.User u) path = refl
by_numbers (route.Listing l) path = refl
by_numbers (route.Json it) path = refl
by_numbers route.Login path = refl
by_numbers route.Nothing path = refl

module _ (s t : State) (same : Kin s t) (sorted : InOrder s.rows) (sorted' : InOrder t.rows) where
  -- the count of a tag is the same on both
  abbrev Stays : Tag → Type 0
  Stays g = count_of s.counts g ≡ count_of t.counts g

  abbrev AllStay : List Tag → Type 0
  AllStay tags = (g : Tag) → Contains tags g → Stays g

  at : (c : Cell) (g : Tag) → Names c g → Stays g → row_at s.rows c ≡ row_at t.rows c
  at c g names stays = same_row same sorted sorted' c g names stays

  -- by a number
  own_stays : (g : Tag) (to : Route) (numbers : List Tag) (b : Bool) → Contains (tags_of to numbers) g → Contains (tag.NotFound ∷ numbers) g → AllStay (tags_of (if b then to else route.Nothing) numbers) → Stays g
  own_stays g to numbers true one other stay = stay g one
  own_stays g to numbers false one other stay = stay g other

  -- by the path of a node or a listing
  module _ (valid : IsValidState s) (valid' : IsValidState t) where
    by_owner : (path : List ℕ) (numbers : List Tag) → Comes (owns path) s.rows → AllStay (tags_of (first_of (filter_map (owns path) s.rows)) numbers) → first_of (filter_map (owns path) s.rows) ≡ first_of (filter_map (owns path) t.rows)
    by_owner path numbers (NoOne none) stay =
        ap first_of (same_gathered (owns path) same sorted sorted' tag.NotFound (owners_told path)
        (stay tag.NotFound (subst (λ l. Contains (tags_of (first_of l) numbers) tag.NotFound) (sym none) (0, omega arith, refl))))
    by_owner path numbers (Someone e to held gives leads) stay =
        let right = all_right s.rows sorted valid.rows e held in
        let own = owner path e.0 e.1 right.valid to gives in
        let stays : Stays own.own = stay own.own (subst (λ (x : Route). Contains (tags_of x numbers) own.own) (sym leads) (own.tells numbers)) in
        let there : row_at t.rows e.0 ≡ Some e.1 = sym (at e.0 own.own own.names stays) ∙ right.at in
        leads ∙ sym (leads_to_owner t path e.0 e.1 to valid' there gives)

    by_cell : (path : List ℕ) (numbers : List Tag) → AllStay (tags_of (cell_route s.rows (cell_with s.rows path)) numbers) → cell_route s.rows (cell_with s.rows path) ≡ cell_route t.rows (cell_with t.rows path)
    by_cell path numbers stay =
        let here = led_by_owner s.rows path sorted valid.rows in
        let there = led_by_owner t.rows path sorted' valid'.rows in
        here
        ∙ by_owner path numbers (comes (owns path) s.rows) (subst (λ (x : Route). AllStay (tags_of x numbers)) here stay)
        ∙ sym there

    abbrev numbers_of : Option ℕ → Option ℕ → Option ℕ → List Tag
    numbers_of n t u = tag_of_id tag.Node n ++ tag_of_id tag.Term t ++ tag_of_id tag.User u

    by_ids : (path : List ℕ) (n k u : Option ℕ) → AllStay (tags_of (found_route s.rows path n k u) (numbers_of n k u)) → found_route s.rows path n k u ≡ found_route t.rows path n k u
    by_ids path (Some n) k u stay =
        ap (λ o. if is_some (option_and_then as_node o) then route.Node n else route.Nothing)
        (at (cell.Node n) (tag.Node n) (λ old new. (0, omega arith, refl)) (own_stays (tag.Node n) (route.Node n) (numbers_of (Some n) k u) (is_some (node_of s.rows n)) (0, omega arith, refl) (1, omega arith, refl) stay))
    by_ids path None (Some k) u stay =
        ap (λ o. if is_some (option_and_then as_term o) then route.Term k else route.Nothing)
        (at (cell.Term k) (tag.Term k) (λ old new. (0, omega arith, refl)) (own_stays (tag.Term k) (route.Term k) (numbers_of None (Some k) u) (is_some (term_of s.rows k)) (0, omega arith, refl) (1, omega arith, refl) stay))
    by_ids path None None (Some u) stay =
        ap (λ o. if is_some (option_and_then as_user o) then route.User u else route.Nothing)
        (at (cell.User u) (tag.User u) (λ old new. (0, omega arith, refl)) (own_stays (tag.User u) (route.User u) (numbers_of None None (Some u)) (is_some (user_of s.rows u)) (0, omega arith, refl) (1, omega arith, refl) stay))
    by_ids path None None None stay = by_cell path (numbers_of None None None) stay

    login_or : (b : Bool) (path : List ℕ) (n k u : Option ℕ) → AllStay (tags_of (if b then route.Login else found_route s.rows path n k u) (numbers_of n k u)) → (if b then route.Login else found_route s.rows path n k u) ≡ (if b then route.Login else found_route t.rows path n k u)
    login_or true path n k u stay = refl
    login_or false path n k u stay = by_ids path n k u stay

    -- a listing that is missing is covered by the tag of what is not found, which its coming invalidates
    listing_stays : (name : List ℕ) (b : Bool) → AllStay (tags_of (if b then route.Json (entity.Listing name) else route.Nothing) []) → row_at s.rows (cell.Listing name) ≡ row_at t.rows (cell.Listing name)
    listing_stays name true stay = at (cell.Listing name) (tag.Listing name) (λ old new. (0, omega arith, refl)) (stay (tag.Listing name) (0, omega arith, refl))
    listing_stays name false stay = at (cell.Listing name) tag.NotFound (λ old new. (1, omega arith, refl)) (stay tag.NotFound (0, omega arith, refl))

    by_entity : (it : Option Entity) → AllStay (tags_of (json_route s.rows it) (entity_tags it)) → json_route s.rows it ≡ json_route t.rows it
    by_entity None stay = refl
    by_entity (Some (entity.Node n)) stay =
        ap (λ o. if is_some (option_and_then as_node o) then route.Json (entity.Node n) else route.Nothing)
        (at (cell.Node n) (tag.Node n) (λ old new. (0, omega arith, refl)) (own_stays (tag.Node n) (route.Json (entity.Node n)) (tag.Node n ∷ []) (is_some (node_of s.rows n)) (0, omega arith, refl) (1, omega arith, refl) stay))
    by_entity (Some (entity.Term k)) stay =
        ap (λ o. if is_some (option_and_then as_term o) then route.Json (entity.Term k) else route.Nothing)
        (at (cell.Term k) (tag.Term k) (λ old new. (0, omega arith, refl)) (own_stays (tag.Term k) (route.Json (entity.Term k)) (tag.Term k ∷ []) (is_some (term_of s.rows k)) (0, omega arith, refl) (1, omega arith, refl) stay))
    by_entity (Some (entity.User u)) stay =
        ap (λ o. if is_some (option_and_then as_user o) then route.Json (entity.User u) else route.Nothing)
        (at (cell.User u) (tag.User u) (λ old new. (0, omega arith, refl)) (own_stays (tag.User u) (route.Json (entity.User u)) (tag.User u ∷ []) (is_some (user_of s.rows u)) (0, omega arith, refl) (1, omega arith, refl) stay))
    by_entity (Some (entity.Listing name)) stay =
        ap (λ o. if is_some (option_and_then as_listing o) then route.Json (entity.Listing name) else route.Nothing)
        (listing_stays name (is_some (listing_of s.rows name)) stay)

    json_or : (b login : Bool) (path : List ℕ) (it : Option Entity) (n k u : Option ℕ)
        → AllStay (tags_of (if b then json_route s.rows it else (if login then route.Login else found_route s.rows path n k u)) (if b then entity_tags it else numbers_of n k u))
        → (if b then json_route s.rows it else (if login then route.Login else found_route s.rows path n k u)) ≡ (if b then json_route t.rows it else (if login then route.Login else found_route t.rows path n k u))
    json_or true login path it n k u stay = by_entity it stay
    json_or false login path it n k u stay = login_or login path n k u stay

    led_same : (path : List ℕ) → AllStay (route_tags (led_to s.rows path) path) → led_to s.rows path ≡ led_to t.rows path
    led_same path stay =
        json_or (is_json path) (bytes_eq path login_path) path (entity_in path) (id_after node_front path) (id_after term_front path) (id_after user_front path)
        (subst AllStay (by_numbers (led_to s.rows path) path) stay)

    -- `/` leads nowhere, or where the path does that it stands for
    fronts_or : (b : Bool) (path : List ℕ) → AllStay (route_tags (if b then route.Nothing else led_to s.rows path) path) → (if b then route.Nothing else led_to s.rows path) ≡ (if b then route.Nothing else led_to t.rows path)
    fronts_or true path stay = refl
    fronts_or false path stay = led_same path stay

    -- `/` stands for the same path
    front_same : (others : List Tag) → AllStay (others ++ tag.Site ∷ []) → front_path s.rows ≡ front_path t.rows
    front_same others stay =
        ap (λ o. front_in (option_and_then as_site o))
        (at cell.Site tag.Site (λ old new. (0, omega arith, refl)) (stay tag.Site (Contains-append_right others (tag.Site ∷ []) tag.Site (0, omega arith, refl))))

    stands_for_same : (path : List ℕ) (b : Bool) (others : List Tag) → AllStay (others ++ (if b then tag.Site ∷ [] else [])) → (if b then front_path s.rows else path) ≡ (if b then front_path t.rows else path)
    stands_for_same path true others stay = front_same others stay
    stands_for_same path false others stay = refl

    fronts_same : (b : Bool) (others : List Tag) → AllStay (others ++ (if b then tag.Site ∷ [] else [])) → (b && is_json (front_path s.rows)) ≡ (b && is_json (front_path t.rows))
    fronts_same true others stay = ap is_json (front_same others stay)
    fronts_same false others stay = refl

    path_same : (path : List ℕ) → AllStay (path_tags s.rows path) → SameRead (PathRoute path) s t
    unfolding route_of path_tags
    path_same path stay =
        let here : List ℕ = meant s.rows path in
        let own : List Tag = route_tags (route_of s.rows path) here in
        let stands : here ≡ meant t.rows path = stands_for_same path (bytes_eq path root_path) own stay in
        let leads : route_of s.rows path ≡ route_of t.rows path =
        fronts_or (fronts_json s.rows path) here (λ g held. stay g (Contains-append_left own (front_tags path) g held))
        ∙ ap (λ b. if b then route.Nothing else led_to t.rows here) (fronts_same (bytes_eq path root_path) own stay)
        ∙ ap (λ p. if fronts_json t.rows path then route.Nothing else led_to t.rows p) stands in
        record {
          answers = leads;
          covers = ap (λ (x : Route). route_tags x here ++ front_tags path) leads ∙ ap (λ p. route_tags (route_of t.rows path) p ++ front_tags path) stands;
        }

  one : (g : Tag) → AllStay (g ∷ []) → Stays g
  one g stay = stay g (0, omega arith, refl)

  read_same : (read : Read) → AreFitFor read s t → AllStay (cover s.rows read) → SameRead read s t
  read_same SiteRow fit stay = record { covers = refl; answers = ap (option_and_then as_site) (at cell.Site tag.Site (λ old new. (0, omega arith, refl)) (one tag.Site stay)) }
  read_same (TypeRow n) fit stay = record { covers = refl; answers = ap (option_and_then as_type) (at (cell.NodeType n) (tag.NodeType n) (λ old new. (0, omega arith, refl)) (one (tag.NodeType n) stay)) }
  read_same (RoleRow n) fit stay = record { covers = refl; answers = ap (option_and_then as_role) (at (cell.Role n) (tag.Role n) (λ old new. (0, omega arith, refl)) (one (tag.Role n) stay)) }
  read_same (UserRow n) fit stay = record { covers = refl; answers = ap (option_and_then as_user) (at (cell.User n) (tag.User n) (λ old new. (0, omega arith, refl)) (one (tag.User n) stay)) }
  read_same (TermRow n) fit stay = record { covers = refl; answers = ap (option_and_then as_term) (at (cell.Term n) (tag.Term n) (λ old new. (0, omega arith, refl)) (one (tag.Term n) stay)) }
  read_same (NodeRow n) fit stay = record { covers = refl; answers = ap (option_and_then as_node) (at (cell.Node n) (tag.Node n) (λ old new. (0, omega arith, refl)) (one (tag.Node n) stay)) }
  read_same (MenuRow n) fit stay = record { covers = refl; answers = ap (option_and_then as_menu) (at (cell.Menu n) (tag.Menu n) (λ old new. (0, omega arith, refl)) (one (tag.Menu n) stay)) }
  read_same (ListingRow n) fit stay = record { covers = refl; answers = ap (option_and_then as_listing) (at (cell.Listing n) (tag.Listing n) (λ old new. (0, omega arith, refl)) (one (tag.Listing n) stay)) }
  read_same (BlockRow n) fit stay = record { covers = refl; answers = ap (option_and_then as_block) (at (cell.Block n) (tag.Block n) (λ old new. (0, omega arith, refl)) (one (tag.Block n) stay)) }
  read_same AllNodes fit stay = record { covers = refl; answers = same_gathered node_entry same sorted sorted' tag.NodeList nodes_told (one tag.NodeList stay) }
  read_same (NodesOfType n) fit stay = record {
    covers = refl;
    answers =
        gathered_at_once (is_of_type n) node_entry s.rows
        ∙ same_gathered (node_of_type n) same sorted sorted' (tag.NodeListOf n) (typed_told n) (one (tag.NodeListOf n) stay)
        ∙ sym (gathered_at_once (is_of_type n) node_entry t.rows);
  }
  read_same AllTerms fit stay = record { covers = refl; answers = same_gathered term_entry same sorted sorted' tag.TermList terms_told (one tag.TermList stay) }
  read_same AllBlocks fit stay = record { covers = refl; answers = same_gathered block_entry same sorted sorted' tag.BlockList blocks_told (one tag.BlockList stay) }
  read_same (CommentRow n) fit stay = record { covers = refl; answers = ap (option_and_then as_comment) (at (cell.Comment n) (tag.Comment n) (λ old new. (0, omega arith, refl)) (one (tag.Comment n) stay)) }
  read_same (CommentsOf n) fit stay = record {
    covers = refl;
    answers =
        gathered_at_once (is_on n) comment_entry s.rows
        ∙ same_gathered (comment_on n) same sorted sorted' (tag.CommentList n) (on_told n) (one (tag.CommentList n) stay)
        ∙ sym (gathered_at_once (is_on n) comment_entry t.rows);
  }
  read_same (PathRoute path) fit stay = path_same fit.0 fit.1 path stay

pub covered_reads_stay : CoveredReadsStay
covered_reads_stay base log sorted j k read fit stay =
    read_same _ _ (kin base log j k) (ordered_on (leads_from base log j) sorted) (ordered_on (leads_from base log k) sorted) read fit stay
