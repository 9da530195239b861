-- What a listing shows is the same on alike visits: a node that is hidden from the viewer is in neither, and every other
-- stands at the same place in both.
use Rattle.std.proofs.Common.{◌≡◌, ◌∙◌, ℕ, List, [], ◌∷◌, ◌++◌, true, false, refl, sym, ap, append-nil, append_assoc}
use Rattle.std.specs.Prelude.{◌==◌, ◌&&◌, length, Option, Some, None, if◌then◌else◌}
use Rattle.std.specs.List.{filter, flat_map}
use Rattle.cacheability.specs.declared.context.Context.TheVariants as context
use Rattle.content_rows.specs.declared.row.Node.{Node}
use Rattle.content_rows.specs.declared.row.Listing.{Listing}
use Rattle.content_rows.specs.declared.row.Term.{Term}
use Rattle.content_state.specs.declared.element.Placing.{Placing}
use Rattle.content_state.specs.declared.element.Placing.TheVariants as placing
use Rattle.indexed_rows.specs.Rows.{nodes_of_type}
use Rattle.content_state.specs.Read.{ListingRow}
use Rattle.content_state.specs.Context.{Visit}
use Rattle.content_state.specs.Met.{result_of}
use Rattle.content_state.specs.Plan.{Done, reading, folded, ◌>>=◌}
use Rattle.site_lists.specs.declared.paging.Page.{Page}
use Rattle.site_lists.specs.Listed.{is_listed, ids_in_order, candidates, term_listing}
use Rattle.site_lists.specs.ListingPlan.{of_types, among, terms_for, candidate_rows, moment_within, with_viewable, listing_rows, asked_page}
use Rattle.site_lists.specs.Paging.{page_at, page_name}
use Rattle.site_lists.proofs.Ranks.{chosen_among, filter_candidates}
use Rattle.site_lists.proofs.ListingPlans.{listed_among}
use Rattle.render_canvas.specs.Reads.{by_viewer}
use Rattle.render_array.specs.Nodes.{may_view_node}
use Rattle.render_array.specs.Listings.{page_number, listed_node, listed_nodes, nodes_or_none, previous_link, next_link, pager_shown, pager, pager_in, page_of_nodes, listing_view, listing_or_nothing, listing_shown, term_listing_shown}
use Rattle.page_secrets.proofs.Settled.{settled, settled_bind, Alike, alike_bind, alike_done, alike_write, alike_attach, alike_part, alike_clock, alike_if, alike_each}
use Rattle.page_secrets.proofs.Visits.{sees, listed, AlikeVisits, alike_reading, alike_asking}
use Rattle.page_secrets.proofs.Deciding.{view_left}

-- ---- the nodes of a listing that the viewer may view

module _ (v : Visit) where
  types_left : (ts : List (List ℕ)) → settled v (of_types ts) ≡ Done (flat_map (nodes_of_type v.rows) ts)
  unfolding of_types reading
  types_left [] = refl
  types_left (t ∷ ts) =
      settled_bind v (of_types ts) (λ others. Done (nodes_of_type v.rows t ++ others))
      ∙ ap (λ l. l >>= λ others. Done (nodes_of_type v.rows t ++ others)) (types_left ts)

  among_left : (ts : List (List ℕ)) → settled v (among ts) ≡ Done (chosen_among v.rows ts)
  unfolding reading
  among_left [] = refl
  among_left (t ∷ ts) = types_left (t ∷ ts)

  terms_left : (term : Option ℕ) → settled v (terms_for term) ≡ Done (result_of (terms_for term) v)
  unfolding reading
  terms_left None = refl
  terms_left (Some t) = refl

  candidates_left : (listing : Listing) (moment : ℕ) → settled v (candidate_rows listing moment) ≡ Done (candidates v.rows listing moment)
  unfolding candidate_rows
  candidates_left listing moment =
      let order = λ (terms : List (ℕ × Term)) (nodes : List (ℕ × Node)). ids_in_order (filter (λ e. is_listed terms listing moment e.1) nodes) in
      settled_bind v (among listing.types) (λ nodes. terms_for listing.term >>= λ terms. Done (order terms nodes))
      ∙ ap (λ l. l >>= λ nodes. settled v (terms_for listing.term >>= λ terms. Done (order terms nodes))) (among_left listing.types)
      ∙ settled_bind v (terms_for listing.term) (λ terms. Done (order terms (chosen_among v.rows listing.types)))
      ∙ ap (λ l. l >>= λ terms. Done (order terms (chosen_among v.rows listing.types))) (terms_left listing.term)
      ∙ ap Done (listed_among listing moment v)

  one_left : (ids : List ℕ) (n : ℕ) → settled v (with_viewable may_view_node ids n) ≡ Done (if sees v n then ids ++ n ∷ [] else ids)
  unfolding with_viewable
  one_left ids n =
      settled_bind v (may_view_node n) (λ allowed. if allowed then Done (ids ++ n ∷ []) else Done ids)
      ∙ ap (λ l. l >>= λ allowed. settled v (if allowed then Done (ids ++ n ∷ []) else Done ids)) (view_left v n)
      ∙ (elim (sees v n) as (λ b. settled v (if b then Done (ids ++ n ∷ []) else Done ids) ≡ Done (if b then ids ++ n ∷ [] else ids)) [ true ↦ refl | false ↦ refl ])

  viewable_left : (ids ns : List ℕ) → settled v (folded (with_viewable may_view_node) ids ns) ≡ Done (ids ++ filter (sees v) ns)
  unfolding folded
  viewable_left ids [] = ap Done (sym (append-nil ids))
  viewable_left ids (n ∷ ns) =
      settled_bind v (with_viewable may_view_node ids n) (λ more. folded (with_viewable may_view_node) more ns)
      ∙ ap (λ l. l >>= λ more. settled v (folded (with_viewable may_view_node) more ns)) (one_left ids n)
      ∙ viewable_left (if sees v n then ids ++ n ∷ [] else ids) ns
      ∙ ap Done (elim (sees v n) as (λ b. (if b then ids ++ n ∷ [] else ids) ++ filter (sees v) ns ≡ ids ++ (if b then n ∷ filter (sees v) ns else filter (sees v) ns)) [
        | true ↦ append_assoc ids (n ∷ []) (filter (sees v) ns)
        | false ↦ refl
      ])

  pub rows_left : (listing : Listing) (moment : ℕ)
      → settled v (candidate_rows listing moment >>= λ ids. folded (with_viewable may_view_node) [] ids) ≡ Done (listed v listing moment)
  rows_left listing moment =
      settled_bind v (candidate_rows listing moment) (λ ids. folded (with_viewable may_view_node) [] ids)
      ∙ ap (λ l. l >>= λ ids. settled v (folded (with_viewable may_view_node) [] ids)) (candidates_left listing moment)
      ∙ viewable_left [] (candidates v.rows listing moment)
      ∙ ap Done (filter_candidates v.rows listing moment (sees v))

-- ---- what is shown of them

module _ (v v' : Visit) (alike : AlikeVisits v v') where
  same_moment : (age : Option ℕ) → Alike v v' (moment_within age) (moment_within age)
  same_moment None = alike_done 0
  same_moment (Some age) = alike_clock age

  same_rows : (listing : Listing) → Alike v v' (listing_rows may_view_node listing) (listing_rows may_view_node listing)
  unfolding listing_rows
  same_rows listing =
      alike_bind _ _ (same_moment listing.age) (λ moment.
      record { same = rows_left v listing moment ∙ ap Done (alike.listings listing moment) ∙ sym (rows_left v' listing moment) })

  pub same_by_viewer : Alike v v' by_viewer by_viewer
  unfolding by_viewer
  same_by_viewer =
      alike_bind _ _ (alike_asking alike context.UserPermissions) (λ permissions.
      alike_bind _ _ (alike_asking alike context.NodeGrantsView) (λ grants. alike_done tt))

  same_number : (where_placed : Placing) → Alike v v' (page_number where_placed) (page_number where_placed)
  unfolding asked_page
  same_number placing.OnPage = alike_bind _ _ (alike_asking alike (context.QueryArg page_name)) (λ value. alike_done _)
  same_number placing.InBlock = alike_done 0

  same_nodes : (ids : List ℕ) → Alike v v' (listed_nodes ids) (listed_nodes ids)
  unfolding listed_nodes listed_node
  same_nodes ids = alike_bind _ _ (alike_write _) (λ _. alike_bind _ _ (alike_each _ _ ids (λ n. alike_part _)) (λ _. alike_write _))

  same_nodes_or_none : (ids : List ℕ) → Alike v v' (nodes_or_none ids) (nodes_or_none ids)
  unfolding nodes_or_none
  same_nodes_or_none ids = alike_if (length ids == 0) (alike_write _) (same_nodes ids)

  same_previous : (page : Page) → Alike v v' (previous_link page) (previous_link page)
  unfolding previous_link
  same_previous page =
      alike_if page.is_first (alike_done tt) (alike_bind _ _ (alike_write _) (λ _. alike_bind _ _ (alike_write _) (λ _. alike_write _)))

  same_next : (page : Page) → Alike v v' (next_link page) (next_link page)
  unfolding next_link
  same_next page =
      alike_if page.is_last (alike_done tt) (alike_bind _ _ (alike_write _) (λ _. alike_bind _ _ (alike_write _) (λ _. alike_write _)))

  same_pager_shown : (page : Page) → Alike v v' (pager_shown page) (pager_shown page)
  unfolding pager_shown
  same_pager_shown page =
      alike_bind _ _ (alike_attach _) (λ _. alike_bind _ _ (alike_write _) (λ _. alike_bind _ _ (same_previous page) (λ _.
      alike_bind _ _ (same_next page) (λ _. alike_write _))))

  same_pager : (where_placed : Placing) (page : Page) → Alike v v' (pager_in where_placed page) (pager_in where_placed page)
  unfolding pager
  same_pager placing.OnPage page = alike_if (page.is_first && page.is_last) (alike_done tt) (same_pager_shown page)
  same_pager placing.InBlock page = alike_done tt

  same_page_of_nodes : (where_placed : Placing) (ids : List ℕ) (page : Page) → Alike v v' (page_of_nodes where_placed ids page) (page_of_nodes where_placed ids page)
  unfolding page_of_nodes
  same_page_of_nodes where_placed ids page = alike_bind _ _ (same_nodes_or_none _) (λ _. same_pager where_placed page)

  same_listing_view : (where_placed : Placing) (listing : Listing) → Alike v v' (listing_view where_placed listing) (listing_view where_placed listing)
  unfolding listing_view
  same_listing_view where_placed listing =
      alike_bind _ _ same_by_viewer (λ _. alike_bind _ _ (same_rows listing) (λ ids. alike_bind _ _ (same_number where_placed) (λ asked.
      same_page_of_nodes where_placed ids (page_at (length ids) asked))))

  same_listing_found : (where_placed : Placing) (listing : Option Listing) → Alike v v' (listing_or_nothing where_placed listing) (listing_or_nothing where_placed listing)
  same_listing_found where_placed None = alike_done tt
  same_listing_found where_placed (Some listing) = same_listing_view where_placed listing

  pub same_listing_shown : (name : List ℕ) (where_placed : Placing) → Alike v v' (listing_shown name where_placed) (listing_shown name where_placed)
  unfolding listing_shown
  same_listing_shown name where_placed = alike_bind _ _ (alike_reading alike (ListingRow name) tt) (same_listing_found where_placed)

  pub same_term_listing : (t : ℕ) → Alike v v' (term_listing_shown t) (term_listing_shown t)
  unfolding term_listing_shown
  same_term_listing t = same_listing_view placing.OnPage (term_listing t)
