-- The plans of access to terms, profiles and routes give the plain answers, and meet exactly what those depend on.
use Rattle.std.proofs.Common.{ℕ, [], ◌∷◌, true, false, refl, arith}
use Rattle.cacheability.specs.declared.op.Op.TheVariants as op
use Rattle.cacheability.specs.declared.tag.Tag.TheVariants as tag
use Rattle.cacheability.specs.declared.context.Context.TheVariants as context
use Rattle.cacheability.specs.Cacheability.{always_same}
use Rattle.content_state.specs.declared.entity.Entity.TheVariants as entity
use Rattle.content_state.specs.declared.route.Route.{Route}
use Rattle.content_state.specs.declared.route.Route.TheVariants as route
use Rattle.indexed_rows.specs.Rows.{term_of, user_of}
use Rattle.content_state.specs.Read.{TermRow, UserRow}
use Rattle.content_state.specs.Context.{Visit}
use Rattle.content_state.specs.Viewer.{may, access_content}
use Rattle.content_state.specs.Plan.{reading, asking}
use Rattle.site_access.specs.Access.{owns}
use Rattle.site_access.specs.Plans.{holds, is_owner}
use Rattle.site_access.specs.Depends.{lasting, by_permissions}
use Rattle.site_access.specs.Terms.{administer_taxonomy, access_to_term, term_access, term_depends}
use Rattle.site_access.specs.Users.{access_user_profiles, administer_users, is_permitted_profile, access_to_user, user_access, user_depends, profile_depends}
use Rattle.site_access.specs.Routes.{access_to_listing, listing_access, access_to_route, route_access, route_depends}
use Rattle.site_access.proofs.SilentPlans.{Reads, reads_done, reads_next, reads_if, reads_row, reads_context}
use Rattle.site_access.proofs.PlansDecide.{held_with, first_held, held_again, node_read}

pub term_read : (t : ℕ) (v : Visit) → Reads (term_access t) v always_same (access_to_term v.rows v.viewer t) (term_depends t)
unfolding term_access
term_read t v =
    let tags = tag.Term t ∷ [] in
    reads_next (reading (TermRow t)) _ v _ (lasting tags []) _ (term_of v.rows t) _ (reads_row (TermRow t) v [] [] [])
    (reads_next (holds administer_taxonomy) _ v _ (term_depends t) _ (may v.rows v.viewer administer_taxonomy) _ (held_with administer_taxonomy v tags)
    (reads_next (holds access_content) _ v _ (term_depends t) _ (may v.rows v.viewer access_content) _ (held_again access_content v (term_depends t) (0, omega arith, refl))
    (reads_done v (term_depends t) _ _ refl)))

own_read : (u : ℕ) (v : Visit) → Reads (is_owner u) v (profile_depends u true) (owns v.viewer.uid u) (profile_depends u false)
unfolding is_owner
own_read u v =
    reads_next (asking context.User) _ v _ (profile_depends u false) _ v.viewer.uid _ (reads_context context.User v (tag.User u ∷ []) [] (context.UserPermissions ∷ []))
    (reads_done v (profile_depends u false) _ _ refl)

pub user_read : (u : ℕ) (v : Visit) → Reads (user_access u) v always_same (access_to_user v.rows v.viewer u) (user_depends v.rows v.viewer u)
unfolding user_access
user_read u v =
    let tags = tag.User u ∷ [] in
    let permitted = profile_depends u true in
    reads_next (reading (UserRow u)) _ v _ (lasting tags []) _ (user_of v.rows u) _ (reads_row (UserRow u) v [] [] [])
    (reads_next (holds access_user_profiles) _ v _ permitted _ (may v.rows v.viewer access_user_profiles) _ (held_with access_user_profiles v tags)
    (reads_next (holds administer_users) _ v _ permitted _ (may v.rows v.viewer administer_users) _ (held_again administer_users v permitted (0, omega arith, refl))
    (reads_if (is_permitted_profile v.rows v.viewer u) _ _ v permitted _ _ _ _ (λ _. reads_done v permitted _ _ refl) (λ _.
    reads_next (is_owner u) _ v _ (profile_depends u false) _ (owns v.viewer.uid u) _ (own_read u v)
    (reads_done v (profile_depends u false) _ _ refl)))))

listing_read : (v : Visit) → Reads listing_access v always_same (access_to_listing v.rows v.viewer) by_permissions
unfolding listing_access
listing_read v =
    reads_next (holds access_content) _ v _ by_permissions _ (may v.rows v.viewer access_content) _ (first_held access_content v)
    (reads_done v by_permissions _ _ refl)

pub route_read : (to : Route) (v : Visit) → Reads (route_access to) v always_same (access_to_route v.rows v.viewer to) (route_depends v.rows v.viewer to)
route_read (route.Node n) v = node_read op.View n v
route_read (route.Term t) v = term_read t v
route_read (route.User u) v = user_read u v
route_read (route.Listing name) v = listing_read v
route_read (route.Json (entity.Node n)) v = node_read op.View n v
route_read (route.Json (entity.Term t)) v = term_read t v
route_read (route.Json (entity.User u)) v = user_read u v
route_read (route.Json (entity.Listing name)) v = listing_read v
route_read route.Login v = reads_done v always_same _ _ refl
route_read route.Nothing v = reads_done v always_same _ _ refl
