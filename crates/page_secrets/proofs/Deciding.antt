-- What access decides is the same on alike visits.
use Rattle.std.specs.Prelude.{Option, Some, None, if◌then◌else◌}
use Rattle.std.proofs.Common.{◌≡◌, ◌∙◌, ℕ, List, refl, sym, ap}
use Rattle.cacheability.specs.declared.op.Op.TheVariants as op
use Rattle.cacheability.specs.declared.context.Context.TheVariants as context
use Rattle.content_rows.specs.Permission.{has}
use Rattle.content_rows.specs.declared.row.User.{User}
use Rattle.content_state.specs.declared.entity.Entity.TheVariants as entity
use Rattle.content_state.specs.declared.route.Route.{Route}
use Rattle.content_state.specs.declared.route.Route.TheVariants as route
use Rattle.indexed_rows.specs.Rows.{node_of}
use Rattle.content_state.specs.Read.{answer, TermRow}
use Rattle.content_state.specs.Context.{Visit, value}
use Rattle.content_state.specs.Viewer.{access_content}
use Rattle.content_state.specs.Plan.{Plan, Done, Write, Attach, Reading, Asking, Clock, Part, ◌>>=◌}
use Rattle.content_state.specs.Met.{result_of}
use Rattle.site_access.specs.Access.{Access, Allowed, owns, access_to_node, access_to_found_field, owner_in, field_of}
use Rattle.site_access.specs.Plans.{holds, is_owner, node_access, field_access}
use Rattle.site_access.specs.Terms.{administer_taxonomy, is_published, term_decision, access_to_term, term_access}
use Rattle.site_access.specs.Users.{access_user_profiles, administer_users, is_active, permitted_profile, own_decision, user_access}
use Rattle.site_access.specs.Routes.{listing_access, route_access}
use Rattle.site_access.proofs.SilentPlans.{IsSilent}
use Rattle.site_access.proofs.PlansDecide.{node_read, field_read}
use Rattle.site_access.proofs.RoutePlans.{term_read}
use Rattle.render_canvas.specs.Decision.{is_allowed}
use Rattle.render_array.specs.Nodes.{may_view_node, may_view_field, may_view_term, may_view_user}
use Rattle.page_secrets.proofs.Settled.{settled, settled_bind, Alike, alike_bind, alike_done, alike_if}
use Rattle.page_secrets.proofs.Visits.{sees, AlikeVisits, alike_reading, alike_user, alike_asking}

-- of a plan that shows nothing what it gives is left
silent_left : {A : Type 0} (p : Plan A) (v : Visit) → IsSilent p v → settled v p ≡ Done (result_of p v)
silent_left (Done a) v silent = refl
silent_left (Reading r k) v silent = silent_left (k (answer v.rows r)) v silent
silent_left (Asking c k) v silent = silent_left (k (value v c)) v silent
silent_left (Write bs k) v silent = absurd silent
silent_left (Attach l k) v silent = absurd silent
silent_left (Clock age k) v silent = absurd silent
silent_left (Part h k) v silent = absurd silent

-- of a decision whether it allows
allows_left : (p : Plan Access) (v : Visit) (access : Access) → settled v p ≡ Done access → settled v (p >>= λ a. Done (is_allowed a)) ≡ Done (is_allowed access)
allows_left p v access left = settled_bind v p (λ a. Done (is_allowed a)) ∙ ap (λ l. l >>= λ a. Done (is_allowed a)) left

-- ---- nodes

pub node_left : (v : Visit) (n : ℕ) → settled v (node_access op.View n) ≡ Done (access_to_node v.rows v.viewer op.View n)
node_left v n = let r = node_read op.View n v in silent_left (node_access op.View n) v r.silent ∙ ap Done r.result

pub same_node_access : {v v' : Visit} → AlikeVisits v v' → (n : ℕ) → Alike v v' (node_access op.View n) (node_access op.View n)
same_node_access {v = v} {v' = v'} alike n = record { same = node_left v n ∙ ap Done (alike.access n) ∙ sym (node_left v' n) }

pub view_left : (v : Visit) (n : ℕ) → settled v (may_view_node n) ≡ Done (sees v n)
unfolding may_view_node
view_left v n = allows_left (node_access op.View n) v (access_to_node v.rows v.viewer op.View n) (node_left v n)

pub same_view : {v v' : Visit} → AlikeVisits v v' → (n : ℕ) → Alike v v' (may_view_node n) (may_view_node n)
same_view {v = v} {v' = v'} alike n =
    record { same = view_left v n ∙ ap (λ a. Done (is_allowed a)) (alike.access n) ∙ sym (view_left v' n) }

-- ---- fields

-- access to the field of a name of a node, as of one of a type
abbrev pub field_answer : Visit → ℕ → List ℕ → List ℕ → Access
field_answer v n type name = access_to_found_field v.rows v.viewer op.View (owner_in (node_of v.rows n)) name (field_of v.rows type name)

pub field_left : (v : Visit) (n : ℕ) (type name : List ℕ) → settled v (may_view_field n type name) ≡ Done (is_allowed (field_answer v n type name))
unfolding may_view_field
field_left v n type name =
    let r = field_read op.View n type name v in
    allows_left (field_access op.View n type name) v (field_answer v n type name)
    (silent_left (field_access op.View n type name) v r.silent ∙ ap Done r.result)

-- ---- terms, users, listings

pub term_view_left : (v : Visit) (t : ℕ) → settled v (may_view_term t) ≡ Done (is_allowed (access_to_term v.rows v.viewer t))
unfolding may_view_term
term_view_left v t =
    let r = term_read t v in
    allows_left (term_access t) v (access_to_term v.rows v.viewer t) (silent_left (term_access t) v r.silent ∙ ap Done r.result)

pub same_holds : {v v' : Visit} → AlikeVisits v v' → (permission : List ℕ) → Alike v v' (holds permission) (holds permission)
unfolding holds
same_holds alike permission =
    alike_bind _ _ (alike_asking alike context.UserPermissions) (λ held. alike_done (has held permission))

same_owner : {v v' : Visit} → AlikeVisits v v' → (uid : ℕ) → Alike v v' (is_owner uid) (is_owner uid)
unfolding is_owner
same_owner alike uid = alike_bind _ _ (alike_asking alike context.User) (λ viewer. alike_done (owns viewer uid))

pub same_term_access : {v v' : Visit} → AlikeVisits v v' → (t : ℕ) → Alike v v' (term_access t) (term_access t)
unfolding term_access
same_term_access alike t =
    alike_bind _ _ (alike_reading alike (TermRow t) tt) (λ found.
    alike_bind _ _ (same_holds alike administer_taxonomy) (λ administers.
    alike_bind _ _ (same_holds alike access_content) (λ content.
    alike_done (term_decision (is_published found) administers content))))

-- what is decided of a user that was found
abbrev found_access : ℕ → Option User → Plan Access
found_access u found = do
  profiles ← holds access_user_profiles
  administers ← holds administer_users
  if permitted_profile (is_active found) profiles administers then Done Allowed else (do
    own ← is_owner u
    Done (own_decision (is_active found) own))

same_found_access : {v v' : Visit} → AlikeVisits v v' → (u : ℕ) (found : Option User) → Alike v v' (found_access u found) (found_access u found)
same_found_access alike u found =
    alike_bind _ _ (same_holds alike access_user_profiles) (λ profiles.
    alike_bind _ _ (same_holds alike administer_users) (λ administers.
    alike_if (permitted_profile (is_active found) profiles administers) (alike_done Allowed)
    (alike_bind _ _ (same_owner alike u) (λ own. alike_done (own_decision (is_active found) own)))))

pub same_user_access : {v v' : Visit} → AlikeVisits v v' → (u : ℕ) → Alike v v' (user_access u) (user_access u)
unfolding user_access
same_user_access alike u =
    alike_user alike u (found_access u) (same_found_access alike u None) (λ user digest salt. same_found_access alike u (Some user))

pub same_listing_access : {v v' : Visit} → AlikeVisits v v' → Alike v v' listing_access listing_access
unfolding listing_access
same_listing_access alike = alike_bind _ _ (same_holds alike access_content) (λ content. alike_done _)

pub same_route_access : {v v' : Visit} → AlikeVisits v v' → (to : Route) → Alike v v' (route_access to) (route_access to)
same_route_access alike (route.Node n) = same_node_access alike n
same_route_access alike (route.Term t) = same_term_access alike t
same_route_access alike (route.User u) = same_user_access alike u
same_route_access alike (route.Listing name) = same_listing_access alike
same_route_access alike (route.Json (entity.Node n)) = same_node_access alike n
same_route_access alike (route.Json (entity.Term t)) = same_term_access alike t
same_route_access alike (route.Json (entity.User u)) = same_user_access alike u
same_route_access alike (route.Json (entity.Listing name)) = same_listing_access alike
same_route_access alike route.Login = alike_done _
same_route_access alike route.Nothing = alike_done _

pub same_term_view : {v v' : Visit} → AlikeVisits v v' → (t : ℕ) → Alike v v' (may_view_term t) (may_view_term t)
unfolding may_view_term
same_term_view alike t = alike_bind _ _ (same_term_access alike t) (λ access. alike_done (is_allowed access))

pub same_user_view : {v v' : Visit} → AlikeVisits v v' → (u : ℕ) → Alike v v' (may_view_user u) (may_view_user u)
unfolding may_view_user
same_user_view alike u = alike_bind _ _ (same_user_access alike u) (λ access. alike_done (is_allowed access))
