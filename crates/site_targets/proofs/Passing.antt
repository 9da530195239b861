-- What passes a test, along a list; and whether access opens a path.
use Rattle.std.proofs.Common.{ℕ, List, [], ◌∷◌, ◌++◌, ◌≡◌, ◌≢◌, refl, sym, ◌∙◌, ap, append_assoc, Bool, true, false, ◌==◌, ◌↔◌, IsTrue}
use Rattle.std.specs.List.{filter}
use Rattle.std.specs.Prelude.{cond}
use Rattle.std.proofs.lemmas.Bool.{false_from_ne_true}
use Rattle.cacheability.specs.declared.cacheability.Cacheability.{Cacheability}
use Rattle.access_result.specs.declared.verdict.Verdict.TheVariants as verdict
use Rattle.access_result.specs.declared.reason.Reason.{Reason}
use Rattle.access_result.specs.declared.reason.Reason.TheVariants as reason
use Rattle.access_result.specs.declared.access_result.AccessResult.{AccessResult}
use Rattle.content_rows.specs.declared.cell.Cell.{Cell}
use Rattle.content_rows.specs.declared.row.Row.{Row}
use Rattle.content_state.specs.declared.ask.Viewer.{Viewer}
use Rattle.content_state.specs.declared.route.Route.{Route}
use Rattle.content_state.specs.declared.route.Route.TheVariants as route
use Rattle.content_state.specs.Route.{route_of}
use Rattle.content_state.specs.Viewer.{nobody}
use Rattle.site_access.specs.Access.{Access, Allowed, Denied}
use Rattle.site_access.specs.Depends.{told, verdict_for}
use Rattle.site_access.specs.Routes.{access_to_route}
use Rattle.site_targets.specs.Open.{access_status, route_status, is_open_path}

-- ---- along a list

-- what passes of what is left, behind what passed so far
abbrev pub PassedSoFar : (List ℕ → Bool) → List (List ℕ) → List (List ℕ) → List (List ℕ) → Type 0
PassedSoFar p passed left whole = passed ++ filter p left ≡ whole

pub passed_one : (p : List ℕ → Bool) (passed more left next whole : List (List ℕ)) (t : List ℕ) → left ≡ t ∷ next → more ≡ passed ++ t ∷ [] → p t ≡ true → PassedSoFar p passed left whole → PassedSoFar p more next whole
passed_one p passed more left next whole t split added passes so_far =
    ap (λ m. m ++ filter p next) added
    ∙ append_assoc passed (t ∷ []) (filter p next)
    ∙ ap (λ l. passed ++ l) (sym (ap (λ b. cond b (t ∷ filter p next) (filter p next)) passes))
    ∙ ap (λ l. passed ++ filter p l) (sym split)
    ∙ so_far

pub passed_none : (p : List ℕ → Bool) (passed left next whole : List (List ℕ)) (t : List ℕ) → left ≡ t ∷ next → p t ≡ false → PassedSoFar p passed left whole → PassedSoFar p passed next whole
passed_none p passed left next whole t split fails so_far =
    ap (λ l. passed ++ l) (sym (ap (λ b. cond b (t ∷ filter p next) (filter p next)) fails))
    ∙ ap (λ l. passed ++ filter p l) (sym split)
    ∙ so_far

-- ---- access

neutral : verdict.Neutral ≢ verdict.Allowed
neutral e = cc

forbidden : verdict.Forbidden ≢ verdict.Allowed
forbidden e = cc

denies : (why : Reason) → verdict_for why ≢ verdict.Allowed
denies (reason.Grant op n) = neutral
denies (reason.Permission permission) = forbidden
denies (reason.OwnerOnly field) = forbidden
denies reason.Unrecognized = forbidden
denies reason.NoSession = forbidden

-- a result that tells an answer is allowed where its status is 200
tells : (x : Access) (depends : Cacheability) (r : AccessResult) (allowed : Bool) → r ≡ told x depends → (IsTrue allowed ↔ (r.verdict ≡ verdict.Allowed)) → allowed ≡ (access_status x == 200)
tells Allowed depends r allowed is says = says.1 (ap (λ (s : AccessResult). s.verdict) is)
tells (Denied why) depends r allowed is says =
    false_from_ne_true allowed (λ yes. denies why (sym (ap (λ (s : AccessResult). s.verdict) is) ∙ says.0 yes))

somewhere : (rows : List (Cell × Row)) (viewer : Viewer) (to : Route) → to ≢ route.Nothing → route_status rows viewer to ≡ access_status (access_to_route rows viewer to)
somewhere rows viewer (route.Node n) leads = refl
somewhere rows viewer (route.Term t) leads = refl
somewhere rows viewer (route.User u) leads = refl
somewhere rows viewer (route.Listing name) leads = refl
somewhere rows viewer (route.Json it) leads = refl
somewhere rows viewer route.Login leads = refl
somewhere rows viewer route.Nothing leads = absurd (leads refl)

-- a path that leads somewhere is open where access to that is allowed
pub opens_path : (rows : List (Cell × Row)) (path : List ℕ) (viewer : Viewer) (to : Route) (depends : Cacheability) (r : AccessResult) (allowed : Bool) → viewer ≡ nobody → to ≡ route_of rows path → to ≢ route.Nothing → r ≡ told (access_to_route rows viewer to) depends → (IsTrue allowed ↔ (r.verdict ≡ verdict.Allowed)) → allowed ≡ is_open_path rows path
opens_path rows path viewer to depends r allowed is_nobody leads some is says =
    tells (access_to_route rows viewer to) depends r allowed is says
    ∙ ap (λ w. access_status (access_to_route rows w to) == 200) is_nobody
    ∙ ap (λ code. code == 200) (sym (somewhere rows nobody to some))
    ∙ ap (λ t. route_status rows nobody t == 200) leads
