-- What was made for nobody on the state that nobody reads is fresh there.
use Rattle.std.proofs.Common.{ℕ, List, [], ◌∷◌, ◌≡◌, ◌∙◌, refl, sym, ap, subst, Bool, true, false, Option, Some, None, map}
use Rattle.std.specs.Prelude.{if◌then◌else◌}
use Rattle.std.specs.Arc.{arc_value}
use Rattle.std.specs.declared.sync.Arc.{Arc}
use Rattle.std.specs.declared.alloc.Global.{Global}
use Rattle.cacheability.specs.declared.context.Context.{Context}
use Rattle.cacheability.specs.declared.context.Context.TheVariants as context
use Rattle.content_rows.specs.declared.cell.Cell.{Cell}
use Rattle.content_rows.specs.declared.row.Row.{Row}
use Rattle.content_rows.specs.declared.row.User.{User}
use Rattle.content_rows.specs.declared.row.Session.{Session}
use Rattle.content_rows.specs.Permission.{session_live}
use Rattle.content_state.specs.State.{State}
use Rattle.content_state.specs.declared.ask.Ask.{Ask}
use Rattle.content_state.specs.declared.ask.Viewer.{Viewer}
use Rattle.content_state.specs.Ask.{IsAsk, path_of, query_of}
use Rattle.content_state.specs.Viewer.{nobody, viewer_by, viewer_with, viewer_of}
use Rattle.indexed_rows.specs.Rows.{session_of, user_of}
use Rattle.cache_contexts.specs.Values.{visit_on, valued}
use Rattle.cache_entries.specs.declared.entry.Entry.{Entry}
use Rattle.cache_entries.specs.declared.key.Key.{Key}
use Rattle.cache_entries.specs.declared.key.Subject.{Subject}
use Rattle.cache_entries.specs.declared.key.Subject.TheVariants as subject
use Rattle.cache_entries.specs.declared.kept.Found.{Found}
use Rattle.cache_entries.specs.declared.kept.Found.TheVariants as found
use Rattle.cache_entries.specs.Entries.{IsFresh}
use Rattle.cache_entries.specs.Sound.{IsSound, IsAskedFor}
use Rattle.page_meaning.specs.Meaning.{meaning}
use Rattle.element_entries.specs.Readers.{Reader}
use Rattle.site_house.specs.House.{HouseView}
use Rattle.site_house.specs.Bins.{IsSoundIn}
use Rattle.kept_pages.specs.Houses.{Reads, IsCurrent}
use Rattle.kept_pages.proofs.Entries.{one_of_number, found_has_sum}

-- ---- who has no session is nobody

some_none : {A : Type 0} (x : A) → Some x ≡ None → ⊥
some_none x e = cc

named : (live : Bool) (uid : ℕ) (token : List ℕ) → (if live then record { uid = uid; session = Some token } else nobody).session ≡ None → (if live then record { uid = uid; session = Some token } else nobody) ≡ nobody
named true uid token none = absurd (some_none token none)
named false uid token none = refl

by_user : (token : List ℕ) (session : Session) (o : Option User) (moment : ℕ) → (viewer_by token session o moment).session ≡ None → viewer_by token session o moment ≡ nobody
by_user token session None moment none = refl
by_user token session (Some user) moment none = named (session_live session user moment) session.uid token none

by_session : (rows : List (Cell × Row)) (token : List ℕ) (o : Option Session) (moment : ℕ) → (viewer_with rows token o moment).session ≡ None → viewer_with rows token o moment ≡ nobody
by_session rows token None moment none = refl
by_session rows token (Some session) moment none = by_user token session (user_of rows session.uid) moment none

by_cookie : (rows : List (Cell × Row)) (cookie : Option (List ℕ)) (moment : ℕ) → (viewer_of rows cookie moment).session ≡ None → viewer_of rows cookie moment ≡ nobody
by_cookie rows None moment none = refl
by_cookie rows (Some token) moment none = by_session rows token (session_of rows token) moment none

-- a viewer that no cookie names a session of is nobody
pub nobody_by : (rows : List (Cell × Row)) (cookie : Option (List ℕ)) (moment : ℕ) (viewer : Viewer) → viewer ≡ viewer_of rows cookie moment → viewer.session ≡ None → viewer ≡ nobody
nobody_by rows cookie moment viewer is none = is ∙ by_cookie rows cookie moment (ap (λ (v : Viewer). v.session) (sym is) ∙ none)

-- ---- the values of contexts

-- what is asked for, whatever the cookie
abbrev without_cookie : Ask → Ask
without_cookie ask = record ask { cookie = None }

-- no value of a context depends on the cookie or the moment
plain_value : (s : State) (viewer : Viewer) (ask : Ask) (moment : ℕ) (c : Context) → valued (visit_on s viewer ask moment) c ≡ valued (visit_on s viewer (without_cookie ask) 0) c
plain_value s viewer ask moment context.Language = refl
plain_value s viewer ask moment context.Theme = refl
plain_value s viewer ask moment context.User = refl
plain_value s viewer ask moment context.UserRoles = refl
plain_value s viewer ask moment context.UserPermissions = refl
plain_value s viewer ask moment context.NodeGrantsView = refl
plain_value s viewer ask moment context.Url = refl
plain_value s viewer ask moment context.UrlPath = refl
plain_value s viewer ask moment context.IsFront = refl
plain_value s viewer ask moment context.QueryArgs = refl
plain_value s viewer ask moment (context.QueryArg name) = refl
plain_value s viewer ask moment context.Session = refl
plain_value s viewer ask moment context.SessionExists = refl
plain_value s viewer ask moment (context.MenuTrail name) = refl

-- asks of one target are one but for their cookies
same_asks : (one other : Ask) → IsAsk one → IsAsk other → one.target ≡ other.target → without_cookie one ≡ without_cookie other
same_asks one other right right' target i = record {
  target = target i;
  path = (right.path ∙ ap path_of target ∙ sym right'.path) i;
  query = (right.query ∙ ap query_of target ∙ sym right'.query) i;
  cookie = None;
}

module _ (s : State) (viewer : Viewer) (one other : Ask) (moment moment' : ℕ) (right : IsAsk one) (right' : IsAsk other) (target : one.target ≡ other.target) where
  same_value : (c : Context) → valued (visit_on s viewer one moment) c ≡ valued (visit_on s viewer other moment') c
  same_value c =
      plain_value s viewer one moment c ∙ ap (λ (ask : Ask). valued (visit_on s viewer ask 0) c) (same_asks one other right right' target)
      ∙ sym (plain_value s viewer other moment' c)

  same_values : (cs : List Context) → map (valued (visit_on s viewer one moment)) cs ≡ map (valued (visit_on s viewer other moment')) cs
  same_values [] i = []
  same_values (c ∷ cs) i = same_value c i ∷ same_values cs i

-- ---- a page of a target

-- what was found of a target is fresh for nobody on the state that it was made on
pub current_is_fresh : (house : HouseView) (r : Reader) (key : Key) (was : Arc Entry Global) (seen : Found) → seen ≡ found.Entry was → IsSoundIn house key seen → Reads house r → key.subject ≡ subject.Target r.ask.target
    → IsCurrent r (arc_value was) → IsFresh r.state r.viewer r.ask r.moment (arc_value was)
current_is_fresh house r key was seen is sound reads target now =
    let e : Entry = arc_value was in
    let made : IsSound meaning house.base house.seen key e = subst (IsSoundIn house key) is sound in
    let asked : IsAskedFor (subject.Target r.ask.target) made.viewer made.ask = subst (λ (s : Subject). IsAskedFor s made.viewer made.ask) target made.fits.asked in
    let states : made.state ≡ r.state = one_of_number house.base house.seen made.state r.state made.of_log reads.seen (sym made.made_on.made_at ∙ now.made_at) in
    let viewers : made.viewer ≡ r.viewer = asked.1 ∙ sym now.viewer in
    record {
      values_are = made.made_on.values
          ∙ ap (λ (s : State). map (valued (visit_on s made.viewer made.ask e.made_moment)) e.cacheability.contexts) states
          ∙ ap (λ (v : Viewer). map (valued (visit_on r.state v made.ask e.made_moment)) e.cacheability.contexts) viewers
          ∙ same_values r.state r.viewer made.ask r.ask e.made_moment r.moment made.right reads.right asked.0 e.cacheability.contexts;
      sum = found_has_sum house r key was seen is sound reads now.made_at;
      not_before = now.not_before;
      not_after = now.not_after;
    }
