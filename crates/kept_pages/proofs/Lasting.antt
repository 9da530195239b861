-- What a plan makes on a visit it makes on the same visit at a later moment.
use Rattle.std.proofs.Common.{ℕ, List, ◌≡◌, ◌≤◌, refl, subst, inl, inr}
use Rattle.cacheability.specs.declared.context.Context.{Context}
use Rattle.cacheability.specs.declared.context.Context.TheVariants as context
use Rattle.content_state.specs.Context.{Visit, Value, value, dropped_tags}
use Rattle.content_state.specs.declared.element.Library.{Library}
use Rattle.content_state.specs.Plan.{Piece, Plan, Needs, Made, AllIn, CoversContext}
use Rattle.fragment_cache.specs.Determined.{Agree}
use Rattle.fragment_cache.proofs.Determined.{made_again}

-- the same visit at another moment
abbrev pub at : Visit → ℕ → Visit
at v moment = record v { moment = moment }

-- no context and no tag that stands in for one depends on the moment
same_value : (v : Visit) (moment : ℕ) (c : Context) → ◌≡◌ {A = Value c} (value v c) (value (at v moment) c)
same_value v moment context.Language = refl
same_value v moment context.Theme = refl
same_value v moment context.User = refl
same_value v moment context.UserRoles = refl
same_value v moment context.UserPermissions = refl
same_value v moment context.NodeGrantsView = refl
same_value v moment context.Url = refl
same_value v moment context.UrlPath = refl
same_value v moment context.IsFront = refl
same_value v moment context.QueryArgs = refl
same_value v moment (context.QueryArg name) = refl
same_value v moment context.Session = refl
same_value v moment context.SessionExists = refl
same_value v moment (context.MenuTrail name) = refl

same_tags : (v : Visit) (moment : ℕ) (c : Context) → dropped_tags v c ≡ dropped_tags (at v moment) c
same_tags v moment context.Language = refl
same_tags v moment context.Theme = refl
same_tags v moment context.User = refl
same_tags v moment context.UserRoles = refl
same_tags v moment context.UserPermissions = refl
same_tags v moment context.NodeGrantsView = refl
same_tags v moment context.Url = refl
same_tags v moment context.UrlPath = refl
same_tags v moment context.IsFront = refl
same_tags v moment context.QueryArgs = refl
same_tags v moment (context.QueryArg name) = refl
same_tags v moment context.Session = refl
same_tags v moment context.SessionExists = refl
same_tags v moment (context.MenuTrail name) = refl

covered : (v : Visit) (moment : ℕ) (needs : Needs) (c : Context) → CoversContext v needs c → CoversContext (at v moment) needs c
covered v moment needs c covers = elim covers [
  | inl there ↦ inl there
  | inr other ↦ inr (other.0, other.1, other.2, subst (λ ts. AllIn ts needs.tags) (same_tags v moment c) other.3)
]

pub later_agrees : (v : Visit) (moment : ℕ) (needs : Needs) → v.moment ≤ moment → Agree v (at v moment) needs
later_agrees v moment needs not_before = record {
  answers = λ r all. refl;
  covers = λ r all. all;
  values = λ c covers. same_value v moment c;
  contexts = λ c covers. covered v moment needs c covers;
  not_before = not_before;
}

pub made_later : {A : Type 0} (p : Plan A) (v : Visit) (moment : ℕ) (x : A) (shown : List Piece) (libraries : List Library) (needs : Needs) → v.moment ≤ moment → Made p v x shown libraries needs → Made p (at v moment) x shown libraries needs
made_later p v moment x shown libraries needs not_before made = made_again p v (at v moment) x shown libraries needs (later_agrees v moment needs not_before) made
