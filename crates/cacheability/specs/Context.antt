-- The texts of cache contexts (Drupal's Cache API, "Cache contexts").
use Rattle.std.specs.Prelude.{ℕ, List, [], ◌++◌, codes, Bool, true, false}
use Rattle.std.specs.Ordering.{nat_cmp}
use Rattle.std.specs.Cmp.Lexicographic.{slice_cmp}
use Rattle.std.specs.declared.cmp.Ordering.{Ordering}
use Rattle.cacheability.specs.declared.context.Context.{Context}
use Rattle.cacheability.specs.declared.context.Context.TheVariants as context

-- the text of a context: `.` goes down a level and `:` adds a parameter
abbrev pub context_text : Context → List ℕ
context_text context.Language = codes "languages:language_interface"
context_text context.Theme = codes "theme"
context_text context.User = codes "user"
context_text context.UserRoles = codes "user.roles"
context_text context.UserPermissions = codes "user.permissions"
context_text context.NodeGrantsView = codes "user.node_grants:view"
context_text context.Url = codes "url"
context_text context.UrlPath = codes "url.path"
context_text context.IsFront = codes "url.path.is_front"
context_text context.QueryArgs = codes "url.query_args"
context_text (context.QueryArg name) = codes "url.query_args:" ++ name
context_text context.Session = codes "session"
context_text context.SessionExists = codes "session.exists"
context_text (context.MenuTrail m) = codes "route.menu_active_trails:" ++ m

-- where the kind of a context stands among the kinds, by the order of texts
abbrev pub context_rank : Context → ℕ
context_rank context.Language = 0
context_rank (context.MenuTrail m) = 1
context_rank context.Session = 2
context_rank context.SessionExists = 3
context_rank context.Theme = 4
context_rank context.Url = 5
context_rank context.UrlPath = 6
context_rank context.IsFront = 7
context_rank context.QueryArgs = 8
context_rank (context.QueryArg name) = 9
context_rank context.User = 10
context_rank context.NodeGrantsView = 11
context_rank context.UserPermissions = 12
context_rank context.UserRoles = 13

-- the name in a context, if there is one
abbrev pub context_name : Context → List ℕ
context_name (context.QueryArg name) = name
context_name (context.MenuTrail m) = m
context_name _ = []

-- contexts are ordered by their texts
abbrev pub context_cmp : Context → Context → Ordering
context_cmp a b = slice_cmp nat_cmp (context_text a) (context_text b)

-- what varies by the viewer or the session is for one viewer alone
abbrev pub is_personal : Context → Bool
is_personal context.User = true
is_personal context.Session = true
is_personal _ = false
