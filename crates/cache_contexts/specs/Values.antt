-- Contexts with their values on a visit of a state.
-- https://www.drupal.org/docs/drupal-apis/cache-api/cache-contexts
use Rattle.std.specs.Prelude.{ℕ}
use Rattle.cacheability.specs.declared.context.Context.{Context}
use Rattle.cacheability.specs.declared.context.Context.TheVariants as context
use Rattle.content_state.specs.State.{State}
use Rattle.content_state.specs.declared.ask.Ask.{Ask}
use Rattle.content_state.specs.declared.ask.Viewer.{Viewer}
use Rattle.content_state.specs.Context.{Visit, Value, value}
use Rattle.cache_contexts.specs.declared.context_value.AnyValue.{AnyValue}
use Rattle.cache_contexts.specs.declared.context_value.AnyValue.TheVariants as any
use Rattle.cache_contexts.specs.declared.context_value.ContextValue.{ContextValue}

-- a visit of a state
abbrev pub visit_on : State → Viewer → Ask → ℕ → Visit
visit_on state viewer ask moment = record { rows = state.rows; viewer = viewer; ask = ask; moment = moment }

-- the value of a context, as one of the values of any
abbrev pub as_any : (c : Context) → Value c → AnyValue
as_any context.Language name = any.Name name
as_any context.Theme name = any.Name name
as_any context.User uid = any.User uid
as_any context.UserRoles names = any.Names names
as_any context.UserPermissions permissions = any.Permissions permissions
as_any context.NodeGrantsView grants = any.Grants grants
as_any context.Url text = any.Text text
as_any context.UrlPath text = any.Text text
as_any context.IsFront flag = any.Flag flag
as_any context.QueryArgs text = any.Text text
as_any (context.QueryArg name) text = any.Argument text
as_any context.Session token = any.Session token
as_any context.SessionExists flag = any.Flag flag
as_any (context.MenuTrail name) ids = any.Names ids

-- a context with its value on a visit
abbrev pub valued : Visit → Context → ContextValue
valued v c = record { context = c; value = as_any c (value v c) }
