-- When two values of contexts are the same, as a test, and what of them is hashed.
use Rattle.std.specs.Prelude.{ℕ, List, [], Bool, true, false, ◌&&◌, ◌==◌, Some, None, length}
use Rattle.std.specs.Bool.{beq}
use Rattle.std.specs.Option.{option_eq}
use Rattle.std.specs.Cmp.Lexicographic.{pointwise}
use Rattle.std.specs.Str.{bytes_eq}
use Rattle.std.specs.Hash as fed
use Rattle.cacheability.specs.Context.{context_text}
use Rattle.content_rows.specs.declared.row.Grant.{Grant}
use Rattle.content_rows.specs.declared.permission.Permissions.{Permissions}
use Rattle.content_rows.specs.declared.permission.Permissions.TheVariants as permissions
use Rattle.content_rows.specs.declared.permission.ViewGrants.{ViewGrants}
use Rattle.content_rows.specs.declared.permission.ViewGrants.TheVariants as grants
use Rattle.cache_contexts.specs.declared.context_value.AnyValue.{AnyValue}
use Rattle.cache_contexts.specs.declared.context_value.AnyValue.TheVariants as any
use Rattle.cache_contexts.specs.declared.context_value.ContextValue.{ContextValue}

abbrev pub same_texts : List (List ℕ) → List (List ℕ) → Bool
same_texts a b = pointwise bytes_eq a b

abbrev pub same_grant : Grant → Grant → Bool
same_grant a b = bytes_eq a.realm b.realm && (a.gid == b.gid)

abbrev pub same_permissions : Permissions → Permissions → Bool
same_permissions permissions.All permissions.All = true
same_permissions (permissions.These a) (permissions.These b) = same_texts a b
same_permissions _ _ = false

abbrev pub same_grants : ViewGrants → ViewGrants → Bool
same_grants grants.All grants.All = true
same_grants (grants.These a) (grants.These b) = pointwise same_grant a b
same_grants _ _ = false

abbrev pub same_value : AnyValue → AnyValue → Bool
same_value (any.Name a) (any.Name b) = bytes_eq a b
same_value (any.Text a) (any.Text b) = bytes_eq a b
same_value (any.Argument a) (any.Argument b) = option_eq bytes_eq a b
same_value (any.User a) (any.User b) = a == b
same_value (any.Flag a) (any.Flag b) = beq a b
same_value (any.Names a) (any.Names b) = same_texts a b
same_value (any.Session a) (any.Session b) = option_eq bytes_eq a b
same_value (any.Permissions a) (any.Permissions b) = same_permissions a b
same_value (any.Grants a) (any.Grants b) = same_grants a b
same_value _ _ = false

abbrev pub same_context_value : ContextValue → ContextValue → Bool
same_context_value a b = bytes_eq (context_text a.context) (context_text b.context) && same_value a.value b.value

-- Of texts the bytes are hashed, of permissions and grants how many there are, of the language and the theme, which all pages share,
-- nothing; and of a context with its value the value alone: under the keys of one thing mostly stand the same contexts.
abbrev pub text_writes : List ℕ → fed.HashWrites
text_writes text = fed.slice fed.u8 text

abbrev pub permissions_writes : Permissions → fed.HashWrites
permissions_writes permissions.All = []
permissions_writes (permissions.These texts) = fed.usize (length texts)

abbrev pub grants_writes : ViewGrants → fed.HashWrites
grants_writes grants.All = []
grants_writes (grants.These held) = fed.usize (length held)

abbrev pub value_writes : AnyValue → fed.HashWrites
value_writes (any.Name name) = []
value_writes (any.Text text) = text_writes text
value_writes (any.Argument None) = []
value_writes (any.Argument (Some text)) = text_writes text
value_writes (any.User uid) = fed.u32 uid
value_writes (any.Flag flag) = fed.bool flag
value_writes (any.Names names) = fed.slice text_writes names
value_writes (any.Session token) = fed.option text_writes token
value_writes (any.Permissions permissions) = permissions_writes permissions
value_writes (any.Grants grants) = grants_writes grants

abbrev pub context_value_writes : ContextValue → fed.HashWrites
context_value_writes v = value_writes v.value
