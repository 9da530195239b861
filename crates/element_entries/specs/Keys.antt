-- Under which keys elements are kept.
-- https://www.drupal.org/docs/drupal-apis/render-api/cacheability-of-render-arrays
use Rattle.std.specs.Prelude.{List, [], ◌∷◌, map, Option, Some, None}
use Rattle.cacheability.specs.declared.context.Context.{Context}
use Rattle.cacheability.specs.declared.context.Context.TheVariants as context
use Rattle.content_rows.specs.declared.cell.Cell.{Cell}
use Rattle.content_rows.specs.declared.row.Block.{Block}
use Rattle.content_rows.specs.declared.row.BlockKind.{BlockKind}
use Rattle.content_rows.specs.declared.row.BlockKind.TheVariants as kind
use Rattle.content_rows.specs.declared.row.Row.{Row}
use Rattle.content_state.specs.declared.element.Fragment.{Fragment}
use Rattle.content_state.specs.declared.element.Fragment.TheVariants as fragment
use Rattle.content_state.specs.Context.{Visit}
use Rattle.indexed_rows.specs.Rows.{block_of}
use Rattle.cache_contexts.specs.Values.{visit_on, valued}
use Rattle.cache_entries.specs.declared.key.Key.{Key}
use Rattle.cache_entries.specs.declared.key.Subject.{Subject}
use Rattle.cache_entries.specs.declared.key.Subject.TheVariants as subject
use Rattle.element_entries.specs.declared.first.Declared.{Declared}
use Rattle.element_entries.specs.declared.first.Declared.TheVariants as declares
use Rattle.element_entries.specs.declared.first.FirstContexts.{FirstContexts}
use Rattle.element_entries.specs.declared.first.FirstContexts.TheVariants.{Three, Four}
use Rattle.element_entries.specs.Readers.{Reader}

-- what a reader visits
abbrev pub visit : Reader → Visit
visit r = visit_on r.state r.viewer r.ask r.moment

-- the contexts that every element is kept by
abbrev pub required : List Context
required = context.Language ∷ context.Theme ∷ context.UserPermissions ∷ []

-- What is declared before something is built: by a greeting that it varies by the viewer, and by a value that guards forms that it
-- varies by the session.
abbrev pub declared_by_kind : BlockKind → Declared
declared_by_kind kind.Text = declares.Nothing
declared_by_kind kind.Menu = declares.Nothing
declared_by_kind kind.Listing = declares.Nothing
declared_by_kind kind.Greeting = declares.User
declared_by_kind kind.Csrf = declares.Session
declared_by_kind kind.Clock = declares.Nothing

abbrev pub declared_by_block : Option Block → Declared
declared_by_block None = declares.Nothing
declared_by_block (Some block) = declared_by_kind block.kind

-- by a block on these rows, by its kind, and nothing by all else
abbrev pub declared_by_fragment : List (Cell × Row) → Fragment → Declared
declared_by_fragment rows (fragment.Block name) = declared_by_block (block_of rows name)
declared_by_fragment rows (fragment.Menu name) = declares.Nothing
declared_by_fragment rows (fragment.Listing name where_placed) = declares.Nothing
declared_by_fragment rows (fragment.TermListing t) = declares.Nothing
declared_by_fragment rows (fragment.Node n mode) = declares.Nothing

abbrev pub declared_by : List (Cell × Row) → Subject → Declared
declared_by rows (subject.Fragment f) = declared_by_fragment rows f
declared_by rows (subject.Page path) = declares.Nothing
declared_by rows (subject.Target target) = declares.Nothing

-- the contexts of the first key: the required ones and what is declared, in the order of their texts
abbrev pub first_by : Declared → List Context
first_by declares.Nothing = required
first_by declares.User = context.Language ∷ context.Theme ∷ context.User ∷ context.UserPermissions ∷ []
first_by declares.Session = context.Language ∷ context.Session ∷ context.Theme ∷ context.UserPermissions ∷ []

abbrev pub contexts_in : FirstContexts → List Context
contexts_in (Three contexts) = contexts
contexts_in (Four contexts) = contexts

abbrev pub first_contexts : List (Cell × Row) → Subject → List Context
first_contexts rows s = first_by (declared_by rows s)

-- the key of what is kept, with the values of these contexts on a visit
abbrev pub key_by : Visit → Subject → List Context → Key
key_by v s contexts = record { subject = s; values = map (valued v) contexts }
