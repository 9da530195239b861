-- Where and for whom a block shows, and, as a plan of reads, what that depends on.
-- https://www.drupal.org/docs/user_guide/en/block-concept.html
-- https://www.drupal.org/docs/drupal-apis/cache-api/cache-contexts
use Rattle.std.specs.Prelude.{ℕ, List, [], ◌∷◌, ◌++◌, ◌≡◌, Bool, true, false, not, ◌==◌, ◌&&◌, ◌||◌, codes, if◌then◌else◌}
use Rattle.std.specs.List.{list_any}
use Rattle.std.specs.Str.{bytes_eq}
use Rattle.cacheability.specs.declared.context.Context.{Context}
use Rattle.cacheability.specs.declared.context.Context.TheVariants as context
use Rattle.content_rows.specs.declared.cell.Cell.{Cell}
use Rattle.content_rows.specs.declared.row.Row.{Row}
use Rattle.content_rows.specs.declared.row.Block.{Block}
use Rattle.content_rows.specs.Permission.{anonymous, authenticated}
use Rattle.content_state.specs.declared.ask.Ask.{Ask}
use Rattle.content_state.specs.declared.ask.Viewer.{Viewer}
use Rattle.content_state.specs.Viewer.{roles_of}
use Rattle.cacheability.specs.declared.max_age.MaxAge.TheVariants.{Permanent}
use Rattle.content_state.specs.Context.{Visit, is_front}
use Rattle.content_state.specs.Met.{Met, result_of, met}
use Rattle.content_state.specs.Plan.{Plan, Done, asking, ◌>>=◌}

unfoldable pub front_word : List ℕ
front_word = codes "<front>"

-- whether a viewer has a role, by the roles of its row: `anonymous` alone where nobody is logged in, else
-- `authenticated` and those of the row
abbrev pub has_role : ℕ → List (List ℕ) → List ℕ → Bool
has_role uid own role =
    if uid == 0 then bytes_eq role anonymous else bytes_eq role authenticated || list_any (bytes_eq role) own

-- whether one of a block's roles is among the viewer's
abbrev pub is_met : List (List ℕ) → List (List ℕ) → Bool
is_met roles own = list_any (λ role. list_any (bytes_eq role) own) roles

-- whether a block of such roles shows for a viewer of those; where it has none, it shows for everybody
abbrev pub is_for : List (List ℕ) → List (List ℕ) → Bool
is_for [] own = true
is_for (role ∷ roles) own = is_met (role ∷ roles) own

-- whether a block's path is this one, or stands for the front and this is the front
abbrev pub is_place : List ℕ → Bool → List ℕ → Bool
is_place path front place = bytes_eq place path || (bytes_eq place front_word && front)

-- Whether a block shows on a path: on those that it names, or, where it hides on them, on the others. Where it names
-- none, it shows on all.
abbrev pub is_on : Bool → List (List ℕ) → List ℕ → Bool → Bool
is_on hide [] path front = true
is_on hide (place ∷ places) path front =
    let here = list_any (is_place path front) (place ∷ places) in
    if hide then not here else here

-- whether a block shows for a viewer on what is asked for
abbrev pub is_visible : List (Cell × Row) → Viewer → Ask → Block → Bool
is_visible rows viewer ask block =
    is_for block.roles (roles_of rows viewer) && is_on block.hide block.paths ask.path (is_front rows ask.path)

-- The contexts that this reads: the viewer's roles where the block names roles, the path where it names paths, and
-- whether the path is the front's where it names the front.
unfoldable pub for_viewer : List (List ℕ) → Plan Bool
for_viewer [] = Done true
for_viewer (role ∷ roles) = asking context.UserRoles >>= λ own. Done (is_for (role ∷ roles) own)

abbrev pub names_front : List (List ℕ) → Bool
names_front places = list_any (λ place. bytes_eq place front_word) places

unfoldable pub at_front : Bool → Plan Bool
at_front named = if named then asking context.IsFront else Done false

unfoldable pub on_path : Bool → List (List ℕ) → Plan Bool
on_path hide [] = Done true
on_path hide (place ∷ places) =
    asking context.UrlPath
    >>= λ path. at_front (names_front (place ∷ places)) >>= λ front. Done (is_on hide (place ∷ places) path front)

unfoldable pub visible : Block → Plan Bool
visible block = for_viewer block.roles >>= λ mine. on_path block.hide block.paths >>= λ here. Done (mine && here)

-- the contexts that the plan meets
abbrev pub role_contexts : List (List ℕ) → List Context
role_contexts [] = []
role_contexts (role ∷ roles) = context.UserRoles ∷ []

abbrev pub front_contexts : Bool → List Context
front_contexts named = if named then context.IsFront ∷ [] else []

abbrev pub path_contexts : List (List ℕ) → List Context
path_contexts [] = []
path_contexts (place ∷ places) = context.UrlPath ∷ front_contexts (names_front (place ∷ places))

abbrev pub met_contexts : List Context → Met
met_contexts contexts = record { tags = []; contexts = contexts; age = Permanent; places = [] }

-- the plan gives whether the block shows, and meets its contexts
abbrev pub VisibleAnswers : Type 0
VisibleAnswers = (block : Block) (v : Visit)
    → (result_of (visible block) v ≡ is_visible v.rows v.viewer v.ask block)
    × (met (visible block) v ≡ met_contexts (role_contexts block.roles ++ path_contexts block.paths))
