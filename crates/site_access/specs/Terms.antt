-- Access to viewing a taxonomy term: plainly, as a plan of reads, and what it depends on.
-- https://api.drupal.org/api/drupal/core!modules!taxonomy!src!TermAccessControlHandler.php/class/TermAccessControlHandler/10
use Rattle.std.specs.Prelude.{ℕ, List, [], ◌∷◌, Bool, false, ◌&&◌, ◌||◌, Option, Some, None, codes, if◌then◌else◌}
use Rattle.cacheability.specs.declared.tag.Tag.TheVariants as tag
use Rattle.cacheability.specs.declared.context.Context.TheVariants as context
use Rattle.cacheability.specs.declared.cacheability.Cacheability.{Cacheability}
use Rattle.access_result.specs.declared.reason.Reason.TheVariants as reason
use Rattle.content_rows.specs.declared.cell.Cell.{Cell}
use Rattle.content_rows.specs.declared.row.Row.{Row}
use Rattle.content_rows.specs.declared.row.Term.{Term}
use Rattle.content_state.specs.declared.ask.Viewer.{Viewer}
use Rattle.indexed_rows.specs.Rows.{term_of}
use Rattle.content_state.specs.Viewer.{may, access_content}
use Rattle.content_state.specs.Read.{TermRow}
use Rattle.content_state.specs.Context.{Visit}
use Rattle.content_state.specs.Plan.{Plan, Done, reading, ◌>>=◌}
use Rattle.site_access.specs.Access.{Access, Allowed, Denied}
use Rattle.site_access.specs.Plans.{holds}
use Rattle.site_access.specs.Depends.{lasting}
use Rattle.site_access.specs.Laws.{GivesOnly}
use Rattle.site_access.specs.Exact.{DecidesExactly}

unfoldable pub administer_taxonomy : List ℕ
administer_taxonomy = codes "administer taxonomy"

abbrev pub is_published : Option Term → Bool
is_published None = false
is_published (Some term) = term.status

-- a published term needs `access content`, any other `administer taxonomy`
abbrev pub term_permission : Bool → List ℕ
term_permission published = if published then access_content else administer_taxonomy

-- who administers the taxonomy views each term, who may access content each published one
abbrev pub term_decision : Bool → Bool → Bool → Access
term_decision published administers content =
    if administers || (published && content) then Allowed else Denied (reason.Permission (term_permission published))

abbrev pub access_to_term : List (Cell × Row) → Viewer → ℕ → Access
access_to_term rows viewer t =
    term_decision (is_published (term_of rows t)) (may rows viewer administer_taxonomy) (may rows viewer access_content)

-- the plan of it
unfoldable pub term_access : ℕ → Plan Access
term_access t = do
  found ← reading (TermRow t)
  administers ← holds administer_taxonomy
  content ← holds access_content
  Done (term_decision (is_published found) administers content)

-- exactly what it depends on, whoever views
abbrev pub term_depends : ℕ → Cacheability
term_depends t = lasting (tag.Term t ∷ []) (context.UserPermissions ∷ [])

abbrev pub TermAccessIsExact : Type 0
TermAccessIsExact =
    (t : ℕ) (v : Visit) → DecidesExactly (term_access t) v (access_to_term v.rows v.viewer t) (term_depends t)

abbrev pub TermPlanAnswers : Type 0
TermPlanAnswers = (t : ℕ) (v : Visit) → GivesOnly (term_access t) v (access_to_term v.rows v.viewer t)
