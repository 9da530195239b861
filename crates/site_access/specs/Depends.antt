-- What results of deciding about access are, and what they depend on.
use Rattle.std.specs.Prelude.{ℕ, List, [], ◌∷◌, Bool, true, not, Option, Some, None, is_some, if◌then◌else◌, unwrap_or}
use Rattle.cacheability.specs.declared.op.Op.{Op}
use Rattle.cacheability.specs.declared.op.Op.TheVariants as op
use Rattle.cacheability.specs.declared.tag.Tag.{Tag}
use Rattle.cacheability.specs.declared.tag.Tag.TheVariants as tag
use Rattle.cacheability.specs.declared.context.Context.{Context}
use Rattle.cacheability.specs.declared.context.Context.TheVariants as context
use Rattle.cacheability.specs.declared.cacheability.Cacheability.{Cacheability}
use Rattle.cacheability.specs.declared.max_age.MaxAge.TheVariants.{Permanent}
use Rattle.access_result.specs.declared.verdict.Verdict.{Verdict}
use Rattle.access_result.specs.declared.verdict.Verdict.TheVariants as verdict
use Rattle.access_result.specs.declared.reason.Reason.{Reason}
use Rattle.access_result.specs.declared.reason.Reason.TheVariants as reason
use Rattle.access_result.specs.declared.access_result.AccessResult.{AccessResult}
use Rattle.content_rows.specs.declared.cell.Cell.{Cell}
use Rattle.content_rows.specs.declared.row.Row.{Row}
use Rattle.content_rows.specs.declared.row.Node.{Node}
use Rattle.content_rows.specs.declared.row.FieldRow.{FieldRow}
use Rattle.content_state.specs.declared.ask.Viewer.{Viewer}
use Rattle.indexed_rows.specs.Rows.{node_of}
use Rattle.content_state.specs.Viewer.{may, bypass_node_access, access_content}
use Rattle.site_access.specs.Access.{Access, Allowed, Denied, field_permission, field_of, node_type_of}

-- the answer that a result gives: only an allowed one gives access
abbrev pub answer_of : Verdict → Option Reason → Access
answer_of verdict.Allowed why = Allowed
answer_of verdict.Neutral why = Denied (unwrap_or why (reason.Permission []))
answer_of verdict.Forbidden why = Denied (unwrap_or why (reason.Permission []))

abbrev pub access_of : AccessResult → Access
access_of result = answer_of result.verdict result.reason

-- The verdict that goes with a reason: want of a grant is neutral, since another vote may still allow; all else that
-- denies forbids.
abbrev pub verdict_for : Reason → Verdict
verdict_for (reason.Grant op n) = verdict.Neutral
verdict_for (reason.Permission permission) = verdict.Forbidden
verdict_for (reason.OwnerOnly field) = verdict.Forbidden
verdict_for reason.Unrecognized = verdict.Forbidden
verdict_for reason.NoSession = verdict.Forbidden

-- the result that tells an answer and depends on this
abbrev pub told : Access → Cacheability → AccessResult
told Allowed depends = record { verdict = verdict.Allowed; reason = None; cacheability = depends }
told (Denied why) depends = record { verdict = verdict_for why; reason = Some why; cacheability = depends }

-- what depends on these for ever
abbrev pub lasting : List Tag → List Context → Cacheability
lasting tags contexts = record { tags = tags; contexts = contexts; max_age = Permanent }

-- a vote: allowed, or else neutral for a reason
abbrev pub vote : Bool → Option Reason → Cacheability → AccessResult
vote is_for why depends =
    record {
      verdict = if is_for then verdict.Allowed else verdict.Neutral;
      reason = if is_for then None else why;
      cacheability = depends;
    }

-- whether the rules of a node ask who the viewer is: of an unpublished one, and where it is updated or deleted
abbrev pub asks_owner : Op → Node → Bool
asks_owner op.View node = not node.status
asks_owner op.Update node = true
asks_owner op.Delete node = true

-- what depends on permissions alone; on what the rules of a node ask; on its grants
abbrev pub by_permissions : Cacheability
by_permissions = lasting [] (context.UserPermissions ∷ [])

abbrev pub rules_depend : ℕ → Bool → Cacheability
rules_depend n asks =
    if asks then lasting (tag.Node n ∷ []) (context.User ∷ context.UserPermissions ∷ []) else by_permissions

abbrev pub grants_depend : ℕ → Cacheability
grants_depend n = lasting (tag.Node n ∷ []) (context.NodeGrantsView ∷ [])

-- what the votes for a node depend on: its row, the viewer's grants and permissions, and the viewer, where the rules of
-- the node ask who it is
abbrev pub votes_depend : ℕ → Bool → Cacheability
votes_depend n asks =
    if asks then lasting (tag.Node n ∷ []) (context.User ∷ context.NodeGrantsView ∷ context.UserPermissions ∷ [])
    else lasting (tag.Node n ∷ []) (context.NodeGrantsView ∷ context.UserPermissions ∷ [])

-- of a node that isn't there the row alone is looked for
abbrev pub votes_in_depend : Op → ℕ → Option Node → Cacheability
votes_in_depend op n None = lasting (tag.Node n ∷ []) (context.UserPermissions ∷ [])
votes_in_depend op n (Some node) = votes_depend n (asks_owner op node)

-- Exactly what access to a node depends on: permissions alone, where bypassing access or the want of `access content`
-- decides, else what the votes depend on.
abbrev pub node_depends : List (Cell × Row) → Viewer → Op → ℕ → Cacheability
node_depends rows viewer op n =
    if may rows viewer bypass_node_access then by_permissions
    else (if not (may rows viewer access_content) then by_permissions
    else votes_in_depend op n (node_of rows n))

-- what a field depends on: its type; permissions, where one is named or the field is for owners; the viewer and the
-- node's row, where it is for owners
abbrev pub field_depends : List ℕ → ℕ → Bool → Bool → Cacheability
field_depends type n named owner =
    if owner then lasting (tag.NodeType type ∷ tag.Node n ∷ []) (context.User ∷ context.UserPermissions ∷ [])
    else (if named then lasting (tag.NodeType type ∷ []) (context.UserPermissions ∷ []) else lasting (tag.NodeType type ∷ []) [])

-- a field that isn't there is looked for in the type
abbrev pub found_field_depends : Op → ℕ → List ℕ → Option FieldRow → Cacheability
found_field_depends op n type None = lasting (tag.NodeType type ∷ []) []
found_field_depends op n type (Some field) = field_depends type n (is_some (field_permission op field)) field.owner

-- exactly what access to the field of that name of a node depends on, whoever views
abbrev pub field_of_depends : List (Cell × Row) → Op → ℕ → List ℕ → Cacheability
field_of_depends rows op n name =
    found_field_depends op n (node_type_of rows n) (field_of rows (node_type_of rows n) name)
