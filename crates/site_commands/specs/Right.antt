-- What makes a command right: what its body says meets the rules of the row's kind, where it breaks none by itself. And what
-- every accepted edit of a right command does: it leaves a valid state valid.
use Rattle.std.specs.Prelude.{ℕ, length, false, ◌≡◌, ◌≤◌, IsTrue, All, Option, Some, None, map, List}
use Rattle.std.specs.List.{list_all}
use Rattle.std.specs.List.Sorted.{IsStrictlySortedBy}
use Rattle.std.specs.Option.{ForSome}
use Rattle.std.specs.Ordering.{nat_cmp}
use Rattle.std.specs.Cmp.Lexicographic.{slice_cmp}
use Rattle.content_rows.specs.Kinds.{IsMoment, IsId, is_line, is_text, is_comment_body, is_uuid, is_hex, is_path, none_or}
use Rattle.content_rows.specs.ValidRow.{IsValidRow}
use Rattle.content_rows.specs.declared.cell.Cell.{Cell}
use Rattle.content_rows.specs.declared.cell.Cell.TheVariants as cell
use Rattle.content_rows.specs.declared.row.Row.{Row}
use Rattle.content_state.specs.State.{State}
use Rattle.content_state.specs.Replay.{step, IsCommit}
use Rattle.content_state.specs.SiteRules.{IsValidState}
use Rattle.content_state.specs.declared.ask.Viewer.{Viewer}
use Rattle.content_state.specs.declared.commit.Commit.{Commit}
use Rattle.json_keys.specs.declared.checked.Checked.{Checked}
use Rattle.json_keys.specs.declared.checked.Checked.TheVariants as checked
use Rattle.valid_edits.specs.Fits.{is_absent_user}
use Rattle.site_commands.specs.Causes.{Accepted}
use Rattle.site_commands.specs.Config.{cell_for}
use Rattle.site_commands.specs.Verdict.{verdict}
use Rattle.site_commands.specs.declared.answer.Done.{Done}
use Rattle.site_commands.specs.declared.body.NewNode.{NewNode}
use Rattle.site_commands.specs.declared.body.NodePatch.{NodePatch}
use Rattle.site_commands.specs.declared.body.NewTerm.{NewTerm}
use Rattle.site_commands.specs.declared.body.TermPatch.{TermPatch}
use Rattle.site_commands.specs.declared.body.NewUser.{NewUser}
use Rattle.site_commands.specs.declared.body.UserPatch.{UserPatch}
use Rattle.site_commands.specs.declared.body.NewComment.{NewComment}
use Rattle.site_commands.specs.declared.body.CommentPatch.{CommentPatch}
use Rattle.site_commands.specs.declared.command.Command.{Command}
use Rattle.site_commands.specs.declared.command.Command.TheVariants as command
use Rattle.site_commands.specs.declared.command.ConfigKind.{ConfigKind}

-- ---- what bodies say

pub record IsRightNewNode (new : NewNode) : Type 0 where
  pub created : ForSome new.created IsMoment
  pub field_texts : IsTrue (list_all (λ f. is_text f.value) new.fields)
  pub by_name : IsStrictlySortedBy (slice_cmp nat_cmp) (map (λ f. f.name) new.fields)
  pub few_grants : length new.grants ≤ 64
  pub path : IsTrue (none_or is_path new.path)
  pub few_refs : length new.refs ≤ 8
  pub refs : All IsId new.refs
  pub few_terms : length new.terms ≤ 32
  pub terms : All IsId new.terms
  pub title : IsTrue (is_line 255 new.title)
  pub uid : ForSome new.uid (λ uid. uid ≤ 4294967294)
  pub uuid : IsTrue (is_uuid new.uuid)

pub record IsRightNodePatch (patch : NodePatch) : Type 0 where
  pub created : ForSome patch.created IsMoment
  pub field_texts : IsTrue (list_all (λ change. none_or is_text change.value) patch.fields)
  pub by_name : IsStrictlySortedBy (slice_cmp nat_cmp) (map (λ change. change.name) patch.fields)
  pub few_grants : ForSome patch.grants (λ grants. length grants ≤ 64)
  pub path : ForSome patch.path (λ path. IsTrue (none_or is_path path))
  pub few_refs : ForSome patch.refs (λ refs. length refs ≤ 8)
  pub refs : ForSome patch.refs (All IsId)
  pub few_terms : ForSome patch.terms (λ terms. length terms ≤ 32)
  pub terms : ForSome patch.terms (All IsId)
  pub title : ForSome patch.title (λ title. IsTrue (is_line 255 title))
  pub uid : ForSome patch.uid (λ uid. uid ≤ 4294967294)
  pub vid : 1 ≤ patch.vid

pub record IsRightNewTerm (new : NewTerm) : Type 0 where
  pub description : IsTrue (is_text new.description)
  pub name : IsTrue (is_line 255 new.name)
  pub parent : ForSome new.parent IsId
  pub uuid : IsTrue (is_uuid new.uuid)

pub record IsRightTermPatch (patch : TermPatch) : Type 0 where
  pub description : ForSome patch.description (λ description. IsTrue (is_text description))
  pub name : ForSome patch.name (λ name. IsTrue (is_line 255 name))
  pub parent : ForSome patch.parent (λ parent. ForSome parent IsId)

pub record IsRightNewUser (new : NewUser) : Type 0 where
  pub few_grants : length new.grants ≤ 64
  pub name : IsTrue (is_line 60 new.name)
  pub pass : ForSome new.pass (λ pass. IsTrue (is_line 128 pass))
  pub few_roles : length new.roles ≤ 32
  pub uuid : IsTrue (is_uuid new.uuid)

pub record IsRightUserPatch (patch : UserPatch) : Type 0 where
  pub few_grants : ForSome patch.grants (λ grants. length grants ≤ 64)
  pub name : ForSome patch.name (λ name. IsTrue (is_line 60 name))
  pub pass : ForSome patch.pass (λ pass. IsTrue (is_line 128 pass))
  pub few_roles : ForSome patch.roles (λ roles. length roles ≤ 32)

pub record IsRightNewComment (new : NewComment) : Type 0 where
  pub body : IsTrue (is_comment_body new.body)
  pub parent : ForSome new.parent IsId
  pub uuid : IsTrue (is_uuid new.uuid)

pub record IsRightCommentPatch (patch : CommentPatch) : Type 0 where
  pub body : ForSome patch.body (λ body. IsTrue (is_comment_body body))

-- ---- commands

-- what holds of a body that breaks no rule by itself
abbrev pub OfBody : {X : Type 0} → (X → Type 0) → Checked X → Type 0
OfBody P (checked.Right x) = P x
OfBody P (checked.Broken field rule) = Unit {0}

-- the salt of a password is one
abbrev pub IsSalt : Option (List ℕ) → Type 0
IsSalt salt = IsTrue (none_or (is_hex 32) salt)

-- a row of the kind, where it has a name
abbrev pub IsConfigRow : ConfigKind → Option (List ℕ) → Row → Type 0
IsConfigRow k None r = Unit {0}
IsConfigRow k (Some name) r = IsValidRow (cell_for k name) r

abbrev pub IsRight : Command → Type 0
IsRight (command.CreateNode asked) = OfBody IsRightNewNode asked.body
IsRight (command.ChangeNode asked) = OfBody IsRightNodePatch asked.body
IsRight (command.RemoveNode asked) = Unit {0}
IsRight (command.CreateTerm body) = OfBody IsRightNewTerm body
IsRight (command.ChangeTerm asked) = OfBody IsRightTermPatch asked.body
IsRight (command.RemoveTerm asked) = Unit {0}
IsRight (command.CreateUser asked) = IsSalt asked.salt × OfBody IsRightNewUser asked.body
IsRight (command.ChangeUser asked) = IsSalt asked.salt × OfBody IsRightUserPatch asked.body
IsRight (command.Set k name body) = OfBody (IsConfigRow k name) body
IsRight (command.Remove k name) = Unit {0}
IsRight (command.SetSite body) = OfBody (IsValidRow cell.Site) body
IsRight (command.Login asked) = Unit {0}
IsRight command.Logout = Unit {0}
IsRight command.Rebuild = Unit {0}
IsRight (command.CreateComment asked) = OfBody IsRightNewComment asked.body
IsRight (command.ChangeComment asked) = OfBody IsRightCommentPatch asked.body
IsRight (command.RemoveComment asked) = Unit {0}

-- ---- what accepted edits do

-- the viewer is nobody, or a user who is there
abbrev pub IsViewerOf : List (Cell × Row) → Viewer → Type 0
IsViewerOf rows viewer = is_absent_user rows viewer.uid ≡ false

-- an edit bears the number of its pass, writes to distinct cells, and leaves the state valid
pub record Keeps (state : State) (pass : ℕ) (commit : Commit) : Type 0 where
  pub pass_is : commit.pass ≡ pass
  pub distinct : IsCommit commit
  pub valid : IsValidState (step state commit)

-- every accepted edit of a right command does so, on every valid state and for each viewer of it
abbrev pub VerdictsKeepValid : Type 0
VerdictsKeepValid =
    (state : State) (viewer : Viewer) (asked : Command) (now pass : ℕ) (commit : Commit) (done : Done)
    → IsValidState state → IsViewerOf state.rows viewer → IsRight asked → IsMoment now
    → verdict state viewer asked now pass ≡ Accepted commit done
    → Keeps state pass commit
