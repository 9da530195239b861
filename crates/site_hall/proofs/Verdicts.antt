-- What an accepted edit tells: its log has a place for it, and no tag that it invalidates has a count that cannot be raised.
use Rattle.std.proofs.Common.{◌≡◌, ◌+◌, ◌<◌, ℕ, Bool, true, false, List, [], ◌∷◌, Option, Some, None, sym, subst, refl, arith}
use Rattle.std.specs.Prelude.{nat_le, option_map, unwrap_or, is_some, if◌then◌else◌}
use Rattle.std.proofs.lemmas.Bool.Decides.{nat_tests}
use Rattle.cacheability.specs.declared.op.Op.TheVariants as op
use Rattle.cacheability.specs.declared.tag.Tag.{Tag}
use Rattle.content_rows.specs.declared.cell.Cell.{Cell}
use Rattle.content_rows.specs.declared.cell.Cell.TheVariants as cell
use Rattle.content_rows.specs.declared.row.Row.{Row}
use Rattle.content_rows.specs.declared.row.Row.TheVariants as row
use Rattle.content_rows.specs.declared.row.User.{User}
use Rattle.content_state.specs.State.{State}
use Rattle.content_state.specs.Viewer.{viewer_of}
use Rattle.indexed_rows.specs.Rows.{seq_of, type_of, user_of, term_of, node_of, session_of, comment_of, talk_of, row_at}
use Rattle.content_state.specs.declared.ask.Ask.{Ask}
use Rattle.content_state.specs.declared.ask.Viewer.{Viewer}
use Rattle.content_state.specs.declared.commit.Commit.{Commit}
use Rattle.state_commits.specs.Apply.{full_tag}
use Rattle.json_keys.specs.declared.checked.Checked.{Checked}
use Rattle.json_keys.specs.declared.checked.Checked.TheVariants as checked
use Rattle.site_access.specs.Access.{access_to_node}
use Rattle.site_access.specs.Comments.{access_to_comment}
use Rattle.site_commands.specs.Causes.{Decision, Accepted, Refused, unless, decided, where_true, unless_allowed, needs, of_body, of_target, set, removed, commit_of, accepted}
use Rattle.site_commands.specs.Judged.{log_limit, in_log, unguarded}
use Rattle.site_commands.specs.Verdict.{verdict}
use Rattle.site_commands.specs.Nodes as nodes
use Rattle.site_commands.specs.Terms as terms
use Rattle.site_commands.specs.Users as users
use Rattle.site_commands.specs.Config as config
use Rattle.site_commands.specs.Sessions as sessions
use Rattle.site_commands.specs.Comments as comments
use Rattle.site_commands.specs.declared.answer.Done.{Done}
use Rattle.site_commands.specs.declared.answer.Done.TheVariants as done
use Rattle.site_commands.specs.declared.answer.Refusal.{Refusal}
use Rattle.site_commands.specs.declared.answer.Refusal.TheVariants as refusal
use Rattle.site_commands.specs.declared.body.NewNode.{NewNode}
use Rattle.site_commands.specs.declared.body.NewTerm.{NewTerm}
use Rattle.site_commands.specs.declared.body.NewUser.{NewUser}
use Rattle.site_commands.specs.declared.command.NodeCreation.{NodeCreation}
use Rattle.site_commands.specs.declared.command.NodeChange.{NodeChange}
use Rattle.site_commands.specs.declared.command.TermChange.{TermChange}
use Rattle.site_commands.specs.declared.command.CommentCreation.{CommentCreation}
use Rattle.site_commands.specs.declared.command.CommentChange.{CommentChange}
use Rattle.site_commands.specs.declared.command.UserCreation.{UserCreation}
use Rattle.site_commands.specs.declared.command.UserChange.{UserChange}
use Rattle.site_commands.specs.declared.command.ConfigKind.{ConfigKind}
use Rattle.site_commands.specs.declared.command.Command.{Command}
use Rattle.site_commands.specs.declared.command.Command.TheVariants as command
use Rattle.site_hall.specs.Accepted.{judged_at}

-- ---- no count is full

module _ (state : State) where
  -- an edit that is accepted raises no full count
  RaisesAll : Decision → Type 0
  RaisesAll (Refused r) = Unit {0}
  RaisesAll (Accepted commit done) = full_tag state commit ≡ None

  after_causes : (causes : List (Option Refusal)) (decision : Decision) → RaisesAll decision → RaisesAll (decided causes decision)
  unfolding RaisesAll
  after_causes [] decision raises = raises
  after_causes (None ∷ causes) decision raises = after_causes causes decision raises
  after_causes (Some r ∷ causes) decision raises = tt

  after_body : {X : Type 0} (body : Checked X) (next : X → Decision) → ((x : X) → RaisesAll (next x)) → RaisesAll (of_body body next)
  unfolding RaisesAll
  after_body (checked.Right x) next raises = raises x
  after_body (checked.Broken field rule) next raises = tt

  after_target : {X : Type 0} (target : Option X) (next : X → Decision) → ((x : X) → RaisesAll (next x)) → RaisesAll (of_target target next)
  unfolding RaisesAll
  after_target None next raises = tt
  after_target (Some x) next raises = raises x

  raising : (commit : Commit) (done : Done) → RaisesAll (accepted state commit done)
  unfolding RaisesAll
  raising commit done = go (full_tag state commit) refl
    where
      go : (full : Option Tag) → full_tag state commit ≡ full → RaisesAll (accepted state commit done)
      go None is = subst (λ (o : Option Tag). RaisesAll (unless (option_map refusal.CountFull o) (Accepted commit done))) (sym is) is
      go (Some tag) is = subst (λ (o : Option Tag). RaisesAll (unless (option_map refusal.CountFull o) (Accepted commit done))) (sym is) tt

  after_no_cause : (causes : List (Option Refusal)) (commit : Commit) (done : Done) → RaisesAll (decided causes (accepted state commit done))
  after_no_cause causes commit done = after_causes causes (accepted state commit done) (raising commit done)

  -- ---- nodes

  create_node_raises : (viewer : Viewer) (asked : NodeCreation) (now pass : ℕ) → RaisesAll (nodes.create_node state viewer asked now pass)
  create_node_raises viewer asked now pass =
      after_target asked.node_type (nodes.create_named state viewer asked.keys asked.body now pass) (λ name.
      after_target (type_of state.rows name) (nodes.create_of_type state viewer name asked.keys asked.body now pass) (λ type.
      let made : NewNode → Decision = λ new. of_target (seq_of state.rows) (nodes.create_right state viewer name type now pass new) in
      after_causes (nodes.create_denials state.rows viewer name type asked.keys) (of_body asked.body made) (
      after_body asked.body made (λ new.
      after_target (seq_of state.rows) (nodes.create_right state viewer name type now pass new) (λ seq.
      after_no_cause (nodes.create_refusals state.rows type new seq) (commit_of pass (nodes.create_writes new name viewer now seq)) (done.NodeCreated seq.node))))))

  change_node_raises : (viewer : Viewer) (asked : NodeChange) (now pass : ℕ) → RaisesAll (nodes.change_node state viewer asked now pass)
  change_node_raises viewer asked now pass =
      after_target asked.nid (λ nid. of_target (node_of state.rows nid) (nodes.change_there state viewer asked.keys asked.body now pass nid)) (λ nid.
      after_target (node_of state.rows nid) (nodes.change_there state viewer asked.keys asked.body now pass nid) (λ node.
      after_causes (nodes.change_denials state.rows viewer nid node asked.keys) (of_body asked.body (nodes.change_right state nid node now pass)) (
      after_body asked.body (nodes.change_right state nid node now pass) (λ patch.
      after_no_cause (nodes.change_refusals state.rows nid patch now node) (commit_of pass (set (cell.Node nid) (row.Node (nodes.patched_node node patch now)) ∷ [])) (done.NodeChanged nid (node.vid + 1))))))

  remove_node_raises : (viewer : Viewer) (asked : Option ℕ) (pass : ℕ) → RaisesAll (nodes.remove_node state viewer asked pass)
  remove_node_raises viewer asked pass =
      after_target asked (λ nid. of_target (node_of state.rows nid) (λ node. nodes.remove_there state viewer pass nid)) (λ nid.
      after_target (node_of state.rows nid) (λ node. nodes.remove_there state viewer pass nid) (λ node.
      after_no_cause (unless_allowed (access_to_node state.rows viewer op.Delete nid) ∷ []) (commit_of pass (nodes.remove_writes state.rows nid)) done.Saved))

  -- ---- terms

  create_term_raises : (viewer : Viewer) (body : Checked NewTerm) (pass : ℕ) → RaisesAll (terms.create_term state viewer body pass)
  create_term_raises viewer body pass =
      let made : NewTerm → Decision = λ new. of_target (seq_of state.rows) (terms.create_right state pass new) in
      after_causes (needs state.rows viewer terms.administer_taxonomy ∷ []) (of_body body made) (
      after_body body made (λ new.
      after_target (seq_of state.rows) (terms.create_right state pass new) (λ seq.
      after_no_cause (terms.create_refusals state.rows new seq) (commit_of pass (terms.create_writes new seq)) (done.TermCreated seq.term))))

  change_term_raises : (viewer : Viewer) (asked : TermChange) (pass : ℕ) → RaisesAll (terms.change_term state viewer asked pass)
  change_term_raises viewer asked pass =
      after_target asked.tid (λ tid. of_target (term_of state.rows tid) (terms.change_there state viewer asked.body pass tid)) (λ tid.
      after_target (term_of state.rows tid) (terms.change_there state viewer asked.body pass tid) (λ term.
      after_causes (needs state.rows viewer terms.administer_taxonomy ∷ []) (of_body asked.body (terms.change_right state pass tid term)) (
      after_body asked.body (terms.change_right state pass tid term) (λ patch.
      after_no_cause (terms.change_refusals state.rows tid term patch) (commit_of pass (set (cell.Term tid) (row.Term (terms.patched_term term patch)) ∷ [])) done.Saved))))

  remove_term_raises : (viewer : Viewer) (asked : Option ℕ) (pass : ℕ) → RaisesAll (terms.remove_term state viewer asked pass)
  remove_term_raises viewer asked pass =
      after_target asked (λ tid. of_target (term_of state.rows tid) (λ term. terms.remove_there state viewer pass tid)) (λ tid.
      after_target (term_of state.rows tid) (λ term. terms.remove_there state viewer pass tid) (λ term.
      after_no_cause (needs state.rows viewer terms.administer_taxonomy ∷ terms.remove_refusals state.rows tid) (commit_of pass (removed (cell.Term tid) ∷ [])) done.Saved))

  -- ---- comments

  create_comment_raises : (viewer : Viewer) (asked : CommentCreation) (now pass : ℕ) → RaisesAll (comments.create_comment state viewer asked now pass)
  create_comment_raises viewer asked now pass =
      after_target asked.nid (λ n. of_target (node_of state.rows n) (λ node. comments.create_there state viewer asked.body now pass n)) (λ n.
      after_target (node_of state.rows n) (λ node. comments.create_there state viewer asked.body now pass n) (λ node.
      after_causes (comments.create_denials state.rows viewer n) (of_body asked.body (comments.create_right state viewer now pass n)) (
      after_body asked.body (comments.create_right state viewer now pass n) (λ new.
      let next = comments.next_comment (talk_of state.rows) in
      let comment = comments.new_comment new n viewer.uid (comments.is_approved state.rows viewer) now in
      after_no_cause (comments.create_refusals state.rows n comment next) (commit_of pass (comments.create_writes comment next)) (done.CommentCreated next)))))

  change_comment_raises : (viewer : Viewer) (asked : CommentChange) (pass : ℕ) → RaisesAll (comments.change_comment state viewer asked pass)
  change_comment_raises viewer asked pass =
      after_target asked.cid (λ cid. of_target (comment_of state.rows cid) (comments.change_there state viewer asked.status asked.body pass cid)) (λ cid.
      after_target (comment_of state.rows cid) (comments.change_there state viewer asked.status asked.body pass cid) (λ comment.
      after_causes (comments.change_denials state.rows viewer cid asked.status) (of_body asked.body (comments.change_right state pass cid comment)) (
      after_body asked.body (comments.change_right state pass cid comment) (λ patch.
      raising (commit_of pass (set (cell.Comment cid) (row.Comment (comments.patched_comment comment patch)) ∷ [])) done.Saved))))

  remove_comment_raises : (viewer : Viewer) (asked : Option ℕ) (pass : ℕ) → RaisesAll (comments.remove_comment state viewer asked pass)
  remove_comment_raises viewer asked pass =
      after_target asked (λ cid. of_target (comment_of state.rows cid) (comments.remove_there state viewer pass cid)) (λ cid.
      after_target (comment_of state.rows cid) (comments.remove_there state viewer pass cid) (λ comment.
      after_no_cause (unless_allowed (access_to_comment state.rows viewer op.Delete cid) ∷ []) (commit_of pass (comments.remove_writes state.rows cid comment)) done.Saved))

  -- ---- users

  create_user_raises : (viewer : Viewer) (asked : UserCreation) (now pass : ℕ) → RaisesAll (users.create_user state viewer asked now pass)
  create_user_raises viewer asked now pass =
      let made : NewUser → Decision = λ new. of_target (seq_of state.rows) (users.create_right state asked.salt now pass new) in
      after_causes (users.denials state.rows viewer asked.keys) (of_body asked.body made) (
      after_body asked.body made (λ new.
      after_target (seq_of state.rows) (users.create_right state asked.salt now pass new) (λ seq.
      after_no_cause (users.create_refusals state.rows new seq) (commit_of pass (users.create_writes new asked.salt now seq)) (done.UserCreated seq.user))))

  change_user_raises : (viewer : Viewer) (asked : UserChange) (pass : ℕ) → RaisesAll (users.change_user state viewer asked pass)
  change_user_raises viewer asked pass =
      after_target asked.uid (λ uid. of_target (user_of state.rows uid) (users.change_there state viewer asked pass uid)) (λ uid.
      after_target (user_of state.rows uid) (users.change_there state viewer asked pass uid) (λ user.
      after_causes (users.denials state.rows viewer asked.keys) (of_body asked.body (users.change_right state asked.salt pass uid user)) (
      after_body asked.body (users.change_right state asked.salt pass uid user) (λ patch.
      after_no_cause (users.name_taken state.rows (cell.User uid) (unwrap_or patch.name user.name) ∷ []) (commit_of pass (set (cell.User uid) (row.User (users.patched_user user patch asked.salt)) ∷ [])) done.Saved))))

  -- ---- what is configured

  set_row_raises : (viewer : Viewer) (permission : List ℕ) (body : Checked Row) (pass : ℕ) (c : Cell) → RaisesAll (config.set_row state viewer permission body pass c)
  set_row_raises viewer permission body pass c =
      after_causes (needs state.rows viewer permission ∷ []) (of_body body (config.set_right state pass c)) (
      after_body body (config.set_right state pass c) (λ r.
      after_no_cause (config.row_refusals state.rows c r) (commit_of pass (set c r ∷ [])) done.Saved))

  set_config_raises : (viewer : Viewer) (k : ConfigKind) (name : Option (List ℕ)) (body : Checked Row) (pass : ℕ) → RaisesAll (config.set_config state viewer k name body pass)
  set_config_raises viewer k name body pass =
      after_target name (λ n. config.set_row state viewer (config.permission_for k) body pass (config.cell_for k n)) (λ n.
      set_row_raises viewer (config.permission_for k) body pass (config.cell_for k n))

  remove_config_raises : (viewer : Viewer) (k : ConfigKind) (name : Option (List ℕ)) (pass : ℕ) → RaisesAll (config.remove_config state viewer k name pass)
  remove_config_raises viewer k name pass =
      after_target name (λ n. of_target (row_at state.rows (config.cell_for k n)) (λ r. config.remove_there state viewer k pass n)) (λ n.
      after_target (row_at state.rows (config.cell_for k n)) (λ r. config.remove_there state viewer k pass n) (λ r.
      after_no_cause (needs state.rows viewer (config.permission_for k) ∷ config.remove_refusals state.rows k n) (commit_of pass (removed (config.cell_for k n) ∷ [])) done.Saved))

  -- ---- sessions

  log_in_raises : (token : List ℕ) (now pass : ℕ) (found : Option (ℕ × User)) → RaisesAll (sessions.log_in_as state token now pass found)
  unfolding RaisesAll
  log_in_raises token now pass None = tt
  log_in_raises token now pass (Some found) =
      after_no_cause (where_true (is_some (session_of state.rows token)) refusal.TokenClash ∷ [])
      (commit_of pass (set (cell.Session token) (row.Session (record { expires = sessions.session_end now; uid = found.0 })) ∷ [])) (done.LoggedIn found.0 token)

  log_out_raises : (pass : ℕ) (session : Option (List ℕ)) → RaisesAll (sessions.end_session state pass session)
  unfolding RaisesAll
  log_out_raises pass None = tt
  log_out_raises pass (Some token) = raising (commit_of pass (removed (cell.Session token) ∷ [])) done.LoggedOut

  rebuild_raises : (viewer : Viewer) (pass : ℕ) → RaisesAll (sessions.rebuild state viewer pass)
  rebuild_raises viewer pass =
      after_no_cause (needs state.rows viewer config.administer_site ∷ []) (sessions.rebuilding pass) done.Saved

  verdict_raises : (viewer : Viewer) (asked : Command) (now pass : ℕ) → RaisesAll (verdict state viewer asked now pass)
  unfolding verdict
  verdict_raises viewer (command.CreateNode asked) now pass = create_node_raises viewer asked now pass
  verdict_raises viewer (command.ChangeNode asked) now pass = change_node_raises viewer asked now pass
  verdict_raises viewer (command.RemoveNode asked) now pass = remove_node_raises viewer asked pass
  verdict_raises viewer (command.CreateTerm body) now pass = create_term_raises viewer body pass
  verdict_raises viewer (command.ChangeTerm asked) now pass = change_term_raises viewer asked pass
  verdict_raises viewer (command.RemoveTerm asked) now pass = remove_term_raises viewer asked pass
  verdict_raises viewer (command.CreateUser asked) now pass = create_user_raises viewer asked now pass
  verdict_raises viewer (command.ChangeUser asked) now pass = change_user_raises viewer asked pass
  verdict_raises viewer (command.Set k name body) now pass = set_config_raises viewer k name body pass
  verdict_raises viewer (command.Remove k name) now pass = remove_config_raises viewer k name pass
  verdict_raises viewer (command.SetSite body) now pass = set_row_raises viewer config.administer_site body pass cell.Site
  verdict_raises viewer (command.Login asked) now pass = log_in_raises asked.token now pass (sessions.user_with state.rows asked.name asked.pass)
  verdict_raises viewer command.Logout now pass = log_out_raises pass viewer.session
  verdict_raises viewer command.Rebuild now pass = rebuild_raises viewer pass
  verdict_raises viewer (command.CreateComment asked) now pass = create_comment_raises viewer asked now pass
  verdict_raises viewer (command.ChangeComment asked) now pass = change_comment_raises viewer asked pass
  verdict_raises viewer (command.RemoveComment asked) now pass = remove_comment_raises viewer asked pass

pub none_full : (state : State) (viewer : Viewer) (asked : Command) (now pass : ℕ) (commit : Commit) (done : Done) → verdict state viewer asked now pass ≡ Accepted commit done → full_tag state commit ≡ None
unfolding RaisesAll
none_full state viewer asked now pass commit done accepts = subst (RaisesAll state) accepts (verdict_raises state viewer asked now pass)

-- ---- what is accepted in a log

of_guard : (guard : Option Refusal) (decision : Decision) (commit : Commit) (done : Done) → unless guard decision ≡ Accepted commit done → decision ≡ Accepted commit done
of_guard None decision commit done is = is
of_guard (Some r) decision commit done is = absurd (never is)
  where
    never : Refused r ≡ Accepted commit done → ⊥
    never is = cc

-- an edit that is accepted in a log of so many edits
pub record IsAcceptedIn (state : State) (count : ℕ) (viewer : Viewer) (asked : Command) (now pass : ℕ) (commit : Commit) (done : Done) : Type 0 where
  pub accepts : verdict state viewer asked now pass ≡ Accepted commit done
  pub short : count < 1000000

of_log : (count : ℕ) (decision : Decision) (commit : Commit) (done : Done) → in_log count decision ≡ Accepted commit done → (decision ≡ Accepted commit done) × (count < 1000000)
of_log count (Refused r) commit done is = absurd (never is)
  where
    never : Refused r ≡ Accepted commit done → ⊥
    never is = cc
of_log count (Accepted c d) commit done is = go (nat_le log_limit count) refl is
  where
    go : (full : Bool) → nat_le log_limit count ≡ full → (if full then Refused refusal.LogFull else Accepted c d) ≡ Accepted commit done
        → (Accepted c d ≡ Accepted commit done) × (count < 1000000)
    go true of_count is = absurd (never is)
      where
        never : Refused refusal.LogFull ≡ Accepted commit done → ⊥
        never is = cc
    go false of_count is = (is, grind (arith, nat_tests))

pub accepted_at : (state : State) (count : ℕ) (ask : Ask) (csrf : Option (List ℕ)) (asked : Command) (now pass : ℕ) (commit : Commit) (done : Done)
    → judged_at state count ask csrf asked now pass ≡ Accepted commit done
    → IsAcceptedIn state count (viewer_of state.rows ask.cookie now) asked now pass commit done
unfolding judged_at
accepted_at state count ask csrf asked now pass commit done is =
    let viewer = viewer_of state.rows ask.cookie now in
    let both = of_log count (verdict state viewer asked now pass) commit done
    (of_guard (unguarded viewer.session csrf) (in_log count (verdict state viewer asked now pass)) commit done is) in
    record { accepts = both.0; short = both.1 }
