use Rattle.std.proofs.Common.{◌≡◌, true, false, sym, ap, ◌∙◌, Some, option_copied}
use Rattle.std.proofs.lemmas.Result.{IfOk-weaker}
use Rattle.indexed_rows.specs.Rows.{node_of}
use Rattle.content_state.specs.Viewer.{may, bypass_node_access, access_content}
use Rattle.site_access.proofs.WholeResults.{voted}
use Rattle.site_access.proofs.account.Account.decide_node.Goals as goal

pub returns : goal.returns
returns c =
    let rows = c.args.state.now.rows in
    let viewer = c.args.self.now.viewer in
    let node = c.in-Some-default.node.now in
    let bypass : may rows viewer bypass_node_access ≡ false = sym c.requires.account.bypasses_is ∙ c.if-self.false in
    let content : may rows viewer access_content ≡ true = sym c.requires.account.accesses_is ∙ c.if-not-self.false in
    let there : node_of rows c.args.n ≡ Some node = sym c.node.ensures.row ∙ ap option_copied c.in-Some-default.is-0 in
    IfOk-weaker c.by_votes.result _ _ (λ r told. voted rows viewer c.args.op c.args.n node c.args.self.now.grants r there c.requires.account.grants_are bypass content (told rows c.requires.account)) c.by_votes.ensures
