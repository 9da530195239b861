use Rattle.std.proofs.Common.{◌≡◌, ◌∙◌, sym, ap, subst}
use Rattle.std.specs.List.{filter}
use Rattle.std.proofs.lemmas.List.Elements.{All-same}
use Rattle.std.proofs.lemmas.Result.{IfOk-weaker}
use Rattle.site_targets.specs.Canonical.{canonical}
use Rattle.site_targets.specs.Open.{is_open}
use Rattle.site_targets.specs.Targets.{each_once, targets_of, AreTargets}
use Rattle.site_targets.proofs.Meaning.{mean}
use Rattle.site_targets.proofs.PlainTargets.{IsOwnPath, own_paths}
use Rattle.site_targets.proofs.gathered.targets.Goals as goal

pub open_among-requires-clause-plain : goal.open_among-requires-clause-plain
open_among-requires-clause-plain c =
    let rows = c.args.state.now.rows in
    All-same IsOwnPath c.in_ok-canonical.canonical.items (canonical rows) c.in_ok-canonical.ensures (own_paths rows c.requires)

pub returns-clause-meaning : goal.returns-clause-meaning
returns-clause-meaning c =
    let rows = c.args.state.now.rows in
    let whole : each_once c.in_ok-passed.passed.items ≡ targets_of rows =
    ap each_once (c.in_ok-passed.ensures ∙ ap (filter (is_open rows)) c.in_ok-canonical.ensures) in
    IfOk-weaker c.each_once.result (λ once. once.items ≡ each_once c.in_ok-passed.passed.items) (λ once. AreTargets rows once.items)
    (λ once is. subst (AreTargets rows) (sym (is ∙ whole)) (mean rows)) c.each_once.ensures
