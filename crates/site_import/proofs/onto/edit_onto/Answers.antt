use Rattle.std.proofs.Common.{◌≡◌, ◌∙◌, List, sym, ap, subst}
use Rattle.std.proofs.lemmas.Result.{err_from_is_err_and}
use Rattle.std.specs.Arc.{arc_value}
use Rattle.content_state.specs.SiteRules.{MeetsSiteRules}
use Rattle.indexed_rows.specs.Write.{Write}
use Rattle.site_import.specs.Changes.{merged, writes_of}
use Rattle.site_import.specs.Full.{first_full_cell}
use Rattle.site_import.specs.Imports.{IsJudgement}
use Rattle.site_import.proofs.Editing.{commit_is, edit_made, made_valid, rows_made}
use Rattle.site_import.proofs.Left.{Stored}
use Rattle.site_import.proofs.onto.edit_onto.Goals as goal

pub judge-requires : goal.judge-requires
judge-requires c =
    let keeps = c.in_ok-writes.ensures.kept c.requires.base c.requires.file in
    made_valid c.args.base.now.rows c.args.file.now c.in_ok-rows.rows c.requires.base c.requires.file
    (rows_made c.args.base.now.rows c.args.file.now c.in_ok-rows.rows c.as_slice.result.now c.in_ok-writes.writes.items c.stands_in_order.ensures.rows c.in_ok-writes.ensures.ordered keeps c.in_ok-rows.ensures c.as_slice.ensures.value c.in_ok-writes.ensures.writes)

pub returns-in_err-judge-clause-fault : goal.returns-in_err-judge-clause-fault
returns-in_err-judge-clause-fault c =
    let p = err_from_is_err_and c.from_residual-in_err-judge.result c.from_residual-in_err-judge.ensures.1 in
    let base = c.args.base.now in
    let f = c.in_err-judge.field-0.0 in
    let keeps = c.in_ok-writes.ensures.kept c.requires.base c.requires.file in
    let rows =
    rows_made base.rows c.args.file.now c.in_ok-rows.rows c.as_slice.result.now c.in_ok-writes.writes.items c.stands_in_order.ensures.rows c.in_ok-writes.ensures.ordered keeps c.in_ok-rows.ensures c.as_slice.ensures.value c.in_ok-writes.ensures.writes in
    let writes : c.as_slice-2.result.now ≡ writes_of base.rows c.args.file.now = c.as_slice-2.ensures.value ∙ c.in_ok-writes.ensures.writes in
    rw (p.1, p.2)
    (subst (λ (ws : List Write). IsJudgement base (merged base.rows c.args.file.now) ws f) writes
    (subst (λ (rs : Stored). IsJudgement base rs c.as_slice-2.result.now f) rows c.in_err-judge.ensures.fault))

pub returns-clause-edit : goal.returns-clause-edit
returns-clause-edit c =
    let base = c.args.base.now in
    let file = c.args.file.now in
    let keeps = c.in_ok-writes.ensures.kept c.requires.base c.requires.file in
    let rows =
    rows_made base.rows file c.in_ok-rows.rows c.as_slice.result.now c.in_ok-writes.writes.items c.stands_in_order.ensures.rows c.in_ok-writes.ensures.ordered keeps c.in_ok-rows.ensures c.as_slice.ensures.value c.in_ok-writes.ensures.writes in
    let writes : c.as_slice-2.result.now ≡ writes_of base.rows file = c.as_slice-2.ensures.value ∙ c.in_ok-writes.ensures.writes in
    edit_made base file _ c.stands_in_order.ensures.rows c.stands_in_order.ensures.counts c.in_ok-writes.ensures.ordered c.requires.base c.requires.file keeps
    (subst MeetsSiteRules rows c.in_ok-judge.ensures.site) (sym (ap (first_full_cell base) writes) ∙ c.in_ok-judge.ensures.none_full) c.len.ensures
    (commit_is (arc_value c.in_ok-new.field-0) c.from_vec.result (writes_of base.rows file) c.none.result c.in_ok-new.ensures.ok (c.from_vec.ensures ∙ c.in_ok-writes.ensures.writes) c.none.ensures)
