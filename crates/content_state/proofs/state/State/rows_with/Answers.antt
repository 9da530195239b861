use Rattle.std.proofs.Common.{rules, ℕ, Bool, ◌≡◌, ◌∙◌, ap}
use Rattle.std.specs.List.{filter}
use Rattle.shared_set.specs.Keys.{is_in}
use Rattle.index_law.specs.Index.{index_of}
use Rattle.indexed_rows.specs.contracts.text_mark.TextKeyOrd.TheImpl as key_order
use Rattle.content_state.specs.FoundTexts.{found_with}
use Rattle.indexed_rows.specs.Rows.{InOrder}
use Rattle.indexed_rows.specs.TextKeys.{mark_cmp, text_keys}
use Rattle.indexed_rows.specs.declared.text_mark.TextMark.{TextMark}
use Rattle.indexed_rows.specs.declared.text_mark.TextKey.{TextKey}
use Rattle.content_state.proofs.TextsFound.{all_found}
use Rattle.content_state.proofs.state.State.rows_with.Goals as goal

pub returns : goal.returns
returns c =
    let rows = c.args.self.now.rows in
    let what = c.args.what in
    let text = c.args.text.now in
    let test = λ (n : ℕ). is_in (λ (m : TextMark) (k : TextKey). mark_cmp m k.mark) (record { what = what; digest = n }) in
    let ordered : InOrder rows = search rules in
    ap (λ all. found_with all what text c.within.result) c.rows.ensures
    ∙ ap (found_with rows what text) (c.within.ensures ∙ ap (filter (test c.digest.result)) c.indexes.ensures.texts)
    ∙ ap (λ (n : ℕ). found_with rows what text (filter (test n) (index_of key_order.ghosts.cmp text_keys rows))) c.digest.ensures
    ∙ all_found rows what text ordered
