use Rattle.std.proofs.Common.{◌∙◌, ap, sym, arith}
use Rattle.std.specs.Prelude.{None}
use Rattle.std.proofs.lemmas.List.Folds.{list_any_at}
use Rattle.site_comments.specs.Viewed.{is_shown}
use Rattle.user_roles.proofs.Permitting.{list_any-map}
use Rattle.content_state.specs.Comments.{shown_comment}
use Rattle.render_array.proofs.comments.is_any_shown.Goals as goal

pub returns-then-is_shown : goal.returns-then-is_shown
returns-then-is_shown c =
    let reader = c.args.reader in
    let all = c.args.all.now in
    let shown = ap (λ e. is_shown reader None e.1.now) (sym c.entry-item.is) ∙ sym c.is_shown.ensures ∙ c.if-is_shown.true in
    sym (list_any_at (λ e. is_shown reader None e.1.now) all c.loop-entry.entry-index c.entry-item.result (omega arith) shown)
    ∙ list_any-map (λ e. is_shown reader None e.1) shown_comment all
