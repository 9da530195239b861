use Rattle.std.proofs.Common.{refl, sym, ◌∙◌, ap, subst}
use Rattle.cacheability.specs.declared.context.Context.TheVariants as context
use Rattle.site_lists.specs.ListingPlan.{asked_page}
use Rattle.site_lists.specs.Paging.{value_in, page_asked, page_name}
use Rattle.render_canvas.specs.Canvas.{AddsContext}
use Rattle.render_canvas.proofs.Run.{next, asked, given_by}
use Rattle.render_canvas.proofs.canvas.Canvas.asked_page.Goals as goal

pub returns-in-Ok : goal.returns-in-Ok
unfolding asked_page
returns-in-Ok c =
    next _ (asked (context.QueryArg page_name) _ _ _ (subst (λ name. AddsContext c.args.self.now c.context.new.self (context.QueryArg name)) c.page_name.ensures c.context.ensures) refl)
    (given_by (rw (← c.self.view_is) (sym (c.in-Ok.ensures ∙ ap (λ query. page_asked (value_in query page_name)) c.as_slice.ensures))))
