use Rattle.std.proofs.Common.{◌∙◌, sym, ap}
use Rattle.std.specs.Option.{option_copied}
use Rattle.site_lists.proofs.OnlyFirst.{only_first}
use Rattle.site_lists.proofs.trail.only_first.Goals as goal

pub returns-then-reaches_top : goal.returns-then-reaches_top
returns-then-reaches_top c =
    only_first c.args.links.now c.args.path.now c.in-Some.link.now
    (sym c.link_to.ensures ∙ ap option_copied c.in-Some.is)
    (sym c.all_have_id.ensures ∙ c.if-all_have_id.true)
    (sym c.reaches_top.ensures ∙ c.if-reaches_top.true)
