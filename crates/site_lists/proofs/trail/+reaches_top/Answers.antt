use Rattle.std.proofs.Common.{◌∙◌, sym, ap}
use Rattle.std.specs.Prelude.{Some, None}
use Rattle.std.specs.Option.{option_copied}
use Rattle.site_lists.proofs.OnlyFirst.{one_up}
use Rattle.site_lists.proofs.trail.+reaches_top.Goals as goal

pub returns-in-Some-link_of : goal.returns-in-Some-link_of
returns-in-Some-link_of t c =
    c.reaches_top.ensures
    ∙ one_up c.args.heights c.args.links.now c.args.parent c.in-Some.id (Some c.in-Some-link_of.link.now) c.if-heights-eq0.false c.in-Some.is (ap option_copied (sym c.in-Some-link_of.is) ∙ c.link_of.ensures)

pub returns-in-None : goal.returns-in-None
returns-in-None t c =
    one_up c.args.heights c.args.links.now c.args.parent c.in-Some.id None c.if-heights-eq0.false c.in-Some.is (ap option_copied (sym c.in-None.is) ∙ c.link_of.ensures)
