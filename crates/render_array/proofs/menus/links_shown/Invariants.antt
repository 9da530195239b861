use Rattle.std.proofs.Common.{drop}
use Rattle.render_array.proofs.MenuLaws.{LeadsOn}
use Rattle.render_array.proofs.menus.links_shown.Given as goal

-- with those that are left, all are shown
abbrev pub invariant-places : goal.invariant-places
invariant-places l = LeadsOn l.trail l.links l.places l.initial.canvas (drop l.at l.places) l.canvas
