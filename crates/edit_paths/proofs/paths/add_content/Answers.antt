use Rattle.edit_paths.proofs.paths.add_content.Goals as goal

pub returns : goal.returns
returns c = rw (c.in_ok-add_route-3.ensures, c.in_ok-add_route-2.ensures, c.in_ok-add_route.ensures)
