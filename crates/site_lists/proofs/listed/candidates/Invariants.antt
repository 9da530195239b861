use Rattle.site_lists.proofs.listed.candidates.Given as goal

abbrev pub ghosts-candidates_from : goal.ghosts-candidates_from
ghosts-candidates_from a = record { name = a.blank.name; parts = a.blank.parts }
