use Rattle.std.proofs.Common.{◌≡◌}
use Rattle.content_state.specs.FoundTexts.{found_with}
use Rattle.content_state.proofs.having.next_with.Given as goal

-- the entries that have the text are all left
abbrev pub invariant-keys : goal.invariant-keys
invariant-keys l =
    (goal.iterator-keys).can_next l.keys
    × (goal.iterator-keys).is_finite l.keys
    × (found_with l.rows l.what l.text l.keys ≡ found_with l.rows l.what l.text l.fn.keys)
