use Rattle.std.proofs.Common.{◌≡◌, ◌++◌, length}
use Rattle.std.specs.Vec.Iter.{into_iter_items}
use Rattle.site_cli.proofs.words.words_of.Given as goal

abbrev pub invariant-words : goal.invariant-words
invariant-words l = l.words.items ++ into_iter_items l.later ≡ into_iter_items l.initial.later

abbrev pub decreases-words : goal.decreases-words
decreases-words l = length (into_iter_items l.later)
