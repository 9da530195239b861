use Rattle.std.specs.Vec.Iter.{into_iter_items}
use Rattle.site_targets.specs.Targets.{each_once}
use Rattle.site_targets.proofs.OnceEach.{KeptSoFar, IsSetOf}
use Rattle.site_targets.proofs.once.each_once.Given as goal

-- with those that are kept of what is left they are all that is kept; the set has just these
abbrev pub invariant-texts : goal.invariant-texts
invariant-texts l = record {
  so_far : KeptSoFar l.once.items (into_iter_items l.text-iterator) (each_once l.fn.texts.items);
  seen : IsSetOf l.seen l.once.items;
}
