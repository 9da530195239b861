use Rattle.std.proofs.Common.{◌∙◌, ap, subst}
use Rattle.std.specs.Arc.{arc_value}
use Rattle.std.specs.Option.{option_copied}
use Rattle.cache_entries.specs.declared.key.Key.{Key}
use Rattle.fragment_cache.specs.Bins.{Thing, Whole, Towards}
use Rattle.element_entries.specs.Keys.{visit, key_by}
use Rattle.kept_pages.specs.Held.{first_of, Puts}
use Rattle.kept_pages.proofs.Entries.{made_is_fresh}
use Rattle.kept_pages.proofs.Shelves.{offered_first, offered_second, no_second, one_second}
use Rattle.kept_pages.proofs.keeping.keep.Goals as goal

pub returns-in-None-clause-told : goal.returns-in-None-clause-told
returns-in-None-clause-told g c = λ shelves told.
    let new = g.H.House.sees c.offer.new.house in
    offered_first c.args.reader.now shelves c.args.bin c.args.key.subject (arc_value c.args.entry.now)
    (made_is_fresh c.args.reader.now c.args.key.subject (arc_value c.args.entry.now) c.requires.made) (option_copied c.args.told) new
    (no_second c.in_ok-behind.behind _ c.in-None.is (rw (c.deref.ensures, c.declared_by-declared.ensures, c.state.ensures) at c.in_ok-behind.ensures))
    (subst (λ (k : Key). Puts shelves c.args.bin k (Whole (arc_value c.args.entry.now)) new) c.in_ok-first.ensures
    (subst (λ (t : Thing). Puts shelves c.args.bin c.in_ok-first.first t new) (ap Whole c.in_ok-shared.ensures) (c.offer.ensures.told shelves told)))

pub returns-in_ok-second-in-Some-clause-told : goal.returns-in_ok-second-in-Some-clause-told
returns-in_ok-second-in-Some-clause-told g c = λ shelves told.
    let mid = g.H.House.sees c.offer-in-Some.new.house in
    let new = g.H.House.sees c.offer-in-Some-2.new.house in
    let p : Puts shelves c.args.bin (first_of c.args.reader.now c.args.key.subject) (Towards (arc_value c.in-Some.contexts)) mid =
    subst (λ (k : Key). Puts shelves c.args.bin k (Towards (arc_value c.in-Some.contexts)) mid) c.in_ok-first.ensures (c.offer-in-Some.ensures.told shelves told) in
    offered_second c.args.reader.now shelves c.args.bin c.args.key.subject (arc_value c.args.entry.now)
    (made_is_fresh c.args.reader.now c.args.key.subject (arc_value c.args.entry.now) c.requires.made) (option_copied c.args.told) (arc_value c.in-Some.contexts) mid new
    (one_second c.in_ok-behind.behind _ c.in-Some.contexts c.in-Some.is (rw (c.deref.ensures, c.declared_by-declared.ensures, c.state.ensures) at c.in_ok-behind.ensures)) p
    (subst (λ (k : Key). Puts p.after c.args.bin k (Whole (arc_value c.args.entry.now)) new)
    (rw c.in_ok-first.ensures at (c.in_ok-second-in-Some.ensures ∙ ap (key_by (visit c.args.reader.now) c.in_ok-first.first.subject) (c.as_slice.ensures.same ∙ c.deref-in-Some.ensures)))
    (subst (λ (t : Thing). Puts p.after c.args.bin c.in_ok-second-in-Some.second t new) (ap Whole c.in_ok-shared.ensures) (c.offer-in-Some-2.ensures.told p.after p.is)))
