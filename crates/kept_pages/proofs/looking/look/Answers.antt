use Rattle.std.proofs.Common.{◌∙◌, ap, sym, true≢false}
use Rattle.element_entries.specs.Keys.{visit, key_by}
use Rattle.kept_pages.proofs.Shelves.{first_is, seen_first, seen_both}
use Rattle.kept_pages.proofs.looking.look.Goals as goal

pub returns-then-not-has_second-clause-told : goal.returns-then-not-has_second-clause-told
returns-then-not-has_second-clause-told g c = λ shelves told.
    seen_first c.args.reader.now shelves c.args.bin c.args.key.now.subject c.args.key.now c.in_ok-entry.field-0 _ (first_is c.args.reader.now c.args.key.now c.args.declared c.requires.is_first c.requires.declared) (c.in_ok-entry.ensures.told shelves told)
    (λ two. absurd (true≢false (sym two ∙ sym c.has_second.ensures ∙ c.if-not-has_second.true)))

pub returns-in-None-clause-told : goal.returns-in-None-clause-told
returns-in-None-clause-told g c = λ shelves told.
    seen_first c.args.reader.now shelves c.args.bin c.args.key.now.subject c.args.key.now c.in_ok-entry.field-0 _ (first_is c.args.reader.now c.args.key.now c.args.declared c.requires.is_first c.requires.declared) (c.in_ok-entry.ensures.told shelves told)
    (λ two. c.in-None.is)

pub returns-in_ok-behind-in-Some-clause-told : goal.returns-in_ok-behind-in-Some-clause-told
returns-in_ok-behind-in-Some-clause-told g c = λ shelves told.
    let s = c.in_ok-entry.ensures.told shelves told in
    seen_both c.args.reader.now shelves c.args.bin c.args.key.now.subject c.args.key.now c.turn_to.new.key c.in_ok-entry.field-0 c.in_ok-behind-in-Some.behind c.in-Some.told _ _ (sym c.has_second.ensures ∙ c.if-not-has_second.false)
    (first_is c.args.reader.now c.args.key.now c.args.declared c.requires.is_first c.requires.declared) s c.in-Some.is
    (c.in_ok-turn_to-in-Some.ensures ∙ ap (key_by (visit c.args.reader.now) c.args.key.now.subject) (c.as_slice.ensures.same ∙ c.deref.ensures)) (c.in_ok-behind-in-Some.ensures.told s.after s.is)
