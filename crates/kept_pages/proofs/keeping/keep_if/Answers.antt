use Rattle.std.proofs.Common.{◌∙◌, sym, subst, true≢false}
use Rattle.std.specs.Arc.{arc_value}
use Rattle.std.specs.Option.{option_copied}
use Rattle.cache_entries.specs.declared.entry.Entry.{Entry}
use Rattle.element_entries.specs.Keeping.{MayKeep}
use Rattle.kept_pages.proofs.Shelves.{on_ok_map, closes_may, closes_not}
use Rattle.kept_pages.proofs.keeping.keep_if.Goals as goal

pub returns-then-may_keep-clause-told : goal.returns-then-may_keep-clause-told
returns-then-may_keep-clause-told g c =
    on_ok_map c.keep.result c.keep.ensures.told (λ f shelves told.
    closes_may c.args.reader.now shelves c.args.bin c.args.key.subject (option_copied c.args.told) (arc_value c.args.entry.now) _
    (subst (λ (e : Entry). MayKeep c.args.bin e.cacheability) c.deref.ensures (c.may_keep.ensures.0 c.if-may_keep.true)) (f shelves told))

pub returns-else-may_keep-clause-told : goal.returns-else-may_keep-clause-told
returns-else-may_keep-clause-told g c = λ shelves told.
    closes_not c.args.reader.now shelves c.args.bin c.args.key.subject (option_copied c.args.told) (arc_value c.args.entry.now) _
    (λ may. true≢false (sym (c.may_keep.ensures.1 (subst (λ (e : Entry). MayKeep c.args.bin e.cacheability) (sym c.deref.ensures) may)) ∙ c.if-may_keep.false)) told
