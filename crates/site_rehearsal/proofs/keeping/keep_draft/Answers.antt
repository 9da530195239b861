use Rattle.std.proofs.Common.{ap}
use Rattle.std.specs.Arc.{arc_value}
use Rattle.std.specs.Option.{option_map}
use Rattle.std.proofs.lemmas.Result.{on_ok_weaker}
use Rattle.site_rehearsal.proofs.Behind.{kept_alone, kept_behind}
use Rattle.site_rehearsal.proofs.keeping.keep_draft.Goals as goal

pub returns-in-None-clause-keeps : goal.returns-in-None-clause-keeps
returns-in-None-clause-keeps g c =
    on_ok_weaker c.keep_entry.result (kept_alone c.args.draft.now _ _ c.args.hall.now _ _ c.in_ok-told.ensures.told c.in_ok-second_for.ensures (ap (option_map arc_value) c.in-None.is))
    (rw (c.as_slice.ensures, c.first-first.ensures) at c.keep_entry.ensures.keeps)

pub returns-clause-keeps : goal.returns-clause-keeps
returns-clause-keeps g c =
    on_ok_weaker c.keep_entry-in-Some.result (kept_behind c.args.draft.now _ _ _ c.args.hall.now _ _ _ c.in_ok-told.ensures.told c.in_ok-second_for.ensures (ap (option_map arc_value) c.in-Some.is) c.in_ok-keep_redirect-in-Some.ensures.keeps)
    (rw c.deref.ensures at (rw c.as_slice-in-Some.ensures.same at c.keep_entry-in-Some.ensures.keeps))
