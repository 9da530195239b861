use Rattle.std.proofs.Common.{◌∙◌, ◌-◌, List, length, ap, sym}
use Rattle.std.specs.List.{slice_get}
use Rattle.site_keeper.specs.Batch.{Batch}
use Rattle.site_keeper.specs.Keeper.{held_of}
use Rattle.site_keeper.specs.Memory.{MemoryKeeper}
use Rattle.site_keeper.proofs.Turns.{newest_is, newest_is_first}
use Rattle.site_keeper.proofs.memory.MemoryKeeper.newest.Goals as goal

pub returns-in-Some : goal.returns-in-Some
returns-in-Some c =
    let last = ap (λ (items : List Batch). slice_get items (length items - 1)) (sym c.deref.ensures.value) ∙ sym c.in-Some.ensures.value in
    ap (λ (batch : Batch). batch.head) c.batch.view_is
    ∙ sym (newest_is c.self.inside.made_of c.self.inside.batches.items c.in-Some.batch.now last)
    ∙ ap (λ (k : MemoryKeeper). (held_of k.kept).head) c.self.view_is

pub returns-in-None : goal.returns-in-None
returns-in-None c =
    let none = ap (λ (items : List Batch). slice_get items (length items - 1)) (sym c.deref.ensures.value) ∙ sym c.in-None.ensures.value in
    sym (newest_is_first c.self.inside.made_of c.self.inside.batches.items none)
    ∙ ap (λ (k : MemoryKeeper). (held_of k.kept).head) c.self.view_is
