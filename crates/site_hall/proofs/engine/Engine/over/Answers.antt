use Rattle.std.proofs.Common.{[], ◌∙◌, ap, sym, subst}
use Rattle.site_keeper.specs.Steps.{stored_of}
use Rattle.site_hall.specs.Stock.{Stock}
use Rattle.site_hall.specs.Hall.{IsHall}
use Rattle.site_hall.specs.Opened.{opened_in, stock_with}
use Rattle.site_hall.proofs.Stocks.{empty_sound}
use Rattle.site_hall.proofs.Halls.{opened_hall, opened_view, whole_settled}
use Rattle.site_hall.proofs.engine.Engine.over.Goals as goal

pub returns-in-Ok-new-clause-opened : goal.returns-in-Ok-new-clause-opened
returns-in-Ok-new-clause-opened g c =
    let stored = stored_of c.args.base in
    let kept = g.K.Keeper.kept c.args.keeper in
    let faults = g.K.Keeper.faults c.args.keeper in
    let steadfast = g.K.Keeper.steadfast c.args.keeper in
    opened_view c.in-Ok-new.log stored kept faults steadfast c.in-Ok.stock c.in-Ok-new.ensures.base c.in-Ok-new.ensures.edits c.requires.told
    ∙ ap (λ (stock : Stock). opened_in stock stored kept faults steadfast) (c.in-Ok.ensures ∙ c.of_program.ensures)

pub returns-in-Ok-new-clause-is_hall : goal.returns-in-Ok-new-clause-is_hall
returns-in-Ok-new-clause-is_hall g c =
    let stored = stored_of c.args.base in
    let kept = g.K.Keeper.kept c.args.keeper in
    let faults = g.K.Keeper.faults c.args.keeper in
    let steadfast = g.K.Keeper.steadfast c.args.keeper in
    let opened = opened_view c.in-Ok-new.log stored kept faults steadfast c.in-Ok.stock c.in-Ok-new.ensures.base c.in-Ok-new.ensures.edits c.requires.told
    ∙ ap (λ (stock : Stock). opened_in stock stored kept faults steadfast) (c.in-Ok.ensures ∙ c.of_program.ensures) in
    subst IsHall (sym opened) (opened_hall stored kept faults steadfast (stock_with 4096 1024 1024) c.requires.valid c.requires.told (empty_sound c.args.base [] 4096 1024 1024))

pub invariant_of-result : goal.invariant_of-result
invariant_of-result g c =
    let stored = stored_of c.args.base in
    let kept = g.K.Keeper.kept c.args.keeper in
    let faults = g.K.Keeper.faults c.args.keeper in
    let steadfast = g.K.Keeper.steadfast c.args.keeper in
    let opened = opened_view c.in-Ok-new.log stored kept faults steadfast c.in-Ok.stock c.in-Ok-new.ensures.base c.in-Ok-new.ensures.edits c.requires.told
    ∙ ap (λ (stock : Stock). opened_in stock stored kept faults steadfast) (c.in-Ok.ensures ∙ c.of_program.ensures) in
    whole_settled c.in-Ok-new.log kept faults steadfast c.in-Ok.stock
    (subst IsHall (sym opened) (opened_hall stored kept faults steadfast (stock_with 4096 1024 1024) c.requires.valid c.requires.told (empty_sound c.args.base [] 4096 1024 1024)))
