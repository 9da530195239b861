use Rattle.std.proofs.Common.{◌∙◌, ap, sym, subst}
use Rattle.std.specs.Option.{option_copied}
use Rattle.std.proofs.lemmas.Result.{IfOk-weaker, IfErr-weaker}
use Rattle.content_state.specs.SiteRules.{IsValidState}
use Rattle.site_hall.specs.Hall.{HallView}
use Rattle.site_hall.specs.Accepted.{IsReadyOn, IsUnreadyOn}
use Rattle.site_hall.specs.Ready.{IsReady, IsUnready}
use Rattle.site_hall.specs.Within.{view_of}
use Rattle.site_hall.proofs.Logs.{valid_newest}
use Rattle.site_hall.proofs.Callers.{valid_seen}
use Rattle.site_hall.proofs.Readiness.{ready_newest, unready_newest}
use Rattle.site_hall.proofs.engine.Engine.ready.Goals as goal

pub judge_next-requires-clause-valid : goal.judge_next-requires-clause-valid
judge_next-requires-clause-valid g c =
    let hall = view_of c.self.inside.log c.self.inside.pending (g.K.Keeper.kept c.self.inside.keeper) (g.K.Keeper.faults c.self.inside.keeper) (g.K.Keeper.steadfast c.self.inside.keeper) c.self.inside.stock in
    subst IsValidState (sym (c.deref.ensures ∙ c.newest.ensures.newest)) (valid_newest hall.base hall.log (valid_seen hall c.self.invariant.is_hall))

pub returns-clause-ready : goal.returns-clause-ready
returns-clause-ready g c =
    let hall = view_of c.self.inside.log c.self.inside.pending (g.K.Keeper.kept c.self.inside.keeper) (g.K.Keeper.faults c.self.inside.keeper) (g.K.Keeper.steadfast c.self.inside.keeper) c.self.inside.stock in
    let none = ap (λ (v : HallView). v.pending) c.self.view_is ∙ c.requires.none_pending in
    IfOk-weaker c.judge_next.result
    (λ ready. IsReadyOn c.deref.result.now c.len.result c.args.ask.now (option_copied c.args.csrf) c.args.command.now c.args.now c.args.pass ready)
    (λ ready. IsReady c.args.self.now c.args.ask.now (option_copied c.args.csrf) c.args.command.now c.args.now c.args.pass ready)
    (λ ready is.
    subst (λ (v : HallView). IsReady v c.args.ask.now (option_copied c.args.csrf) c.args.command.now c.args.now c.args.pass ready) c.self.view_is
    (ready_newest hall c.args.ask.now (option_copied c.args.csrf) c.args.command.now c.args.now c.args.pass c.deref.result.now c.len.result ready (c.deref.ensures ∙ c.newest.ensures.newest) c.len.ensures none is))
    c.judge_next.ensures.ready

pub returns-clause-unready : goal.returns-clause-unready
returns-clause-unready g c =
    let hall = view_of c.self.inside.log c.self.inside.pending (g.K.Keeper.kept c.self.inside.keeper) (g.K.Keeper.faults c.self.inside.keeper) (g.K.Keeper.steadfast c.self.inside.keeper) c.self.inside.stock in
    IfErr-weaker c.judge_next.result
    (λ stop. IsUnreadyOn stop c.deref.result.now c.len.result c.args.ask.now (option_copied c.args.csrf) c.args.command.now c.args.now c.args.pass)
    (λ stop. IsUnready stop c.args.self.now c.args.ask.now (option_copied c.args.csrf) c.args.command.now c.args.now c.args.pass)
    (λ stop is.
    subst (λ (v : HallView). IsUnready stop v c.args.ask.now (option_copied c.args.csrf) c.args.command.now c.args.now c.args.pass) c.self.view_is
    (unready_newest hall c.args.ask.now (option_copied c.args.csrf) c.args.command.now c.args.now c.args.pass c.deref.result.now c.len.result stop (c.deref.ensures ∙ c.newest.ensures.newest) c.len.ensures is))
    c.judge_next.ensures.unready
