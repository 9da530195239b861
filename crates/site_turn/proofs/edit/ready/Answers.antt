use Rattle.std.proofs.Common.{◌∙◌, ap, sym, subst}
use Rattle.std.specs.Option.{option_copied}
use Rattle.site_hall.specs.Accepted.{IsUnreadyOn}
use Rattle.site_turn.specs.Edits.{engine_at}
use Rattle.site_turn.proofs.Outcomes.{ready_so, refused_so}
use Rattle.site_turn.proofs.edit.ready.Goals as goal

pub returns-in-Ok-judge_next-clause-ready : goal.returns-in-Ok-judge_next-clause-ready
returns-in-Ok-judge_next-clause-ready g c =
    ready_so (engine_at c.args.seat.now.me c.args.desk.now) c.deref.result.now c.in-Ok.count c.args.ask.now (option_copied c.args.csrf) c.args.command.now c.args.now c.args.pass
    (c.deref.ensures ∙ c.in-Ok.ensures.state) c.in-Ok.ensures.count c.in-Ok-judge_next.ready c.requires.none c.in-Ok-judge_next.ensures.ready

pub returns-in-Err-Refused-clause-stopped : goal.returns-in-Err-Refused-clause-stopped
returns-in-Err-Refused-clause-stopped g c =
    refused_so (engine_at c.args.seat.now.me c.args.desk.now) c.deref.result.now c.in-Ok.count c.args.ask.now (option_copied c.args.csrf) c.args.command.now c.args.now c.args.pass
    (c.deref.ensures ∙ c.in-Ok.ensures.state) c.in-Ok.ensures.count c.in-Err-Refused.refusal c.number.result
    (subst (λ stop. IsUnreadyOn stop c.deref.result.now c.in-Ok.count c.args.ask.now (option_copied c.args.csrf) c.args.command.now c.args.now c.args.pass) c.in-Err-Refused.field-0-is c.in-Err-Refused.ensures.unready)
    (c.number.ensures ∙ ap (λ s. s.number) (c.deref-in-Err-Refused.ensures ∙ sym c.deref.ensures))
