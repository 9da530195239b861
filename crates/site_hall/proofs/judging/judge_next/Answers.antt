use Rattle.std.proofs.Common.{◌∙◌, ap, sym}
use Rattle.std.specs.Arc.{arc_value}
use Rattle.std.specs.Option.{option_copied}
use Rattle.site_commands.specs.Causes.{told}
use Rattle.site_hall.proofs.Readiness.{accepted_raises, accepted_ready}
use Rattle.site_hall.proofs.judging.judge_next.Goals as goal

pub made_ready-requires-clause-none_full : goal.made_ready-requires-clause-none_full
made_ready-requires-clause-none_full c =
    accepted_raises c.args.state.now c.args.count c.args.ask.now (option_copied c.args.csrf) c.args.command.now c.args.now c.args.pass (arc_value c.in-Commit.commit) c.in-Commit.done
    (sym c.in_ok-refusal.ensures ∙ ap told c.in-Commit.is)

pub returns-in_ok-made_ready-in-Commit-clause-ready : goal.returns-in_ok-made_ready-in-Commit-clause-ready
returns-in_ok-made_ready-in-Commit-clause-ready c =
    accepted_ready c.args.state.now c.args.count c.args.ask.now (option_copied c.args.csrf) c.args.command.now c.args.now c.args.pass (arc_value c.in-Commit.commit) c.in-Commit.done
    c.verdicts_keep_valid.ensures c.viewers_are_there.ensures c.in_ok-made_ready-in-Commit.field-0 c.requires.valid c.requires.right c.requires.moment
    (sym c.in_ok-refusal.ensures ∙ ap told c.in-Commit.is) c.in_ok-made_ready-in-Commit.ensures
