use Rattle.std.specs.Option.{option_copied}
use Rattle.site_turn.proofs.Houses.{guest_moves, guest_answers, commits_own, commits_valid}
use Rattle.site_turn.proofs.guest.GuestHouse.commit.Goals as goal

pub returns-clause-moves : goal.returns-clause-moves
returns-clause-moves g c = guest_moves c.args.self.now.pass.now c.commit-answer.new.self c.args.self.now.pass.ghost_name c.args.self.now.keepers c.counted-self.result c.args.self.now.unkept c.args.ask.now (option_copied c.args.csrf) c.args.command.now c.args.now c.commit-answer.result
    c.commit-answer.ensures.same c.counted-self.ensures c.commit-answer.ensures.commits

pub returns-clause-answers : goal.returns-clause-answers
returns-clause-answers g c = guest_answers c.args.self.now.pass.now c.commit-answer.new.self c.args.self.now.pass.ghost_name c.args.self.now.keepers c.counted-self.result c.args.self.now.unkept c.args.ask.now (option_copied c.args.csrf) c.args.command.now c.args.now c.commit-answer.result
    c.commit-answer.ensures.same c.counted-self.ensures c.commit-answer.ensures.commits

pub returns-clause-valid : goal.returns-clause-valid
returns-clause-valid g c = commits_valid _ _ _ _ _ _ _ c.commit-answer.ensures.commits

pub returns-clause-own : goal.returns-clause-own
returns-clause-own g c = commits_own _ _ _ _ _ _ _ c.commit-answer.ensures.commits
