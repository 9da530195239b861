use Rattle.site_http.proofs.Knowing.{known_asks, took_known, half_known, broken_known}
use Rattle.site_http.proofs.turn.turn_known.Goals as goal

pub answer_known-requires-clause-right : goal.answer_known-requires-clause-right
answer_known-requires-clause-right g c = known_asks c.args.known.now c.requires.known

pub returns-in-Written-clause-turned : goal.returns-in-Written-clause-turned
returns-in-Written-clause-turned g c left rest buffer others took = took_known c.args.known.now c.requires.known took c.in-Written.ensures.replies

pub returns-in-WriteFault-clause-turned : goal.returns-in-WriteFault-clause-turned
returns-in-WriteFault-clause-turned g c left rest buffer others took = half_known c.args.known.now c.requires.known took c.in-WriteFault.ensures.replies

pub returns-in-OutOfMemory-clause-turned : goal.returns-in-OutOfMemory-clause-turned
returns-in-OutOfMemory-clause-turned g c left rest buffer others took = broken_known c.args.known.now c.requires.known took c.in-OutOfMemory.ensures.replies
