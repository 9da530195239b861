use denote.Param.Send.{sendable}
use Rattle.std.proofs.Crossing.{crosses}
use Rattle.content_state.proofs.Crossing.{state_send, state_sync}
use Rattle.content_state.proofs.threads.states_go_between_threads.Goals as goal

pub needs_both-requires-send-T : goal.needs_both-requires-send-T
needs_both-requires-send-T c κs = search (sendable, crosses, state_send, state_sync) depth 30

pub needs_both-requires-sync-T : goal.needs_both-requires-sync-T
needs_both-requires-sync-T c κs = search (sendable, crosses, state_send, state_sync) depth 30
