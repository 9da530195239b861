use denote.Param.Send.{sendable}
use Rattle.site_hall.proofs.Crossing.{engine_send, hall_send}
use Rattle.site_hall.proofs.threads.engines_go_between_threads.Goals as goal

pub needs_send-requires-send-T : goal.needs_send-requires-send-T
needs_send-requires-send-T c κs = search (sendable, engine_send) depth 20

pub needs_send-requires-2-send-T : goal.needs_send-requires-2-send-T
needs_send-requires-2-send-T c κs = search (sendable, hall_send) depth 20
