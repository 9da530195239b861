use denote.Param.Send.{sendable}
use Rattle.site_places.proofs.Crossing.{store_send}
use Rattle.site_places.proofs.store.stores_go_between_threads.Goals as goal

pub needs_send-requires-send-T : goal.needs_send-requires-send-T
needs_send-requires-send-T c κs = search (sendable, store_send) depth 20
