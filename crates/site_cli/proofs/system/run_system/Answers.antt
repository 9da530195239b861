use denote.Param.Send.{sendable}
use Rattle.site_places.proofs.Crossing.{store_send}
use Rattle.site_cli.proofs.system.run_system.Goals as goal

pub run_site-requires-send-P-Keeper : goal.run_site-requires-send-P-Keeper
run_site-requires-send-P-Keeper g c κs within = search (sendable, store_send) depth 20
