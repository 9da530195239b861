-- Why nothing of an edit was given to the keeper, by what the keeper answered.
use Rattle.site_keeper.specs.declared.fault.KeeperFault.{KeeperFault}
use Rattle.site_keeper.specs.declared.fault.KeeperFault.TheVariants as keeper_fault
use Rattle.site_hall.specs.declared.stop.Stop.{Stop}
use Rattle.site_hall.specs.declared.stop.Stop.TheVariants as stop

abbrev pub stop_by : KeeperFault → Stop
stop_by keeper_fault.Failed = stop.Failed
stop_by keeper_fault.OutOfMemory = stop.OutOfMemory
