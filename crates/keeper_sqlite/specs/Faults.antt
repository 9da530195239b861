-- What a fault of a store comes to for a keeper.
use Rattle.site_keeper.specs.declared.fault.KeeperFault.{KeeperFault}
use Rattle.site_keeper.specs.declared.fault.KeeperFault.TheVariants as keeper_fault
use Rattle.store_six.specs.declared.fault.StoreFault.{StoreFault}
use Rattle.store_six.specs.declared.fault.StoreFault.TheVariants as store_fault

abbrev pub fault_of : StoreFault → KeeperFault
fault_of store_fault.Failed = keeper_fault.Failed
fault_of store_fault.OutOfMemory = keeper_fault.OutOfMemory
