-- What a store is made of may be sent to another thread.
use denote.RattleType.{RattleType}
use denote.Param.Send.{IsSend, sendable}
use Rattle.std.proofs.Crossing.{crosses}
use Rattle.sqlite.below.sqlite_store.proofs.store.FileStore.TheSendSync as files_go
use Rattle.sqlite.below.sqlite_disk.proofs.modelled.Modelled.TheSendSync as disks_go
use Rattle.keeper_sqlite.proofs.keeper.SqliteKeeper.TheSendSync as keepers_go
use Rattle.keeper_sqlite.specs.contracts.keeper.SqliteKeeper as keeper
use Rattle.sqlite.specs.contracts.FileStore as file
use Rattle.sqlite.below.sqlite_disk.specs.contracts.modelled.Modelled as disk
use Rattle.sqlite_std_file.specs.contracts.host.Host as host
use Rattle.site_places.specs.contracts.store.StoreFile as store

host_send : IsSend host.the_row
host_send = search (sendable, crosses) depth 30

-- a keeper over a file, whatever the file tells
keeper_send : (T : RattleType) (a : _) (b : _) (c : _) (d : _) → IsSend (keeper.the_row (file.the_row (disk.the_row host.the_row T a b) c) d)
keeper_send T a b c d = keepers_go.the_send _ d (files_go.the_send _ c (disks_go.the_send _ T a b host_send))

pub store_send : IsSend store.the_row
store_send = search (sendable, keeper_send) depth 12
