-- What a hall, a desk and an engine are made of may be sent to another thread.
use denote.RattleType.{RattleType}
use denote.Param.Send.{IsSend, sendable}
use Rattle.std.proofs.Crossing.{crosses}
use Rattle.content_state.proofs.Crossing.{state_send, state_sync}
use Rattle.content_state.proofs.commit.Commit.TheSendSync as commit_goes
use Rattle.fragment_cache.proofs.bins.Bins.TheSendSync as bins_go
use Rattle.site_hall.proofs.edit.SharedEdit.TheSendSync as edit_goes
use Rattle.site_keeper.specs.declared.keeper.Keeper as keeper
use Rattle.site_keeper.proofs.batch.Batch.TheSendSync as batch_goes
use Rattle.site_hall.specs.contracts.engine.Engine as engine
use Rattle.site_hall.specs.contracts.hall.Hall as hall
use Rattle.site_hall.specs.contracts.desk.Desk as desk
use Rattle.site_hall.specs.contracts.log.Log as log
use Rattle.site_hall.specs.contracts.edit.Made as made
use Rattle.site_hall.specs.contracts.stock.Stock as stock

pub log_send : IsSend log.the_row
log_send = search (sendable, crosses, state_send, state_sync, edit_goes.the_send) depth 30

pub made_send : IsSend made.the_row
made_send = search (sendable, crosses, state_send, state_sync, commit_goes.the_send, commit_goes.the_sync) depth 30

pub stock_send : IsSend stock.the_row
stock_send = search (sendable, crosses, bins_go.the_send) depth 30

pub hall_send : IsSend hall.the_row
hall_send = search (sendable, crosses, log_send, made_send, stock_send) depth 30

-- where its keeper may
pub desk_send : (K : RattleType) (told : keeper.Ghosts K.Denot) → IsSend K → IsSend (desk.the_row K told)
desk_send K told send = search (sendable, crosses, batch_goes.the_send) depth 30

pub engine_send : (K : RattleType) (told : keeper.Ghosts K.Denot) → IsSend K → IsSend (engine.the_row K told)
engine_send K told send = search (sendable, crosses, log_send, made_send, stock_send) depth 30
