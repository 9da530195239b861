-- What the threads of a site share goes between them.
use denote.RattleType.{RattleType}
use denote.Struct.Field.{unit-field}
use denote.Struct.Tuple.{Tuple}
use denote.Param.Send.{IsSend, IsSync, sendable}
use Rattle.std.specs.Prelude.{[], ◌∷◌}
use Rattle.std.specs.contracts.option.Option as option
use Rattle.atomic_table.specs.contracts.shared.Shared as shared
use Rattle.atomic_table.proofs.shared.Shared.TheSendSync as shared_goes
use Rattle.turn_rule.specs.contracts.notes.Note as note
use Rattle.site_keeper.specs.declared.keeper.Keeper as keeper
use Rattle.std.proofs.Crossing.{crosses}
use Rattle.site_hall.proofs.Crossing.{hall_send, desk_send}
use Rattle.site_table.specs.contracts.home.HallHome as hall_home
use Rattle.site_table.specs.contracts.home.DeskHome as desk_home
use Rattle.site_table.specs.contracts.rules.TurnRule as rule
use Rattle.site_table.specs.contracts.rules.TurnRuleTableRuleLodgingNoteUnit.TheImpl as keeps

-- what lies in a slot
abbrev lodging : (K : RattleType) → keeper.Ghosts K.Denot → RattleType
lodging K told = Tuple (option.the_row hall_home.the_row ∷ option.the_row (desk_home.the_row K told) ∷ [])

lodging_send : (K : RattleType) (told : keeper.Ghosts K.Denot) → IsSend K → IsSend (lodging K told)
lodging_send K told send = search (sendable, crosses, hall_send, desk_send) depth 30

-- the room of a site, where its keeper may be sent
pub room_sync : (K : RattleType) (told : keeper.Ghosts K.Denot) → IsSend K
    → IsSync (shared.the_row (lodging K told) note.the_row unit-field.row rule.the_row (keeps.ghosts K told keeps.no_dict))
room_sync K told send = shared_goes.the_sync (lodging K told) note.the_row unit-field.row rule.the_row (keeps.ghosts K told keeps.no_dict) (lodging_send K told send)
