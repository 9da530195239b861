-- What becomes of an edit that a caller hands in, who has an engine for itself.
use Rattle.std.specs.Prelude.{[], ◌∷◌, ◌++◌, ◌≡◌}
use Rattle.content_state.specs.declared.commit.Commit.{Commit}
use Rattle.site_keeper.specs.Batch.{Batch}
use Rattle.site_keeper.specs.declared.fault.KeeperFault.{KeeperFault}
use Rattle.site_keeper.specs.declared.fault.KeeperFault.TheVariants as keeper_fault
use Rattle.site_hall.specs.Hall.{HallView}
use Rattle.site_hall.specs.Ready.{IsPending}
use Rattle.site_hall.specs.Alone.{AloneView}

-- the engine is another one, and an edit more was handed in
abbrev pub handed_in : AloneView → HallView → Commit → AloneView
handed_in alone hall commit = record alone { hall = hall; handed = alone.handed ++ commit ∷ [] }

-- where the keeper failed, the edit is pending, and was handed in; where memory is wanting nothing changes
abbrev pub LeavesHanded : KeeperFault → AloneView → Batch → AloneView → Type 0
LeavesHanded keeper_fault.Failed old batch new =
    IsPending old.hall batch new.hall × (new ≡ handed_in old new.hall batch.commit)
LeavesHanded keeper_fault.OutOfMemory old batch new = new ≡ old
