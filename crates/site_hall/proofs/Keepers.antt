-- An engine with another keeper of what was loaded, where nothing was edited.
use Rattle.std.proofs.Common.{◌≡◌, ◌∙◌, ℕ, Bool, List, [], Option, None, ap, sym, subst, refl}
use Rattle.std.specs.Prelude.{option_map}
use Rattle.content_state.specs.Replay.{replay}
use Rattle.content_state.specs.declared.commit.Commit.{Commit}
use Rattle.site_keeper.specs.Keeper.{Kept, IfTold}
use Rattle.site_keeper.specs.Steps.{stored_of}
use Rattle.site_hall.specs.Log.{Log, Made}
use Rattle.site_hall.specs.Stock.{Stock, bins_in, AreSound}
use Rattle.site_hall.specs.Hall.{IsHall}
use Rattle.site_hall.specs.Opened.{opened_in}
use Rattle.site_hall.specs.Within.{view_of, told_before, IsWhole}
use Rattle.site_hall.proofs.Halls.{hall_of, opened_hall, opened_view, whole_none}

-- it is an engine as it is opened
pub kept_by : (log : Log) (pending : Option Made) (kept : Option Kept) (faults : ℕ) (steadfast : Bool) (stock : Stock)
    → log.edits ≡ [] → option_map (λ (made : Made). made.commit) pending ≡ None → IfTold kept (λ held. held ≡ stored_of log.base)
    → view_of log pending kept faults steadfast stock ≡ opened_in stock (stored_of log.base) kept faults steadfast
kept_by log pending kept faults steadfast stock edits none told =
    ap (λ (p : Option Commit). hall_of log.base log.edits p (told_before log.base kept) kept faults steadfast stock) none
    ∙ opened_view log (stored_of log.base) kept faults steadfast stock refl edits told

pub still_hall : (log : Log) (pending : Option Made) (before kept : Option Kept) (faults-before faults : ℕ) (steadfast-before steadfast : Bool) (stock : Stock)
    → IsHall (view_of log pending before faults-before steadfast-before stock) → log.edits ≡ [] → IfTold kept (λ held. held ≡ stored_of log.base)
    → IsHall (opened_in stock (stored_of log.base) kept faults steadfast)
unfolding replay
still_hall log pending before kept faults-before faults steadfast-before steadfast stock is edits told =
    opened_hall (stored_of log.base) kept faults steadfast stock (is.valid.states 0) told
    (subst (λ (l : List Commit). AreSound log.base l (bins_in stock)) edits is.entries)

pub still_whole : (log : Log) (pending : Option Made) (before kept : Option Kept) (faults-before faults : ℕ) (steadfast-before steadfast : Bool) (stock : Stock)
    → IsHall (view_of log pending before faults-before steadfast-before stock) → log.edits ≡ [] → option_map (λ (made : Made). made.commit) pending ≡ None
    → IfTold kept (λ held. held ≡ stored_of log.base) → IsWhole log pending kept faults steadfast stock
still_whole log pending before kept faults-before faults steadfast-before steadfast stock is edits none told =
    whole_none log pending kept faults steadfast stock none
    (subst IsHall (sym (kept_by log pending kept faults steadfast stock edits none told))
    (still_hall log pending before kept faults-before faults steadfast-before steadfast stock is edits told))
