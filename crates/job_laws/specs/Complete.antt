-- What a replay does where nothing fails.
use Rattle.std.specs.Prelude.{ℕ, List, [], ◌≡◌, ◌⊎◌, Some}
use Rattle.content_state.specs.State.{State}
use Rattle.http_heads.specs.declared.request.Request.{Request}
use Rattle.http_heads.specs.Requests.{End, Reads}
use Rattle.site_alone.specs.House.{opened_on}
use Rattle.site_house.specs.History.{newest_of}
use Rattle.site_http.specs.Kept.{shelves_of}
use Rattle.site_places.specs.Place.{next_list, none_given}
use Rattle.site_cli.specs.Outside.{Outside, HasCause}
use Rattle.site_cli.specs.Run.{Replays, around, status_of}
use Rattle.run_laws.specs.Complete.{AllReplied, StaysCounted, ended_by}

-- each request was answered, and the status is that of what follows the last of them
pub record RepliesToAll (base : State) (old new : Outside) (status : ℕ) (r : Replays base old new status) (requests : List Request) (end : End) : Type 0 where
  pub status_is : status ≡ status_of (ended_by end)
  pub replied :
      AllReplied r.end
      (around old.left (none_given (next_list old.place.moments)) (none_given (next_list old.place.words)) r.points old.written [] (shelves_of (opened_on base)))
      (around new.left r.given r.drawn r.points-after new.written r.log r.kept)
      (record { base = base; log = r.log; pass = 0 }) 1000 (newest_of base []) requests end

abbrev pub ReplaysComplete : Type 0
ReplaysComplete =
    (base : State) (old new : Outside) (status : ℕ) (r : Replays base old new status) → HasCause old new status
    → StaysCounted old.reading new.reading → StaysCounted old.writing new.writing
    → (bytes : List ℕ) (requests : List Request) (end : End) → old.left ≡ Some bytes → Reads 1000 bytes requests end
    → RepliesToAll base old new status r requests end ⊎ (status ≡ 9)
