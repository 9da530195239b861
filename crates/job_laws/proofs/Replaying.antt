use Rattle.std.proofs.Common.{◌∙◌, [], ap, inl, inr}
use Rattle.site_alone.specs.House.{opened_on}
use Rattle.site_house.specs.History.{newest_of}
use Rattle.site_http.specs.Kept.{shelves_of}
use Rattle.site_places.specs.Place.{next_list, none_given}
use Rattle.site_cli.specs.Run.{around, status_of}
use Rattle.run_laws.proofs.Completing.{ended_well, steady}
use Rattle.job_laws.specs.Complete.{ReplaysComplete}

pub replays : ReplaysComplete
replays base old new status r cause reading writing bytes requests end told reads =
    let done = ended_well r.end
    (around old.left (none_given (next_list old.place.moments)) (none_given (next_list old.place.words)) r.points old.written [] (shelves_of (opened_on base)))
    (around new.left r.given r.drawn r.points-after new.written r.log r.kept)
    (record { base = base; log = r.log; pass = 0 }) 1000 (newest_of base []) r.connection
    (λ is. steady old.reading new.reading reading (cause.input (r.status_is ∙ ap status_of is)))
    (λ is. steady old.writing new.writing writing (cause.output (r.status_is ∙ ap status_of is)))
    bytes requests end told reads in
    elim done [
      | inl all ↦ inl (record { status_is = r.status_is ∙ ap status_of all.end_is; replied = all })
      | inr wanting ↦ inr (r.status_is ∙ ap status_of wanting)
    ]
