use Rattle.std.proofs.Common.{map}
use Rattle.std.specs.String.{string_bytes}
use Rattle.site_cli.specs.Outside.{Outside}
use Rattle.site_cli.specs.Words.{asked}
use Rattle.table_places.specs.Tabled.{kept_of, table_view}
use Rattle.table_runs.proofs.Mapping.{left_by, store_at, store_tells}
use Rattle.table_runs.proofs.Serving.{stores_tell}
use Rattle.table_runs.proofs.run.run_over_tables.Goals as goal
use Rattle.table_runs.specs.Leaves.{Told}
use Rattle.table_runs.specs.Tables.{Left}

pub returns-clause-tells : goal.returns-clause-tells
returns-clause-tells g c =
    let words = asked (map string_bytes c.args.words.now) in
    let old = c.args.place.now in
    let new = c.run_site-status.new.place in
    let before : Outside = record {
      left = g.P.In.Source.left c.args.input.now;
      written = g.P.Out.Sink.written c.args.output.now;
      reading = g.P.In.Source.faults c.args.input.now;
      writing = g.P.Out.Sink.faults c.args.output.now;
      place = table_view (g.P.Place.sees old.place) old;
    } in
    let after : Outside = record {
      left = g.P.In.Source.left c.run_site-status.new.input;
      written = g.P.Out.Sink.written c.run_site-status.new.output;
      reading = g.P.In.Source.faults c.run_site-status.new.input;
      writing = g.P.Out.Sink.faults c.run_site-status.new.output;
      place = table_view (g.P.Place.sees new.place) new;
    } in
    store_tells (Told (kept_of new.returned)) (Left g.S.Store new) (left_by g.S.Store new c.stands.ensures) words old.path old.listed before after c.run_site-status.result
    (stores_tell words old.path old.listed before after c.run_site-status.result (store_at old.path old.listed) c.run_site-status.ensures.runs)
