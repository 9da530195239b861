use Rattle.std.proofs.Common.{map}
use Rattle.std.specs.String.{string_bytes}
use Rattle.site_cli.specs.Words.{asked}
use Rattle.site_cli.proofs.Loading.{starved}
use Rattle.site_cli.proofs.run.run_job.Goals as goal

pub returns-in-Err-OutOfMemory-clause-runs : goal.returns-in-Err-OutOfMemory-clause-runs
returns-in-Err-OutOfMemory-clause-runs g c =
    starved (asked (map string_bytes c.args.words.now)) (record {
      left = g.P.In.Source.left c.args.input.now;
      written = g.P.Out.Sink.written c.args.output.now;
      reading = g.P.In.Source.faults c.args.input.now;
      writing = g.P.Out.Sink.faults c.args.output.now;
      place = g.P.Place.sees c.args.place.now;
    })
