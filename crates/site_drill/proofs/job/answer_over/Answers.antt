use Rattle.std.proofs.Common.{◌∙◌, ap, refl, length, Some, List, ℕ}
use Rattle.std.proofs.lemmas.Result.{err_from_is_err_and}
use Rattle.hex.specs.Hex.{encode_lower}
use Rattle.sha2.specs.Sha256.{sha256}
use Rattle.site_hall.specs.Alone.{house_of}
use Rattle.site_drill.proofs.Drilling.{drilled, served_fresh}
use Rattle.site_drill.proofs.job.answer_over.Goals as goal

pub returns-in-Ok-clause-answered : goal.returns-in-Ok-clause-answered
returns-in-Ok-clause-answered c =
    let devices = c.in_ok-devices.devices in
    let fresh = c.in_ok-devices.ensures in
    let ends = c.answer_all.new in
    drilled c.args.state.now c.args.text.items ends.source ends.clock.given (Some ends.entropy.given) ends.gate.points ends.sink.written devices.clock.values ends.clock.values (house_of c.in_ok-house.house) (house_of ends.house) c.in-Ok.pages _
    (served_fresh (record {
      left_is = fresh.source;
      given_is = fresh.given;
      words_is = fresh.drawn;
      points_is = fresh.told;
      written_is = fresh.sink;
      house_is = c.in_ok-house.ensures;
      moves = c.answer_all.ensures.moves;
      own = λ none. (c.handed.ensures.is_alone.all none).handed;
      listed = fresh.moments;
      turn = c.answer_all.ensures.moments;
      answered = c.in-Ok.ensures.answered;
    }))
    refl c.handed.ensures.count c.built.ensures (ap length c.bytes.ensures) (c.digest_of.ensures ∙ ap (λ (l : List ℕ). encode_lower (sha256 l)) c.bytes-in-Ok.ensures)

pub returns-in_err-house-clause-stopped : goal.returns-in_err-house-clause-stopped
returns-in_err-house-clause-stopped c =
    let wanting = err_from_is_err_and c.from_residual-in_err-house.result c.from_residual-in_err-house.ensures.1 in
    rw (wanting.1, wanting.2) tt
