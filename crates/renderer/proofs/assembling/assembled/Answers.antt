use Rattle.std.proofs.Common.{◌∙◌}
use Rattle.std.proofs.lemmas.Result.{IfOk-weaker}
use Rattle.html_out.specs.Segment.{parts_of}
use Rattle.renderer.proofs.Texts.{filled_parts}
use Rattle.renderer.proofs.assembling.assembled.Goals as goal

pub returns : goal.returns
returns c =
    IfOk-weaker c.with_meta.result _ _
    (λ page e only. filled_parts _ _ (parts_of c.args.parts.now) page.items (c.as_slice.ensures.value ∙ c.in_ok-meta.ensures) e only)
    c.with_meta.ensures
