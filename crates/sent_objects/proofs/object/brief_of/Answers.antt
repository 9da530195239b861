use Rattle.std.proofs.Common.{option_map, sym, ap, ◌∙◌}
use Rattle.sent_objects.specs.Brief.{brief}
use Rattle.sent_objects.specs.Object.{text_object}
use Rattle.sent_objects.proofs.Texts.{of_utf8, of_other}
use Rattle.sent_objects.proofs.object.brief_of.Goals as goal

pub returns-in-Ok-read_text : goal.returns-in-Ok-read_text
returns-in-Ok-read_text c =
    sym c.in-Ok-read_text.ensures.ok ∙ ap (λ t. option_map brief (text_object t)) c.in-Ok.ensures.0
    ∙ ap (option_map brief) (sym (of_utf8 c.args.bytes.now c.in-Ok.ensures.1))

pub returns-in-Err : goal.returns-in-Err
returns-in-Err c = ap (option_map brief) (sym (of_other c.args.bytes.now c.in-Err.ensures))
