use Rattle.std.proofs.Common.{sym, ap, subst}
use Rattle.cache_entries.specs.declared.key.Key.{Key}
use Rattle.cache_entries.specs.declared.key.Subject.{Subject}
use Rattle.cache_entries.specs.Entries.{IsClosed}
use Rattle.render_canvas.specs.Board.{pieces_of}
use Rattle.kept_pages.proofs.Entries.{fragment_has_no_parts}
use Rattle.kept_pages.proofs.filling.keep_whole.Goals as goal

pub keep_filled-requires-clause-closed : goal.keep_filled-requires-clause-closed
keep_filled-requires-clause-closed g c =
    subst (λ (s : Subject). IsClosed s (pieces_of c.args.filled.joined.segments)) (sym (ap (λ (k : Key). k.subject) c.requires.looked)) (fragment_has_no_parts c.args.reader.now c.args.fragment.now c.args.filled.joined c.requires.whole)
