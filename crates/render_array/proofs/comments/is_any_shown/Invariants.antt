use Rattle.std.proofs.Common.{◌≡◌, take, map, false}
use Rattle.std.specs.Prelude.{None}
use Rattle.std.specs.List.{list_any}
use Rattle.site_comments.specs.Viewed.{is_shown}
use Rattle.content_state.specs.Comments.{shown_comment}
use Rattle.render_array.proofs.comments.is_any_shown.Given as goal

abbrev pub invariant-loop-entry : goal.invariant-loop-entry
invariant-loop-entry l = list_any (λ e. is_shown l.reader None e.1) (map shown_comment (take l.entry-index l.all)) ≡ false
