-- The replies of so many levels are those of one level fewer, below each comment.
use Rattle.std.proofs.Common.{ℕ, zero, suc, List, ◌≡◌, ◌≢◌, ◌-◌, refl, ap, sym, arith}
use Rattle.std.specs.Prelude.{Option}
use Rattle.content_rows.specs.declared.row.Comment.{Comment}
use Rattle.content_state.specs.Plan.{each}
use Rattle.site_comments.specs.declared.reader.CommentReader.{CommentReader}
use Rattle.render_array.specs.Nodes.{comment_below, replies}

pub replies_deeper : (levels : ℕ) (reader : CommentReader) (all : List (ℕ × Comment)) (parent : Option ℕ) → levels ≢ 0
    → replies levels reader all parent ≡ each (comment_below (replies (levels - 1) reader all) reader parent) all
unfolding replies
replies_deeper zero reader all parent not_zero = absurd (not_zero refl)
replies_deeper (suc d) reader all parent not_zero =
    let e : suc d - 1 ≡ d = omega arith in ap (λ m. each (comment_below (replies m reader all) reader parent) all) (sym e)
