-- What both of two states have at a cell, where no page tells them apart: the same, a node that is alike for the viewer, a user that is
-- the same but for the password, or a comment that is the same but for the body, and hidden from the viewer.
use Rattle.std.proofs.Common.{◌≡◌, ◌∙◌, ℕ, List, sym, ap, inl, inr, false}
use Rattle.std.specs.Prelude.{◌⊎◌, Option, Some, option_and_then}
use Rattle.content_rows.specs.declared.cell.Cell.{Cell}
use Rattle.content_rows.specs.declared.cell.Cell.TheVariants as cell
use Rattle.content_rows.specs.declared.row.Row.{Row}
use Rattle.content_rows.specs.declared.row.Row.TheVariants as row
use Rattle.content_rows.specs.declared.row.Comment.{Comment}
use Rattle.content_state.specs.declared.ask.Viewer.{Viewer}
use Rattle.indexed_rows.specs.Rows.{row_at, as_comment, comment_of}
use Rattle.site_comments.specs.Viewed.{may_view_comment, reader_of}
use Rattle.site_comments.proofs.Decided.{view_decided}
use Rattle.page_secrets.specs.Alike.{AreAlikeAt, HaveAlikeNodes, HaveAlikeComments, with_body}
use Rattle.page_secrets.specs.Passwords.{HaveOneUser}

-- what both have at a cell is one comment, the same but for its body, which the viewer may not view
pub record HaveHiddenComment (viewer : Viewer) (rows : List (Cell × Row)) (c : Cell) (found found' : Option Row) : Type 0 where
  pub k : ℕ
  pub comment : Comment
  pub comment' : Comment
  pub cell_is : c ≡ cell.Comment k
  pub found_is : found ≡ Some (row.Comment comment)
  pub found_too : found' ≡ Some (row.Comment comment')
  pub others : comment' ≡ with_body comment comment'.body
  pub hidden : may_view_comment (reader_of rows viewer) comment ≡ false

abbrev pub LookAlikeAt : Viewer → List (Cell × Row) → List (Cell × Row) → Cell → Option Row → Option Row → Type 0
LookAlikeAt viewer rows rows' c found found' =
    ((found ≡ found') ⊎ HaveAlikeNodes viewer rows rows' c found found') ⊎ (HaveOneUser c found found' ⊎ HaveHiddenComment viewer rows c found found')

-- a comment that access denies is hidden
hidden_comment : (viewer : Viewer) (rows rows' : List (Cell × Row)) (c : Cell) → HaveAlikeComments viewer rows rows' c (row_at rows c) (row_at rows' c)
    → HaveHiddenComment viewer rows c (row_at rows c) (row_at rows' c)
hidden_comment viewer rows rows' c comments =
    let there : comment_of rows comments.k ≡ Some comments.comment =
    ap (option_and_then as_comment) (ap (row_at rows) (sym comments.cell_is) ∙ comments.found_is) in
    record {
      k = comments.k;
      comment = comments.comment;
      comment' = comments.comment';
      cell_is = comments.cell_is;
      found_is = comments.found_is;
      found_too = comments.found_too;
      others = comments.others;
      hidden = sym (view_decided rows viewer comments.k comments.comment there) ∙ comments.denied;
    }

pub look_alike : (viewer : Viewer) (rows rows' : List (Cell × Row)) (c : Cell) → AreAlikeAt viewer rows rows' c (row_at rows c) (row_at rows' c)
    → LookAlikeAt viewer rows rows' c (row_at rows c) (row_at rows' c)
look_alike viewer rows rows' c (inl others) = inl others
look_alike viewer rows rows' c (inr comments) = inr (inr (hidden_comment viewer rows rows' c comments))
