-- Lists of comments that differ in nothing but the bodies of some that the viewer may not view.
use Rattle.std.specs.Prelude.{ℕ, List, [], ◌∷◌, false, ◌≡◌, ◌⊎◌}
use Rattle.content_rows.specs.declared.row.Comment.{Comment}
use Rattle.site_comments.specs.declared.reader.CommentReader.{CommentReader}
use Rattle.site_comments.specs.Viewed.{may_view_comment}
use Rattle.page_secrets.specs.Alike.{with_body}

pub record IsHiddenComment (reader : CommentReader) (e d : ℕ × Comment) : Type 0 where
  pub number : e.0 ≡ d.0
  pub others : d.1 ≡ with_body e.1 d.1.body
  pub hidden : may_view_comment reader e.1 ≡ false

abbrev pub AreAlikeComments : CommentReader → List (ℕ × Comment) → List (ℕ × Comment) → Type 0
AreAlikeComments reader [] [] = Unit {0}
AreAlikeComments reader (e ∷ es) (d ∷ ds) = ((e ≡ d) ⊎ IsHiddenComment reader e d) × AreAlikeComments reader es ds
AreAlikeComments reader _ _ = ⊥
