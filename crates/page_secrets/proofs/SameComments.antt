-- The comments of a node show the same on alike visits: one that the viewer may not view is shown on neither, and what stands
-- below it isn't either.
use Rattle.std.proofs.Common.{◌≡◌, ◌∙◌, ℕ, zero, suc, List, [], ◌∷◌, true, false, refl, sym, ap, subst, inl, inr}
use Rattle.std.specs.Prelude.{Bool, ◌||◌, ◌&&◌, ◌⊎◌, Option, Some, None, if◌then◌else◌}
use Rattle.std.specs.List.{list_any}
use Rattle.cacheability.specs.declared.context.Context.TheVariants as context
use Rattle.content_rows.specs.Permission.{has}
use Rattle.content_rows.specs.declared.row.Comment.{Comment}
use Rattle.content_state.specs.declared.element.Library.TheVariants as library
use Rattle.indexed_rows.specs.Rows.{comments_on}
use Rattle.content_state.specs.Viewer.{may}
use Rattle.content_state.specs.Context.{Visit}
use Rattle.content_state.specs.Plan.{Plan, Done, write, attach, each, reading, asking, ◌>>◌}
use Rattle.site_access.specs.Plans.{holds}
use Rattle.site_access.specs.Comments.{access_comments, administer_comments}
use Rattle.site_comments.specs.declared.reader.CommentReader.{CommentReader}
use Rattle.site_comments.specs.Viewed.{may_view_comment, reads_some, is_reply_to, is_shown, reader_of}
use Rattle.render_array.specs.Nodes.{by_line, comment_text, comment_shown, comment_below, replies, comments_shown, comments_for, comments}
use Rattle.render_array.specs.Pieces as pieces
use Rattle.page_secrets.proofs.Settled.{settled, Alike, alike_bind, alike_after, alike_done, alike_write, alike_escaped, alike_attach, alike_if}
use Rattle.page_secrets.proofs.Visits.{AlikeVisits}
use Rattle.page_secrets.proofs.AlikeComments.{IsHiddenComment, AreAlikeComments}
use Rattle.page_secrets.proofs.SameAuthors.{same_by_line}

-- ---- of a comment that is hidden nothing is shown

and_false : (b : Bool) → (b && false) ≡ false
and_false true = refl
and_false false = refl

nothing_below : (below : Option ℕ → Plan (Unit {0})) (reader : CommentReader) (parent : Option ℕ) (e : ℕ × Comment)
    → may_view_comment reader e.1 ≡ false → comment_below below reader parent e ≡ Done tt
unfolding comment_below
nothing_below below reader parent e hidden =
    ap (λ b. if is_reply_to e.1 parent && b then comment_shown below e else Done tt) hidden
    ∙ ap (λ b. if b then comment_shown below e else Done tt) (and_false (is_reply_to e.1 parent))

-- whether a comment that answers none is shown is the same of both
same_head : (reader : CommentReader) (e d : ℕ × Comment) → (e ≡ d) ⊎ IsHiddenComment reader e d → is_shown reader None e.1 ≡ is_shown reader None d.1
same_head reader e d (inl is) = ap (λ (o : ℕ × Comment). is_shown reader None o.1) is
same_head reader e d (inr hidden) = sym (ap (is_shown reader None) hidden.others)

same_any : (reader : CommentReader) (es ds : List (ℕ × Comment)) → AreAlikeComments reader es ds
    → list_any (λ e. is_shown reader None e.1) es ≡ list_any (λ e. is_shown reader None e.1) ds
same_any reader [] [] alike = refl
same_any reader [] (d ∷ ds) alike = absurd alike
same_any reader (e ∷ es) [] alike = absurd alike
same_any reader (e ∷ es) (d ∷ ds) alike =
    let head = same_head reader e d alike.0 in
    let tail = same_any reader es ds alike.1 in
    λ i. head i || tail i

-- a comment behind what is read of its row
abbrev shown_of : (Option ℕ → Plan (Unit {0})) → ℕ × Comment → Plan (Unit {0})
shown_of below e = do
  write pieces.comment_start
  by_line e.1.uid e.1.created
  comment_text e.1.body
  below (Some e.0)
  write pieces.article_end

-- the section, where it is there
abbrev section_if : Bool → CommentReader → List (ℕ × Comment) → Plan (Unit {0})
section_if there reader all = if there
    then (do
      attach library.Comment
      write pieces.comments_start
      replies 9 reader all None
      write pieces.comments_end)
    else Done tt

module _ (v v' : Visit) (alike : AlikeVisits v v') where
  same_text : (text : List ℕ) → Alike v v' (comment_text text) (comment_text text)
  unfolding comment_text
  same_text text = alike_bind _ _ (alike_write _) (λ _. alike_bind _ _ (alike_escaped _) (λ _. alike_write _))

  module _ (below below' : Option ℕ → Plan (Unit {0})) (same : (parent : Option ℕ) → Alike v v' (below parent) (below' parent)) where
    same_of : (e : ℕ × Comment) → Alike v v' (shown_of below e) (shown_of below' e)
    same_of e =
        alike_bind _ _ (alike_write _) (λ _. alike_bind _ _ (same_by_line v v' alike e.1.uid e.1.created) (λ _.
        alike_bind _ _ (same_text e.1.body) (λ _. alike_bind _ _ (same (Some e.0)) (λ _. alike_write _))))

    same_shown : (e : ℕ × Comment) → Alike v v' (comment_shown below e) (comment_shown below' e)
    unfolding comment_shown reading
    same_shown e = record { same = (same_of e).same }

    module _ (reader : CommentReader) (parent : Option ℕ) where
      same_itself : (e : ℕ × Comment) → Alike v v' (comment_below below reader parent e) (comment_below below' reader parent e)
      unfolding comment_below
      same_itself e = alike_if (is_shown reader parent e.1) (same_shown e) (alike_done tt)

      same_below : (e d : ℕ × Comment) → (e ≡ d) ⊎ IsHiddenComment reader e d → Alike v v' (comment_below below reader parent e) (comment_below below' reader parent d)
      same_below e d (inl is) = subst (λ o. Alike v v' (comment_below below reader parent e) (comment_below below' reader parent o)) is (same_itself e)
      same_below e d (inr hidden) = record {
        same =
            ap (settled v) (nothing_below below reader parent e hidden.hidden)
            ∙ sym (ap (settled v') (nothing_below below' reader parent d (ap (may_view_comment reader) hidden.others ∙ hidden.hidden)));
      }

      same_each : (es ds : List (ℕ × Comment)) → AreAlikeComments reader es ds
          → Alike v v' (each (comment_below below reader parent) es) (each (comment_below below' reader parent) ds)
      unfolding each
      same_each [] [] lists = alike_done tt
      same_each [] (d ∷ ds) lists = absurd lists
      same_each (e ∷ es) [] lists = absurd lists
      same_each (e ∷ es) (d ∷ ds) lists = alike_bind _ _ (same_below e d lists.0) (λ _. same_each es ds lists.1)

  module _ (reader : CommentReader) (all all' : List (ℕ × Comment)) (lists : AreAlikeComments reader all all') where
    same_replies : (levels : ℕ) (parent : Option ℕ) → Alike v v' (replies levels reader all parent) (replies levels reader all' parent)
    unfolding replies
    same_replies zero parent = alike_done tt
    same_replies (suc levels) parent = same_each (replies levels reader all) (replies levels reader all') (same_replies levels) reader parent all all' lists

    same_section : (there : Bool) → Alike v v' (section_if there reader all) (section_if there reader all')
    same_section there =
        alike_if there
        (alike_bind _ _ (alike_attach _) (λ _. alike_bind _ _ (alike_write _) (λ _. alike_bind _ _ (same_replies 9 None) (λ _. alike_write _))))
        (alike_done tt)

    same_comments_shown : Alike v v' (comments_shown reader all) (comments_shown reader all')
    unfolding comments_shown
    same_comments_shown =
        let shown = λ (o : ℕ × Comment). is_shown reader None o.1 in
        subst (λ b. Alike v v' (section_if (list_any shown all) reader all) (section_if b reader all')) (same_any reader all all' lists)
        (same_section (list_any shown all))

  -- ---- the comments of a node

  abbrev reader : CommentReader
  reader = reader_of v.rows v.viewer

  same_for : (n : ℕ) → Alike v v' (comments_for reader n) (comments_for reader n)
  unfolding comments_for reading
  same_for n =
      alike_if (reads_some reader)
      (record { same = (same_comments_shown reader (comments_on v.rows n) (comments_on v'.rows n) (alike.comments n)).same })
      (alike_done tt)

  held_left : (permission : List ℕ) → settled v (holds permission) ≡ Done (may v.rows v.viewer permission)
  unfolding holds asking
  held_left permission = refl

  held_too : (permission : List ℕ) → settled v' (holds permission) ≡ Done (may v.rows v.viewer permission)
  unfolding holds asking
  held_too permission = ap (λ held. Done (has held permission)) (sym (alike.values context.UserPermissions))

  pub same_comments : (n : ℕ) → Alike v v' (comments n) (comments n)
  unfolding comments
  same_comments n =
      alike_after (holds administer_comments) (holds administer_comments) reader.administers reader.administers _ _ (held_left administer_comments) (held_too administer_comments)
      (alike_after (holds access_comments) (holds access_comments) reader.accesses reader.accesses _ _ (held_left access_comments) (held_too access_comments)
      (same_for n))
