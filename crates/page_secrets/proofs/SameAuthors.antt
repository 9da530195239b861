-- By whom something was made, and when, is the same on alike visits.
use Rattle.std.proofs.Common.{ℕ, List}
use Rattle.std.specs.Prelude.{◌==◌, Option, Some, None}
use Rattle.content_rows.specs.declared.row.User.{User}
use Rattle.content_state.specs.Context.{Visit}
use Rattle.render_array.specs.Nodes.{linked_author, author_found, author, by_line}
use Rattle.page_secrets.proofs.Settled.{Alike, alike_bind, alike_write, alike_escaped, alike_if}
use Rattle.page_secrets.proofs.Visits.{AlikeVisits, alike_user}
use Rattle.page_secrets.proofs.Deciding.{same_user_view}

module _ (v v' : Visit) (alike : AlikeVisits v v') where
  same_linked_author : (u : ℕ) (name : List ℕ) → Alike v v' (linked_author u name) (linked_author u name)
  unfolding linked_author
  same_linked_author u name =
      alike_bind _ _ (alike_write _) (λ _. alike_bind _ _ (alike_write _) (λ _. alike_bind _ _ (alike_write _) (λ _.
      alike_bind _ _ (alike_escaped _) (λ _. alike_write _))))

  same_author_found : (u : ℕ) (found : Option User) → Alike v v' (author_found u found) (author_found u found)
  same_author_found u None = alike_write _
  same_author_found u (Some user) =
      alike_bind _ _ (same_user_view alike u) (λ allowed. alike_if allowed (same_linked_author u user.name) (alike_escaped _))

  same_author : (uid : ℕ) → Alike v v' (author uid) (author uid)
  unfolding author
  same_author uid =
      alike_if (uid == 0) (alike_write _) (alike_user alike uid (author_found uid) (same_author_found uid None) (λ user digest salt. same_author_found uid (Some user)))

  pub same_by_line : (uid created : ℕ) → Alike v v' (by_line uid created) (by_line uid created)
  unfolding by_line
  same_by_line uid created =
      alike_bind _ _ (alike_write _) (λ _. alike_bind _ _ (same_author uid) (λ _. alike_bind _ _ (alike_write _) (λ _.
      alike_bind _ _ (alike_write _) (λ _. alike_write _))))
