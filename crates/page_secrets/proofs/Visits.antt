-- Two visits on which a viewer sees the same: what is read of no node, no user and no comment is the same, access decides the
-- same, nodes are alike, users are the same but for their passwords, and comments but for the bodies of hidden ones.
use Rattle.std.proofs.Common.{◌≡◌, ℕ, List, ap, sym, subst}
use Rattle.std.specs.Prelude.{Bool, ◌&&◌, Option, Some, None}
use Rattle.std.specs.List.{filter}
use Rattle.cacheability.specs.declared.op.Op.TheVariants as op
use Rattle.cacheability.specs.declared.context.Context.{Context}
use Rattle.content_rows.specs.declared.cell.Cell.{Cell}
use Rattle.content_rows.specs.declared.row.Row.{Row}
use Rattle.content_rows.specs.declared.row.Node.{Node}
use Rattle.content_rows.specs.declared.row.Listing.{Listing}
use Rattle.content_rows.specs.declared.row.User.{User}
use Rattle.content_state.specs.declared.ask.Viewer.{Viewer}
use Rattle.indexed_rows.specs.Rows.{node_of, user_of, nodes_of, terms_of, comments_on}
use Rattle.content_state.specs.Read.{Read, NodeRow, UserRow, AllNodes, NodesOfType, CommentRow, CommentsOf, answer}
use Rattle.content_state.specs.Context.{Visit, value}
use Rattle.content_state.specs.Plan.{Plan, Done, reading, asking, ◌>>=◌}
use Rattle.site_access.specs.Access.{access_to_node, access_to_found_field, field_of}
use Rattle.site_lists.specs.Listed.{is_listed, ids_in_order}
use Rattle.render_canvas.specs.Decision.{is_allowed}
use Rattle.page_secrets.specs.Alike.{AreAlikeNodes}
use Rattle.site_comments.specs.Viewed.{reader_of}
use Rattle.page_secrets.specs.Passwords.{with_password}
use Rattle.page_secrets.proofs.AlikeComments.{AreAlikeComments}
use Rattle.page_secrets.proofs.Settled.{Alike}

-- reads that no node, no user and no comment answers
abbrev pub IsOfNone : Read → Type 0
IsOfNone (NodeRow n) = ⊥
IsOfNone (UserRow u) = ⊥
IsOfNone AllNodes = ⊥
IsOfNone (NodesOfType t) = ⊥
IsOfNone (CommentRow k) = ⊥
IsOfNone (CommentsOf n) = ⊥
IsOfNone _ = Unit {0}

-- a node that is there on neither, or on both, alike for the viewer
abbrev pub AreAlikeFound : Viewer → List (Cell × Row) → List (Cell × Row) → ℕ → Option Node → Option Node → Type 0
AreAlikeFound viewer rows rows' n None None = Unit {0}
AreAlikeFound viewer rows rows' n (Some node) (Some node') = AreAlikeNodes viewer rows rows' n node node'
AreAlikeFound viewer rows rows' n _ _ = ⊥

-- a user that is there on neither, or on both, the same but for the password
abbrev pub AreOneUser : Option User → Option User → Type 0
AreOneUser None None = Unit {0}
AreOneUser (Some user) (Some user') = user' ≡ with_password user user'.digest user'.salt
AreOneUser _ _ = ⊥

-- whether the viewer may view a node
abbrev pub sees : Visit → ℕ → Bool
sees v n = is_allowed (access_to_node v.rows v.viewer op.View n)

-- the nodes of a listing that the viewer may view
abbrev pub listed : Visit → Listing → ℕ → List ℕ
listed v listing moment = ids_in_order (filter (λ e. is_listed (terms_of v.rows) listing moment e.1 && sees v e.0) (nodes_of v.rows))

pub record AlikeVisits (v v' : Visit) : Type 0 where
  pub moment : v.moment ≡ v'.moment
  pub values : (c : Context) → value v c ≡ value v' c
  pub rows : (r : Read) → IsOfNone r → answer v.rows r ≡ answer v'.rows r
  pub access : (n : ℕ) → access_to_node v.rows v.viewer op.View n ≡ access_to_node v'.rows v'.viewer op.View n
  pub fields : (uid : ℕ) (type name : List ℕ)
      → access_to_found_field v.rows v.viewer op.View uid name (field_of v.rows type name)
      ≡ access_to_found_field v'.rows v'.viewer op.View uid name (field_of v'.rows type name)
  pub found : (n : ℕ) → AreAlikeFound v.viewer v.rows v'.rows n (node_of v.rows n) (node_of v'.rows n)
  pub users : (u : ℕ) → AreOneUser (user_of v.rows u) (user_of v'.rows u)
  pub listings : (listing : Listing) (moment : ℕ) → listed v listing moment ≡ listed v' listing moment
  pub comments : (n : ℕ) → AreAlikeComments (reader_of v.rows v.viewer) (comments_on v.rows n) (comments_on v'.rows n)

pub alike_reading : {v v' : Visit} → AlikeVisits v v' → (r : Read) → IsOfNone r → Alike v v' (reading r) (reading r)
unfolding reading
alike_reading alike r none = record { same = ap Done (alike.rows r none) }

user_after : {B : Type 0} {v v' : Visit} (f : Option User → Plan B) (found found' : Option User) → AreOneUser found found'
    → Alike v v' (f None) (f None) → ((user : User) (digest : Option (List ℕ)) (salt : List ℕ) → Alike v v' (f (Some user)) (f (Some (with_password user digest salt))))
    → Alike v v' (f found) (f found')
user_after f None None one absent there = absent
user_after {v = v} {v' = v'} f (Some user) (Some user') one absent there =
    subst (λ o. Alike v v' (f (Some user)) (f (Some o))) (sym one) (there user user'.digest user'.salt)
user_after f None (Some user') one absent there = absurd one
user_after f (Some user) None one absent there = absurd one

-- what is shown of a user, where it doesn't hang on the password
pub alike_user : {B : Type 0} {v v' : Visit} → AlikeVisits v v' → (u : ℕ) (f : Option User → Plan B)
    → Alike v v' (f None) (f None) → ((user : User) (digest : Option (List ℕ)) (salt : List ℕ) → Alike v v' (f (Some user)) (f (Some (with_password user digest salt))))
    → Alike v v' (reading (UserRow u) >>= f) (reading (UserRow u) >>= f)
unfolding reading
alike_user {v = v} {v' = v'} alike u f absent there = record { same = (user_after f (user_of v.rows u) (user_of v'.rows u) (alike.users u) absent there).same }

pub alike_asking : {v v' : Visit} → AlikeVisits v v' → (c : Context) → Alike v v' (asking c) (asking c)
unfolding asking
alike_asking alike c = record { same = ap Done (alike.values c) }
