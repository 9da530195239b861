-- Texts of tags and contexts can be read back, so different ones have different texts.
use Rattle.std.specs.declared.cmp.Ordering.TheVariants.{Equal}
use Rattle.std.proofs.lemmas.Map.Lookups.{exact_bytes}
use Rattle.std.specs.Ordering.{on}
use Rattle.std.specs.Cmp.Lexicographic.{pointwise}
use Rattle.std.proofs.lemmas.Slice.Eq.{slice_eq-Decides, bytes_eq-Decides}
use Rattle.std.proofs.lemmas.Bool.Decides.{Decides-like}
use Rattle.std.proofs.Common.{◌↔◌, IsTrue, Bool, ℕ, List, [], ◌∷◌, ◌≡◌, refl, sym, ◌∙◌, ap}
use Rattle.std.specs.Prelude.{codes, Option, Some, None, nat_eq, cond}
use Rattle.cacheability.specs.declared.tag.Tag.{Tag}
use Rattle.cacheability.specs.declared.tag.Tag.TheVariants as tag
use Rattle.cacheability.specs.Tag.{tag_text, tag_cmp}
use Rattle.cacheability.specs.declared.context.Context.{Context}
use Rattle.cacheability.specs.declared.context.Context.TheVariants as context
use Rattle.cacheability.specs.Context.{context_text, context_cmp}
use Rattle.cacheability.proofs.Digits.{number_of, number_of-decimal}

-- what stands behind a prefix
abbrev behind : List ℕ → List ℕ → Option (List ℕ)
behind [] xs = Some xs
behind (p ∷ ps) [] = None
behind (p ∷ ps) (x ∷ xs) = cond (nat_eq p x) (behind ps xs) None

-- the value that the rest gives, where a text begins with a prefix, else another value
abbrev where_begun : {X : Type 0} → Option (List ℕ) → (List ℕ → X) → X → X
where_begun None f other = other
where_begun (Some rest) f other = f rest

-- longer prefixes stand before those that begin them
abbrev tag_of : List ℕ → Tag
tag_of text =
    where_begun (behind (codes "config:system.site") text) (λ _. tag.Site)
    (where_begun (behind (codes "config:node.type.") text) (λ t. tag.NodeType t)
    (where_begun (behind (codes "config:user.role.") text) (λ r. tag.Role r)
    (where_begun (behind (codes "user:") text) (λ u. tag.User (number_of u))
    (where_begun (behind (codes "taxonomy_term:") text) (λ t. tag.Term (number_of t))
    (where_begun (behind (codes "taxonomy_term_list") text) (λ _. tag.TermList)
    (where_begun (behind (codes "node:") text) (λ n. tag.Node (number_of n))
    (where_begun (behind (codes "node_list:") text) (λ t. tag.NodeListOf t)
    (where_begun (behind (codes "node_list") text) (λ _. tag.NodeList)
    (where_begun (behind (codes "comment:") text) (λ c. tag.Comment (number_of c))
    (where_begun (behind (codes "comment_list:") text) (λ n. tag.CommentList (number_of n))
    (where_begun (behind (codes "config:system.menu.") text) (λ m. tag.Menu m)
    (where_begun (behind (codes "config:views.view.") text) (λ l. tag.Listing l)
    (where_begun (behind (codes "config:block.block.") text) (λ b. tag.Block b)
    (where_begun (behind (codes "config:block_list") text) (λ _. tag.BlockList)
    (where_begun (behind (codes "rendered") text) (λ _. tag.Rendered)
    tag.NotFound)))))))))))))))

tag_of-tag_text : (t : Tag) → tag_of (tag_text t) ≡ t
tag_of-tag_text tag.Site = refl
tag_of-tag_text (tag.NodeType t) = refl
tag_of-tag_text (tag.Role r) = refl
tag_of-tag_text (tag.User u) = ap tag.User (number_of-decimal u)
tag_of-tag_text (tag.Term t) = ap tag.Term (number_of-decimal t)
tag_of-tag_text tag.TermList = refl
tag_of-tag_text (tag.Node n) = ap tag.Node (number_of-decimal n)
tag_of-tag_text tag.NodeList = refl
tag_of-tag_text (tag.NodeListOf t) = refl
tag_of-tag_text (tag.Comment c) = ap tag.Comment (number_of-decimal c)
tag_of-tag_text (tag.CommentList n) = ap tag.CommentList (number_of-decimal n)
tag_of-tag_text (tag.Menu m) = refl
tag_of-tag_text (tag.Listing l) = refl
tag_of-tag_text (tag.Block b) = refl
tag_of-tag_text tag.BlockList = refl
tag_of-tag_text tag.Rendered = refl
tag_of-tag_text tag.NotFound = refl

-- different tags have different texts
pub tags_apart : (a b : Tag) → tag_text a ≡ tag_text b → a ≡ b
tags_apart a b e = sym (tag_of-tag_text a) ∙ ap (λ text. tag_of text) e ∙ tag_of-tag_text b

abbrev context_of : List ℕ → Context
context_of text =
    where_begun (behind (codes "languages:language_interface") text) (λ _. context.Language)
    (where_begun (behind (codes "theme") text) (λ _. context.Theme)
    (where_begun (behind (codes "user.roles") text) (λ _. context.UserRoles)
    (where_begun (behind (codes "user.permissions") text) (λ _. context.UserPermissions)
    (where_begun (behind (codes "user.node_grants:view") text) (λ _. context.NodeGrantsView)
    (where_begun (behind (codes "user") text) (λ _. context.User)
    (where_begun (behind (codes "url.path.is_front") text) (λ _. context.IsFront)
    (where_begun (behind (codes "url.path") text) (λ _. context.UrlPath)
    (where_begun (behind (codes "url.query_args:") text) (λ name. context.QueryArg name)
    (where_begun (behind (codes "url.query_args") text) (λ _. context.QueryArgs)
    (where_begun (behind (codes "url") text) (λ _. context.Url)
    (where_begun (behind (codes "session.exists") text) (λ _. context.SessionExists)
    (where_begun (behind (codes "session") text) (λ _. context.Session)
    (where_begun (behind (codes "route.menu_active_trails:") text) (λ m. context.MenuTrail m)
    context.Language)))))))))))))

context_of-context_text : (c : Context) → context_of (context_text c) ≡ c
context_of-context_text context.Language = refl
context_of-context_text context.Theme = refl
context_of-context_text context.User = refl
context_of-context_text context.UserRoles = refl
context_of-context_text context.UserPermissions = refl
context_of-context_text context.NodeGrantsView = refl
context_of-context_text context.Url = refl
context_of-context_text context.UrlPath = refl
context_of-context_text context.IsFront = refl
context_of-context_text context.QueryArgs = refl
context_of-context_text (context.QueryArg name) = refl
context_of-context_text context.Session = refl
context_of-context_text context.SessionExists = refl
context_of-context_text (context.MenuTrail m) = refl

-- different contexts have different texts
pub contexts_apart : (a b : Context) → context_text a ≡ context_text b → a ≡ b
contexts_apart a b e = sym (context_of-context_text a) ∙ ap (λ text. context_of text) e ∙ context_of-context_text b

-- the order by texts tells them apart
pub exact_tags : (a b : Tag) → tag_cmp a b ≡ Equal → a ≡ b
exact_tags a b e = tags_apart a b (exact_bytes (tag_text a) (tag_text b) e)

pub exact_contexts : (a b : Context) → context_cmp a b ≡ Equal → a ≡ b
exact_contexts a b e = contexts_apart a b (exact_bytes (context_text a) (context_text b) e)

-- a comparison of two lists by the texts of their items
pub same_tags_told : (xs ys : List Tag) (r : Bool) → r ≡ pointwise (on tag_text (pointwise nat_eq)) xs ys → IsTrue r ↔ (xs ≡ ys)
same_tags_told xs ys r e =
    (slice_eq-Decides (λ a b. Decides-like (pointwise nat_eq (tag_text a) (tag_text b)) (tags_apart a b) (λ p. ap (λ t. tag_text t) p) (bytes_eq-Decides (tag_text a) (tag_text b))) xs ys r e)

pub same_contexts_told : (xs ys : List Context) (r : Bool) → r ≡ pointwise (on context_text (pointwise nat_eq)) xs ys → IsTrue r ↔ (xs ≡ ys)
same_contexts_told xs ys r e =
    (slice_eq-Decides (λ a b. Decides-like (pointwise nat_eq (context_text a) (context_text b)) (contexts_apart a b) (λ p. ap (λ c. context_text c) p) (bytes_eq-Decides (context_text a) (context_text b))) xs ys r e)
