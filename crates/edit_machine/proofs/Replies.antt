-- The chains of parents once a comment is set, and what is kept of the comments of a node that go.
use Rattle.std.proofs.Common.{◌≡◌, ◌∙◌, ℕ, Bor, suc, List, [], ◌∷◌, ◌++◌, length, map, Bool, true, false, refl, sym, ap, cond}
use Rattle.std.specs.Prelude.{nat_lt, filter}
use Rattle.std.proofs.lemmas.List.{length-map}
use Rattle.content_rows.specs.declared.cell.Cell.{Cell}
use Rattle.content_rows.specs.declared.cell.Cell.TheVariants as cell
use Rattle.content_rows.specs.declared.row.Row.{Row}
use Rattle.content_rows.specs.declared.row.Row.TheVariants as row
use Rattle.content_rows.specs.declared.row.Comment.{Comment}
use Rattle.content_state.specs.Chain.{is_longer, with_parent, reply_in}
use Rattle.content_state.specs.Comments.{comment_key, shown_comment}
use Rattle.row_keys.specs.declared.rank.CommentKey.{CommentKey}
use Rattle.indexed_rows.specs.Rows.{with_row, comments_on}
use Rattle.indexed_rows.specs.Write.{Write}
use Rattle.state_commits.proofs.Parents.{reply_chain_set}
use Rattle.site_commands.specs.Causes.{removed}

pub longer_set : (rows : List (Cell × Row)) (cid : ℕ) (new : Comment) (most k : ℕ)
    → is_longer (with_parent (reply_in rows) cid new.parent) most k ≡ is_longer (reply_in (with_row rows (cell.Comment cid) (row.Comment new))) most k
longer_set rows cid new most k = sym (ap (λ c. nat_lt most (length c)) (reply_chain_set rows cid new (suc most) k))

-- as many are found as there are
pub counted : (rows : List (Cell × Row)) (node : ℕ) (found : List (ℕ × Bor Comment)) → map shown_comment found ≡ comments_on rows node → length found ≡ length (comments_on rows node)
counted rows node found is = sym (length-map found shown_comment) ∙ ap length is

-- the writes by which the comments of these keys go
abbrev pub going : List CommentKey → List Write
going keys = map (λ (k : CommentKey). removed (cell.Comment k.id)) keys

pub all_go : (node : ℕ) (es : List (ℕ × Comment)) → going (map (comment_key node) es) ≡ map (λ (e : ℕ × Comment). removed (cell.Comment e.0)) es
all_go node [] = refl
all_go node (e ∷ es) = ap (λ (ws : List Write). removed (cell.Comment e.0) ∷ ws) (all_go node es)

pub some_go : (p : ℕ → Bool) (node : ℕ) (es : List (ℕ × Comment))
    → going (filter (λ (k : CommentKey). p k.id) (map (comment_key node) es)) ≡ map (λ (e : ℕ × Comment). removed (cell.Comment e.0)) (filter (λ (e : ℕ × Comment). p e.0) es)
some_go p node [] = refl
some_go p node (e ∷ es) = go (p e.0) (some_go p node es)
  where
    -- where it passes, and where not
    go : (b : Bool) → going (filter (λ (k : CommentKey). p k.id) (map (comment_key node) es)) ≡ map (λ (d : ℕ × Comment). removed (cell.Comment d.0)) (filter (λ (d : ℕ × Comment). p d.0) es)
        → going (cond b (comment_key node e ∷ filter (λ (k : CommentKey). p k.id) (map (comment_key node) es)) (filter (λ (k : CommentKey). p k.id) (map (comment_key node) es)))
        ≡ map (λ (d : ℕ × Comment). removed (cell.Comment d.0)) (cond b (e ∷ filter (λ (d : ℕ × Comment). p d.0) es) (filter (λ (d : ℕ × Comment). p d.0) es))
    go true rest = ap (λ (ws : List Write). removed (cell.Comment e.0) ∷ ws) rest
    go false rest = rest

-- a node goes first, then the comments of these keys
pub node_goes : (node : ℕ) (es : List (ℕ × Comment)) (first : Write) (none some : List Write) (keys : List CommentKey)
    → none ≡ [] → some ≡ none ++ (first ∷ []) → first ≡ removed (cell.Node node) → keys ≡ map (comment_key node) es
    → some ++ going keys ≡ removed (cell.Node node) ∷ map (λ (e : ℕ × Comment). removed (cell.Comment e.0)) es
node_goes node es first none some keys none_is some_is first_is keys_are =
    ap (λ (ws : List Write). ws ++ going keys) (some_is ∙ ap (λ (ws : List Write). ws ++ (first ∷ [])) none_is ∙ ap (λ (w : Write). w ∷ []) first_is)
    ∙ ap (λ (ks : List CommentKey). removed (cell.Node node) ∷ going ks) keys_are
    ∙ ap (λ (ws : List Write). removed (cell.Node node) ∷ ws) (all_go node es)
