-- Each key names the cell whose row gives it.
use Rattle.std.proofs.Common.{ℕ, List, [], ◌∷◌, ◌≡◌, ◌∙◌, refl, ap, Bool, true, false, cond}
use Rattle.std.specs.Prelude.{◌||◌}
use Rattle.std.specs.List.{list_any}
use Rattle.std.specs.Ordering.{eq_by_cmp}
use Rattle.std.specs.declared.cmp.Ordering.{Ordering}
use Rattle.std.proofs.lemmas.Map.Views.{tells_apart}
use Rattle.content_rows.specs.declared.cell.Cell.{Cell}
use Rattle.content_rows.specs.declared.cell.Cell.TheVariants as cell
use Rattle.content_rows.specs.declared.row.Row.{Row}
use Rattle.content_rows.specs.declared.row.Row.TheVariants as row
use Rattle.row_keys.specs.declared.rank.NodeRank.{NodeRank}
use Rattle.row_keys.specs.declared.rank.TypeKey.{TypeKey}
use Rattle.row_keys.specs.declared.rank.TermKey.{TermKey}
use Rattle.row_keys.specs.declared.rank.ParentKey.{ParentKey}
use Rattle.row_keys.specs.declared.rank.CommentKey.{CommentKey}
use Rattle.row_keys.specs.declared.rank.BlockKey.{BlockKey}
use Rattle.row_keys.specs.contracts.rank.NodeRankOrd.TheImpl as rank_order
use Rattle.row_keys.specs.contracts.rank.TypeKeyOrd.TheImpl as type_order
use Rattle.row_keys.specs.contracts.rank.TermKeyOrd.TheImpl as term_order
use Rattle.row_keys.specs.contracts.rank.ParentKeyOrd.TheImpl as parent_order
use Rattle.row_keys.specs.contracts.rank.CommentKeyOrd.TheImpl as comment_order
use Rattle.row_keys.specs.contracts.rank.BlockKeyOrd.TheImpl as block_order
use Rattle.row_keys.specs.Ranks.{rank_of, block_rank}
use Rattle.row_keys.specs.Keys.{node_keys, type_keys, term_keys, term_keys_of, parent_keys, comment_keys, block_keys, region_place}
use Rattle.row_keys.specs.Exact.{rank_exact, type_exact, term_exact, parent_exact, comment_exact, block_exact}
use Rattle.index_law.specs.Index.{TellsApart, NameOwners}

-- the only key of a list is the one that is found in it
only : {K : Type 0} {cmp : K → K → Ordering} → TellsApart cmp → (k x : K) → list_any (eq_by_cmp cmp k) (x ∷ []) ≡ true → k ≡ x
only {cmp = cmp} exact k x h = tells_apart exact k x (one (eq_by_cmp cmp k x) h)
  where
    one : (b : Bool) → (b || false) ≡ true → b ≡ true
    one true h = refl
    one false h = h

if_any : {K : Type 0} {cmp : K → K → Ordering} → TellsApart cmp → (k x : K) (b : Bool) → list_any (eq_by_cmp cmp k) (cond b (x ∷ []) []) ≡ true → k ≡ x
if_any exact k x true h = only exact k x h
if_any exact k x false h = cc

node_named : (e : Cell × Row) (k : NodeRank) → list_any (eq_by_cmp rank_order.ghosts.cmp k) (node_keys e) ≡ true → cell.Node k.id.0 ≡ e.0
node_named (cell.Node n, row.Node r) k h = ap (λ (q : NodeRank). cell.Node q.id.0) (if_any rank_exact k (rank_of (n, r)) r.status h)
node_named _ k h = cc

type_named : (e : Cell × Row) (k : TypeKey) → list_any (eq_by_cmp type_order.ghosts.cmp k) (type_keys e) ≡ true → cell.Node k.rank.id.0 ≡ e.0
type_named (cell.Node n, row.Node r) k h = ap (λ (q : TypeKey). cell.Node q.rank.id.0) (if_any type_exact k (record { node_type = r.node_type; rank = rank_of (n, r) }) r.status h)
type_named _ k h = cc

with_rank : (rank : NodeRank) (ts : List ℕ) (k : TermKey) → list_any (eq_by_cmp term_order.ghosts.cmp k) (term_keys_of rank ts) ≡ true → k.rank ≡ rank
with_rank rank [] k h = cc
with_rank rank (t ∷ ts) k h = go (eq_by_cmp term_order.ghosts.cmp k (record { term = t; rank = rank })) refl h (with_rank rank ts k)
  where
    go : (b : Bool) → eq_by_cmp term_order.ghosts.cmp k (record { term = t; rank = rank }) ≡ b → (b || list_any (eq_by_cmp term_order.ghosts.cmp k) (term_keys_of rank ts)) ≡ true → (list_any (eq_by_cmp term_order.ghosts.cmp k) (term_keys_of rank ts) ≡ true → k.rank ≡ rank) → k.rank ≡ rank
    go true e h rest = ap (λ (q : TermKey). q.rank) (tells_apart term_exact k (record { term = t; rank = rank }) e)
    go false e h rest = rest h

term_named : (e : Cell × Row) (k : TermKey) → list_any (eq_by_cmp term_order.ghosts.cmp k) (term_keys e) ≡ true → cell.Node k.rank.id.0 ≡ e.0
term_named (cell.Node n, row.Node r) k h = go r.status h
  where
    go : (b : Bool) → list_any (eq_by_cmp term_order.ghosts.cmp k) (cond b (term_keys_of (rank_of (n, r)) r.terms) []) ≡ true → cell.Node k.rank.id.0 ≡ cell.Node n
    go true h = ap (λ (q : NodeRank). cell.Node q.id.0) (with_rank (rank_of (n, r)) r.terms k h)
    go false h = cc
term_named _ k h = cc

parent_named : (e : Cell × Row) (k : ParentKey) → list_any (eq_by_cmp parent_order.ghosts.cmp k) (parent_keys e) ≡ true → cell.Term k.id ≡ e.0
parent_named (cell.Term n, row.Term r) k h = ap (λ (q : ParentKey). cell.Term q.id) (only parent_exact k (record { parent = r.parent; id = n }) h)
parent_named _ k h = cc

comment_named : (e : Cell × Row) (k : CommentKey) → list_any (eq_by_cmp comment_order.ghosts.cmp k) (comment_keys e) ≡ true → cell.Comment k.id ≡ e.0
comment_named (cell.Comment n, row.Comment r) k h = ap (λ (q : CommentKey). cell.Comment q.id) (only comment_exact k (record { node = r.node; id = n }) h)
comment_named _ k h = cc

block_named : (e : Cell × Row) (k : BlockKey) → list_any (eq_by_cmp block_order.ghosts.cmp k) (block_keys e) ≡ true → cell.Block k.rank.name ≡ e.0
block_named (cell.Block name, row.Block r) k h = ap (λ (q : BlockKey). cell.Block q.rank.name) (only block_exact k (record { region = region_place r.region; rank = block_rank (name, r) }) h)
block_named _ k h = cc

pub nodes_named : NameOwners rank_order.ghosts.cmp node_keys (λ k. cell.Node k.id.0)
nodes_named c x k h = node_named (c, x) k h

pub types_named : NameOwners type_order.ghosts.cmp type_keys (λ k. cell.Node k.rank.id.0)
types_named c x k h = type_named (c, x) k h

pub terms_named : NameOwners term_order.ghosts.cmp term_keys (λ k. cell.Node k.rank.id.0)
terms_named c x k h = term_named (c, x) k h

pub parents_named : NameOwners parent_order.ghosts.cmp parent_keys (λ k. cell.Term k.id)
parents_named c x k h = parent_named (c, x) k h

pub comments_named : NameOwners comment_order.ghosts.cmp comment_keys (λ k. cell.Comment k.id)
comments_named c x k h = comment_named (c, x) k h

pub blocks_named : NameOwners block_order.ghosts.cmp block_keys (λ k. cell.Block k.rank.name)
blocks_named c x k h = block_named (c, x) k h
