-- Keys that share their first field stand together.
use Rattle.std.proofs.Common.{ℕ, List, ◌≡◌, ◌<◌, ◌∙◌, ◌⊎◌, inl, inr, refl, sym, ap, subst, arith, Bool, true, false}
use Rattle.std.specs.Prelude.{Some, nat_lt, if◌then◌else◌}
use Rattle.std.specs.Option.{option_cmp}
use Rattle.std.specs.Ordering.{MatchOrdering, nat_cmp, ordering_then, ordering_reverse}
use Rattle.std.specs.Cmp.{IsTotalOrder, nat_cmp_total, ranks}
use Rattle.std.specs.Cmp.Lexicographic.{slice_cmp, nat_list_cmp_total, options_total}
use Rattle.std.specs.declared.cmp.Ordering.{Ordering}
use Rattle.std.specs.declared.cmp.Ordering.TheVariants.{Less, Equal, Greater}
use Rattle.std.proofs.lemmas.Bool.{le-ltb, ltb-false}
use Rattle.content_rows.specs.declared.row.Region.{Region}
use Rattle.row_keys.specs.declared.rank.TypeKey.{TypeKey}
use Rattle.row_keys.specs.declared.rank.TermKey.{TermKey}
use Rattle.row_keys.specs.declared.rank.ParentKey.{ParentKey}
use Rattle.row_keys.specs.declared.rank.CommentKey.{CommentKey}
use Rattle.row_keys.specs.declared.rank.BlockKey.{BlockKey}
use Rattle.row_keys.specs.contracts.rank.NodeRankOrd.TheImpl as rank_order
use Rattle.row_keys.specs.contracts.rank.BlockRankOrd.TheImpl as block_rank_order
use Rattle.row_keys.specs.contracts.rank.TypeKeyOrd.TheImpl as type_order
use Rattle.row_keys.specs.contracts.rank.TermKeyOrd.TheImpl as term_order
use Rattle.row_keys.specs.contracts.rank.ParentKeyOrd.TheImpl as parent_order
use Rattle.row_keys.specs.contracts.rank.CommentKeyOrd.TheImpl as comment_order
use Rattle.row_keys.specs.contracts.rank.BlockKeyOrd.TheImpl as block_order
use Rattle.row_keys.specs.Keys.{region_place}

-- what is below by two fields in turn is below or level by the first
pub by_first : (r s : Ordering) → ordering_then r s ≡ Less → (r ≡ Less) ⊎ (r ≡ Equal)
by_first Less s h = inl refl
by_first Equal s h = inr refl
by_first Greater s h = cc

module _ {F : Type 0} {R : F → F → Ordering} (o : IsTotalOrder R) where
  pub behind : (s a b : F) → (R a b ≡ Less) ⊎ (R a b ≡ Equal) → R s a ≡ Less → R s b ≡ Less
  behind s a b (inl less) h = o.trans s a b h less
  behind s a b (inr level) h = o.antisymm s b ∙ ap ordering_reverse (o.congr b a s (o.antisymm b a ∙ ap ordering_reverse level) ∙ o.antisymm a s ∙ ap ordering_reverse h)

  pub before : (s a b : F) → (R a b ≡ Less) ⊎ (R a b ≡ Equal) → R s b ≡ Greater → R s a ≡ Greater
  before s a b (inl less) h = o.antisymm s a ∙ ap ordering_reverse (o.trans a b s less (o.antisymm b s ∙ ap ordering_reverse h))
  before s a b (inr level) h = o.antisymm s a ∙ ap ordering_reverse (o.congr a b s level ∙ o.antisymm b s ∙ ap ordering_reverse h)

pub term_behind : (s : ℕ) (a b : TermKey) → term_order.ghosts.cmp a b ≡ Less → nat_cmp s a.term ≡ Less → nat_cmp s b.term ≡ Less
term_behind s a b less h = behind nat_cmp_total s a.term b.term (by_first (nat_cmp a.term b.term) (rank_order.ghosts.cmp a.rank b.rank) less) h

pub term_before : (s : ℕ) (a b : TermKey) → term_order.ghosts.cmp a b ≡ Less → nat_cmp s b.term ≡ Greater → nat_cmp s a.term ≡ Greater
term_before s a b less h = before nat_cmp_total s a.term b.term (by_first (nat_cmp a.term b.term) (rank_order.ghosts.cmp a.rank b.rank) less) h

pub type_behind : (s : List ℕ) (a b : TypeKey) → type_order.ghosts.cmp a b ≡ Less → slice_cmp nat_cmp s a.node_type ≡ Less → slice_cmp nat_cmp s b.node_type ≡ Less
type_behind s a b less h = behind nat_list_cmp_total s a.node_type b.node_type (by_first (slice_cmp nat_cmp a.node_type b.node_type) (rank_order.ghosts.cmp a.rank b.rank) less) h

pub type_before : (s : List ℕ) (a b : TypeKey) → type_order.ghosts.cmp a b ≡ Less → slice_cmp nat_cmp s b.node_type ≡ Greater → slice_cmp nat_cmp s a.node_type ≡ Greater
type_before s a b less h = before nat_list_cmp_total s a.node_type b.node_type (by_first (slice_cmp nat_cmp a.node_type b.node_type) (rank_order.ghosts.cmp a.rank b.rank) less) h

pub parent_behind : (s : ℕ) (a b : ParentKey) → parent_order.ghosts.cmp a b ≡ Less → option_cmp nat_cmp (Some s) a.parent ≡ Less → option_cmp nat_cmp (Some s) b.parent ≡ Less
parent_behind s a b less h = behind (options_total nat_cmp_total) (Some s) a.parent b.parent (by_first (option_cmp nat_cmp a.parent b.parent) (nat_cmp a.id b.id) less) h

pub parent_before : (s : ℕ) (a b : ParentKey) → parent_order.ghosts.cmp a b ≡ Less → option_cmp nat_cmp (Some s) b.parent ≡ Greater → option_cmp nat_cmp (Some s) a.parent ≡ Greater
parent_before s a b less h = before (options_total nat_cmp_total) (Some s) a.parent b.parent (by_first (option_cmp nat_cmp a.parent b.parent) (nat_cmp a.id b.id) less) h

pub comment_behind : (s : ℕ) (a b : CommentKey) → comment_order.ghosts.cmp a b ≡ Less → nat_cmp s a.node ≡ Less → nat_cmp s b.node ≡ Less
comment_behind s a b less h = behind nat_cmp_total s a.node b.node (by_first (nat_cmp a.node b.node) (nat_cmp a.id b.id) less) h

pub comment_before : (s : ℕ) (a b : CommentKey) → comment_order.ghosts.cmp a b ≡ Less → nat_cmp s b.node ≡ Greater → nat_cmp s a.node ≡ Greater
comment_before s a b less h = before nat_cmp_total s a.node b.node (by_first (nat_cmp a.node b.node) (nat_cmp a.id b.id) less) h

-- where the comments of a node that are below an id stand beside a key
abbrev pub before_id : Ordering → ℕ → ℕ → Ordering
before_id Equal own id = if nat_lt own id then Equal else Less
before_id Less own id = Less
before_id Greater own id = Greater

abbrev pub beside_part : ℕ → ℕ → CommentKey → Ordering
beside_part node id k = before_id (nat_cmp node k.node) k.id id

nat_level : (a b : ℕ) → nat_cmp a b ≡ Equal → a ≡ b
nat_level a b h = subst (λ r. MatchOrdering r (a < b) (a ≡ b) (b < a)) h (ranks a b)

nat_below : (a b : ℕ) → nat_cmp a b ≡ Less → a < b
nat_below a b h = subst (λ r. MatchOrdering r (a < b) (a ≡ b) (b < a)) h (ranks a b)

still_not : (a b id : ℕ) → a < b → nat_lt a id ≡ false → nat_lt b id ≡ false
still_not a b id less e = let not_below = ltb-false a id e in le-ltb b id (omega arith)

never_above : (t : Bool) → (if t then Equal else Less) ≡ Greater → ⊥
never_above true h = cc
never_above false h = cc

by_id : (t u : Bool) → (t ≡ false → u ≡ false) → (if t then Equal else Less) ≡ Less → (if u then Equal else Less) ≡ Less
by_id true u still h = cc
by_id false u still h = ap (λ t. if t then Equal else Less) (still refl)

abbrev IsNext : CommentKey → CommentKey → Type 0
IsNext a b = (nat_cmp a.node b.node ≡ Less) ⊎ ((a.node ≡ b.node) × (a.id < b.id))

is_next : (a b : CommentKey) (o : Ordering) → nat_cmp a.node b.node ≡ o → ordering_then o (nat_cmp a.id b.id) ≡ Less → IsNext a b
is_next a b Less e h = inl e
is_next a b Equal e h = inr (nat_level a.node b.node e, nat_below a.id b.id h)
is_next a b Greater e h = cc

pub part_behind : (node id : ℕ) (a b : CommentKey) → comment_order.ghosts.cmp a b ≡ Less → beside_part node id a ≡ Less → beside_part node id b ≡ Less
part_behind node id a b less h = on (nat_cmp node a.node) refl h (is_next a b (nat_cmp a.node b.node) refl less)
  where
    below : (nat_cmp node b.node ≡ Less) → beside_part node id b ≡ Less
    below e = ap (λ o. before_id o b.id id) e

    on : (o : Ordering) → nat_cmp node a.node ≡ o → before_id o a.id id ≡ Less → IsNext a b → beside_part node id b ≡ Less
    on Less e h next = below (comment_behind node a b less e)
    on Equal e h (inl up) = below (ap (λ n. nat_cmp n b.node) (nat_level node a.node e) ∙ up)
    on Equal e h (inr same) =
        ap (λ o. before_id o b.id id) (ap (nat_cmp node) (sym same.0) ∙ e)
        ∙ by_id (nat_lt a.id id) (nat_lt b.id id) (still_not a.id b.id id same.1) h
    on Greater e h next = cc

pub part_before : (node id : ℕ) (a b : CommentKey) → comment_order.ghosts.cmp a b ≡ Less → beside_part node id b ≡ Greater → beside_part node id a ≡ Greater
part_before node id a b less h = ap (λ o. before_id o a.id id) (comment_before node a b less (on (nat_cmp node b.node) refl h))
  where
    on : (o : Ordering) → nat_cmp node b.node ≡ o → before_id o b.id id ≡ Greater → nat_cmp node b.node ≡ Greater
    on Less e h = cc
    on Equal e h = absurd (never_above (nat_lt b.id id) h)
    on Greater e h = e

pub region_behind : (s : Region) (a b : BlockKey) → block_order.ghosts.cmp a b ≡ Less → nat_cmp (region_place s) a.region ≡ Less → nat_cmp (region_place s) b.region ≡ Less
region_behind s a b less h = behind nat_cmp_total (region_place s) a.region b.region (by_first (nat_cmp a.region b.region) (block_rank_order.ghosts.cmp a.rank b.rank) less) h

pub region_before : (s : Region) (a b : BlockKey) → block_order.ghosts.cmp a b ≡ Less → nat_cmp (region_place s) b.region ≡ Greater → nat_cmp (region_place s) a.region ≡ Greater
region_before s a b less h = before nat_cmp_total (region_place s) a.region b.region (by_first (nat_cmp a.region b.region) (block_rank_order.ghosts.cmp a.rank b.rank) less) h
