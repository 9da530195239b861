-- A valid state stays valid under an edit whose writes fit, and under one that removes rows that may go together.
use Rattle.std.proofs.Common.{◌≡◌, ◌<◌, ◌≤◌, ◌∙◌, ℕ, zero, suc, List, [], ◌∷◌, inl, inr, true, false, refl, sym, ap, subst, arith, length}
use Rattle.std.specs.Prelude.{Option, Some, None, ◌==◌, ◌&&◌, not, cond, is_none, option_and_then, option_map, fold, map, All, Contains}
use Rattle.std.specs.List.{filter_map, cons_option}
use Rattle.std.specs.BTreeMap.{is_at}
use Rattle.std.proofs.lemmas.Bool.{both_ways, or_left, or_right, leb-false}
use Rattle.std.proofs.lemmas.Bool.Decides.{eqb_tells}
use Rattle.std.proofs.lemmas.List.Elements.{All-contains, All-head, All-tail}
use Rattle.std.proofs.lemmas.Slice.Eq.{bytes_eq-Decides}
use Rattle.std.specs.Str.{bytes_eq}
use Rattle.content_rows.specs.CellOrder.{cell_cmp}
use Rattle.content_rows.specs.Permission.{anonymous, authenticated}
use Rattle.content_rows.specs.ValidRow.{IsValidRow}
use Rattle.content_rows.proofs.CellLemmas.{cell_cmp_exact, cell_cmp_total}
use Rattle.content_rows.specs.declared.cell.Cell.{Cell}
use Rattle.content_rows.specs.declared.cell.Cell.TheVariants as cell
use Rattle.content_rows.specs.declared.row.Row.{Row}
use Rattle.content_rows.specs.declared.row.Row.TheVariants as row
use Rattle.content_rows.specs.declared.row.Seq.{Seq}
use Rattle.content_rows.specs.declared.row.User.{User}
use Rattle.content_rows.specs.declared.row.Term.{Term}
use Rattle.content_rows.specs.declared.row.Node.{Node}
use Rattle.content_rows.specs.declared.row.Listing.{Listing}
use Rattle.content_rows.specs.declared.row.Comment.{Comment}
use Rattle.content_rows.specs.declared.row.Talk.{Talk}
use Rattle.content_state.specs.State.{State}
use Rattle.content_state.specs.declared.commit.Commit.{Commit}
use Rattle.indexed_rows.specs.Write.{Write, written, with_row_or_none}
use Rattle.content_state.specs.declared.site_rules.Numbered.{Numbered}
use Rattle.content_state.specs.declared.site_rules.Numbered.TheVariants as numbered
use Rattle.indexed_rows.specs.declared.unique.Unique.TheVariants as unique
use Rattle.indexed_rows.specs.Rows.{row_at, with_row, without_row, as_seq, as_type, as_user, as_node, as_comment, as_talk, seq_of, comment_of, comments_on, talk_of, InOrder}
use Rattle.content_state.specs.Replay.{step}
use Rattle.content_state.specs.SiteRules.{IsValidState}
use Rattle.state_commits.proofs.Entries.{found_put_same, found_put_other, found_cut_same, found_cut_other, ordered_put, ordered_cut}
use Rattle.state_commits.proofs.Covered.{comment_on}
use Rattle.state_commits.proofs.Steps as steps
use Rattle.valid_edits.specs.Holders.{holder}
use Rattle.valid_edits.specs.Fits.{next_id, IsGiven, is_absent_user, is_kept, SeqFits, UserFits, TermFits, NodeFits, CommentFits, Fits, MayGoTogether, FitsOrMayGo, AllFit, KeepsValid, RemovalsKeepValid}
use Rattle.valid_edits.proofs.Rows.{one_cell_or_two}
use Rattle.valid_edits.proofs.Parents.{Tree, Terms, Replies, cell_in, AreShort, among_or_not}
use Rattle.valid_edits.proofs.Counts.{gathered_on, more_put, fewer_cut, still_few}
use Rattle.valid_edits.proofs.Together.{IsThere, IsBelow, talk_at, NamesThere, node_at, IsThreaded, IsTogether, AreFew, there_of, parent_there, user_named, parent_named, comment_named, replied_there, reply_on, not_from, all_few, together, right_rows, rules}
use Rattle.valid_edits.proofs.Holding.{held_here, path_here, IsPlain, has_nothing}
use Rattle.valid_edits.proofs.After.{IsOver, IsWithout, IsAlone, is_loose, threaded_still, found, after_set, after_other, after_loose, threaded_set, short_set, after_removal}

-- the map after a write
pub put_over : (rows : List (Cell × Row)) (c : Cell) (r : Row) → IsOver (row_at rows) c (Some r) (row_at (with_row rows c r))
put_over rows c r = record {
  here = found_put_same cell_cmp cell_cmp_total cell_cmp_exact rows c r;
  elsewhere = λ d other. found_put_other cell_cmp cell_cmp_total cell_cmp_exact rows c r d other;
}

-- and after one that removes a row
gone_here : (rows : List (Cell × Row)) (c d : Cell) → InOrder rows → Contains (c ∷ []) d → row_at (without_row rows c) d ≡ None
gone_here rows c d sorted (zero, l, is) = subst (λ x. row_at (without_row rows c) x ≡ None) is (found_cut_same cell_cmp cell_cmp_total cell_cmp_exact rows c sorted)
gone_here rows c d sorted (suc k, l, is) = absurd (omega arith)

gone_over : (rows : List (Cell × Row)) (c : Cell) → InOrder rows → IsWithout (row_at rows) (c ∷ []) (row_at (without_row rows c))
gone_over rows c sorted = record {
  here = λ d held. gone_here rows c d sorted held;
  elsewhere = λ d other. found_cut_other cell_cmp cell_cmp_total cell_cmp_exact rows c d sorted (λ same. other (0, omega arith, sym same));
}

pub put_in_order : (rows : List (Cell × Row)) (c : Cell) (r : Row) → InOrder rows → InOrder (with_row rows c r)
put_in_order rows c r sorted = ordered_put cell_cmp cell_cmp_total cell_cmp_exact rows c r sorted

gone_in_order : (rows : List (Cell × Row)) (c : Cell) → InOrder rows → InOrder (without_row rows c)
gone_in_order rows c sorted = ordered_cut cell_cmp cell_cmp_total cell_cmp_exact (is_at (cell_cmp c)) rows sorted

-- ---- a row that fits has what is its own alone

user_alone : (rows : List (Cell × Row)) (id : ℕ) (r : User) → UserFits rows id r → IsAlone (row_at rows) (cell.User id) (row.User r)
user_alone rows id r fits unique.UserUuid t is d q at has =
    let same : r.uuid ≡ t = cc in held_here rows (cell.User id) unique.UserUuid t (subst (λ x. holder rows (cell.User id) unique.UserUuid x ≡ None) same fits.uuid) d q at has
user_alone rows id r fits unique.UserName t is d q at has =
    let same : r.name ≡ t = cc in held_here rows (cell.User id) unique.UserName t (subst (λ x. holder rows (cell.User id) unique.UserName x ≡ None) same fits.name) d q at has
user_alone rows id r fits _ t is d q at has = cc

term_alone : (rows : List (Cell × Row)) (id : ℕ) (r : Term) → TermFits rows id r → IsAlone (row_at rows) (cell.Term id) (row.Term r)
term_alone rows id r fits unique.TermUuid t is d q at has =
    let same : r.uuid ≡ t = cc in held_here rows (cell.Term id) unique.TermUuid t (subst (λ x. holder rows (cell.Term id) unique.TermUuid x ≡ None) same fits.uuid) d q at has
term_alone rows id r fits _ t is d q at has = cc

node_alone : (rows : List (Cell × Row)) (id : ℕ) (r : Node) → NodeFits rows id r → IsAlone (row_at rows) (cell.Node id) (row.Node r)
node_alone rows id r fits unique.NodeUuid t is d q at has =
    let same : r.uuid ≡ t = cc in held_here rows (cell.Node id) unique.NodeUuid t (subst (λ x. holder rows (cell.Node id) unique.NodeUuid x ≡ None) same fits.uuid) d q at has
node_alone rows id r fits unique.Path t is d q at has = path_here rows (cell.Node id) r.path t fits.path is d q at has
node_alone rows id r fits _ t is d q at has = cc

listing_alone : (rows : List (Cell × Row)) (name : List ℕ) (r : Listing) → Fits rows (cell.Listing name) (row.Listing r) → IsAlone (row_at rows) (cell.Listing name) (row.Listing r)
listing_alone rows name r fits unique.Path t is d q at has = path_here rows (cell.Listing name) r.path t fits is d q at has
listing_alone rows name r fits _ t is d q at has = cc

comment_alone : (rows : List (Cell × Row)) (id : ℕ) (r : Comment) → CommentFits rows id r → IsAlone (row_at rows) (cell.Comment id) (row.Comment r)
comment_alone rows id r fits unique.CommentUuid t is d q at has =
    let same : r.uuid ≡ t = cc in held_here rows (cell.Comment id) unique.CommentUuid t (subst (λ x. holder rows (cell.Comment id) unique.CommentUuid x ≡ None) same fits.uuid) d q at has
comment_alone rows id r fits _ t is d q at has = cc

plain_alone : (rows : List (Cell × Row)) (c : Cell) (r : Row) → IsPlain r → IsAlone (row_at rows) c r
plain_alone rows c r plain what t is d q at has = absurd (has_nothing r plain what t is)

-- ---- one write

-- no cell of a tree is one of the next ids
tree_or_seq : (tree : Tree) (id : ℕ) → cell_in tree id ≡ cell.Seq → ⊥
tree_or_seq Terms id e = cc
tree_or_seq Replies id e = cc

tree_or_talk : (tree : Tree) (id : ℕ) → cell_in tree id ≡ cell.Talk → ⊥
tree_or_talk Terms id e = cc
tree_or_talk Replies id e = cc

module _ (rows : List (Cell × Row)) (sorted : InOrder rows) (all : IsTogether (row_at rows)) where
  -- a row is set, at a cell of none of the next ids and of no tree
  set_at : (c : Cell) (r : Row) → IsValidRow c r → is_loose c ≡ true → IsBelow all.seq (talk_of rows) c → NamesThere (row_at rows) r → IsThreaded (row_at rows) r → IsAlone (row_at rows) c r
      → IsTogether (row_at (with_row rows c r))
  set_at c r right loose below named threaded own = after_loose (row_at rows) (row_at (with_row rows c r)) c r (put_over rows c r) all right loose below named threaded own

  -- a row that names nothing and has nothing of its own
  set_plain : (c : Cell) (r : Row) → IsValidRow c r → is_loose c ≡ true → IsBelow all.seq (talk_of rows) c → NamesThere (row_at rows) r → IsThreaded (row_at rows) r → IsPlain r → IsTogether (row_at (with_row rows c r))
  set_plain c r right loose below named threaded plain = set_at c r right loose below named threaded (plain_alone rows c r plain)

  -- an id that was given is below the one that is next
  below_seq : (kind : Numbered) (id : ℕ) → IsGiven rows kind id → id < next_id kind all.seq (talk_of rows)
  below_seq kind id given =
      let next : seq_of rows ≡ Some all.seq = ap (option_and_then as_seq) all.seq_at in
      let there : seq_of rows ≡ Some given.seq = given.there in
      let same : given.seq ≡ all.seq = one_seq given.seq all.seq (sym there ∙ next) in
      subst (λ s. id < next_id kind s (talk_of rows)) same given.below
    where
      one_seq : (a b : Seq) → Some a ≡ Some b → a ≡ b
      one_seq a b h = cc

  user_there : (id : ℕ) → is_absent_user rows id ≡ false → (id == 0) ≡ false → IsThere (row_at rows) (cell.User id)
  user_there id present other =
      there_of as_user (row_at rows (cell.User id)) (sym (ap (λ b. not b && is_none (option_and_then as_user (row_at rows (cell.User id)))) other) ∙ present)

  set_seq : (seq : Seq) → IsValidRow cell.Seq (row.Seq seq) → SeqFits rows seq → IsTogether (row_at (with_row rows cell.Seq (row.Seq seq)))
  set_seq seq right fits =
      after_set (row_at rows) after cell.Seq (row.Seq seq) over all right seq over.here
      below_set tt (threaded_set (row_at rows) after cell.Seq (row.Seq seq) over all (λ id e. cc) tt)
      (λ tree. short_set (row_at rows) after cell.Seq (row.Seq seq) over tree (λ id. tree_or_seq tree id) (all.short tree))
      (plain_alone rows cell.Seq (row.Seq seq) tt)
    where
      after : Cell → Option Row
      after = row_at (with_row rows cell.Seq (row.Seq seq))

      over : IsOver (row_at rows) cell.Seq (Some (row.Seq seq)) after
      over = put_over rows cell.Seq (row.Seq seq)

      below_set : (d : Cell) (q : Row) → after d ≡ Some q → IsBelow seq (talk_at after) d
      below_set (cell.Node n) q at = leb-false seq.node n (not_from numbered.Node seq.node rows (cell.Node n) q fits.node (sym (over.elsewhere (cell.Node n) (λ e. cc)) ∙ at))
      below_set (cell.Term n) q at = leb-false seq.term n (not_from numbered.Term seq.term rows (cell.Term n) q fits.term (sym (over.elsewhere (cell.Term n) (λ e. cc)) ∙ at))
      below_set (cell.User n) q at = leb-false seq.user n (not_from numbered.User seq.user rows (cell.User n) q fits.user (sym (over.elsewhere (cell.User n) (λ e. cc)) ∙ at))
      below_set (cell.Comment n) q at =
          subst (λ o. IsBelow all.seq (option_and_then as_talk o) (cell.Comment n)) (sym (over.elsewhere cell.Talk (λ e. cc)))
          (all.given (cell.Comment n) q (sym (over.elsewhere (cell.Comment n) (λ e. cc)) ∙ at))
      below_set _ q at = tt

  set_talk : (talk : Talk) → IsValidRow cell.Talk (row.Talk talk) → Fits rows cell.Talk (row.Talk talk) → IsTogether (row_at (with_row rows cell.Talk (row.Talk talk)))
  set_talk talk right fits =
      after_set (row_at rows) after cell.Talk (row.Talk talk) over all right all.seq (over.elsewhere cell.Seq (λ e. cc) ∙ all.seq_at)
      below_set tt (threaded_set (row_at rows) after cell.Talk (row.Talk talk) over all (λ id e. cc) tt)
      (λ tree. short_set (row_at rows) after cell.Talk (row.Talk talk) over tree (λ id. tree_or_talk tree id) (all.short tree))
      (plain_alone rows cell.Talk (row.Talk talk) tt)
    where
      after : Cell → Option Row
      after = row_at (with_row rows cell.Talk (row.Talk talk))

      over : IsOver (row_at rows) cell.Talk (Some (row.Talk talk)) after
      over = put_over rows cell.Talk (row.Talk talk)

      below_set : (d : Cell) (q : Row) → after d ≡ Some q → IsBelow all.seq (talk_at after) d
      below_set (cell.Node n) q at = all.given (cell.Node n) q (sym (over.elsewhere (cell.Node n) (λ e. cc)) ∙ at)
      below_set (cell.Term n) q at = all.given (cell.Term n) q (sym (over.elsewhere (cell.Term n) (λ e. cc)) ∙ at)
      below_set (cell.User n) q at = all.given (cell.User n) q (sym (over.elsewhere (cell.User n) (λ e. cc)) ∙ at)
      below_set (cell.Comment n) q at =
          subst (λ o. IsBelow all.seq (option_and_then as_talk o) (cell.Comment n)) (sym over.here)
          (leb-false talk.comment n (not_from numbered.Comment talk.comment rows (cell.Comment n) q fits (sym (over.elsewhere (cell.Comment n) (λ e. cc)) ∙ at)))
      below_set _ q at = tt

  -- a term is set, and stands where it is no chain is long
  set_term : (id : ℕ) (r : Term) → IsValidRow (cell.Term id) (row.Term r) → TermFits rows id r → IsTogether (row_at (with_row rows (cell.Term id) (row.Term r)))
  set_term id r right fits =
      after_other (row_at rows) after (cell.Term id) (row.Term r) over all right (λ e. cc) (λ e. cc) (below_seq numbered.Term id fits.given)
      (parent_named (row_at rows) cell.Term r.parent (parent_there rows r.parent fits.parent))
      (threaded_set (row_at rows) after (cell.Term id) (row.Term r) over all (λ k e. cc) tt) shorts (term_alone rows id r fits)
    where
      after : Cell → Option Row
      after = row_at (with_row rows (cell.Term id) (row.Term r))

      over : IsOver (row_at rows) (cell.Term id) (Some (row.Term r)) after
      over = put_over rows (cell.Term id) (row.Term r)

      shorts : (tree : Tree) → AreShort tree after
      shorts Terms = fits.shallow
      shorts Replies = short_set (row_at rows) after (cell.Term id) (row.Term r) over Replies (λ k e. cc) (all.short Replies)

  -- a comment is set, and stays on its node
  set_comment : (id : ℕ) (r : Comment) → IsValidRow (cell.Comment id) (row.Comment r) → CommentFits rows id r → IsTogether (row_at (with_row rows (cell.Comment id) (row.Comment r)))
  set_comment id r right fits =
      after_other (row_at rows) after (cell.Comment id) (row.Comment r) over all right (λ e. cc) (λ e. cc) (below_seq numbered.Comment id fits.given)
      (comment_named (row_at rows) r (there_of as_node (row_at rows (cell.Node r.node)) fits.node) (user_there r.uid fits.owner)
      (λ above is. replied_there (row_at rows) above r.node (own above is)))
      threads shorts (comment_alone rows id r fits)
    where
      after : Cell → Option Row
      after = row_at (with_row rows (cell.Comment id) (row.Comment r))

      over : IsOver (row_at rows) (cell.Comment id) (Some (row.Comment r)) after
      over = put_over rows (cell.Comment id) (row.Comment r)

      own : (above : ℕ) → r.parent ≡ Some above → node_at (row_at rows) above ≡ Some r.node
      own above is = reply_on rows r.node r.parent fits.parent above is

      kept_on : (o : Option Comment) (n : ℕ) → comment_of rows id ≡ o → option_map (λ c. c.node) o ≡ Some n → Some r.node ≡ Some n
      kept_on None n was on = cc
      kept_on (Some old) n was on = ap Some (sym (fits.stays old was)) ∙ on

      stay : (k n : ℕ) → node_at (row_at rows) k ≡ Some n → node_at after k ≡ Some n
      stay k n on = elim (one_cell_or_two (cell.Comment k) (cell.Comment id)) as (λ _. node_at after k ≡ Some n) [
        | inl same ↦
            let number : k ≡ id = cc in
            let here : node_at after k ≡ Some r.node = ap (node_at after) number ∙ ap (λ (o : Option Row). option_map (λ x. x.node) (option_and_then as_comment o)) over.here in
            here ∙ kept_on (comment_of rows id) n refl (sym (ap (node_at (row_at rows)) number) ∙ on)
        | inr other ↦ ap (λ (o : Option Row). option_map (λ x. x.node) (option_and_then as_comment o)) (over.elsewhere (cell.Comment k) other) ∙ on
      ]

      threads : (d : Cell) (q : Row) → after d ≡ Some q → IsThreaded after q
      threads d q at = elim (found (row_at rows) after (cell.Comment id) (row.Comment r) over d q at) as (λ _. IsThreaded after q) [
        | inl new ↦ threaded_still (row_at rows) after stay q (subst (IsThreaded (row_at rows)) (sym new.1) own)
        | inr old ↦ threaded_still (row_at rows) after stay q (all.threaded d q old.1)
      ]

      shorts : (tree : Tree) → AreShort tree after
      shorts Terms = short_set (row_at rows) after (cell.Comment id) (row.Comment r) over Terms (λ k e. cc) (all.short Terms)
      shorts Replies = fits.shallow

  set_fits : (c : Cell) (r : Row) → IsValidRow c r → Fits rows c r → IsTogether (row_at (with_row rows c r))
  set_fits cell.Site (row.Site r) right fits = set_plain cell.Site (row.Site r) right refl tt tt tt tt
  set_fits cell.Seq (row.Seq r) right fits = set_seq r right fits
  set_fits (cell.NodeType name) (row.NodeType r) right fits = set_plain (cell.NodeType name) (row.NodeType r) right refl tt tt tt tt
  set_fits (cell.Role name) (row.Role r) right fits = set_plain (cell.Role name) (row.Role r) right refl tt tt tt tt
  set_fits (cell.User id) (row.User r) right fits =
      set_at (cell.User id) (row.User r) right refl (below_seq numbered.User id fits.given) tt tt (user_alone rows id r fits)
  set_fits (cell.Term id) (row.Term r) right fits = set_term id r right fits
  set_fits (cell.Node id) (row.Node r) right fits =
      set_at (cell.Node id) (row.Node r) right refl (below_seq numbered.Node id fits.given)
      (there_of as_type (row_at rows (cell.NodeType r.node_type)) fits.node_type, user_named (row_at rows) r.uid (user_there r.uid fits.owner)) tt
      (node_alone rows id r fits)
  set_fits (cell.Menu name) (row.Menu r) right fits = set_plain (cell.Menu name) (row.Menu r) right refl tt tt tt tt
  set_fits (cell.Listing name) (row.Listing r) right fits =
      set_at (cell.Listing name) (row.Listing r) right refl tt tt tt (listing_alone rows name r fits)
  set_fits (cell.Block name) (row.Block r) right fits = set_plain (cell.Block name) (row.Block r) right refl tt tt tt tt
  set_fits (cell.Session token) (row.Session r) right fits =
      set_plain (cell.Session token) (row.Session r) right refl tt (there_of as_user (row_at rows (cell.User r.uid)) fits, tt) tt tt
  set_fits (cell.Comment id) (row.Comment r) right fits = set_comment id r right fits
  set_fits cell.Talk (row.Talk r) right fits = set_talk r right fits
  set_fits _ _ right fits = absurd right

  -- ---- rows that are removed

  -- the two roles that every viewer or every user has stay
  visitors_kept : is_kept (cell.Role anonymous) ≡ true
  visitors_kept = or_left (bytes_eq anonymous anonymous) (bytes_eq anonymous authenticated) ((bytes_eq-Decides anonymous anonymous).1 refl)

  members_kept : is_kept (cell.Role authenticated) ≡ true
  members_kept = or_right (bytes_eq authenticated anonymous) (bytes_eq authenticated authenticated) ((bytes_eq-Decides authenticated authenticated).1 refl)

  gone_fits : (cells : List Cell) (after : Cell → Option Row) → IsWithout (row_at rows) cells after → MayGoTogether rows cells → IsTogether after
  gone_fits cells after without may =
      after_removal (row_at rows) after cells without all (stays cell.Site refl) (stays cell.Seq refl) (stays cell.Talk refl)
      (stays (cell.Role anonymous) visitors_kept) (stays (cell.Role authenticated) members_kept) may.unnamed
    where
      stays : (c : Cell) → is_kept c ≡ true → Contains cells c → ⊥
      stays c kept held = both_ways (is_kept c) (All-contains (λ d. is_kept d ≡ false) cells c may.free held) kept

-- ---- how many comments nodes have

-- a row that is no comment changes no number of comments
few_put : (rows : List (Cell × Row)) (c : Cell) (r : Row) (n : ℕ) → comment_on n (c, r) ≡ None → length (comments_on rows n) ≤ 1000 → length (comments_on (with_row rows c r) n) ≤ 1000
few_put rows c r n none few =
    still_few (length (comments_on rows n)) (length (filter_map (comment_on n) rows)) (length (filter_map (comment_on n) (with_row rows c r))) (length (comments_on (with_row rows c r) n)) (length (cons_option (comment_on n (c, r)) []))
    few (ap length (gathered_on rows n)) (more_put (comment_on n) rows c r) (ap (λ o. length (cons_option o [])) none) (ap length (gathered_on (with_row rows c r) n))

set_few : (rows : List (Cell × Row)) (c : Cell) (r : Row) → IsValidRow c r → Fits rows c r → AreFew rows → AreFew (with_row rows c r)
set_few rows (cell.Comment id) (row.Comment r) right fits few n = elim (eqb_tells r.node n) as (λ _. length (comments_on (with_row rows (cell.Comment id) (row.Comment r)) n) ≤ 1000) [
  | inl is ↦ subst (λ m. length (comments_on (with_row rows (cell.Comment id) (row.Comment r)) m) ≤ 1000) is.1 fits.few
  | inr is ↦ few_put rows (cell.Comment id) (row.Comment r) n (ap (λ b. cond {A = Option (ℕ × Comment)} b (Some (id, r)) None) is.0) (few n)
]
set_few rows _ r right fits few n = few_put rows _ r n refl (few n)

-- a row that goes leaves no more
few_gone : (rows : List (Cell × Row)) (c : Cell) → AreFew rows → AreFew (without_row rows c)
few_gone rows c few n =
    no_more (length (comments_on rows n)) (length (filter_map (comment_on n) rows)) (length (filter_map (comment_on n) (without_row rows c))) (length (comments_on (without_row rows c) n))
    (few n) (ap length (gathered_on rows n)) (fewer_cut (comment_on n) (is_at (cell_cmp c)) rows) (ap length (gathered_on (without_row rows c) n))
  where
    no_more : (before first last all : ℕ) → before ≤ 1000 → before ≡ first → last ≤ first → all ≡ last → all ≤ 1000
    no_more before first last all few is less of_all = omega arith

-- ---- all writes

-- rows that are a site
record IsSite (rows : List (Cell × Row)) : Type 0 where
  in_order : InOrder rows
  together : IsTogether (row_at rows)
  few : AreFew rows

one_kept : (rows : List (Cell × Row)) (c : Cell) (new : Option Row) → IsSite rows → FitsOrMayGo rows c new → IsSite (with_row_or_none rows c new)
one_kept rows c None site may = record {
  in_order = gone_in_order rows c site.in_order;
  together = gone_fits rows site.in_order site.together (c ∷ []) (row_at (without_row rows c)) (gone_over rows c site.in_order) may;
  few = few_gone rows c site.few;
}
one_kept rows c (Some r) site fits = record {
  in_order = put_in_order rows c r site.in_order;
  together = set_fits rows site.in_order site.together c r fits.0 fits.1;
  few = set_few rows c r fits.0 fits.1 site.few;
}

all_kept : (rows : List (Cell × Row)) (ws : List Write) → IsSite rows → AllFit rows ws → IsSite (fold written rows ws)
all_kept rows [] site fit = site
all_kept rows (w ∷ ws) site fit = all_kept (written rows w) ws (one_kept rows w.cell w.row site fit.0) fit.1

-- the rows of a valid state
pub valid_together : (state : State) → IsValidState state → IsTogether (row_at state.rows)
valid_together state valid = together state.rows valid.in_order valid.rows valid.together

pub valid_few : (state : State) → IsValidState state → AreFew state.rows
valid_few state valid = all_few state.rows valid.in_order valid.rows valid.together

a_site : (state : State) → IsValidState state → IsSite state.rows
a_site state valid = record { in_order = valid.in_order; together = valid_together state valid; few = valid_few state valid }

-- a state of rows that are a site, whose counts are in order
site_valid : (state : State) (commit : Commit) → IsValidState state → IsSite (fold written state.rows commit.writes) → IsValidState (step state commit)
unfolding step
site_valid state commit valid after = record {
  in_order = after.in_order;
  counts_in_order = (steps.step_in_order state commit (record { rows = valid.in_order; counts = valid.counts_in_order })).counts;
  rows = right_rows (fold written state.rows commit.writes) after.in_order after.together;
  together = rules (fold written state.rows commit.writes) after.in_order after.together after.few;
}

pub kept_valid : KeepsValid
kept_valid state commit valid fit = site_valid state commit valid (all_kept state.rows commit.writes (a_site state valid) fit)

-- ---- rows that go together

abbrev AllRemove : List Write → Type 0
AllRemove ws = All (λ w. w.row ≡ None) ws

-- the map after one removal and some others
module _ (w : Write) (ws : List Write) (rows : List (Cell × Row)) (sorted : InOrder rows) (none : w.row ≡ None) (rest : IsWithout (row_at (written rows w)) (map (λ u. u.cell) ws) (row_at (fold written (written rows w) ws))) where
  still_gone : (d : Cell) → row_at (written rows w) d ≡ None → row_at (fold written (written rows w) ws) d ≡ None
  still_gone d gone = elim (among_or_not d (map (λ u. u.cell) ws)) as (λ _. row_at (fold written (written rows w) ws) d ≡ None) [
    | inl held ↦ rest.here d held
    | inr other ↦ rest.elsewhere d other ∙ gone
  ]

  each_gone : (d : Cell) → Contains (w.cell ∷ map (λ u. u.cell) ws) d → row_at (fold written (written rows w) ws) d ≡ None
  each_gone d (zero, l, is) = still_gone d (subst (λ c. row_at (written rows w) c ≡ None) is (steps.at_its_cell rows w.cell w.row sorted ∙ none))
  each_gone d (suc k, l, is) = rest.here d (k, omega arith, is)

  one_gone : IsWithout (row_at rows) (w.cell ∷ map (λ u. u.cell) ws) (row_at (fold written (written rows w) ws))
  one_gone = record {
    here = each_gone;
    elsewhere = λ d other.
        rest.elsewhere d (λ held. other (suc held.0, (let l = held.1 in omega arith), held.2))
        ∙ steps.elsewhere rows w.cell w.row d sorted (λ same. other (0, omega arith, sym same));
  }

-- and after all
all_gone : (ws : List Write) (rows : List (Cell × Row)) → InOrder rows → AllRemove ws → IsWithout (row_at rows) (map (λ w. w.cell) ws) (row_at (fold written rows ws))
all_gone [] rows sorted removes = record { here = λ d held. absurd (let l = held.1 in omega arith); elsewhere = λ d other. refl }
all_gone (w ∷ ws) rows sorted removes =
    one_gone w ws rows sorted (All-head (λ u. u.row ≡ None) w ws removes)
    (all_gone ws (written rows w) (steps.one_ordered rows w.cell w.row sorted) (All-tail (λ u. u.row ≡ None) w ws removes))

one_fewer : (rows : List (Cell × Row)) (c : Cell) (o : Option Row) → o ≡ None → AreFew rows → AreFew (with_row_or_none rows c o)
one_fewer rows c None is few = few_gone rows c few
one_fewer rows c (Some r) is few = cc

all_fewer : (ws : List Write) (rows : List (Cell × Row)) → AllRemove ws → AreFew rows → AreFew (fold written rows ws)
all_fewer [] rows removes few = few
all_fewer (w ∷ ws) rows removes few =
    all_fewer ws (written rows w) (All-tail (λ u. u.row ≡ None) w ws removes) (one_fewer rows w.cell w.row (All-head (λ u. u.row ≡ None) w ws removes) few)

pub removals_kept : RemovalsKeepValid
removals_kept state commit valid removes may =
    let site = a_site state valid in
    let after = fold written state.rows commit.writes in
    site_valid state commit valid (record {
      in_order = steps.rows_ordered commit.writes state.rows site.in_order;
      together = gone_fits state.rows site.in_order site.together (map (λ w. w.cell) commit.writes) (row_at after) (all_gone commit.writes state.rows site.in_order removes) may;
      few = all_fewer commit.writes state.rows removes site.few;
    })
