-- The rules of a site, said of the map from cells to rows, in which no order of rows is left.
use Rattle.std.proofs.Common.{◌≡◌, ◌<◌, ◌≤◌, ◌+◌, inl, inr, ◌∙◌, ℕ, List, [], ◌∷◌, true, false, refl, sym, ap, subst, arith, length}
use Rattle.std.specs.Prelude.{Bool, Option, Some, None, ◌||◌, ◌&&◌, not, ◌==◌, ◌++◌, is_none, is_some, option_and_then, option_map, if◌then◌else◌, nat_le, Contains}
use Rattle.std.specs.List.{AllByRecursion, filter, filter_map}
use Rattle.std.specs.Option.{option_map_or}
use Rattle.std.specs.Ordering.{is_lt, ordering_reverse}
use Rattle.std.specs.Str.{bytes_eq}
use Rattle.std.specs.Cmp.{tied_itself}
use Rattle.std.specs.declared.cmp.Ordering.{Ordering}
use Rattle.std.specs.declared.cmp.Ordering.TheVariants.{Less, Equal, Greater}
use Rattle.std.proofs.lemmas.Bool.{cases_Bool, false_from_ne_true, and_parts, and_left, and_right, or_from, or_right, leb-true, leb-false, le-leb, eq-eqb}
use Rattle.std.proofs.lemmas.Bool.Decides.{eqb_tells}
use Rattle.std.proofs.lemmas.List.Elements.{All-contains, All-contains_itself, All-weaker}
use Rattle.std.proofs.lemmas.Slice.Eq.{bytes_eq-Decides}
use Rattle.content_rows.specs.CellOrder.{cell_cmp}
use Rattle.content_rows.specs.Permission.{anonymous, authenticated}
use Rattle.content_rows.specs.ValidRow.{IsValidRow}
use Rattle.content_rows.proofs.CellLemmas.{cell_cmp_exact, cell_cmp_total}
use Rattle.content_rows.specs.declared.cell.Cell.{Cell}
use Rattle.content_rows.specs.declared.cell.Cell.TheVariants as cell
use Rattle.content_rows.specs.declared.row.Row.{Row}
use Rattle.content_rows.specs.declared.row.Row.TheVariants as row
use Rattle.content_rows.specs.declared.row.Seq.{Seq}
use Rattle.content_rows.specs.declared.row.User.{User}
use Rattle.content_rows.specs.declared.row.Term.{Term}
use Rattle.content_rows.specs.declared.row.Node.{Node}
use Rattle.content_rows.specs.declared.row.Listing.{Listing}
use Rattle.content_rows.specs.declared.row.Session.{Session}
use Rattle.content_rows.specs.declared.row.Comment.{Comment}
use Rattle.content_rows.specs.declared.row.Talk.{Talk}
use Rattle.indexed_rows.specs.Rows.{row_at, as_site, as_seq, as_type, as_role, as_user, as_term, as_node, as_listing, as_session, as_comment, as_talk, site_of, seq_of, type_of, role_of, user_of, term_of, node_of, listing_of, session_of, comment_of, comments_on, talk_of, InOrder, AreValidRows}
use Rattle.content_state.specs.Chain.{is_longer, parent_in, reply_in}
use Rattle.content_state.specs.declared.site_rules.SiteRule.{SiteRule}
use Rattle.content_state.specs.declared.site_rules.SiteField.{SiteField}
use Rattle.content_state.specs.declared.site_rules.SiteRule.TheVariants as rule
use Rattle.content_state.specs.declared.site_rules.SiteField.TheVariants as field
use Rattle.content_state.specs.declared.site_rules.Numbered.{Numbered}
use Rattle.content_state.specs.declared.site_rules.Numbered.TheVariants as numbered
use Rattle.indexed_rows.specs.declared.unique.Unique.{Unique}
use Rattle.indexed_rows.specs.declared.unique.Unique.TheVariants as unique
use Rattle.indexed_rows.specs.Texts.{text_of, is_text}
use Rattle.content_state.specs.SiteRules.{first_broken, is_id_from, has_id_from, taken, is_absent, is_no_comment_of, seq_tests, user_tests, term_tests, node_tests, listing_tests, session_tests, comment_tests, talk_tests, seq_fault, user_fault, term_fault, node_fault, listing_fault, session_fault, comment_fault, talk_fault, MeetsSiteRules}
use Rattle.state_commits.proofs.Covered.{comment_on}
use Rattle.state_commits.proofs.Owners.{is_found, is_held}
use Rattle.valid_edits.specs.Named.{user_cells, parent_cells, named_cells}
use Rattle.valid_edits.specs.Fits.{next_comment, next_id, is_absent_user, is_locked_role}
use Rattle.valid_edits.proofs.Rows.{clash, some_passes, it_passes, text_is, is_text_of}
pub use Rattle.valid_edits.proofs.Rows.{is_seq, is_user, is_term, is_node, is_listing, is_session, is_comment, is_talk}
use Rattle.valid_edits.proofs.Parents.{Tree, Terms, Replies, AreShort, short_alone}
use Rattle.valid_edits.proofs.Counts.{gathered_on, is_before, not_itself, fewer_pass, gathered_held, on_own, last_of, few_by_last}

-- a cell has a row
abbrev pub IsThere : (Cell → Option Row) → Cell → Type 0
IsThere at c = is_some (at c) ≡ true

-- the id of a comment that is next, where there is one
abbrev pub talk_at : (Cell → Option Row) → Option Talk
talk_at at = option_and_then as_talk (at cell.Talk)

-- an id is below the one of its kind that is to be given next
abbrev pub IsBelow : Seq → Option Talk → Cell → Type 0
IsBelow seq talk (cell.Node n) = n < seq.node
IsBelow seq talk (cell.Term n) = n < seq.term
IsBelow seq talk (cell.User n) = n < seq.user
IsBelow seq talk (cell.Comment n) = n < next_comment talk
IsBelow seq talk _ = Unit {0}

-- what a row names is there
abbrev pub NamesThere : (Cell → Option Row) → Row → Type 0
NamesThere at r = AllByRecursion (IsThere at) (named_cells r)

-- the node of a comment that is there
abbrev pub node_at : (Cell → Option Row) → ℕ → Option ℕ
node_at at id = option_map (λ c. c.node) (option_and_then as_comment (at (cell.Comment id)))

-- a comment's parent is of its node
abbrev pub IsThreaded : (Cell → Option Row) → Row → Type 0
IsThreaded at (row.Comment r) = (id : ℕ) → r.parent ≡ Some id → node_at at id ≡ Some r.node
IsThreaded at _ = Unit {0}

-- the rows are each right by itself, and all of them are together
pub record IsTogether (at : Cell → Option Row) : Type 0 where
  pub right : (c : Cell) (r : Row) → at c ≡ Some r → IsValidRow c r
  pub site : IsThere at cell.Site
  pub seq : Seq
  pub seq_at : at cell.Seq ≡ Some (row.Seq seq)
  pub visitors : IsThere at (cell.Role anonymous)
  pub members : IsThere at (cell.Role authenticated)
  pub given : (c : Cell) (r : Row) → at c ≡ Some r → IsBelow seq (talk_at at) c
  pub named : (c : Cell) (r : Row) → at c ≡ Some r → NamesThere at r
  pub threaded : (c : Cell) (r : Row) → at c ≡ Some r → IsThreaded at r
  pub short : (tree : Tree) → AreShort tree at
  pub alone : (what : Unique) (c d : Cell) (r q : Row) (t : List ℕ) → at c ≡ Some r → at d ≡ Some q → text_of what r ≡ Some t → text_of what q ≡ Some t → c ≡ d

-- no node has more than 1,000 comments
abbrev pub AreFew : List (Cell × Row) → Type 0
AreFew rows = (n : ℕ) → length (comments_on rows n) ≤ 1000

-- ---- rows of a kind

-- what is found of a kind is a row that is there
pub there_of : {X : Type 0} (pick : Row → Option X) (o : Option Row) → is_none (option_and_then pick o) ≡ false → is_some o ≡ true
there_of pick None h = cc
there_of pick (Some r) h = refl

-- a row that is there is found as its kind
picked : {X : Type 0} (pick : Row → Option X) (o : Option Row) → ((r : Row) → o ≡ Some r → is_none (pick r) ≡ false) → is_some o ≡ true → is_none (option_and_then pick o) ≡ false
picked pick None kind h = cc
picked pick (Some r) kind h = kind r refl

site_kind : (r : Row) → IsValidRow cell.Site r → is_none (as_site r) ≡ false
site_kind (row.Site r) h = refl
site_kind _ h = absurd h

type_kind : (name : List ℕ) (r : Row) → IsValidRow (cell.NodeType name) r → is_none (as_type r) ≡ false
type_kind name (row.NodeType r) h = refl
type_kind name _ h = absurd h

role_kind : (name : List ℕ) (r : Row) → IsValidRow (cell.Role name) r → is_none (as_role r) ≡ false
role_kind name (row.Role r) h = refl
role_kind name _ h = absurd h

user_kind : (id : ℕ) (r : Row) → IsValidRow (cell.User id) r → is_none (as_user r) ≡ false
user_kind id (row.User r) h = refl
user_kind id _ h = absurd h

term_kind : (id : ℕ) (r : Row) → IsValidRow (cell.Term id) r → is_none (as_term r) ≡ false
term_kind id (row.Term r) h = refl
term_kind id _ h = absurd h

node_kind : (id : ℕ) (r : Row) → IsValidRow (cell.Node id) r → is_none (as_node r) ≡ false
node_kind id (row.Node r) h = refl
node_kind id _ h = absurd h

-- a parent that is named is there
pub parent_there : (rows : List (Cell × Row)) (parent : Option ℕ) → is_absent (term_of rows) parent ≡ false → (id : ℕ) → parent ≡ Some id → IsThere (row_at rows) (cell.Term id)
parent_there rows None present id is = cc
parent_there rows (Some above) present id is =
    let same : above ≡ id = cc in subst (λ k. IsThere (row_at rows) (cell.Term k)) same (there_of as_term (row_at rows (cell.Term above)) present)

-- ---- what rows name

pub all_both : (P : Cell → Type 0) (cs ds : List Cell) → AllByRecursion P cs → AllByRecursion P ds → AllByRecursion P (cs ++ ds)
all_both P [] ds first second = second
all_both P (c ∷ cs) ds first second = (first.0, all_both P cs ds first.1 second)

all_before : (P : Cell → Type 0) (cs ds : List Cell) → AllByRecursion P (cs ++ ds) → AllByRecursion P cs
all_before P [] ds all = tt
all_before P (c ∷ cs) ds all = (all.0, all_before P cs ds all.1)

module _ (at : Cell → Option Row) where
  pub user_named : (uid : ℕ) → ((uid == 0) ≡ false → IsThere at (cell.User uid)) → AllByRecursion (IsThere at) (user_cells uid)
  user_named uid there = elim (cases_Bool (uid == 0)) as (λ _. AllByRecursion (IsThere at) (user_cells uid)) [
    | inl nobody ↦ subst (λ b. AllByRecursion (IsThere at) (if b then [] else cell.User uid ∷ [])) (sym nobody) tt
    | inr other ↦ subst (λ b. AllByRecursion (IsThere at) (if b then [] else cell.User uid ∷ [])) (sym other) (there other, tt)
  ]

  pub named_user : (uid : ℕ) → AllByRecursion (IsThere at) (user_cells uid) → (uid == 0) ≡ false → IsThere at (cell.User uid)
  named_user uid all other = (subst (λ b. AllByRecursion (IsThere at) (if b then [] else cell.User uid ∷ [])) other all).0

  pub parent_named : (of : ℕ → Cell) (parent : Option ℕ) → ((id : ℕ) → parent ≡ Some id → IsThere at (of id)) → AllByRecursion (IsThere at) (parent_cells of parent)
  parent_named of None there = tt
  parent_named of (Some id) there = (there id refl, tt)

  pub named_parent : (of : ℕ → Cell) (parent : Option ℕ) → AllByRecursion (IsThere at) (parent_cells of parent) → (id : ℕ) → parent ≡ Some id → IsThere at (of id)
  named_parent of None all id is = cc
  named_parent of (Some above) all id is = let same : above ≡ id = cc in subst (λ k. IsThere at (of k)) same all.0

  -- a comment names its node, its user and its parent
  pub comment_named : (r : Comment) → IsThere at (cell.Node r.node) → ((r.uid == 0) ≡ false → IsThere at (cell.User r.uid))
      → ((id : ℕ) → r.parent ≡ Some id → IsThere at (cell.Comment id)) → NamesThere at (row.Comment r)
  comment_named r node owner parent = (
    node,
    all_both (IsThere at) (user_cells r.uid) (parent_cells cell.Comment r.parent) (user_named r.uid owner) (parent_named cell.Comment r.parent parent),
  )

  pub comment_owner : (r : Comment) → NamesThere at (row.Comment r) → (r.uid == 0) ≡ false → IsThere at (cell.User r.uid)
  comment_owner r named = named_user r.uid (all_before (IsThere at) (user_cells r.uid) (parent_cells cell.Comment r.parent) named.1)

  -- the parent of a comment that is there is one
  pub replied_there : (id n : ℕ) → node_at at id ≡ Some n → IsThere at (cell.Comment id)
  replied_there id n on = go (at (cell.Comment id)) on
    where
      go : (o : Option Row) → option_map (λ c. c.node) (option_and_then as_comment o) ≡ Some n → is_some o ≡ true
      go None h = cc
      go (Some r) h = refl

-- a comment of a node, told by the test of a parent
of_node : (o : Option Comment) (n : ℕ) → not (option_map_or (λ c. c.node == n) o false) ≡ false → option_map (λ c. c.node) o ≡ Some n
of_node None n h = cc
of_node (Some c) n h = elim (eqb_tells c.node n) as (λ _. Some c.node ≡ Some n) [
  | inl is ↦ ap Some is.1
  | inr is ↦ clash (ap not is.0) h
]

is_of_node : (o : Option Comment) (n : ℕ) → option_map (λ c. c.node) o ≡ Some n → not (option_map_or (λ c. c.node == n) o false) ≡ false
is_of_node None n h = cc
is_of_node (Some c) n h = let same : c.node ≡ n = cc in ap not (eq-eqb c.node n same)

pub reply_on : (rows : List (Cell × Row)) (n : ℕ) (parent : Option ℕ) → is_no_comment_of rows n parent ≡ false → (id : ℕ) → parent ≡ Some id → node_at (row_at rows) id ≡ Some n
reply_on rows n None present id is = cc
reply_on rows n (Some above) present id is =
    let same : above ≡ id = cc in subst (λ k. node_at (row_at rows) k ≡ Some n) same (of_node (comment_of rows above) n present)

pub on_reply : (rows : List (Cell × Row)) (n : ℕ) (parent : Option ℕ) → ((id : ℕ) → parent ≡ Some id → node_at (row_at rows) id ≡ Some n) → is_no_comment_of rows n parent ≡ false
on_reply rows n None on = refl
on_reply rows n (Some id) on = is_of_node (comment_of rows id) n (on id refl)

-- ---- tests

abbrev Tests : Type 0
Tests = List (Bool × SiteRule × SiteField)

abbrev NoneBroken : Tests → Type 0
NoneBroken [] = Unit {0}
NoneBroken (r ∷ rs) = (r.0 ≡ false) × NoneBroken rs

not_broken : (rs : Tests) → first_broken rs ≡ None → NoneBroken rs
not_broken [] h = tt
not_broken ((true, what, by) ∷ rs) h = cc
not_broken ((false, what, by) ∷ rs) h = (refl, not_broken rs h)

none_broken : (rs : Tests) → NoneBroken rs → first_broken rs ≡ None
none_broken [] h = refl
none_broken (r ∷ rs) h = ap (λ b. if b then Some (r.1, r.2) else first_broken rs) h.0 ∙ none_broken rs h.1

-- the settings are to be there, and so are the two roles that every viewer or every user has
abbrev site_tests : List (Cell × Row) → Tests
site_tests rows = (is_none (site_of rows), rule.Missing, field.Cell) ∷ []

abbrev role_tests : List (Cell × Row) → List ℕ → Tests
role_tests rows name = (is_locked_role name && is_none (role_of rows name), rule.Missing, field.Cell) ∷ []

-- ---- ids

-- an id that isn't below the next one, by its kind
id_from : (kind : Numbered) (seq : Seq) (talk : Option Talk) (c : Cell) → is_id_from kind (next_id kind seq talk) c ≡ true → IsBelow seq talk c → ⊥
id_from numbered.Node seq talk (cell.Node n) h below = let le = leb-true seq.node n h in omega arith
id_from numbered.Term seq talk (cell.Term n) h below = let le = leb-true seq.term n h in omega arith
id_from numbered.User seq talk (cell.User n) h below = let le = leb-true seq.user n h in omega arith
id_from numbered.Comment seq talk (cell.Comment n) h below = let le = leb-true (next_comment talk) n h in omega arith
id_from _ seq talk _ h below = cc

-- an id from a number on is one from each lesser number on
from_less : (kind : Numbered) (low next : ℕ) (c : Cell) → low ≤ next → is_id_from kind next c ≡ true → is_id_from kind low c ≡ true
from_less numbered.Node low next (cell.Node n) le h = let more = leb-true next n h in le-leb low n (omega arith)
from_less numbered.Term low next (cell.Term n) le h = let more = leb-true next n h in le-leb low n (omega arith)
from_less numbered.User low next (cell.User n) le h = let more = leb-true next n h in le-leb low n (omega arith)
from_less numbered.Comment low next (cell.Comment n) le h = let more = leb-true next n h in le-leb low n (omega arith)
from_less _ low next _ le h = cc

-- where no id of any kind is from the next one on, each is below it
pub record NoneFrom (seq : Seq) (talk : Option Talk) (c : Cell) : Type 0 where
  pub node : is_id_from numbered.Node seq.node c ≡ false
  pub term : is_id_from numbered.Term seq.term c ≡ false
  pub user : is_id_from numbered.User seq.user c ≡ false
  pub comment : is_id_from numbered.Comment (next_comment talk) c ≡ false

pub below_next : (seq : Seq) (talk : Option Talk) (c : Cell) → NoneFrom seq talk c → IsBelow seq talk c
below_next seq talk (cell.Node n) none = leb-false seq.node n none.node
below_next seq talk (cell.Term n) none = leb-false seq.term n none.term
below_next seq talk (cell.User n) none = leb-false seq.user n none.user
below_next seq talk (cell.Comment n) none = leb-false (next_comment talk) n none.comment
below_next seq talk _ none = tt

pub not_from : (kind : Numbered) (next : ℕ) (rows : List (Cell × Row)) (c : Cell) (r : Row) → has_id_from rows kind next ≡ false → row_at rows c ≡ Some r → is_id_from kind next c ≡ false
not_from kind next rows c r none at = false_from_ne_true _ (λ from. clash (it_passes (λ e. is_id_from kind next e.0) rows c r at from) none)

pub none_from : (seq : Seq) (talk : Option Talk) (rows : List (Cell × Row))
    → has_id_from rows numbered.Node seq.node ≡ false → has_id_from rows numbered.Term seq.term ≡ false → has_id_from rows numbered.User seq.user ≡ false
    → has_id_from rows numbered.Comment (next_comment talk) ≡ false
    → (c : Cell) (r : Row) → row_at rows c ≡ Some r → NoneFrom seq talk c
none_from seq talk rows node term user comment c r at = record {
  node = not_from numbered.Node seq.node rows c r node at;
  term = not_from numbered.Term seq.term rows c r term at;
  user = not_from numbered.User seq.user rows c r user at;
  comment = not_from numbered.Comment (next_comment talk) rows c r comment at;
}

-- ---- the cell of a row by its kind

node_cell : (d : Cell) (r : Node) → IsValidRow d (row.Node r) → (n : ℕ) × (d ≡ cell.Node n)
node_cell (cell.Node n) r h = (n, refl)
node_cell _ r h = absurd h

user_cell : (d : Cell) (r : User) → IsValidRow d (row.User r) → (n : ℕ) × (d ≡ cell.User n)
user_cell (cell.User n) r h = (n, refl)
user_cell _ r h = absurd h

pub term_cell : (d : Cell) (r : Term) → IsValidRow d (row.Term r) → (n : ℕ) × (d ≡ cell.Term n)
term_cell (cell.Term n) r h = (n, refl)
term_cell _ r h = absurd h

listing_cell : (d : Cell) (r : Listing) → IsValidRow d (row.Listing r) → (n : List ℕ) × (d ≡ cell.Listing n)
listing_cell (cell.Listing n) r h = (n, refl)
listing_cell _ r h = absurd h

session_cell : (d : Cell) (r : Session) → IsValidRow d (row.Session r) → (token : List ℕ) × (d ≡ cell.Session token)
session_cell (cell.Session token) r h = (token, refl)
session_cell _ r h = absurd h

pub comment_cell : (d : Cell) (r : Comment) → IsValidRow d (row.Comment r) → (n : ℕ) × (d ≡ cell.Comment n)
comment_cell (cell.Comment n) r h = (n, refl)
comment_cell _ r h = absurd h

-- ---- rows in order

module _ (rows : List (Cell × Row)) (sorted : InOrder rows) where
  -- no row before has the text
  abbrev IsUntaken : Cell → Unique → Option (List ℕ) → Type 0
  IsUntaken c what text = taken rows c what text ≡ false

  -- ---- from the rules to the map

  module _ (valid : AreValidRows rows) (meets : MeetsSiteRules rows) where
    right_at : (c : Cell) (r : Row) → row_at rows c ≡ Some r → IsValidRow c r
    right_at c r at = All-contains (λ e. IsValidRow e.0 e.1) rows (c, r) valid (is_held rows c r at)

    user_tested : (id : ℕ) (r : User) → row_at rows (cell.User id) ≡ Some (row.User r) → NoneBroken (user_tests rows (cell.User id) r)
    user_tested id r at = not_broken (user_tests rows (cell.User id) r) (sym (ap (λ (o : Option Row). user_fault rows (cell.User id) (option_and_then as_user o)) at) ∙ meets (cell.User id))

    term_tested : (id : ℕ) (r : Term) → row_at rows (cell.Term id) ≡ Some (row.Term r) → NoneBroken (term_tests rows (cell.Term id) id r)
    term_tested id r at = not_broken (term_tests rows (cell.Term id) id r) (sym (ap (λ (o : Option Row). term_fault rows (cell.Term id) id (option_and_then as_term o)) at) ∙ meets (cell.Term id))

    node_tested : (id : ℕ) (r : Node) → row_at rows (cell.Node id) ≡ Some (row.Node r) → NoneBroken (node_tests rows (cell.Node id) r)
    node_tested id r at = not_broken (node_tests rows (cell.Node id) r) (sym (ap (λ (o : Option Row). node_fault rows (cell.Node id) (option_and_then as_node o)) at) ∙ meets (cell.Node id))

    listing_tested : (name : List ℕ) (r : Listing) → row_at rows (cell.Listing name) ≡ Some (row.Listing r) → NoneBroken (listing_tests rows (cell.Listing name) r)
    listing_tested name r at = not_broken (listing_tests rows (cell.Listing name) r) (sym (ap (λ (o : Option Row). listing_fault rows (cell.Listing name) (option_and_then as_listing o)) at) ∙ meets (cell.Listing name))

    session_tested : (token : List ℕ) (r : Session) → row_at rows (cell.Session token) ≡ Some (row.Session r) → NoneBroken (session_tests rows r)
    session_tested token r at = not_broken (session_tests rows r) (sym (ap (λ (o : Option Row). session_fault rows (option_and_then as_session o)) at) ∙ meets (cell.Session token))

    comment_tested : (id : ℕ) (r : Comment) → row_at rows (cell.Comment id) ≡ Some (row.Comment r) → NoneBroken (comment_tests rows (cell.Comment id) id r)
    comment_tested id r at = not_broken (comment_tests rows (cell.Comment id) id r) (sym (ap (λ (o : Option Row). comment_fault rows (cell.Comment id) id (option_and_then as_comment o)) at) ∙ meets (cell.Comment id))

    -- a text that no two rows may have is tested where it stands
    untaken : (what : Unique) (d : Cell) (r : Row) (t : List ℕ) → row_at rows d ≡ Some r → text_of what r ≡ Some t → IsUntaken d what (Some t)
    untaken unique.NodeUuid d (row.Node r) t at is =
        let k = node_cell d r (right_at d (row.Node r) at) in
        let own = (node_tested k.0 r (subst (λ c. row_at rows c ≡ Some (row.Node r)) k.1 at)).1.1.0 in
        subst (λ o. IsUntaken d unique.NodeUuid o) is (subst (λ c. IsUntaken c unique.NodeUuid (Some r.uuid)) (sym k.1) own)
    untaken unique.TermUuid d (row.Term r) t at is =
        let k = term_cell d r (right_at d (row.Term r) at) in
        let own = (term_tested k.0 r (subst (λ c. row_at rows c ≡ Some (row.Term r)) k.1 at)).1.1.1.0 in
        subst (λ o. IsUntaken d unique.TermUuid o) is (subst (λ c. IsUntaken c unique.TermUuid (Some r.uuid)) (sym k.1) own)
    untaken unique.CommentUuid d (row.Comment r) t at is =
        let k = comment_cell d r (right_at d (row.Comment r) at) in
        let own = (comment_tested k.0 r (subst (λ c. row_at rows c ≡ Some (row.Comment r)) k.1 at)).1.1.1.1.1.1.0 in
        subst (λ o. IsUntaken d unique.CommentUuid o) is (subst (λ c. IsUntaken c unique.CommentUuid (Some r.uuid)) (sym k.1) own)
    untaken unique.UserUuid d (row.User r) t at is =
        let k = user_cell d r (right_at d (row.User r) at) in
        let own = (user_tested k.0 r (subst (λ c. row_at rows c ≡ Some (row.User r)) k.1 at)).0 in
        subst (λ o. IsUntaken d unique.UserUuid o) is (subst (λ c. IsUntaken c unique.UserUuid (Some r.uuid)) (sym k.1) own)
    untaken unique.UserName d (row.User r) t at is =
        let k = user_cell d r (right_at d (row.User r) at) in
        let own = (user_tested k.0 r (subst (λ c. row_at rows c ≡ Some (row.User r)) k.1 at)).1.0 in
        subst (λ o. IsUntaken d unique.UserName o) is (subst (λ c. IsUntaken c unique.UserName (Some r.name)) (sym k.1) own)
    untaken unique.Path d (row.Node r) t at is =
        let k = node_cell d r (right_at d (row.Node r) at) in
        let own = (node_tested k.0 r (subst (λ c. row_at rows c ≡ Some (row.Node r)) k.1 at)).1.1.1.0 in
        subst (λ o. IsUntaken d unique.Path o) is (subst (λ c. IsUntaken c unique.Path r.path) (sym k.1) own)
    untaken unique.Path d (row.Listing r) t at is =
        let k = listing_cell d r (right_at d (row.Listing r) at) in
        let own = (listing_tested k.0 r (subst (λ c. row_at rows c ≡ Some (row.Listing r)) k.1 at)).0 in
        subst (λ o. IsUntaken d unique.Path o) is (subst (λ c. IsUntaken c unique.Path r.path) (sym k.1) own)
    untaken _ d _ t at is = cc

    -- a row that stands before has another text
    not_before : (what : Unique) (c d : Cell) (r q : Row) (t : List ℕ) → row_at rows c ≡ Some r → row_at rows d ≡ Some q → text_of what r ≡ Some t → text_of what q ≡ Some t → cell_cmp c d ≡ Less → ⊥
    not_before what c d r q t at_c at_d of_c of_d less =
        let here : (is_lt (cell_cmp c d) && is_text t (text_of what r)) ≡ true = ap (λ o. is_lt o && is_text t (text_of what r)) less ∙ is_text_of t (text_of what r) of_c in
        clash (it_passes (λ e. is_lt (cell_cmp e.0 d) && is_text t (text_of what e.1)) rows c r at_c here) (untaken what d q t at_d of_d)

    same_by : (what : Unique) (c d : Cell) (r q : Row) (t : List ℕ) → row_at rows c ≡ Some r → row_at rows d ≡ Some q → text_of what r ≡ Some t → text_of what q ≡ Some t → (o : Ordering) → cell_cmp c d ≡ o → c ≡ d
    same_by what c d r q t at_c at_d of_c of_d Less is = absurd (not_before what c d r q t at_c at_d of_c of_d is)
    same_by what c d r q t at_c at_d of_c of_d Equal is = cell_cmp_exact c d is
    same_by what c d r q t at_c at_d of_c of_d Greater is = absurd (not_before what d c q r t at_d at_c of_d of_c (cell_cmp_total.antisymm d c ∙ ap ordering_reverse is))

    -- the ids that are next
    seq_parts : (o : Option Seq) → seq_fault rows o ≡ None → (seq : Seq) × (o ≡ Some seq) × NoneBroken (seq_tests rows seq)
    seq_parts None h = cc
    seq_parts (Some seq) h = (seq, refl, not_broken (seq_tests rows seq) h)

    role_there : (name : List ℕ) → is_locked_role name ≡ true → IsThere (row_at rows) (cell.Role name)
    role_there name locked =
        let one = (not_broken (role_tests rows name) (meets (cell.Role name))).0 in
        there_of as_role (row_at rows (cell.Role name)) (sym (ap (λ b. b && is_none (role_of rows name)) locked) ∙ one)

    owner_there : (uid : ℕ) → is_absent_user rows uid ≡ false → (uid == 0) ≡ false → IsThere (row_at rows) (cell.User uid)
    owner_there uid present other = there_of as_user (row_at rows (cell.User uid)) (sym (ap (λ b. not b && is_none (user_of rows uid)) other) ∙ present)

    -- no id of a comment is from the next one on
    talk_parts : (o : Option Talk) → talk_fault rows o ≡ None → has_id_from rows numbered.Comment (next_comment o) ≡ false
    talk_parts None h =
        let none = (not_broken ((has_id_from rows numbered.Comment 0, rule.Missing, field.Cell) ∷ []) h).0 in
        false_from_ne_true _ (λ found.
        let e = some_passes (λ e. is_id_from numbered.Comment 1 e.0) rows sorted found in
        clash (it_passes (λ e. is_id_from numbered.Comment 0 e.0) rows e.cell e.row e.at (from_less numbered.Comment 0 1 e.cell (omega arith) e.passes)) none)
    talk_parts (Some talk) h = (not_broken (talk_tests rows talk) h).0

    names_there : (c : Cell) (r : Row) → row_at rows c ≡ Some r → NamesThere (row_at rows) r
    names_there c (row.Node r) at =
        let k = node_cell c r (right_at c (row.Node r) at) in
        let tested = node_tested k.0 r (subst (λ d. row_at rows d ≡ Some (row.Node r)) k.1 at) in
        (there_of as_type (row_at rows (cell.NodeType r.node_type)) tested.0, user_named (row_at rows) r.uid (owner_there r.uid tested.1.0))
    names_there c (row.Session r) at =
        let k = session_cell c r (right_at c (row.Session r) at) in
        let tested = session_tested k.0 r (subst (λ d. row_at rows d ≡ Some (row.Session r)) k.1 at) in
        (there_of as_user (row_at rows (cell.User r.uid)) tested.0, tt)
    names_there c (row.Term r) at =
        let k = term_cell c r (right_at c (row.Term r) at) in
        let tested = term_tested k.0 r (subst (λ d. row_at rows d ≡ Some (row.Term r)) k.1 at) in
        parent_named (row_at rows) cell.Term r.parent (parent_there rows r.parent tested.0)
    names_there c (row.Comment r) at =
        let k = comment_cell c r (right_at c (row.Comment r) at) in
        let tested = comment_tested k.0 r (subst (λ d. row_at rows d ≡ Some (row.Comment r)) k.1 at) in
        comment_named (row_at rows) r (there_of as_node (row_at rows (cell.Node r.node)) tested.0) (owner_there r.uid tested.1.0)
        (λ id is. replied_there (row_at rows) id r.node (reply_on rows r.node r.parent tested.1.1.0 id is))
    names_there c _ at = tt

    all_threaded : (c : Cell) (r : Row) → row_at rows c ≡ Some r → IsThreaded (row_at rows) r
    all_threaded c (row.Comment r) at =
        let k = comment_cell c r (right_at c (row.Comment r) at) in
        reply_on rows r.node r.parent (comment_tested k.0 r (subst (λ d. row_at rows d ≡ Some (row.Comment r)) k.1 at)).1.1.0
    all_threaded c _ at = tt

    terms_short : (id : ℕ) (o : Option Term) → term_of rows id ≡ o → is_longer (parent_in rows) 9 id ≡ false
    terms_short id None none = short_alone Terms (row_at rows) id (ap (option_and_then (λ t. t.parent)) none)
    terms_short id (Some r) is = (term_tested id r (is_term (row_at rows (cell.Term id)) r is)).1.1.0

    replies_short : (id : ℕ) (o : Option Comment) → comment_of rows id ≡ o → is_longer (reply_in rows) 9 id ≡ false
    replies_short id None none = short_alone Replies (row_at rows) id (ap (option_and_then (λ c. c.parent)) none)
    replies_short id (Some r) is = (comment_tested id r (is_comment (row_at rows (cell.Comment id)) r is)).1.1.1.1.0

    all_short : (tree : Tree) → AreShort tree (row_at rows)
    all_short Terms id = terms_short id (term_of rows id) refl
    all_short Replies id = replies_short id (comment_of rows id) refl

    -- before the last comment of a node stand fewer than 1,000 others
    pub all_few : AreFew rows
    all_few n = elim (last_of n rows sorted) as (λ _. length (comments_on rows n) ≤ 1000) [
      | inl none ↦ let counted : length (comments_on rows n) ≡ 0 = ap length (gathered_on rows n ∙ none) in omega arith
      | inr last ↦
          let at = is_found rows (cell.Comment last.id) (row.Comment last.comment) sorted last.held in
          let tested = (comment_tested last.id last.comment at).1.1.1.1.1.0 in
          few_by_last (length (filter (is_before last.id) (filter_map (comment_on n) rows))) (length (filter_map (comment_on n) rows)) (length (comments_on rows n))
          (leb-false 1000 (length (filter (is_before last.id) (filter_map (comment_on n) rows)))
          (ap (λ l. nat_le 1000 (length (filter (is_before last.id) l))) (sym (ap (comments_on rows) last.on ∙ gathered_on rows n)) ∙ tested))
          last.all_before (ap length (gathered_on rows n))
    ]

    pub together : IsTogether (row_at rows)
    together =
        let next = seq_parts (seq_of rows) (meets cell.Seq) in
        record {
          right = right_at;
          site = there_of as_site (row_at rows cell.Site) (not_broken (site_tests rows) (meets cell.Site)).0;
          seq = next.0;
          seq_at = is_seq (row_at rows cell.Seq) next.0 next.1;
          visitors = role_there anonymous (ap (λ b. b || bytes_eq anonymous authenticated) ((bytes_eq-Decides anonymous anonymous).1 refl));
          members = role_there authenticated (or_right (bytes_eq authenticated anonymous) (bytes_eq authenticated authenticated) ((bytes_eq-Decides authenticated authenticated).1 refl));
          given = λ c r at. below_next next.0 (talk_of rows) c (none_from next.0 (talk_of rows) rows next.2.0 next.2.1.0 next.2.1.1.0 (talk_parts (talk_of rows) (meets cell.Talk)) c r at);
          named = names_there;
          threaded = all_threaded;
          short = all_short;
          alone = λ what c d r q t at_c at_d of_c of_d. same_by what c d r q t at_c at_d of_c of_d (cell_cmp c d) refl;
        }

  -- ---- from the map to the rules

  module _ (all : IsTogether (row_at rows)) where
    pub right_rows : AreValidRows rows
    right_rows = All-weaker _ (λ e. IsValidRow e.0 e.1) (λ e held. all.right e.0 e.1 (is_found rows e.0 e.1 sorted held)) rows (All-contains_itself rows)

    own_text : (what : Unique) (c : Cell) (r : Row) (t : List ℕ) → row_at rows c ≡ Some r → text_of what r ≡ Some t → IsUntaken c what (Some t)
    own_text what c r t at is = false_from_ne_true _ (λ found.
        let e = some_passes (λ e. is_lt (cell_cmp e.0 c) && is_text t (text_of what e.1)) rows sorted found in
        let parts = and_parts (is_lt (cell_cmp e.cell c)) (is_text t (text_of what e.row)) e.passes in
        let same : e.cell ≡ c = all.alone what e.cell c e.row r t e.at at (text_is t (text_of what e.row) parts.1) is in
        let less : is_lt (cell_cmp c c) ≡ true = subst (λ d. is_lt (cell_cmp d c) ≡ true) same parts.0 in
        clash less (ap is_lt (tied_itself cell_cmp_total c)))

    own_path : (c : Cell) (r : Row) (o : Option (List ℕ)) → row_at rows c ≡ Some r → text_of unique.Path r ≡ o → IsUntaken c unique.Path o
    own_path c r None at is = refl
    own_path c r (Some t) at is = own_text unique.Path c r t at is

    pub no_id_from : (kind : Numbered) (next : ℕ) → next_id kind all.seq (talk_of rows) ≤ next → has_id_from rows kind next ≡ false
    no_id_from kind next le = false_from_ne_true _ (λ found.
        let e = some_passes (λ e. is_id_from kind next e.0) rows sorted found in
        id_from kind all.seq (talk_of rows) e.cell (from_less kind (next_id kind all.seq (talk_of rows)) next e.cell le e.passes) (all.given e.cell e.row e.at))

    pub type_found : (name : List ℕ) → IsThere (row_at rows) (cell.NodeType name) → is_none (type_of rows name) ≡ false
    type_found name there = picked as_type (row_at rows (cell.NodeType name)) (λ r at. type_kind name r (all.right (cell.NodeType name) r at)) there

    role_found : (name : List ℕ) → IsThere (row_at rows) (cell.Role name) → is_none (role_of rows name) ≡ false
    role_found name there = picked as_role (row_at rows (cell.Role name)) (λ r at. role_kind name r (all.right (cell.Role name) r at)) there

    pub user_found : (id : ℕ) → IsThere (row_at rows) (cell.User id) → is_none (user_of rows id) ≡ false
    user_found id there = picked as_user (row_at rows (cell.User id)) (λ r at. user_kind id r (all.right (cell.User id) r at)) there

    pub node_found : (id : ℕ) → IsThere (row_at rows) (cell.Node id) → is_none (node_of rows id) ≡ false
    node_found id there = picked as_node (row_at rows (cell.Node id)) (λ r at. node_kind id r (all.right (cell.Node id) r at)) there

    term_found : (id : ℕ) → IsThere (row_at rows) (cell.Term id) → is_none (term_of rows id) ≡ false
    term_found id there = picked as_term (row_at rows (cell.Term id)) (λ r at. term_kind id r (all.right (cell.Term id) r at)) there

    pub parent_found : (parent : Option ℕ) → ((id : ℕ) → parent ≡ Some id → IsThere (row_at rows) (cell.Term id)) → is_absent (term_of rows) parent ≡ false
    parent_found None there = refl
    parent_found (Some id) there = term_found id (there id refl)

    pub owner_found : (uid : ℕ) → ((uid == 0) ≡ false → IsThere (row_at rows) (cell.User uid)) → is_absent_user rows uid ≡ false
    owner_found uid there = elim (cases_Bool (uid == 0)) as (λ _. is_absent_user rows uid ≡ false) [
      | inl nobody ↦ and_left _ (is_none (user_of rows uid)) (ap not nobody)
      | inr other ↦ and_right (not (uid == 0)) _ (user_found uid (there other))
    ]

    role_rule : (name : List ℕ) → (is_locked_role name && is_none (role_of rows name)) ≡ false
    role_rule name = elim (cases_Bool (bytes_eq name anonymous)) as (λ _. (is_locked_role name && is_none (role_of rows name)) ≡ false) [
      | inl here ↦ and_right _ (is_none (role_of rows name)) (subst (λ n. is_none (role_of rows n) ≡ false) (sym ((bytes_eq-Decides name anonymous).0 here)) (role_found anonymous all.visitors))
      | inr other ↦ elim (cases_Bool (bytes_eq name authenticated)) as (λ _. (is_locked_role name && is_none (role_of rows name)) ≡ false) [
        | inl here ↦ and_right _ (is_none (role_of rows name)) (subst (λ n. is_none (role_of rows n) ≡ false) (sym ((bytes_eq-Decides name authenticated).0 here)) (role_found authenticated all.members))
        | inr neither ↦ and_left _ (is_none (role_of rows name)) (or_from _ _ other neither)
      ]
    ]

    seq_rule : (o : Option Seq) → o ≡ Some all.seq → seq_fault rows o ≡ None
    seq_rule None is = cc
    seq_rule (Some seq) is =
        let same : all.seq ≡ seq = cc in
        subst (λ s. first_broken (seq_tests rows s) ≡ None) same (none_broken (seq_tests rows all.seq) (
          no_id_from numbered.Node all.seq.node (omega arith),
          (no_id_from numbered.Term all.seq.term (omega arith), (no_id_from numbered.User all.seq.user (omega arith), tt)),
        ))

    user_rule : (id : ℕ) (o : Option User) → user_of rows id ≡ o → user_fault rows (cell.User id) o ≡ None
    user_rule id None is = refl
    user_rule id (Some r) is =
        let at = is_user (row_at rows (cell.User id)) r is in
        none_broken (user_tests rows (cell.User id) r) (
          own_text unique.UserUuid (cell.User id) (row.User r) r.uuid at refl,
          (own_text unique.UserName (cell.User id) (row.User r) r.name at refl, tt),
        )

    -- a chain that comes back to itself is a long one
    term_rule : (id : ℕ) (o : Option Term) → term_of rows id ≡ o → term_fault rows (cell.Term id) id o ≡ None
    term_rule id None is = refl
    term_rule id (Some r) is =
        let at = is_term (row_at rows (cell.Term id)) r is in
        none_broken (term_tests rows (cell.Term id) id r) (
          parent_found r.parent (named_parent (row_at rows) cell.Term r.parent (all.named (cell.Term id) (row.Term r) at)),
          (and_left _ _ (all.short Terms id), (all.short Terms id, (own_text unique.TermUuid (cell.Term id) (row.Term r) r.uuid at refl, tt))),
        )

    node_rule : (id : ℕ) (o : Option Node) → node_of rows id ≡ o → node_fault rows (cell.Node id) o ≡ None
    node_rule id None is = refl
    node_rule id (Some r) is =
        let at = is_node (row_at rows (cell.Node id)) r is in
        let named : NamesThere (row_at rows) (row.Node r) = all.named (cell.Node id) (row.Node r) at in
        none_broken (node_tests rows (cell.Node id) r) (
          type_found r.node_type named.0,
          (owner_found r.uid (named_user (row_at rows) r.uid named.1), (own_text unique.NodeUuid (cell.Node id) (row.Node r) r.uuid at refl, (own_path (cell.Node id) (row.Node r) r.path at refl, tt))),
        )

    listing_rule : (name : List ℕ) (o : Option Listing) → listing_of rows name ≡ o → listing_fault rows (cell.Listing name) o ≡ None
    listing_rule name None is = refl
    listing_rule name (Some r) is =
        none_broken (listing_tests rows (cell.Listing name) r) (own_path (cell.Listing name) (row.Listing r) r.path (is_listing (row_at rows (cell.Listing name)) r is) refl, tt)

    session_rule : (token : List ℕ) (o : Option Session) → session_of rows token ≡ o → session_fault rows o ≡ None
    session_rule token None is = refl
    session_rule token (Some r) is =
        none_broken (session_tests rows r) (user_found r.uid (all.named (cell.Session token) (row.Session r) (is_session (row_at rows (cell.Session token)) r is)).0, tt)

    -- a comment that is there doesn't stand before itself
    before_few : AreFew rows → (id : ℕ) (r : Comment) → row_at rows (cell.Comment id) ≡ Some (row.Comment r) → nat_le 1000 (length (filter (is_before id) (comments_on rows r.node))) ≡ false
    before_few few id r at =
        let own : comment_on r.node (cell.Comment id, row.Comment r) ≡ Some (id, r) = on_own r.node id r refl in
        let held : Contains (comments_on rows r.node) (id, r) =
        subst (λ (l : List (ℕ × Comment)). Contains l (id, r)) (sym (gathered_on rows r.node))
        (gathered_held (comment_on r.node) rows (cell.Comment id, row.Comment r) (id, r) (is_held rows (cell.Comment id) (row.Comment r) at) own) in
        let fewer = fewer_pass (is_before id) (comments_on rows r.node) (id, r) held (not_itself id) in
        let most = few r.node in
        false_from_ne_true _ (λ many. let le = leb-true 1000 _ many in omega arith)

    comment_rule : AreFew rows → (id : ℕ) (o : Option Comment) → comment_of rows id ≡ o → comment_fault rows (cell.Comment id) id o ≡ None
    comment_rule few id None is = refl
    comment_rule few id (Some r) is =
        let at = is_comment (row_at rows (cell.Comment id)) r is in
        let named : NamesThere (row_at rows) (row.Comment r) = all.named (cell.Comment id) (row.Comment r) at in
        none_broken (comment_tests rows (cell.Comment id) id r) (
          node_found r.node named.0,
          (
            owner_found r.uid (comment_owner (row_at rows) r named),
            (
              on_reply rows r.node r.parent (all.threaded (cell.Comment id) (row.Comment r) at),
              (and_left _ _ (all.short Replies id), (all.short Replies id, (before_few few id r at, (own_text unique.CommentUuid (cell.Comment id) (row.Comment r) r.uuid at refl, tt)))),
            ),
          ),
        )

    -- without a next id there is no comment: it would have an id below 1
    no_comments : next_comment (talk_of rows) ≡ 1 → (c : Cell) (r : Row) → row_at rows c ≡ Some r → is_id_from numbered.Comment 0 c ≡ true → ⊥
    no_comments next (cell.Comment n) r at from =
        let below : n < next_comment (talk_of rows) = all.given (cell.Comment n) r at in
        let one = some_id n r (all.right (cell.Comment n) r at) in
        omega arith
      where
        some_id : (k : ℕ) (q : Row) → IsValidRow (cell.Comment k) q → 1 ≤ k
        some_id k (row.Comment q) right = right.0.0
        some_id k _ right = absurd right
    no_comments next _ r at from = cc

    talk_rule : (o : Option Talk) → talk_of rows ≡ o → talk_fault rows o ≡ None
    talk_rule None is =
        none_broken ((has_id_from rows numbered.Comment 0, rule.Missing, field.Cell) ∷ []) (
          false_from_ne_true _ (λ found.
              let e = some_passes (λ e. is_id_from numbered.Comment 0 e.0) rows sorted found in
              no_comments (ap next_comment is) e.cell e.row e.at e.passes),
          tt,
        )
    talk_rule (Some talk) is =
        none_broken (talk_tests rows talk) (no_id_from numbered.Comment talk.comment (let next : next_comment (talk_of rows) ≡ talk.comment = ap next_comment is in omega arith), tt)

    pub rules : AreFew rows → MeetsSiteRules rows
    rules few cell.Site =
        none_broken (site_tests rows) (picked as_site (row_at rows cell.Site) (λ r at. site_kind r (all.right cell.Site r at)) all.site, tt)
    rules few cell.Seq = seq_rule (seq_of rows) (ap (option_and_then as_seq) all.seq_at)
    rules few (cell.NodeType name) = refl
    rules few (cell.Role name) = none_broken (role_tests rows name) (role_rule name, tt)
    rules few (cell.User id) = user_rule id (user_of rows id) refl
    rules few (cell.Term id) = term_rule id (term_of rows id) refl
    rules few (cell.Node id) = node_rule id (node_of rows id) refl
    rules few (cell.Menu name) = refl
    rules few (cell.Listing name) = listing_rule name (listing_of rows name) refl
    rules few (cell.Block name) = refl
    rules few (cell.Session token) = session_rule token (session_of rows token) refl
    rules few (cell.Comment id) = comment_rule few id (comment_of rows id) refl
    rules few cell.Talk = talk_rule (talk_of rows) refl
    rules few cell.Head = refl
