-- Rows that are together stay so after one write, and after some are removed, said of the map from cells to rows.
use Rattle.std.proofs.Common.{◌≡◌, ◌⊎◌, inl, inr, ◌∙◌, ℕ, suc, List, [], ◌∷◌, true, refl, sym, ap, subst, arith}
use Rattle.std.specs.Prelude.{Bool, Option, Some, None, false, is_some, option_and_then, option_map, Contains}
use Rattle.std.specs.List.{AllByRecursion}
use Rattle.std.proofs.lemmas.Bool.{both_ways}
use Rattle.content_rows.specs.Permission.{anonymous, authenticated}
use Rattle.content_rows.specs.ValidRow.{IsValidRow}
use Rattle.content_rows.specs.declared.cell.Cell.{Cell}
use Rattle.content_rows.specs.declared.cell.Cell.TheVariants as cell
use Rattle.content_rows.specs.declared.row.Row.{Row}
use Rattle.content_rows.specs.declared.row.Row.TheVariants as row
use Rattle.content_rows.specs.declared.row.Seq.{Seq}
use Rattle.indexed_rows.specs.Rows.{as_comment, as_talk}
use Rattle.content_state.specs.Chain.{is_longer}
use Rattle.indexed_rows.specs.Texts.{text_of}
use Rattle.indexed_rows.specs.declared.unique.Unique.{Unique}
use Rattle.valid_edits.specs.Named.{named_cells}
use Rattle.valid_edits.proofs.Rows.{one_cell_or_two}
use Rattle.valid_edits.proofs.Parents.{Tree, Terms, Replies, cell_in, parent_of, above_at, AreShort, has_parent, reply_names, among_or_not, short_still, short_alone, short_beside}
use Rattle.valid_edits.proofs.Together.{IsThere, IsBelow, talk_at, NamesThere, node_at, IsThreaded, IsTogether}

-- the map after a write: another row, or none, at the cell, and the same rows elsewhere
pub record IsOver (at : Cell → Option Row) (c : Cell) (new : Option Row) (at' : Cell → Option Row) : Type 0 where
  pub here : at' c ≡ new
  pub elsewhere : (d : Cell) → (d ≡ c → ⊥) → at' d ≡ at d

-- the map after some rows are removed
pub record IsWithout (at : Cell → Option Row) (cells : List Cell) (at' : Cell → Option Row) : Type 0 where
  pub here : (d : Cell) → Contains cells d → at' d ≡ None
  pub elsewhere : (d : Cell) → (Contains cells d → ⊥) → at' d ≡ at d

-- what no two rows may have is the row's alone
abbrev pub IsAlone : (Cell → Option Row) → Cell → Row → Type 0
IsAlone at c r = (what : Unique) (t : List ℕ) → text_of what r ≡ Some t → (d : Cell) (q : Row) → at d ≡ Some q → text_of what q ≡ Some t → d ≡ c

-- a cell of none of the ids that are next, and of none of the trees
abbrev pub is_loose : Cell → Bool
is_loose cell.Seq = false
is_loose cell.Talk = false
is_loose (cell.Term id) = false
is_loose (cell.Comment id) = false
is_loose _ = true

pub apart_from_loose : (c d : Cell) → is_loose c ≡ true → is_loose d ≡ false → d ≡ c → ⊥
apart_from_loose c d loose other same = both_ways (is_loose c) (sym (ap is_loose same) ∙ other) loose

in_tree : (tree : Tree) (id : ℕ) → is_loose (cell_in tree id) ≡ false
in_tree Terms id = refl
in_tree Replies id = refl

-- what is so of each of some cells, where it follows of each of them
pub all_still : {P Q : Cell → Type 0} (cs : List Cell) → ((c : Cell) → Contains cs c → P c → Q c) → AllByRecursion P cs → AllByRecursion Q cs
all_still [] still all = tt
all_still {P = P} {Q = Q} (c ∷ cs) still all =
    (still c (0, omega arith, refl) all.0, all_still {P = P} {Q = Q} cs (λ d held p. still d (suc held.0, (let l = held.1 in omega arith), held.2) p) all.1)

-- where comments of a node stay on it, the parent of a comment does
pub threaded_still : (at at' : Cell → Option Row) → ((id n : ℕ) → node_at at id ≡ Some n → node_at at' id ≡ Some n) → (q : Row) → IsThreaded at q → IsThreaded at' q
threaded_still at at' stay (row.Comment r) threaded = λ id is. stay id r.node (threaded id is)
threaded_still at at' stay _ threaded = tt

module _ (at at' : Cell → Option Row) where
  -- ---- a row is set

  module _ (c : Cell) (r : Row) (over : IsOver at c (Some r) at') where
    -- what is found afterwards is the row, or was there
    pub found : (d : Cell) (q : Row) → at' d ≡ Some q → ((d ≡ c) × (q ≡ r)) ⊎ ((d ≡ c → ⊥) × (at d ≡ Some q))
    found d q h = elim (one_cell_or_two d c) as (λ _. ((d ≡ c) × (q ≡ r)) ⊎ ((d ≡ c → ⊥) × (at d ≡ Some q))) [
      | inl same ↦ inl (same, (let here : at' d ≡ Some r = subst (λ x. at' x ≡ Some r) (sym same) over.here in cc))
      | inr other ↦ inr (other, sym (over.elsewhere d other) ∙ h)
    ]

    -- a cell that had a row still has one
    pub still_there : (d : Cell) → IsThere at d → IsThere at' d
    still_there d there = elim (one_cell_or_two d c) as (λ _. IsThere at' d) [
      | inl same ↦ ap is_some (subst (λ x. at' x ≡ Some r) (sym same) over.here)
      | inr other ↦ subst (λ o. is_some o ≡ true) (sym (over.elsewhere d other)) there
    ]

    still_named : (q : Row) → NamesThere at q → NamesThere at' q
    still_named q named = all_still (named_cells q) (λ d held there. still_there d there) named

    still_alone : IsTogether at → IsAlone at c r → (what : Unique) (d e : Cell) (p q : Row) (t : List ℕ) → at' d ≡ Some p → at' e ≡ Some q → text_of what p ≡ Some t → text_of what q ≡ Some t → d ≡ e
    still_alone all own what d e p q t at_d at_e of_d of_e = elim (found d p at_d) as (λ _. d ≡ e) [
      | inl first ↦ elim (found e q at_e) as (λ _. d ≡ e) [
        | inl second ↦ first.0 ∙ sym second.0
        | inr second ↦ first.0 ∙ sym (own what t (subst (λ x. text_of what x ≡ Some t) first.1 of_d) e q second.1 of_e)
      ]
      | inr first ↦ elim (found e q at_e) as (λ _. d ≡ e) [
        | inl second ↦ own what t (subst (λ x. text_of what x ≡ Some t) second.1 of_e) d p first.1 of_d ∙ sym second.0
        | inr second ↦ all.alone what d e p q t first.1 second.1 of_d of_e
      ]
    ]

    pub after_set : IsTogether at → IsValidRow c r → (seq : Seq) → at' cell.Seq ≡ Some (row.Seq seq)
        → ((d : Cell) (q : Row) → at' d ≡ Some q → IsBelow seq (talk_at at') d) → NamesThere at r
        → ((d : Cell) (q : Row) → at' d ≡ Some q → IsThreaded at' q) → ((tree : Tree) → AreShort tree at') → IsAlone at c r → IsTogether at'
    after_set all right seq seq_at given named threaded short own = record {
      right = λ d q h. elim (found d q h) as (λ _. IsValidRow d q) [
        | inl new ↦ subst (λ x. IsValidRow d x) (sym new.1) (subst (λ x. IsValidRow x r) (sym new.0) right)
        | inr old ↦ all.right d q old.1
      ];
      site = still_there cell.Site all.site;
      seq = seq;
      seq_at = seq_at;
      visitors = still_there (cell.Role anonymous) all.visitors;
      members = still_there (cell.Role authenticated) all.members;
      given = given;
      named = λ d q h. elim (found d q h) as (λ _. NamesThere at' q) [
        | inl new ↦ still_named q (subst (NamesThere at) (sym new.1) named)
        | inr old ↦ still_named q (all.named d q old.1)
      ];
      threaded = threaded;
      short = short;
      alone = still_alone all own;
    }

    -- a row of another cell than those of the next ids, whose own id was given
    pub after_other : (all : IsTogether at) → IsValidRow c r → (cell.Seq ≡ c → ⊥) → (cell.Talk ≡ c → ⊥) → IsBelow all.seq (talk_at at) c → NamesThere at r
        → ((d : Cell) (q : Row) → at' d ≡ Some q → IsThreaded at' q) → ((tree : Tree) → AreShort tree at') → IsAlone at c r → IsTogether at'
    after_other all right no_seq no_talk below named threaded short own =
        let same : talk_at at' ≡ talk_at at = ap (option_and_then as_talk) (over.elsewhere cell.Talk no_talk) in
        after_set all right all.seq (over.elsewhere cell.Seq no_seq ∙ all.seq_at)
        (λ d q h. elim (found d q h) as (λ _. IsBelow all.seq (talk_at at') d) [
          | inl new ↦ subst (λ x. IsBelow all.seq (talk_at at') x) (sym new.0) (subst (λ t. IsBelow all.seq t c) (sym same) below)
          | inr old ↦ subst (λ t. IsBelow all.seq t d) (sym same) (all.given d q old.1)
        ])
        named threaded short own

    -- where the row is no comment, comments stay on their nodes
    pub threaded_set : IsTogether at → ((id : ℕ) → cell.Comment id ≡ c → ⊥) → IsThreaded at r → (d : Cell) (q : Row) → at' d ≡ Some q → IsThreaded at' q
    threaded_set all no_comment own d q h = elim (found d q h) as (λ _. IsThreaded at' q) [
      | inl new ↦ threaded_still at at' stay q (subst (IsThreaded at) (sym new.1) own)
      | inr old ↦ threaded_still at at' stay q (all.threaded d q old.1)
    ]
      where
        stay : (id n : ℕ) → node_at at id ≡ Some n → node_at at' id ≡ Some n
        stay id n on = ap (λ (o : Option Row). option_map (λ x. x.node) (option_and_then as_comment o)) (over.elsewhere (cell.Comment id) (no_comment id)) ∙ on

    -- where the row is none of a tree, the chains of that tree stay
    pub short_set : (tree : Tree) → ((id : ℕ) → cell_in tree id ≡ c → ⊥) → AreShort tree at → AreShort tree at'
    short_set tree outside short = short_still tree at at' (λ id. ap (parent_of tree) (over.elsewhere (cell_in tree id) (outside id))) short

    -- a row of a cell of none of the next ids and of no tree
    pub after_loose : (all : IsTogether at) → IsValidRow c r → is_loose c ≡ true → IsBelow all.seq (talk_at at) c → NamesThere at r → IsThreaded at r → IsAlone at c r → IsTogether at'
    after_loose all right loose below named threaded own =
        after_other all right (apart_from_loose c cell.Seq loose refl) (apart_from_loose c cell.Talk loose refl) below named
        (threaded_set all (λ id. apart_from_loose c (cell.Comment id) loose refl) threaded)
        (λ tree. short_set tree (λ id. apart_from_loose c (cell_in tree id) loose (in_tree tree id)) (all.short tree)) own

  -- ---- rows are removed

  module _ (cells : List Cell) (without : IsWithout at cells at') where
    left : (d : Cell) (q : Row) → at' d ≡ Some q → (Contains cells d → ⊥) × (at d ≡ Some q)
    left d q h = elim (among_or_not d cells) as (λ _. (Contains cells d → ⊥) × (at d ≡ Some q)) [
      | inl held ↦ let gone : at' d ≡ None = without.here d held in cc
      | inr other ↦ (other, sym (without.elsewhere d other) ∙ h)
    ]

    there_left : (d : Cell) → (Contains cells d → ⊥) → IsThere at d → IsThere at' d
    there_left d other there = subst (λ o. is_some o ≡ true) (sym (without.elsewhere d other)) there

    -- no row that stays names one of the cells
    abbrev pub AreUnnamed : Type 0
    AreUnnamed = (d : Cell) (q : Row) → at d ≡ Some q → (Contains cells d → ⊥) → (c : Cell) → Contains (named_cells q) c → Contains cells c → ⊥

    -- where none is named, chains stay
    short_left : (tree : Tree) → AreShort tree at → AreUnnamed → AreShort tree at'
    short_left tree short unnamed id = elim (among_or_not (cell_in tree id) cells) as (λ _. is_longer (above_at tree at') 9 id ≡ false) [
      | inl held ↦ short_alone tree at' id (ap (parent_of tree) (without.here (cell_in tree id) held) ∙ top tree)
      | inr other ↦ short_beside tree at at' cells without.elsewhere none_below short id other
    ]
      where
        top : (t : Tree) → parent_of t None ≡ None
        top Terms = refl
        top Replies = refl

        none_below : (k above : ℕ) → (Contains cells (cell_in tree k) → ⊥) → above_at tree at k ≡ Some above → Contains cells (cell_in tree above) → ⊥
        none_below k above other e held =
            let has = has_parent tree (at (cell_in tree k)) above e in
            unnamed (cell_in tree k) has.found has.there other (cell_in tree above) has.names held

    threaded_left : IsTogether at → AreUnnamed → (d : Cell) (q : Row) → at d ≡ Some q → (Contains cells d → ⊥) → IsThreaded at q → IsThreaded at' q
    threaded_left all unnamed d (row.Comment r) h other threaded = λ id is.
        ap (λ (o : Option Row). option_map (λ x. x.node) (option_and_then as_comment o))
        (without.elsewhere (cell.Comment id) (unnamed d (row.Comment r) h other (cell.Comment id) (reply_names r.node r.uid r.parent id is)))
        ∙ threaded id is
    threaded_left all unnamed d _ h other threaded = tt

    -- where the cells are none of those that have to be there, and no row that stays names one
    pub after_removal : IsTogether at → (Contains cells cell.Site → ⊥) → (Contains cells cell.Seq → ⊥) → (Contains cells cell.Talk → ⊥)
        → (Contains cells (cell.Role anonymous) → ⊥) → (Contains cells (cell.Role authenticated) → ⊥) → AreUnnamed → IsTogether at'
    after_removal all no_site no_seq no_talk no_visitors no_members unnamed = record {
      right = λ d q h. all.right d q (left d q h).1;
      site = there_left cell.Site no_site all.site;
      seq = all.seq;
      seq_at = without.elsewhere cell.Seq no_seq ∙ all.seq_at;
      visitors = there_left (cell.Role anonymous) no_visitors all.visitors;
      members = there_left (cell.Role authenticated) no_members all.members;
      given = λ d q h. subst (λ o. IsBelow all.seq (option_and_then as_talk o) d) (sym (without.elsewhere cell.Talk no_talk)) (all.given d q (left d q h).1);
      named = λ d q h.
          let was = left d q h in
          all_still (named_cells q) (λ c held there. there_left c (unnamed d q was.1 was.0 c held) there) (all.named d q was.1);
      threaded = λ d q h. let was = left d q h in threaded_left all unnamed d q was.1 was.0 (all.threaded d q was.1);
      short = λ tree. short_left tree (all.short tree) unnamed;
      alone = λ what d e p q t at_d at_e of_d of_e. all.alone what d e p q t (left d p at_d).1 (left e q at_e).1 of_d of_e;
    }
