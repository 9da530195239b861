-- What the queries show of a database of the two tables, which they leave as it is.
use Rattle.std.proofs.Common.{inl, inr, ◌≡◌, ℕ, List, [], ◌∷◌, map, true, Option, Some, None, refl, sym, ap, subst, ◌∙◌}
use Rattle.std.proofs.lemmas.Bool.{and_parts, and_from}
use Rattle.sqlite.proofs.Callers.{IsPlain, reads_as}
use Rattle.sqlite.specs.Listing.{understood}
use Rattle.sqlite.specs.Order.{Row, column}
use Rattle.sqlite.specs.Program.{overlay}
use Rattle.sqlite.specs.State.{State, IsUnchanged, Shown}
use Rattle.sqlite.specs.Term.{col}
use Rattle.sqlite.specs.declared.types.Value.{Value}
use Rattle.sqlite.specs.declared.types.Value.TheVariants.{Null, Text}
use Rattle.sqlite_rules.proofs.ProbeLemmas.{has_mapped, mapped_has}
use Rattle.sqlite_rules.specs.Lists.{Has}
use Rattle.sqlite_schema.specs.Rules.{equal}
use Rattle.sqlite_value.specs.declared.keys.Collation.TheVariants.{Binary}
use Rattle.store_six.specs.Tables.{entry_of, AreKeyed, AreAll, AreBeside}
use Rattle.table_laws.proofs.Edits.{entry_parts}
use Rattle.table_laws.proofs.Pairs.{cells_pair, tags_pair}
use Rattle.table_laws.proofs.Picks.{ArePicked, picked}
use Rattle.table_laws.proofs.Texts.{has_key, both_columns, by_key, all_rows_is, all_rows_plain, all_tags_is, all_tags_plain, one_row_is, one_row_plain}
use Rattle.table_laws.proofs.Values.{text_equal, text_itself}
use Rattle.table_laws.specs.Schema.{two_tables, all_rows, all_tags, one_row}
use Rattle.table_laws.specs.Stored.{text_of, bytes_of, stored_entry, shown_entry, cells_of, tags_of, IsStore}

pub unchanged : (sql : List ℕ) (params : Row) (old new : State) → old.now.schema ≡ two_tables → IsPlain (understood two_tables sql) → (rows : List Row) → Shown sql params old new rows → IsUnchanged old new
unfolding Shown
unchanged sql params old new schema plain rows h =
    let known = sym h.1.is ∙ ap (λ s. understood s sql) schema in
    let bare = subst IsPlain (sym known) plain in
    let it = rw (bare.0, bare.1) at h.2 in it.3

-- ---- a whole table

-- no two rows have one key, so no two entries have
keyed_by : (beside : Value → Option (List ℕ)) (rows : List Row) → ((a b : Row) (key : List ℕ) → Has rows a → Has rows b → column a 1 ≡ Text key → column b 1 ≡ Text key → a ≡ b) → AreKeyed (map (stored_entry beside) rows)
keyed_by beside rows once key a b p q =
    let x = has_mapped (stored_entry beside) rows (Some (key, a)) p in
    let y = has_mapped (stored_entry beside) rows (Some (key, b)) q in
    let first = entry_parts beside x.0 (key, a) (sym x.2) in
    let second = entry_parts beside y.0 (key, b) (sym y.2) in
    let same : Some a ≡ Some b = sym first.1 ∙ ap (λ r. beside (column r 2)) (once x.0 y.0 key x.1 y.1 first.0 second.0) ∙ second.1 in
    let is = same in cc

all_shown : (beside : Value → Option (List ℕ)) (rows shown : List Row) → AreKeyed (map (stored_entry beside) rows) → ArePicked [] both_columns rows [] shown
    → AreAll (map (stored_entry beside) rows) (map (shown_entry beside) shown)
all_shown beside rows shown keyed are = record {
  keyed = keyed;
  complete = λ e there.
      let r = has_mapped (stored_entry beside) rows e there in
      subst (Has (map (shown_entry beside) shown)) (sym r.2) (mapped_has (shown_entry beside) shown _ (are.complete r.0 r.1 refl));
  sound = λ e there.
      let x = has_mapped (shown_entry beside) shown e there in
      let r = are.sound x.0 x.1 in
      subst (Has (map (stored_entry beside) rows)) (sym (x.2 ∙ ap (shown_entry beside) r.3)) (mapped_has (stored_entry beside) rows r.0 r.1);
}

pub shows_rows : (old new : State) (rows : List Row) → IsStore old.now → Shown all_rows [] old new rows → AreAll (cells_of old.now.trees) (map (shown_entry text_of) rows) × IsUnchanged old new
shows_rows old new rows store h =
    let got = reads_as all_rows [] old new two_tables store.schema _ all_rows_is all_rows_plain.0 all_rows_plain.1 rows h in
    (all_shown text_of (old.now.trees 0) rows (keyed_by text_of (old.now.trees 0) (cells_pair.once old.now store.sound store.schema store.cells)) (picked 0 [] both_columns by_key (overlay old.now.trees []) [] rows (got.answer Null)), unchanged all_rows [] old new store.schema all_rows_plain.0 rows h)

pub shows_tags : (old new : State) (rows : List Row) → IsStore old.now → Shown all_tags [] old new rows → AreAll (tags_of old.now.trees) (map (shown_entry bytes_of) rows) × IsUnchanged old new
shows_tags old new rows store h =
    let got = reads_as all_tags [] old new two_tables store.schema _ all_tags_is all_tags_plain.0 all_tags_plain.1 rows h in
    (all_shown bytes_of (old.now.trees 2) rows (keyed_by bytes_of (old.now.trees 2) (tags_pair.once old.now store.sound store.schema store.tags)) (picked 2 [] both_columns by_key (overlay old.now.trees []) [] rows (got.answer Null)), unchanged all_tags [] old new store.schema all_tags_plain.0 rows h)

-- ---- what stands beside a key

pub shows_one : (key : List ℕ) (old new : State) (rows : List Row) → IsStore old.now → Shown one_row (Text key ∷ []) old new rows
    → AreBeside key (cells_of old.now.trees) (map (λ x. text_of (column x 0)) rows) × IsUnchanged old new
shows_one key old new rows store h =
    let got = reads_as one_row (Text key ∷ []) old new two_tables store.schema _ one_row_is one_row_plain.0 one_row_plain.1 rows h in
    let are = picked 0 has_key (col 1 2 ∷ []) [] (overlay old.now.trees []) (Text key ∷ []) rows (got.answer Null) in
    let body = λ (x : Row). text_of (column x 0) in (
      record {
        complete = λ b there.
            let r = has_mapped (stored_entry text_of) (old.now.trees 0) (Some (key, b)) there in
            let both = entry_parts text_of r.0 (key, b) (sym r.2) in
            subst (Has (map body rows)) both.1 (mapped_has body rows _ (are.complete r.0 r.1 (and_from (equal Binary (column r.0 1) (Text key)) true (rw both.0 (text_itself key)) refl)));
        sound = λ o there.
            let x = has_mapped body rows o there in
            let r = are.sound x.0 x.1 in
            let keyed = text_equal _ key (and_parts (equal Binary (column r.0 1) (Text key)) true r.2).0 in
            let is : entry_of (Some key) o ≡ stored_entry text_of r.0 = ap (entry_of (Some key)) (x.2 ∙ ap body r.3) ∙ ap (λ v. entry_of (text_of v) (text_of (column r.0 2))) (sym keyed) in
            subst (Has (cells_of old.now.trees)) (sym is) (mapped_has (stored_entry text_of) (old.now.trees 0) r.0 r.1);
      },
      unchanged one_row (Text key ∷ []) old new store.schema one_row_plain.0 rows h,
    )
