-- What a node shows in each mode is the same on alike visits.
use Rattle.std.proofs.Common.{◌≡◌, ◌∙◌, ℕ, List, [], true, false, refl, sym, ap, subst, inl, inr}
use Rattle.std.specs.Prelude.{Bool, ◌==◌, ◌⊎◌, length, Option, Some, None, if◌then◌else◌}
use Rattle.cacheability.specs.declared.op.Op.TheVariants as op
use Rattle.content_rows.specs.declared.row.Node.{Node}
use Rattle.content_rows.specs.declared.row.NodeType.{NodeType}
use Rattle.content_rows.specs.declared.row.FieldRow.{FieldRow}
use Rattle.content_rows.specs.declared.row.FieldValue.{FieldValue}
use Rattle.content_rows.specs.declared.row.Term.{Term}
use Rattle.content_state.specs.declared.element.Mode.{Mode}
use Rattle.content_state.specs.declared.element.Mode.TheVariants as mode
use Rattle.content_state.specs.declared.element.Depth.{Depth}
use Rattle.content_state.specs.declared.element.Depth.TheVariants as depth
use Rattle.indexed_rows.specs.Rows.{node_of}
use Rattle.content_state.specs.Read.{TypeRow, TermRow}
use Rattle.content_state.specs.Context.{Visit}
use Rattle.content_state.specs.Plan.{Plan, Done, reading, ◌>>=◌}
use Rattle.site_access.specs.Access.{access_to_found_field, owner_in, field_of, type_in}
use Rattle.render_canvas.specs.Decision.{is_allowed}
use Rattle.render_array.specs.Nodes.{may_view_node, may_view_field, submitted, is_submitted, submitted_if, field_value, field_shown, field_with, field, teaser_field, fields, teaser_fields, with_term, with_viewable_term, term_named, term_item, terms_shown, terms, embedded, refs, refs_below, node_full, href, linked_title, node_teaser, node_embed, node_in_mode, node_or_nothing, node_shown}
use Rattle.page_secrets.specs.Alike.{IsHiddenField, with_fields}
use Rattle.page_secrets.proofs.Settled.{settled, settled_bind, Alike, alike_bind, alike_after, alike_done, alike_write, alike_escaped, alike_attach, alike_part, alike_if, alike_each, alike_folded}
use Rattle.page_secrets.proofs.Visits.{sees, AreAlikeFound, AlikeVisits, alike_reading}
use Rattle.page_secrets.proofs.Deciding.{view_left, same_view, field_answer, field_left, same_term_view}
use Rattle.page_secrets.proofs.SameAuthors.{same_by_line}
use Rattle.page_secrets.proofs.SameComments.{same_comments}

-- ---- its terms

module _ (v v' : Visit) (alike : AlikeVisits v v') where
  same_with_term : (found : List ℕ) (t : ℕ) (term : Option Term) → Alike v v' (with_term found t term) (with_term found t term)
  same_with_term found t None = alike_done found
  same_with_term found t (Some term) = alike_bind _ _ (same_term_view alike t) (λ allowed. alike_done _)

  pub same_viewable_term : (found : List ℕ) (t : ℕ) → Alike v v' (with_viewable_term found t) (with_viewable_term found t)
  unfolding with_viewable_term
  same_viewable_term found t = alike_bind _ _ (alike_reading alike (TermRow t) tt) (same_with_term found t)

  same_term_named : (t : ℕ) (term : Option Term) → Alike v v' (term_named t term) (term_named t term)
  same_term_named t None = alike_done tt
  same_term_named t (Some term) =
      alike_bind _ _ (alike_write _) (λ _. alike_bind _ _ (alike_write _) (λ _. alike_bind _ _ (alike_write _) (λ _.
      alike_bind _ _ (alike_escaped _) (λ _. alike_write _))))

  same_term_item : (t : ℕ) → Alike v v' (term_item t) (term_item t)
  unfolding term_item
  same_term_item t = alike_bind _ _ (alike_reading alike (TermRow t) tt) (same_term_named t)

  same_terms_shown : (ts : List ℕ) → Alike v v' (terms_shown ts) (terms_shown ts)
  unfolding terms_shown
  same_terms_shown ts =
      alike_bind _ _ (alike_write _) (λ _. alike_bind _ _ (alike_each term_item term_item ts same_term_item) (λ _. alike_write _))

  -- ---- a field

  same_field_shown : (label value : List ℕ) → Alike v v' (field_shown label value) (field_shown label value)
  unfolding field_shown
  same_field_shown label value =
      alike_bind _ _ (alike_write _) (λ _. alike_bind _ _ (alike_escaped _) (λ _. alike_bind _ _ (alike_write _) (λ _.
      alike_bind _ _ (alike_escaped _) (λ _. alike_write _))))

-- of a field that is hidden nothing is left
hidden_left : (v : Visit) (n : ℕ) (type : List ℕ) (row : FieldRow) (text : List ℕ)
    → is_allowed (field_answer v n type row.name) ≡ false → settled v (field_with n type row text) ≡ Done tt
hidden_left v n type row text denied = elim (length text == 0) as (λ b. settled v (if b then Done tt else (may_view_field n type row.name >>= λ allowed. if allowed then field_shown row.label text else Done tt)) ≡ Done tt) [
  | true ↦ refl
  | false ↦
      settled_bind v (may_view_field n type row.name) (λ allowed. if allowed then field_shown row.label text else Done tt)
      ∙ ap (λ l. l >>= λ allowed. settled v (if allowed then field_shown row.label text else Done tt)) (field_left v n type row.name ∙ ap Done denied)
]

-- ---- one node, that differs in hidden fields alone

module _ (v v' : Visit) (alike : AlikeVisits v v') (n : ℕ) (node : Node) (values : List FieldValue) where
  abbrev other : Node
  other = with_fields node values

  module _ (found : node_of v.rows n ≡ Some node) (found' : node_of v'.rows n ≡ Some other)
      (differs : (name : List ℕ) → (field_value node name ≡ field_value other name) ⊎ IsHiddenField v.viewer v.rows v'.rows n name) where
    pub same_answer : (name : List ℕ) → field_answer v n node.node_type name ≡ field_answer v' n node.node_type name
    same_answer name =
        ap (λ o. access_to_found_field v.rows v.viewer op.View (owner_in o) name (field_of v.rows node.node_type name)) found
        ∙ alike.fields node.uid node.node_type name
        ∙ ap (λ o. access_to_found_field v'.rows v'.viewer op.View (owner_in o) name (field_of v'.rows node.node_type name)) (sym found')

    pub same_may_view : (name : List ℕ) → Alike v v' (may_view_field n node.node_type name) (may_view_field n node.node_type name)
    same_may_view name = record {
      same = field_left v n node.node_type name ∙ ap (λ a. Done (is_allowed a)) (same_answer name) ∙ sym (field_left v' n node.node_type name);
    }

    same_field_with : (row : FieldRow) (text : List ℕ) → Alike v v' (field_with n node.node_type row text) (field_with n node.node_type row text)
    same_field_with row text =
        alike_if (length text == 0) (alike_done tt)
        (alike_bind _ _ (same_may_view row.name) (λ allowed. alike_if allowed (same_field_shown v v' alike row.label text) (alike_done tt)))

    pub is_hidden : (name : List ℕ) → IsHiddenField v.viewer v.rows v'.rows n name → is_allowed (field_answer v n node.node_type name) ≡ false
    is_hidden name hidden =
        ap (λ o. is_allowed (access_to_found_field v.rows v.viewer op.View (owner_in (node_of v.rows n)) name (field_of v.rows (type_in o) name))) (sym found)
        ∙ hidden.denied

    field_by : (row : FieldRow) → (field_value node row.name ≡ field_value other row.name) ⊎ IsHiddenField v.viewer v.rows v'.rows n row.name
        → Alike v v' (field_with n node.node_type row (field_value node row.name)) (field_with n node.node_type row (field_value other row.name))
    field_by row (inl same) =
        subst (λ text. Alike v v' (field_with n node.node_type row (field_value node row.name)) (field_with n node.node_type row text)) same
        (same_field_with row (field_value node row.name))
    field_by row (inr hidden) = record {
      same =
          hidden_left v n node.node_type row (field_value node row.name) (is_hidden row.name hidden)
          ∙ sym (hidden_left v' n node.node_type row (field_value other row.name) (ap is_allowed (sym (same_answer row.name)) ∙ is_hidden row.name hidden));
    }

    same_field : (row : FieldRow) → Alike v v' (field n node row) (field n other row)
    unfolding field
    same_field row = field_by row (differs row.name)

    same_teaser_field : (row : FieldRow) → Alike v v' (teaser_field n node row) (teaser_field n other row)
    unfolding teaser_field
    same_teaser_field row = alike_if row.teaser (same_field row) (alike_done tt)

    same_fields : (type : Option NodeType) → Alike v v' (fields n node type) (fields n other type)
    same_fields None = alike_done tt
    same_fields (Some type) = alike_each (field n node) (field n other) type.fields same_field

    same_teaser_fields : (type : Option NodeType) → Alike v v' (teaser_fields n node type) (teaser_fields n other type)
    same_teaser_fields None = alike_done tt
    same_teaser_fields (Some type) = alike_each (teaser_field n node) (teaser_field n other) type.fields same_teaser_field

    same_submitted : Alike v v' (submitted node) (submitted other)
    unfolding submitted
    same_submitted = same_by_line v v' alike node.uid node.created

    same_submitted_if : (type : Option NodeType) → Alike v v' (submitted_if node type) (submitted_if other type)
    unfolding submitted_if
    same_submitted_if type = alike_if (is_submitted type) same_submitted (alike_done tt)

    same_terms : Alike v v' (terms node) (terms other)
    unfolding terms
    same_terms =
        alike_bind _ _ (alike_folded with_viewable_term with_viewable_term [] node.terms (same_viewable_term v v' alike)) (λ ts.
        alike_if (length ts == 0) (alike_done tt) (same_terms_shown v v' alike ts))

    same_refs : (deep : Depth) → Alike v v' (refs deep node) (refs deep other)
    unfolding refs embedded
    same_refs deep = alike_each _ _ node.refs (λ m. alike_part _)

    same_refs_below : (deep : Depth) → Alike v v' (refs_below deep node) (refs_below deep other)
    same_refs_below depth.One = same_refs depth.Two
    same_refs_below depth.Two = same_refs depth.Three
    same_refs_below depth.Three = alike_done tt

    same_href : (path : Option (List ℕ)) → Alike v v' (href n path) (href n path)
    same_href None = alike_bind _ _ (alike_write _) (λ _. alike_write _)
    same_href (Some path) = alike_escaped path

    same_title : Alike v v' (linked_title n node) (linked_title n other)
    unfolding linked_title
    same_title =
        alike_bind _ _ (alike_write _) (λ _. alike_bind _ _ (same_href node.path) (λ _. alike_bind _ _ (alike_write _) (λ _.
        alike_bind _ _ (alike_escaped _) (λ _. alike_write _))))

    same_full : Alike v v' (node_full n node) (node_full n other)
    unfolding node_full
    same_full =
        alike_bind _ _ (alike_attach _) (λ _. alike_bind _ _ (alike_reading alike (TypeRow node.node_type) tt) (λ type.
        alike_bind _ _ (alike_write _) (λ _. alike_bind _ _ (same_submitted_if type) (λ _. alike_bind _ _ (same_fields type) (λ _.
        alike_bind _ _ same_terms (λ _. alike_bind _ _ (same_refs depth.One) (λ _. alike_bind _ _ (same_comments v v' alike n) (λ _. alike_write _))))))))

    same_teaser : Alike v v' (node_teaser n node) (node_teaser n other)
    unfolding node_teaser
    same_teaser =
        alike_bind _ _ (alike_attach _) (λ _. alike_bind _ _ (alike_reading alike (TypeRow node.node_type) tt) (λ type.
        alike_bind _ _ same_title (λ _. alike_bind _ _ (same_submitted_if type) (λ _. alike_bind _ _ (same_teaser_fields type) (λ _.
        alike_write _)))))

    same_embed : (deep : Depth) → Alike v v' (node_embed deep n node) (node_embed deep n other)
    unfolding node_embed
    same_embed deep =
        alike_bind _ _ (alike_attach _) (λ _. alike_bind _ _ (alike_reading alike (TypeRow node.node_type) tt) (λ type.
        alike_bind _ _ same_title (λ _. alike_bind _ _ (same_teaser_fields type) (λ _. alike_bind _ _ (same_refs_below deep) (λ _.
        alike_write _)))))

    pub same_mode : (shown : Mode) → Alike v v' (node_in_mode shown n node) (node_in_mode shown n other)
    same_mode mode.Full = same_full
    same_mode mode.Teaser = same_teaser
    same_mode (mode.Embed deep) = same_embed deep

-- ---- a node, where it is there and may be viewed

module _ (v v' : Visit) (alike : AlikeVisits v v') (n : ℕ) where
  -- hidden on both, nothing is shown
  neither : {B : Type 0} (f g : Bool → Plan B) → sees v n ≡ false → Alike v v' (f false) (g false) → Alike v v' (may_view_node n >>= f) (may_view_node n >>= g)
  neither f g denied after =
      alike_after (may_view_node n) (may_view_node n) false false f g (view_left v n ∙ ap Done denied) (view_left v' n ∙ ap Done (ap is_allowed (sym (alike.access n)) ∙ denied)) after

  found_same : (shown : Mode) (found found' : Option Node) → node_of v.rows n ≡ found → node_of v'.rows n ≡ found' → AreAlikeFound v.viewer v.rows v'.rows n found found'
      → Alike v v' (node_or_nothing shown n found) (node_or_nothing shown n found')
  found_same shown None None is is' nodes = alike_done tt
  found_same shown (Some node) (Some node') is is' (inl hidden) = neither _ _ hidden.denied (alike_done tt)
  found_same shown (Some node) (Some node') is is' (inr differs) =
      let other = with_fields node node'.fields in
      let in_mode : Alike v v' (node_in_mode shown n node) (node_in_mode shown n node') =
      subst (λ o. Alike v v' (node_in_mode shown n node) (node_in_mode shown n o)) (sym differs.others)
      (same_mode v v' alike n node node'.fields is (is' ∙ ap Some differs.others) differs.values shown) in
      alike_bind _ _ (same_view alike n) (λ allowed. alike_if allowed in_mode (alike_done tt))
  found_same shown None (Some node') is is' nodes = absurd nodes
  found_same shown (Some node) None is is' nodes = absurd nodes

  pub same_node_shown : (shown : Mode) → Alike v v' (node_shown n shown) (node_shown n shown)
  unfolding node_shown reading
  same_node_shown shown = record { same = (found_same shown (node_of v.rows n) (node_of v'.rows n) refl refl (alike.found n)).same }
