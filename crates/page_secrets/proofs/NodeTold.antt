-- What the page of a node as JSON tells of its fields and of its terms.
use Rattle.std.proofs.Common.{◌≡◌, ◌∙◌, ℕ, List, [], ◌∷◌, ◌++◌, true, false, refl, sym, ap, subst, append-nil, append_assoc}
use Rattle.std.specs.Prelude.{Bool, ◌==◌, ◌&&◌, length, is_some, unwrap_or, Option, Some, None, if◌then◌else◌}
use Rattle.std.specs.List.{filter, filter_map, cons_option}
use Rattle.cacheability.specs.declared.op.Op.TheVariants as op
use Rattle.content_rows.specs.declared.row.Node.{Node}
use Rattle.content_rows.specs.declared.row.NodeType.{NodeType}
use Rattle.content_rows.specs.declared.row.FieldRow.{FieldRow}
use Rattle.content_rows.specs.declared.row.FieldValue.{FieldValue}
use Rattle.content_rows.specs.declared.row.Term.{Term}
use Rattle.content_state.specs.declared.entity.Entity.TheVariants as entity
use Rattle.content_state.specs.declared.route.Route.TheVariants as route
use Rattle.content_state.specs.Entities.{is_json}
use Rattle.content_state.specs.Route.{route_of}
use Rattle.content_state.specs.Context.{Visit}
use Rattle.content_state.specs.Plan.{Plan, Done, Write, Made, bytes, write, reading, folded, ◌>>=◌}
use Rattle.content_state.specs.Places.{filled_in}
use Rattle.indexed_rows.specs.Rows.{node_of, type_of, term_of}
use Rattle.json_out.specs.Told.{node_json}
use Rattle.site_access.specs.Access.{Allowed, access_to_node, access_to_found_field, access_to_field_of, owner_in, field_of, type_in}
use Rattle.site_access.specs.Plans.{node_access}
use Rattle.site_access.specs.Terms.{access_to_term}
use Rattle.render_canvas.specs.Decision.{is_allowed}
use Rattle.render_array.specs.declared.element.Element.TheVariants as element
use Rattle.render_array.specs.Nodes.{may_view_field, may_view_term, field_value, with_term, with_viewable_term}
use Rattle.render_array.specs.Json.{told, with_shown_field, shown_fields, json_node_answer, json_node_found, json_node}
use Rattle.render_array.specs.Page.{page_at, page}
use Rattle.render_array.specs.Built.{plan_of}
use Rattle.render_array.specs.Whole.{shown_below, whole}
use Rattle.render_array.specs.Shown.{IsFilled, meta_text, visit_of}
use Rattle.page_secrets.specs.NodeJson.{allowed_value, seen_value, seen_values, is_seen_term, HiddenIsUntold}
use Rattle.page_secrets.proofs.Settled.{settled, settled_bind, settled_filling, settled_filled, left_makes}
use Rattle.page_secrets.proofs.Deciding.{node_left, field_answer, field_left, term_view_left}
use Rattle.page_secrets.proofs.SameJson.{with_told}

-- ---- what is gathered

-- what was found, with one more where there is one
abbrev with_one : List FieldValue → Option FieldValue → List FieldValue
with_one found None = found
with_one found (Some value) = found ++ value ∷ []

one_told : (found : List FieldValue) (name value : List ℕ) (allowed : Bool) → with_told found name value allowed ≡ with_one found (allowed_value allowed name value)
one_told found name value true = refl
one_told found name value false = refl

one_onto : (found : List FieldValue) (o : Option FieldValue) (rest : List FieldValue) → with_one found o ++ rest ≡ found ++ cons_option o rest
one_onto found None rest = refl
one_onto found (Some value) rest = append_assoc found (value ∷ []) rest

module _ (v : Visit) (n : ℕ) (node : Node) (is : node_of v.rows n ≡ Some node) where
  abbrev seen : FieldRow → Option FieldValue
  seen row = seen_value v.rows v.viewer n node row

  answer_is : (name : List ℕ) → field_answer v n node.node_type name ≡ access_to_field_of v.rows v.viewer op.View n name
  answer_is name =
      ap (λ o. access_to_found_field v.rows v.viewer op.View (owner_in (node_of v.rows n)) name (field_of v.rows (type_in o) name)) (sym is)

  value_left : (found : List FieldValue) (row : FieldRow) → settled v (with_shown_field n node found row) ≡ Done (with_one found (seen row))
  unfolding with_shown_field
  value_left found row =
      let value = field_value node row.name in
      let allowed = is_allowed (access_to_field_of v.rows v.viewer op.View n row.name) in
      elim (length value == 0) as (λ b. settled v (if b then Done found else (may_view_field n node.node_type row.name >>= λ may. Done (with_told found row.name value may))) ≡ Done (with_one found (if b then None else allowed_value allowed row.name value))) [
        | true ↦ refl
        | false ↦
            settled_bind v (may_view_field n node.node_type row.name) (λ may. Done (with_told found row.name value may))
            ∙ ap (λ l. l >>= λ may. Done (with_told found row.name value may)) (field_left v n node.node_type row.name ∙ ap (λ access. Done (is_allowed access)) (answer_is row.name))
            ∙ ap Done (one_told found row.name value allowed)
      ]

  values_left : (found : List FieldValue) (rows : List FieldRow) → settled v (folded (with_shown_field n node) found rows) ≡ Done (found ++ filter_map seen rows)
  unfolding folded
  values_left found [] = ap Done (sym (append-nil found))
  values_left found (row ∷ rows) =
      settled_bind v (with_shown_field n node found row) (λ more. folded (with_shown_field n node) more rows)
      ∙ ap (λ l. l >>= λ more. settled v (folded (with_shown_field n node) more rows)) (value_left found row)
      ∙ values_left (with_one found (seen row)) rows
      ∙ ap Done (one_onto found (seen row) (filter_map seen rows))

  fields_left : (type : Option NodeType) → settled v (shown_fields n node type) ≡ Done (seen_values v.rows v.viewer n node type)
  fields_left None = refl
  fields_left (Some type) = values_left [] type.fields

-- with one more term, where the viewer may view it
abbrev with_seen : List ℕ → ℕ → Bool → List ℕ
with_seen found t allowed = if allowed then found ++ t ∷ [] else found

module _ (v : Visit) where
  found_left : (found : List ℕ) (t : ℕ) (term : Option Term) → settled v (with_term found t term) ≡ Done (with_seen found t (is_some term && is_allowed (access_to_term v.rows v.viewer t)))
  found_left found t None = refl
  found_left found t (Some term) =
      settled_bind v (may_view_term t) (λ allowed. Done (with_seen found t allowed))
      ∙ ap (λ l. l >>= λ allowed. Done (with_seen found t allowed)) (term_view_left v t)

  term_left : (found : List ℕ) (t : ℕ) → settled v (with_viewable_term found t) ≡ Done (with_seen found t (is_seen_term v.rows v.viewer t))
  unfolding with_viewable_term reading
  term_left found t = found_left found t (term_of v.rows t)

  terms_left : (found ts : List ℕ) → settled v (folded with_viewable_term found ts) ≡ Done (found ++ filter (is_seen_term v.rows v.viewer) ts)
  unfolding folded
  terms_left found [] = ap Done (sym (append-nil found))
  terms_left found (t ∷ ts) =
      let others = filter (is_seen_term v.rows v.viewer) ts in
      settled_bind v (with_viewable_term found t) (λ more. folded with_viewable_term more ts)
      ∙ ap (λ l. l >>= λ more. settled v (folded with_viewable_term more ts)) (term_left found t)
      ∙ terms_left (with_seen found t (is_seen_term v.rows v.viewer t)) ts
      ∙ ap Done (elim (is_seen_term v.rows v.viewer t) as (λ b. with_seen found t b ++ others ≡ found ++ (if b then t ∷ others else others)) [
        | true ↦ append_assoc found (t ∷ []) others
        | false ↦ refl
      ])

-- ---- what is told

-- the text of a node, as far as the viewer may view it
abbrev pub seen_json : Visit → ℕ → Node → List ℕ
seen_json v n node =
    node_json n node (seen_values v.rows v.viewer n node (type_of v.rows node.node_type)) (filter (is_seen_term v.rows v.viewer) node.terms)

module _ (v : Visit) (n : ℕ) (node : Node) (is : node_of v.rows n ≡ Some node) (may : access_to_node v.rows v.viewer op.View n ≡ Allowed) where
  told_left : (status : ℕ) (text : List ℕ) → settled v (told status text) ≡ Write text (Done status)
  unfolding told write
  told_left status text = refl

  answer_left : settled v (json_node_answer n node Allowed) ≡ Write (seen_json v n node) (Done 200)
  unfolding reading
  answer_left =
      let type = type_of v.rows node.node_type in
      let fields = seen_values v.rows v.viewer n node type in
      settled_bind v (shown_fields n node type) (λ fields. folded with_viewable_term [] node.terms >>= λ terms. told 200 (node_json n node fields terms))
      ∙ ap (λ l. l >>= λ fields. settled v (folded with_viewable_term [] node.terms >>= λ terms. told 200 (node_json n node fields terms))) (fields_left v n node is type)
      ∙ settled_bind v (folded with_viewable_term [] node.terms) (λ terms. told 200 (node_json n node fields terms))
      ∙ ap (λ l. l >>= λ terms. settled v (told 200 (node_json n node fields terms))) (terms_left v [] node.terms)
      ∙ told_left 200 (seen_json v n node)

  node_told : settled v (json_node n) ≡ Write (seen_json v n node) (Done 200)
  unfolding json_node reading
  node_told =
      ap (λ o. settled v (json_node_found n o)) is
      ∙ settled_bind v (node_access op.View n) (json_node_answer n node)
      ∙ ap (λ l. l >>= λ access. settled v (json_node_answer n node access)) (node_left v n ∙ ap Done may)
      ∙ answer_left

  module _ (path : List ℕ) (leads : route_of v.rows path ≡ route.Json (entity.Node n)) where
    page_told : settled v (page path) ≡ Write (seen_json v n node) (Done 200)
    unfolding page reading
    page_told = ap (λ to. settled v (page_at (is_json path) to)) leads ∙ node_told

    pub whole_told : settled v (whole path element.Page) ≡ Write (seen_json v n node) (Done (Some 200))
    whole_told =
        settled_filled (shown_below 5) v (plan_of path element.Page)
        ∙ ap (filled_in (settled_filling v (shown_below 5)))
        (settled_bind v (page path) (λ status. Done (Some status)) ∙ ap (λ l. l >>= λ status. Done (Some status)) page_told)

-- ---- the page

-- bytes that leave no place open make their own text
own_text : (meta text body : List ℕ) → IsFilled meta (bytes text) body → body ≡ text
own_text meta [] body filled = filled
own_text meta (b ∷ text) body filled = filled.1 ∙ ap (λ l. b ∷ l) (own_text meta text filled.0 filled.2)

pub hidden_is_untold : HiddenIsUntold
hidden_is_untold rows ask now n node leads is may status body page =
    let v : Visit = visit_of rows ask now in
    let text = seen_json v n node in
    let left : Made (settled v (whole ask.path element.Page)) v (Some status) page.shown page.libraries page.shows.needs = left_makes (whole ask.path element.Page) v v (Some status) page.shown page.libraries page.shows.needs refl page.shows.made in
    let made : Made (Write text (Done (Some 200))) v (Some status) page.shown page.libraries page.shows.needs = subst (λ (p : Plan (Option ℕ)). Made p v (Some status) page.shown page.libraries page.shows.needs) (whole_told v n node is may ask.path leads) left in
    let shows : page.shown ≡ bytes text = made.1 ∙ ap (λ rest. bytes text ++ rest) made.2.1 ∙ append-nil (bytes text) in
    (ap (λ s. unwrap_or s 0) made.2.0, own_text (meta_text page.libraries) text body (subst (λ shown. IsFilled (meta_text page.libraries) shown body) shows page.filled))
