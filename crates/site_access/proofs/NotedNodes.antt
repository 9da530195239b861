-- What is noted of many nodes, part by part.
use Rattle.std.proofs.Common.{ℕ, List, [], ◌∷◌, ◌++◌, ◌≡◌, ◌-◌, Bool, true, false, not, refl, sym, ◌∙◌, ap, subst, inl, inr, length, take, drop, arith, if◌then◌else◌, append-nil, append_assoc}
use Rattle.std.specs.Prelude.{Option, Some, None, cond}
use Rattle.std.proofs.lemmas.Grind.{flat_map-append}
use Rattle.std.proofs.lemmas.List.{take_all, length-drop, take-append-drop}
use Rattle.std.proofs.lemmas.List.Elements.{filter-append}
use Rattle.cacheability.specs.InOrder.{HasBoth}
use Rattle.cacheability.specs.Cacheability.{always_same, merged}
use Rattle.cacheability.specs.declared.cacheability.Cacheability.{Cacheability}
use Rattle.cacheability.specs.declared.max_age.MaxAge.TheVariants.{Permanent}
use Rattle.cacheability.specs.MaxAge.{least}
use Rattle.cacheability.specs.Tag.{tag_cmp}
use Rattle.cacheability.specs.Context.{context_cmp}
use Rattle.cacheability.specs.declared.op.Op.{Op}
use Rattle.cacheability.specs.declared.op.Op.TheVariants as op
use Rattle.cacheability.proofs.InOrder.{Contains-union}
use Rattle.cacheability.proofs.Texts.{exact_tags, exact_contexts}
use Rattle.access_result.specs.declared.reason.Reason.{Reason}
use Rattle.content_rows.specs.declared.cell.Cell.{Cell}
use Rattle.content_rows.specs.declared.row.Row.{Row}
use Rattle.content_rows.specs.declared.row.Node.{Node}
use Rattle.content_state.specs.declared.ask.Viewer.{Viewer}
use Rattle.indexed_rows.specs.Rows.{node_of}
use Rattle.content_state.specs.Viewer.{may, bypass_node_access, access_content}
use Rattle.content_state.proofs.Meets.{least_permanent}
use Rattle.content_state.proofs.Filled.{in_append, in_left, in_right}
use Rattle.site_access.specs.Access.{Allowed, Denied, access_to_node}
use Rattle.site_access.specs.Depends.{asks_owner, votes_in_depend, node_depends}
use Rattle.site_access.specs.Viewing.{is_allowed, viewable_of, tags_of_nodes, contexts_of_nodes, NotesNodes}

-- decisions about nodes last

last_if : (b : Bool) (x y : Cacheability) → x.max_age ≡ Permanent → y.max_age ≡ Permanent → (if b then x else y).max_age ≡ Permanent
last_if true x y first second = first
last_if false x y first second = second

votes_last : (o : Op) (n : ℕ) (found : Option Node) → (votes_in_depend o n found).max_age ≡ Permanent
votes_last o n None = refl
votes_last o n (Some node) = last_if (asks_owner o node) _ _ refl refl

pub node_lasts : (rows : List (Cell × Row)) (viewer : Viewer) (o : Op) (n : ℕ) → (node_depends rows viewer o n).max_age ≡ Permanent
node_lasts rows viewer o n =
    last_if (may rows viewer bypass_node_access) _ _ refl
    (last_if (not (may rows viewer access_content)) _ _ refl (votes_last o n (node_of rows n)))

-- ---- members

none_more : {A : Type 0} (xs : List A) → HasBoth xs [] xs
none_more xs x = (λ h. inl h, λ h. elim h [ inl a ↦ a | inr b ↦ absurd (let w = b.1 in omega arith) ])

-- two lists of more, one after the other
both_more : {A : Type 0} (a b c d e : List A) → HasBoth a b c → HasBoth c d e → HasBoth a (b ++ d) e
both_more a b c d e first second x = (
  λ h. elim ((second x).0 h) [
    | inl m ↦ elim ((first x).0 m) [ inl o ↦ inl o | inr k ↦ inr (in_left b d x k) ]
    | inr k ↦ inr (in_right b d x k)
  ],
  λ h. elim h [
    | inl o ↦ (second x).1 (inl ((first x).1 (inl o)))
    | inr k ↦ elim (in_append b d x k) [ inl l ↦ (second x).1 (inl ((first x).1 (inr l))) | inr r ↦ (second x).1 (inr r) ]
  ],
)

-- what was gathered beside, and then taken in
both_beside : {A : Type 0} (a b c d e f : List A) → HasBoth a b c → HasBoth [] d e → HasBoth c e f → HasBoth a (b ++ d) f
both_beside a b c d e f first beside second = both_more a b c d f first same
  where
    same : HasBoth c d f
    same x = (
      λ h. elim ((second x).0 h) [
        | inl m ↦ inl m
        | inr k ↦ elim ((beside x).0 k) [ inl o ↦ absurd (let w = o.1 in omega arith) | inr l ↦ inr l ]
      ],
      λ h. elim h [ inl m ↦ (second x).1 (inl m) | inr k ↦ (second x).1 (inr ((beside x).1 (inr k))) ],
    )

-- ---- nodes

module _ (rows : List (Cell × Row)) (viewer : Viewer) where
  pub notes_none : (c : Cacheability) → NotesNodes rows viewer [] c c
  notes_none c = record { tags = none_more c.tags; contexts = none_more c.contexts; age = refl }

  pub notes_one : (n : ℕ) (a b : Cacheability) → b ≡ merged a (node_depends rows viewer op.View n) → NotesNodes rows viewer (n ∷ []) a b
  notes_one n a b is = record {
    tags = subst (λ l. HasBoth a.tags l b.tags) (sym (append-nil (node_depends rows viewer op.View n).tags)) (λ x. rw is (Contains-union tag_cmp exact_tags a.tags (node_depends rows viewer op.View n).tags x));
    contexts = subst (λ l. HasBoth a.contexts l b.contexts) (sym (append-nil (node_depends rows viewer op.View n).contexts)) (λ x. rw is (Contains-union context_cmp exact_contexts a.contexts (node_depends rows viewer op.View n).contexts x));
    age = ap (λ (c : Cacheability). c.max_age) is ∙ ap (λ m. least a.max_age m) (node_lasts rows viewer op.View n) ∙ least_permanent a.max_age;
  }

  pub notes_then : (xs ys : List ℕ) (a b c : Cacheability) → NotesNodes rows viewer xs a b → NotesNodes rows viewer ys b c → NotesNodes rows viewer (xs ++ ys) a c
  notes_then xs ys a b c first second = record {
    tags = subst (λ l. HasBoth a.tags l c.tags) (sym (flat_map-append (λ n. (node_depends rows viewer op.View n).tags) xs ys))
        (both_more a.tags (tags_of_nodes rows viewer xs) b.tags (tags_of_nodes rows viewer ys) c.tags first.tags second.tags);
    contexts = subst (λ l. HasBoth a.contexts l c.contexts) (sym (flat_map-append (λ n. (node_depends rows viewer op.View n).contexts) xs ys))
        (both_more a.contexts (contexts_of_nodes rows viewer xs) b.contexts (contexts_of_nodes rows viewer ys) c.contexts first.contexts second.contexts);
    age = second.age ∙ first.age;
  }

  -- what was noted beside is taken in
  pub notes_beside : (xs ys : List ℕ) (a b more c : Cacheability) → NotesNodes rows viewer xs a b → NotesNodes rows viewer ys always_same more → c ≡ merged b more → HasBoth b.tags more.tags c.tags → HasBoth b.contexts more.contexts c.contexts → NotesNodes rows viewer (xs ++ ys) a c
  notes_beside xs ys a b more c first beside is tags contexts = record {
    tags = subst (λ l. HasBoth a.tags l c.tags) (sym (flat_map-append (λ n. (node_depends rows viewer op.View n).tags) xs ys))
        (both_beside a.tags (tags_of_nodes rows viewer xs) b.tags (tags_of_nodes rows viewer ys) more.tags c.tags first.tags beside.tags tags);
    contexts = subst (λ l. HasBoth a.contexts l c.contexts) (sym (flat_map-append (λ n. (node_depends rows viewer op.View n).contexts) xs ys))
        (both_beside a.contexts (contexts_of_nodes rows viewer xs) b.contexts (contexts_of_nodes rows viewer ys) more.contexts c.contexts first.contexts beside.contexts contexts);
    age = ap (λ (k : Cacheability). k.max_age) is ∙ ap (λ m. least b.max_age m) beside.age ∙ least_permanent b.max_age ∙ first.age;
  }

  -- ---- what may be viewed of two lists, one after the other

  pub viewable_one : (n : ℕ) → Allowed ≡ access_to_node rows viewer op.View n → viewable_of rows viewer (n ∷ []) ≡ n ∷ []
  viewable_one n e = ap (λ a. cond (is_allowed a) (n ∷ []) []) (sym e)

  pub viewable_none : (n : ℕ) (why : Reason) → Denied why ≡ access_to_node rows viewer op.View n → viewable_of rows viewer (n ∷ []) ≡ []
  viewable_none n why e = ap (λ a. cond (is_allowed a) (n ∷ []) []) (sym e)

  pub viewable-append : (xs ys : List ℕ) → viewable_of rows viewer (xs ++ ys) ≡ viewable_of rows viewer xs ++ viewable_of rows viewer ys
  viewable-append xs ys = filter-append (λ n. is_allowed (access_to_node rows viewer op.View n)) xs ys

  -- found so far, and then of one more or of many
  pub found_then : (xs ys before mid new : List ℕ) → mid ≡ before ++ viewable_of rows viewer xs → new ≡ mid ++ viewable_of rows viewer ys → new ≡ before ++ viewable_of rows viewer (xs ++ ys)
  found_then xs ys before mid new first second =
      second
      ∙ ap (λ l. l ++ viewable_of rows viewer ys) first
      ∙ append_assoc before (viewable_of rows viewer xs) (viewable_of rows viewer ys)
      ∙ ap (λ l. before ++ l) (sym (viewable-append xs ys))

-- the two parts of a list that is cut
pub halves : (ids : List ℕ) (half : ℕ) → take half ids ++ take (length ids - half) (drop half ids) ≡ ids
halves ids half = ap (λ l. take half ids ++ l) (take_all (length ids - half) (drop half ids) (omega (arith, length-drop half ids))) ∙ take-append-drop half ids
