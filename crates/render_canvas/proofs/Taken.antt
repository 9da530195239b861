-- Decisions about access that were noted on a canvas.
use Rattle.std.proofs.Common.{ℕ, List, [], ◌∷◌, ◌++◌, ◌≡◌, ◌≤◌, refl, sym, ◌∙◌, ap, subst, arith, Bool, true, false, append-nil, append_assoc, inl, inr}
use Rattle.std.specs.Prelude.{Result, Ok, Err, if◌then◌else◌, cond}
use Rattle.cacheability.specs.InOrder.{HasBoth}
use Rattle.cacheability.specs.Cacheability.{always_same, merged}
use Rattle.cacheability.specs.MaxAge.{least}
use Rattle.cacheability.specs.Tag.{tag_cmp}
use Rattle.cacheability.specs.Context.{context_cmp}
use Rattle.cacheability.specs.declared.cacheability.Cacheability.{Cacheability}
use Rattle.cacheability.specs.declared.op.Op.TheVariants as op
use Rattle.cacheability.proofs.InOrder.{Contains-union}
use Rattle.cacheability.proofs.Texts.{exact_tags, exact_contexts}
use Rattle.access_result.specs.declared.reason.Reason.{Reason}
use Rattle.content_state.specs.declared.element.Library.{Library}
use Rattle.content_state.specs.Context.{Visit}
use Rattle.content_state.specs.Plan.{Piece, Plan, Done, folded}
use Rattle.content_state.specs.Places.{open_places}
use Rattle.content_state.proofs.Meets.{least_permanent}
use Rattle.content_state.proofs.Filled.{in_append, in_left, in_right}
use Rattle.site_access.specs.Access.{Access, Allowed, Denied, access_to_node}
use Rattle.site_access.specs.Decided.{needs_of}
use Rattle.site_access.specs.Depends.{node_depends}
use Rattle.site_access.specs.Noting.{decision_of}
use Rattle.site_access.specs.Plans.{node_access}
use Rattle.site_access.specs.Viewing.{is_allowed, viewable_of, tags_of_nodes, contexts_of_nodes, NotesNodes}
use Rattle.site_access.proofs.PlansDecide.{node_read}
use Rattle.site_access.proofs.SilentPlans.{Reads, reads_made, reads_exactly}
use Rattle.site_lists.specs.ListingPlan.{with_viewable}
use Rattle.render_canvas.specs.Canvas.{Sheet, Renders, RestsOn}
use Rattle.render_canvas.specs.Reads.{may_view_node}
use Rattle.render_canvas.proofs.Decisions.{taken_in}
use Rattle.render_canvas.proofs.Run.{merged_in, next, done}

-- a canvas, of which only what was noted changes
module _ (v : Visit) (shown : List Piece) (libraries : List Library) (last : ℕ) (whole : Bool) (fits : last ≤ 18446744073709551615) where
  abbrev pub sheet : Cacheability → Sheet
  sheet c = record {
    visit = v;
    shown = shown;
    libraries = libraries;
    needs = record { tags = c.tags; contexts = c.contexts; last = last };
    age = c.max_age;
    whole = whole;
  }

  -- what one list of tags and contexts more makes of it
  rests : (before after depends : Cacheability) → after.max_age ≡ least before.max_age depends.max_age → HasBoth before.tags depends.tags after.tags → HasBoth before.contexts depends.contexts after.contexts → RestsOn (sheet before) (sheet after) depends.tags depends.contexts depends.max_age
  rests before after depends age tags contexts =
      merged_in depends.tags depends.contexts depends.max_age (sheet before) (sheet after) refl refl refl refl refl fits age tags contexts

  -- a decision whose dependence is what its plan reads
  decides : (p : Plan Access) (before after depends : Cacheability) (y : Access) (r : Result (Unit {0}) Reason) → Reads p v always_same y depends → decision_of r ≡ y → RestsOn (sheet before) (sheet after) depends.tags depends.contexts depends.max_age → Renders p (sheet before) (decision_of r) (sheet after)
  decides p before after depends y r reads is taken =
      taken_in p (sheet before) (sheet after) y y r depends depends refl reads.age (reads_exactly p v y depends reads) is taken
      (reads_made p v y depends (needs_of depends.tags depends.contexts) reads refl refl)

  -- the same where it was noted
  pub noted : (p : Plan Access) (before after depends : Cacheability) (y : Access) (r : Result (Unit {0}) Reason) → Reads p v always_same y depends → decision_of r ≡ y → after ≡ merged before depends → Renders p (sheet before) (decision_of r) (sheet after)
  noted p before after depends y r reads is same =
      decides p before after depends y r reads is
      (rests before after depends (ap (λ (c : Cacheability). c.max_age) same)
      (λ x. rw same (Contains-union tag_cmp exact_tags before.tags depends.tags x))
      (λ x. rw same (Contains-union context_cmp exact_contexts before.contexts depends.contexts x)))

  -- ---- many nodes

  -- nothing more is needed, however it is listed
  nothing_more : {A : Type 0} (x : A) (before after : Cacheability) → after.max_age ≡ before.max_age → HasBoth before.tags [] after.tags → HasBoth before.contexts [] after.contexts → Renders (Done x) (sheet before) x (sheet after)
  nothing_more x before after age tags contexts = record {
    visit = refl;
    whole_before = λ w. w;
    writes = λ w. record {
      shown = [];
      libraries = [];
      appended = sym (append-nil shown);
      attached = sym (append-nil libraries);
      kept = record { tags = λ t h. (tags t).1 (inl h); contexts = λ c h. (contexts c).1 (inl h); last = omega arith };
      made = (refl, refl, refl);
      exact = record {
        result = refl;
        tags = tags;
        contexts = contexts;
        age = age ∙ sym (least_permanent before.max_age);
        places = sym (append-nil (open_places shown));
      };
    };
  }

  -- what was noted with a node's dependence behind it
  abbrev with_node : Cacheability → ℕ → Cacheability
  with_node c n = record {
    tags = c.tags ++ (node_depends v.rows v.viewer op.View n).tags;
    contexts = c.contexts ++ (node_depends v.rows v.viewer op.View n).contexts;
    max_age = c.max_age;
  }

  behind : {A : Type 0} (xs ys : List A) → HasBoth xs ys (xs ++ ys)
  behind xs ys x = (λ h. in_append xs ys x h, λ h. elim h [ inl a ↦ in_left xs ys x a | inr b ↦ in_right xs ys x b ])

  later : {A : Type 0} (xs ys zs all : List A) → HasBoth xs (ys ++ zs) all → HasBoth (xs ++ ys) zs all
  later xs ys zs all both x = (
    λ h. elim ((both x).0 h) [
      | inl a ↦ inl (in_left xs ys x a)
      | inr b ↦ elim (in_append ys zs x b) [ inl k ↦ inl (in_right xs ys x k) | inr k ↦ inr k ]
    ],
    λ h. elim h [
      | inl a ↦ elim (in_append xs ys x a) [ inl k ↦ (both x).1 (inl k) | inr k ↦ (both x).1 (inr (in_left ys zs x k)) ]
      | inr b ↦ (both x).1 (inr (in_right ys zs x b))
    ],
  )

  abbrev as_result : Access → Result (Unit {0}) Reason
  as_result Allowed = Ok tt
  as_result (Denied why) = Err why

  back : (y : Access) → decision_of (as_result y) ≡ y
  back Allowed = refl
  back (Denied why) = refl

  sees : ℕ → Bool
  sees n = is_allowed (access_to_node v.rows v.viewer op.View n)

  one_decided : (n : ℕ) (c : Cacheability) → Renders (node_access op.View n) (sheet c) (access_to_node v.rows v.viewer op.View n) (sheet (with_node c n))
  one_decided n c =
      let depends = node_depends v.rows v.viewer op.View n in
      let y = access_to_node v.rows v.viewer op.View n in
      subst (λ a. Renders (node_access op.View n) (sheet c) a (sheet (with_node c n))) (back y)
      (decides (node_access op.View n) c (with_node c n) depends y (as_result y) (node_read op.View n v) (back y)
      (rests c (with_node c n) depends (sym (ap (λ m. least c.max_age m) (node_read op.View n v).age ∙ least_permanent c.max_age)) (behind c.tags depends.tags) (behind c.contexts depends.contexts)))

  one_seen : (n : ℕ) (c : Cacheability) → Renders (may_view_node n) (sheet c) (is_allowed (access_to_node v.rows v.viewer op.View n)) (sheet (with_node c n))
  unfolding may_view_node
  one_seen n c = next _ (one_decided n c) done

  chosen : {A : Type 0} (b : Bool) (x y : A) (c : Cacheability) → Renders (if b then Done x else Done y) (sheet c) (if b then x else y) (sheet c)
  chosen true x y c = done
  chosen false x y c = done

  one_more : (n : ℕ) (found : List ℕ) (c : Cacheability) → Renders (with_viewable may_view_node found n) (sheet c) (if is_allowed (access_to_node v.rows v.viewer op.View n) then found ++ n ∷ [] else found) (sheet (with_node c n))
  unfolding with_viewable
  one_more n found c = next _ (one_seen n c) (chosen (is_allowed (access_to_node v.rows v.viewer op.View n)) (found ++ n ∷ []) found (with_node c n))

  gathered : (b : Bool) (n : ℕ) (found more : List ℕ) → (if b then found ++ n ∷ [] else found) ++ more ≡ found ++ cond b (n ∷ more) more
  gathered true n found more = append_assoc found (n ∷ []) more
  gathered false n found more = refl

  pub nodes_noted : (ids found : List ℕ) (before after : Cacheability) → NotesNodes v.rows v.viewer ids before after → Renders (folded (with_viewable may_view_node) found ids) (sheet before) (found ++ viewable_of v.rows v.viewer ids) (sheet after)
  unfolding folded
  nodes_noted [] found before after notes =
      subst (λ xs. Renders (Done found) (sheet before) xs (sheet after)) (sym (append-nil found))
      (nothing_more found before after notes.age notes.tags notes.contexts)
  nodes_noted (n ∷ ids) found before after notes =
      let b = is_allowed (access_to_node v.rows v.viewer op.View n) in
      let depends = node_depends v.rows v.viewer op.View n in
      let found' = if b then found ++ n ∷ [] else found in
      subst (λ xs. Renders (folded (with_viewable may_view_node) found (n ∷ ids)) (sheet before) xs (sheet after)) (gathered b n found (viewable_of v.rows v.viewer ids))
      (next _ (one_more n found before)
      (nodes_noted ids found' (with_node before n) after (record {
        tags = later before.tags depends.tags (tags_of_nodes v.rows v.viewer ids) after.tags notes.tags;
        contexts = later before.contexts depends.contexts (contexts_of_nodes v.rows v.viewer ids) after.contexts notes.contexts;
        age = notes.age;
      })))
