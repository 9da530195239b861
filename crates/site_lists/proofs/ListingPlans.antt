-- The plans of listings give the plain answers.
use Rattle.std.proofs.Common.{◌≡◌, ◌∙◌, ℕ, List, [], ◌∷◌, ◌++◌, map, true, false, refl, sym, ap, append-nil, append_assoc}
use Rattle.std.proofs.Math.Path.{fun_ext}
use Rattle.std.specs.Prelude.{Bool, ◌&&◌, Option, Some, None, if◌then◌else◌}
use Rattle.std.specs.List.{filter, flat_map}
use Rattle.cacheability.specs.declared.tag.Tag.TheVariants as tag
use Rattle.content_rows.specs.declared.row.Node.{Node}
use Rattle.content_rows.specs.declared.row.Listing.{Listing}
use Rattle.content_rows.specs.declared.row.Term.{Term}
use Rattle.indexed_rows.specs.Rows.{nodes_of, nodes_of_type, terms_of}
use Rattle.content_state.specs.Context.{Visit}
use Rattle.content_state.specs.Plan.{Plan, Done, ◌>>=◌, reading, clock, folded}
use Rattle.content_state.specs.Met.{Met, result_of, met, met_tags, met_both, met_nothing}
use Rattle.content_state.proofs.Meets.{result-bind, met-bind, least_permanent}
use Rattle.site_lists.specs.Listed.{is_fit, is_listed, has_term, ids_in_order, candidates, list_tags, term_tags}
use Rattle.site_lists.specs.ListingPlan.{of_types, among, terms_for, candidate_rows, moment_within, with_viewable, listing_rows, moment_at, CandidatesAnswer, ListingAnswers}
use Rattle.site_lists.proofs.Ranks.{chosen_among, chosen_enough, filter_candidates}

-- ---- what the plans give

types_give : (ts : List (List ℕ)) (v : Visit) → result_of (of_types ts) v ≡ flat_map (nodes_of_type v.rows) ts
unfolding of_types reading
types_give [] v = refl
types_give (t ∷ ts) v =
    result-bind (of_types ts) (λ others. Done (nodes_of_type v.rows t ++ others)) v
    ∙ ap (λ others. nodes_of_type v.rows t ++ others) (types_give ts v)

among_gives : (ts : List (List ℕ)) (v : Visit) → result_of (among ts) v ≡ chosen_among v.rows ts
unfolding reading
among_gives [] v = refl
among_gives (t ∷ ts) v = types_give (t ∷ ts) v

-- a listing without a term needs none of those that are there
terms_give : (term : Option ℕ) (own : List ℕ) (v : Visit) → has_term (result_of (terms_for term) v) term own ≡ has_term (terms_of v.rows) term own
unfolding reading
terms_give None own v = refl
terms_give (Some t) own v = refl

abbrev pub order : Listing → ℕ → List (ℕ × Term) → List (ℕ × Node) → List ℕ
order listing moment terms nodes = ids_in_order (filter (λ e. is_listed terms listing moment e.1) nodes)

-- of the nodes of a listing's types those that it has, by the terms that are read for it
pub listed_among : (listing : Listing) (moment : ℕ) (v : Visit)
    → order listing moment (result_of (terms_for listing.term) v) (chosen_among v.rows listing.types) ≡ candidates v.rows listing moment
listed_among listing moment v =
    chosen_enough (result_of (terms_for listing.term) v) v.rows listing moment
    ∙ ap (λ (f : ℕ × Node → Bool). ids_in_order (filter f (nodes_of v.rows)))
    (fun_ext (λ e. ap (λ b. is_fit listing moment e.1 && b) (terms_give listing.term e.1.terms v)))

candidates_give : (listing : Listing) (moment : ℕ) (v : Visit) → result_of (candidate_rows listing moment) v ≡ candidates v.rows listing moment
unfolding candidate_rows
candidates_give listing moment v =
    let terms = result_of (terms_for listing.term) v in
    result-bind (among listing.types) (λ nodes. terms_for listing.term >>= λ ts. Done (order listing moment ts nodes)) v
    ∙ result-bind (terms_for listing.term) (λ ts. Done (order listing moment ts (result_of (among listing.types) v))) v
    ∙ ap (order listing moment terms) (among_gives listing.types v)
    ∙ listed_among listing moment v

-- ---- what they meet

both_nothing : (a : Met) → met_both a met_nothing ≡ a
both_nothing a = λ i. record {
  tags = append-nil a.tags i;
  contexts = append-nil a.contexts i;
  age = least_permanent a.age i;
  places = append-nil a.places i;
}

types_meet : (ts : List (List ℕ)) (v : Visit) → met (of_types ts) v ≡ met_tags (map tag.NodeListOf ts)
unfolding of_types reading
types_meet [] v = refl
types_meet (t ∷ ts) v =
    ap (met_both (met_tags (tag.NodeListOf t ∷ [])))
    (met-bind (of_types ts) (λ others. Done (nodes_of_type v.rows t ++ others)) v ∙ both_nothing (met (of_types ts) v) ∙ types_meet ts v)

among_meets : (ts : List (List ℕ)) (v : Visit) → met (among ts) v ≡ met_tags (list_tags ts)
unfolding reading
among_meets [] v = refl
among_meets (t ∷ ts) v = types_meet (t ∷ ts) v

terms_meet : (term : Option ℕ) (v : Visit) → met (terms_for term) v ≡ met_tags (term_tags term)
unfolding reading
terms_meet None v = refl
terms_meet (Some t) v = refl

candidates_meet : (listing : Listing) (moment : ℕ) (v : Visit) → met (candidate_rows listing moment) v ≡ met_tags (list_tags listing.types ++ term_tags listing.term)
unfolding candidate_rows
candidates_meet listing moment v =
    met-bind (among listing.types) (λ nodes. terms_for listing.term >>= λ ts. Done (order listing moment ts nodes)) v
    ∙ ap (met_both (met (among listing.types) v)) (
    met-bind (terms_for listing.term) (λ ts. Done (order listing moment ts (result_of (among listing.types) v))) v
    ∙ both_nothing (met (terms_for listing.term) v)
    ∙ terms_meet listing.term v
    )
    ∙ ap (λ m. met_both m (met_tags (term_tags listing.term))) (among_meets listing.types v)

pub candidates_answer : CandidatesAnswer
candidates_answer listing moment v = (candidates_give listing moment v, candidates_meet listing moment v)

-- ---- those that may be viewed

viewable_gives : (may_view : ℕ → Plan Bool) (ids : List ℕ) (n : ℕ) (v : Visit)
    → result_of (with_viewable may_view ids n) v ≡ (if result_of (may_view n) v then ids ++ n ∷ [] else ids)
unfolding with_viewable
viewable_gives may_view ids n v =
    result-bind (may_view n) (λ allowed. if allowed then Done (ids ++ n ∷ []) else Done ids) v
    ∙ (elim (result_of (may_view n) v) as (λ b. result_of (if b then Done (ids ++ n ∷ []) else Done ids) v ≡ (if b then ids ++ n ∷ [] else ids)) [ true ↦ refl | false ↦ refl ])

folded_gives : (may_view : ℕ → Plan Bool) (ids ns : List ℕ) (v : Visit)
    → result_of (folded (with_viewable may_view) ids ns) v ≡ ids ++ filter (λ n. result_of (may_view n) v) ns
unfolding folded
folded_gives may_view ids [] v = sym (append-nil ids)
folded_gives may_view ids (n ∷ ns) v =
    let passes = λ (m : ℕ). result_of (may_view m) v in
    result-bind (with_viewable may_view ids n) (λ more. folded (with_viewable may_view) more ns) v
    ∙ ap (λ more. result_of (folded (with_viewable may_view) more ns) v) (viewable_gives may_view ids n v)
    ∙ folded_gives may_view (if result_of (may_view n) v then ids ++ n ∷ [] else ids) ns v
    ∙ (elim (result_of (may_view n) v) as (λ b. (if b then ids ++ n ∷ [] else ids) ++ filter passes ns ≡ ids ++ (if b then n ∷ filter passes ns else filter passes ns)) [
      | true ↦ append_assoc ids (n ∷ []) (filter passes ns)
      | false ↦ refl
    ])

moment_gives : (age : Option ℕ) (v : Visit) → result_of (moment_within age) v ≡ moment_at age v.moment
unfolding clock
moment_gives None v = refl
moment_gives (Some age) v = refl

pub listing_answers : ListingAnswers
unfolding listing_rows
listing_answers may_view listing v =
    let passes = λ (n : ℕ). result_of (may_view n) v in
    let rest = λ (moment : ℕ). candidate_rows listing moment >>= λ ids. folded (with_viewable may_view) [] ids in
    let moment = moment_at listing.age v.moment in
    result-bind (moment_within listing.age) rest v
    ∙ ap (λ m. result_of (rest m) v) (moment_gives listing.age v)
    ∙ result-bind (candidate_rows listing moment) (λ ids. folded (with_viewable may_view) [] ids) v
    ∙ ap (λ ids. result_of (folded (with_viewable may_view) [] ids) v) (candidates_give listing moment v)
    ∙ folded_gives may_view [] (candidates v.rows listing moment) v
    ∙ filter_candidates v.rows listing moment passes
