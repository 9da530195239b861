-- The plan of a block's visibility gives whether it shows, and meets its contexts.
use Rattle.std.proofs.Common.{◌≡◌, ◌∙◌, ℕ, List, [], ◌∷◌, true, false, refl, sym, ap, append-nil}
use Rattle.std.specs.Prelude.{Bool, not, ◌&&◌, ◌||◌, if◌then◌else◌}
use Rattle.std.specs.List.{list_any}
use Rattle.std.specs.Str.{bytes_eq}
use Rattle.cacheability.specs.declared.context.Context.TheVariants as context
use Rattle.content_state.specs.Viewer.{roles_of}
use Rattle.content_state.specs.Context.{Visit, is_front}
use Rattle.content_state.specs.Plan.{Done, ◌>>=◌, asking}
use Rattle.content_state.specs.Met.{Met, result_of, met, met_both, met_nothing, met_context}
use Rattle.content_state.proofs.Meets.{result-bind, met-bind, least_permanent}
use Rattle.site_lists.specs.Visible.{front_word, is_for, is_place, is_on, for_viewer, names_front, at_front, on_path, visible, role_contexts, front_contexts, path_contexts, met_contexts, VisibleAnswers}

or_parts : (a b : Bool) → (a || b) ≡ false → (a ≡ false) × (b ≡ false)
or_parts true b h = cc
or_parts false b h = (refl, h)

-- where no path is the front's word, it does not matter whether this is the front
unnamed : (places : List (List ℕ)) (path : List ℕ) (front : Bool) → names_front places ≡ false → list_any (is_place path false) places ≡ list_any (is_place path front) places
unnamed [] path front h = refl
unnamed (p ∷ ps) path front h =
    let parts = or_parts (bytes_eq p front_word) (names_front ps) h in
    let one : is_place path false p ≡ is_place path front p =
    ap (λ b. bytes_eq p path || (b && false)) parts.0 ∙ sym (ap (λ b. bytes_eq p path || (b && front)) parts.0) in
    let rest = unnamed ps path front parts.1 in
    λ i. one i || rest i

front_gives : (named : Bool) (hide : Bool) (place : List ℕ) (places : List (List ℕ)) (v : Visit) → names_front (place ∷ places) ≡ named
    → is_on hide (place ∷ places) v.ask.path (result_of (at_front named) v) ≡ is_on hide (place ∷ places) v.ask.path (is_front v.rows v.ask.path)
unfolding at_front asking
front_gives true hide place places v is = refl
front_gives false hide place places v is =
    ap (λ h. if hide then not h else h) (unnamed (place ∷ places) v.ask.path (is_front v.rows v.ask.path) is)

path_gives : (hide : Bool) (places : List (List ℕ)) (v : Visit) → result_of (on_path hide places) v ≡ is_on hide places v.ask.path (is_front v.rows v.ask.path)
unfolding on_path asking
path_gives hide [] v = refl
path_gives hide (p ∷ ps) v =
    result-bind (at_front (names_front (p ∷ ps))) (λ front. Done (is_on hide (p ∷ ps) v.ask.path front)) v
    ∙ front_gives (names_front (p ∷ ps)) hide p ps v refl

viewer_gives : (roles : List (List ℕ)) (v : Visit) → result_of (for_viewer roles) v ≡ is_for roles (roles_of v.rows v.viewer)
unfolding for_viewer asking
viewer_gives [] v = refl
viewer_gives (r ∷ rs) v = refl

-- ---- what it meets

both_nothing : (a : Met) → met_both a met_nothing ≡ a
both_nothing a = λ i. record {
  tags = append-nil a.tags i;
  contexts = append-nil a.contexts i;
  age = least_permanent a.age i;
  places = append-nil a.places i;
}

viewer_meets : (roles : List (List ℕ)) (v : Visit) → met (for_viewer roles) v ≡ met_contexts (role_contexts roles)
unfolding for_viewer asking
viewer_meets [] v = refl
viewer_meets (r ∷ rs) v = refl

front_meets : (named : Bool) (v : Visit) → met (at_front named) v ≡ met_contexts (front_contexts named)
unfolding at_front asking
front_meets true v = refl
front_meets false v = refl

path_meets : (hide : Bool) (places : List (List ℕ)) (v : Visit) → met (on_path hide places) v ≡ met_contexts (path_contexts places)
unfolding on_path asking
path_meets hide [] v = refl
path_meets hide (p ∷ ps) v =
    let named = names_front (p ∷ ps) in
    ap (met_both (met_context context.UrlPath))
    (met-bind (at_front named) (λ front. Done (is_on hide (p ∷ ps) v.ask.path front)) v ∙ both_nothing (met (at_front named) v) ∙ front_meets named v)

pub visible_answers : VisibleAnswers
unfolding visible
visible_answers block v =
    let mine = result_of (for_viewer block.roles) v in
    let after = λ (m : Bool). on_path block.hide block.paths >>= λ here. Done (m && here) in (
      result-bind (for_viewer block.roles) after v
          ∙ result-bind (on_path block.hide block.paths) (λ here. Done (mine && here)) v
          ∙ (λ i. viewer_gives block.roles v i && path_gives block.hide block.paths v i),
      met-bind (for_viewer block.roles) after v
          ∙ (λ i. met_both (viewer_meets block.roles v i) ((met-bind (on_path block.hide block.paths) (λ here. Done (mine && here)) v ∙ both_nothing (met (on_path block.hide block.paths) v) ∙ path_meets block.hide block.paths v) i)),
    )
