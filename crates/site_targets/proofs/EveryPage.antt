-- Each plan shows something on each visit, and so does each page.
use Rattle.std.proofs.Common.{ℕ, List, [], ◌∷◌, ◌++◌, ◌≡◌, ◌≤◌, refl, subst, arith, inl, Contains}
use Rattle.std.specs.Prelude.{Option, Some}
use Rattle.content_state.specs.declared.element.Hole.TheVariants.{Meta, Fragment}
use Rattle.content_state.specs.declared.element.Library.{Library}
use Rattle.content_state.specs.Read.{answer, cover}
use Rattle.content_state.specs.Context.{Visit, value}
use Rattle.content_state.specs.Met.{result_of, met}
use Rattle.content_state.specs.Plan.{Piece, Byte, Place, bytes, Plan, Done, Write, Attach, Reading, Asking, Clock, Part, Needs, AllIn, Made, Shows}
use Rattle.content_state.proofs.Filled.{in_right}
use Rattle.render_array.specs.declared.element.Element.TheVariants as element
use Rattle.render_array.specs.Whole.{whole}
use Rattle.render_array.specs.Shown.{OnlyMeta, IsFilled, meta_text, visit_of}
use Rattle.render_array.proofs.Leaves.{page_closed}
use Rattle.site_targets.specs.Open.{path_status, EveryPageShows}
use Rattle.site_targets.proofs.Sure.{gives_made}
use Rattle.site_targets.proofs.PageStatuses.{whole_gives}

all_left : {A : Type 0} (xs ys zs : List A) → AllIn (xs ++ ys) zs → AllIn xs zs
all_left [] ys zs all = tt
all_left (x ∷ xs) ys zs all = (all.0, all_left xs ys zs all.1)

all_right : {A : Type 0} (xs ys zs : List A) → AllIn (xs ++ ys) zs → AllIn ys zs
all_right [] ys zs all = all
all_right (x ∷ xs) ys zs all = all_right xs ys zs all.1

all_of : {A : Type 0} (xs ys : List A) → ((x : A) → Contains xs x → Contains ys x) → AllIn xs ys
all_of [] ys held = tt
all_of (x ∷ xs) ys held =
    (held x (0, omega arith, refl), all_of xs ys (λ y c. held y (in_right (x ∷ []) xs y c)))

-- where all that a plan meets is needed, it makes what it gives
made : {A : Type 0} (p : Plan A) (v : Visit) (needs : Needs) → AllIn (met p v).tags needs.tags → AllIn (met p v).contexts needs.contexts → needs.last ≤ v.moment → (shown : List Piece) × (libraries : List Library) × Made p v (result_of p v) shown libraries needs
made (Done a) v needs tags contexts last = ([], [], (refl, refl, refl))
made (Write bs k) v needs tags contexts last =
    let r = made k v needs tags contexts last in (bytes bs ++ r.0, r.1, (r.0, refl, r.2))
made (Attach l k) v needs tags contexts last =
    let r = made k v needs tags contexts last in (r.0, l ∷ r.1, (r.1, refl, r.2))
made (Reading q k) v needs tags contexts last =
    let read = cover v.rows q in
    let rest = (met (k (answer v.rows q)) v).tags in
    let r = made (k (answer v.rows q)) v needs (all_right read rest needs.tags tags) contexts last in
    (r.0, r.1, (all_left read rest needs.tags tags, r.2))
made (Asking c k) v needs tags contexts last =
    let r = made (k (value v c)) v needs tags contexts.1 last in (r.0, r.1, (inl contexts.0, r.2))
made (Clock age k) v needs tags contexts last =
    let r = made (k v.moment) v needs tags contexts last in
    (r.0, r.1, (v.moment, omega arith, omega (arith, last), r.2))
made (Part h k) v needs tags contexts last =
    let r = made k v needs tags contexts last in (Place h ∷ r.0, r.1, (r.0, refl, r.2))

-- each plan shows something on each visit
pub every_plan_shows : {A : Type 0} (p : Plan A) (v : Visit) → (shown : List Piece) × (libraries : List Library) × Shows p v (result_of p v) shown libraries
every_plan_shows p v =
    let needs : Needs = record { tags = (met p v).tags; contexts = (met p v).contexts; last = v.moment } in
    let r = made p v needs (all_of (met p v).tags (met p v).tags (λ x c. c)) (all_of (met p v).contexts (met p v).contexts (λ x c. c)) (omega arith) in
    (r.0, r.1, record { needs = needs; not_over = omega arith; made = r.2 })

-- where no other place is open, the lines of the libraries at theirs make a text
filled_text : (meta : List ℕ) (shown : List Piece) → OnlyMeta shown → (text : List ℕ) × IsFilled meta shown text
filled_text meta [] only = ([], refl)
filled_text meta (Byte b ∷ shown) only = let r = filled_text meta shown only in (b ∷ r.0, (r.0, refl, r.1))
filled_text meta (Place Meta ∷ shown) only = let r = filled_text meta shown only in (meta ++ r.0, (r.0, refl, r.1))
filled_text meta (Place (Fragment f) ∷ shown) only = absurd only

pub every_page : EveryPageShows
every_page rows ask moment =
    let v : Visit = visit_of rows ask moment in
    let p : Plan (Option ℕ) = whole ask.path element.Page in
    let status = path_status rows v.viewer ask.path in
    let r = every_plan_shows p v in
    let is : result_of p v ≡ Some status =
    gives_made (λ s. s ≡ Some status) p v (result_of p v) r.0 r.1 r.2.needs (whole_gives v ask.path) r.2.made in
    let shows : Shows p v (Some status) r.0 r.1 = subst (λ s. Shows p v s r.0 r.1) is r.2 in
    let text = filled_text (meta_text r.1) r.0 (page_closed ask.path v (result_of p v) r.0 r.1 r.2.needs r.2.made) in
    (status, text.0, record { shown = r.0; libraries = r.1; shows = shows; filled = text.1 })
