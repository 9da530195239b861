-- Every plan shows something on every visit: what it reads covers itself.
use Rattle.std.proofs.Common.{ℕ, List, [], ◌∷◌, ◌++◌, ◌≡◌, ◌≤◌, refl, arith, Option, Contains, inl, inr}
use Rattle.cacheability.specs.declared.context.Context.{Context}
use Rattle.cacheability.specs.declared.tag.Tag.{Tag}
use Rattle.content_state.specs.declared.element.Library.{Library}
use Rattle.content_state.specs.Read.{answer, cover}
use Rattle.content_state.specs.Context.{Visit, value}
use Rattle.content_state.specs.Met.{met, result_of}
use Rattle.content_state.specs.Plan.{Piece, Place, bytes, Plan, Done, Write, Attach, Reading, Asking, Clock, Part, Needs, AllIn, Made}
use Rattle.content_state.proofs.Filled.{in_right}
use Rattle.page_meaning.specs.Total.{EveryPlanShows}

all_left : {A : Type 0} (xs ys zs : List A) → AllIn (xs ++ ys) zs → AllIn xs zs
all_left [] ys zs all = tt
all_left (x ∷ xs) ys zs all = (all.0, all_left xs ys zs all.1)

all_right : {A : Type 0} (xs ys zs : List A) → AllIn (xs ++ ys) zs → AllIn ys zs
all_right [] ys zs all = all
all_right (x ∷ xs) ys zs all = all_right xs ys zs all.1

all_of : {A : Type 0} (xs ys : List A) → ((x : A) → Contains xs x → Contains ys x) → AllIn xs ys
all_of [] ys there = tt
all_of (x ∷ xs) ys there = (there x (0, omega arith, refl), all_of xs ys (λ y c. there y (in_right (x ∷ []) xs y c)))

-- with needs that have what the plan meets, and last until the visit's moment
total : {A : Type 0} (p : Plan A) (v : Visit) (needs : Needs) → AllIn (met p v).tags needs.tags → AllIn (met p v).contexts needs.contexts → needs.last ≤ v.moment → (shown : List Piece) × (libraries : List Library) × Made p v (result_of p v) shown libraries needs
total (Done a) v needs tags contexts last = ([], [], (refl, refl, refl))
total (Write bs k) v needs tags contexts last =
    let rest = total k v needs tags contexts last in
    (bytes bs ++ rest.0, rest.1, (rest.0, refl, rest.2))
total (Attach l k) v needs tags contexts last =
    let rest = total k v needs tags contexts last in
    (rest.0, l ∷ rest.1, (rest.1, refl, rest.2))
total (Reading r k) v needs tags contexts last =
    let rest = total (k (answer v.rows r)) v needs (all_right (cover v.rows r) (met (k (answer v.rows r)) v).tags needs.tags tags) contexts last in
    (rest.0, rest.1, (all_left (cover v.rows r) (met (k (answer v.rows r)) v).tags needs.tags tags, rest.2))
total (Asking c k) v needs tags contexts last =
    let rest = total (k (value v c)) v needs tags contexts.1 last in
    (rest.0, rest.1, (inl contexts.0, rest.2))
total (Clock age k) v needs tags contexts last =
    let rest = total (k v.moment) v needs tags contexts last in
    (rest.0, rest.1, (v.moment, omega arith, omega (arith, last), rest.2))
total (Part h k) v needs tags contexts last =
    let rest = total k v needs tags contexts last in
    (Place h ∷ rest.0, rest.1, (rest.0, refl, rest.2))

pub every_plan_shows : EveryPlanShows
every_plan_shows p v =
    let needs : Needs = record { tags = (met p v).tags; contexts = (met p v).contexts; last = v.moment } in
    let shows = total p v needs (all_of (met p v).tags (met p v).tags (λ x c. c)) (all_of (met p v).contexts (met p v).contexts (λ x c. c)) (omega arith) in
    (shows.0, shows.1, record { needs = needs; not_over = omega arith; made = shows.2 })
