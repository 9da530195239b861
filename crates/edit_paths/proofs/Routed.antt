-- A path that has the form of a route is about what the route says.
use Rattle.std.proofs.Common.{ℕ, List, [], ◌∷◌, ◌++◌, ◌≡◌, ◌<◌, ◌∙◌, true, false, refl, sym, subst, ap, cond, length, take, drop, get_or, suc, arith, Fits, w8}
use Rattle.std.specs.Prelude.{Bool, Some, None, ◌-◌, ◌==◌, ◌&&◌, ◌||◌, not, nat_eq, nat_le, if◌then◌else◌}
use Rattle.std.specs.List.{list_any, starts_with}
use Rattle.std.specs.Option.{option_map}
use Rattle.std.specs.Str.{bytes_eq}
use Rattle.std.proofs.lemmas.Bool.Decides.{Decides-eqb}
use Rattle.std.proofs.lemmas.List.{take-append-drop, append_assoc}
use Rattle.std.proofs.lemmas.Slice.Eq.{bytes_eq-Decides, starts_is}
use Rattle.matchit.specs.Rows.{param_token}
use Rattle.matchit.specs.Router.{RouteOf}
use Rattle.matchit.specs.Seek.{has_slash, seek}
use Rattle.content_rows.specs.Kinds.{is_slash}
use Rattle.edit_paths.specs.declared.edit.Edit.{Edit}
use Rattle.edit_paths.specs.declared.paths.Subject.{Subject}
use Rattle.edit_paths.specs.Paired.{is_segment, segment_after, segment_between, fixed}
use Rattle.edit_paths.specs.Routes.{Rows, about_of}
use Rattle.edit_paths.proofs.Found.{after_bytes, is_plain, param_found, between_found}

-- each element of a list is a byte
abbrev pub AreBytes : List ℕ → Type 0
AreBytes path = (k : ℕ) → Fits w8 (get_or path k 0)

byte_after : (front : List ℕ) (b : ℕ) (rest : List ℕ) → AreBytes (front ++ b ∷ rest) → b < 256
byte_after [] b rest bytes = omega (arith, bytes 0)
byte_after (x ∷ front) b rest bytes = byte_after front b rest (λ k. bytes (suc k))

-- ---- what a form tells of a path

right : (a b : Bool) → (a && b) ≡ true → b ≡ true
right true b h = h
right false b h = absurd cc

not_true : (b : Bool) → not b ≡ true → b ≡ false
not_true true h = absurd cc
not_true false h = refl

same_slash : (text : List ℕ) → has_slash text ≡ list_any is_slash text
same_slash [] = refl
same_slash (b ∷ text) = elim (b == 47) as (λ x. cond x true (has_slash text) ≡ (x || list_any is_slash text)) [ true ↦ refl | false ↦ same_slash text ]

whole : (text : List ℕ) → is_segment text ≡ true → has_slash text ≡ false
whole text h = same_slash text ∙ not_true (list_any is_slash text) (right (nat_le 1 (length text)) _ h)

taken_if : (here fits : Bool) (rest segment : List ℕ) → (if here && fits then Some rest else None) ≡ Some segment → (here ≡ true) × (fits ≡ true) × (rest ≡ segment)
taken_if true true rest segment h = (refl, refl, cc)
taken_if true false rest segment h = absurd cc
taken_if false fits rest segment h = absurd cc

-- a front and the segment that follows it are the path
record IsJoined (front segment path : List ℕ) : Type 0 where
  pub path_is : path ≡ front ++ segment
  pub fits : is_segment segment ≡ true

joined : (front path segment : List ℕ) → segment_after front path ≡ Some segment → IsJoined front segment path
joined front path segment h =
    let (here, fits, rest) = taken_if (starts_with nat_eq path front) (is_segment (drop (length front) path)) (drop (length front) path) segment h in
    record {
      path_is = (starts_is Decides-eqb path front true (sym here)).0 refl ∙ ap (λ (t : List ℕ). front ++ t) rest;
      fits = subst (λ (t : List ℕ). is_segment t ≡ true) rest fits;
    }

-- ---- what is found

found_after : (front segment : List ℕ) (rows : Rows) (route : RouteOf Subject)
    → is_plain front rows ≡ true → after_bytes front rows ≡ (param_token ∷ [], route) ∷ [] → AreBytes (front ++ segment) → is_segment segment ≡ true
    → about_of rows (front ++ segment) ≡ Some route.value
found_after front [] rows route plain alone bytes fits = absurd cc
found_after front (b ∷ rest) rows route plain alone bytes fits =
    ap (option_map (λ r. r.value)) (param_found front rows route b rest plain alone (byte_after front b rest bytes) (whole (b ∷ rest) fits))

found_joined : (front path segment : List ℕ) (rows : Rows) (route : RouteOf Subject)
    → is_plain front rows ≡ true → after_bytes front rows ≡ (param_token ∷ [], route) ∷ [] → AreBytes path → IsJoined front segment path
    → about_of rows path ≡ Some route.value
found_joined front path segment rows route plain alone bytes is =
    subst (λ (p : List ℕ). about_of rows p ≡ Some route.value) (sym is.path_is)
    (found_after front segment rows route plain alone (subst AreBytes is.path_is bytes) is.fits)

-- a path that names an edit by what follows a front
pub found_by : {T : Type 0} (front path : List ℕ) (rows : Rows) (route : RouteOf Subject) (make : T → Edit) (read : List ℕ → T) (named : Edit)
    → is_plain front rows ≡ true → after_bytes front rows ≡ (param_token ∷ [], route) ∷ [] → AreBytes path
    → option_map make (option_map read (segment_after front path)) ≡ Some named → about_of rows path ≡ Some route.value
found_by front path rows route make read named plain alone bytes =
    elim (segment_after front path) as (λ o. segment_after front path ≡ o → option_map make (option_map read o) ≡ Some named → about_of rows path ≡ Some route.value) [
      | Some segment ↦ λ is h. found_joined front path segment rows route plain alone bytes (joined front path segment is)
      | None ↦ λ is h. absurd cc
    ] refl

-- a front, the segment that follows it and an end are the path
between : (front end path segment : List ℕ) → segment_between front end path ≡ Some segment
    → (path ≡ front ++ (segment ++ end)) × (is_segment segment ≡ true)
between front end path segment h =
    let cut = length path - length end in
    elim (bytes_eq (drop cut path) end) as (λ b. bytes_eq (drop cut path) end ≡ b → (if b then segment_after front (take cut path) else None) ≡ Some segment → (path ≡ front ++ (segment ++ end)) × (is_segment segment ≡ true)) [
      | true ↦ λ is here.
          let start = joined front (take cut path) segment here in (
            sym (take-append-drop cut path) ∙ ap (λ (t : List ℕ). t ++ drop cut path) start.path_is ∙ ap (λ (t : List ℕ). front ++ segment ++ t) ((bytes_eq-Decides (drop cut path) end).0 is) ∙ append_assoc front segment end,
            start.fits,
          )
      | false ↦ λ is here. absurd cc
    ] refl h

found_then : (front segment tail : List ℕ) (rows : Rows) (route : RouteOf Subject)
    → is_plain front rows ≡ true → after_bytes front rows ≡ (param_token ∷ 47 ∷ tail, route) ∷ [] → seek 0 ((47 ∷ tail, route) ∷ []) (47 ∷ tail) ≡ Some route
    → AreBytes (front ++ (segment ++ (47 ∷ tail))) → is_segment segment ≡ true
    → about_of rows (front ++ (segment ++ (47 ∷ tail))) ≡ Some route.value
found_then front [] tail rows route plain alone ends bytes fits = absurd cc
found_then front (b ∷ rest) tail rows route plain alone ends bytes fits =
    ap (option_map (λ r. r.value)) (between_found front rows route b rest tail plain alone (byte_after front b (rest ++ (47 ∷ tail)) bytes) (whole (b ∷ rest) fits) ends)

-- a path that names an edit by what stands between a front and an end that begins with a slash
pub found_between : {T : Type 0} (front tail path : List ℕ) (rows : Rows) (route : RouteOf Subject) (make : T → Edit) (read : List ℕ → T) (named : Edit)
    → is_plain front rows ≡ true → after_bytes front rows ≡ (param_token ∷ 47 ∷ tail, route) ∷ [] → seek 0 ((47 ∷ tail, route) ∷ []) (47 ∷ tail) ≡ Some route
    → AreBytes path → option_map make (option_map read (segment_between front (47 ∷ tail) path)) ≡ Some named → about_of rows path ≡ Some route.value
found_between front tail path rows route make read named plain alone ends bytes =
    elim (segment_between front (47 ∷ tail) path) as (λ o. segment_between front (47 ∷ tail) path ≡ o → option_map make (option_map read o) ≡ Some named → about_of rows path ≡ Some route.value) [
      | Some segment ↦ λ is h.
          let (path_is, fits) = between front (47 ∷ tail) path segment is in
          subst (λ (p : List ℕ). about_of rows p ≡ Some route.value) (sym path_is)
          (found_then front segment tail rows route plain alone ends (subst AreBytes path_is bytes) fits)
      | None ↦ λ is h. absurd cc
    ] refl

-- a path that names an edit as it stands
pub found_as : (text path : List ℕ) (rows : Rows) (about : Subject) (edit named : Edit)
    → about_of rows text ≡ Some about → fixed text edit path ≡ Some named → about_of rows path ≡ Some about
found_as text path rows about edit named found =
    elim (bytes_eq path text) as (λ b. bytes_eq path text ≡ b → (if b then Some edit else None) ≡ Some named → about_of rows path ≡ Some about) [
      | true ↦ λ is h. subst (λ (p : List ℕ). about_of rows p ≡ Some about) (sym ((bytes_eq-Decides path text).0 is)) found
      | false ↦ λ is h. absurd cc
    ] refl
