-- Texts with marks in places, part by part.
use Rattle.std.proofs.Common.{ℕ, suc, List, [], ◌∷◌, ◌++◌, ◌≡◌, ◌<◌, ◌≤◌, ◌+◌, refl, sym, ◌∙◌, ap, subst, arith, append_assoc, append-nil, length-append, drop, length, get_or}
use Rattle.std.proofs.lemmas.List.{drop_more}
use Rattle.std.proofs.Math.ListN.{drop_of_length-le}
use Rattle.std.specs.Arc.{arc_value}
use Rattle.std.specs.declared.sync.Arc.{Arc}
use Rattle.std.specs.declared.alloc.Global.{Global}
use Rattle.html_out.specs.declared.shared.Bytes.{Bytes}
use Rattle.html_out.specs.declared.part.Segment.{Segment}
use Rattle.html_out.specs.declared.part.Segment.TheVariants.{Bytes as Shared}
use Rattle.html_out.specs.Part.{Part, Text, Hole as Open}
use Rattle.html_out.specs.Segment.{part_of, parts_of}
use Rattle.content_state.specs.declared.element.Fragment.{Fragment}
use Rattle.content_state.specs.declared.element.Hole.{Hole}
use Rattle.content_state.specs.declared.element.Hole.TheVariants as hole
use Rattle.content_state.specs.Plan.{Piece, bytes}
use Rattle.late_out.specs.Marks.{place_mark}
use Rattle.render_canvas.specs.Board.{pieces_of}
use Rattle.late_pages.specs.Late.{late_places, marked}

pub marked_bytes : (meta : List ℕ) (n : ℕ) (bs : List ℕ) (ps : List Piece) → marked meta n (bytes bs ++ ps) ≡ bs ++ marked meta n ps
marked_bytes meta n [] ps = refl
marked_bytes meta n (b ∷ bs) ps = ap (λ t. b ∷ t) (marked_bytes meta n bs ps)

pub places_bytes : (bs : List ℕ) (ps : List Piece) → late_places (bytes bs ++ ps) ≡ late_places ps
places_bytes [] ps = refl
places_bytes (b ∷ bs) ps = places_bytes bs ps

-- what stands behind a part is marked behind it
abbrev pub TextGoesOn : List ℕ → List ℕ → List Hole → List ℕ → List Hole → Part Hole → Type 0
TextGoesOn meta old holes new holes' part =
    (rest : List (Part Hole)) → new ++ marked meta (length holes') (pieces_of rest) ≡ old ++ marked meta (length holes) (pieces_of (part ∷ rest))

text_marked : (meta old new bs : List ℕ) (holes : List Hole) → new ≡ old ++ bs → TextGoesOn meta old holes new holes (Text bs)
text_marked meta old new bs holes is rest =
    ap (λ t. t ++ marked meta (length holes) (pieces_of rest)) is
    ∙ append_assoc old bs (marked meta (length holes) (pieces_of rest))
    ∙ ap (λ t. old ++ t) (sym (marked_bytes meta (length holes) bs (pieces_of rest)))

pub bytes_marked : (s : Segment Hole) (b : Arc Bytes Global) (meta old new : List ℕ) (holes : List Hole) → s ≡ Shared b → new ≡ old ++ arc_value b → TextGoesOn meta old holes new holes (part_of s)
bytes_marked s b meta old new holes same is =
    subst (λ (t : Segment Hole). TextGoesOn meta old holes new holes (part_of t)) (sym same) (text_marked meta old new (arc_value b) holes is)

pub lines_marked : (meta old new : List ℕ) (holes : List Hole) → new ≡ old ++ meta → TextGoesOn meta old holes new holes (Open hole.Meta)
lines_marked meta old new holes is rest =
    ap (λ t. t ++ marked meta (length holes) (pieces_of rest)) is ∙ append_assoc old meta (marked meta (length holes) (pieces_of rest))

pub place_marked : (meta old new : List ℕ) (holes holes' : List Hole) (f : Fragment) → new ≡ old ++ place_mark (length holes) → holes' ≡ holes ++ hole.Fragment f ∷ []
    → TextGoesOn meta old holes new holes' (Open (hole.Fragment f))
place_marked meta old new holes holes' f is more rest =
    ap (λ t. t ++ marked meta (length holes') (pieces_of rest)) is
    ∙ append_assoc old (place_mark (length holes)) (marked meta (length holes') (pieces_of rest))
    ∙ ap (λ n. old ++ (place_mark (length holes) ++ marked meta n (pieces_of rest))) one_more
  where
    one_more : length holes' ≡ suc (length holes)
    one_more = ap length more ∙ length-append holes (hole.Fragment f ∷ []) ∙ omega arith

pub place_left : (holes holes' : List Hole) (f : Fragment) → holes' ≡ holes ++ hole.Fragment f ∷ []
    → (rest : List (Part Hole)) → holes' ++ late_places (pieces_of rest) ≡ holes ++ late_places (pieces_of (Open (hole.Fragment f) ∷ rest))
place_left holes holes' f more rest =
    ap (λ hs. hs ++ late_places (pieces_of rest)) more ∙ append_assoc holes (hole.Fragment f ∷ []) (late_places (pieces_of rest))

pub bytes_left : (s : Segment Hole) (b : Arc Bytes Global) (holes : List Hole) → s ≡ Shared b → (rest : List (Part Hole)) → holes ++ late_places (pieces_of rest) ≡ holes ++ late_places (pieces_of (part_of s ∷ rest))
bytes_left s b holes same rest =
    ap (λ hs. holes ++ hs) (sym (places_bytes (arc_value b) (pieces_of rest)))
    ∙ ap (λ (t : Segment Hole). holes ++ late_places (pieces_of (part_of t ∷ rest))) (sym same)

-- ---- part by part

pub next_marked : (ss : List (Segment Hole)) (i : ℕ) (s : Segment Hole) (meta all old new : List ℕ) (holes holes' : List Hole) → i < length ss → s ≡ get_or ss i s
    → old ++ marked meta (length holes) (pieces_of (parts_of (drop i ss))) ≡ all
    → TextGoesOn meta old holes new holes' (part_of s)
    → new ++ marked meta (length holes') (pieces_of (parts_of (drop (i + 1) ss))) ≡ all
next_marked ss i s meta all old new holes holes' within is so_far takes =
    takes (parts_of (drop (i + 1) ss))
    ∙ ap (λ (t : Segment Hole). old ++ marked meta (length holes) (pieces_of (part_of t ∷ parts_of (drop (i + 1) ss)))) is
    ∙ ap (λ (l : List (Segment Hole)). old ++ marked meta (length holes) (pieces_of (parts_of l))) (sym (drop_more ss i s within)) ∙ so_far

pub next_left : (ss : List (Segment Hole)) (i : ℕ) (s : Segment Hole) (all holes holes' : List Hole) → i < length ss → s ≡ get_or ss i s
    → holes ++ late_places (pieces_of (parts_of (drop i ss))) ≡ all
    → ((rest : List (Part Hole)) → holes' ++ late_places (pieces_of rest) ≡ holes ++ late_places (pieces_of (part_of s ∷ rest)))
    → holes' ++ late_places (pieces_of (parts_of (drop (i + 1) ss))) ≡ all
next_left ss i s all holes holes' within is so_far takes =
    takes (parts_of (drop (i + 1) ss))
    ∙ ap (λ (t : Segment Hole). holes ++ late_places (pieces_of (part_of t ∷ parts_of (drop (i + 1) ss)))) is
    ∙ ap (λ (l : List (Segment Hole)). holes ++ late_places (pieces_of (parts_of l))) (sym (drop_more ss i s within)) ∙ so_far

pub all_marked : (ss : List (Segment Hole)) (i : ℕ) (meta all text : List ℕ) (holes : List Hole) → length ss ≤ i
    → text ++ marked meta (length holes) (pieces_of (parts_of (drop i ss))) ≡ all → text ≡ all
all_marked ss i meta all text holes over so_far =
    sym (append-nil text) ∙ ap (λ (l : List (Segment Hole)). text ++ marked meta (length holes) (pieces_of (parts_of l))) (sym (drop_of_length-le ss over)) ∙ so_far

pub all_left : (ss : List (Segment Hole)) (i : ℕ) (all holes : List Hole) → length ss ≤ i → holes ++ late_places (pieces_of (parts_of (drop i ss))) ≡ all → holes ≡ all
all_left ss i all holes over so_far =
    sym (append-nil holes) ∙ ap (λ (l : List (Segment Hole)). holes ++ late_places (pieces_of (parts_of l))) (sym (drop_of_length-le ss over)) ∙ so_far

pub marks_begun : (meta : List ℕ) (ps : List Piece) (text : List ℕ) (holes : List Hole) → text ≡ [] → holes ≡ [] → text ++ marked meta (length holes) ps ≡ marked meta 0 ps
marks_begun meta ps text holes none empty =
    ap (λ t. t ++ marked meta (length holes) ps) none ∙ ap (λ (hs : List Hole). marked meta (length hs) ps) empty

pub places_begun : (ps : List Piece) (holes : List Hole) → holes ≡ [] → holes ++ late_places ps ≡ late_places ps
places_begun ps holes empty = ap (λ hs. hs ++ late_places ps) empty
