-- Segments as pieces.
use Rattle.std.proofs.Common.{ℕ, List, [], ◌∷◌, ◌++◌, ◌≡◌, refl, sym, ◌∙◌, ap, append_assoc, append-nil}
use Rattle.html_out.specs.Part.{Part, Text, Hole}
use Rattle.content_state.specs.declared.element.Hole.{Hole as Open}
use Rattle.content_state.specs.Plan.{Piece, Byte, Place, bytes}
use Rattle.content_state.specs.Places.{open_places}
use Rattle.render_canvas.specs.Board.{pieces_of}

pub pieces_of-append : (ps qs : List (Part Open)) → pieces_of (ps ++ qs) ≡ pieces_of ps ++ pieces_of qs
pieces_of-append [] qs = refl
pieces_of-append (Text bs ∷ ps) qs = ap (λ w. bytes bs ++ w) (pieces_of-append ps qs) ∙ sym (append_assoc (bytes bs) (pieces_of ps) (pieces_of qs))
pieces_of-append (Hole h ∷ ps) qs = ap (λ w. Place h ∷ w) (pieces_of-append ps qs)

-- the open bytes are finished
pub finished : (ps qs : List (Part Open)) (t u : List ℕ) → qs ≡ ps ++ Text u ∷ [] → u ≡ t → pieces_of qs ≡ pieces_of ps ++ bytes t
finished ps qs t u e same =
    ap pieces_of e ∙ pieces_of-append ps (Text u ∷ []) ∙ ap (λ w. pieces_of ps ++ w) (append-nil (bytes u))
    ∙ ap (λ w. pieces_of ps ++ bytes w) same

-- a place is left open behind them, and the bytes begin again
pub more_place : (ps qs rs : List (Part Open)) (h : Open) (t u v : List ℕ) → qs ≡ ps ++ Text u ∷ [] → rs ≡ qs ++ Hole h ∷ [] → u ≡ t → v ≡ [] → pieces_of rs ++ bytes v ≡ (pieces_of ps ++ bytes t) ++ Place h ∷ []
more_place ps qs rs h t u v first second same none =
    ap (λ w. pieces_of rs ++ bytes w) none ∙ append-nil (pieces_of rs) ∙ ap pieces_of second ∙ pieces_of-append qs (Hole h ∷ [])
    ∙ ap (λ w. w ++ Place h ∷ []) (finished ps qs t u first same)

-- the places among pieces
pub places-append : (ps qs : List Piece) → open_places (ps ++ qs) ≡ open_places ps ++ open_places qs
places-append [] qs = refl
places-append (Byte b ∷ ps) qs = places-append ps qs
places-append (Place h ∷ ps) qs = ap (λ w. h ∷ w) (places-append ps qs)

pub places_of_bytes : (bs : List ℕ) → open_places (bytes bs) ≡ []
places_of_bytes [] = refl
places_of_bytes (b ∷ bs) = places_of_bytes bs
