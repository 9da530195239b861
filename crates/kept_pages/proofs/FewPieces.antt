-- Text in few pieces shows the same.
use Rattle.std.proofs.Common.{ℕ, List, [], ◌∷◌, ◌++◌, ◌≡◌, ◌<◌, ◌≤◌, ◌+◌, refl, sym, ◌∙◌, ap, subst, arith, append_assoc, append-nil, drop, length, get_or, Option}
use Rattle.std.proofs.lemmas.List.{map-append, drop_more}
use Rattle.std.proofs.Math.ListN.{drop_of_length-le}
use Rattle.html_out.specs.declared.part.Segment.{Segment}
use Rattle.html_out.specs.Part.{Part, Text, Hole as Open}
use Rattle.html_out.specs.Segment.{part_of, parts_of}
use Rattle.content_state.specs.declared.element.Hole.{Hole}
use Rattle.content_state.specs.declared.element.Library.{Library}
use Rattle.content_state.specs.Context.{Visit}
use Rattle.content_state.specs.Plan.{Byte, Place, bytes, Plan, Needs}
use Rattle.content_state.specs.Places.{MakesWhole}
use Rattle.render_canvas.specs.Board.{pieces_of}
use Rattle.render_canvas.proofs.BoardLaws.{pieces_of-append}
use Rattle.element_entries.specs.declared.making.Joined.{Joined}
use Rattle.element_entries.specs.Making.{needs_of}
use Rattle.kept_pages.specs.Joins.{IsWhole}
use Rattle.kept_pages.specs.Compact.{BeginOpen, AreApart, text_part, compacted, ShowsSame}

-- ---- one text as a part

text_shows : (text : List ℕ) → pieces_of (text_part text) ≡ bytes text
text_shows [] = refl
text_shows (b ∷ bs) = append-nil (bytes (b ∷ bs))

text_apart : {T : Type 0} (text : List ℕ) (rest : List (Part T)) → BeginOpen rest → AreApart rest → AreApart (text_part text ++ rest)
text_apart [] rest begin apart = apart
text_apart (b ∷ bs) rest begin apart = (omega arith, begin, apart)

-- ---- all parts

pub compacted_shows : (text : List ℕ) (parts : List (Part Hole)) → pieces_of (compacted text parts) ≡ bytes text ++ pieces_of parts
compacted_shows text [] = text_shows text ∙ sym (append-nil (bytes text))
compacted_shows text (Text bs ∷ parts) =
    compacted_shows (text ++ bs) parts ∙ ap (λ ps. ps ++ pieces_of parts) (map-append Byte text bs) ∙ append_assoc (bytes text) (bytes bs) (pieces_of parts)
compacted_shows text (Open h ∷ parts) =
    pieces_of-append (text_part text) (Open h ∷ compacted [] parts)
    ∙ ap (λ ps. ps ++ Place h ∷ pieces_of (compacted [] parts)) (text_shows text)
    ∙ ap (λ ps. bytes text ++ Place h ∷ ps) (compacted_shows [] parts)

pub compacted_apart : {T : Type 0} (text : List ℕ) (parts : List (Part T)) → AreApart (compacted text parts)
compacted_apart text [] = subst AreApart (append-nil (text_part text)) (text_apart text [] tt tt)
compacted_apart text (Text bs ∷ parts) = compacted_apart (text ++ bs) parts
compacted_apart text (Open h ∷ parts) = text_apart text (Open h ∷ compacted [] parts) tt (compacted_apart [] parts)

-- ---- part by part

pub parts_begun : (ss : List (Segment Hole)) (few all : List (Part Hole)) (text : List ℕ) → few ≡ [] → text ≡ [] → parts_of ss ≡ all → few ++ compacted text (parts_of ss) ≡ compacted [] all
parts_begun ss few all text none empty same =
    ap (λ ps. ps ++ compacted text (parts_of ss)) none ∙ ap (λ t. compacted t (parts_of ss)) empty ∙ ap (λ ps. compacted [] ps) same

pub part_taken : (ss : List (Segment Hole)) (i : ℕ) (s : Segment Hole) (few few' all : List (Part Hole)) (text text' : List ℕ) → i < length ss → s ≡ get_or ss i s
    → few ++ compacted text (parts_of (drop i ss)) ≡ all
    → ((rest : List (Part Hole)) → few' ++ compacted text' rest ≡ few ++ compacted text (part_of s ∷ rest))
    → few' ++ compacted text' (parts_of (drop (i + 1) ss)) ≡ all
part_taken ss i s few few' all text text' within is so_far takes =
    takes (parts_of (drop (i + 1) ss))
    ∙ ap (λ (t : Segment Hole). few ++ compacted text (part_of t ∷ parts_of (drop (i + 1) ss))) is
    ∙ ap (λ (l : List (Segment Hole)). few ++ compacted text (parts_of l)) (sym (drop_more ss i s within)) ∙ so_far

pub all_taken : (ss : List (Segment Hole)) (i : ℕ) (few few' all : List (Part Hole)) (text : List ℕ) → length ss ≤ i
    → few ++ compacted text (parts_of (drop i ss)) ≡ all → few' ≡ few ++ text_part text → few' ≡ all
all_taken ss i few few' all text over so_far ended =
    ended ∙ ap (λ (l : List (Segment Hole)). few ++ compacted text (parts_of l)) (sym (drop_of_length-le ss over)) ∙ so_far

-- ---- what was put together

-- what shows the same is as whole
pub whole_again : (p : Plan (Option ℕ)) (v : Visit) (old new : Joined) → ShowsSame old new → IsWhole p v old → IsWhole p v new
whole_again p v old new same is = record {
  makes = subst (λ (n : Needs). MakesWhole p v new.status (pieces_of new.segments) new.libraries.items n) needs
      (subst (λ (l : List Library). MakesWhole p v new.status (pieces_of new.segments) l (needs_of old)) (sym same.libraries)
      (subst (λ ps. MakesWhole p v new.status ps old.libraries.items (needs_of old)) (sym same.shows)
      (subst (λ (s : Option ℕ). MakesWhole p v s (pieces_of old.segments) old.libraries.items (needs_of old)) (sym same.status) is.makes)));
  not_over = subst (λ n. v.moment ≤ n) (sym same.last) is.not_over;
}
  where
    needs : needs_of old ≡ needs_of new
    needs i = record { tags = (sym same.cacheability i).tags; contexts = (sym same.cacheability i).contexts; last = sym same.last i }
