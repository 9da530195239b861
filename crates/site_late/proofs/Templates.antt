-- Parts, one after another.
use Rattle.std.proofs.Common.{◌≡◌, ◌∙◌, ◌+◌, ◌++◌, ◌<◌, List, [], ◌∷◌, ℕ, zero, suc, Bool, Option, inl, inr, ap, sym, refl, subst, arith, append_assoc, length, take, drop, get_or, replicate, length-take-le}
use Rattle.std.proofs.Math.Seq.{split_at}
use Rattle.std.proofs.lemmas.List.{append-nil, take_more}
use Rattle.content_rows.specs.declared.cell.Cell.{Cell}
use Rattle.content_rows.specs.declared.row.Row.{Row}
use Rattle.content_state.specs.State.{State}
use Rattle.content_state.specs.declared.ask.Ask.{Ask}
use Rattle.content_state.specs.declared.element.Hole.{Hole}
use Rattle.content_state.specs.Context.{Visit}
use Rattle.element_entries.specs.Keys.{visit}
use Rattle.element_entries.specs.Readers.{Reader}
use Rattle.late_pages.specs.Late.{IsSent, LatePart, PartShows, PartsShow, late_places, part_text, parts_sent, templates}
use Rattle.render_array.specs.Shown.{visit_of}
use Rattle.site_house.specs.House.{HouseView}
use Rattle.site_io.specs.declared.device.Point.{Point}
use Rattle.site_io.specs.declared.device.Point.TheVariants.{BeforePart}
use Rattle.site_io.specs.Reached.{and_point}
use Rattle.site_io.specs.Told.{after, AddsFront}
use Rattle.site_late.specs.Making.{MakesBegun, MakesPart}
use Rattle.site_late.specs.Parts.{WritesAll, WritesSome, stops_short}
use Rattle.site_late.specs.Sending.{IsLateReply, and_points, places_sent}
use Rattle.late_pages.proofs.Exist.{parts_exist}
use Rattle.site_late.specs.declared.parts.Stop.{Stop}
use Rattle.site_late.proofs.Joining.{front_in}
use Rattle.site_late.proofs.Making.{begun_more, makes_more}
use Rattle.site_late.proofs.Told.{after_after, after_nothing, point_of, points_nothing, points_points}

pub parts_append : (v : Visit) (hs gs : List Hole) (ps qs : List LatePart) → PartsShow v hs ps → PartsShow v gs qs → PartsShow v (hs ++ gs) (ps ++ qs)
parts_append v [] gs [] qs a b = b
parts_append v [] gs (p ∷ ps) qs a b = absurd a
parts_append v (h ∷ hs) gs [] qs a b = absurd a
parts_append v (h ∷ hs) gs (p ∷ ps) qs a b = (a.0, parts_append v hs gs ps qs a.1 b)

pub parts_length : (v : Visit) (hs : List Hole) (ps : List LatePart) → PartsShow v hs ps → length ps ≡ length hs
parts_length v [] [] a = refl
parts_length v [] (p ∷ ps) a = absurd a
parts_length v (h ∷ hs) [] a = absurd a
parts_length v (h ∷ hs) (p ∷ ps) a = ap suc (parts_length v hs ps a.1)

-- as many parts are sent as places are open
page_count : {rows : List (Cell × Row)} {ask : Ask} {moment status : ℕ} {body : List ℕ} (page : IsSent rows ask moment status body) → parts_sent page ≡ length (places_sent page)
page_count (inl whole) = refl
page_count {rows} {ask} {moment} (inr late) = parts_length (visit_of rows ask moment) (late_places late.shown) late.parts late.each

pub places_count : {state : State} {ask : Ask} {moment count : ℕ} {closing : Bool} {places : List Hole} {text : List ℕ} → IsLateReply state ask moment closing count places text → count ≡ length places
places_count reply = reply.count_is ∙ page_count reply.page ∙ ap length (sym reply.places_are)

pub templates_append : (i : ℕ) (ps qs : List LatePart) → templates i (ps ++ qs) ≡ templates i ps ++ templates (i + length ps) qs
templates_append i [] qs = ap (λ (n : ℕ). templates n qs) {x = i} {y = i + 0} (omega arith)
templates_append i (p ∷ ps) qs =
    let on : suc i + length ps ≡ i + suc (length ps) = omega arith in
    ap (λ (t : List ℕ). part_text i p ++ t) (templates_append (suc i) ps qs ∙ ap (λ (n : ℕ). templates (suc i) ps ++ templates n qs) on)
    ∙ sym (append_assoc (part_text i p) (templates (suc i) ps) (templates (i + suc (length ps)) qs))

one_template : (i : ℕ) (p : LatePart) → templates i (p ∷ []) ≡ part_text i p
one_template i p = append-nil (part_text i p)

one_of : (v : Visit) (h : Hole) → (parts : List LatePart) × PartsShow v (h ∷ []) parts → (p : LatePart) × PartShows v h p
one_of v h ([], a) = absurd a
one_of v h (p ∷ ps, a) = (p, a.0)

-- each place has a part, whether it was made or not
pub one_exists : (v : Visit) (h : Hole) → (p : LatePart) × PartShows v h p
one_exists v h = one_of v h (parts_exist v (h ∷ []))

-- a front of a text is one of the same text
pub same_front : {all text : List ℕ} (told later : Option (List ℕ)) → all ≡ text → AddsFront told later all → AddsFront told later text
same_front told later same front = subst (λ (l : List ℕ). AddsFront told later l) same front

-- one more
replicate_more : (n : ℕ) → replicate n BeforePart ++ BeforePart ∷ [] ≡ replicate (suc n) BeforePart
replicate_more zero = refl
replicate_more (suc n) = ap (λ (l : List Point). BeforePart ∷ l) (replicate_more n)

told_more : (points between later : Option (List Point)) (n : ℕ) → between ≡ and_points points (replicate n BeforePart) → later ≡ and_point between BeforePart → later ≡ and_points points (replicate (suc n) BeforePart)
told_more points between later n first second =
    second ∙ point_of between BeforePart ∙ ap (λ (o : Option (List Point)). and_points o (BeforePart ∷ [])) first
    ∙ points_points points (replicate n BeforePart) (BeforePart ∷ []) ∙ ap (and_points points) (replicate_more n)

-- ---- what is sent of the places of a page

-- nothing yet
pub writes_none : (r : Reader) (house : HouseView) (points : Option (List Point)) (written : Option (List ℕ)) → WritesAll r [] house house points points written written
writes_none r house points written = record { parts = []; show = tt; made = refl; told = points_nothing points; wrote = after_nothing written }

-- one part more
pub writes_more : (r : Reader) (holes : List Hole) (i : ℕ) (hole : Hole) (old mid new : HouseView) (points between later : Option (List Point)) (written now later-written : Option (List ℕ)) → i < length holes → hole ≡ get_or holes i hole
    → WritesAll r (take i holes) old mid points between written now → MakesPart r hole mid new → later ≡ and_point between BeforePart
    → (p : LatePart) × PartShows (visit r) hole p × (later-written ≡ after now (part_text i p)) → WritesAll r (take (i + 1) holes) old new points later written later-written
writes_more r holes i hole old mid new points between later written now later-written within here w part reached sent =
    let v = visit r in
    let p = sent.0 in
    let few : length (take i holes) ≡ i = length-take-le _ _ (omega arith) in
    let count : length w.parts ≡ i = parts_length v (take i holes) w.parts w.show ∙ few in
    let next : 0 + length w.parts ≡ i = omega arith in
    let more : take i holes ++ hole ∷ [] ≡ take (i + 1) holes = ap (λ (h : Hole). take i holes ++ h ∷ []) here ∙ sym (take_more holes i hole within) in
    let long : length (take (i + 1) holes) ≡ suc i = length-take-le _ _ (omega arith) ∙ omega arith in
    record {
      parts = w.parts ++ p ∷ [];
      show = subst (λ (hs : List Hole). PartsShow v hs (w.parts ++ p ∷ [])) more (parts_append v (take i holes) (hole ∷ []) w.parts (p ∷ []) w.show (sent.1, tt));
      made = makes_more r holes i hole old mid new within here w.made part;
      told = told_more points between later (length (take i holes)) w.told reached
          ∙ ap (λ (n : ℕ). and_points points (replicate n BeforePart)) (ap suc few ∙ sym long);
      wrote = sent.2 ∙ ap (λ (o : Option (List ℕ)). after o (part_text i p)) w.wrote ∙ after_after written (templates 0 w.parts) (part_text i p)
          ∙ ap (after written) (ap (λ (t : List ℕ). templates 0 w.parts ++ t) (sym (one_template i p) ∙ ap (λ (n : ℕ). templates n (p ∷ [])) (sym next)) ∙ sym (templates_append 0 w.parts (p ∷ [])));
    }

-- a front of one part more, where those behind it exist
pub writes_front : (why : Stop) (r : Reader) (holes : List Hole) (i : ℕ) (hole : Hole) (old mid new : HouseView) (points between later : Option (List Point)) (written now later-written : Option (List ℕ)) → i < length holes → hole ≡ get_or holes i hole
    → (others : List LatePart) × PartsShow (visit r) (drop (suc i) holes) others
    → WritesAll r (take i holes) old mid points between written now → MakesBegun (stops_short why) r (hole ∷ []) 1 mid new → later ≡ and_point between BeforePart
    → (p : LatePart) × PartShows (visit r) hole p × AddsFront now later-written (part_text i p) → WritesSome why r holes old new points later written later-written
writes_front why r holes i hole old mid new points between later written now later-written within here others w begun reached sent =
    let v = visit r in
    let p = sent.0 in
    let few : length (take i holes) ≡ i = length-take-le _ _ (omega arith) in
    let count : length w.parts ≡ i = parts_length v (take i holes) w.parts w.show ∙ few in
    let next : 0 + length w.parts ≡ i = omega arith in
    let all : take i holes ++ (hole ∷ drop (suc i) holes) ≡ holes = ap (λ (h : Hole). take i holes ++ (h ∷ drop (suc i) holes)) here ∙ sym (split_at holes i hole within) in
    let text : templates 0 (w.parts ++ p ∷ others.0) ≡ templates 0 w.parts ++ (part_text i p ++ templates (suc i) others.0) =
    templates_append 0 w.parts (p ∷ others.0) ∙ ap (λ (n : ℕ). templates 0 w.parts ++ templates n (p ∷ others.0)) next in
    record {
      parts = w.parts ++ p ∷ others.0;
      show = subst (λ (hs : List Hole). PartsShow v hs (w.parts ++ p ∷ others.0)) all (parts_append v (take i holes) (hole ∷ drop (suc i) holes) w.parts (p ∷ others.0) w.show (sent.1, others.1));
      begun = suc i;
      some = omega arith;
      few = omega (arith, within);
      made = begun_more (stops_short why) r holes i hole old mid new within here w.made begun;
      told = told_more points between later (length (take i holes)) w.told reached
          ∙ ap (λ (n : ℕ). and_points points (replicate n BeforePart)) (ap suc few);
      wrote = front_in written now later-written (templates 0 (w.parts ++ p ∷ others.0)) (templates 0 w.parts) (part_text i p) (templates (suc i) others.0) text w.wrote sent.2;
    }
