-- What is sent behind what was sent first.
use Rattle.std.proofs.Common.{◌≡◌, ◌∙◌, ◌++◌, ◌≤◌, List, [], ◌∷◌, ℕ, true, false, Option, ap, sym, refl, subst, arith, inl, inr, length, length-append}
use Rattle.std.proofs.Math.Seq.{take-length}
use Rattle.std.proofs.lemmas.List.{append-nil, take-append-le}
use Rattle.content_rows.specs.declared.cell.Cell.{Cell}
use Rattle.content_rows.specs.declared.row.Row.{Row}
use Rattle.content_state.specs.State.{State}
use Rattle.content_state.specs.declared.ask.Ask.{Ask}
use Rattle.content_state.specs.declared.element.Hole.{Hole}
use Rattle.element_entries.specs.Readers.{Reader}
use Rattle.late_out.specs.Marks.{body_end}
use Rattle.late_pages.specs.Late.{IsFirst, IsOpened, IsSent, LatePart, PartsShow, late_places, parts_sent, templates}
use Rattle.render_array.specs.Shown.{visit_of}
use Rattle.site_house.specs.House.{HouseView}
use Rattle.site_io.specs.declared.device.Point.{Point}
use Rattle.site_io.specs.Told.{after, AddsFront}
use Rattle.site_late.specs.declared.late.Ready.{Ready}
use Rattle.site_late.specs.declared.late.Sent.{Sent}
use Rattle.site_late.specs.declared.late.Sent.TheVariants as sent
use Rattle.site_late.specs.declared.parts.Stop.{Stop}
use Rattle.site_late.specs.declared.parts.Stop.TheVariants as stop
use Rattle.site_late.specs.Making.{MakesBegun, MakesParts}
use Rattle.site_late.specs.Parts.{WritesAll, WritesSome, stops_short}
use Rattle.site_late.specs.Ready.{IsOpen, SendsRest}
use Rattle.site_late.specs.Sending.{Until, is_short, places_sent, reader_of}
use Rattle.site_late.proofs.Joining.{front_in}
use Rattle.site_late.proofs.Making.{begun_all, begun_none}
use Rattle.site_late.proofs.Told.{after_after, after_nothing, points_nothing}
use Rattle.site_late.proofs.Templates.{parts_length}

-- ---- what makes a page of what is sent first

-- a page, of which so many parts were sent behind what was sent first, in these places
pub record Ends (rows : List (Cell × Row)) (ask : Ask) (moment status : ℕ) (text : List ℕ) (count : ℕ) (places : List Hole) : Type 0 where
  pub page : IsSent rows ask moment status text
  pub parts : parts_sent page ≡ count
  pub places_are : places_sent page ≡ places

-- what stands behind it: nothing where no place is open, and else its parts, and the end of the page
abbrev pub behind : List LatePart → List ℕ
behind parts = templates 0 parts ++ body_end

opened_ends : (rows : List (Cell × Row)) (ask : Ask) (moment status : ℕ) (text : List ℕ) (holes : List Hole) (parts : List LatePart) → IsOpened rows ask moment status text holes → PartsShow (visit_of rows ask moment) holes parts → Ends rows ask moment status (text ++ behind parts) (length parts) holes
opened_ends rows ask moment status text holes parts o each = record {
  page = inr (record {
    shown = o.shown;
    libraries = o.libraries;
    parts = parts;
    shows = o.shows;
    each = subst (λ (hs : List Hole). PartsShow (visit_of rows ask moment) hs parts) (sym o.places) each;
    first = text;
    first_is = o.marked_is;
    text_is = refl;
  });
  parts = refl;
  places_are = o.places;
}

-- where a place is open
pub some_end : (rows : List (Cell × Row)) (ask : Ask) (moment status : ℕ) (text : List ℕ) (holes : List Hole) (parts : List LatePart) → (holes ≡ [] → ⊥) → IsFirst rows ask moment status text holes → PartsShow (visit_of rows ask moment) holes parts → Ends rows ask moment status (text ++ behind parts) (length parts) holes
some_end rows ask moment status text [] parts some first each = absurd (some refl)
some_end rows ask moment status text (h ∷ hs) parts some first each = opened_ends rows ask moment status text (h ∷ hs) parts first each

no_items : (holes : List Hole) → length holes ≡ 0 → holes ≡ []
no_items [] none = refl
no_items (h ∷ hs) none = absurd (omega arith)

-- no part is sent, so no place is open
no_places : {rows : List (Cell × Row)} {ask : Ask} {moment status : ℕ} {text : List ℕ} (page : IsSent rows ask moment status text) → parts_sent page ≡ 0 → places_sent page ≡ []
no_places (inl whole) none = refl
no_places {rows} {ask} {moment} (inr late) none =
    no_items (late_places late.shown) (sym (parts_length (visit_of rows ask moment) (late_places late.shown) late.parts late.each) ∙ none)

none_ends : (rows : List (Cell × Row)) (ask : Ask) (moment status : ℕ) (text : List ℕ) → IsFirst rows ask moment status text [] → Ends rows ask moment status (text ++ []) 0 []
none_ends rows ask moment status text first =
    subst (λ (t : List ℕ). Ends rows ask moment status t 0 []) (sym (append-nil text)) (record { page = first.0; parts = first.1; places_are = no_places first.0 first.1 })

-- in any case there is such a page
pub may_end : (rows : List (Cell × Row)) (ask : Ask) (moment status : ℕ) (text : List ℕ) (holes : List Hole) → IsFirst rows ask moment status text holes → (parts : List LatePart) × PartsShow (visit_of rows ask moment) holes parts → (rest : List ℕ) × (count : ℕ) × Ends rows ask moment status (text ++ rest) count holes
may_end rows ask moment status text [] first parts = ([], 0, none_ends rows ask moment status text first)
may_end rows ask moment status text (h ∷ hs) first parts = (behind parts.0, length parts.0, opened_ends rows ask moment status text (h ∷ hs) parts.0 first parts.1)

-- ---- what was sent behind it

-- no place was open
pub rest_none : (house : HouseView) (r : Ready) (state : State) (ask : Ask) (moment : ℕ) (points : Option (List Point)) (written : Option (List ℕ)) → r.late.holes.items ≡ [] → IsOpen state ask moment r → SendsRest sent.Written house house state ask moment r points points written written
rest_none house r state ask moment points written none opens =
    let rows = state.rows in
    let ends = none_ends rows ask moment r.late.status r.late.parts (subst (λ (hs : List Hole). IsFirst rows ask moment r.late.status r.late.parts hs) none opens.first) in
    record {
      rest = [];
      page = ends.page;
      parts = 0;
      bytes = 0;
      told = points_nothing points;
      wrote = after_nothing written;
      until = (sym ends.parts, refl);
      still = λ none. refl;
      made = begun_none (reader_of state ask moment) (places_sent ends.page) house;
    }

-- all parts of these places were made
all_made : (state : State) (ask : Ask) (moment : ℕ) (holes places : List Hole) (old new : HouseView) → places ≡ holes → MakesParts (reader_of state ask moment) holes old new → MakesBegun false (reader_of state ask moment) places (length holes) old new
all_made state ask moment holes places old new same made =
    subst (λ (hs : List Hole). MakesBegun false (reader_of state ask moment) hs (length holes) old new) (sym same) (begun_all (reader_of state ask moment) holes old new made)

-- all parts were sent, and the end of the page
pub rest_all : (old new : HouseView) (r : Ready) (state : State) (ask : Ask) (moment : ℕ) (points points' : Option (List Point)) (written now later : Option (List ℕ)) → (r.late.holes.items ≡ [] → ⊥) → IsOpen state ask moment r
    → WritesAll (reader_of state ask moment) r.late.holes.items old new points points' written now → later ≡ after now (body_end ++ []) → SendsRest sent.Written old new state ask moment r points points' written later
rest_all old new r state ask moment points points' written now later some opens w last =
    let rows = state.rows in
    let v = visit_of rows ask moment in
    let holes = r.late.holes.items in
    let ends = some_end rows ask moment r.late.status r.late.parts holes w.parts some opens.first w.show in
    let rest = behind w.parts in
    record {
      rest = rest;
      page = ends.page;
      parts = length holes;
      bytes = length rest;
      told = w.told;
      wrote =
          last ∙ ap (after now) (append-nil body_end) ∙ ap (λ (o : Option (List ℕ)). after o body_end) w.wrote
          ∙ after_after written (templates 0 w.parts) body_end ∙ ap (after written) (sym (take-length rest));
      until = (sym (parts_length v holes w.parts w.show) ∙ sym ends.parts, refl);
      still = λ none. absurd (some (no_items holes none));
      made = all_made state ask moment holes (places_sent ends.page) old new ends.places_are w.made;
    }

-- all parts were sent, and a front of the end of the page
pub rest_front : (old new : HouseView) (r : Ready) (state : State) (ask : Ask) (moment : ℕ) (points points' : Option (List Point)) (written now later : Option (List ℕ)) → (r.late.holes.items ≡ [] → ⊥) → IsOpen state ask moment r
    → WritesAll (reader_of state ask moment) r.late.holes.items old new points points' written now → AddsFront now later (body_end ++ []) → SendsRest sent.WriteFault old new state ask moment r points points' written later
rest_front old new r state ask moment points points' written now later some opens w last =
    let rows = state.rows in
    let v = visit_of rows ask moment in
    let holes = r.late.holes.items in
    let ends = some_end rows ask moment r.late.status r.late.parts holes w.parts some opens.first w.show in
    let front = front_in written now later (behind w.parts) (templates 0 w.parts) (body_end ++ []) [] (ap (λ (l : List ℕ). templates 0 w.parts ++ l) (sym (append-nil body_end) ∙ sym (append-nil (body_end ++ [])))) w.wrote last in
    let long = parts_length v holes w.parts w.show in
    let same = ends.parts in
    record {
      rest = behind w.parts;
      page = ends.page;
      parts = length holes;
      bytes = front.count;
      told = w.told;
      wrote = front.told;
      until = (omega (arith, long, same), front.within);
      still = λ none. absurd (some (no_items holes none));
      made = all_made state ask moment holes (places_sent ends.page) old new ends.places_are w.made;
    }

-- some parts were sent
abbrev pub stopped : Stop → Sent
stopped stop.WriteFault = sent.WriteFault
stopped stop.OutOfMemory = sent.OutOfMemory

until_stop : (s : Stop) (count parts : ℕ) (text : List ℕ) (bytes : ℕ) → parts ≤ count → bytes ≤ length text → Until (stopped s) count parts text bytes
until_stop stop.WriteFault count parts text bytes few within = (few, within)
until_stop stop.OutOfMemory count parts text bytes few within = (few, within)

some_made : (s : Stop) (r : Reader) (holes places : List Hole) (begun : ℕ) (old new : HouseView) → places ≡ holes → MakesBegun (stops_short s) r holes begun old new → MakesBegun (is_short (stopped s)) r places begun old new
some_made stop.WriteFault r holes places begun old new same made = subst (λ (hs : List Hole). MakesBegun false r hs begun old new) (sym same) made
some_made stop.OutOfMemory r holes places begun old new same made = subst (λ (hs : List Hole). MakesBegun true r hs begun old new) (sym same) made

pub rest_some : (s : Stop) (old new : HouseView) (r : Ready) (state : State) (ask : Ask) (moment : ℕ) (points points' : Option (List Point)) (written later : Option (List ℕ)) → (r.late.holes.items ≡ [] → ⊥) → IsOpen state ask moment r
    → WritesSome s (reader_of state ask moment) r.late.holes.items old new points points' written later → SendsRest (stopped s) old new state ask moment r points points' written later
rest_some s old new r state ask moment points points' written later some opens w =
    let rows = state.rows in
    let v = visit_of rows ask moment in
    let holes = r.late.holes.items in
    let ends = some_end rows ask moment r.late.status r.late.parts holes w.parts some opens.first w.show in
    let long = parts_length v holes w.parts w.show in
    let same = ends.parts in
    let few = w.few in
    let within = w.wrote.within in
    record {
      rest = behind w.parts;
      page = ends.page;
      parts = w.begun;
      bytes = w.wrote.count;
      told = w.told;
      wrote = w.wrote.told ∙ ap (after written) (sym (take-append-le w.wrote.count (templates 0 w.parts) body_end within));
      until = until_stop s (parts_sent ends.page) w.begun (behind w.parts) w.wrote.count (omega (arith, few, long, same)) (omega (arith, within, length-append (templates 0 w.parts) body_end));
      still = λ none. absurd (let begun = w.some in omega (arith, begun, none));
      made = some_made s (reader_of state ask moment) holes (places_sent ends.page) w.begun old new ends.places_are w.made;
    }
