-- What became of a late reply, as a reply and its story.
use Rattle.std.proofs.Common.{◌≡◌, ◌∙◌, ◌≤◌, ◌++◌, List, [], ◌∷◌, ℕ, Bool, true, Option, if◌then◌else◌, take, ap, sym, refl, subst, arith, inl}
use Rattle.std.proofs.Math.Seq.{take-length}
use Rattle.std.proofs.lemmas.List.{append-nil, take-replicate}
use Rattle.content_state.specs.declared.ask.Ask.{Ask}
use Rattle.http_heads.specs.declared.request.Request.{Request}
use Rattle.site_house.specs.House.{HouseView, Stays, history_of}
use Rattle.site_house.specs.History.{newest, state_of}
use Rattle.site_io.specs.declared.device.Point.{Point}
use Rattle.site_io.specs.declared.device.Point.TheVariants.{AfterSnapshot, BeforeReply, BeforePart}
use Rattle.site_io.specs.Series.{last_moment}
use Rattle.site_io.specs.Told.{after}
use Rattle.site_late.specs.Sending.{Begins, and_points, is_short, late_points, reader_of}
use Rattle.site_late.specs.declared.late.Sent.{Sent}
use Rattle.site_late.specs.declared.late.Sent.TheVariants as sent
use Rattle.site_late.proofs.Templates.{places_count}
use Rattle.site_late.proofs.Told.{after_nothing}
use Rattle.site_http.specs.declared.answer.Made.{Made}
use Rattle.site_http.specs.Called.{Called, ToLate, called, called_whole, ask_of}
use Rattle.site_http.specs.Kept.{shelves_of}
use Rattle.site_http.specs.Reply.{IsAnswer, IsLate, IsText, Story, late_story}
use Rattle.site_http.specs.Connection.{Out}
use Rattle.site_http.specs.Turn.{LateReplied, Makes, Making, Replied}
use Rattle.site_http.proofs.Parts.{Needed, keeps_late, keeps_whole, needed, needed_all, short_count}

late_called : (request : Request) → request.late ≡ true → ToLate ≡ called request
unfolding called
late_called request late = ap (λ (b : Bool). if b then ToLate else called_whole request) (sym late)

-- what is made for what is asked is made for a request that asks it late
pub makes_late : {old new : Making} (request : Request) (ask : Ask) (moment : ℕ) (closing : Bool) (text : Made) → request.late ≡ true → ask ≡ ask_of request → Makes old new ToLate ask moment closing text → Makes old new (called request) (ask_of request) moment closing text
makes_late {old} {new} request ask moment closing text late asks makes =
    subst (λ (c : Called). Makes old new c (ask_of request) moment closing text) (late_called request late)
    (subst (λ (a : Ask). Makes old new ToLate a moment closing text) asks makes)

-- what stands around it
abbrev out_of : HouseView → Option (List ℕ) → Option (List ℕ) → Option (List Point) → Option (List ℕ) → Out
out_of house given words points written = record { given = given; words = words; points = points; written = written; handed = house.handed; keepers = house.keepers; kept = shelves_of house }

-- what was needed for its parts
needed_by : {old new : HouseView} {points points' : Option (List Point)} {written written' : Option (List ℕ)} {how : Sent} (ask : Ask) (moment : ℕ) (closing : Bool) → (b : Begins how (record { house = old; points = points; written = written }) (record { house = new; points = points'; written = written' }) ask moment closing) → Needed (reader_of (state_of (history_of new) b.number) ask moment) b.places b.made.made b.middle b.made.between
needed_by {old} {new} ask moment closing b =
    needed (reader_of (state_of (history_of new) b.number) ask moment) b.places b.made.made b.middle b.made.between b.first.went b.first.needed b.made.parts

-- the story of the whole reply
abbrev story_by : {old new : HouseView} {points points' : Option (List Point)} {written written' : Option (List ℕ)} {how : Sent} (ask : Ask) (moment : ℕ) (closing : Bool) → Begins how (record { house = old; points = points; written = written }) (record { house = new; points = points'; written = written' }) ask moment closing → Story
story_by {old} {new} ask moment closing b =
    let n = needed_by ask moment closing b in
    record (late_story (state_of (history_of new) b.number) ask moment b.built b.count b.first.went (n.made ++ n.others) b.text) { high = b.number }

page_by : {old new : HouseView} {points points' : Option (List Point)} {written written' : Option (List ℕ)} {how : Sent} (request : Request) (ask : Ask) (moment : ℕ) (closing : Bool) → moment ≤ last_moment → request.late ≡ true → ask ≡ ask_of request
    → (b : Begins how (record { house = old; points = points; written = written }) (record { house = new; points = points'; written = written' }) ask moment closing) → IsLate (history_of new) (newest (history_of old)) (ask_of request) closing (story_by ask moment closing b)
page_by {old} {new} request ask moment closing within late asks b =
    let story = story_by ask moment closing b in
    let n = needed_by ask moment closing b in
    subst (λ (a : Ask). IsLate (history_of new) (newest (history_of old)) a closing story) asks
    (record {
      moment = moment;
      number = b.number;
      built = b.built;
      count = b.count;
      went = b.first.went;
      places = b.places;
      wents = n.made ++ n.others;
      text = b.text;
      within = within;
      on = b.on;
      reply = b.reply;
      needed = b.first.needed;
      counted = b.first.counted;
      of_parts = needed_all (reader_of (state_of (history_of new) b.number) ask moment) b.places b.made.made b.middle b.made.between n;
      story_is = refl;
    })

text_by : {old new : HouseView} {points points' : Option (List Point)} {written written' : Option (List ℕ)} {how : Sent} (request : Request) (ask : Ask) (moment : ℕ) (closing : Bool) → moment ≤ last_moment → request.late ≡ true → ask ≡ ask_of request
    → (b : Begins how (record { house = old; points = points; written = written }) (record { house = new; points = points'; written = written' }) ask moment closing) → IsText (history_of new) (newest (history_of old)) request closing (story_by ask moment closing b)
text_by {old} {new} request ask moment closing within late asks b =
    subst (λ (c : Called). IsAnswer (history_of new) (newest (history_of old)) c (ask_of request) closing (story_by ask moment closing b)) (late_called request late)
    (inl (page_by request ask moment closing within late asks b))

-- it was written whole
pub late_replied : {old new : HouseView} (given words written written' : Option (List ℕ)) (points points' : Option (List Point)) (request : Request) (ask : Ask) (moment : ℕ) (closing : Bool) → moment ≤ last_moment → Stays old new → request.late ≡ true → ask ≡ ask_of request
    → Begins sent.Written (record { house = old; points = points; written = written }) (record { house = new; points = points'; written = written' }) ask moment closing
    → Replied (out_of old given words points written) (out_of new (after given (moment ∷ [])) words points' written') (history_of new) (newest (history_of old)) request closing
late_replied {old} {new} given words written written' points points' request ask moment closing within stays late asks b =
    let reader = reader_of (state_of (history_of new) b.number) ask moment in
    record {
      story = story_by ask moment closing b;
      text = text_by request ask moment closing within late asks b;
      gave = record {
        clock = refl;
        chance = after_nothing words;
        gate = b.points ∙ ap (λ (n : ℕ). and_points points (late_points b.built n)) b.until.0;
        sink = b.written ∙ ap (λ (n : ℕ). after written (take n b.text)) b.until.1 ∙ ap (after written) (take-length b.text);
        house = stays.handed ∙ sym (append-nil old.handed);
        failures = stays.keepers;
        kept = keeps_whole old b.middle b.made.between new reader b.first.went b.places b.made.made b.parts (needed_by ask moment closing b) (b.until.0 ∙ places_count b.reply) b.before b.first.goes b.made.last;
      };
      not_above = b.on.to;
    }

-- a front of it was written
pub late_front : {old new : HouseView} {how : Sent} (given words written written' : Option (List ℕ)) (points points' : Option (List Point)) (request : Request) (ask : Ask) (moment : ℕ) (closing : Bool) → moment ≤ last_moment → Stays old new → request.late ≡ true → ask ≡ ask_of request
    → (b : Begins how (record { house = old; points = points; written = written }) (record { house = new; points = points'; written = written' }) ask moment closing) → b.parts ≤ b.count → short_count (is_short how) ≤ b.bytes
    → LateReplied (out_of old given words points written) (out_of new (after given (moment ∷ [])) words points' written') (history_of new) (newest (history_of old)) request closing (short_count (is_short how))
late_front {old} {new} {how} given words written written' points points' request ask moment closing within stays late asks b few some =
    let reader = reader_of (state_of (history_of new) b.number) ask moment in
    let long = places_count b.reply in
    record {
      story = story_by ask moment closing b;
      count = b.bytes;
      parts = b.parts;
      some = some;
      late = late;
      reply = page_by request ask moment closing within late asks b;
      gave = record {
        clock = refl;
        chance = after_nothing words;
        gate = b.points ∙ ap (λ (l : List Point). and_points points (AfterSnapshot ∷ BeforeReply b.built ∷ l)) (sym (take-replicate b.parts b.count BeforePart few));
        sink = b.written;
        house = stays.handed ∙ sym (append-nil old.handed);
        failures = stays.keepers;
        kept = keeps_late old b.middle b.made.between new (is_short how) reader b.first.went b.places b.made.made b.parts (needed_by ask moment closing b) (omega (arith, few, long)) b.before b.first.goes b.made.last;
      };
      not_above = b.on.to;
    }
