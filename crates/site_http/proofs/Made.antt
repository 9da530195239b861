-- What is made on the newest state, as a reply and its story.
use Rattle.std.proofs.Common.{◌≡◌, ◌∙◌, List, [], ◌∷◌, ℕ, Bool, Option, None, take, length, ap, sym, refl, subst, arith, inl, inr, ◌++◌, ◌+◌, ◌≤◌, length-append}
use Rattle.std.proofs.lemmas.List.{append-nil}
use Rattle.content_state.specs.declared.ask.Ask.{Ask}
use Rattle.content_state.specs.declared.commit.Commit.{Commit}
use Rattle.content_state.specs.State.{State}
use Rattle.content_state.specs.Replay.{replay}
use Rattle.http_heads.specs.declared.request.Request.{Request}
use Rattle.site_commands.specs.Judged.{judged}
use Rattle.site_commands.specs.declared.answer.Done.{Done}
use Rattle.site_commands.specs.declared.answer.Refusal.{Refusal}
use Rattle.site_commands.specs.declared.command.Command.{Command}
use Rattle.edit_bodies.specs.Commands.{command_in}
use Rattle.edit_bodies.specs.declared.words.Words.{Words}
use Rattle.edit_replies.specs.Texts.{refused_text, done_text, keeper_text}
use Rattle.site_house.specs.House.{HouseView, AreValid, Moves, Stays, KeepsAll, Accepts, Refuses, Fails, HandedAtMost, history_of}
use Rattle.site_house.specs.History.{History, OnLog, newest, state_of}
use Rattle.site_house.proofs.Histories.{moves_longer, newest_state, on_newest, on_grows, state_grows, history_moves, log_to_newest}
use Rattle.site_io.specs.Reached.{and_point}
use Rattle.site_io.specs.Series.{last_moment}
use Rattle.site_io.specs.Told.{after, AddsFront}
use Rattle.site_io.specs.declared.device.Point.{Point}
use Rattle.site_io.specs.declared.device.Point.TheVariants.{AfterSnapshot, BeforeReply}
use Rattle.site_http.specs.declared.answer.Made.{Made}
use Rattle.site_http.specs.declared.call.Reading.{Reading}
use Rattle.site_http.specs.Called.{Called, ToRead, ToLate, ToEdit, Wish, called, ask_of}
use Rattle.site_http.specs.Reply.{Says, IsDrawn, HandedOnce, MayTell, MayDraw, MayNeed, told, answered, listed, memory_text}
use Rattle.kept_pages.specs.Held.{Shelves}
use Rattle.site_http.specs.Kept.{Need, Needing, KeepsFor, shelves_of}
use Rattle.site_late.specs.Sending.{ToldOnTheWay, and_points}
use Rattle.site_http.specs.Turn.{Makes, Committed, OnSeen, Replied, HalfReplied, bytes_of}
use Rattle.site_http.proofs.Kept.{keeps_nothing, keeps_unknown, same_shelves}
use Rattle.site_late.proofs.Told.{after_nothing, points_points, points_nothing, point_of}

-- what is said on the state that was seen
pub said_on : (old mid new : HouseView) (state : State) (reading : Reading) (ask : Ask) (moment : ℕ) (closing : Bool) (bytes : List ℕ) (built : ℕ) (needs : List (Option Need)) → Moves old mid → AreValid mid.base mid.seen → state ≡ replay mid.base mid.seen → Moves mid new
    → Says reading state ask moment closing bytes built needs → OnSeen old new (λ (s : State). Says reading s ask moment closing bytes built needs)
said_on old mid new state reading ask moment closing bytes built needs before valid is after says =
    let number = newest (history_of mid) in
    let longer_is = history_moves after in
    record {
      number = number;
      on = subst (λ (h : History). OnLog h (newest (history_of old)) number) (sym longer_is)
          (on_grows (history_of mid) after.grows.0 (newest (history_of old)) number (on_newest (history_of mid) (newest (history_of old)) valid (moves_longer before)));
      holds = subst (λ (s : State). Says reading s ask moment closing bytes built needs)
          (is ∙ sym (newest_state (history_of mid)) ∙ sym (state_grows (history_of mid) after.grows.0 number (omega arith)) ∙ ap (λ (h : History). state_of h number) (sym longer_is)) says;
    }

-- nothing was kept or looked for before a reply was made on the state that was seen
pub needed_on : (old mid new : HouseView) (needs : List (Option Need)) → KeepsAll old mid → KeepsFor needs (shelves_of mid) (shelves_of new) → KeepsFor needs (shelves_of old) (shelves_of new)
needed_on old mid new needs keeps kept = subst (λ (o : Option Shelves). KeepsFor needs o (shelves_of new)) (same_shelves old mid keeps) kept

-- some points, and then that of the reply
told_on : (before between after : Option (List Point)) (points : List Point) (built : ℕ) → between ≡ and_points before points → after ≡ and_point between (BeforeReply built) → after ≡ and_points before (points ++ BeforeReply built ∷ [])
told_on before between after points built first second =
    second ∙ point_of between (BeforeReply built) ∙ ap (λ (o : Option (List Point)). and_points o (BeforeReply built ∷ [])) first ∙ points_points before points (BeforeReply built ∷ [])

-- ---- what is read

-- what was said on a state that was seen
pub read_made : {old new : HouseView} (words : Option (List ℕ)) (before between points : Option (List Point)) (reading : Reading) (ask : Ask) (moment : ℕ) (closing : Bool) (text : Made) (built : ℕ) → moment ≤ last_moment → Moves old new → Stays old new → Needing old new (λ (needs : List (Option Need)). OnSeen old new (λ (s : State). Says reading s ask moment closing (bytes_of text) built needs)) → between ≡ and_point before AfterSnapshot → points ≡ and_point between (BeforeReply built) → Makes (record { house = old; words = words; points = before }) (record { house = new; words = words; points = points }) (ToRead reading) ask moment closing text
read_made {old} {new} words before between points reading ask moment closing text built within moves stays needing first second =
    let says = needing.holds in
    record {
      story = record (told moment (AfterSnapshot ∷ []) built (bytes_of text) says.number) { needs = needing.needs };
      is = inl (record {
        moment = moment;
        number = says.number;
        text = bytes_of text;
        built = built;
        needs = needing.needs;
        within = within;
        on = says.on;
        holds = says.holds;
        story_is = refl;
      });
      moments = refl;
      chance = after_nothing words;
      gate = told_on before between points (AfterSnapshot ∷ []) built (first ∙ point_of before AfterSnapshot) second;
      text_is = refl;
      house = stays.handed ∙ sym (append-nil old.handed);
      failures = stays.keepers;
      kept = needing.kept;
      not_above = says.on.to;
    }

wanting_at : {old new : HouseView} (words : Option (List ℕ)) (before between points : Option (List Point)) (until : List Point) (needs : List (Option Need)) (c : Called) (ask : Ask) (moment : ℕ) (closing : Bool) (text : Made) → MayTell c until → MayDraw c None → MayNeed c needs → moment ≤ last_moment → Moves old new → Stays old new → KeepsFor needs (shelves_of old) (shelves_of new) → between ≡ and_points before until → points ≡ and_point between (BeforeReply 0) → memory_text closing ≡ bytes_of text → Makes (record { house = old; words = words; points = before }) (record { house = new; words = words; points = points }) c ask moment closing text
wanting_at {old} {new} words before between points until needs c ask moment closing text tell draw need within moves stays kept first second is = record {
  story = record (told moment until 0 (memory_text closing) (newest (history_of new))) { needs = needs };
  is = inr (record {
    moment = moment;
    number = newest (history_of new);
    points = until;
    drawn = None;
    within = within;
    from_base = omega arith;
    from = moves_longer moves;
    to = omega arith;
    before_or_after = tell;
    words = draw;
    needs = needs;
    may_need = need;
    story_is = refl;
  });
  moments = refl;
  chance = after_nothing words;
  gate = told_on before between points until 0 first second;
  text_is = is;
  house = stays.handed ∙ sym (append-nil old.handed);
  failures = stays.keepers;
  kept = kept;
  not_above = omega arith;
}

-- memory was wanting to read the newest state
pub unread_made : {old new : HouseView} (words : Option (List ℕ)) (before between points : Option (List Point)) (reading : Reading) (ask : Ask) (moment : ℕ) (closing : Bool) (text : Made) → moment ≤ last_moment → Moves old new → Stays old new → ToldOnTheWay before between → points ≡ and_point between (BeforeReply 0) → memory_text closing ≡ bytes_of text → Makes (record { house = old; words = words; points = before }) (record { house = new; words = words; points = points }) (ToRead reading) ask moment closing text
unread_made words before between points reading ask moment closing text within moves stays first second is = elim first [
  | inl none ↦ wanting_at words before between points [] (None ∷ []) (ToRead reading) ask moment closing text (inl refl) refl (inr refl) within moves stays (keeps_unknown moves) none second is
  | inr one ↦ wanting_at words before between points (AfterSnapshot ∷ []) (None ∷ []) (ToRead reading) ask moment closing text (inr refl) refl (inr refl) within moves stays (keeps_unknown moves) one second is
]

-- the same for a page that is sent late
pub unsent_made : {old new : HouseView} (words : Option (List ℕ)) (before between points : Option (List Point)) (ask : Ask) (moment : ℕ) (closing : Bool) (text : Made) → moment ≤ last_moment → Moves old new → Stays old new → ToldOnTheWay before between → points ≡ and_point between (BeforeReply 0) → memory_text closing ≡ bytes_of text → Makes (record { house = old; words = words; points = before }) (record { house = new; words = words; points = points }) ToLate ask moment closing text
unsent_made words before between points ask moment closing text within moves stays first second is = elim first [
  | inl none ↦ wanting_at words before between points [] (None ∷ []) ToLate ask moment closing text (inl refl) refl (inr refl) within moves stays (keeps_unknown moves) none second is
  | inr one ↦ wanting_at words before between points (AfterSnapshot ∷ []) (None ∷ []) ToLate ask moment closing text (inr refl) refl (inr refl) within moves stays (keeps_unknown moves) one second is
]

may_tell_nothing : (c : Called) → MayTell c []
may_tell_nothing (ToRead reading) = inl refl
may_tell_nothing ToLate = inl refl
may_tell_nothing (ToEdit wish) = refl

may_draw_nothing : (c : Called) → MayDraw c None
may_draw_nothing (ToRead reading) = refl
may_draw_nothing ToLate = refl
may_draw_nothing (ToEdit wish) = inl refl

may_need_nothing : (c : Called) → MayNeed c []
may_need_nothing (ToRead reading) = inl refl
may_need_nothing ToLate = inl refl
may_need_nothing (ToEdit wish) = refl

pub stays_same : (house : HouseView) → Stays house house
stays_same house = record { handed = refl; keepers = refl }

keeps_same : (house : HouseView) → KeepsAll house house
keeps_same house = record { bins = refl; unkept = refl }

-- memory was wanting to tell what is asked for
pub unasked_made : {house : HouseView} (words : Option (List ℕ)) (before points : Option (List Point)) (c : Called) (ask : Ask) (moment : ℕ) (closing : Bool) (text : Made) → moment ≤ last_moment → Moves house house → points ≡ and_point before (BeforeReply 0) → memory_text closing ≡ bytes_of text → Makes (record { house = house; words = words; points = before }) (record { house = house; words = words; points = points }) c ask moment closing text
unasked_made {house} words before points c ask moment closing text within moves reached is =
    wanting_at words before before points [] [] c ask moment closing text (may_tell_nothing c) (may_draw_nothing c) (may_need_nothing c) within moves (stays_same house) (keeps_nothing (shelves_of house) (shelves_of house) refl) (points_nothing before) reached is

-- ---- edits

-- the judgement of an edit, by the command that was made of it
by_command : (base : State) (log : List Commit) (ask : Ask) (wish : Wish) (drawn : Option Words) (command : Command) (moment pass : ℕ) → command ≡ command_in wish.edit wish.sent drawn → judged base log ask wish.csrf (command_in wish.edit wish.sent drawn) moment pass ≡ judged base log ask wish.csrf command moment pass
by_command base log ask wish drawn command moment pass is = ap (λ (k : Command). judged base log ask wish.csrf k moment pass) (sym is)

-- an edit that was accepted
pub accepted_made : {old new : HouseView} (wish : Wish) (ask : Ask) (drawn : Option Words) (sent : Option (List ℕ)) (command : Command) (moment : ℕ) (closing : Bool) (text : Made) (done : Done) (number : ℕ) → moment ≤ last_moment → IsDrawn wish drawn → sent ≡ wish.csrf → command ≡ command_in wish.edit wish.sent drawn → Moves old new → KeepsAll old new → AreValid new.base new.seen → Accepts old new ask sent command moment done number → done_text done number closing ≡ bytes_of text → Committed old new wish ask drawn moment closing text
accepted_made {old} {new} wish ask drawn sent command moment closing text done number within draws same is moves keeps valid accepts has =
    let a = subst (λ (value : Option (List ℕ)). Accepts old new ask value command moment done number) same accepts in
    let newer : newest (history_of new) ≡ number = sym a.number_is in
    let longer : length new.seen ≡ length a.before + 1 = ap length a.stands ∙ length-append a.before (a.commit ∷ []) in
    let begins : length a.before ≡ length old.seen + length a.begins.0 = ap length a.begins.1 ∙ length-append old.seen a.begins.0 in
    let base : new.base.number ≡ old.base.number = ap (λ (s : State). s.number) moves.base in
    record {
      story = answered moment drawn (done_text done (newest (history_of new)) closing) (a.commit ∷ []) 0 (newest (history_of new));
      is = inl (inr (inl (record {
        moment = moment;
        number = newest (history_of new);
        drawn = drawn;
        before = a.before;
        commit = a.commit;
        done = done;
        within = within;
        on = on_newest (history_of new) (newest (history_of old)) valid (moves_longer moves);
        above = omega arith;
        words = draws;
        stands = log_to_newest (history_of new) ∙ a.stands;
        accepted = by_command new.base a.before ask wish drawn command moment new.number is ∙ a.judged_is;
        story_is = refl;
      })));
      moments = refl;
      words = refl;
      points = refl;
      text_is = ap (λ (n : ℕ). done_text done n closing) newer ∙ has;
      house = a.handed;
      failures = a.keepers;
      needs = refl;
      kept = same_shelves old new keeps;
      not_above = omega arith;
    }

-- an edit that was refused
pub refused_made : {old new : HouseView} (wish : Wish) (ask : Ask) (drawn : Option Words) (sent : Option (List ℕ)) (command : Command) (moment : ℕ) (closing : Bool) (text : Made) (refusal : Refusal) (number : ℕ) → moment ≤ last_moment → IsDrawn wish drawn → sent ≡ wish.csrf → command ≡ command_in wish.edit wish.sent drawn → Moves old new → KeepsAll old new → AreValid new.base new.seen → Refuses old new ask sent command moment refusal number → refused_text refusal number closing ≡ bytes_of text → Committed old new wish ask drawn moment closing text
refused_made {old} {new} wish ask drawn sent command moment closing text refusal number within draws same is moves keeps valid refuses has =
    let r = subst (λ (value : Option (List ℕ)). Refuses old new ask value command moment refusal number) same refuses in
    let newer : newest (history_of new) ≡ number = sym r.number_is in
    record {
      story = answered moment drawn (refused_text refusal (newest (history_of new)) closing) [] 0 (newest (history_of new));
      is = inl (inl (record {
        moment = moment;
        number = newest (history_of new);
        drawn = drawn;
        refusal = refusal;
        within = within;
        on = on_newest (history_of new) (newest (history_of old)) valid (moves_longer moves);
        words = draws;
        refused =
            ap (λ (log : List Commit). judged new.base log ask wish.csrf (command_in wish.edit wish.sent drawn) moment new.number) (log_to_newest (history_of new))
            ∙ by_command new.base new.seen ask wish drawn command moment new.number is ∙ r.judged_is;
        story_is = refl;
      }));
      moments = refl;
      words = refl;
      points = refl;
      text_is = ap (λ (n : ℕ). refused_text refusal n closing) newer ∙ has;
      house = r.stays.handed ∙ sym (append-nil old.handed);
      failures = r.stays.keepers;
      needs = refl;
      kept = same_shelves old new keeps;
      not_above = omega arith;
    }

-- what was handed in of an edit whose keeper failed
handed_once : (house : HouseView) (wish : Wish) (ask : Ask) (drawn : Option Words) (command : Command) (moment : ℕ) → command ≡ command_in wish.edit wish.sent drawn → (more : List Commit) → HandedAtMost house ask wish.csrf command moment more → HandedOnce (history_of house) (newest (history_of house)) wish ask drawn moment more
handed_once house wish ask drawn command moment is [] at_most = tt
handed_once house wish ask drawn command moment is (commit ∷ []) at_most = (
  at_most.0,
  ap (λ (log : List Commit). judged house.base log ask wish.csrf (command_in wish.edit wish.sent drawn) moment house.number) (log_to_newest (history_of house))
      ∙ by_command house.base house.seen ask wish drawn command moment house.number is ∙ at_most.1,
)
handed_once house wish ask drawn command moment is (commit ∷ other ∷ others) at_most = at_most

-- an edit whose keeper failed
pub failed_made : {old new : HouseView} (wish : Wish) (ask : Ask) (drawn : Option Words) (sent : Option (List ℕ)) (command : Command) (moment : ℕ) (closing : Bool) (text : Made) → moment ≤ last_moment → IsDrawn wish drawn → sent ≡ wish.csrf → command ≡ command_in wish.edit wish.sent drawn → Moves old new → KeepsAll old new → AreValid new.base new.seen → Fails old new ask sent command moment → keeper_text closing ≡ bytes_of text → Committed old new wish ask drawn moment closing text
failed_made {old} {new} wish ask drawn sent command moment closing text within draws same is moves keeps valid fails has =
    let f = subst (λ (value : Option (List ℕ)). Fails old new ask value command moment) same fails in record {
      story = answered moment drawn (keeper_text closing) f.more 1 (newest (history_of new));
      is = inl (inr (inr (record {
        moment = moment;
        number = newest (history_of new);
        drawn = drawn;
        handed = f.more;
        within = within;
        on = on_newest (history_of new) (newest (history_of old)) valid (moves_longer moves);
        words = draws;
        at_most = handed_once new wish ask drawn command moment is f.more f.at_most;
        story_is = refl;
      })));
      moments = refl;
      words = refl;
      points = refl;
      text_is = has;
      house = f.handed;
      failures = f.keepers;
      needs = refl;
      kept = same_shelves old new keeps;
      not_above = omega arith;
    }

-- memory was wanting for an edit, or for its reply where it was refused
pub starved_made : {old new : HouseView} (wish : Wish) (ask : Ask) (drawn : Option Words) (moment : ℕ) (closing : Bool) (text : Made) → moment ≤ last_moment → IsDrawn wish drawn → Moves old new → KeepsAll old new → Stays old new → memory_text closing ≡ bytes_of text → Committed old new wish ask drawn moment closing text
starved_made {old} {new} wish ask drawn moment closing text within draws moves keeps stays has = record {
  story = record (told moment [] 0 (memory_text closing) (newest (history_of new))) { words = listed drawn };
  is = inr (record {
    moment = moment;
    number = newest (history_of new);
    points = [];
    drawn = drawn;
    within = within;
    from_base = omega arith;
    from = moves_longer moves;
    to = omega arith;
    before_or_after = refl;
    words = inr draws;
    needs = [];
    may_need = refl;
    story_is = refl;
  });
  moments = refl;
  words = refl;
  points = refl;
  text_is = has;
  house = stays.handed ∙ sym (append-nil old.handed);
  failures = stays.keepers;
  needs = refl;
  kept = same_shelves old new keeps;
  not_above = omega arith;
}

-- the same before a house was asked
pub unmade : {house : HouseView} (wish : Wish) (ask : Ask) (drawn : Option Words) (moment : ℕ) (closing : Bool) (text : Made) → moment ≤ last_moment → IsDrawn wish drawn → Moves house house → memory_text closing ≡ bytes_of text → Committed house house wish ask drawn moment closing text
unmade {house} wish ask drawn moment closing text within draws moves has =
    starved_made wish ask drawn moment closing text within draws moves (keeps_same house) (stays_same house) has

-- an edit, with the words that were drawn before it, and told to the gate
pub edit_made : {old new : HouseView} (words words' : Option (List ℕ)) (before points : Option (List Point)) (wish : Wish) (ask : Ask) (drawn : Option Words) (moment : ℕ) (closing : Bool) (text : Made) → words' ≡ after words (listed drawn) → points ≡ and_point before (BeforeReply 0) → Committed old new wish ask drawn moment closing text → Makes (record { house = old; words = words; points = before }) (record { house = new; words = words'; points = points }) (ToEdit wish) ask moment closing text
edit_made {old} {new} words words' before points wish ask drawn moment closing text chance reached c = record {
  story = c.story;
  is = c.is;
  moments = c.moments;
  chance = chance ∙ ap (after words) (sym c.words);
  gate = reached ∙ point_of before (BeforeReply 0) ∙ ap (and_points before) (sym c.points);
  text_is = c.text_is;
  house = c.house;
  failures = c.failures;
  kept = subst (λ (needs : List (Option Need)). KeepsFor needs (shelves_of old) (shelves_of new)) (sym c.needs) (keeps_nothing (shelves_of old) (shelves_of new) c.kept);
  not_above = c.not_above;
}

-- ---- what is written

-- the reply that was made was written
pub replied : {old new : HouseView} (given given' words words' written written' : Option (List ℕ)) (points points' : Option (List Point)) (request : Request) (moment : ℕ) (closing : Bool) (text : Made) → given' ≡ after given (moment ∷ []) → Makes (record { house = old; words = words; points = points }) (record { house = new; words = words'; points = points' }) (called request) (ask_of request) moment closing text → written' ≡ after written (bytes_of text) → Replied (record { given = given; words = words; points = points; written = written; handed = old.handed; keepers = old.keepers; kept = shelves_of old }) (record { given = given'; words = words'; points = points'; written = written'; handed = new.handed; keepers = new.keepers; kept = shelves_of new }) (history_of new) (newest (history_of old)) request closing
replied given given' words words' written written' points points' request moment closing text clock m sink = record {
  story = m.story;
  text = m.is;
  gave = record {
    clock = clock ∙ ap (after given) (sym m.moments);
    chance = m.chance;
    gate = m.gate;
    sink = sink ∙ ap (after written) (sym m.text_is);
    house = m.house;
    failures = m.failures;
    kept = m.kept;
  };
  not_above = m.not_above;
}

-- a front of it was
pub half_replied : {old new : HouseView} (given given' words words' written written' : Option (List ℕ)) (points points' : Option (List Point)) (request : Request) (moment : ℕ) (closing : Bool) (text : Made) → given' ≡ after given (moment ∷ []) → Makes (record { house = old; words = words; points = points }) (record { house = new; words = words'; points = points' }) (called request) (ask_of request) moment closing text → AddsFront written written' (bytes_of text) → HalfReplied (record { given = given; words = words; points = points; written = written; handed = old.handed; keepers = old.keepers; kept = shelves_of old }) (record { given = given'; words = words'; points = points'; written = written'; handed = new.handed; keepers = new.keepers; kept = shelves_of new }) (history_of new) (newest (history_of old)) request closing
half_replied given given' words words' written written' points points' request moment closing text clock m front = record {
  story = m.story;
  count = front.count;
  text = m.is;
  gave = record {
    clock = clock ∙ ap (after given) (sym m.moments);
    chance = m.chance;
    gate = m.gate;
    sink = front.told ∙ ap (λ (l : List ℕ). after written (take front.count l)) (sym m.text_is);
    house = m.house;
    failures = m.failures;
    kept = m.kept;
  };
  not_above = m.not_above;
}
