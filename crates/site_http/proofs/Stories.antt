-- Stories, one after another, and what they add.
use Rattle.std.proofs.Common.{◌≡◌, ◌∙◌, ◌++◌, ◌+◌, List, ℕ, zero, suc, Option, ap, sym, refl, arith, append_assoc}
use Rattle.std.proofs.lemmas.List.{append-nil}
use Rattle.content_state.specs.declared.commit.Commit.{Commit}
use Rattle.site_io.specs.declared.device.Point.{Point}
use Rattle.site_io.specs.Memory.{up}
use Rattle.site_io.specs.Told.{before, after}
use Rattle.site_http.specs.Kept.{Need}
use Rattle.site_http.specs.Reply.{Story}
use Rattle.site_http.specs.Connection.{Out, Around, Gave, Went, joined, nothing, raised}
use Rattle.site_late.specs.Sending.{and_points}
use Rattle.site_http.proofs.Kept.{keeps_nothing, keeps_more}
use Rattle.site_late.proofs.Told.{before_before, after_after, after_nothing, points_points, points_nothing}

abbrev story_of : List ℕ → List ℕ → List Point → List ℕ → List Commit → ℕ → List (Option Need) → ℕ → Story
story_of moments words points text handed keepers needs high = record {
  moments = moments;
  words = words;
  points = points;
  text = text;
  handed = handed;
  keepers = keepers;
  high = high;
  needs = needs;
}

same_story : {moments moment' words words' text text' : List ℕ} {points points' : List Point} {handed handed' : List Commit} {keepers keepers' : ℕ} {needs needs' : List (Option Need)} (high : ℕ) → moments ≡ moment' → words ≡ words' → points ≡ points' → text ≡ text' → handed ≡ handed' → keepers ≡ keepers' → needs ≡ needs' → story_of moments words points text handed keepers needs high ≡ story_of moment' words' points' text' handed' keepers' needs' high
same_story {moments} {moment'} {words} {words'} {text} {text'} {points} {points'} {handed} {handed'} {keepers} {keepers'} {needs} {needs'} high a b c d e f n =
    ap (λ (x : List ℕ). story_of x words points text handed keepers needs high) a
    ∙ ap (λ (x : List ℕ). story_of moment' x points text handed keepers needs high) b
    ∙ ap (λ (x : List Point). story_of moment' words' x text handed keepers needs high) c
    ∙ ap (λ (x : List ℕ). story_of moment' words' points' x handed keepers needs high) d
    ∙ ap (λ (x : List Commit). story_of moment' words' points' text' x keepers needs high) e
    ∙ ap (λ (x : ℕ). story_of moment' words' points' text' handed' x needs high) f
    ∙ ap (λ (x : List (Option Need)). story_of moment' words' points' text' handed' keepers' x high) n

pub joined_assoc : (a b c : Story) → joined (joined a b) c ≡ joined a (joined b c)
joined_assoc a b c =
    let sum : a.keepers + b.keepers + c.keepers ≡ a.keepers + (b.keepers + c.keepers) = omega arith in
    same_story c.high (append_assoc a.moments b.moments c.moments) (append_assoc a.words b.words c.words) (append_assoc a.points b.points c.points) (append_assoc a.text b.text c.text) (append_assoc a.handed b.handed c.handed) sum (append_assoc a.needs b.needs c.needs)

pub joined_nothing : (a : Story) → joined a (nothing a.high) ≡ a
joined_nothing a =
    let sum : a.keepers + 0 ≡ a.keepers = omega arith in
    same_story a.high (append-nil a.moments) (append-nil a.words) (append-nil a.points) (append-nil a.text) (append-nil a.handed) sum (append-nil a.needs)

pub nothing_joined : (low : ℕ) (a : Story) → joined (nothing low) a ≡ a
nothing_joined low a =
    let sum : 0 + a.keepers ≡ a.keepers = omega arith in
    same_story a.high refl refl refl refl refl sum refl

raised_more : (count first second : ℕ) → raised (raised count first) second ≡ raised count (first + second)
raised_more count zero second =
    let sum : 0 + second ≡ second = omega arith in ap (raised count) (sym sum)
raised_more count (suc first) second =
    let sum : suc first + second ≡ suc (first + second) = omega arith in
    raised_more (up count) first second ∙ ap (raised count) (sym sum)

-- nothing was added
pub gave_nothing : (o : Out) (low : ℕ) → Gave o o (nothing low)
gave_nothing o low = record {
  clock = after_nothing o.given;
  chance = after_nothing o.words;
  gate = points_nothing o.points;
  sink = after_nothing o.written;
  house = sym (append-nil o.handed);
  failures = refl;
  kept = keeps_nothing o.kept o.kept refl;
}

pub gave_more : {first second third : Out} (a b : Story) → Gave first second a → Gave second third b → Gave first third (joined a b)
gave_more {first} {second} {third} a b g h = record {
  clock = h.clock ∙ ap (λ (o : Option (List ℕ)). after o b.moments) g.clock ∙ after_after first.given a.moments b.moments;
  chance = h.chance ∙ ap (λ (o : Option (List ℕ)). after o b.words) g.chance ∙ after_after first.words a.words b.words;
  gate = h.gate ∙ ap (λ (o : Option (List Point)). and_points o b.points) g.gate ∙ points_points first.points a.points b.points;
  sink = h.sink ∙ ap (λ (o : Option (List ℕ)). after o b.text) g.sink ∙ after_after first.written a.text b.text;
  house = h.house ∙ ap (λ (l : List Commit). l ++ b.handed) g.house ∙ append_assoc first.handed a.handed b.handed;
  failures = h.failures ∙ ap (λ (n : ℕ). raised n b.keepers) g.failures ∙ raised_more first.keepers a.keepers b.keepers;
  kept = keeps_more a.needs b.needs first.kept second.kept third.kept g.kept h.kept;
}

pub went_on : {first second third : Around} {taken : List ℕ} {a : Story} (more : List ℕ) (b : Story) → Went first second taken a → second.left ≡ before more third.left → Gave second.out third.out b → Went first third (taken ++ more) (joined a b)
went_on {first} {second} {third} {taken} {a} more b w source g = record {
  source = w.source ∙ ap (before taken) source ∙ before_before third.left taken more;
  gave = gave_more a b w.gave g;
}
