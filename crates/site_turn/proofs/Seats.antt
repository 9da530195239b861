-- What the seats of passes say, as equations.
use Rattle.std.proofs.Common.{◌≡◌, ◌<◌, ℕ, List, [], ◌∷◌, length, drop, get_or, append-nil, refl, sym, ap, ◌∙◌, subst}
use Rattle.turn_rule.specs.declared.notes.TallyNote.{TallyNote}
use Rattle.turn_rule.specs.declared.notes.HallPart.{HallPart}
use Rattle.turn_rule.specs.declared.notes.PassNote.{PassNote}
use Rattle.turn_rule.specs.declared.notes.FounderNote.{FounderNote}
use Rattle.site_house.specs.House.{by_pass}
use Rattle.turn_rule.specs.declared.notes.Note.{Note}
use Rattle.turn_rule.specs.Rule.{Counted, looks, found, kept, count_of}
use Rattle.turn_rule.specs.Steps.{spent, bearing, with_passes, after_look, new_pass, longer, seeing, AreOwnIn, AreMet, KnowsHall, Meets}
use Rattle.turn_rule.proofs.Edits.{drop_front}
use Rattle.turn_rule.proofs.Books.{own_in_log}
use Rattle.content_state.specs.declared.commit.Commit.{Commit}
use Rattle.site_table.specs.Views.{Place, pass_of}
use Rattle.site_turn.specs.Views.{HasPass}

-- the seat of a badge
pub seat_is : (notes : List Note) (me : Place) (note : Note) → notes ≡ note ∷ [] → notes ≡ me.0 ∷ [] → me.1 ≡ [] → me ≡ (note, [])
seat_is notes me note is has empty = λ i. (ap (λ (l : List Note). get_or l 0 spent) (sym has ∙ is) i, empty i)

-- what a hall counted fits
pub little_counted : (tally : TallyNote) → tally.looks < 18446744073709551616 → tally.found < 18446744073709551616 → tally.kept < 18446744073709551616 → (counted : Counted) → count_of counted tally < 18446744073709551616
little_counted tally a b c looks = a
little_counted tally a b c found = b
little_counted tally a b c kept = c

-- two passes have met on a seat
pub two_met : (old new : Place) (p q : PassNote) → old ≡ (with_passes (p ∷ q ∷ []) spent, []) → Meets old new → new ≡ (with_passes (seeing (longer p.seen q.seen) p ∷ seeing (longer p.seen q.seen) q ∷ []) spent, [])
two_met old new p q is m = (subst (λ (o : Place). Meets o new) is m).0

-- and each finds its own edits in what both have seen then
pub two_own : (old new : Place) (p q : PassNote) → old ≡ (with_passes (p ∷ q ∷ []) spent, []) → Meets old new → AreOwnIn p (longer p.seen q.seen) × AreOwnIn q (longer p.seen q.seen)
two_own old new p q is m = let both : AreMet (p ∷ q ∷ []) = (subst (λ (o : Place). Meets o new) is m).1 in (both.2, both.3)

-- a pass has seen another log
pub has_seen : (old new : List Note) (number faults : ℕ) (log : List Commit) → HasPass old number faults → new ≡ bearing (seeing log (pass_of old)) ∷ [] → AreOwnIn (pass_of old) log → HasPass new number faults
has_seen old new number faults log h is own =
    subst (λ (l : List Note). HasPass l number faults) (sym is) (record { bears = refl; number_is = h.number_is; faults_is = h.faults_is; own = own })

-- a pass finds its own edits in what it has seen, once it gave the hall back
pub back_own : (more : TallyNote) (before hall : HallPart) (pass : PassNote) (notes : List Note) → notes ≡ bearing (after_look more before hall pass) ∷ [] → KnowsHall hall (after_look more before hall pass) → AreOwnIn (pass_of notes) (pass_of notes).seen
back_own more before hall pass notes is knows =
    subst (λ (l : List Note). AreOwnIn (pass_of l) (pass_of l).seen) (sym is) (own_in_log hall (after_look more before hall pass) knows)

-- a new pass has seen no edit since the opening
pub new_own : (founder : FounderNote) → AreOwnIn (new_pass founder) founder.opened.log
new_own founder =
    let log = founder.opened.log in
    ap (by_pass founder.made) (ap (drop (length log)) (sym (append-nil log)) ∙ drop_front log [])
