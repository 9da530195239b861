-- What many steps leave of the bins.
use Rattle.std.proofs.Common.{◌≡◌, ◌∙◌, ℕ, List, [], ◌∷◌, inl, inr, Option, refl, sym, ap, subst}
use Rattle.std.specs.Prelude.{slice_index}
use Rattle.atomic_table.specs.Table.{State}
use Rattle.turn_rule.specs.declared.notes.HallPart.{HallPart}
use Rattle.turn_rule.specs.declared.notes.DeskNote.{DeskNote}
use Rattle.turn_rule.specs.declared.notes.Note.{Note}
use Rattle.turn_rule.specs.Rule.{IsFresh, KeepsRule}
use Rattle.turn_rule.proofs.Accounts.{none_some, one_not_zero}
use Rattle.turn_laws.specs.Words.{IsHallAt, home, out}
use Rattle.turn_laws.proofs.Opened.{hall_is}
use Rattle.turn_order.specs.Bins.{KeepsBins, IsQuiet, AreQuiet, BinsStay}
use Rattle.turn_order.specs.Steps.{last_state}
use Rattle.turn_order.proofs.Order.{fresh_note}

keeps_then : (a b c : HallPart) → KeepsBins a b → KeepsBins b c → KeepsBins a c
keeps_then a b c f g = record { bins = g.bins ∙ f.bins; tally = g.tally ∙ f.tally }

module _ {S : Type 0} (noted : S → Option HallPart) (noted_desk : S → Option DeskNote) where
  all_stay : (first : State S Note) (others : List (State S Note)) → AreQuiet noted noted_desk first others → IsQuiet noted noted_desk first (last_state first others)
  all_stay first [] quiet hall is = (hall, is, record { bins = refl; tally = refl })
  all_stay first (next ∷ others) quiet hall is =
      let one = quiet.0 hall is in
      let rest = all_stay next others quiet.1 one.0 one.1 in
      (rest.0, rest.1, keeps_then hall one.0 rest.0 one.2 rest.2)

  -- a table that isn't opened has no hall
  none_fresh : (s : State S Note) (hall : HallPart) → IsFresh noted noted_desk s → IsHallAt noted s hall → ⊥
  none_fresh s hall f (home value shut there is) = one_not_zero (sym (ap (λ (ws : List ℕ). slice_index ws 1) f.words) ∙ shut)
  none_fresh s hall f (out j u sits has) = none_some hall (ap (λ (n : Note). n.hall) (fresh_note noted noted_desk s j u f sits) ∙ has)

  -- and another has one
  one_hall : (s : State S Note) (hall other : HallPart) → KeepsRule noted noted_desk s → IsHallAt noted s hall → IsHallAt noted s other → hall ≡ other
  one_hall s hall other (inl f) is its = absurd (none_fresh s hall f is)
  one_hall s hall other (inr x) is its = hall_is noted noted_desk s x.account x.gate x.door x.is_open hall is ∙ sym (hall_is noted noted_desk s x.account x.gate x.door x.is_open other its)

  pub bins_stay : BinsStay noted noted_desk
  bins_stay first others hall later quiet rule is its =
      let end = all_stay first others quiet hall is in
      subst (KeepsBins hall) (one_hall (last_state first others) end.0 later rule end.1 its) end.2
