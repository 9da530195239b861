-- What was pending is settled, in a turn of a pass at its desk.
use Rattle.std.proofs.Common.{◌≡◌, ◌++◌, ℕ, List, [], ◌∷◌, Bool, false, Option, Some, sym, ap, ◌∙◌, subst, append-nil}
use Rattle.std.specs.Prelude.{if◌then◌else◌}
use Rattle.content_state.specs.declared.commit.Commit.{Commit}
use Rattle.site_hall.specs.Sides.{HallSide, DeskSide, IsHallSide, Stands, OnePending, TellsKept, settled_side, none_pending}
use Rattle.site_hall.proofs.Sides.{one_pending, stands_settled}
use Rattle.turn_rule.specs.Logs.{whole_of, Agree}
use Rattle.turn_rule.specs.Steps.{zeros, with_hall, after_turn, after_forgetting, front, Knows, TurnsBoth, Forgets, AgreesWith}
use Rattle.site_table.specs.Views.{Place, nothing, part_of, pass_at, part_at}
use Rattle.site_table.specs.Turns.{AtDesk, TurnsTo, HasTurned, ForgetsTo, HasForgotten, turned_place, forgotten_place}
use Rattle.site_turn.specs.Edits.{engine_at, settled_engine, HasHanded, HandsNothing}
use Rattle.site_turn.proofs.Desks.{stands_at, stands_by, agree, both_out, at_then, hands_then, engine_then, at_forgotten, hands_forgotten, engine_forgotten}
use Rattle.site_turn.proofs.Editing.{came, grown_is, settled_turn, forgotten_turn, settled_is}

module _ (me took : Place) (hall : HallSide) (desk : DeskSide) (a : AtDesk me desk) (taken : took ≡ (with_hall (Some (part_of hall)) me.0, (0, nothing) ∷ me.1)) (agrees : AgreesWith (part_of hall) me.0.desk) where
  pub agreed : Agree (part_of hall) (part_at me)
  agreed = agree me took hall desk a taken agrees

  pub stood : Stands (part_at me).loaded.told hall desk
  stood = stands_by hall (part_at me) desk agreed (stands_at (part_at me) desk a.stands)

  module _ (there : (c : Commit) × ((part_at me).pending ≡ Some c)) where
    one : hall.pending ≡ Some there.0
    one = agreed.pending ∙ there.1

    pub is_one : OnePending hall desk
    is_one = one_pending (part_at me).loaded.told hall desk stood there.0 one

    module _ (kept : Bool) (tells : TellsKept desk.kept desk.pending kept) (hall' : HallSide) (desk' : DeskSide) (settled : hall' ≡ settled_side kept hall.pending hall) (desk_is : desk' ≡ none_pending desk) where
      base : hall'.base ≡ (part_at me).loaded.base
      base = ap (λ (h : HallSide). h.base) (settled ∙ ap (λ (p : Option Commit). settled_side kept p hall) one) ∙ agreed.base

      stands : Stands (part_at me).loaded.told hall' desk'
      stands = subst (λ (t : HallSide × DeskSide). Stands (part_at me).loaded.told t.0 t.1) (λ i. (sym settled i, sym desk_is i))
          (stands_settled (part_at me).loaded.told hall desk stood there.0 kept one tells)

      faults : desk'.faults ≡ desk.faults
      faults = ap (λ (d : DeskSide). d.faults) desk_is

      steadfast : desk'.steadfast ≡ desk.steadfast
      steadfast = ap (λ (d : DeskSide). d.steadfast) desk_is

      -- it is a turn
      pub turns : (grown : ℕ) → grown ≡ (if kept then 1 else 0) → HasTurned false took hall' grown
      turns grown grew = both_out me took hall desk a taken (TurnsTo false hall' grown) (
        came kept there.0,
        subst (λ (h : HallSide). TurnsBoth false (pass_at me).number (part_at me) (part_of hall) (part_of h) (came kept there.0)) (sym settled) (settled_turn kept hall (part_at me) (pass_at me).number there.0 one),
        grew ∙ grown_is kept there.0,
      )

      module _ (is_hall : IsHallSide hall') (after : Place) (back : after ≡ turned_place false (part_of hall') took) (knows : Knows (whole_of (part_of hall') (part_at took)) (after_turn zeros false (whole_of (part_of hall') (part_at took)) (pass_at took))) where
        pub at_settled : AtDesk after desk'
        at_settled = at_then me took hall desk a taken after hall' desk' base is_hall stands faults steadfast false back knows

        pub hands_settled : HandsNothing me after
        hands_settled = subst (λ (l : List Commit). HasHanded l me after) (append-nil (pass_at me).handed)
            (hands_then me took hall desk a taken after hall' desk' base is_hall stands faults steadfast false back knows)

        pub engine_settled : engine_at after desk' ≡ settled_engine kept (part_at me).pending (engine_at me desk)
        engine_settled = engine_then me took hall desk a taken after hall' desk' base is_hall stands faults steadfast false back knows
            ∙ settled_is kept me hall hall' desk desk' there.0 agreed there.1 settled desk_is

    -- ---- the edit that the pass handed in last is forgotten

    module _ (handed : List Commit) (own : there.0.pass ≡ (pass_at me).number) (last : (pass_at me).handed ≡ handed ++ there.0 ∷ []) (tells : TellsKept desk.kept desk.pending false) (hall' : HallSide) (desk' : DeskSide) (settled : hall' ≡ settled_side false hall.pending hall) (desk_is : desk' ≡ none_pending desk) where
      pub forgets : HasForgotten took hall'
      forgets = both_out me took hall desk a taken (ForgetsTo hall') (
        handed,
        there.0,
        last,
        subst (λ (h : HallSide). Forgets (pass_at me).number there.0 (part_at me) (part_of hall) (part_of h)) (sym settled) (forgotten_turn hall (part_at me) (pass_at me).number there.0 agreed one own),
      )

      module _ (is_hall : IsHallSide hall') (after : Place) (back : after ≡ forgotten_place (part_of hall') took) (knows : Knows (whole_of (part_of hall') (part_at took)) (after_forgetting (front (pass_at took).handed) (whole_of (part_of hall') (part_at took)) (pass_at took))) where
        pub at_left : AtDesk after desk'
        at_left = at_forgotten me took hall desk a taken after hall' desk' (base false tells hall' desk' settled desk_is) is_hall (stands false tells hall' desk' settled desk_is)
            (faults false tells hall' desk' settled desk_is) (steadfast false tells hall' desk' settled desk_is) back knows

        pub hands_left : HasHanded (front (pass_at me).handed) me after
        hands_left = hands_forgotten me took hall desk a taken after hall' desk' (base false tells hall' desk' settled desk_is) is_hall (stands false tells hall' desk' settled desk_is)
            (faults false tells hall' desk' settled desk_is) (steadfast false tells hall' desk' settled desk_is) back knows

        pub engine_left : engine_at after desk' ≡ settled_engine false (part_at me).pending (engine_at me desk)
        engine_left = engine_forgotten me took hall desk a taken after hall' desk' (base false tells hall' desk' settled desk_is) is_hall (stands false tells hall' desk' settled desk_is)
            (faults false tells hall' desk' settled desk_is) (steadfast false tells hall' desk' settled desk_is) back knows
            ∙ settled_is false me hall hall' desk desk' there.0 agreed there.1 settled desk_is
