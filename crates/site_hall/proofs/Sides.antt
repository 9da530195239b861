-- A desk that stands for the log of a hall goes on to do so.
use Rattle.std.proofs.Common.{◌≡◌, ◌∙◌, ◌+◌, ◌==◌, ℕ, Bool, true, false, Option, Some, None, length, ap, sym, subst, refl, inl, inr, arith}
use Rattle.std.specs.Prelude.{option_map}
use Rattle.std.proofs.lemmas.Bool.Decides.{nat_tests}
use Rattle.content_state.specs.declared.commit.Commit.{Commit}
use Rattle.site_keeper.specs.Batch.{Batch}
use Rattle.site_keeper.specs.Keeper.{Kept, IfTold, held_of, and_batch, with_batch}
use Rattle.site_keeper.specs.Keeping.{HoldsState, HasKept, KeepsFor}
use Rattle.site_keeper.specs.Steps.{batch_of}
use Rattle.site_keeper.specs.declared.stored.Stored.{Stored}
use Rattle.site_keeper.proofs.Keeping.{number_after, held_more, log_held, right_next, kept_more, head_told, at_false, flag_kept}
use Rattle.site_hall.specs.ReadyEdit.{Ready}
use Rattle.site_hall.specs.Accepted.{MayFollow}
use Rattle.site_hall.specs.Sides.{HallSide, DeskSide, newest_at, Stands, announced, settled_side, with_batch_pending, none_pending, kept_of, OnePending, TellsKept, MayKeep, FailsToKeep}

-- ---- what is pending

pending_same : (pending : Option Batch) (batch : Batch) (kept : Option Kept) (flag : Bool) → pending ≡ Some batch → TellsKept kept pending flag → IfTold kept (λ held. flag ≡ (held.head == batch.head))
pending_same pending batch kept flag is tells = subst (λ (o : Option Batch). TellsKept kept o flag) is tells

same_number : (n : ℕ) → (n == n) ≡ true
same_number n = grind (arith, nat_tests)

-- the number of the batch that is kept last is the keeper's
pub last_tells : (kept : Option Kept) (batch : Batch) → TellsKept (and_batch kept batch) (Some batch) true
unfolding with_batch
last_tells None batch = tt
last_tells (Some kept) batch =
    sym (ap (λ (s : Stored). s.head == batch.head) (held_more kept batch) ∙ same_number batch.head)

module _ (told : Option Kept) (hall : HallSide) (desk : DeskSide) (stands : Stands told hall desk) where
  -- none is pending
  pub desk_none : hall.pending ≡ None → desk.pending ≡ None
  desk_none none = stands.pending ∙ ap (option_map (batch_of (newest_at hall))) none

  pub kept_log : hall.pending ≡ None → HasKept hall.base told desk.kept hall.log
  kept_log none = elim (subst (KeepsFor hall.base told desk.kept hall.log) none stands.keeps) [
    | inl e ↦ e
    | inr e ↦ e
  ]

  -- one is
  pub desk_one : (c : Commit) → hall.pending ≡ Some c → desk.pending ≡ Some (batch_of (newest_at hall) c)
  desk_one c one = stands.pending ∙ ap (option_map (batch_of (newest_at hall))) one

  pub one_pending : (c : Commit) → hall.pending ≡ Some c → OnePending hall desk
  one_pending c one = (c, one, desk_one c one)

  -- ---- an edit is announced

  pub stands_announced : (c : Commit) → hall.pending ≡ None → Stands told (announced c hall) (with_batch_pending (batch_of (newest_at hall) c) desk)
  stands_announced c none = record { pending = refl; loaded = stands.loaded; keeps = inl (kept_log none) }

  -- and may be kept
  pub may_keep : (ready : Ready) → hall.pending ≡ None → MayFollow (newest_at hall) (length hall.log) ready → MayKeep (with_batch_pending (batch_of (newest_at hall) ready.batch.commit) desk)
  may_keep ready none follows batch is =
      let held : HoldsState desk.kept (newest_at hall) = subst (λ (k : Option Kept). HoldsState k (newest_at hall)) (sym (kept_log none)) (log_held told hall.base hall.log stands.loaded) in
      let same : batch ≡ batch_of (newest_at hall) ready.batch.commit = cc in
      right_next desk.kept (newest_at hall) batch ready.batch.commit held same follows.valid.rows

  -- ---- it is kept, or not

  module _ (c : Commit) (one : hall.pending ≡ Some c) (log : HasKept hall.base told desk.kept hall.log) where
    keeps_more : KeepsFor hall.base told (and_batch desk.kept (batch_of (newest_at hall) c)) hall.log hall.pending
    keeps_more =
        subst (KeepsFor hall.base told (and_batch desk.kept (batch_of (newest_at hall) c)) hall.log) (sym one)
        (inr (ap (λ (k : Option Kept). and_batch k (batch_of (newest_at hall) c)) log ∙ sym (kept_more told hall.base hall.log c)))

    pub stands_kept : Stands told hall (kept_of desk.pending desk)
    stands_kept =
        subst (λ (o : Option Batch). Stands told hall (kept_of o desk)) (sym (desk_one c one))
        (record { pending = stands.pending; loaded = stands.loaded; keeps = keeps_more })

    pub stands_failed : (new : DeskSide) → FailsToKeep desk new → Stands told hall new
    stands_failed new fails = record {
      pending = ap (λ (d : DeskSide). d.pending) fails.stays ∙ stands.pending;
      loaded = stands.loaded;
      keeps = elim fails.kept_or_not [
        | inl e ↦ inl (e ∙ log)
        | inr e ↦
            subst (λ (k : Option Kept). KeepsFor hall.base told k hall.log hall.pending)
            (sym (e ∙ ap (λ (o : Option Batch). (kept_of o desk).kept) (desk_one c one))) keeps_more
      ];
    }

    -- where memory was wanting
    pub not_kept : TellsKept desk.kept desk.pending false
    not_kept = subst (λ (o : Option Batch). TellsKept desk.kept o false) (sym (desk_one c one)) (off desk.kept (head_told told desk.kept hall.base hall.log stands.loaded log))
      where
        off : (kept : Option Kept) → IfTold kept (λ held. held.head ≡ hall.base.number + length hall.log) → IfTold kept (λ held. false ≡ (held.head == (newest_at hall).number + 1))
        off None is = tt
        off (Some kept) is =
            let number = number_after hall.base hall.log in
            sym (at_false (held_of kept).head (newest_at hall).number (λ same. (omega arith)))

  -- ---- it is settled

  pub stands_settled : (c : Commit) (kept : Bool) → hall.pending ≡ Some c → TellsKept desk.kept desk.pending kept → Stands told (settled_side kept hall.pending hall) (none_pending desk)
  stands_settled c kept one tells =
      subst (λ (o : Option Commit). Stands told (settled_side kept o hall) (none_pending desk)) (sym one)
      (record { pending = refl; loaded = stands.loaded; keeps = inl (flag_kept told desk.kept hall.base hall.log c kept stands.loaded keeps (exactly desk.kept (pending_same desk.pending (batch_of (newest_at hall) c) desk.kept kept (desk_one c one) tells))) })
    where
      keeps : KeepsFor hall.base told desk.kept hall.log (Some c)
      keeps = subst (KeepsFor hall.base told desk.kept hall.log) one stands.keeps

      exactly : (k : Option Kept) → IfTold k (λ held. kept ≡ (held.head == (newest_at hall).number + 1)) → IfTold k (λ held. kept ≡ (held.head == hall.base.number + length hall.log + 1))
      exactly None is = tt
      exactly (Some k) is = is ∙ ap (λ (n : ℕ). (held_of k).head == n + 1) (number_after hall.base hall.log)
