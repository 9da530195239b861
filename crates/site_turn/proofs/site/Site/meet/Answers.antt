use Rattle.std.proofs.Common.{◌∙◌, arith, ap, sym, [], ◌∷◌}
use Rattle.turn_rule.specs.Steps.{bearing, joined, left_of, right_of, longer, seeing}
use Rattle.turn_laws.proofs.Seating.{passes_joined, passes_met, passes_seated}
use Rattle.site_table.specs.Views.{noted_in, desk_in, pass_of}
use Rattle.site_turn.proofs.Seats.{seat_is, two_met, two_own, has_seen}
use Rattle.site_turn.proofs.site.Site.meet.Goals as goal

pub join_seat-requires : goal.join_seat-requires
join_seat-requires g c =
    let p = pass_of c.one.inside.seat.views in
    let q = pass_of c.other.inside.seat.views in
    let first = c.replace-first.ensures.value in
    let second = c.replace-second.ensures.value in
    let a = c.into_seat.ensures in
    let b = c.into_seat-seat.ensures in
    let one = seat_is _ c.into_seat.result.me (bearing p) (ap (λ b. b.views) first ∙ c.one.invariant.bears) a.2 a.3 in
    let two = seat_is _ c.into_seat-seat.result.me (bearing q) (ap (λ b. b.views) second ∙ c.other.invariant.bears) b.2 b.3 in
    let words = c.self.invariant.room.0 in (
      b.0 ∙ ap (λ b. b.table_id) second ∙ ap (λ v. v.table) c.other.view_is ∙ c.requires.other ∙ sym (ap (λ v. v.table) c.self.view_is),
      a.0 ∙ ap (λ b. b.table_id) first ∙ ap (λ v. v.table) c.one.view_is ∙ c.requires.one ∙ sym (ap (λ v. v.table) c.self.view_is),
      a.3,
      omega arith,
      passes_joined noted_in desk_in _ _ _ _ p (ap (λ m. m.0.fresh) two) (ap (λ m. m.0) one),
    )

pub load-requires : goal.load-requires
load-requires g c =
    let p = pass_of c.one.inside.seat.views in
    let q = pass_of c.other.inside.seat.views in
    let first = c.replace-first.ensures.value in
    let second = c.replace-second.ensures.value in
    let a = c.into_seat.ensures in
    let b = c.into_seat-seat.ensures in
    let one = seat_is _ c.into_seat.result.me (bearing p) (ap (λ b. b.views) first ∙ c.one.invariant.bears) a.2 a.3 in
    let two = seat_is _ c.into_seat-seat.result.me (bearing q) (ap (λ b. b.views) second ∙ c.other.invariant.bears) b.2 b.3 in
    let both = c.join_seat.ensures in
    let words = c.self.invariant.room.0 in (
      both.0 ∙ b.0 ∙ ap (λ b. b.table_id) second ∙ ap (λ v. v.table) c.other.view_is ∙ c.requires.other ∙ sym (ap (λ v. v.table) c.self.view_is),
      omega arith,
      passes_met noted_in desk_in _ _ _ p q c.self.invariant.room.1 (both.2 ∙ λ i. (joined ((two i).0) ((one i).0), (two i).1)),
    )

pub split_seat-new-requires : goal.split_seat-new-requires
split_seat-new-requires g c =
    let p = pass_of c.one.inside.seat.views in
    let q = pass_of c.other.inside.seat.views in
    let first = c.replace-first.ensures.value in
    let second = c.replace-second.ensures.value in
    let a = c.into_seat.ensures in
    let b = c.into_seat-seat.ensures in
    let one = seat_is _ c.into_seat.result.me (bearing p) (ap (λ b. b.views) first ∙ c.one.invariant.bears) a.2 a.3 in
    let two = seat_is _ c.into_seat-seat.result.me (bearing q) (ap (λ b. b.views) second ∙ c.other.invariant.bears) b.2 b.3 in
    let both = c.join_seat.ensures in
    let have_met = two_met c.join_seat.new.seat.me c.load.new.seat.me p q (both.2 ∙ λ i. (joined ((two i).0) ((one i).0), (two i).1)) c.load.ensures.2 in
    let words = c.self.invariant.room.0 in (
      c.load.ensures.0 ∙ both.0 ∙ b.0 ∙ ap (λ b. b.table_id) second ∙ ap (λ v. v.table) c.other.view_is ∙ c.requires.other ∙ sym (ap (λ v. v.table) c.self.view_is),
      omega arith,
      passes_seated noted_in desk_in _ _ (seeing (longer p.seen q.seen) p) _ (ap (λ m. m.0.fresh) have_met) (ap (λ m. m.0.passes) have_met),
    )

pub invariant_of-one : goal.invariant_of-one
invariant_of-one g c =
    let p = pass_of c.one.inside.seat.views in
    let q = pass_of c.other.inside.seat.views in
    let first = c.replace-first.ensures.value in
    let second = c.replace-second.ensures.value in
    let a = c.into_seat.ensures in
    let b = c.into_seat-seat.ensures in
    let one = seat_is _ c.into_seat.result.me (bearing p) (ap (λ b. b.views) first ∙ c.one.invariant.bears) a.2 a.3 in
    let two = seat_is _ c.into_seat-seat.result.me (bearing q) (ap (λ b. b.views) second ∙ c.other.invariant.bears) b.2 b.3 in
    let both = c.join_seat.ensures in
    let have_met = two_met c.join_seat.new.seat.me c.load.new.seat.me p q (both.2 ∙ λ i. (joined ((two i).0) ((one i).0), (two i).1)) c.load.ensures.2 in
    let own = two_own c.join_seat.new.seat.me c.load.new.seat.me p q (both.2 ∙ λ i. (joined ((two i).0) ((one i).0), (two i).1)) c.load.ensures.2 in
    let views = c.into_badge.ensures.2 ∙ ap (λ m. m.0 ∷ []) c.split_seat-new.ensures.4 ∙ ap (λ m. right_of m.0 ∷ []) have_met in
    has_seen c.one.inside.seat.views c.into_badge.result.views _ _ (longer p.seen q.seen) c.one.invariant views own.0

pub invariant_of-other : goal.invariant_of-other
invariant_of-other g c =
    let p = pass_of c.one.inside.seat.views in
    let q = pass_of c.other.inside.seat.views in
    let first = c.replace-first.ensures.value in
    let second = c.replace-second.ensures.value in
    let a = c.into_seat.ensures in
    let b = c.into_seat-seat.ensures in
    let one = seat_is _ c.into_seat.result.me (bearing p) (ap (λ b. b.views) first ∙ c.one.invariant.bears) a.2 a.3 in
    let two = seat_is _ c.into_seat-seat.result.me (bearing q) (ap (λ b. b.views) second ∙ c.other.invariant.bears) b.2 b.3 in
    let both = c.join_seat.ensures in
    let have_met = two_met c.join_seat.new.seat.me c.load.new.seat.me p q (both.2 ∙ λ i. (joined ((two i).0) ((one i).0), (two i).1)) c.load.ensures.2 in
    let own = two_own c.join_seat.new.seat.me c.load.new.seat.me p q (both.2 ∙ λ i. (joined ((two i).0) ((one i).0), (two i).1)) c.load.ensures.2 in
    let views = c.into_badge-2.ensures.2 ∙ ap (λ m. m.0 ∷ []) c.split_seat-new.ensures.2 ∙ ap (λ m. left_of m.0 ∷ []) have_met in
    has_seen c.other.inside.seat.views c.into_badge-2.result.views _ _ (longer p.seen q.seen) c.other.invariant views own.1

pub returns-clause-one : goal.returns-clause-one
returns-clause-one g c =
    let p = pass_of c.one.inside.seat.views in
    let q = pass_of c.other.inside.seat.views in
    let first = c.replace-first.ensures.value in
    let second = c.replace-second.ensures.value in
    let a = c.into_seat.ensures in
    let b = c.into_seat-seat.ensures in
    let one = seat_is _ c.into_seat.result.me (bearing p) (ap (λ b. b.views) first ∙ c.one.invariant.bears) a.2 a.3 in
    let two = seat_is _ c.into_seat-seat.result.me (bearing q) (ap (λ b. b.views) second ∙ c.other.invariant.bears) b.2 b.3 in
    let both = c.join_seat.ensures in
    let have_met = two_met c.join_seat.new.seat.me c.load.new.seat.me p q (both.2 ∙ λ i. (joined ((two i).0) ((one i).0), (two i).1)) c.load.ensures.2 in
    let views = c.into_badge.ensures.2 ∙ ap (λ m. m.0 ∷ []) c.split_seat-new.ensures.4 ∙ ap (λ m. right_of m.0 ∷ []) have_met in
    let table = c.into_badge.ensures.0 ∙ c.split_seat-new.ensures.3 ∙ c.load.ensures.0 ∙ both.0 ∙ b.0 ∙ ap (λ b. b.table_id) second ∙ ap (λ v. v.table) c.other.view_is ∙ c.requires.other ∙ sym c.requires.one in
    let note = ap pass_of views ∙ λ i. seeing (longer (c.one.view_is i).note.seen (c.other.view_is i).note.seen) (c.one.view_is i).note in
    λ i. record { table = table i; note = note i }

pub returns-clause-other : goal.returns-clause-other
returns-clause-other g c =
    let p = pass_of c.one.inside.seat.views in
    let q = pass_of c.other.inside.seat.views in
    let first = c.replace-first.ensures.value in
    let second = c.replace-second.ensures.value in
    let a = c.into_seat.ensures in
    let b = c.into_seat-seat.ensures in
    let one = seat_is _ c.into_seat.result.me (bearing p) (ap (λ b. b.views) first ∙ c.one.invariant.bears) a.2 a.3 in
    let two = seat_is _ c.into_seat-seat.result.me (bearing q) (ap (λ b. b.views) second ∙ c.other.invariant.bears) b.2 b.3 in
    let both = c.join_seat.ensures in
    let have_met = two_met c.join_seat.new.seat.me c.load.new.seat.me p q (both.2 ∙ λ i. (joined ((two i).0) ((one i).0), (two i).1)) c.load.ensures.2 in
    let views = c.into_badge-2.ensures.2 ∙ ap (λ m. m.0 ∷ []) c.split_seat-new.ensures.2 ∙ ap (λ m. left_of m.0 ∷ []) have_met in
    let table = c.into_badge-2.ensures.0 ∙ c.split_seat-new.ensures.0 ∙ c.load.ensures.0 ∙ both.0 ∙ b.0 ∙ ap (λ b. b.table_id) second ∙ ap (λ v. v.table) c.other.view_is in
    let note = ap pass_of views ∙ λ i. seeing (longer (c.one.view_is i).note.seen (c.other.view_is i).note.seen) (c.other.view_is i).note in
    λ i. record { table = table i; note = note i }
