use Rattle.std.proofs.Common.{◌∙◌, ◌≤◌, ℕ, sym, subst, arith}
use Rattle.site_house.specs.House.{Moves, up}
use Rattle.site_hall.specs.Alone.{AloneView, IsAlone, house_of}
use Rattle.site_hall.proofs.Callers.{alone_own, stock_alone, stock_moves}
use Rattle.site_hall.proofs.alone.AloneHouse.keep.Goals as goal
use Rattle.site_hall.proofs.alone.AloneHouse.keep.Goals.{in-Ok, in-Err}

pub returns-clause-moves : goal.returns-clause-moves
returns-clause-moves g c =
    let a : AloneView = record { hall = c.self.inside.hall; opened = c.self.inside.opened; handed = c.self.inside.handed.items; keepers = c.self.inside.keepers; unkept = c.self.inside.unkept } in
    let moves = λ (unkept : ℕ) (more : a.unkept ≤ unkept).
    subst (λ (old : AloneView). Moves (house_of old) (house_of (record a { hall = c.keep.new.self; unkept = unkept }))) c.self.view_is
    (stock_moves a c.keep.new.self unkept (stock_alone a c.keep.new.self unkept c.self.invariant c.keep.ensures.beside c.keep.ensures.is_hall) c.keep.ensures.beside more) in
    elim c.match-keep.branch [
      | in-Ok w ↦ subst (λ (v : AloneView). Moves (house_of c.args.self.now) (house_of v)) (sym w.self-is) (moves a.unkept (omega arith))
      | in-Err w ↦
          let more = subst (λ (v : AloneView). a.unkept ≤ v.unkept) w.not_kept.ensures.counted w.not_kept.ensures.grows in
          subst (λ (v : AloneView). Moves (house_of c.args.self.now) (house_of v)) (sym (w.self-is ∙ w.not_kept.ensures.counted)) (moves (up a.unkept) more)
    ]

pub returns-clause-own : goal.returns-clause-own
returns-clause-own g c = (returns-clause-moves g c).own (alone_own c.args.self.now (subst IsAlone c.self.view_is c.self.invariant))
