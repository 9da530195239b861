use Rattle.std.proofs.Common.{◌∙◌, List, ℕ, take, subst}
use Rattle.kept_pages.specs.Held.{Shelves, IsTold}
use Rattle.warm_pages.specs.declared.warming.TheConstants.{MOST_PAGES}
use Rattle.warm_pages.specs.Warm.{Warms}
use Rattle.warm_pages.proofs.Warmed.{newest_seen, first_of_all, on_snapshot}
use Rattle.warm_pages.proofs.warming.warm.Goals as goal

pub warm_all-requires : goal.warm_all-requires
warm_all-requires g c =
    newest_seen (g.H.House.sees c.snapshot.new.self) c.deref-state.result.now (c.deref-state.ensures ∙ c.in_ok-newest.ensures.state) c.in_ok-newest.ensures.valid

pub returns-clause-held : goal.returns-clause-held
returns-clause-held g c =
    let mid = g.H.House.sees c.snapshot.new.self in
    let new = g.H.House.sees c.warm_all.new.house in
    let state = c.deref-state.result.now in
    let targets = c.args.targets.now in
    let newest = c.in_ok-newest.ensures in
    on_snapshot (g.H.House.sees c.args.house.now) mid new state c.args.now (take MOST_PAGES targets) newest.moves newest.keeps_all newest.valid (c.deref-state.ensures ∙ newest.state) c.warm_all.ensures.steady.moves
    (subst (λ (ts : List (List ℕ)). (shelves : Shelves) → IsTold mid shelves → Warms state c.args.now ts shelves new)
    (c.split_at.ensures.front ∙ first_of_all MOST_PAGES c.min-count.result targets c.min-count.ensures) c.in_ok-warm_all.ensures.warms)
