use Rattle.std.proofs.Common.{◌≡◌, ◌∙◌, ℕ, List, length, min, Option, ap, sym, subst}
use Rattle.std.specs.Prelude.{IfOk}
use Rattle.content_state.specs.State.{State}
use Rattle.site_hall.specs.Alone.{AloneView}
use Rattle.site_hall.specs.Hall.{HallView}
use Rattle.site_keeper.specs.Keeper.{Kept, IfTold}
use Rattle.site_keeper.specs.Steps.{stored_of}
use Rattle.warm_pages.specs.declared.warming.TheConstants.{MOST_PAGES}
use Rattle.serve_store.specs.Warming.{warmed_count}
use Rattle.serve_store.proofs.Warmings.{are_warm, if_kept_warm, if_ok_same, none_made, only_pages, still_told}
use Rattle.serve_store.proofs.warming.warm_hall.Goals as goal

pub with_keeper-bare-requires-clause-new : goal.with_keeper-bare-requires-clause-new
with_keeper-bare-requires-clause-new g c = (c.requires.new.log, c.requires.new.pending)

pub new-alone-requires : goal.new-alone-requires
new-alone-requires g c = ap (λ (h : HallView). h.pending) c.with_keeper-bare.ensures.hall

pub with_keeper-warmed-requires-clause-new : goal.with_keeper-warmed-requires-clause-new
with_keeper-warmed-requires-clause-new g c =
    let alone = c.new-alone.ensures.alone in
    let bare = c.with_keeper-bare.ensures.hall in
    let first = ap (λ (a : AloneView). a.opened) alone ∙ ap (λ (h : HallView). length h.log) bare in
    let none = none_made c.new-alone.result c.warm-count.new.house first (ap (λ (a : AloneView). a.handed) alone) c.warm-count.ensures.moves c.warm-count.ensures.stays c.into_hall.ensures.is_alone in
    let back = c.into_hall.ensures.hall in
    (ap (λ (h : HallView). h.log) back ∙ none.0, ap (λ (h : HallView). h.pending) back ∙ none.1)

pub with_keeper-warmed-requires-clause-told : goal.with_keeper-warmed-requires-clause-told
with_keeper-warmed-requires-clause-told g c =
    let alone = c.new-alone.ensures.alone in
    let bare = c.with_keeper-bare.ensures.hall in
    let base = ap (λ (h : HallView). h.base) c.into_hall.ensures.hall ∙ c.warm-count.ensures.moves.base ∙ ap (λ (a : AloneView). a.hall.base) alone ∙ ap (λ (h : HallView). h.base) bare in
    let kept = c.with_keeper-bare.ensures.kept in
    subst (λ (t : Option Kept × State). IfTold t.0 (λ held. held ≡ stored_of t.1)) (λ i. (sym kept i, sym base i)) (still_told c.args.hall c.requires.new)

pub returns-clause-pages : goal.returns-clause-pages
returns-clause-pages g c =
    let alone = c.new-alone.ensures.alone in
    let bare = c.with_keeper-bare.ensures in
    let base = ap (λ (h : HallView). h.base) c.into_hall.ensures.hall ∙ c.warm-count.ensures.moves.base ∙ ap (λ (a : AloneView). a.hall.base) alone ∙ ap (λ (h : HallView). h.base) bare.hall in
    only_pages c.args.hall c.with_keeper-warmed.result.0 c.into_hall.result.base c.into_hall.result.stock _ _ _ c.requires.new c.with_keeper-warmed.ensures.hall base bare.kept bare.faults bare.steadfast c.with_keeper-warmed.ensures.is_hall

pub returns-clause-count : goal.returns-clause-count
returns-clause-count g c =
    if_ok_same (λ (count : ℕ). count ≡ warmed_count c.args.hall) c.if_kept.result c.warm-count.result c.if_kept.ensures.same
    (subst (λ (ts : List (List ℕ)). IfOk c.warm-count.result (λ count. count ≡ min (length ts) MOST_PAGES)) c.requires.targets c.warm-count.ensures.count)

pub returns-clause-warm : goal.returns-clause-warm
returns-clause-warm g c =
    let alone = c.new-alone.ensures.alone in
    let bare = c.with_keeper-bare.ensures.hall in
    let first = ap (λ (a : AloneView). a.opened) alone ∙ ap (λ (h : HallView). length h.log) bare in
    let none = none_made c.new-alone.result c.warm-count.new.house first (ap (λ (a : AloneView). a.handed) alone) c.warm-count.ensures.moves c.warm-count.ensures.stays c.into_hall.ensures.is_alone in
    let base = ap (λ (a : AloneView). a.hall.base) alone ∙ ap (λ (h : HallView). h.base) bare in
    let stock = ap (λ (a : AloneView). a.hall.stock) alone ∙ ap (λ (h : HallView). h.stock) bare in
    let kept = ap (λ (h : HallView). h.stock) c.with_keeper-warmed.ensures.hall ∙ ap (λ (h : HallView). h.stock) c.into_hall.ensures.hall in
    let later = c.warm-count.new.house in
    if_kept_warm c.if_kept.result c.warm-count.result c.if_kept.ensures.same c.if_kept.ensures.none c.warm-count.ensures.held
    (λ still. are_warm c.args.now c.args.hall c.with_keeper-warmed.result.0 c.new-alone.result later c.args.targets.now base stock (ap (λ (a : AloneView). a.unkept) alone) (sym c.unkept-unkept.ensures.count ∙ still) none.0 kept c.requires.targets)
