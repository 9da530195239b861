use Rattle.std.proofs.Common.{◌≡◌, ◌∙◌, List, ◌++◌, ap, drop, length, map, subst, sym, take}
use Rattle.std.proofs.Math.Seq.{take-append_seam}
use Rattle.std.proofs.lemmas.List.Elements.{All-same}
use Rattle.std.specs.List.{AllZip}
use Rattle.site_turn.specs.declared.workers.Worker.{Worker}
use Rattle.site_turn.specs.Working.{HasWorked}
use Rattle.site_serve.specs.Working.{Member, ServerView, HasServed, IsReady, DidServe, member_of}
use Rattle.site_serve.proofs.Mapped.{each_gives, zip_gives, zip_length}
use Rattle.site_serve.proofs.crew.work_of.Goals as goal

pub work_all-requires-clause-here : goal.work_all-requires-clause-here
work_all-requires-clause-here g c κs within =
    let P : Member → Type 0 = IsReady c.args.site.now.table c.args.room.now.table_id in
    let workers : List (Worker ServerView) = c.deref_mut.result.now in
    let same : map member_of workers ≡ c.args.crew.items = ap (λ ws. map member_of ws) c.deref_mut.ensures.value ∙ c.workers_of-workers.ensures in
    let all = each_gives member_of P workers (All-same P (map member_of workers) c.args.crew.items same c.requires.ready) in
    λ k d below. (all k d below).here

pub work_all-requires-clause-may : goal.work_all-requires-clause-may
work_all-requires-clause-may g c κs within =
    let P : Member → Type 0 = IsReady c.args.site.now.table c.args.room.now.table_id in
    let workers : List (Worker ServerView) = c.deref_mut.result.now in
    let same : map member_of workers ≡ c.args.crew.items = ap (λ ws. map member_of ws) c.deref_mut.ensures.value ∙ c.workers_of-workers.ensures in
    let all = each_gives member_of P workers (All-same P (map member_of workers) c.args.crew.items same c.requires.ready) in
    λ k d below name. (all k d below).none_out

pub returns : goal.returns
returns g c =
    let R : Worker ServerView → Worker ServerView → Type 0 =
    HasWorked {W = ServerView} (λ one other before after. DidServe one.station other.station one.claimer other.claimer other.worked before after) in
    let first : List (Worker ServerView) = c.workers_of-workers.result.items in
    let old : List (Worker ServerView) = c.deref_mut.result.now in
    let new : List (Worker ServerView) = c.work_all.new.workers in
    let same : map member_of old ≡ c.args.crew.items = ap (λ ws. map member_of ws) c.deref_mut.ensures.value ∙ c.workers_of-workers.ensures in
    let all : AllZip HasServed (map member_of old) (map member_of new) =
    zip_gives member_of R HasServed (λ one other did. record { name = did.name; keepers = did.keepers; unkept = did.unkept; table = did.table; did = did.did }) old new c.work_all.ensures.worked in
    let many : c.workers_of-workers.result.len ≡ length new = sym c.deref_mut.ensures.len ∙ sym (zip_length R old new c.work_all.ensures.worked) in
    let written : take c.workers_of-workers.result.len (new ++ drop (length new) first) ≡ new =
    ap (λ n. take n (new ++ drop (length new) first)) many ∙ take-append_seam new (drop (length new) first) in
    subst (λ ms. AllZip HasServed ms c.members_of.result.items) same
    (subst (λ ms. AllZip HasServed (map member_of old) ms) (ap (λ ws. map member_of ws) (sym written) ∙ sym c.members_of.ensures) all)
