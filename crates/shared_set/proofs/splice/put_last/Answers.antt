use Rattle.std.proofs.Common.{rules, arith, ◌≡◌, ◌∙◌, ◌<◌, ◌+◌, ◌-◌, ◌++◌, [], sym, ap, subst, length, get_or, take, drop}
use Rattle.std.specs.Prelude.{OnOk}
use Rattle.std.specs.BTreeSet.{insert_key}
use Rattle.std.proofs.lemmas.Bool.Decides.{nat_tests}
use Rattle.std.proofs.lemmas.List.{get_or_read}
use Rattle.shared_set.specs.Keys.{flat}
use Rattle.shared_set.proofs.Splits.{put_at_end}
use Rattle.shared_set.proofs.splice.put_last.Goals as goal

pub returns : goal.returns
returns g c =
    let R = g.K.Ord.cmp in
    let k = c.args.key.now in
    let bs = c.args.chunks.now.items in
    let i = c.len-place.result - 1 in
    let here = get_or bs i [] in
    let e : i + 1 ≡ length bs = grind (arith, nat_tests) in
    let read : c.index.result.now ≡ here = get_or_read bs i c.index.result.now (omega (arith, e)) c.index.ensures [] in
    let grown : c.as_slice-2.result.now ≡ insert_key R here k = c.as_slice-2.ensures.value ∙ c.in_ok-keys-2.ensures.same ∙ ap (λ l. insert_key R l k) read in
    let same = ap (λ ks. flat (take i bs) ++ (ks ++ flat (drop (i + 1) bs))) grown ∙ put_at_end g.met.K.Ord.total k bs i e c.requires in
    subst (λ l. OnOk c.replace.result (flat c.replace.new.chunks.items ≡ l)) same c.replace.ensures
