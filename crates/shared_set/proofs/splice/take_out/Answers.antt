use Rattle.std.proofs.Common.{rules, arith, ◌≡◌, ◌∙◌, ◌<◌, ◌+◌, ◌++◌, [], true, false, sym, ap, subst, length, get_or, take, drop}
use Rattle.std.specs.Prelude.{OnOk}
use Rattle.std.specs.List.{filter}
use Rattle.std.proofs.lemmas.List.{get_or_read}
use Rattle.shared_set.specs.Keys.{flat, is_other, reaches}
use Rattle.shared_set.proofs.Splits.{out_here}
use Rattle.shared_set.proofs.splice.take_out.Goals as goal

pub returns-then-place-len : goal.returns-then-place-len
returns-then-place-len g c =
    let R = g.K.Ord.cmp in
    let k = c.args.key.now in
    let bs = c.args.chunks.now.items in
    let i = c.first_reaching-place.result in
    let here = get_or bs i [] in
    let l : i < length bs = search rules in
    let before : reaches R k (flat (take i bs)) ≡ false = search rules in
    let there : reaches R k here ≡ true = search rules in
    let read : c.index.result.now ≡ here = get_or_read bs i c.index.result.now l c.index.ensures [] in
    let left : c.as_slice-then-place-len.result.now ≡ filter (is_other R k) here = c.as_slice-then-place-len.ensures.value ∙ c.in_ok-keys.ensures.same ∙ ap (filter (is_other R k)) read in
    let same = ap (λ ks. flat (take i bs) ++ (ks ++ flat (drop (i + 1) bs))) left ∙ out_here g.met.K.Ord.total k bs i l before there c.requires in
    subst (λ l. OnOk c.replace.result (flat c.replace.new.chunks.items ≡ l)) same c.replace.ensures
