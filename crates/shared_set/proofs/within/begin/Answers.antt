use Rattle.std.proofs.Common.{◌≡◌, ◌++◌, ◌∷◌, ◌∙◌, [], true, sym, ap, length, drop}
use Rattle.std.specs.List.{filter}
use Rattle.std.proofs.lemmas.List.{take_rest}
use Rattle.shared_set.specs.Keys.{flat, is_from, reaches}
use Rattle.shared_set.proofs.Ends.{stays_from}
use Rattle.shared_set.proofs.Splits.{begun_at, passed_by, first_of_rest, nothing}
use Rattle.shared_set.proofs.within.begin.Goals as goal

pub returns-in-Some : goal.returns-in-Some
returns-in-Some g c =
    let R = g.K.Ord.cmp in
    let B = g.S.Span.beside in
    let s = c.args.span.now in
    let bs = c.args.chunks.now in
    let i = c.first_entering.result in
    let b = c.in-Some.chunk.now in
    let others = c.in-Some.others.now in
    let parted : drop i bs ≡ b ∷ others = sym (take_rest bs i) ∙ c.in-Some.ensures.cases.0 in
    let first = first_of_rest R bs i b others parted c.requires in
    let there : reaches B s b ≡ true = ap (reaches B s) first.1 ∙ c.first_entering.ensures.there first.0 in
    let own : c.keys_from.result.now ≡ filter (is_from B s) b = c.keys_from.ensures ∙ ap (filter (is_from B s)) c.as_slice.ensures.same in
    ap (λ l. l ++ flat others) own ∙ begun_at B s (stays_from B s (g.met.S.Span.before s)) b (flat others) first.2 there ∙ ap (λ cs. filter (is_from B s) (flat cs)) (sym parted) ∙ passed_by B s bs i c.first_entering.ensures.before

pub returns-in-None : goal.returns-in-None
returns-in-None g c =
    let B = g.S.Span.beside in
    let s = c.args.span.now in
    let bs = c.args.chunks.now in
    let i = c.first_entering.result in
    let none : drop i bs ≡ [] = nothing (drop i bs) (ap length (sym (take_rest bs i)) ∙ c.in-None.ensures.cases) in
    ap flat (take_rest bs i ∙ none) ∙ ap (λ cs. filter (is_from B s) (flat cs)) (sym none) ∙ passed_by B s bs i c.first_entering.ensures.before
