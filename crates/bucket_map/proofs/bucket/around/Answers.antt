use Rattle.std.proofs.Common.{◌∙◌, ◌∷◌, ◌++◌, ◌+◌, ap, sym, take}
use Rattle.std.proofs.lemmas.List.{take_rest}
use Rattle.bucket_map.proofs.Search.{put_at, put_between, cut_at, cut_none}
use Rattle.bucket_map.proofs.bucket.around.Goals as goal

pub returns-in-Ok-clause-put : goal.returns-in-Ok-clause-put
returns-in-Ok-clause-put g c v =
    let es = c.args.entries.now in
    let k = c.args.key.now in
    let i = c.in-Ok.at in
    put_at g.K.Ord.cmp g.met.K.Ord.total g.met.K.Placed.exact es k i v c.in-Ok.ensures.found ∙ ap (λ l. take i es ++ (k, v) ∷ l) (sym (take_rest es (i + 1)))

pub returns-in-Ok-clause-cut : goal.returns-in-Ok-clause-cut
returns-in-Ok-clause-cut g c =
    let es = c.args.entries.now in
    let i = c.in-Ok.at in
    cut_at g.K.Ord.cmp g.met.K.Ord.total g.met.K.Placed.exact es c.args.key.now i c.in-Ok.ensures.found ∙ ap (λ l. take i es ++ l) (sym (take_rest es (i + 1)))

pub returns-in-Err-clause-put : goal.returns-in-Err-clause-put
returns-in-Err-clause-put g c v =
    let es = c.args.entries.now in
    let k = c.args.key.now in
    let i = c.in-Err.at in
    put_between g.K.Ord.cmp g.met.K.Ord.total g.met.K.Placed.exact es k i v c.in-Err.ensures.absent ∙ ap (λ l. take i es ++ (k, v) ∷ l) (sym (take_rest es i))

pub returns-in-Err-clause-cut : goal.returns-in-Err-clause-cut
returns-in-Err-clause-cut g c =
    let es = c.args.entries.now in
    let i = c.in-Err.at in
    cut_none g.K.Ord.cmp g.met.K.Ord.total g.met.K.Placed.exact es c.args.key.now i c.in-Err.ensures.absent ∙ ap (λ l. take i es ++ l) (sym (take_rest es i))
