use Rattle.std.proofs.Common.{sym, ◌∙◌, ap}
use Rattle.std.specs.Option.{option_map, option_copied}
use Rattle.std.proofs.lemmas.Result.{IfOk-weaker}
use Rattle.cache_entries.specs.Keys.{same_key}
use Rattle.fragment_cache.specs.Bins.{thing_of}
use Rattle.fragment_cache.proofs.Seen.{seen_value}
use Rattle.fragment_cache.proofs.bins.found_at.Goals as goal

pub returns-in-Some : goal.returns-in-Some
returns-in-Some c =
    IfOk-weaker c.found_of.result _ _
    (λ found e. e ∙ ap (λ o. option_map thing_of (option_copied o)) (sym c.in-Some.is) ∙ ap (option_map thing_of) c.peek.ensures ∙ sym (seen_value (same_key c.args.key.now) c.args.cache.now.entries))
    c.found_of.ensures

pub returns-in-None : goal.returns-in-None
returns-in-None c =
    ap (λ o. option_map thing_of (option_copied o)) (sym c.in-None.is) ∙ ap (option_map thing_of) c.peek.ensures ∙ sym (seen_value (same_key c.args.key.now) c.args.cache.now.entries)
