use Rattle.std.proofs.Common.{◌≡◌, ◌∙◌, List, [], ℕ, Option, Some, None, unwrap_or, ap, refl, Bor}
use Rattle.std.specs.Option.{option_map}
use Rattle.http.specs.StatusCode.{reason_phrase}
use Rattle.http_heads.specs.Reply.{phrase_of}
use Rattle.http_heads.proofs.Statuses.{status_has_three_digits}
use Rattle.http_heads.proofs.reply.phrase.Goals as goal

-- what a reference points to, or else
now_or : (o : Option (Bor (List ℕ))) (d : Bor (List ℕ)) → (unwrap_or o d).now ≡ unwrap_or (option_map (λ s. s.now) o) d.now
now_or None d = refl
now_or (Some s) d = refl

pub returns : goal.returns
unfolding phrase_of
returns c =
    ap (λ (r : Bor (List ℕ)). r.now) c.unwrap_or.ensures
    ∙ now_or c.canonical_reason.result _
    ∙ ap (λ (o : Option (List ℕ)). unwrap_or o []) (c.canonical_reason.ensures.value ∙ ap reason_phrase c.in-Ok.ensures.1)

pub unreachable-requires : goal.unreachable-requires
unreachable-requires c = c.in-Err.ensures (status_has_three_digits c.args.status c.requires)
