use Rattle.std.proofs.Common.{rules, ◌∙◌, ◌++◌, ◌∷◌, [], List, Bool, ap, append_assoc}
use Rattle.std.proofs.lemmas.List.{map-append}
use Rattle.site_io.specs.Adapters.{flushes_of}
use Rattle.site_io.proofs.retry.flush_retrying.Goals as goal

pub tries-preserved : goal.tries-preserved
tries-preserved g c =
    let before = c.tries.invariant in record {
      bytes = search rules;
      failed = before.failed ++ c.is_ok.result ∷ [];
      flushes =
          ap flushes_of c.and.ensures
          ∙ map-append (λ flush. flush.0) c.tries.flushes.items ((c.is_ok.result, _) ∷ [])
          ∙ ap (λ (l : List Bool). l ++ c.is_ok.result ∷ []) before.flushes
          ∙ append_assoc (flushes_of c.args.flushes.now.items) before.failed (c.is_ok.result ∷ []);
    }
