-- What a whole request asks is read from its target.
use Rattle.std.proofs.Common.{ap, sym, ◌∙◌}
use Rattle.content_state.specs.Ask.{path_of, query_of}
use Rattle.site_http.specs.Connection.{AreAsks}

pub are_asks : AreAsks
are_asks bytes request size whole = record {
  path = whole.is.path ∙ sym (ap path_of whole.is.target);
  query = whole.is.query ∙ sym (ap query_of whole.is.target);
}
