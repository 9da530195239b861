use Rattle.row_keys.specs.Keys.{node_keys, type_keys, term_keys, parent_keys, comment_keys, block_keys}
use Rattle.indexed_rows.specs.TextKeys.{text_keys}
use Rattle.indexed_rows.proofs.Walked.{goes_out}
use Rattle.indexed_rows.proofs.indexes.Indexes.of.Goals as goal

pub returns : goal.returns
returns c =
    let rows = c.args.rows.now in
    let walk = c.rows.invariant in
    let none = c.in-None.ensures.steps.0 in
    record {
      nodes = c.in_ok-set_of-4.ensures rows (goes_out node_keys rows walk.walked _ _ walk.all none walk.nodes_go);
      types = c.in_ok-set_of-2.ensures rows (goes_out type_keys rows walk.walked _ _ walk.all none walk.types_go);
      terms = c.in_ok-set_of-3.ensures rows (goes_out term_keys rows walk.walked _ _ walk.all none walk.terms_go);
      parents = c.in_ok-set_of-5.ensures rows (goes_out parent_keys rows walk.walked _ _ walk.all none walk.parents_go);
      comments = c.in_ok-set_of-6.ensures rows (goes_out comment_keys rows walk.walked _ _ walk.all none walk.comments_go);
      blocks = c.in_ok-set_of-7.ensures rows (goes_out block_keys rows walk.walked _ _ walk.all none walk.blocks_go);
      texts = c.in_ok-set_of.ensures rows (goes_out text_keys rows walk.walked _ _ walk.all none walk.texts_go);
    }
