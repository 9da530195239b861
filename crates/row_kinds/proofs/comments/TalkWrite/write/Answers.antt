use Rattle.row_kinds.proofs.comments.TalkWrite.write.Goals as goal

pub returns-clause-written : goal.returns-clause-written
returns-clause-written c =
    c.object_of.ensures.written _ (
    c.with_key-map.ensures.written _ (
    c.no_keys-map.ensures))
