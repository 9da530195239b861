use Rattle.row_kinds.proofs.comments.CommentWrite.write.Goals as goal

pub returns-clause-written : goal.returns-clause-written
returns-clause-written c =
    c.object_of.ensures.written _ (
    c.with_key-map-7.ensures.written _ (
    c.with_key-map-6.ensures.written _ (
    c.with_key-map-5.ensures.written _ (
    c.with_key-map-4.ensures.written _ (
    c.with_key-map-3.ensures.written _ (
    c.with_key-map-2.ensures.written _ (
    c.with_key-map.ensures.written _ (
    c.no_keys-map.ensures))))))))
