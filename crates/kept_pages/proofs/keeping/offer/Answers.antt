use Rattle.std.proofs.Common.{refl}
use Rattle.kept_pages.proofs.Shelves.{put_told}
use Rattle.kept_pages.proofs.keeping.offer.Goals as goal

pub returns-clause-told : goal.returns-clause-told
returns-clause-told g c = put_told _ _ c.args.bin c.args.key _ c.args.kept _ c.keep-kept.result c.keep-kept.ensures.keeps refl refl
