use Rattle.kept_pages.proofs.Entries.{entry_valued}
use Rattle.kept_pages.proofs.keeping.key_by_entry.Goals as goal

pub key_beside-requires : goal.key_beside-requires
key_beside-requires c = entry_valued c.args.reader.now c.args.subject.now c.args.entry.now c.requires
