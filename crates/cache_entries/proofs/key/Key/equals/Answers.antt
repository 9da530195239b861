use Rattle.std.proofs.lemmas.Bool.Decides.{Decides-at}
use Rattle.cache_entries.specs.Keys.{same_key}
use Rattle.cache_entries.specs.KeyLaws.{key_decided}
use Rattle.cache_entries.proofs.key.Key.equals.Goals as goal

pub returns : goal.returns
returns c = Decides-at c.eq.result (same_key c.args.self.now c.args.other.now) c.eq.ensures (key_decided c.args.self.now c.args.other.now)
