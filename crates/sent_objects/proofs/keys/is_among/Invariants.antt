use Rattle.std.proofs.Common.{◌≡◌, drop}
use Rattle.sent_objects.specs.Keys.{is_among, texts_of}
use Rattle.sent_objects.proofs.keys.is_among.Given as goal

abbrev pub invariant-keys : goal.invariant-keys
invariant-keys l = is_among (texts_of (drop l.key-index l.keys)) l.name ≡ is_among (texts_of l.keys) l.name
