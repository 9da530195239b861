use Rattle.std.proofs.Common.{◌≡◌, ◌<◌, take, fold}
use Rattle.indexed_rows.specs.TextKeys.{digested}
use Rattle.indexed_rows.proofs.text_key.digest.Given as goal

abbrev pub invariant-bytes : goal.invariant-bytes
invariant-bytes l = record {
  same : l.digest ≡ fold digested 5381 (take l.byte-index l.text);
  bound : l.digest < 4294967291;
}
