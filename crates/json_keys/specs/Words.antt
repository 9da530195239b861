-- The words for what is wrong with an object.
use Rattle.std.specs.Prelude.{ℕ, List, codes}
use Rattle.json_keys.specs.declared.rule.Rule.{Rule}
use Rattle.json_keys.specs.declared.rule.Rule.TheVariants as rule

abbrev pub rule_word : Rule → List ℕ
rule_word rule.Unknown = codes "unknown"
rule_word rule.Missing = codes "missing"
rule_word rule.Kind = codes "kind"
rule_word rule.Many = codes "many"
rule_word rule.Length = codes "length"
rule_word rule.Bytes = codes "bytes"
rule_word rule.Range = codes "range"
rule_word rule.Reserved = codes "reserved"
rule_word rule.Twice = codes "twice"
rule_word rule.Absent = codes "absent"
rule_word rule.Cycle = codes "cycle"
rule_word rule.Deep = codes "deep"
rule_word rule.Pair = codes "pair"
rule_word rule.Taken = codes "taken"
rule_word rule.Locked = codes "locked"
rule_word rule.Used = codes "used"
rule_word rule.Full = codes "full"
