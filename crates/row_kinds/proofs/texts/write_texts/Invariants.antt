use Rattle.std.proofs.Common.{◌≡◌, drop}
use Rattle.std.specs.List.{AllByRecursion}
use Rattle.serde_json.specs.Data.{no_members}
use Rattle.serde_json.specs.View.{members_view}
use Rattle.row_kinds.specs.Look.{texts_onto, IsTypedText}
use Rattle.row_kinds.proofs.texts.write_texts.Given as goal

abbrev pub invariant-texts : goal.invariant-texts
invariant-texts l = record {
  written : texts_onto (drop l.text-index l.texts) (members_view l.map.entries) ≡ texts_onto l.texts no_members;
  of_type : AllByRecursion IsTypedText (drop l.text-index l.texts) → AllByRecursion IsTypedText l.texts;
}
