use Rattle.std.proofs.Common.{◌≡◌, ℕ, ◌+◌, ◌≤◌, length}
use Rattle.json.specs.Json.{items, parse_map, value}
use Rattle.serde_json.specs.Read.{converted, of_items}
use Rattle.sent_objects.specs.Brief.{first_items}
use Rattle.sent_objects.proofs.FirstItems.{kept_before}
use Rattle.sent_objects.proofs.inside.read_items.Given as goal

abbrev pub invariant-items : goal.invariant-items
invariant-items l =
    (n : ℕ) × (more : ℕ) × (length l.reader ≤ n) × (more + length l.found.items ≡ 257)
    × (parse_map first_items (converted of_items (items (value l.depth) (length l.initial.reader) l.initial.reader)) ≡ parse_map (kept_before l.found.items more) (converted of_items (items (value l.depth) n l.reader)))
    × (length l.reader ≤ length l.initial.reader)

abbrev pub decreases-items : goal.decreases-items
decreases-items l = length l.reader
