use Rattle.std.proofs.Common.{◌≡◌, ℕ, ◌≤◌, length}
use Rattle.json.specs.Json.{members, value}
use Rattle.serde_json.specs.Data.{Members, no_members}
use Rattle.serde_json.specs.Read.{converted, of_members}
use Rattle.json_keys.specs.Order.{IsInOrder}
use Rattle.sent_objects.specs.Brief.{every, flat_at, known_members}
use Rattle.sent_objects.proofs.Gathered.{puts}
use Rattle.sent_objects.proofs.pairs.read_pairs.Given as goal

abbrev pub invariant-members : goal.invariant-members
invariant-members l =
    (n : ℕ) × (length l.reader ≤ n)
    × ((full : Members) × IsInOrder full
    × (converted (λ ms. of_members ms no_members) (members (value l.depth) (length l.initial.reader) l.initial.reader) ≡ converted (λ ms. of_members ms full) (members (value l.depth) n l.reader))
    × (puts l.found.items no_members ≡ known_members every flat_at full))
    × (length l.reader ≤ length l.initial.reader)

abbrev pub decreases-members : goal.decreases-members
decreases-members l = length l.reader
