use Rattle.std.proofs.Common.{◌≡◌, ℕ, ◌≤◌, length}
use Rattle.json.specs.Json.{members, value}
use Rattle.serde_json.specs.Data.{Members, no_members}
use Rattle.serde_json.specs.Read.{converted, of_members}
use Rattle.serde_json.specs.View.{members_view}
use Rattle.json_keys.specs.Order.{IsInOrder}
use Rattle.sent_objects.specs.Brief.{first_unknown, known_members}
use Rattle.sent_objects.specs.Reads.{text_in}
use Rattle.sent_objects.proofs.members.read_members.Given as goal

abbrev pub invariant-members : goal.invariant-members
invariant-members g l =
    (n : ℕ) × (length l.reader ≤ n)
    × ((full : Members) × IsInOrder full
    × (converted (λ ms. of_members ms no_members) (members (value l.depth) (length l.initial.reader) l.initial.reader) ≡ converted (λ ms. of_members ms full) (members (value l.depth) n l.reader))
    × (members_view l.found.entries ≡ known_members g.T.Member.known g.T.Member.brief full) × (text_in l.least ≡ first_unknown g.T.Member.known full))
    × (length l.reader ≤ length l.initial.reader)

abbrev pub decreases-members : goal.decreases-members
decreases-members g l = length l.reader
