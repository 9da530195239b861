-- What rows have that no two rows may have, as a sorted set.
use Rattle.std.specs.Prelude.{ℕ, List, ◌≡◌, Bool, true, false, ◌&&◌, ◌||◌, Option, Some}
use Rattle.std.specs.BTreeSet.{BTreeSet, contains}
use Rattle.std.specs.declared.cmp.Ordering.{Ordering}
use Rattle.content_rows.specs.declared.cell.Cell.{Cell}
use Rattle.content_rows.specs.declared.row.Row.{Row}
use Rattle.indexed_rows.specs.Texts.{text_of, is_text}
use Rattle.content_state.specs.SiteRules.{taken}
use Rattle.content_state.specs.declared.seen.Held.{Held}
use Rattle.indexed_rows.specs.declared.unique.Unique.{Unique}
use Rattle.indexed_rows.specs.declared.unique.Unique.TheVariants as unique
use Rattle.content_state.specs.contracts.seen.HeldOrd.TheImpl as order

-- the order of the set: by the kinds as the variants stand, then by the bytes of the texts
abbrev pub held_cmp : Held → Held → Ordering
held_cmp = order.ghosts.cmp

abbrev pub is_seen : BTreeSet Held → Held → Bool
is_seen seen held = contains held_cmp seen held

abbrev pub is_kind : Unique → Unique → Bool
is_kind unique.NodeUuid unique.NodeUuid = true
is_kind unique.TermUuid unique.TermUuid = true
is_kind unique.UserUuid unique.UserUuid = true
is_kind unique.UserName unique.UserName = true
is_kind unique.Path unique.Path = true
is_kind unique.CommentUuid unique.CommentUuid = true
is_kind _ _ = false

-- the set has exactly what the rows before a cell have
abbrev pub IsSeenBefore : List (Cell × Row) → Cell → BTreeSet Held → Type 0
IsSeenBefore rows c seen = (held : Held) → is_seen seen held ≡ taken rows c held.what (Some held.text.now)

-- the set got a text, if there is one
abbrev pub AddsText : BTreeSet Held → BTreeSet Held → Unique → Option (List ℕ) → Type 0
AddsText old new what text =
    (held : Held) → is_seen new held ≡ (is_seen old held || (is_kind what held.what && is_text held.text.now text))

-- the set got what a row has
abbrev pub AddsRow : BTreeSet Held → BTreeSet Held → Row → Type 0
AddsRow old new r = (held : Held) → is_seen new held ≡ (is_seen old held || is_text held.text.now (text_of held.what r))
