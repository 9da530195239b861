-- Texts in shared pieces, a piece at a time.
use Rattle.std.proofs.Common.{ℕ, List, [], ◌∷◌, ◌++◌, ◌≡◌, ◌∙◌, ap, append-nil}
use Rattle.std.specs.Arc.{arc_value}
use Rattle.std.specs.declared.sync.Arc.{Arc}
use Rattle.std.specs.declared.alloc.Global.{Global}
use Rattle.std.proofs.lemmas.Grind.{flat_map-append}
use Rattle.html_out.specs.declared.shared.Bytes.{Bytes}
use Rattle.html_out.specs.Segment.{joined}

-- a piece behind others
pub one_behind : (pieces : List (Arc Bytes Global)) (piece : Arc Bytes Global) → joined (pieces ++ piece ∷ []) ≡ joined pieces ++ arc_value piece
unfolding joined
one_behind pieces piece =
    flat_map-append (λ p. arc_value p) pieces (piece ∷ []) ∙ ap (λ t. joined pieces ++ t) (append-nil (arc_value piece))
