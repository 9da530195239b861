-- Fronts of texts in pieces.
use Rattle.std.proofs.Common.{ℕ, zero, suc, List, [], ◌++◌, ◌≡◌, ◌<◌, ◌≤◌, ◌+◌, ◌-◌, refl, sym, ◌∙◌, ap, arith, append_assoc, append-nil, length-append, take, drop, length, get_or}
use Rattle.std.proofs.lemmas.List.{take-append-le, drop_more}
use Rattle.std.proofs.Math.ListN.{drop_of_length-le}
use Rattle.std.proofs.Math.Seq.{take-append-add, take-append_seam}
use Rattle.std.specs.Arc.{arc_value}
use Rattle.std.specs.declared.sync.Arc.{Arc}
use Rattle.std.specs.declared.alloc.Global.{Global}
use Rattle.html_out.specs.declared.shared.Bytes.{Bytes}
use Rattle.html_out.specs.Segment.{joined}
use Rattle.late_out.specs.Marks.{body_end}

-- so many bytes of what follows stand behind what is there
abbrev pub GoesOn : List ℕ → ℕ → List ℕ → ℕ → List ℕ → Type 0
GoesOn old left new left' piece = (rest : List ℕ) → new ++ take left' rest ≡ old ++ take left (piece ++ rest)

pub all_of_piece : (old new piece : List ℕ) (left size : ℕ) → size ≡ length piece → new ≡ old ++ piece → size ≤ left → GoesOn old left new (left - size) piece
all_of_piece old new piece left size is_size is within rest =
    ap (λ t. t ++ take (left - size) rest) is ∙ append_assoc old piece (take (left - size) rest)
    ∙ ap (λ t. old ++ t) (sym (take-append-add piece rest (left - size)) ∙ ap (λ n. take n (piece ++ rest)) both)
  where
    both : length piece + (left - size) ≡ left
    both = omega (arith, within, is_size)

pub front_of_piece : (old new piece : List ℕ) (left : ℕ) → new ≡ old ++ take left piece → left ≤ length piece → GoesOn old left new 0 piece
front_of_piece old new piece left is within rest =
    append-nil new ∙ is ∙ ap (λ t. old ++ t) (sym (take-append-le left piece rest within))

-- ---- piece by piece

pub next_front : (ps : List (Arc Bytes Global)) (i : ℕ) (p : Arc Bytes Global) (old new all : List ℕ) (left left' : ℕ) → i < length ps → p ≡ get_or ps i p
    → old ++ take left (joined (drop i ps)) ≡ all → GoesOn old left new left' (arc_value p) → new ++ take left' (joined (drop (i + 1) ps)) ≡ all
unfolding joined
next_front ps i p old new all left left' within is so_far goes =
    goes (joined (drop (i + 1) ps))
    ∙ ap (λ (q : Arc Bytes Global). old ++ take left (arc_value q ++ joined (drop (i + 1) ps))) is
    ∙ ap (λ (l : List (Arc Bytes Global)). old ++ take left (joined l)) (sym (drop_more ps i p within)) ∙ so_far

nothing_taken : (n : ℕ) → take {A = ℕ} n [] ≡ []
nothing_taken zero = refl
nothing_taken (suc n) = refl

-- all of it is what stands before the end
pub cut_off : (ps : List (Arc Bytes Global)) (i left : ℕ) (front first text : List ℕ) → length ps ≤ i
    → front ++ take left (joined (drop i ps)) ≡ take (length text - length body_end) text → text ≡ first ++ body_end → text ≡ front ++ body_end
unfolding joined
cut_off ps i left front first text over so_far is =
    is ∙ ap (λ t. t ++ body_end) (sym (take-append_seam first body_end) ∙ ap (λ n. take n (first ++ body_end)) (sym count) ∙ ap (take (length text - length body_end)) (sym is) ∙ sym front_is)
  where
    count : length text - length body_end ≡ length first
    count = omega (arith, ap length is, length-append first body_end)

    front_is : front ≡ take (length text - length body_end) text
    front_is =
        sym (append-nil front) ∙ ap (λ t. front ++ t) (sym (nothing_taken left))
        ∙ ap (λ (l : List (Arc Bytes Global)). front ++ take left (joined l)) (sym (drop_of_length-le ps over)) ∙ so_far
