-- Texts in pieces, of which so many are written.
use Rattle.std.proofs.Common.{◌≡◌, ◌∙◌, ◌≤◌, ◌<◌, ◌+◌, ◌++◌, List, [], ◌∷◌, ℕ, suc, Option, Result, Ok, Err, OnErr, ap, sym, arith, length, length-append, take, drop, get_or}
use Rattle.std.proofs.Math.Seq.{split_at, take-length}
use Rattle.std.proofs.lemmas.List.{append-nil, take-append-le}
use Rattle.std.proofs.lemmas.Grind.{flat_map-append}
use Rattle.std.specs.Arc.{arc_value}
use Rattle.std.specs.declared.sync.Arc.{Arc}
use Rattle.std.specs.declared.alloc.Global.{Global}
use Rattle.html_out.specs.Segment.{joined}
use Rattle.html_out.specs.declared.shared.Bytes.{Bytes}
use Rattle.site_io.specs.Told.{after, AddsFront}
use Rattle.site_io.proofs.Told.{after_after}
use Rattle.site_late.proofs.Told.{after_nothing}

pub one_more : (told : Option (List ℕ)) (first second : List ℕ) → after (after told first) second ≡ after told (first ++ second)
one_more told first second = after_after told first second

-- what stands before a piece, the piece, and what stands behind it
pub joined_at : (parts : List (Arc Bytes Global)) (i : ℕ) (d : Arc Bytes Global) → i < length parts → joined parts ≡ joined (take i parts) ++ (arc_value (get_or parts i d) ++ joined (drop (suc i) parts))
unfolding joined
joined_at parts i d within =
    ap joined (split_at parts i d within)
    ∙ flat_map-append (λ piece. arc_value piece) (take i parts) (get_or parts i d ∷ drop (suc i) parts)

-- a front of what comes next, so a front of all
take_past : (xs ys zs : List ℕ) (n : ℕ) → n ≤ length ys → xs ++ take n ys ≡ take (length xs + n) (xs ++ (ys ++ zs))
take_past [] ys zs n few = sym (take-append-le n ys zs few) ∙ ap (λ k. take k (ys ++ zs)) {x = n} {y = 0 + n} (omega arith)
take_past (x ∷ xs) ys zs n few =
    ap (λ l. x ∷ l) (take_past xs ys zs n few)
    ∙ ap (λ k. take k (x ∷ (xs ++ (ys ++ zs)))) {x = suc (length xs + n)} {y = length (x ∷ xs) + n} (omega arith)

pub front_in : (told now later : Option (List ℕ)) (all done piece rest : List ℕ) → all ≡ done ++ (piece ++ rest) → now ≡ after told done → AddsFront now later piece → AddsFront told later all
front_in told now later all done piece rest is so_far front =
    let within = front.within in
    record {
      count = length done + front.count;
      within = omega (arith, within, ap length is, length-append done (piece ++ rest), length-append piece rest);
      told =
          front.told ∙ ap (λ t. after t (take front.count piece)) so_far
          ∙ after_after told done (take front.count piece)
          ∙ ap (after told) (take_past done piece rest front.count within ∙ sym (ap (take (length done + front.count)) is));
    }

pub on_err : {A E : Type 0} {P : Type 0} (r : Result A E) → P → OnErr r P
on_err (Ok v) p = tt
on_err (Err e) p = p

-- the head was written, and then a front of the body
pub body_front : {A E : Type 0} (r : Result A E) (told now later : Option (List ℕ)) (head body : List ℕ) → now ≡ after told head → OnErr r (AddsFront now later body) → OnErr r (AddsFront told later (head ++ body))
body_front (Ok v) told now later head body so_far front = tt
body_front (Err e) told now later head body so_far front =
    front_in told now later (head ++ body) head body [] (ap (λ b. head ++ b) (sym (append-nil body))) so_far front

-- all was written, which is a front
pub all_is_front : (told now : Option (List ℕ)) (all : List ℕ) → now ≡ after told all → AddsFront told now all
all_is_front told now all is = record {
  count = length all;
  within = omega arith;
  told = is ∙ ap (after told) (sym (take-length all));
}

-- nothing was written, which is a front
pub none_is_front : (told : Option (List ℕ)) (all : List ℕ) → AddsFront told told all
none_is_front told all = record { count = 0; within = omega arith; told = after_nothing told }
