-- A text escaped run by run.
use Rattle.std.proofs.Common.{◌≡◌, ◌++◌, ◌∷◌, ◌+◌, ◌<◌, ◌≤◌, [], List, ℕ, length, take, drop, get_or, refl, ap, ◌∙◌, sym, append_assoc}
use Rattle.std.specs.List.{flat_map}
use Rattle.std.proofs.lemmas.Grind.{flat_map-append}
use Rattle.std.proofs.lemmas.List.{take_more, take-append-drop, append-nil}
use Rattle.std.proofs.Math.Seq.{take-add, take-append_seam}
use Rattle.html_out.specs.Escape.{escaped, escaped_byte}

pub escaped-append : (xs ys : List ℕ) → escaped (xs ++ ys) ≡ escaped xs ++ escaped ys
unfolding escaped
escaped-append xs ys = flat_map-append escaped_byte xs ys

pub escaped-one : (byte : ℕ) → escaped (byte ∷ []) ≡ escaped_byte byte
unfolding escaped
escaped-one byte = append-nil (escaped_byte byte)

pub escaped-none : escaped [] ≡ []
unfolding escaped
escaped-none = refl

-- one byte more
pub escaped-more : (text : List ℕ) (i d : ℕ) → i < length text → escaped (take (i + 1) text) ≡ escaped (take i text) ++ escaped_byte (get_or text i d)
escaped-more text i d within =
    ap escaped (take_more text i d within)
    ∙ escaped-append (take i text) (get_or text i d ∷ [])
    ∙ ap (λ more. escaped (take i text) ++ more) (escaped-one (get_or text i d))

-- one run more
pub escaped-run : (text : List ℕ) (i n : ℕ) → escaped (take (i + n) text) ≡ escaped (take i text) ++ escaped (take n (drop i text))
escaped-run text i n = ap escaped (take-add i n text) ∙ escaped-append (take i text) (take n (drop i text))

-- a front of plain bytes is one longer
pub plain-more : (text : List ℕ) (i d : ℕ) → i < length text → escaped (take i text) ≡ take i text → escaped_byte (get_or text i d) ≡ get_or text i d ∷ [] → escaped (take (i + 1) text) ≡ take (i + 1) text
plain-more text i d within front plain =
    escaped-more text i d within
    ∙ (λ j. front j ++ plain j)
    ∙ sym (take_more text i d within)

-- what a run adds to what was escaped before it
pub run-more : (before text rest out new : List ℕ) (i n : ℕ) → rest ≡ drop i text → out ≡ before ++ escaped (take i text) → new ≡ out ++ escaped (take n rest) → new ≡ before ++ escaped (take (i + n) text)
run-more before text rest out new i n is so_far added =
    added
    ∙ ap (λ l. out ++ escaped (take n l)) is
    ∙ ap (λ l. l ++ escaped (take n (drop i text))) so_far
    ∙ append_assoc before (escaped (take i text)) (escaped (take n (drop i text)))
    ∙ ap (λ l. before ++ l) (sym (escaped-run text i n))

-- what stood there is the front of what stands there once more was added, whole or in part
pub front-kept : (before more out new : List ℕ) → out ≡ before ++ more → take (length out) new ≡ out → take (length before) new ≡ before
front-kept before more out new so_far kept =
    ap (take (length before)) (sym (take-append-drop (length out) new))
    ∙ ap (λ l. take (length before) (l ++ drop (length out) new)) (kept ∙ so_far)
    ∙ ap (take (length before)) (append_assoc before more (drop (length out) new))
    ∙ take-append_seam before (more ++ drop (length out) new)
