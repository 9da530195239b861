-- A piece of what is at hand.
use Rattle.std.proofs.Common.{◌≡◌, ◌≤◌, ◌<◌, ◌+◌, ◌-◌, ℕ, zero, suc, List, [], ◌∷◌, ◌++◌, length, take, drop, Bool, true, false, not, ◌==◌, min, cond, Some, None, refl, sym, ap, subst, ◌∙◌, arith}
use Rattle.std.specs.Prelude.{nat_lt}
use Rattle.std.specs.List.{position}
use Rattle.std.proofs.lemmas.Bool.{ltb-false}
use Rattle.std.proofs.lemmas.Bool.Decides.{Decides-eqb}
use Rattle.std.proofs.lemmas.List.{take-append-drop, drop-take, drop-drop, get_or-take, length-take, length-drop}
use Rattle.std.proofs.lemmas.List.Sums.{fails_before_first, list_all-from_AllPass, prefix_len-le-length}
use Rattle.site_files.specs.Lines.{end_of_line, is_at_end, is_one_line}
use Rattle.site_files.specs.Pieces.{IsPiece}

-- ---- the first line end

found_at : (below : Bool) (e n : ℕ) → cond below (Some e) None ≡ Some n → n ≡ e
found_at true e n h = cc
found_at false e n h = absurd cc

none_at : (below : Bool) (e : ℕ) → cond below (Some e) None ≡ None → below ≡ false
none_at true e h = absurd cc
none_at false e h = refl

-- the place that was found
pub end_found : (bytes : List ℕ) (n : ℕ) → Some n ≡ position (λ b. b == 10) bytes → n ≡ end_of_line bytes
end_found bytes n is = found_at (nat_lt (end_of_line bytes) (length bytes)) (end_of_line bytes) n (sym is)

-- or the length, where none was
pub no_end : (bytes : List ℕ) → None ≡ position (λ b. b == 10) bytes → length bytes ≡ end_of_line bytes
no_end bytes is =
    let over : length bytes ≤ end_of_line bytes = ltb-false (end_of_line bytes) (length bytes) (none_at (nat_lt (end_of_line bytes) (length bytes)) (end_of_line bytes) (sym is)) in
    omega (arith, over, prefix_len-le-length (λ b. not (b == 10)) bytes)

pub end_within : (bytes : List ℕ) → end_of_line bytes ≤ length bytes
end_within bytes = prefix_len-le-length (λ b. not (b == 10)) bytes

-- what stands before it has none
ones : (bytes : List ℕ) (n : ℕ) → n ≤ end_of_line bytes → is_one_line (take n bytes) ≡ true
ones bytes n h =
    list_all-from_AllPass (λ b. not (b == 10)) (take n bytes)
    (λ k d below.
    let first : k < n = omega (arith, below, length-take n bytes) in
    ap (λ x. not (x == 10)) (get_or-take n bytes k d first) ∙ ap not (fails_before_first (λ b. b == 10) bytes k d (omega arith)))

at_end_is : (bytes : List ℕ) → is_at_end bytes ≡ true → bytes ≡ 10 ∷ drop 1 bytes
at_end_is [] h = absurd cc
at_end_is (b ∷ bytes) h = let ten : b ≡ 10 = (Decides-eqb b 10).0 h in rw ten refl

pub at_end_some : (bytes : List ℕ) → is_at_end bytes ≡ true → 1 ≤ length bytes
at_end_some [] h = absurd cc
at_end_some (b ∷ bytes) h = omega arith

-- ---- what was taken

pub ended_piece : (pending line longer rest : List ℕ) (most taken : ℕ) → taken ≡ min (end_of_line pending) most → longer ≡ line ++ take taken pending → is_at_end (drop taken pending) ≡ true
    → rest ≡ drop (taken + 1) pending → IsPiece true most pending line longer rest
ended_piece pending line longer rest most taken few is at_end left = record {
  piece = take taken pending;
  line_is = is;
  few = omega (arith, few, length-take taken pending);
  one = ones pending taken (omega (arith, few));
  at_end = λ e. sym (take-append-drop taken pending) ∙ ap (λ s. take taken pending ++ s) (at_end_is (drop taken pending) at_end ∙ ap (λ s. 10 ∷ s) (drop-drop 1 taken pending ∙ sym left));
  going = λ e. absurd cc;
  some = λ e. absurd cc;
}

-- the first byte of what is at hand is a line end, where none stands before one
first_at : (ten : Bool) (b : ℕ) (bytes : List ℕ) → (b == 10) ≡ ten → cond (not ten) (1 + end_of_line bytes) 0 ≡ 0 → (b == 10) ≡ true
first_at true b bytes is h = is
first_at false b bytes is h = absurd (omega arith)

first_end : (pending : List ℕ) → end_of_line pending ≡ 0 → 1 ≤ length pending → is_at_end (drop 0 pending) ≡ true
first_end [] h some = absurd (omega arith)
first_end (b ∷ bytes) h some = first_at (b == 10) b bytes refl h

takes_some : (pending : List ℕ) (taken most : ℕ) → taken ≡ min (end_of_line pending) most → is_at_end (drop taken pending) ≡ false → 1 ≤ length pending → 1 ≤ most → 1 ≤ length (take taken pending)
takes_some pending zero most few at_end some room =
    let none : end_of_line pending ≡ 0 = omega (arith, few, room) in let yes = first_end pending none some in absurd cc
takes_some pending (suc taken) most few at_end some room = omega (arith, length-take (suc taken) pending)

pub going_piece : (pending line longer rest : List ℕ) (most taken : ℕ) → taken ≡ min (end_of_line pending) most → longer ≡ line ++ take taken pending → is_at_end (drop taken pending) ≡ false
    → rest ≡ drop taken pending → IsPiece false most pending line longer rest
going_piece pending line longer rest most taken few is at_end left = record {
  piece = take taken pending;
  line_is = is;
  few = omega (arith, few, length-take taken pending);
  one = ones pending taken (omega (arith, few));
  at_end = λ e. absurd cc;
  going = λ e. sym (take-append-drop taken pending) ∙ ap (λ s. take taken pending ++ s) (sym left);
  some = λ e some room. takes_some pending taken most few at_end some room;
}

-- ---- where it stands

-- what is left of the bytes from one place to another
pub moved : (bytes : List ℕ) (from upto taken : ℕ) → from + taken ≤ upto → take (upto - (from + taken)) (drop (from + taken) bytes) ≡ drop taken (take (upto - from) (drop from bytes))
moved bytes from upto taken h =
    let m = upto - (from + taken) in
    let size : upto - from ≡ taken + m = omega arith in
    ap (take m) (sym (drop-drop taken from bytes)) ∙ sym (drop-take taken m (drop from bytes)) ∙ ap (λ k. drop taken (take k (drop from bytes))) (sym size)

-- the piece that was taken of the bytes from one place to another, and where what is left of them stands
pub ended_there : (now line longer slice bytes piece left : List ℕ) (from upto most e taken : ℕ) → from ≤ upto → now ≡ take (upto - from) (drop from bytes) → slice ≡ bytes
    → e ≡ end_of_line (take (upto - from) (drop from slice)) → taken ≡ min e most → piece ≡ take taken (take (upto - from) (drop from slice)) → left ≡ drop taken (take (upto - from) (drop from slice))
    → longer ≡ line ++ piece → is_at_end left ≡ true
    → (from + (taken + 1) ≤ upto) × IsPiece true most now line longer (take (upto - (from + (taken + 1))) (drop (from + (taken + 1)) bytes))
ended_there now line longer slice bytes piece left from upto most e taken order now_is same e_is taken_is piece_is left_is longer_is at_end =
    let p = take (upto - from) (drop from bytes) in
    let view : take (upto - from) (drop from slice) ≡ p = ap (λ s. take (upto - from) (drop from s)) same in
    let few : taken ≡ min (end_of_line p) most = taken_is ∙ ap (λ n. min n most) (e_is ∙ ap end_of_line view) in
    let here : is_at_end (drop taken p) ≡ true = sym (ap is_at_end (left_is ∙ ap (drop taken) view)) ∙ at_end in
    let inside : from + (taken + 1) ≤ upto = omega (arith, at_end_some (drop taken p) here, length-drop taken p, length-take (upto - from) (drop from bytes), order) in (
      inside,
      subst (λ (s : List ℕ). IsPiece true most s line longer (take (upto - (from + (taken + 1))) (drop (from + (taken + 1)) bytes))) (sym now_is)
          (ended_piece p line longer _ most taken few (longer_is ∙ ap (λ s. line ++ s) (piece_is ∙ ap (take taken) view)) here (moved bytes from upto (taken + 1) inside)),
    )

pub goes_there : (now line longer slice bytes piece left : List ℕ) (from upto most e taken : ℕ) → from ≤ upto → now ≡ take (upto - from) (drop from bytes) → slice ≡ bytes
    → e ≡ end_of_line (take (upto - from) (drop from slice)) → taken ≡ min e most → piece ≡ take taken (take (upto - from) (drop from slice)) → left ≡ drop taken (take (upto - from) (drop from slice))
    → longer ≡ line ++ piece → is_at_end left ≡ false
    → (from + taken ≤ upto) × IsPiece false most now line longer (take (upto - (from + taken)) (drop (from + taken) bytes))
goes_there now line longer slice bytes piece left from upto most e taken order now_is same e_is taken_is piece_is left_is longer_is at_end =
    let p = take (upto - from) (drop from bytes) in
    let view : take (upto - from) (drop from slice) ≡ p = ap (λ s. take (upto - from) (drop from s)) same in
    let few : taken ≡ min (end_of_line p) most = taken_is ∙ ap (λ n. min n most) (e_is ∙ ap end_of_line view) in
    let here : is_at_end (drop taken p) ≡ false = sym (ap is_at_end (left_is ∙ ap (drop taken) view)) ∙ at_end in
    let inside : from + taken ≤ upto = omega (arith, few, end_within p, length-take (upto - from) (drop from bytes), order) in (
      inside,
      subst (λ (s : List ℕ). IsPiece false most s line longer (take (upto - (from + taken)) (drop (from + taken) bytes))) (sym now_is)
          (going_piece p line longer _ most taken few (longer_is ∙ ap (λ s. line ++ s) (piece_is ∙ ap (take taken) view)) here (moved bytes from upto taken inside)),
    )

-- as many as are taken are there
pub taken_within : (pending : List ℕ) (e most taken : ℕ) → e ≡ end_of_line pending → taken ≡ min e most → taken ≤ length pending
taken_within pending e most taken e_is taken_is = omega (arith, e_is, taken_is, end_within pending)
