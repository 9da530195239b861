-- A line that is taken piece by piece.
use Rattle.std.proofs.Common.{◌≡◌, ◌<◌, ◌-◌, ℕ, List, [], ◌∷◌, ◌++◌, length, take, true, false, not, ◌==◌, Option, Some, None, option_map, refl, sym, ap, subst, ◌∙◌, append_assoc}
use Rattle.std.proofs.lemmas.Bool.{and_parts}
use Rattle.std.proofs.lemmas.List.{append-nil}
use Rattle.site_io.specs.Told.{before, IsNothingLeft}
use Rattle.site_files.specs.Lines.{is_one_line, longest, IsTaken, ended, last, long, TakesLine}
use Rattle.site_files.specs.Pieces.{IsPiece}

-- the line so far, the bytes at hand and what is left are what there was
abbrev pub TakenSoFar : Option (List ℕ) → List ℕ → List ℕ → Option (List ℕ) → Type 0
TakenSoFar whole line chunk left = whole ≡ option_map (λ bytes. line ++ bytes) (before chunk left)

pub nothing_taken : (whole : Option (List ℕ)) (line : List ℕ) → line ≡ [] → whole ≡ option_map (λ bytes. line ++ bytes) whole
nothing_taken None line empty = refl
nothing_taken (Some bytes) line empty = rw empty refl

pub one_line_more : (a b : List ℕ) → is_one_line a ≡ true → is_one_line b ≡ true → is_one_line (a ++ b) ≡ true
one_line_more [] b h k = k
one_line_more (x ∷ a) b h k =
    let both = and_parts (not (x == 10)) (is_one_line a) h in rw (both.0, one_line_more a b both.1 k) refl

front_of : (line piece rest : List ℕ) (left : Option (List ℕ)) → option_map (λ bytes. line ++ bytes) (before (piece ++ rest) left) ≡ option_map (λ bytes. (line ++ piece) ++ bytes) (before rest left)
front_of line piece rest None = refl
front_of line piece rest (Some more) = ap Some (ap (λ s. line ++ s) (append_assoc piece rest more) ∙ sym (append_assoc line piece (rest ++ more)))

-- a piece that did not end the line
pub goes_on : (whole : Option (List ℕ)) (most : ℕ) (chunk line longer rest : List ℕ) (left : Option (List ℕ)) → IsPiece false most chunk line longer rest → TakenSoFar whole line chunk left
    → TakenSoFar whole longer rest left
goes_on whole most chunk line longer rest left p so_far =
    so_far ∙ ap (λ c. option_map (λ bytes. line ++ bytes) (before c left)) (p.going refl) ∙ front_of line p.piece rest left
    ∙ ap (λ l. option_map (λ bytes. l ++ bytes) (before rest left)) (sym p.line_is)

taken : (whole : Option (List ℕ)) (line : List ℕ) (left : Option (List ℕ)) → is_one_line line ≡ true → (f : List ℕ → List ℕ) → whole ≡ option_map f left → ((rest : List ℕ) → IsTaken (f rest) line rest)
    → TakesLine whole line left
taken None line None one f is h = tt
taken (Some bytes) line (Some rest) one f is h = (one, let same : bytes ≡ f rest = cc in subst (λ (s : List ℕ). IsTaken s line rest) (sym same) (h rest))
taken None line (Some rest) one f is h = absurd cc
taken (Some bytes) line None one f is h = absurd cc

end_of : (line piece chunk : List ℕ) (left : Option (List ℕ)) → option_map (λ bytes. line ++ bytes) (before (piece ++ 10 ∷ chunk) left) ≡ option_map (λ rest. (line ++ piece) ++ 10 ∷ rest) (before chunk left)
end_of line piece chunk None = refl
end_of line piece chunk (Some more) = ap Some (ap (λ s. line ++ s) (append_assoc piece (10 ∷ chunk) more) ∙ sym (append_assoc line piece (10 ∷ (chunk ++ more))))

-- a piece that ended the line
pub ends : (whole : Option (List ℕ)) (most : ℕ) (chunk line longer rest : List ℕ) (left : Option (List ℕ)) → IsPiece true most chunk line longer rest → is_one_line line ≡ true → TakenSoFar whole line chunk left
    → TakesLine whole longer (before rest left)
ends whole most chunk line longer rest left p one so_far =
    let all : is_one_line longer ≡ true = ap is_one_line p.line_is ∙ one_line_more line p.piece one p.one in
    let is : whole ≡ option_map (λ rest. longer ++ 10 ∷ rest) (before rest left) =
    so_far ∙ ap (λ c. option_map (λ bytes. line ++ bytes) (before c left)) (p.at_end refl) ∙ end_of line p.piece rest left
    ∙ ap (λ l. option_map (λ r. l ++ 10 ∷ r) (before rest left)) (sym p.line_is) in
    taken whole longer (before rest left) all (λ rest. longer ++ 10 ∷ rest) is (λ r. ended refl)

-- a line that is longer than it may be
pub stops : (whole : Option (List ℕ)) (line chunk : List ℕ) (left : Option (List ℕ)) → longest < length line → is_one_line line ≡ true → TakenSoFar whole line chunk left
    → TakesLine whole line (before chunk left)
stops whole line chunk left more one so_far = taken whole line (before chunk left) one (λ bytes. line ++ bytes) so_far (λ r. long refl more)

at_last : (whole : Option (List ℕ)) (line : List ℕ) (ahead : Option (List ℕ)) → IsNothingLeft ahead → is_one_line line ≡ true → whole ≡ option_map (λ bytes. line ++ bytes) ahead → TakesLine whole line ahead
at_last None line None none one is = tt
at_last (Some bytes) line (Some rest) none one is =
    let same : bytes ≡ line ++ rest = cc in (one, last (same ∙ ap (λ s. line ++ s) none ∙ append-nil line) none)
at_last None line (Some rest) none one is = absurd cc
at_last (Some bytes) line None none one is = absurd cc

none_ahead : (chunk : List ℕ) (left : Option (List ℕ)) → chunk ≡ [] → IsNothingLeft left → IsNothingLeft (before chunk left)
none_ahead chunk None empty none = tt
none_ahead chunk (Some rest) empty none = rw (empty, none) refl

-- the end of the file
pub finishes : (whole : Option (List ℕ)) (line chunk : List ℕ) (left : Option (List ℕ)) → chunk ≡ [] → IsNothingLeft left → is_one_line line ≡ true → TakenSoFar whole line chunk left
    → TakesLine whole line (before chunk left)
finishes whole line chunk left empty none one so_far = at_last whole line (before chunk left) (none_ahead chunk left empty none) one so_far

-- what is at hand changes, and not what there is
pub refilled : (whole : Option (List ℕ)) (line : List ℕ) (ahead ahead-after : Option (List ℕ)) → ahead-after ≡ ahead → whole ≡ option_map (λ bytes. line ++ bytes) ahead → whole ≡ option_map (λ bytes. line ++ bytes) ahead-after
refilled whole line ahead ahead-after same so_far = so_far ∙ ap (option_map (λ bytes. line ++ bytes)) (sym same)

-- a source that gave no bytes has what it had
pub gave_none : (old new : Option (List ℕ)) (given : List ℕ) → old ≡ before given new → given ≡ [] → IsNothingLeft old → IsNothingLeft new
gave_none old None given is empty none = tt
gave_none old (Some rest) given is empty none =
    let same : old ≡ Some rest = is ∙ ap (λ s. Some (s ++ rest)) empty in subst IsNothingLeft same none

pub none_first : (n : ℕ) (xs : List ℕ) → n ≡ 0 → take (n - 0) xs ≡ []
none_first n xs zero = ap (λ k. take (k - 0) xs) zero
