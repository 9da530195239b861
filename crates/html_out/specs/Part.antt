use Rattle.std.specs.Prelude.{ℕ, List, [], ◌∷◌, ◌+◌, ◌≡◌, ◌⊎◌, refl, length}
use Rattle.std.proofs.Common.{inl, inr}
use Rattle.std.specs.Coded.{Coded, code_by, coded_list, coded⊎, coded_ℕ}

-- a part of what is written: bytes, or a hole that is filled later
pub data Part (T : Type 0) : Type 0 where
  Text : List ℕ → Part T
  Hole : T → Part T

-- how many bytes stand there, outside holes
abbrev pub text_length : {T : Type 0} → List (Part T) → ℕ
text_length [] = 0
text_length (Text bytes ∷ parts) = length bytes + text_length parts
text_length (Hole hole ∷ parts) = text_length parts

-- how the logic stores a part: as one of two
abbrev pub either_of : {T : Type 0} → Part T → List ℕ ⊎ T
either_of (Text bytes) = inl bytes
either_of (Hole hole) = inr hole

abbrev pub of_either : {T : Type 0} → List ℕ ⊎ T → Part T
of_either (inl bytes) = Text bytes
of_either (inr hole) = Hole hole

pub of_either_of : {T : Type 0} (part : Part T) → of_either (either_of part) ≡ part
of_either_of (Text bytes) = refl
of_either_of (Hole hole) = refl

abbrev pub part_code : {T : Type 0} → Coded T → Coded (Part T)
part_code {T} hole = code_by (List ℕ ⊎ T) (coded⊎ (coded_list coded_ℕ) hole) either_of of_either of_either_of
