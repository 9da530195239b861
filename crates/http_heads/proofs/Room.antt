-- A head has at least three bytes for each field.
use Rattle.std.proofs.Common.{◌+◌, ◌*◌, ◌<◌, ◌≤◌, ◌++◌, List, [], ◌∷◌, ℕ, length, arith, ap, length-append}
use Rattle.std.specs.List.{All, flat_map}
use Rattle.std.proofs.lemmas.List.Elements.{All-head, All-tail}
use Rattle.httparse.specs.Grammar.{LineEnd, crlf, lf, print_end, print_blank, print_version, Field, IsField, print_field, print_section, RequestHead, IsRequestHead, print_request}
use Rattle.httparse.specs.Spans.{RequestExceeds}

end_length : (e : LineEnd) → 1 ≤ length (print_end e)
end_length crlf = omega arith
end_length lf = omega arith

field_length : (f : Field) → IsField f → 3 ≤ length (print_field f)
field_length f is =
    omega (arith, is.name.0, end_length f.end, length-append (f.name ++ 58 ∷ f.raw) (print_end f.end), length-append f.name (58 ∷ f.raw))

fields_length : (fs : List Field) → All IsField fs → 3 * length fs ≤ length (flat_map print_field fs)
fields_length [] all = omega arith
fields_length (f ∷ fs) all =
    omega (arith, field_length f (All-head IsField f fs all), fields_length fs (All-tail IsField f fs all), length-append (print_field f) (flat_map print_field fs))

section_length : (fs : List Field) (last : LineEnd) → All IsField fs → 3 * length fs + 1 ≤ length (print_section fs last)
section_length fs last all =
    omega (arith, fields_length fs all, end_length last, length-append (flat_map print_field fs) (print_end last))

-- a head is longer than three times its fields
pub head_length : (h : RequestHead) → IsRequestHead h → 3 * length h.fields + 1 ≤ length (print_request h)
unfolding print_request
head_length h is =
    omega (
      arith,
      section_length h.fields h.last is.fields,
      length-append (print_blank h.blank ++ h.method ++ 32 ∷ h.target ++ 32 ∷ print_version h.minor ++ print_end h.line_end) (print_section h.fields h.last),
    )

-- fewer bytes than three times the room never hold more fields than the room
pub never_exceeds : (room : ℕ) (buf : List ℕ) → length buf < 3 * room → ¬ (RequestExceeds room buf)
never_exceeds room buf short (front, rest, is, h, reads, over) =
    absurd (omega (
      arith,
      head_length h reads.0,
      ap length is,
      ap length reads.1,
      length-append front rest,
      length-append front (print_end lf),
      length-append (print_request h) [],
      over,
      short,
    ))
