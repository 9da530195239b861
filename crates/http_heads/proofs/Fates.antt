-- Whether a text begins with a head is decided, piece by piece.
use Rattle.std.proofs.Common.{◌≡◌, ◌∙◌, ◌++◌, ◌+◌, ◌-◌, ◌==◌, ◌<◌, ◌≤◌, ◌⊎◌, List, [], ◌∷◌, ℕ, zero, suc, Bool, true, false, drop, length, get_or, slice_range, codes, ap, sym, refl, subst, arith, length-append, append_assoc, append-nil, inl, inr}
use Rattle.std.proofs.lemmas.List.{drop_more, append_cancel_left}
use Rattle.std.proofs.lemmas.List.Elements.{All-cons, All-nil}
use Rattle.std.proofs.lemmas.Bool.{cases_lt}
use Rattle.std.proofs.lemmas.Str.{IsUtf8-from_is_utf8, is_utf8-from_IsUtf8}
use Rattle.std.specs.Str.{is_utf8}
use Rattle.std.specs.List.{flat_map}
use Rattle.httparse.specs.Grammar.{is_token_byte, is_uri_byte, is_value_byte, AllPass, LineEnd, crlf, lf, print_end, print_blank, Field, IsField, print_field, RequestHead, ReadsRequest, HasNoRequest, NeverHasRequest, MayBecomeRequest}
use Rattle.httparse.specs.Pieces.{AllPassBetween, IsRunAt, Piece, Begins, Then, Refutes, NotYet, Never, Completes, is_newline, Bytes, Newline, Blank, BlankLines, Word, Method, Target, Version, Text, FieldLine, FieldLines, Section, RequestStart, MayBecomeRequestStart}
use Rattle.httparse.proofs.RunLemmas.{IsRunAt_pass, drop_split, length-slice_range}
use Rattle.httparse.proofs.PieceLemmas.{IsDeterministic, Refutes_by, Never_intro, NotYet_intro, Refutes_first, Refutes_next, Word_deterministic, Blank_deterministic, Method_deterministic, Target_deterministic, Version_deterministic, Name_deterministic, RequestStart_deterministic, Section_skip, FieldLines-append, space_ends_token, colon_ends_token}
use Rattle.httparse.proofs.ReadLemmas.{Version_bytes, Word_open, Word_wrong, Target_word, Text_open, Text_wrong, Text_done, Blank_after, Blank_open, Blank_newline, BeginsLine_either, BeginsLine_open, FieldLine_at_newline, Newline_at_other, FieldLine_row, FieldLine_done, Section_after, Section_done}
use Rattle.httparse.proofs.OpenLemmas.{Completes_first, Completes_next, some_newline, some_bytes, some_text, some_section, Newline_after_cr, BlankLines_after, Version_after_bytes, Version_before_digit, IsRunAt_all, Word_cut, letter_is_token, Text_after_run, FieldLine_of_row, Section_after_lines, Section_of_line, line_blank, line_method, ends_in_target, request_may, request_may_from_line}
use Rattle.httparse.proofs.GrammarLemmas.{request_head, request_from_pieces}
use Rattle.httparse.proofs.HeadLemmas.{request_not_yet, request_never}

-- the text begins with the piece; or not yet, and it is open in this way; or it never will
abbrev pub Fate : {A : Type 0} → Piece A → (List ℕ → Type 0) → List ℕ → Type 0
Fate G Open s = Begins G s ⊎ ((NotYet (Begins G) s × Open s) ⊎ Never (Begins G) s)

pub yes_no : (b : Bool) → (b ≡ true) ⊎ (b ≡ false)
yes_no true = inl refl
yes_no false = inr refl

both_ways : (b : Bool) → b ≡ true → b ≡ false → ⊥
both_ways b holds fails_it = cc

same_number : (a b : ℕ) → (a == b) ≡ true → a ≡ b
same_number a b h = grind arith

other_number : (a b : ℕ) → (a == b) ≡ false → a ≡ b → ⊥
other_number a b h e = grind arith

-- one piece and then another
row : {A B : Type 0} {G : Piece A} {H : Piece B} (O P Q : List ℕ → Type 0) → IsDeterministic G → (s : List ℕ)
    → Fate G O s → ((t : List ℕ) → Fate H P t) → (O s → Q s)
    → ((a : A) (t : List ℕ) → G a s t → P t → Q s) → Fate (Then G H) Q s
row {G} {H} O P Q det s first next opens passes = elim first [
  | inl (a, t, g) ↦ elim (next t) [
    | inl (b, rest, h) ↦ inl ((a, b), rest, (t, g, h))
    | inr (inl (none, may)) ↦ inr (inl (Refutes_next H det g none, passes a t g may))
    | inr (inr none) ↦ inr (inr (Refutes_next H det g none))
  ]
  | inr (inl (none, may)) ↦ inr (inl (Refutes_first G H none, opens may))
  | inr (inr none) ↦ inr (inr (Refutes_first G H none))
]

-- ---- line ends

newline_of_nothing : (e : LineEnd) (rest : List ℕ) → [] ≡ print_end e ++ rest → ⊥
newline_of_nothing crlf rest h = cc
newline_of_nothing lf rest h = cc

newline_of_cr : (e : LineEnd) (rest : List ℕ) → 13 ∷ [] ≡ print_end e ++ rest → ⊥
newline_of_cr crlf rest h = cc
newline_of_cr lf rest h = let two : ◌≡◌ {A = ℕ} 13 10 = cc in omega arith

newline_of_cr_other : (c : ℕ) (s : List ℕ) (e : LineEnd) (rest : List ℕ) → 13 ∷ c ∷ s ≡ print_end e ++ rest → c ≡ 10
newline_of_cr_other c s crlf rest h = cc
newline_of_cr_other c s lf rest h = let two : ◌≡◌ {A = ℕ} 13 10 = cc in absurd (omega arith)

at_cr : (s : List ℕ) → Fate Newline (Completes Newline) (13 ∷ s)
at_cr [] = inr (inl (NotYet_intro (λ h. newline_of_cr h.0 h.1 h.2), Newline_after_cr refl))
at_cr (c ∷ s) = elim (yes_no (c == 10)) [
  | inl is ↦ inl (crlf, s, ap (λ (n : ℕ). 13 ∷ n ∷ s) (same_number c 10 is))
  | inr other ↦ inr (inr (Never_intro (λ more h. other_number c 10 other (newline_of_cr_other c (s ++ more) h.0 h.1 h.2))))
]

no_newline : (b : ℕ) → (b == 10) ≡ false → (b == 13) ≡ false → is_newline b ≡ false
no_newline b l c = rw (l, c) refl

newline_fate : (s : List ℕ) → Fate Newline (Completes Newline) s
newline_fate [] = inr (inl (NotYet_intro (λ h. newline_of_nothing h.0 h.1 h.2), some_newline))
newline_fate (b ∷ s) = elim (yes_no (b == 10)) [
  | inl is ↦ inl (lf, s, ap (λ (n : ℕ). n ∷ s) (same_number b 10 is))
  | inr other ↦ elim (yes_no (b == 13)) [
    | inl is ↦ subst (λ (n : ℕ). Fate Newline (Completes Newline) (n ∷ s)) (sym (same_number b 13 is)) (at_cr s)
    | inr neither ↦ inr (inr (Newline_at_other _ (b ∷ s) 0 (omega arith) (no_newline b other neither)))
  ]
]

-- ---- the empty lines

one_blank : (e : LineEnd) (s : List ℕ) → print_end e ++ s ≡ print_blank (e ∷ []) ++ s
one_blank crlf s = refl
one_blank lf s = refl

blank_step : (e : LineEnd) (s : List ℕ) → Fate Blank (Completes BlankLines) s → Fate Blank (Completes BlankLines) (print_end e ++ s)
blank_step e s fate = elim fate [
  | inl (es, rest, (is, stops)) ↦ inl (e ∷ es, rest, (ap (λ (t : List ℕ). print_end e ++ t) is ∙ sym (append_assoc (print_end e) (print_blank es) rest), stops))
  | inr (inl (none, may)) ↦ inr (inl (
    Blank_after (e ∷ []) (one_blank e s) none,
    record {
      more = may.more;
      tree = e ∷ may.tree;
      reads = λ rest. append_assoc (print_end e) s (may.more ++ rest) ∙ ap (λ (t : List ℕ). print_end e ++ t) (may.reads rest) ∙ sym (append_assoc (print_end e) (print_blank may.tree) rest);
    },
  ))
  | inr (inr none) ↦ inr (inr (Blank_after (e ∷ []) (one_blank e s) none))
]

end_is_some : (e : LineEnd) → 0 < length (print_end e)
end_is_some crlf = omega arith
end_is_some lf = omega arith

shorter : (e : LineEnd) (s rest : List ℕ) (n : ℕ) → s ≡ print_end e ++ rest → length s ≤ suc n → length rest ≤ n
shorter e s rest n is fits = omega (arith, ap length is, length-append (print_end e) rest, end_is_some e)

blank_within : (n : ℕ) (s : List ℕ) → length s ≤ n → Fate Blank (Completes BlankLines) s
blank_within n [] fits = inr (inl (Blank_open [] 0 (omega arith), record { more = []; tree = []; reads = λ rest. refl }))
blank_within zero (b ∷ s) fits = absurd (omega arith)
blank_within (suc n) (b ∷ s) fits = elim (yes_no (is_newline b)) [
  | inr fails_it ↦ inl ([], b ∷ s, (refl, fails_it))
  | inl holds ↦ elim (newline_fate (b ∷ s)) [
    | inl (e, rest, is) ↦
        subst (Fate Blank (Completes BlankLines)) (sym is) (blank_step e rest (blank_within n rest (shorter e (b ∷ s) rest n is fits)))
    | inr (inl (none, may)) ↦ inr (inl (Blank_newline (b ∷ s) 0 (omega arith) holds none, BlankLines_after [] refl may))
    | inr (inr none) ↦ inr (inr (Blank_newline (b ∷ s) 0 (omega arith) holds none))
  ]
]

-- ---- words

pass_cons : (test : ℕ → Bool) (b : ℕ) (s : List ℕ) (end : ℕ) → test b ≡ true → AllPassBetween test s 0 end → AllPassBetween test (b ∷ s) 0 (suc end)
pass_cons test b s end holds pass zero from below = holds
pass_cons test b s end holds pass (suc k) from below = pass k (omega arith) (omega arith)

run_at : (test : ℕ → Bool) (s : List ℕ) → (end : ℕ) × IsRunAt test s 0 end
run_at test [] = (0, record { ordered = omega arith; in_range = omega arith; pass = λ k from below. absurd (omega arith); stops = λ below. absurd (omega arith) })
run_at test (b ∷ s) = elim (yes_no (test b)) [
  | inr fails_it ↦ (0, record { ordered = omega arith; in_range = omega arith; pass = λ k from below. absurd (omega arith); stops = λ below. fails_it })
  | inl holds ↦
      let (end, run) = run_at test s in
      let inside = run.in_range in (suc end, record { ordered = omega arith; in_range = omega arith; pass = pass_cons test b s end holds run.pass; stops = λ below. run.stops (omega arith) })
]

word_fate : (test : ℕ → Bool) (stop : ℕ) → test stop ≡ false → (s : List ℕ) → Fate (Word test stop) (AllPass test) s
word_fate test stop fails s =
    let (end, run) = run_at test s in
    let ordered = run.ordered in
    let len : length (slice_range s 0 end) ≡ end - 0 = length-slice_range s 0 end run.ordered run.in_range in
    elim (cases_lt end (length s)) [
      | inr past ↦ inr (inl (Word_open stop fails run past, IsRunAt_all run past))
      | inl inside ↦ elim (yes_no (get_or s end 0 == stop)) [
        | inr other ↦ inr (inr (Word_wrong stop fails run inside (λ e _. other_number (get_or s end 0) stop other e)))
        | inl is ↦ elim (cases_lt 0 end) [
          | inr none ↦ inr (inr (Word_wrong stop fails run inside (λ _ some. absurd (omega (arith, len)))))
          | inl some ↦ inl (
            slice_range s 0 end,
            drop (end + 1) s,
            (
              omega (arith, len),
              IsRunAt_pass run,
              drop_split s 0 end run.ordered ∙ ap (λ (t : List ℕ). slice_range s 0 end ++ t) (drop_more s end 0 inside ∙ ap (λ (n : ℕ). n ∷ drop (end + 1) s) (same_number (get_or s end 0) stop is)),
            ),
          )
        ]
      ]
    ]

not_text : (s word rest : List ℕ) → Word is_uri_byte 32 word s rest → is_utf8 word ≡ false → Never (Begins Target) s
not_text s word rest reads fails_it = Never_intro λ more h.
    let det = Word_deterministic is_uri_byte 32 refl in
    let same = det.unique _ word _ _ _ h.2.0 (det.append word s rest more reads) in
    both_ways (is_utf8 word) (subst (λ (w : List ℕ). is_utf8 w ≡ true) same.0 (is_utf8-from_IsUtf8 h.0 h.2.1)) fails_it

target_fate : (s : List ℕ) → Fate Target (AllPass is_uri_byte) s
target_fate s = elim (word_fate is_uri_byte 32 refl s) [
  | inl (word, rest, reads) ↦ elim (yes_no (is_utf8 word)) [
    | inl holds ↦ inl (word, rest, (reads, IsUtf8-from_is_utf8 word holds))
    | inr fails_it ↦ inr (inr (not_text s word rest reads fails_it))
  ]
  | inr (inl (none, all)) ↦ inr (inl (Target_word none, all))
  | inr (inr none) ↦ inr (inr (Target_word none))
]

-- ---- the version

bytes_fate : (bytes s : List ℕ) → Fate (Bytes bytes) (Completes (Bytes bytes)) s
bytes_fate [] s = inl (tt, s, refl)
bytes_fate (b ∷ bytes) [] = inr (inl (NotYet_intro (λ h. cc (h.2)), some_bytes (b ∷ bytes)))
bytes_fate (b ∷ bytes) (c ∷ s) = elim (yes_no (c == b)) [
  | inr other ↦ inr (inr (Never_intro (λ more h. other_number c b other (cc (h.2)))))
  | inl is ↦
      let same : c ≡ b = same_number c b is in
      elim (bytes_fate bytes s) [
        | inl (_, rest, e) ↦ inl (tt, rest, λ i. same i ∷ e i)
        | inr (inl (none, may)) ↦ inr (inl (
          Refutes_by (λ more h. (tt, h.1, cc (h.2))) none,
          record { more = may.more; tree = tt; reads = λ rest i. same i ∷ may.reads rest i },
        ))
        | inr (inr none) ↦ inr (inr (Refutes_by (λ more h. (tt, h.1, cc (h.2))) none))
      ]
]

abbrev mark : List ℕ
mark = codes "HTTP/1."

-- what follows the mark begins with a digit of 0 or 1
digit_after : (s t : List ℕ) (minor : ℕ) (rest : List ℕ) → s ≡ mark ++ t → s ≡ (mark ++ (48 + minor) ∷ []) ++ rest → t ≡ (48 + minor) ∷ rest
digit_after s t minor rest e f = append_cancel_left mark t ((48 + minor) ∷ rest) (sym e ∙ f)

digit_fate : (s t : List ℕ) → s ≡ mark ++ t → Fate Version (Completes Version) s
digit_fate s [] e = inr (inl (NotYet_intro (λ h. cc (digit_after s [] h.0 h.1 e h.2.1)), Version_before_digit e refl))
digit_fate s (d ∷ u) e = elim (yes_no (d == 48)) [
  | inl is ↦ inl (0, u, (omega arith, e ∙ ap (λ (n : ℕ). mark ++ n ∷ u) (same_number d 48 is)))
  | inr not48 ↦ elim (yes_no (d == 49)) [
    | inl is ↦ inl (1, u, (omega arith, e ∙ ap (λ (n : ℕ). mark ++ n ∷ u) (same_number d 49 is)))
    | inr not49 ↦ inr (inr (Never_intro (λ more h.
        let is : d ∷ (u ++ more) ≡ (48 + h.0) ∷ h.1 = digit_after (s ++ more) (d ∷ u ++ more) h.0 h.1 (ap (λ (l : List ℕ). l ++ more) e ∙ append_assoc mark (d ∷ u) more) h.2.1 in
        neither d h.0 h.2.0 (cc) not48 not49)))
  ]
]
  where
    neither : (d minor : ℕ) → minor ≤ 1 → d ≡ 48 + minor → (d == 48) ≡ false → (d == 49) ≡ false → ⊥
    neither d minor le is no48 no49 = grind arith

version_fate : (s : List ℕ) → Fate Version (Completes Version) s
version_fate s = elim (bytes_fate mark s) [
  | inl (_, t, e) ↦ digit_fate s t e
  | inr (inl (none, may)) ↦ inr (inl (Version_bytes none, Version_after_bytes may))
  | inr (inr none) ↦ inr (inr (Version_bytes none))
]

-- ---- field lines

text_fate : (s : List ℕ) → Fate Text (Completes Text) s
text_fate s =
    let (end, run) = run_at is_value_byte s in
    elim (newline_fate (drop end s)) [
      | inl (e, rest, is) ↦ inl ((slice_range s 0 end, e), rest, Text_done run e rest is)
      | inr (inl (none, may)) ↦ inr (inl (Text_open run none, Text_after_run run may))
      | inr (inr none) ↦ inr (inr (Text_wrong run none))
    ]

field_fate : (s : List ℕ) → Fate FieldLine (Completes FieldLine) s
field_fate s =
    let parts : Fate (Then (Word is_token_byte 58) Text) (Completes (Then (Word is_token_byte 58) Text)) s =
    row (AllPass is_token_byte) (Completes Text) (Completes (Then (Word is_token_byte 58) Text)) Name_deterministic s (word_fate is_token_byte 58 colon_ends_token s) text_fate
    (λ all. Completes_first (Word_cut is_token_byte 58 65 letter_is_token all) some_text)
    (λ name t word may. Completes_next Name_deterministic {a = name} word may) in
    elim parts [
      | inl (parts, rest, (t, word, text)) ↦ inl (_, rest, FieldLine_done parts.0 parts.1.0 parts.1.1 s t rest word text)
      | inr (inl (none, may)) ↦ inr (inl (FieldLine_row none, FieldLine_of_row may))
      | inr (inr none) ↦ inr (inr (FieldLine_row none))
    ]

-- ---- sections

one_line : (f : Field) (s rest : List ℕ) → FieldLine f s rest → FieldLines (f ∷ []) s rest
one_line f s rest line = (All-cons IsField f [] line.0 (All-nil IsField), line.1 ∙ simp append-nil)

regroup : (a b c d : List ℕ) → a ++ ((b ++ c) ++ d) ≡ ((a ++ b) ++ c) ++ d
regroup a b c d = simp append_assoc

section_later : {M : List ℕ → Type 0} (f : Field) (s rest : List ℕ) → FieldLine f s rest → Refutes M (Begins Section) rest → Refutes M (Begins Section) s
section_later f s rest line = Refutes_by λ more h.
    let skipped = Section_skip (f ∷ []) h.0.0 h.0.1 _ _ h.1 (FieldLines-append (f ∷ []) s rest more (one_line f s rest line)) h.2 in
    ((skipped.0, h.0.1), h.1, skipped.2)

section_step : (f : Field) (s rest : List ℕ) → FieldLine f s rest → Fate Section (Completes Section) rest → Fate Section (Completes Section) s
section_step f s rest line fate = elim fate [
  | inl (parts, r, section) ↦ inl ((f ∷ parts.0, parts.1), r, (All-cons IsField f parts.0 line.0 section.0, line.1 ∙ ap (λ (t : List ℕ). print_field f ++ t) section.1 ∙ regroup (print_field f) (flat_map print_field parts.0) (print_end parts.1) r))
  | inr (inl (none, may)) ↦ inr (inl (section_later f s rest line none, Section_after_lines (f ∷ []) (one_line f s rest line) may))
  | inr (inr none) ↦ inr (inr (section_later f s rest line none))
]

field_is_some : (f : Field) → 0 < length (print_field f)
field_is_some f = omega (arith, length-append (f.name ++ 58 ∷ f.raw) (print_end f.end), end_is_some f.end)

shorter_line : (f : Field) (s rest : List ℕ) (n : ℕ) → s ≡ print_field f ++ rest → length s ≤ suc n → length rest ≤ n
shorter_line f s rest n is fits = omega (arith, ap length is, length-append (print_field f) rest, field_is_some f)

no_lines : (s : List ℕ) → FieldLines [] s s
no_lines s = (All-nil IsField, refl)

section_within : (n : ℕ) (s : List ℕ) → length s ≤ n → Fate Section (Completes Section) s
section_within n [] fits = inr (inl (Section_after [] (no_lines []) (BeginsLine_open [] 0 (omega arith)), some_section))
section_within zero (b ∷ s) fits = absurd (omega arith)
section_within (suc n) (b ∷ s) fits = elim (yes_no (is_newline b)) [
  | inl holds ↦ elim (newline_fate (b ∷ s)) [
    | inl (e, rest, is) ↦ inl (([], e), rest, Section_done [] e (b ∷ s) (b ∷ s) rest (no_lines (b ∷ s)) is)
    | inr (inl (none, may)) ↦ inr (inl (
      Section_after [] (no_lines (b ∷ s)) (BeginsLine_either none (FieldLine_at_newline _ (b ∷ s) 0 (omega arith) holds)),
      Section_of_line (inl may),
    ))
    | inr (inr none) ↦ inr (inr (Section_after [] (no_lines (b ∷ s)) (BeginsLine_either none (FieldLine_at_newline _ (b ∷ s) 0 (omega arith) holds))))
  ]
  | inr fails_it ↦ elim (field_fate (b ∷ s)) [
    | inl (f, rest, line) ↦ section_step f (b ∷ s) rest line (section_within n rest (shorter_line f (b ∷ s) rest n line.1 fits))
    | inr (inl (none, may)) ↦ inr (inl (
      Section_after [] (no_lines (b ∷ s)) (BeginsLine_either (Newline_at_other _ (b ∷ s) 0 (omega arith) fails_it) none),
      Section_of_line (inr may),
    ))
    | inr (inr none) ↦ inr (inr (Section_after [] (no_lines (b ∷ s)) (BeginsLine_either (Newline_at_other _ (b ∷ s) 0 (omega arith) fails_it) none)))
  ]
]

-- ---- heads

abbrev VersionEnd : Piece (ℕ × LineEnd)
VersionEnd = Then Version Newline

abbrev TargetOn : Piece (List ℕ × (ℕ × LineEnd))
TargetOn = Then Target VersionEnd

abbrev MethodOn : Piece (List ℕ × (List ℕ × (ℕ × LineEnd)))
MethodOn = Then Method TargetOn

abbrev InTarget : List ℕ → Type 0
InTarget t = (m : List ℕ) × (u : List ℕ) × Method m t u × AllPass is_uri_byte u

ending_fate : (s : List ℕ) → Fate VersionEnd (Completes VersionEnd) s
ending_fate s = row (Completes Version) (Completes Newline) (Completes VersionEnd) Version_deterministic s (version_fate s) newline_fate
    (λ may. Completes_first may some_newline)
    (λ minor t version may. Completes_next Version_deterministic {a = minor} version may)

-- the target is still being read, or more bytes complete the line from it on
abbrev OpenTarget : List ℕ → Type 0
OpenTarget u = AllPass is_uri_byte u ⊎ Completes TargetOn u

abbrev OpenMethod : List ℕ → Type 0
OpenMethod t = Completes Method t ⊎ (InTarget t ⊎ Completes MethodOn t)

target_on : (s : List ℕ) → Fate TargetOn OpenTarget s
target_on s = row (AllPass is_uri_byte) (Completes VersionEnd) OpenTarget Target_deterministic s (target_fate s) ending_fate
    (λ all. inl all)
    (λ target t reads may. inr (Completes_next Target_deterministic {a = target} reads may))

method_on : (s : List ℕ) → Fate MethodOn OpenMethod s
method_on s = row (AllPass is_token_byte) OpenTarget OpenMethod Method_deterministic s (word_fate is_token_byte 32 space_ends_token s) target_on
    (λ all. inl (Word_cut is_token_byte 32 65 letter_is_token all))
    (λ method t reads may. elim may [
      | inl all ↦ inr (inl (method, t, reads, all))
      | inr completes ↦ inr (inr (Completes_next Method_deterministic {a = method} reads completes))
    ])

start_fate : (s : List ℕ) → Fate RequestStart MayBecomeRequestStart s
start_fate s = row (Completes BlankLines) OpenMethod MayBecomeRequestStart Blank_deterministic s (blank_within (length s) s (omega arith)) method_on
    (λ may. inl (line_blank may))
    (λ es t blank may. elim may [
      | inl method ↦ inl (line_method es blank method)
      | inr (inl (m, u, reads, all)) ↦ inr (ends_in_target es m u blank reads all)
      | inr (inr completes) ↦ inl (Completes_next Blank_deterministic {a = es} blank completes)
    ])

-- a text begins with a head; or it holds none and may become one; or it never will
pub head_fate : (s : List ℕ) → ((h : RequestHead) × (rest : List ℕ) × ReadsRequest s h rest) ⊎ ((HasNoRequest s × MayBecomeRequest s) ⊎ NeverHasRequest s)
head_fate s =
    let fate : Fate (Then RequestStart Section) MayBecomeRequest s =
    row MayBecomeRequestStart (Completes Section) MayBecomeRequest RequestStart_deterministic s (start_fate s) (λ t. section_within (length t) t (omega arith))
    (λ may. request_may_from_line may)
    (λ start t reads may. request_may (Completes_next RequestStart_deterministic {a = start} reads may)) in
    elim fate [
      | inl (tree, rest, reads) ↦ inl (request_head tree, rest, request_from_pieces s tree rest reads)
      | inr (inl (none, may)) ↦ inr (inl (request_not_yet none, may))
      | inr (inr none) ↦ inr (inr (request_never none))
    ]
