-- Loops over rows, each of which leaves one row less.
use Rattle.std.proofs.Common.{◌≡◌, ◌≤◌, ◌+◌, ◌++◌, List, [], ◌∷◌, ℕ, suc, Bool, true, false, cond, Option, Some, None, Result, Ok, Err, OnErr, refl, sym, ap, subst, ◌∙◌, arith, All, length, take, map, filter, append_assoc, append-nil, length-append}
use Rattle.std.proofs.lemmas.List.Elements.{All-head, All-tail, All-cons, All-nil}
use Rattle.std.proofs.lemmas.List.{take-append-le}
use Rattle.content_rows.specs.ValidRow.{IsValidRow}
use Rattle.content_rows.specs.declared.cell.Cell.{Cell}
use Rattle.content_rows.specs.declared.row.Row.{Row}
use Rattle.indexed_rows.specs.Rows.{row_at, AreValidRows, InOrder}
use Rattle.indexed_rows.specs.Write.{Write}
use Rattle.site_io.specs.Told.{after, AddsFront}
use Rattle.site_import.specs.Changes.{is_change, write_of, writes_of, KeepsUnchanged}
use Rattle.site_import.specs.Lines.{ended_line, export_text, TellsItsRow}
use Rattle.site_import.proofs.Order.{row_within}

abbrev pub Stored : Type 0
Stored = List (Cell × Row)

-- where all rows are right, those that are left are, and what is told of these is told of all
abbrev pub SoFar : (Cell × Row → Type 0) → Stored → Stored → Type 0
SoFar P whole left = AreValidRows whole → AreValidRows left × (All P left → All P whole)

abbrev pub KeptSoFar : Stored → Stored → Stored → Type 0
KeptSoFar base whole left = AreValidRows base → SoFar (KeepsUnchanged base) whole left

abbrev pub ToldSoFar : Stored → Stored → Type 0
ToldSoFar whole left = SoFar (λ e. TellsItsRow e.0 e.1) whole left

abbrev IsRight : Cell × Row → Type 0
IsRight e = IsValidRow e.0 e.1

pub none_so_far : (P : Cell × Row → Type 0) (whole : Stored) → SoFar P whole whole
none_so_far P whole = λ valid. (valid, λ all. all)

pub one_so_far : (P : Cell × Row → Type 0) (whole left rest : Stored) (e : Cell × Row) → left ≡ e ∷ rest → (IsValidRow e.0 e.1 → P e) → SoFar P whole left → SoFar P whole rest
one_so_far P whole left rest e is one so_far = λ valid.
    let here = so_far valid in
    let right = subst (All IsRight) is here.0 in (
      All-tail IsRight e rest right,
      λ all. here.1 (subst (All P) (sym is) (All-cons P e rest (one (All-head IsRight e rest right)) all)),
    )

pub all_so_far : (P : Cell × Row → Type 0) (whole left : Stored) → left ≡ [] → SoFar P whole left → AreValidRows whole → All P whole
all_so_far P whole left is so_far valid = (so_far valid).1 (subst (All P) (sym is) (All-nil P))

-- ---- a write is made

-- the write that sets what the rows have in a cell of theirs
pub shared_write : (file before rest : Stored) (e : Cell × Row) (o : Option Row) → InOrder file → file ≡ before ++ e ∷ rest → o ≡ row_at file e.0 → record { cell = e.0; row = o } ≡ write_of e
shared_write file before rest e o sorted split is =
    ap (λ (r : Option Row). record { cell = e.0; row = r })
    (is ∙ ap (λ l. row_at l e.0) split ∙ row_within before e rest (subst InOrder split sorted))

writes_by : (b : Bool) (base : Stored) (e : Cell × Row) (rest : Stored) → is_change base e ≡ b → writes_of base (e ∷ rest) ≡ cond b (write_of e ∷ writes_of base rest) (writes_of base rest)
writes_by true base e rest is = ap (λ b. map write_of (cond b (e ∷ filter (is_change base) rest) (filter (is_change base) rest))) is
writes_by false base e rest is = ap (λ b. map write_of (cond b (e ∷ filter (is_change base) rest) (filter (is_change base) rest))) is

pub one_write : (base left rest : Stored) (e : Cell × Row) (so_far : List Write) (whole : List Write) → left ≡ e ∷ rest → is_change base e ≡ true → so_far ++ writes_of base left ≡ whole → (so_far ++ write_of e ∷ []) ++ writes_of base rest ≡ whole
one_write base left rest e so_far whole is change all =
    append_assoc so_far (write_of e ∷ []) (writes_of base rest) ∙ ap (λ ws. so_far ++ ws) (sym (ap (writes_of base) is ∙ writes_by true base e rest change)) ∙ all

pub no_write : (base left rest : Stored) (e : Cell × Row) (so_far : List Write) (whole : List Write) → left ≡ e ∷ rest → is_change base e ≡ false → so_far ++ writes_of base left ≡ whole → so_far ++ writes_of base rest ≡ whole
no_write base left rest e so_far whole is change all =
    ap (λ ws. so_far ++ ws) (sym (ap (writes_of base) is ∙ writes_by false base e rest change)) ∙ all

-- ---- a line is written

pub record WrittenSoFar (old now : Option (List ℕ)) (whole left : Stored) : Type 0 where
  pub so_far : List ℕ
  pub whole_is : export_text whole ≡ so_far ++ export_text left
  pub told : now ≡ after old so_far

after_after : (told : Option (List ℕ)) (first second : List ℕ) → after (after told first) second ≡ after told (first ++ second)
after_after None first second = refl
after_after (Some told) first second = ap Some (append_assoc told first second)

after_none : (told : Option (List ℕ)) → told ≡ after told []
after_none None = refl
after_none (Some told) = ap Some (sym (append-nil told))

pub none_written : (old : Option (List ℕ)) (whole : Stored) → WrittenSoFar old old whole whole
none_written old whole = record { so_far = []; whole_is = refl; told = after_none old }

pub one_written : (old now later : Option (List ℕ)) (whole left rest : Stored) (e : Cell × Row) → left ≡ e ∷ rest → later ≡ after now (ended_line e) → WrittenSoFar old now whole left → WrittenSoFar old later whole rest
one_written old now later whole left rest e is added w = record {
  so_far = w.so_far ++ ended_line e;
  whole_is = w.whole_is ∙ ap (λ l. w.so_far ++ export_text l) is ∙ sym (append_assoc w.so_far (ended_line e) (export_text rest));
  told = added ∙ ap (λ t. after t (ended_line e)) w.told ∙ after_after old w.so_far (ended_line e);
}

pub all_written : (old now : Option (List ℕ)) (whole left : Stored) → left ≡ [] → WrittenSoFar old now whole left → now ≡ after old (export_text whole)
all_written old now whole left is w = w.told ∙ ap (after old) (sym (w.whole_is ∙ ap (λ l. w.so_far ++ export_text l) is ∙ append-nil w.so_far))

-- a front of what is left is written, so a front of all is
take_past : (xs ys zs : List ℕ) (n : ℕ) → n ≤ length ys → xs ++ take n ys ≡ take (length xs + n) (xs ++ (ys ++ zs))
take_past [] ys zs n few = sym (take-append-le n ys zs few) ∙ ap (λ k. take k (ys ++ zs)) {x = n} {y = 0 + n} (omega arith)
take_past (x ∷ xs) ys zs n few =
    ap (λ l. x ∷ l) (take_past xs ys zs n few) ∙ ap (λ k. take k (x ∷ xs ++ (ys ++ zs))) {x = suc (length xs + n)} {y = suc (length xs) + n} (omega arith)

pub front_written : (old now later : Option (List ℕ)) (whole left rest : Stored) (e : Cell × Row) → left ≡ e ∷ rest → AddsFront now later (ended_line e) → WrittenSoFar old now whole left → AddsFront old later (export_text whole)
front_written old now later whole left rest e is front w =
    let all : export_text whole ≡ w.so_far ++ (ended_line e ++ export_text rest) = w.whole_is ∙ ap (λ l. w.so_far ++ export_text l) is in record {
      count = length w.so_far + front.count;
      within = omega (arith, front.within, ap length all, length-append w.so_far (ended_line e ++ export_text rest), length-append (ended_line e) (export_text rest));
      told = front.told ∙ ap (λ t. after t (take front.count (ended_line e))) w.told ∙ after_after old w.so_far (take front.count (ended_line e))
          ∙ ap (after old) (take_past w.so_far (ended_line e) (export_text rest) front.count front.within ∙ sym (ap (take (length w.so_far + front.count)) all));
    }

pub on_err : {X E : Type 0} {P : Type 0} (r : Result X E) → P → OnErr r P
on_err (Ok x) p = tt
on_err (Err e) p = p
