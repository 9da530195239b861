-- The rows that have a text are those that the index of texts leads to.
use Rattle.std.proofs.Common.{ℕ, List, [], ◌∷◌, ◌++◌, ◌≡◌, ◌∙◌, refl, sym, ap, Bool, true, false, cond, Option, Some, None, map, flat_map}
use Rattle.std.specs.Prelude.{option_and_then, option_map}
use Rattle.std.specs.List.{AllByRecursion, cons_option, filter}
use Rattle.std.specs.List.Sorted.{IsStrictlySortedBy}
use Rattle.std.specs.Map.{keys_of}
use Rattle.std.specs.Ordering.{is_eq, nat_cmp, ordering_then, ordering_reverse}
use Rattle.std.specs.Cmp.{tied_itself, nat_cmp_total, Equal-is}
use Rattle.std.specs.declared.cmp.Ordering.TheVariants.{Less, Greater}
use Rattle.std.proofs.lemmas.List.{append-nil}
use Rattle.std.proofs.lemmas.List.Elements.{filter-append}
use Rattle.std.proofs.lemmas.Map.Keys.{sorted_head, sorted_tail}
use Rattle.std.proofs.lemmas.Slice.Eq.{bytes_eq-Decides}
use Rattle.content_rows.specs.declared.cell.Cell.{Cell}
use Rattle.content_rows.specs.declared.row.Row.{Row}
use Rattle.content_rows.specs.CellOrder.{cell_cmp}
use Rattle.content_rows.proofs.CellLemmas.{cell_cmp_total}
use Rattle.shared_set.specs.Keys.{is_in}
use Rattle.index_law.specs.Index.{in_order, index_of}
use Rattle.index_law.proofs.Orders.{filter_in_order, ordered_stays}
use Rattle.indexed_rows.specs.declared.unique.Unique.{Unique}
use Rattle.indexed_rows.specs.declared.unique.Unique.TheVariants as unique
use Rattle.indexed_rows.specs.declared.text_mark.TextMark.{TextMark}
use Rattle.indexed_rows.specs.declared.text_mark.TextKey.{TextKey}
use Rattle.indexed_rows.specs.contracts.text_mark.TextKeyOrd.TheImpl as key_order
use Rattle.indexed_rows.specs.contracts.text_mark.TextKeyOrd.TheImpl.Laws as laws
use Rattle.indexed_rows.specs.Rows.{row_at, InOrder}
use Rattle.indexed_rows.specs.Texts.{is_text, text_of}
use Rattle.content_state.specs.Having.{having}
use Rattle.content_state.specs.FoundTexts.{found_with}
use Rattle.indexed_rows.specs.TextKeys.{digest, mark_cmp, key_of, text_key, text_keys}
use Rattle.indexed_rows.specs.TextLaws.{nat_exact, text_exact, mark_total}

is_level : (a b : ℕ) → is_eq (nat_cmp a b) ≡ true → a ≡ b
is_level a b h = nat_exact a b ((Equal-is (nat_cmp a b)).0 h)

ends0 : (x : List TextKey) → x ++ [] ++ [] ++ [] ++ [] ++ [] ≡ x
ends0 x = append-nil (x ++ [] ++ [] ++ [] ++ []) ∙ append-nil (x ++ [] ++ [] ++ []) ∙ append-nil (x ++ [] ++ []) ∙ append-nil (x ++ []) ∙ append-nil x

ends1 : (x : List TextKey) → [] ++ x ++ [] ++ [] ++ [] ++ [] ≡ x
ends1 x = append-nil (x ++ [] ++ [] ++ []) ∙ append-nil (x ++ [] ++ []) ∙ append-nil (x ++ []) ∙ append-nil x

ends2 : (x : List TextKey) → [] ++ [] ++ x ++ [] ++ [] ++ [] ≡ x
ends2 x = append-nil (x ++ [] ++ []) ∙ append-nil (x ++ []) ∙ append-nil x

ends3 : (x : List TextKey) → [] ++ [] ++ [] ++ x ++ [] ++ [] ≡ x
ends3 x = append-nil (x ++ []) ∙ append-nil x

ends4 : (x : List TextKey) → [] ++ [] ++ [] ++ [] ++ x ++ [] ≡ x
ends4 x = append-nil x

ends5 : (x : List TextKey) → [] ++ [] ++ [] ++ [] ++ [] ++ x ≡ x
ends5 x = refl

-- ---- of a row, the keys of one mark

module _ (what : Unique) (d : ℕ) where
  abbrev mark : TextMark
  mark = record { what = what; digest = d }

  abbrev key : Cell × Row → TextKey
  key e = record { mark = mark; cell = e.0 }

  -- whether a text has the digest
  abbrev has_digest : Option (List ℕ) → Bool
  has_digest None = false
  has_digest (Some text) = is_eq (nat_cmp d (digest text))

  abbrev has : Cell × Row → Bool
  has e = has_digest (text_of what e.1)

  abbrev of_mark : List TextKey → List TextKey
  of_mark ks = filter (is_in (λ (m : TextMark) (k : TextKey). mark_cmp m k.mark) mark) ks

  abbrev one : Cell → Option (List ℕ) → List TextKey
  one c text = cond (has_digest text) (record { mark = mark; cell = c } ∷ []) []

  abbrev key_at : ℕ → Cell → List TextKey
  key_at n c = record { mark = record { what = what; digest = n }; cell = c } ∷ []

  own_key : (text : List ℕ) (c : Cell) (b : Bool) → is_eq (nat_cmp d (digest text)) ≡ b → cond b (key_at (digest text) c) [] ≡ cond b (key_at d c) []
  own_key text c true e = ap (λ (n : ℕ). key_at n c) (sym (is_level d (digest text) e))
  own_key text c false e = refl

six : (p : TextKey → Bool) (a b c d f g : List TextKey) → filter p (a ++ b ++ c ++ d ++ f ++ g) ≡ filter p a ++ filter p b ++ filter p c ++ filter p d ++ filter p f ++ filter p g
six p a b c d f g =
    filter-append p (a ++ b ++ c ++ d ++ f) g
    ∙ ap (λ l. l ++ filter p g) (filter-append p (a ++ b ++ c ++ d) f
    ∙ ap (λ l. l ++ filter p f) (filter-append p (a ++ b ++ c) d ∙ ap (λ l. l ++ filter p d) (filter-append p (a ++ b) c ∙ ap (λ l. l ++ filter p c) (filter-append p a b))))

-- a text that there may be
by_text : (f g : Option (List ℕ) → List TextKey) → f None ≡ g None → ((t : List ℕ) → f (Some t) ≡ g (Some t)) → (t : Option (List ℕ)) → f t ≡ g t
by_text f g none some None = none
by_text f g none some (Some t) = some t

-- of what a row has, one thing has the mark's kind
abbrev of_kind : Unique → ℕ → TextKey → Bool
of_kind what d k = is_in (λ (m : TextMark) (k : TextKey). mark_cmp m k.mark) (mark what d) k

row_part : (what : Unique) (d : ℕ) (e : Cell × Row) → of_mark what d (text_keys e) ≡ one what d e.0 (text_of what e.1)
row_part unique.NodeUuid d e =
    let p = of_kind unique.NodeUuid d in
    six p (text_key unique.NodeUuid e) (text_key unique.TermUuid e) (text_key unique.UserUuid e) (text_key unique.UserName e) (text_key unique.Path e) (text_key unique.CommentUuid e)
    ∙ (λ i. own i ++ TermUuid_none i ++ UserUuid_none i ++ UserName_none i ++ Path_none i ++ CommentUuid_none i)
    ∙ ends0 (one unique.NodeUuid d e.0 (text_of unique.NodeUuid e.1))
  where
    own : filter (of_kind unique.NodeUuid d) (text_key unique.NodeUuid e) ≡ one unique.NodeUuid d e.0 (text_of unique.NodeUuid e.1)
    own = by_text (λ t. filter (of_kind unique.NodeUuid d) (key_of unique.NodeUuid e.0 t)) (λ t. one unique.NodeUuid d e.0 t) refl (λ t. own_key unique.NodeUuid d t e.0 (is_eq (nat_cmp d (digest t))) refl) (text_of unique.NodeUuid e.1)

    TermUuid_none : filter (of_kind unique.NodeUuid d) (text_key unique.TermUuid e) ≡ []
    TermUuid_none = by_text (λ t. filter (of_kind unique.NodeUuid d) (key_of unique.TermUuid e.0 t)) (λ t. []) refl (λ t. refl) (text_of unique.TermUuid e.1)

    UserUuid_none : filter (of_kind unique.NodeUuid d) (text_key unique.UserUuid e) ≡ []
    UserUuid_none = by_text (λ t. filter (of_kind unique.NodeUuid d) (key_of unique.UserUuid e.0 t)) (λ t. []) refl (λ t. refl) (text_of unique.UserUuid e.1)

    UserName_none : filter (of_kind unique.NodeUuid d) (text_key unique.UserName e) ≡ []
    UserName_none = by_text (λ t. filter (of_kind unique.NodeUuid d) (key_of unique.UserName e.0 t)) (λ t. []) refl (λ t. refl) (text_of unique.UserName e.1)

    Path_none : filter (of_kind unique.NodeUuid d) (text_key unique.Path e) ≡ []
    Path_none = by_text (λ t. filter (of_kind unique.NodeUuid d) (key_of unique.Path e.0 t)) (λ t. []) refl (λ t. refl) (text_of unique.Path e.1)

    CommentUuid_none : filter (of_kind unique.NodeUuid d) (text_key unique.CommentUuid e) ≡ []
    CommentUuid_none = by_text (λ t. filter (of_kind unique.NodeUuid d) (key_of unique.CommentUuid e.0 t)) (λ t. []) refl (λ t. refl) (text_of unique.CommentUuid e.1)
row_part unique.TermUuid d e =
    let p = of_kind unique.TermUuid d in
    six p (text_key unique.NodeUuid e) (text_key unique.TermUuid e) (text_key unique.UserUuid e) (text_key unique.UserName e) (text_key unique.Path e) (text_key unique.CommentUuid e)
    ∙ (λ i. NodeUuid_none i ++ own i ++ UserUuid_none i ++ UserName_none i ++ Path_none i ++ CommentUuid_none i)
    ∙ ends1 (one unique.TermUuid d e.0 (text_of unique.TermUuid e.1))
  where
    own : filter (of_kind unique.TermUuid d) (text_key unique.TermUuid e) ≡ one unique.TermUuid d e.0 (text_of unique.TermUuid e.1)
    own = by_text (λ t. filter (of_kind unique.TermUuid d) (key_of unique.TermUuid e.0 t)) (λ t. one unique.TermUuid d e.0 t) refl (λ t. own_key unique.TermUuid d t e.0 (is_eq (nat_cmp d (digest t))) refl) (text_of unique.TermUuid e.1)

    NodeUuid_none : filter (of_kind unique.TermUuid d) (text_key unique.NodeUuid e) ≡ []
    NodeUuid_none = by_text (λ t. filter (of_kind unique.TermUuid d) (key_of unique.NodeUuid e.0 t)) (λ t. []) refl (λ t. refl) (text_of unique.NodeUuid e.1)

    UserUuid_none : filter (of_kind unique.TermUuid d) (text_key unique.UserUuid e) ≡ []
    UserUuid_none = by_text (λ t. filter (of_kind unique.TermUuid d) (key_of unique.UserUuid e.0 t)) (λ t. []) refl (λ t. refl) (text_of unique.UserUuid e.1)

    UserName_none : filter (of_kind unique.TermUuid d) (text_key unique.UserName e) ≡ []
    UserName_none = by_text (λ t. filter (of_kind unique.TermUuid d) (key_of unique.UserName e.0 t)) (λ t. []) refl (λ t. refl) (text_of unique.UserName e.1)

    Path_none : filter (of_kind unique.TermUuid d) (text_key unique.Path e) ≡ []
    Path_none = by_text (λ t. filter (of_kind unique.TermUuid d) (key_of unique.Path e.0 t)) (λ t. []) refl (λ t. refl) (text_of unique.Path e.1)

    CommentUuid_none : filter (of_kind unique.TermUuid d) (text_key unique.CommentUuid e) ≡ []
    CommentUuid_none = by_text (λ t. filter (of_kind unique.TermUuid d) (key_of unique.CommentUuid e.0 t)) (λ t. []) refl (λ t. refl) (text_of unique.CommentUuid e.1)
row_part unique.UserUuid d e =
    let p = of_kind unique.UserUuid d in
    six p (text_key unique.NodeUuid e) (text_key unique.TermUuid e) (text_key unique.UserUuid e) (text_key unique.UserName e) (text_key unique.Path e) (text_key unique.CommentUuid e)
    ∙ (λ i. NodeUuid_none i ++ TermUuid_none i ++ own i ++ UserName_none i ++ Path_none i ++ CommentUuid_none i)
    ∙ ends2 (one unique.UserUuid d e.0 (text_of unique.UserUuid e.1))
  where
    own : filter (of_kind unique.UserUuid d) (text_key unique.UserUuid e) ≡ one unique.UserUuid d e.0 (text_of unique.UserUuid e.1)
    own = by_text (λ t. filter (of_kind unique.UserUuid d) (key_of unique.UserUuid e.0 t)) (λ t. one unique.UserUuid d e.0 t) refl (λ t. own_key unique.UserUuid d t e.0 (is_eq (nat_cmp d (digest t))) refl) (text_of unique.UserUuid e.1)

    NodeUuid_none : filter (of_kind unique.UserUuid d) (text_key unique.NodeUuid e) ≡ []
    NodeUuid_none = by_text (λ t. filter (of_kind unique.UserUuid d) (key_of unique.NodeUuid e.0 t)) (λ t. []) refl (λ t. refl) (text_of unique.NodeUuid e.1)

    TermUuid_none : filter (of_kind unique.UserUuid d) (text_key unique.TermUuid e) ≡ []
    TermUuid_none = by_text (λ t. filter (of_kind unique.UserUuid d) (key_of unique.TermUuid e.0 t)) (λ t. []) refl (λ t. refl) (text_of unique.TermUuid e.1)

    UserName_none : filter (of_kind unique.UserUuid d) (text_key unique.UserName e) ≡ []
    UserName_none = by_text (λ t. filter (of_kind unique.UserUuid d) (key_of unique.UserName e.0 t)) (λ t. []) refl (λ t. refl) (text_of unique.UserName e.1)

    Path_none : filter (of_kind unique.UserUuid d) (text_key unique.Path e) ≡ []
    Path_none = by_text (λ t. filter (of_kind unique.UserUuid d) (key_of unique.Path e.0 t)) (λ t. []) refl (λ t. refl) (text_of unique.Path e.1)

    CommentUuid_none : filter (of_kind unique.UserUuid d) (text_key unique.CommentUuid e) ≡ []
    CommentUuid_none = by_text (λ t. filter (of_kind unique.UserUuid d) (key_of unique.CommentUuid e.0 t)) (λ t. []) refl (λ t. refl) (text_of unique.CommentUuid e.1)
row_part unique.UserName d e =
    let p = of_kind unique.UserName d in
    six p (text_key unique.NodeUuid e) (text_key unique.TermUuid e) (text_key unique.UserUuid e) (text_key unique.UserName e) (text_key unique.Path e) (text_key unique.CommentUuid e)
    ∙ (λ i. NodeUuid_none i ++ TermUuid_none i ++ UserUuid_none i ++ own i ++ Path_none i ++ CommentUuid_none i)
    ∙ ends3 (one unique.UserName d e.0 (text_of unique.UserName e.1))
  where
    own : filter (of_kind unique.UserName d) (text_key unique.UserName e) ≡ one unique.UserName d e.0 (text_of unique.UserName e.1)
    own = by_text (λ t. filter (of_kind unique.UserName d) (key_of unique.UserName e.0 t)) (λ t. one unique.UserName d e.0 t) refl (λ t. own_key unique.UserName d t e.0 (is_eq (nat_cmp d (digest t))) refl) (text_of unique.UserName e.1)

    NodeUuid_none : filter (of_kind unique.UserName d) (text_key unique.NodeUuid e) ≡ []
    NodeUuid_none = by_text (λ t. filter (of_kind unique.UserName d) (key_of unique.NodeUuid e.0 t)) (λ t. []) refl (λ t. refl) (text_of unique.NodeUuid e.1)

    TermUuid_none : filter (of_kind unique.UserName d) (text_key unique.TermUuid e) ≡ []
    TermUuid_none = by_text (λ t. filter (of_kind unique.UserName d) (key_of unique.TermUuid e.0 t)) (λ t. []) refl (λ t. refl) (text_of unique.TermUuid e.1)

    UserUuid_none : filter (of_kind unique.UserName d) (text_key unique.UserUuid e) ≡ []
    UserUuid_none = by_text (λ t. filter (of_kind unique.UserName d) (key_of unique.UserUuid e.0 t)) (λ t. []) refl (λ t. refl) (text_of unique.UserUuid e.1)

    Path_none : filter (of_kind unique.UserName d) (text_key unique.Path e) ≡ []
    Path_none = by_text (λ t. filter (of_kind unique.UserName d) (key_of unique.Path e.0 t)) (λ t. []) refl (λ t. refl) (text_of unique.Path e.1)

    CommentUuid_none : filter (of_kind unique.UserName d) (text_key unique.CommentUuid e) ≡ []
    CommentUuid_none = by_text (λ t. filter (of_kind unique.UserName d) (key_of unique.CommentUuid e.0 t)) (λ t. []) refl (λ t. refl) (text_of unique.CommentUuid e.1)
row_part unique.Path d e =
    let p = of_kind unique.Path d in
    six p (text_key unique.NodeUuid e) (text_key unique.TermUuid e) (text_key unique.UserUuid e) (text_key unique.UserName e) (text_key unique.Path e) (text_key unique.CommentUuid e)
    ∙ (λ i. NodeUuid_none i ++ TermUuid_none i ++ UserUuid_none i ++ UserName_none i ++ own i ++ CommentUuid_none i)
    ∙ ends4 (one unique.Path d e.0 (text_of unique.Path e.1))
  where
    own : filter (of_kind unique.Path d) (text_key unique.Path e) ≡ one unique.Path d e.0 (text_of unique.Path e.1)
    own = by_text (λ t. filter (of_kind unique.Path d) (key_of unique.Path e.0 t)) (λ t. one unique.Path d e.0 t) refl (λ t. own_key unique.Path d t e.0 (is_eq (nat_cmp d (digest t))) refl) (text_of unique.Path e.1)

    NodeUuid_none : filter (of_kind unique.Path d) (text_key unique.NodeUuid e) ≡ []
    NodeUuid_none = by_text (λ t. filter (of_kind unique.Path d) (key_of unique.NodeUuid e.0 t)) (λ t. []) refl (λ t. refl) (text_of unique.NodeUuid e.1)

    TermUuid_none : filter (of_kind unique.Path d) (text_key unique.TermUuid e) ≡ []
    TermUuid_none = by_text (λ t. filter (of_kind unique.Path d) (key_of unique.TermUuid e.0 t)) (λ t. []) refl (λ t. refl) (text_of unique.TermUuid e.1)

    UserUuid_none : filter (of_kind unique.Path d) (text_key unique.UserUuid e) ≡ []
    UserUuid_none = by_text (λ t. filter (of_kind unique.Path d) (key_of unique.UserUuid e.0 t)) (λ t. []) refl (λ t. refl) (text_of unique.UserUuid e.1)

    UserName_none : filter (of_kind unique.Path d) (text_key unique.UserName e) ≡ []
    UserName_none = by_text (λ t. filter (of_kind unique.Path d) (key_of unique.UserName e.0 t)) (λ t. []) refl (λ t. refl) (text_of unique.UserName e.1)

    CommentUuid_none : filter (of_kind unique.Path d) (text_key unique.CommentUuid e) ≡ []
    CommentUuid_none = by_text (λ t. filter (of_kind unique.Path d) (key_of unique.CommentUuid e.0 t)) (λ t. []) refl (λ t. refl) (text_of unique.CommentUuid e.1)
row_part unique.CommentUuid d e =
    let p = of_kind unique.CommentUuid d in
    six p (text_key unique.NodeUuid e) (text_key unique.TermUuid e) (text_key unique.UserUuid e) (text_key unique.UserName e) (text_key unique.Path e) (text_key unique.CommentUuid e)
    ∙ (λ i. NodeUuid_none i ++ TermUuid_none i ++ UserUuid_none i ++ UserName_none i ++ Path_none i ++ own i)
    ∙ ends5 (one unique.CommentUuid d e.0 (text_of unique.CommentUuid e.1))
  where
    own : filter (of_kind unique.CommentUuid d) (text_key unique.CommentUuid e) ≡ one unique.CommentUuid d e.0 (text_of unique.CommentUuid e.1)
    own = by_text (λ t. filter (of_kind unique.CommentUuid d) (key_of unique.CommentUuid e.0 t)) (λ t. one unique.CommentUuid d e.0 t) refl (λ t. own_key unique.CommentUuid d t e.0 (is_eq (nat_cmp d (digest t))) refl) (text_of unique.CommentUuid e.1)

    NodeUuid_none : filter (of_kind unique.CommentUuid d) (text_key unique.NodeUuid e) ≡ []
    NodeUuid_none = by_text (λ t. filter (of_kind unique.CommentUuid d) (key_of unique.NodeUuid e.0 t)) (λ t. []) refl (λ t. refl) (text_of unique.NodeUuid e.1)

    TermUuid_none : filter (of_kind unique.CommentUuid d) (text_key unique.TermUuid e) ≡ []
    TermUuid_none = by_text (λ t. filter (of_kind unique.CommentUuid d) (key_of unique.TermUuid e.0 t)) (λ t. []) refl (λ t. refl) (text_of unique.TermUuid e.1)

    UserUuid_none : filter (of_kind unique.CommentUuid d) (text_key unique.UserUuid e) ≡ []
    UserUuid_none = by_text (λ t. filter (of_kind unique.CommentUuid d) (key_of unique.UserUuid e.0 t)) (λ t. []) refl (λ t. refl) (text_of unique.UserUuid e.1)

    UserName_none : filter (of_kind unique.CommentUuid d) (text_key unique.UserName e) ≡ []
    UserName_none = by_text (λ t. filter (of_kind unique.CommentUuid d) (key_of unique.UserName e.0 t)) (λ t. []) refl (λ t. refl) (text_of unique.UserName e.1)

    Path_none : filter (of_kind unique.CommentUuid d) (text_key unique.Path e) ≡ []
    Path_none = by_text (λ t. filter (of_kind unique.CommentUuid d) (key_of unique.Path e.0 t)) (λ t. []) refl (λ t. refl) (text_of unique.Path e.1)

-- ---- of all rows

module _ (what : Unique) (d : ℕ) where
  all_rows : (rows : List (Cell × Row)) → of_mark what d (flat_map text_keys rows) ≡ map (key what d) (filter (has what d) rows)
  all_rows [] = refl
  all_rows (e ∷ es) =
      filter-append (is_in (λ (m : TextMark) (k : TextKey). mark_cmp m k.mark) (mark what d)) (text_keys e) (flat_map text_keys es)
      ∙ (λ i. row_part what d e i ++ all_rows es i)
      ∙ go (has what d e)
    where
      go : (b : Bool) → cond b (key what d e ∷ []) [] ++ map (key what d) (filter (has what d) es) ≡ map (key what d) (cond b (e ∷ filter (has what d) es) (filter (has what d) es))
      go true = refl
      go false = refl

  below : (a b : Cell × Row) → cell_cmp a.0 b.0 ≡ Less → key_order.ghosts.cmp (key what d a) (key what d b) ≡ Less
  below a b h = ap (λ r. ordering_then r (cell_cmp a.0 b.0)) (tied_itself mark_total (mark what d)) ∙ h

  abbrev Below : Cell × Row → TextKey → Type 0
  Below a k = key_order.ghosts.cmp (key what d a) k ≡ Less

  all_below : (a : Cell × Row) (es : List (Cell × Row)) → AllByRecursion (λ c. cell_cmp a.0 c ≡ Less) (keys_of es) → AllByRecursion (Below a) (map (key what d) (filter (has what d) es))
  all_below a [] h = tt
  all_below a (e ∷ es) h = go (has what d e) (all_below a es h.1)
    where
      go : (b : Bool) → AllByRecursion (Below a) (map (key what d) (filter (has what d) es)) → AllByRecursion (Below a) (map (key what d) (cond b (e ∷ filter (has what d) es) (filter (has what d) es)))
      go true rest = (below a e h.0, rest)
      go false rest = rest

  keys_sorted : (es : List (Cell × Row)) → InOrder es → IsStrictlySortedBy key_order.ghosts.cmp (map (key what d) (filter (has what d) es))
  unfolding IsStrictlySortedBy
  keys_sorted [] h = tt
  keys_sorted (e ∷ es) h = go (has what d e) (all_below e es (sorted_head cell_cmp e.0 (keys_of es) h)) (keys_sorted es (sorted_tail cell_cmp e.0 (keys_of es) h))
    where
      go : (b : Bool) → AllByRecursion (Below e) (map (key what d) (filter (has what d) es)) → IsStrictlySortedBy key_order.ghosts.cmp (map (key what d) (filter (has what d) es))
          → IsStrictlySortedBy key_order.ghosts.cmp (map (key what d) (cond b (e ∷ filter (has what d) es) (filter (has what d) es)))
      go true first rest = (first, rest)
      go false first rest = rest

  -- the keys of one mark in the index
  pub of_index : (rows : List (Cell × Row)) → InOrder rows → of_mark what d (index_of key_order.ghosts.cmp text_keys rows) ≡ map (key what d) (filter (has what d) rows)
  of_index rows ordered =
      filter_in_order laws.total-law text_exact (is_in (λ (m : TextMark) (k : TextKey). mark_cmp m k.mark) (mark what d)) (flat_map text_keys rows)
      ∙ ap (in_order key_order.ghosts.cmp) (all_rows rows)
      ∙ ordered_stays laws.total-law text_exact (map (key what d) (filter (has what d) rows)) (keys_sorted rows ordered)

-- ---- what is found at the cells of the keys

abbrev pub Found : List (Cell × Row) → Cell × Row → Type 0
Found rows e = row_at rows e.0 ≡ Some e.1

later : (e : Cell × Row) (rows es : List (Cell × Row)) → AllByRecursion (λ c. cell_cmp e.0 c ≡ Less) (keys_of es) → AllByRecursion (Found rows) es → AllByRecursion (Found (e ∷ rows)) es
later e rows [] less found = tt
later e rows (x ∷ xs) less found =
    let over : cell_cmp x.0 e.0 ≡ Greater = cell_cmp_total.antisymm x.0 e.0 ∙ ap ordering_reverse less.0 in
    (ap (λ r. cond (is_eq r) (Some e.1) (row_at rows x.0)) over ∙ found.0, later e rows xs less.1 found.1)

pub found_all : (rows : List (Cell × Row)) → InOrder rows → AllByRecursion (Found rows) rows
found_all [] h = tt
found_all (e ∷ es) h = (
  ap (λ r. cond (is_eq r) (Some e.1) (row_at es e.0)) (tied_itself cell_cmp_total e.0),
  later e es es (sorted_head cell_cmp e.0 (keys_of es) h) (found_all es (sorted_tail cell_cmp e.0 (keys_of es) h)),
)

module _ (rows : List (Cell × Row)) (what : Unique) (text : List ℕ) where
  abbrev d : ℕ
  d = digest text

  -- who has the text has its digest
  digested : (own : Option (List ℕ)) → is_text text own ≡ true → has_digest what d own ≡ true
  digested None h = cc
  digested (Some t) h = ap (λ (l : List ℕ). is_eq (nat_cmp d (digest l))) ((bytes_eq-Decides t text).0 h) ∙ level d
    where
      level : (n : ℕ) → is_eq (nat_cmp n n) ≡ true
      level n = ap is_eq (tied_itself nat_cmp_total n)

  untrue : (a b : Bool) → (a ≡ true → b ≡ true) → b ≡ false → a ≡ false
  untrue true b h e = sym (h refl) ∙ e
  untrue false b h e = refl

  abbrev passes : Cell × Row → Bool
  passes e = is_text text (text_of what e.1)

  walk : (es : List (Cell × Row)) → AllByRecursion (Found rows) es → found_with rows what text (map (key what d) (filter (has what d) es)) ≡ filter passes es
  walk [] found = refl
  walk (e ∷ es) found = go (has what d e) refl (walk es found.1)
    where
      test : (b : Bool) → cons_option (option_map (λ r. (e.0, r)) (cond b (Some e.1) None)) (filter passes es) ≡ cond b (e ∷ filter passes es) (filter passes es)
      test true = refl
      test false = refl

      go : (b : Bool) → has what d e ≡ b → found_with rows what text (map (key what d) (filter (has what d) es)) ≡ filter passes es
          → found_with rows what text (map (key what d) (cond b (e ∷ filter (has what d) es) (filter (has what d) es))) ≡ cond (passes e) (e ∷ filter passes es) (filter passes es)
      go true h more =
          ap (λ o. cons_option (option_map (λ r. (e.0, r)) (option_and_then (λ r. cond (is_text text (text_of what r)) (Some r) None) o)) (found_with rows what text (map (key what d) (filter (has what d) es)))) found.0
          ∙ ap (cons_option (option_map (λ r. (e.0, r)) (cond (passes e) (Some e.1) None))) more
          ∙ test (passes e)
      go false h more = more ∙ sym (ap (λ b. cond b (e ∷ filter passes es) (filter passes es)) (untrue (passes e) (has what d e) (digested (text_of what e.1)) h))

  pub all_found : InOrder rows → found_with rows what text (of_mark what d (index_of key_order.ghosts.cmp text_keys rows)) ≡ having what text rows
  all_found ordered = ap (found_with rows what text) (of_index what d rows ordered) ∙ walk rows (found_all rows ordered)
