-- The search for the first fault finds the first, and none only where there is none.
use Rattle.std.proofs.Common.{IsTrue, ◌↔◌, ◌∙◌, ℕ, List, [], ◌∷◌, ◌≡◌, ◌⊎◌, inl, inr, true, false, refl, sym, ap, subst}
use Rattle.std.specs.Prelude.{Option, Some, None, ◌||◌, ◌&&◌, is_none, option_and_then}
use Rattle.std.specs.Option.{option_or, MatchOption}
use Rattle.std.specs.List.{AllByRecursion}
use Rattle.std.specs.List.Sorted.{IsStrictlySortedBy}
use Rattle.std.specs.Map.{keys_of}
use Rattle.std.specs.BTreeMap.{is_at}
use Rattle.std.specs.Str.{bytes_eq}
use Rattle.std.specs.Cmp.{tied_itself, Equal-is}
use Rattle.std.specs.declared.cmp.Ordering.TheVariants.{Less, Equal}
use Rattle.std.proofs.lemmas.Map.Keys.{sorted_head, sorted_tail}
use Rattle.std.proofs.lemmas.Slice.Eq.{bytes_eq-Decides}
use Rattle.content_rows.specs.CellOrder.{cell_cmp}
use Rattle.content_rows.specs.Permission.{anonymous, authenticated}
use Rattle.content_rows.proofs.CellLemmas.{cell_cmp_exact, cell_cmp_total}
use Rattle.content_rows.specs.declared.cell.Cell.{Cell}
use Rattle.content_rows.specs.declared.cell.Cell.TheVariants as cell
use Rattle.content_rows.specs.declared.row.Row.{Row}
use Rattle.content_state.specs.declared.site_rules.SiteRule.{SiteRule}
use Rattle.content_state.specs.declared.site_rules.SiteRule.TheVariants as rule
use Rattle.content_state.specs.declared.site_rules.SiteField.{SiteField}
use Rattle.content_state.specs.declared.site_rules.SiteField.TheVariants as field
use Rattle.content_state.specs.declared.site_rules.NotASite.{NotASite}
use Rattle.indexed_rows.specs.Rows.{row_at, as_user, as_term, as_node, as_listing, as_session, as_comment, role_of}
use Rattle.content_state.specs.SiteRules.{cell_fault, user_fault, term_fault, node_fault, listing_fault, session_fault, comment_fault, first_broken, MeetsSiteRules, IsFirstFault}
use Rattle.content_state.specs.FirstFault.{fault_at, first_among, required}

-- a cell is one of some cells
abbrev Among : Cell → List Cell → Type 0
Among c [] = ⊥
Among c (x ∷ xs) = (c ≡ x) ⊎ Among c xs

-- of two cells one is below the other at most
not_both : (a b : Cell) → cell_cmp a b ≡ Less → cell_cmp b a ≡ Less → ⊥
not_both a b below above =
    let itself : cell_cmp a a ≡ Less = cell_cmp_total.trans a b a below above in
    let tied : cell_cmp a a ≡ Equal = tied_itself cell_cmp_total a in
    cc

not_below_itself : (a : Cell) → cell_cmp a a ≡ Less → ⊥
not_below_itself a below = not_both a a below below

below_all : (c : Cell) (xs : List Cell) (d : Cell) → AllByRecursion (λ x. cell_cmp c x ≡ Less) xs → Among d xs → cell_cmp c d ≡ Less
below_all c [] d h among = absurd among
below_all c (x ∷ xs) d h (inl same) = subst (λ (y : Cell). cell_cmp c y ≡ Less) (sym same) h.0
below_all c (x ∷ xs) d h (inr later) = below_all c xs d h.1 later

-- nothing found: none of the cells breaks a rule
fault_at_none : (c : Cell) (fault : Option (SiteRule × SiteField)) (rest : Option NotASite)
    → option_or (fault_at c fault) rest ≡ None → (fault ≡ None) × (rest ≡ None)
fault_at_none c None rest h = (refl, h)
fault_at_none c (Some fault) rest h = cc

none_among : (rows : List (Cell × Row)) (cs : List Cell) (c : Cell) → first_among rows cs ≡ None → Among c cs → cell_fault rows c ≡ None
none_among rows [] c h among = absurd among
none_among rows (x ∷ xs) c h (inl same) =
    subst (λ (y : Cell). cell_fault rows y ≡ None) (sym same) (fault_at_none x (cell_fault rows x) (first_among rows xs) h).0
none_among rows (x ∷ xs) c h (inr later) =
    none_among rows xs c (fault_at_none x (cell_fault rows x) (first_among rows xs) h).1 later

-- one found: it is one of the cells, it breaks a rule, and no cell of them below it does
record IsFirstAmong (rows : List (Cell × Row)) (cs : List Cell) (fault : NotASite) : Type 0 where
  broken : cell_fault rows fault.cell ≡ Some (fault.rule, fault.field)
  among : Among fault.cell cs
  first : (d : Cell) → Among d cs → cell_cmp d fault.cell ≡ Less → cell_fault rows d ≡ None

-- the fault of the head, or that of the rest
fault_at_some : (c : Cell) (fault : Option (SiteRule × SiteField)) (rest : Option NotASite) (found : NotASite)
    → option_or (fault_at c fault) rest ≡ Some found
    → ((fault ≡ Some (found.rule, found.field)) × (found.cell ≡ c)) ⊎ ((fault ≡ None) × (rest ≡ Some found))
fault_at_some c None rest found h = inr (refl, h)
fault_at_some c (Some fault) rest found h =
    let is : found ≡ record { cell = c; rule = fault.0; field = fault.1 } = cc in
    inl (sym (ap (λ (f : NotASite). Some (f.rule, f.field)) is), ap (λ (f : NotASite). f.cell) is)

first_of_head : (rows : List (Cell × Row)) (c : Cell) (cs : List Cell) (found : NotASite)
    → AllByRecursion (λ x. cell_cmp c x ≡ Less) cs
    → cell_fault rows c ≡ Some (found.rule, found.field) → found.cell ≡ c → IsFirstAmong rows (c ∷ cs) found
first_of_head rows c cs found below broken same = record {
  broken = subst (λ (y : Cell). cell_fault rows y ≡ Some (found.rule, found.field)) (sym same) broken;
  among = inl same;
  first = λ d among less.
      let before : cell_cmp d c ≡ Less = subst (λ (y : Cell). cell_cmp d y ≡ Less) same less in
      absurd (elim among as (λ _. ⊥) [
        | inl is ↦ not_below_itself c (subst (λ (y : Cell). cell_cmp y c ≡ Less) is before)
        | inr later ↦ not_both d c before (below_all c cs d below later)
      ]);
}

first_of_rest : (rows : List (Cell × Row)) (c : Cell) (cs : List Cell) (found : NotASite)
    → cell_fault rows c ≡ None → IsFirstAmong rows cs found → IsFirstAmong rows (c ∷ cs) found
first_of_rest rows c cs found none is = record {
  broken = is.broken;
  among = inr is.among;
  first = λ d among less. elim among as (λ _. cell_fault rows d ≡ None) [
    | inl same ↦ subst (λ (y : Cell). cell_fault rows y ≡ None) (sym same) none
    | inr later ↦ is.first d later less
  ];
}

some_among : (rows : List (Cell × Row)) (cs : List Cell) (found : NotASite)
    → IsStrictlySortedBy cell_cmp cs → first_among rows cs ≡ Some found → IsFirstAmong rows cs found
some_among rows [] found sorted h = cc
some_among rows (c ∷ cs) found sorted h =
    elim (fault_at_some c (cell_fault rows c) (first_among rows cs) found h) as (λ _. IsFirstAmong rows (c ∷ cs) found) [
      | inl here ↦ first_of_head rows c cs found (sorted_head cell_cmp c cs sorted) here.0 here.1
      | inr later ↦ first_of_rest rows c cs found later.0 (some_among rows cs found (sorted_tail cell_cmp c cs sorted) later.1)
    ]

-- a cell that has a row is one of the rows' cells
among_keys : (rows : List (Cell × Row)) (c : Cell) (row : Row) → row_at rows c ≡ Some row → Among c (keys_of rows)
among_keys [] c row h = cc
among_keys (e ∷ es) c row h =
    elim (is_at (cell_cmp c) e.0) as (λ b. is_at (cell_cmp c) e.0 ≡ b → Among c (keys_of (e ∷ es))) [
      | true ↦ λ at. inl (cell_cmp_exact c e.0 ((Equal-is (cell_cmp c e.0)).0 at))
      | false ↦ λ at. inr (among_keys es c row (rw at at h))
    ] refl

-- the cells that are to be there stand in order
required_in_order : IsStrictlySortedBy cell_cmp required
unfolding IsStrictlySortedBy anonymous authenticated
required_in_order = ((refl, (refl, (refl, tt))), ((refl, (refl, tt)), ((refl, tt), (tt, tt))))

-- a role that is to be there, or one that breaks no rule
role_required : (rows : List (Cell × Row)) (name : List ℕ) → Among (cell.Role name) required ⊎ (cell_fault rows (cell.Role name) ≡ None)
role_required rows name =
    elim (bytes_eq name anonymous) as (λ a. bytes_eq name anonymous ≡ a → Among (cell.Role name) required ⊎ (first_broken (((a || bytes_eq name authenticated) && is_none (role_of rows name), rule.Missing, field.Cell) ∷ []) ≡ None)) [
      | true ↦ λ e. inl (inr (inr (inl (ap cell.Role ((bytes_eq-Decides name anonymous).0 e)))))
      | false ↦ λ _.
          elim (bytes_eq name authenticated) as (λ b. bytes_eq name authenticated ≡ b → Among (cell.Role name) required ⊎ (first_broken (((false || b) && is_none (role_of rows name), rule.Missing, field.Cell) ∷ []) ≡ None)) [
            | true ↦ λ e. inl (inr (inr (inr (inl (ap cell.Role ((bytes_eq-Decides name authenticated).0 e))))))
            | false ↦ λ _. inr refl
          ] refl
    ] refl

-- a cell without a row that is not to be there breaks no rule
abbrev IsRight : List (Cell × Row) → Cell → Type 0
IsRight rows c = (c ≡ cell.Talk) ⊎ (cell_fault rows c ≡ None)

absent_is_right : (rows : List (Cell × Row)) (c : Cell) → row_at rows c ≡ None → Among c required ⊎ IsRight rows c
absent_is_right rows cell.Site h = inl (inl refl)
absent_is_right rows cell.Seq h = inl (inr (inl refl))
absent_is_right rows (cell.NodeType name) h = inr (inr refl)
absent_is_right rows (cell.Role name) h = elim (role_required rows name) as (λ _. Among (cell.Role name) required ⊎ IsRight rows (cell.Role name)) [ inl h ↦ inl h | inr h ↦ inr (inr h) ]
absent_is_right rows (cell.User id) h = inr (inr (ap (λ (r : Option Row). user_fault rows (cell.User id) (option_and_then as_user r)) h))
absent_is_right rows (cell.Term id) h = inr (inr (ap (λ (r : Option Row). term_fault rows (cell.Term id) id (option_and_then as_term r)) h))
absent_is_right rows (cell.Node id) h = inr (inr (ap (λ (r : Option Row). node_fault rows (cell.Node id) (option_and_then as_node r)) h))
absent_is_right rows (cell.Menu name) h = inr (inr refl)
absent_is_right rows (cell.Listing name) h = inr (inr (ap (λ (r : Option Row). listing_fault rows (cell.Listing name) (option_and_then as_listing r)) h))
absent_is_right rows (cell.Block name) h = inr (inr refl)
absent_is_right rows (cell.Session name) h = inr (inr (ap (λ (r : Option Row). session_fault rows (option_and_then as_session r)) h))
absent_is_right rows (cell.Comment id) h = inr (inr (ap (λ (r : Option Row). comment_fault rows (cell.Comment id) id (option_and_then as_comment r)) h))
absent_is_right rows cell.Talk h = inr (inl refl)
absent_is_right rows cell.Head h = inr (inr refl)

-- each cell is to be there, or has a row, or is that of the next id of a comment, or breaks no rule
abbrev IsLookedAt : List (Cell × Row) → Cell → Type 0
IsLookedAt rows c = Among c required ⊎ Among c (keys_of rows) ⊎ IsRight rows c

looked_at : (rows : List (Cell × Row)) (c : Cell) → IsLookedAt rows c
looked_at rows c =
    elim (row_at rows c) as (λ r. row_at rows c ≡ r → IsLookedAt rows c) [
      | None ↦ λ e. elim (absent_is_right rows c e) as (λ _. IsLookedAt rows c) [
        | inl h ↦ inl h
        | inr h ↦ inr (inr h)
      ]
      | Some row ↦ λ e. inr (inl (among_keys rows c row e))
    ] refl

-- The cells that are to be there come before each other cell that can break a rule.
module _ (P : Cell → Type 0) where
  each_required : P cell.Site → P cell.Seq → P (cell.Role anonymous) → P (cell.Role authenticated) → (c : Cell) → Among c required → P c
  each_required s q a b c (inl e) = subst P (sym e) s
  each_required s q a b c (inr (inl e)) = subst P (sym e) q
  each_required s q a b c (inr (inr (inl e))) = subst P (sym e) a
  each_required s q a b c (inr (inr (inr (inl e)))) = subst P (sym e) b
  each_required s q a b c (inr (inr (inr (inr h)))) = absurd h

abbrev IsLate : List (Cell × Row) → Cell → Type 0
IsLate rows d = Among d required ⊎ (cell_fault rows d ≡ None) ⊎ ((c : Cell) → Among c required → cell_cmp c d ≡ Less)

late : (rows : List (Cell × Row)) (d : Cell) → IsLate rows d
late rows cell.Site = inl (inl refl)
late rows cell.Seq = inl (inr (inl refl))
late rows (cell.NodeType name) = inr (inl refl)
late rows (cell.Role name) = elim (role_required rows name) as (λ _. IsLate rows (cell.Role name)) [ inl h ↦ inl h | inr h ↦ inr (inl h) ]
late rows (cell.User id) = inr (inr (each_required (λ c. cell_cmp c (cell.User id) ≡ Less) refl refl refl refl))
late rows (cell.Term id) = inr (inr (each_required (λ c. cell_cmp c (cell.Term id) ≡ Less) refl refl refl refl))
late rows (cell.Node id) = inr (inr (each_required (λ c. cell_cmp c (cell.Node id) ≡ Less) refl refl refl refl))
late rows (cell.Menu name) = inr (inl refl)
late rows (cell.Listing name) = inr (inr (each_required (λ c. cell_cmp c (cell.Listing name) ≡ Less) refl refl refl refl))
late rows (cell.Block name) = inr (inl refl)
late rows (cell.Session name) = inr (inr (each_required (λ c. cell_cmp c (cell.Session name) ≡ Less) refl refl refl refl))
late rows (cell.Comment id) = inr (inr (each_required (λ c. cell_cmp c (cell.Comment id) ≡ Less) refl refl refl refl))
late rows cell.Talk = inr (inr (each_required (λ c. cell_cmp c cell.Talk ≡ Less) refl refl refl refl))
late rows cell.Head = inr (inl refl)

-- behind the next id of a comment no cell breaks a rule
after_talk : (rows : List (Cell × Row)) (c : Cell) → cell_cmp cell.Talk c ≡ Less → cell_fault rows c ≡ None
after_talk rows cell.Site less = cc
after_talk rows cell.Seq less = cc
after_talk rows (cell.NodeType name) less = cc
after_talk rows (cell.Role name) less = cc
after_talk rows (cell.User id) less = cc
after_talk rows (cell.Term id) less = cc
after_talk rows (cell.Node id) less = cc
after_talk rows (cell.Menu name) less = cc
after_talk rows (cell.Listing name) less = cc
after_talk rows (cell.Block name) less = cc
after_talk rows (cell.Session name) less = cc
after_talk rows (cell.Comment id) less = cc
after_talk rows cell.Talk less = cc
after_talk rows cell.Head less = refl

-- a fault that is found among the cells that are to be there is the first
pub first_required : (rows : List (Cell × Row)) (found : NotASite) → first_among rows required ≡ Some found → IsFirstFault rows found
first_required rows found h =
    let is : IsFirstAmong rows required found = some_among rows required found required_in_order h in
    record {
      broken = is.broken;
      first = λ d less. elim (late rows d) as (λ _. cell_fault rows d ≡ None) [
        | inl among ↦ is.first d among less
        | inr (inl none) ↦ none
        | inr (inr above) ↦ absurd (not_both d found.cell less (above found.cell is.among))
      ];
    }

-- where none is found there, a fault that is found among the rows' cells is the first
first_present : (rows : List (Cell × Row)) (found : NotASite) → IsStrictlySortedBy cell_cmp (keys_of rows)
    → first_among rows required ≡ None → first_among rows (keys_of rows) ≡ Some found → IsFirstFault rows found
first_present rows found sorted none h =
    let is : IsFirstAmong rows (keys_of rows) found = some_among rows (keys_of rows) found sorted h in
    record {
      broken = is.broken;
      first = λ d less. elim (looked_at rows d) as (λ _. cell_fault rows d ≡ None) [
        | inl among ↦ none_among rows required d none among
        | inr (inl among) ↦ is.first d among less
        | inr (inr (inl talk)) ↦
            let behind : cell_cmp cell.Talk found.cell ≡ Less = subst (λ (y : Cell). cell_cmp y found.cell ≡ Less) talk less in
            let clash : None ≡ Some (found.rule, found.field) = sym (after_talk rows found.cell behind) ∙ is.broken in
            cc
        | inr (inr (inr right)) ↦ right
      ];
    }

-- where none is found among them either, the next id of a comment is the first that may break a rule
first_talk : (rows : List (Cell × Row)) (fault : SiteRule × SiteField)
    → first_among rows required ≡ None → first_among rows (keys_of rows) ≡ None → cell_fault rows cell.Talk ≡ Some fault
    → IsFirstFault rows (record { cell = cell.Talk; rule = fault.0; field = fault.1 })
first_talk rows fault none more broken = record {
  broken = broken;
  first = λ d less. elim (looked_at rows d) as (λ _. cell_fault rows d ≡ None) [
    | inl among ↦ none_among rows required d none among
    | inr (inl among) ↦ none_among rows (keys_of rows) d more among
    | inr (inr (inl talk)) ↦ absurd (not_below_itself cell.Talk (subst (λ (y : Cell). cell_cmp y cell.Talk ≡ Less) talk less))
    | inr (inr (inr right)) ↦ right
  ];
}

-- where none is found at all, no cell breaks a rule
none_at_all : (rows : List (Cell × Row)) → first_among rows required ≡ None → first_among rows (keys_of rows) ≡ None → cell_fault rows cell.Talk ≡ None → MeetsSiteRules rows
none_at_all rows none more last c = elim (looked_at rows c) as (λ _. cell_fault rows c ≡ None) [
  | inl among ↦ none_among rows required c none among
  | inr (inl among) ↦ none_among rows (keys_of rows) c more among
  | inr (inr (inl talk)) ↦ subst (λ (y : Cell). cell_fault rows y ≡ None) (sym talk) last
  | inr (inr (inr right)) ↦ right
]

-- what the search among the rows' cells and at the next id of a comment then answers
pub found_later : (rows : List (Cell × Row)) (found : Option NotASite) → IsStrictlySortedBy cell_cmp (keys_of rows)
    → first_among rows required ≡ None → found ≡ option_or (first_among rows (keys_of rows)) (fault_at cell.Talk (cell_fault rows cell.Talk))
    → MatchOption found (MeetsSiteRules rows) (IsFirstFault rows)
found_later rows found sorted none is =
    subst (λ f. MatchOption f (MeetsSiteRules rows) (IsFirstFault rows)) (sym is) (on (first_among rows (keys_of rows)) refl (cell_fault rows cell.Talk) refl)
  where
    on : (p : Option NotASite) → first_among rows (keys_of rows) ≡ p → (q : Option (SiteRule × SiteField)) → cell_fault rows cell.Talk ≡ q
        → MatchOption (option_or p (fault_at cell.Talk q)) (MeetsSiteRules rows) (IsFirstFault rows)
    on (Some first) e q last = first_present rows first sorted none e
    on None e None last = none_at_all rows none e last
    on None e (Some fault) last = first_talk rows fault none e last

-- a first fault is one
pub refutes : (rows : List (Cell × Row)) (fault : NotASite) → IsFirstFault rows fault → IsTrue false ↔ MeetsSiteRules rows
refutes rows fault first = (
  λ e. cc,
  λ meets. let clash : None ≡ Some (fault.rule, fault.field) = sym (meets fault.cell) ∙ first.broken in cc,
)

pub meets : (rows : List (Cell × Row)) → MeetsSiteRules rows → IsTrue true ↔ MeetsSiteRules rows
meets rows all = (λ _. all, λ _. refl)

or_none : {A : Type 0} (a : Option A) → option_or a None ≡ a
or_none None = refl
or_none (Some a) = refl

-- the search among the cells that are to be there, told one after another
pub required_are : (rows : List (Cell × Row)) (site seq visitors members : Option NotASite)
    → site ≡ fault_at cell.Site (cell_fault rows cell.Site) → seq ≡ fault_at cell.Seq (cell_fault rows cell.Seq)
    → visitors ≡ fault_at (cell.Role anonymous) (cell_fault rows (cell.Role anonymous))
    → members ≡ fault_at (cell.Role authenticated) (cell_fault rows (cell.Role authenticated))
    → option_or site (option_or seq (option_or visitors members)) ≡ first_among rows required
required_are rows site seq visitors members a b c d =
    ap (λ f. option_or f (option_or seq (option_or visitors members))) a
    ∙ ap (λ f. option_or (fault_at cell.Site (cell_fault rows cell.Site)) (option_or f (option_or visitors members))) b
    ∙ ap (λ f. option_or (fault_at cell.Site (cell_fault rows cell.Site)) (option_or (fault_at cell.Seq (cell_fault rows cell.Seq)) (option_or f members))) c
    ∙ ap (λ f. option_or (fault_at cell.Site (cell_fault rows cell.Site)) (option_or (fault_at cell.Seq (cell_fault rows cell.Seq)) (option_or (fault_at (cell.Role anonymous) (cell_fault rows (cell.Role anonymous))) f)))
    (d ∙ sym (or_none (fault_at (cell.Role authenticated) (cell_fault rows (cell.Role authenticated)))))
