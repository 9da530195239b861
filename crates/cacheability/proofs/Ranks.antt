-- Tags and contexts of different kinds are told apart, and ordered, by their kinds.
use Rattle.std.proofs.Common.{ℕ, zero, suc, List, [], ◌∷◌, ◌++◌, ◌≡◌, ◌<◌, Bool, true, false, drop, get_or, length, refl, sym, ◌∙◌, ap, arith}
use Rattle.std.specs.Prelude.{codes, ◌&&◌, cond}
use Rattle.std.proofs.lemmas.Bool.{true≢false}
use Rattle.std.specs.List.{list_all}
use Rattle.std.specs.Ordering.{nat_cmp, ordering_then, ordering_reverse, is_lt, MatchOrdering}
use Rattle.std.specs.declared.cmp.Ordering.{Ordering}
use Rattle.std.specs.declared.cmp.Ordering.TheVariants.{Less, Equal, Greater}
use Rattle.std.specs.Cmp.Lexicographic.{slice_cmp}
use Rattle.std.proofs.lemmas.Cmp.{nat_list_cmp_total}
use Rattle.cacheability.specs.declared.tag.Tag.{Tag}
use Rattle.cacheability.specs.declared.tag.Tag.TheVariants as tag
use Rattle.cacheability.specs.Tag.{tag_text, tag_cmp, tag_rank, tag_name, tag_number, is_numbered}
use Rattle.cacheability.specs.declared.context.Context.{Context}
use Rattle.cacheability.specs.declared.context.Context.TheVariants as context
use Rattle.cacheability.specs.Context.{context_text, context_cmp, context_rank, context_name}
use Rattle.cacheability.specs.Decimal.{decimal}
use Rattle.cacheability.proofs.Decimals.{slice_cmp-append}

-- the tag of a kind with this number and this name in it
tag_made : ℕ → ℕ → List ℕ → Tag
tag_made rank n name =
    get_or (tag.NotFound ∷ tag.Comment n ∷ tag.CommentList n ∷ tag.Block name ∷ tag.BlockList ∷ tag.NodeType name ∷ tag.Menu name ∷ tag.Site ∷ tag.Role name ∷ tag.Listing name ∷ tag.Node n ∷ tag.NodeList ∷ tag.NodeListOf name ∷ tag.Rendered ∷ tag.Term n ∷ tag.TermList ∷ tag.User n ∷ []) rank tag.NotFound

tag_made_again : (t : Tag) → tag_made (tag_rank t) (tag_number t) (tag_name t) ≡ t
unfolding tag_made
tag_made_again tag.Site = refl
tag_made_again (tag.NodeType t) = refl
tag_made_again (tag.Role r) = refl
tag_made_again (tag.User u) = refl
tag_made_again (tag.Term t) = refl
tag_made_again tag.TermList = refl
tag_made_again (tag.Node n) = refl
tag_made_again tag.NodeList = refl
tag_made_again (tag.NodeListOf t) = refl
tag_made_again (tag.Comment c) = refl
tag_made_again (tag.CommentList n) = refl
tag_made_again (tag.Menu m) = refl
tag_made_again (tag.Listing l) = refl
tag_made_again (tag.Block b) = refl
tag_made_again tag.BlockList = refl
tag_made_again tag.Rendered = refl
tag_made_again tag.NotFound = refl

-- tags of one kind, with the same number and name in them, are the same
pub same_tags : (a b : Tag) → tag_rank a ≡ tag_rank b → tag_number a ≡ tag_number b → tag_name a ≡ tag_name b → a ≡ b
same_tags a b r n s = sym (tag_made_again a) ∙ (λ i. tag_made (r i) (n i) (s i)) ∙ tag_made_again b

context_made : ℕ → List ℕ → Context
context_made rank name =
    get_or (context.Language ∷ context.MenuTrail name ∷ context.Session ∷ context.SessionExists ∷ context.Theme ∷ context.Url ∷ context.UrlPath ∷ context.IsFront ∷ context.QueryArgs ∷ context.QueryArg name ∷ context.User ∷ context.NodeGrantsView ∷ context.UserPermissions ∷ context.UserRoles ∷ []) rank context.Language

context_made_again : (c : Context) → context_made (context_rank c) (context_name c) ≡ c
unfolding context_made
context_made_again context.Language = refl
context_made_again context.Theme = refl
context_made_again context.User = refl
context_made_again context.UserRoles = refl
context_made_again context.UserPermissions = refl
context_made_again context.NodeGrantsView = refl
context_made_again context.Url = refl
context_made_again context.UrlPath = refl
context_made_again context.IsFront = refl
context_made_again context.QueryArgs = refl
context_made_again (context.QueryArg name) = refl
context_made_again context.Session = refl
context_made_again context.SessionExists = refl
context_made_again (context.MenuTrail m) = refl

pub same_contexts : (a b : Context) → context_rank a ≡ context_rank b → context_name a ≡ context_name b → a ≡ b
same_contexts a b r s = sym (context_made_again a) ∙ (λ i. context_made (r i) (s i)) ∙ context_made_again b

-- ---- the order

less_of : (o : Ordering) → is_lt o ≡ true → o ≡ Less
less_of Less h = refl
less_of Equal h = absurd (true≢false (sym h))
less_of Greater h = absurd (true≢false (sym h))

not_less : {X : Type 0} (o : Ordering) → o ≡ Less → is_lt o ≡ false → X
not_less o h e = absurd (true≢false (sym (ap is_lt h) ∙ e))

then_less : (o p q : Ordering) → (p ≡ Less → q ≡ Less) → ordering_then o p ≡ Less → ordering_then o q ≡ Less
then_less Less p q f h = refl
then_less Equal p q f h = f h
then_less Greater p q f h = not_less Greater h refl

-- what is before a list is before each that begins with it
before_longer : (xs ys zs : List ℕ) → slice_cmp nat_cmp xs ys ≡ Less → slice_cmp nat_cmp xs (ys ++ zs) ≡ Less
before_longer [] [] zs h = not_less Equal h refl
before_longer [] (y ∷ ys) zs h = refl
before_longer (x ∷ xs) [] zs h = not_less Greater h refl
before_longer (x ∷ xs) (y ∷ ys) zs h =
    then_less (nat_cmp x y) (slice_cmp nat_cmp xs ys) (slice_cmp nat_cmp xs (ys ++ zs)) (λ e. before_longer xs ys zs e) h

module _ {X : Type 0} (p : X → Bool) where
  and_first : (a b : Bool) → (a && b) ≡ true → a ≡ true
  and_first true b h = refl
  and_first false b h = absurd (true≢false (sym h))

  and_rest : (a b : Bool) → (a && b) ≡ true → b ≡ true
  and_rest true b h = h
  and_rest false b h = absurd (true≢false (sym h))

  at_each : (xs : List X) (j : ℕ) (d : X) → j < length xs → list_all p xs ≡ true → p (get_or xs j d) ≡ true
  at_each [] j d l h = absurd (omega arith)
  at_each (x ∷ xs) zero d l h = and_first (p x) (list_all p xs) h
  at_each (x ∷ xs) (suc j) d l h = at_each xs j d (omega arith) (and_rest (p x) (list_all p xs) h)

  at_later : (xs : List X) (i j : ℕ) (d : X) → i < j → j < length xs → list_all p (drop (suc i) xs) ≡ true → p (get_or xs j d) ≡ true
  at_later [] i j d m l h = absurd (omega arith)
  at_later (x ∷ xs) i zero d m l h = absurd (omega arith)
  at_later (x ∷ xs) zero (suc j) d m l h = at_each xs j d (omega arith) h
  at_later (x ∷ xs) (suc i) (suc j) d m l h = at_later xs i j d (omega arith) (omega arith) h

-- whether a text is before each of these
abbrev is_before_all : List ℕ → List (List ℕ) → Bool
is_before_all text fronts = list_all (λ front. is_lt (slice_cmp nat_cmp text front)) fronts

-- what the texts of each kind of tag begin with, in order
abbrev tag_fronts : List (List ℕ)
tag_fronts =
    codes "4xx-response" ∷ codes "comment:" ∷ codes "comment_list:" ∷ codes "config:block.block." ∷ codes "config:block_list" ∷ codes "config:node.type." ∷ codes "config:system.menu." ∷ codes "config:system.site" ∷ codes "config:user.role." ∷ codes "config:views.view." ∷ codes "node:" ∷ codes "node_list" ∷ codes "node_list:" ∷ codes "rendered" ∷ codes "taxonomy_term:" ∷ codes "taxonomy_term_list" ∷ codes "user:" ∷ []

tag_before : (t : Tag) → is_before_all (tag_text t) (drop (suc (tag_rank t)) tag_fronts) ≡ true
tag_before tag.Site = refl
tag_before (tag.NodeType t) = refl
tag_before (tag.Role r) = refl
tag_before (tag.User u) = refl
tag_before (tag.Term t) = refl
tag_before tag.TermList = refl
tag_before (tag.Node n) = refl
tag_before tag.NodeList = refl
tag_before (tag.NodeListOf t) = refl
tag_before (tag.Comment c) = refl
tag_before (tag.CommentList n) = refl
tag_before (tag.Menu m) = refl
tag_before (tag.Listing l) = refl
tag_before (tag.Block b) = refl
tag_before tag.BlockList = refl
tag_before tag.Rendered = refl
tag_before tag.NotFound = refl

-- what follows the front of a text
abbrev tag_rest : Tag → List ℕ
tag_rest t = cond (is_numbered t) (decimal (tag_number t)) (tag_name t)

tag_begins : (t : Tag) → (tag_rank t < length tag_fronts) × (tag_text t ≡ get_or tag_fronts (tag_rank t) [] ++ tag_rest t)
tag_begins tag.Site = (omega arith, refl)
tag_begins (tag.NodeType t) = (omega arith, refl)
tag_begins (tag.Role r) = (omega arith, refl)
tag_begins (tag.User u) = (omega arith, refl)
tag_begins (tag.Term t) = (omega arith, refl)
tag_begins tag.TermList = (omega arith, refl)
tag_begins (tag.Node n) = (omega arith, refl)
tag_begins tag.NodeList = (omega arith, refl)
tag_begins (tag.NodeListOf t) = (omega arith, refl)
tag_begins (tag.Comment c) = (omega arith, refl)
tag_begins (tag.CommentList n) = (omega arith, refl)
tag_begins (tag.Menu m) = (omega arith, refl)
tag_begins (tag.Listing l) = (omega arith, refl)
tag_begins (tag.Block b) = (omega arith, refl)
tag_begins tag.BlockList = (omega arith, refl)
tag_begins tag.Rendered = (omega arith, refl)
tag_begins tag.NotFound = (omega arith, refl)

tag_less : (a b : Tag) → tag_rank a < tag_rank b → tag_cmp a b ≡ Less
tag_less a b l =
    let front : List ℕ = get_or tag_fronts (tag_rank b) [] in
    let told : is_lt (slice_cmp nat_cmp (tag_text a) front) ≡ true = at_later (λ f. is_lt (slice_cmp nat_cmp (tag_text a) f)) tag_fronts (tag_rank a) (tag_rank b) [] l (tag_begins b).0 (tag_before a) in
    rw ((tag_begins b).1) (before_longer (tag_text a) front (tag_rest b) (less_of (slice_cmp nat_cmp (tag_text a) front) told))

-- what the context's texts begin with, in order
abbrev context_fronts : List (List ℕ)
context_fronts =
    codes "languages:language_interface" ∷ codes "route.menu_active_trails:" ∷ codes "session" ∷ codes "session.exists" ∷ codes "theme" ∷ codes "url" ∷ codes "url.path" ∷ codes "url.path.is_front" ∷ codes "url.query_args" ∷ codes "url.query_args:" ∷ codes "user" ∷ codes "user.node_grants:view" ∷ codes "user.permissions" ∷ codes "user.roles" ∷ []

context_before : (c : Context) → is_before_all (context_text c) (drop (suc (context_rank c)) context_fronts) ≡ true
context_before context.Language = refl
context_before context.Theme = refl
context_before context.User = refl
context_before context.UserRoles = refl
context_before context.UserPermissions = refl
context_before context.NodeGrantsView = refl
context_before context.Url = refl
context_before context.UrlPath = refl
context_before context.IsFront = refl
context_before context.QueryArgs = refl
context_before (context.QueryArg name) = refl
context_before context.Session = refl
context_before context.SessionExists = refl
context_before (context.MenuTrail m) = refl

context_begins : (c : Context) → (context_rank c < length context_fronts) × (context_text c ≡ get_or context_fronts (context_rank c) [] ++ context_name c)
context_begins context.Language = (omega arith, refl)
context_begins context.Theme = (omega arith, refl)
context_begins context.User = (omega arith, refl)
context_begins context.UserRoles = (omega arith, refl)
context_begins context.UserPermissions = (omega arith, refl)
context_begins context.NodeGrantsView = (omega arith, refl)
context_begins context.Url = (omega arith, refl)
context_begins context.UrlPath = (omega arith, refl)
context_begins context.IsFront = (omega arith, refl)
context_begins context.QueryArgs = (omega arith, refl)
context_begins (context.QueryArg name) = (omega arith, refl)
context_begins context.Session = (omega arith, refl)
context_begins context.SessionExists = (omega arith, refl)
context_begins (context.MenuTrail m) = (omega arith, refl)

context_less : (a b : Context) → context_rank a < context_rank b → context_cmp a b ≡ Less
context_less a b l =
    let front : List ℕ = get_or context_fronts (context_rank b) [] in
    let told : is_lt (slice_cmp nat_cmp (context_text a) front) ≡ true = at_later (λ f. is_lt (slice_cmp nat_cmp (context_text a) f)) context_fronts (context_rank a) (context_rank b) [] l (context_begins b).0 (context_before a) in
    rw ((context_begins b).1) (before_longer (context_text a) front (context_name b) (less_of (slice_cmp nat_cmp (context_text a) front) told))

-- what the answer of an order by ranks says, where a lower rank is before
by_ranks : {K : Type 0} (cmp : K → K → Ordering) (rank : K → ℕ) → ((a b : K) → rank a < rank b → cmp a b ≡ Less) → ((a b : K) → cmp a b ≡ ordering_reverse (cmp b a)) → (a b : K) (o : Ordering) → MatchOrdering o (rank a < rank b) (rank a ≡ rank b) (rank b < rank a) → (o ≡ Equal → ⊥) → o ≡ cmp a b
by_ranks cmp rank less turned a b Less h n = sym (less a b h)
by_ranks cmp rank less turned a b Equal h n = absurd (n refl)
by_ranks cmp rank less turned a b Greater h n = ap ordering_reverse (sym (less b a h)) ∙ sym (turned a b)

pub bytes_turned : (xs ys : List ℕ) → slice_cmp nat_cmp xs ys ≡ ordering_reverse (slice_cmp nat_cmp ys xs)
bytes_turned xs ys = nat_list_cmp_total.antisymm xs ys

-- tags of different kinds are ordered by their kinds
pub tags_by_rank : (a b : Tag) (o : Ordering) → MatchOrdering o (tag_rank a < tag_rank b) (tag_rank a ≡ tag_rank b) (tag_rank b < tag_rank a) → (o ≡ Equal → ⊥) → o ≡ tag_cmp a b
tags_by_rank a b o h n = by_ranks tag_cmp tag_rank tag_less (λ x y. bytes_turned (tag_text x) (tag_text y)) a b o h n

pub contexts_by_rank : (a b : Context) (o : Ordering) → MatchOrdering o (context_rank a < context_rank b) (context_rank a ≡ context_rank b) (context_rank b < context_rank a) → (o ≡ Equal → ⊥) → o ≡ context_cmp a b
contexts_by_rank a b o h n = by_ranks context_cmp context_rank context_less (λ x y. bytes_turned (context_text x) (context_text y)) a b o h n

itself : (o : Ordering) → o ≡ ordering_reverse o → o ≡ Equal
itself Less h = absurd (true≢false (ap is_lt h))
itself Equal h = refl
itself Greater h = absurd (true≢false (sym (ap is_lt h)))

-- a list is as far as itself
pub same_bytes : (xs ys : List ℕ) → xs ≡ ys → Equal ≡ slice_cmp nat_cmp xs ys
same_bytes xs ys e = sym (itself (slice_cmp nat_cmp xs xs) (bytes_turned xs xs)) ∙ ap (λ zs. slice_cmp nat_cmp xs zs) e

-- texts that begin the same are ordered by what follows
by_rests : (front xs ys : List ℕ) → slice_cmp nat_cmp (front ++ xs) (front ++ ys) ≡ slice_cmp nat_cmp xs ys
by_rests front xs ys =
    slice_cmp-append front front xs ys refl ∙ ap (λ o. ordering_then o (slice_cmp nat_cmp xs ys)) (sym (same_bytes front front refl))

tags_by_rests : (a b : Tag) → tag_rank a ≡ tag_rank b → slice_cmp nat_cmp (tag_rest a) (tag_rest b) ≡ tag_cmp a b
tags_by_rests a b r =
    let front : List ℕ = get_or tag_fronts (tag_rank a) [] in
    let other : tag_text b ≡ front ++ tag_rest b = (tag_begins b).1 ∙ ap (λ k. get_or tag_fronts k [] ++ tag_rest b) (sym r) in
    sym (by_rests front (tag_rest a) (tag_rest b)) ∙ (λ i. slice_cmp nat_cmp (sym (tag_begins a).1 i) (sym other i))

-- which kinds have numbers is told by their ranks
numbered_by_rank : (t : Tag) → is_numbered t ≡ is_numbered (tag_made (tag_rank t) 0 [])
unfolding tag_made
numbered_by_rank tag.Site = refl
numbered_by_rank (tag.NodeType t) = refl
numbered_by_rank (tag.Role r) = refl
numbered_by_rank (tag.User u) = refl
numbered_by_rank (tag.Term t) = refl
numbered_by_rank tag.TermList = refl
numbered_by_rank (tag.Node n) = refl
numbered_by_rank tag.NodeList = refl
numbered_by_rank (tag.NodeListOf t) = refl
numbered_by_rank (tag.Comment c) = refl
numbered_by_rank (tag.CommentList n) = refl
numbered_by_rank (tag.Menu m) = refl
numbered_by_rank (tag.Listing l) = refl
numbered_by_rank (tag.Block b) = refl
numbered_by_rank tag.BlockList = refl
numbered_by_rank tag.Rendered = refl
numbered_by_rank tag.NotFound = refl

both_numbered : (a b : Tag) → tag_rank a ≡ tag_rank b → is_numbered a ≡ is_numbered b
both_numbered a b r = numbered_by_rank a ∙ ap (λ k. is_numbered (tag_made k 0 [])) r ∙ sym (numbered_by_rank b)

-- tags of one kind are ordered by the texts of their numbers, where they have some
pub tags_by_numbers : (a b : Tag) → tag_rank a ≡ tag_rank b → is_numbered a ≡ true → slice_cmp nat_cmp (decimal (tag_number a)) (decimal (tag_number b)) ≡ tag_cmp a b
tags_by_numbers a b r n =
    let one : tag_rest a ≡ decimal (tag_number a) = ap (λ t. cond t (decimal (tag_number a)) (tag_name a)) n in
    let other : tag_rest b ≡ decimal (tag_number b) = ap (λ t. cond t (decimal (tag_number b)) (tag_name b)) (sym (both_numbered a b r) ∙ n) in
    (λ i. slice_cmp nat_cmp (sym one i) (sym other i)) ∙ tags_by_rests a b r

-- and by their names, where they have none
pub tags_by_names : (a b : Tag) → tag_rank a ≡ tag_rank b → is_numbered a ≡ false → slice_cmp nat_cmp (tag_name a) (tag_name b) ≡ tag_cmp a b
tags_by_names a b r n =
    let one : tag_rest a ≡ tag_name a = ap (λ t. cond t (decimal (tag_number a)) (tag_name a)) n in
    let other : tag_rest b ≡ tag_name b = ap (λ t. cond t (decimal (tag_number b)) (tag_name b)) (sym (both_numbered a b r) ∙ n) in
    (λ i. slice_cmp nat_cmp (sym one i) (sym other i)) ∙ tags_by_rests a b r

-- contexts of one kind are ordered by their names
pub contexts_by_names : (a b : Context) → context_rank a ≡ context_rank b → slice_cmp nat_cmp (context_name a) (context_name b) ≡ context_cmp a b
contexts_by_names a b r =
    let front : List ℕ = get_or context_fronts (context_rank a) [] in
    let other : context_text b ≡ front ++ context_name b = (context_begins b).1 ∙ ap (λ k. get_or context_fronts k [] ++ context_name b) (sym r) in
    sym (by_rests front (context_name a) (context_name b)) ∙ (λ i. slice_cmp nat_cmp (sym (context_begins a).1 i) (sym other i))
