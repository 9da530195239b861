-- What an element shows, as a plan of reads: what was read decides what is read next. From one plan follow the bytes
-- that it shows, its libraries, and what they depend on.
-- https://www.drupal.org/docs/drupal-apis/render-api/cacheability-of-render-arrays
use Rattle.std.specs.Prelude.{ℕ, List, [], ◌∷◌, ◌++◌, ◌≡◌, ◌≤◌, ◌+◌, ◌⊎◌, Contains, map}
use Rattle.html_out.specs.Escape.{escaped as escaped_bytes}
use Rattle.cacheability.specs.declared.tag.Tag.{Tag}
use Rattle.cacheability.specs.declared.context.Context.{Context}
use Rattle.content_state.specs.declared.element.Hole.{Hole}
use Rattle.content_state.specs.declared.element.Library.{Library}
use Rattle.content_state.specs.Read.{Read, Answer, answer, cover}
use Rattle.content_state.specs.Context.{Visit, Value, value, above, dropped_tags}

-- a piece of what is shown: a byte, or the place of something that is filled in later
pub data Piece : Type 0 where
  Byte : ℕ → Piece
  Place : Hole → Piece

abbrev pub bytes : List ℕ → List Piece
bytes bs = map Byte bs

-- a plan that gives an A
pub data Plan (A : Type 0) : Type 0 where
  Done : A → Plan A
  Write : List ℕ → Plan A → Plan A
  Attach : Library → Plan A → Plan A
  Reading : (r : Read) → (Answer r → Plan A) → Plan A
  Asking : (c : Context) → (Value c → Plan A) → Plan A
  Clock : ℕ → (ℕ → Plan A) → Plan A
  Part : Hole → Plan A → Plan A

infixl 10 ◌>>=◌
abbrev pub ◌>>=◌ : {A B : Type 0} → Plan A → (A → Plan B) → Plan B
(Done a) >>= f = f a
(Write bs k) >>= f = Write bs (k >>= f)
(Attach l k) >>= f = Attach l (k >>= f)
(Reading r k) >>= f = Reading r (λ x. k x >>= f)
(Asking c k) >>= f = Asking c (λ x. k x >>= f)
(Clock a k) >>= f = Clock a (λ t. k t >>= f)
(Part h k) >>= f = Part h (k >>= f)

infixl 10 ◌>>◌
abbrev pub ◌>>◌ : {A B : Type 0} → Plan A → Plan B → Plan B
p >> q = p >>= (λ _. q)

-- what a fragment depends on: tags, contexts, and the last moment at which it may be shown
pub record Needs : Type 0 where
  pub tags : List Tag
  pub contexts : List Context
  pub last : ℕ

-- each of xs is among ys
abbrev pub AllIn : {A : Type 0} → List A → List A → Type 0
AllIn [] ys = Unit {0}
AllIn (x ∷ xs) ys = Contains ys x × AllIn xs ys

-- a context is covered where it is needed, or where one that it stands below is, with the tags that stand in for it
abbrev pub CoversContext : Visit → Needs → Context → Type 0
CoversContext v needs c =
    Contains needs.contexts c
    ⊎ ((u : Context) × Contains (above c) u × Contains needs.contexts u × AllIn (dropped_tags v c) needs.tags)

-- On this visit the plan gives x, shows these pieces and attaches these libraries, and all that it reads is covered by
-- the needs. A part that reads the clock may show an earlier moment t, within its age.
abbrev pub Made : {A : Type 0} → Plan A → Visit → A → List Piece → List Library → Needs → Type 0
Made (Done a) v x shown libraries needs = (x ≡ a) × (shown ≡ []) × (libraries ≡ [])
Made (Write bs k) v x shown libraries needs =
    (rest : List Piece) × (shown ≡ bytes bs ++ rest) × Made k v x rest libraries needs
Made (Attach l k) v x shown libraries needs =
    (rest : List Library) × (libraries ≡ l ∷ rest) × Made k v x shown rest needs
Made (Reading r k) v x shown libraries needs =
    AllIn (cover v.rows r) needs.tags × Made (k (answer v.rows r)) v x shown libraries needs
Made (Asking c k) v x shown libraries needs =
    CoversContext v needs c × Made (k (value v c)) v x shown libraries needs
Made (Clock age k) v x shown libraries needs =
    (t : ℕ) × (t ≤ v.moment) × (needs.last ≤ t + age) × Made (k t) v x shown libraries needs
Made (Part h k) v x shown libraries needs =
    (rest : List Piece) × (shown ≡ Place h ∷ rest) × Made k v x rest libraries needs

-- the plan gives x and shows this on the visit, and what it shows may be shown at its moment
pub record Shows {A : Type 0} (p : Plan A) (v : Visit) (x : A) (shown : List Piece) (libraries : List Library) : Type 0 where
  pub needs : Needs
  pub not_over : v.moment ≤ needs.last
  pub made : Made p v x shown libraries needs

-- show bytes; show the escaped bytes of a text; attach a library; leave a place open
unfoldable pub write : List ℕ → Plan (Unit {0})
write bs = Write bs (Done tt)

unfoldable pub escaped : List ℕ → Plan (Unit {0})
escaped text = write (escaped_bytes text)

unfoldable pub attach : Library → Plan (Unit {0})
attach l = Attach l (Done tt)

unfoldable pub part : Hole → Plan (Unit {0})
part h = Part h (Done tt)

-- read the rows; ask for a context; read the clock, for a text that may be shown this many seconds
unfoldable pub reading : (r : Read) → Plan (Answer r)
reading r = Reading r Done

unfoldable pub asking : (c : Context) → Plan (Value c)
asking c = Asking c Done

unfoldable pub clock : ℕ → Plan ℕ
clock age = Clock age Done

-- one after another, for each of a list
unfoldable pub each : {A : Type 0} → (A → Plan (Unit {0})) → List A → Plan (Unit {0})
each f [] = Done tt
each f (x ∷ xs) = f x >> each f xs

-- along a list, with what was gathered so far
unfoldable pub folded : {A B : Type 0} → (B → A → Plan B) → B → List A → Plan B
folded f b [] = Done b
folded f b (x ∷ xs) = f b x >>= λ c. folded f c xs
