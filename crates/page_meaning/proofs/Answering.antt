-- What plans of rows tell.
use Rattle.std.proofs.Common.{ℕ, List, [], ◌∷◌, ◌++◌, ◌≡◌, refl, sym, ◌∙◌, ap, subst, arith, Bool, Option, Some, Contains, inl, inr}
use Rattle.std.specs.Prelude.{◌⊎◌}
use Rattle.std.proofs.lemmas.List.Elements.{Contains-push, Contains-push_cases}
use Rattle.cacheability.specs.declared.cacheability.Cacheability.{Cacheability}
use Rattle.cacheability.specs.declared.tag.Tag.{Tag}
use Rattle.cacheability.specs.declared.tag.Tag.TheVariants as tag
use Rattle.cacheability.specs.InOrder.{AddsItem}
use Rattle.content_rows.specs.declared.row.Block.{Block}
use Rattle.content_rows.specs.declared.row.Listing.{Listing}
use Rattle.content_state.specs.Read.{Read, Answer, BlockRow, ListingRow, answer, cover}
use Rattle.indexed_rows.specs.Rows.{block_of, listing_of}
use Rattle.content_state.specs.Context.{Visit}
use Rattle.content_state.specs.Plan.{Plan, Done, Reading, reading}
use Rattle.content_state.specs.Met.{met}
use Rattle.content_state.proofs.Filled.{in_append, in_left, in_right}
use Rattle.page_meaning.specs.Lazy.{listing_is_momentary, is_lazy_listing, is_lazy_block, is_lazy, Tells}

-- what stands in a list of one
in_one : {A : Type 0} (x y : A) → Contains (y ∷ []) x → x ≡ y
in_one x y h = elim (Contains-push_cases [] y x h) [ inl g ↦ absurd (let l = g.1 in omega arith) | inr e ↦ sym e ]

-- nothing is read
pub tells_nothing : (lazy : Bool) (v : Visit) (c : Cacheability) → Tells (Done lazy) v c lazy c
tells_nothing lazy v c = record {
  result = refl;
  tags = λ t. (λ h. inl h, λ h. elim h [ inl g ↦ g | inr g ↦ absurd (let l = g.1 in omega arith) ]);
  contexts = refl;
  age = refl;
}

-- a row is read, whose tag is told first
pub tells_row : (r : Read) (k : Answer r → Plan Bool) (v : Visit) (t : Tag) (old mid new : Cacheability) (lazy : Bool) → cover v.rows r ≡ t ∷ [] → AddsItem old.tags t mid.tags → mid.contexts ≡ old.contexts → mid.max_age ≡ old.max_age → Tells (k (answer v.rows r)) v mid lazy new → Tells (Reading r k) v old lazy new
tells_row r k v t old mid new lazy covers adds contexts age tells = record {
  result = tells.result;
  tags = λ u. (there u, back u);
  contexts = tells.contexts ∙ contexts;
  age = tells.age ∙ age;
}
  where
    others : List Tag
    others = (met (k (answer v.rows r)) v).tags

    there : (u : Tag) → Contains new.tags u → Contains old.tags u ⊎ Contains (cover v.rows r ++ others) u
    there u h = elim ((tells.tags u).0 h) [
      | inl g ↦ elim ((adds u).0 g) [
        | inl before ↦ inl before
        | inr is ↦ inr (in_left (cover v.rows r) others u (subst (λ ts. Contains ts u) (sym covers) (subst (Contains (t ∷ [])) (sym is) (Contains-push [] t))))
      ]
      | inr g ↦ inr (in_right (cover v.rows r) others u g)
    ]

    back : (u : Tag) → Contains old.tags u ⊎ Contains (cover v.rows r ++ others) u → Contains new.tags u
    back u (inl h) = (tells.tags u).1 (inl ((adds u).1 (inl h)))
    back u (inr h) = elim (in_append (cover v.rows r) others u h) [
      | inl g ↦ (tells.tags u).1 (inl ((adds u).1 (inr (in_one u t (subst (λ ts. Contains ts u) covers g)))))
      | inr g ↦ (tells.tags u).1 (inr g)
    ]

-- its tag was added to what was told
pub record Adds (t : Tag) (old new : Cacheability) : Type 0 where
  pub tags : AddsItem old.tags t new.tags
  pub contexts : new.contexts ≡ old.contexts
  pub age : new.max_age ≡ old.max_age

pub adds_tag : (t t' : Tag) (old new : Cacheability) (tags : List Tag) → t ≡ t' → AddsItem old.tags t new.tags → new ≡ record old { tags = tags } → Adds t' old new
adds_tag t t' old new tags is adds same = record {
  tags = subst (λ u. AddsItem old.tags u new.tags) is adds;
  contexts = ap (λ (c : Cacheability). c.contexts) same;
  age = ap (λ (c : Cacheability). c.max_age) same;
}

-- the row of a listing is read
pub listing_told : (name : List ℕ) (v : Visit) (row : Option Listing) (old new : Cacheability) (lazy : Bool) → row ≡ listing_of v.rows name → Adds (tag.Listing name) old new → lazy ≡ listing_is_momentary row → Tells (is_lazy_listing (Some name)) v old lazy new
unfolding reading
listing_told name v row old new lazy is adds given =
    tells_row (ListingRow name) (λ listing. Done (listing_is_momentary listing)) v (tag.Listing name) old new new lazy refl adds.tags adds.contexts adds.age
    (subst (λ b. Tells (Done b) v new lazy new) (given ∙ ap listing_is_momentary is) (tells_nothing lazy v new))

-- the row of a block is read
pub block_told : (name : List ℕ) (v : Visit) (row : Option Block) (old mid new : Cacheability) (lazy : Bool) → row ≡ block_of v.rows name → Adds (tag.Block name) old mid → Tells (is_lazy_block row) v mid lazy new → Tells (is_lazy name) v old lazy new
unfolding reading
block_told name v row old mid new lazy is adds tells =
    tells_row (BlockRow name) is_lazy_block v (tag.Block name) old mid new lazy refl adds.tags adds.contexts adds.age
    (subst (λ o. Tells (is_lazy_block o) v mid lazy new) is tells)
