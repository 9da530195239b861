-- What is said where no context is left out, and where some are.
use Rattle.std.proofs.Common.{List, [], ◌∷◌, ◌≡◌, Bool, true, false, true≢false, ◌||◌, refl, sym, ◌∙◌, ap, inl, inr, Contains}
use Rattle.std.specs.List.{list_any}
use Rattle.cacheability.specs.InOrder.{HasBoth}
use Rattle.cacheability.specs.declared.context.Context.{Context}
use Rattle.cacheability.specs.declared.tag.Tag.{Tag}
use Rattle.content_state.specs.Context.{Visit}
use Rattle.cache_contexts.specs.LeftOut.{LeavesOut}
use Rattle.cache_contexts.specs.Optimised.{is_redundant}
use Rattle.cache_contexts.proofs.Tests.{head_or_tail, nowhere, redundant_decided}

none_passes : {A : Type 0} (p : A → Bool) (xs : List A) → list_any p xs ≡ false → (x : A) → Contains xs x → p x ≡ false
none_passes p [] none x there = nowhere x there
none_passes {A} p (y ∷ ys) none x there = go (none_passes p ys) (p y) refl none
  where
    go : (list_any p ys ≡ false → (z : A) → Contains ys z → p z ≡ false) → (b : Bool) → p y ≡ b → (b || list_any p ys) ≡ false → p x ≡ false
    go later true is any = absurd (true≢false any)
    go later false is rest = elim (head_or_tail y ys x there) [ inl e ↦ ap p e ∙ is | inr g ↦ later rest x g ]

-- where no context is redundant beside the others all are kept
pub all_stay : (v : Visit) (all : List Context) → list_any (is_redundant all) all ≡ false → LeavesOut v all all []
all_stay v all none = record {
  kept_are = λ c. (
    λ held. (held, λ over. true≢false (sym ((redundant_decided all c).1 over) ∙ none_passes (is_redundant all) all none c held)),
    λ h. h.0,
  );
  tags_are = λ t. (λ h. nowhere t h, λ s. absurd (s.left_out s.named));
}

-- and nothing is added
pub no_more : (tags : List Tag) → HasBoth tags [] tags
no_more tags t = (λ h. inl h, λ h. elim h [ inl g ↦ g | inr g ↦ nowhere t g ])
