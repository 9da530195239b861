-- What was built is kept: alone, or behind a redirect.
use Rattle.std.proofs.Common.{◌≡◌, ◌∙◌, List, Option, Some, None, ap, sym, subst}
use Rattle.cacheability.specs.declared.context.Context.{Context}
use Rattle.fragment_cache.specs.Bins.{Thing, Whole, Towards}
use Rattle.element_entries.specs.Keeping.{second_contexts}
use Rattle.site_hall.specs.Stock.{bins_in}
use Rattle.site_hall.specs.Hall.{HallView, with_stock}
use Rattle.site_rehearsal.specs.Seats.{Draft, first_of}
use Rattle.site_rehearsal.specs.Acts.{KeepsBehind, KeepsDraft}
use Rattle.site_rehearsal.specs.Keeping.{IsToldAt, KeepsThing}

-- nothing but what is kept of pages changes, by one call after the other
pub beside_on : (a b c : HallView) → b ≡ with_stock a b.stock → c ≡ with_stock b c.stock → c ≡ with_stock a c.stock
beside_on a b c first second = second ∙ ap (λ (h : HallView). with_stock h c.stock) first

pub kept_alone : (draft : Draft) (told second : Option (List Context)) (old mid new : HallView) → IsToldAt draft told old mid → second ≡ second_contexts (first_of draft) told draft.entry.cacheability.contexts → second ≡ None
    → KeepsThing draft (first_of draft) (Whole draft.entry) mid new → KeepsDraft draft (bins_in old.stock) (bins_in new.stock)
kept_alone draft told second old mid new at is none keeps = record {
  looked = bins_in mid.stock;
  found = at.found;
  looks = at.looks;
  keeps = subst (λ (o : Option (List Context)). KeepsBehind o draft (bins_in mid.stock) (bins_in new.stock)) (sym none ∙ is ∙ ap (λ t. second_contexts (first_of draft) t draft.entry.cacheability.contexts) at.told_is) keeps.keeps;
}

pub kept_behind : (draft : Draft) (told second : Option (List Context)) (contexts : List Context) (old mid between new : HallView) → IsToldAt draft told old mid → second ≡ second_contexts (first_of draft) told draft.entry.cacheability.contexts → second ≡ Some contexts
    → KeepsThing draft (first_of draft) (Towards contexts) mid between → KeepsThing draft contexts (Whole draft.entry) between new → KeepsDraft draft (bins_in old.stock) (bins_in new.stock)
kept_behind draft told second contexts old mid between new at is some redirects keeps = record {
  looked = bins_in mid.stock;
  found = at.found;
  looks = at.looks;
  keeps = subst (λ (o : Option (List Context)). KeepsBehind o draft (bins_in mid.stock) (bins_in new.stock)) (sym some ∙ is ∙ ap (λ t. second_contexts (first_of draft) t draft.entry.cacheability.contexts) at.told_is)
      (bins_in between.stock, redirects.keeps, keeps.keeps);
}

-- the same entry
pub kept_as : (draft : Draft) (contexts : List Context) (a b : Thing) (old new : HallView) → a ≡ b → KeepsThing draft contexts a old new → KeepsThing draft contexts b old new
kept_as draft contexts a b old new same keeps = subst (λ (t : Thing). KeepsThing draft contexts t old new) same keeps
