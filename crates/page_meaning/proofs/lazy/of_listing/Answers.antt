use Rattle.std.proofs.Common.{ℕ, List, sym, ◌∙◌, ap, subst, Option}
use Rattle.std.specs.Option.{option_copied}
use Rattle.indexed_rows.specs.Rows.{listing_of}
use Rattle.page_meaning.specs.Lazy.{is_lazy_listing, Tells}
use Rattle.page_meaning.proofs.Answering.{adds_tag, listing_told}
use Rattle.page_meaning.proofs.lazy.of_listing.Goals as goal

pub returns : goal.returns
returns c = λ v on.
    subst (λ (name : Option (List ℕ)). Tells (is_lazy_listing name) v c.args.cacheability.now c.is_momentary.result c.add_tag.new.self) (sym c.in-Some.is)
    (listing_told c.in-Some.name v (option_copied c.listing-tag.result.0) _ _ _ (c.listing-tag.ensures.row ∙ ap (λ rows. listing_of rows c.in-Some.name) (sym on))
    (adds_tag _ _ _ _ _ c.listing-tag.ensures.tag c.in_ok-add_tag.ensures.exactly c.in_ok-add_tag.ensures.ok) c.is_momentary.ensures)
