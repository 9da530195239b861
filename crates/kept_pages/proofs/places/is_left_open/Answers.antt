use Rattle.std.proofs.Common.{refl}
use Rattle.std.proofs.lemmas.Result.{IfOk-weaker}
use Rattle.element_entries.specs.Keys.{visit}
use Rattle.kept_pages.proofs.OfFrames.{asks_block, asks_none}
use Rattle.kept_pages.proofs.places.is_left_open.Goals as goal

pub returns-in-Block : goal.returns-in-Block
returns-in-Block c = IfOk-weaker c.is_lazy.result _ _ (λ lazy tells. asks_block c.args.reader.now _ _ _ _ lazy c.in-Block.is (rw c.state.ensures at tells) refl) c.is_lazy.ensures

pub returns-in-Menu : goal.returns-in-Menu
returns-in-Menu c = asks_none (visit c.args.reader.now) _ _ _ c.in-Menu.is refl refl

pub returns-in-Listing : goal.returns-in-Listing
returns-in-Listing c = asks_none (visit c.args.reader.now) _ _ _ c.in-Listing.is refl refl

pub returns-in-TermListing : goal.returns-in-TermListing
returns-in-TermListing c = asks_none (visit c.args.reader.now) _ _ _ c.in-TermListing.is refl refl

pub returns-in-Node : goal.returns-in-Node
returns-in-Node c = asks_none (visit c.args.reader.now) _ _ _ c.in-Node.is refl refl
