use Rattle.std.proofs.Common.{List, ℕ, ap, sym, refl}
use Rattle.render_array.specs.declared.element.Element.TheVariants as element
use Rattle.render_array.specs.Whole.{whole}
use Rattle.page_meaning.proofs.laws.kept_is_whole.Goals as goal

pub returns : goal.returns
returns c = record {
  fragments = λ path f. refl;
  targets = λ ask right. ap (λ (path : List ℕ). whole path element.Page) (sym right.path);
}
