use Rattle.std.proofs.Common.{◌∙◌, [], ◌≡◌, ◌↔◌, ◌⊎◌, false, refl, sym, ap, subst, List, Contains}
use Rattle.std.specs.List.{list_any}
use Rattle.cacheability.specs.InOrder.{union}
use Rattle.cacheability.specs.declared.context.Context.{Context}
use Rattle.cacheability.specs.declared.tag.Tag.{Tag}
use Rattle.cacheability.specs.Tag.{tag_cmp}
use Rattle.cacheability.proofs.InOrder.{Contains-union}
use Rattle.cacheability.proofs.Texts.{exact_tags}
use Rattle.cache_contexts.specs.LeftOut.{LeavesOut}
use Rattle.cache_contexts.specs.Optimised.{is_redundant}
use Rattle.element_entries.specs.Keys.{visit}
use Rattle.element_entries.proofs.Redundant.{all_stay, no_more}
use Rattle.element_entries.proofs.leaving.leave_out.Goals as goal

pub returns-then-not-some_redundant : goal.returns-then-not-some_redundant
returns-then-not-some_redundant c =
    let said = c.args.said.now in
    record {
      stand_ins = [];
      leaves_out = all_stay (visit c.args.reader.now) said.contexts
          (subst (λ (all : List Context). list_any (is_redundant all) all ≡ false) c.contexts.ensures.same (sym c.if-not-some_redundant.ensures));
      tags_are = no_more said.tags;
      age = refl;
    }

pub returns : goal.returns
returns c =
    let said = c.args.said.now in
    let kept = c.in_ok-kept.kept in
    record {
      stand_ins = kept.tags;
      leaves_out = subst (λ (all : List Context). LeavesOut (visit c.args.reader.now) all kept.contexts kept.tags) c.contexts-2.ensures.same
          (rw (c.state.ensures, c.viewer.ensures) at (c.in_ok-kept.ensures.leaves_out c.args.reader.now.ask c.args.reader.now.moment));
      tags_are = λ t. subst (λ (ts : List Tag). Contains ts t ↔ (Contains said.tags t ⊎ Contains kept.tags t))
          (sym (c.in_ok-add_all.ensures ∙ ap (union tag_cmp said.tags) c.as_slice.ensures.same))
          (Contains-union tag_cmp exact_tags said.tags kept.tags t);
      age = refl;
    }
