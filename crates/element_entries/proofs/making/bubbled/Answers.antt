use Rattle.std.proofs.Common.{◌∙◌}
use Rattle.cacheability.specs.declared.tag.Tag.TheVariants as tag
use Rattle.element_entries.proofs.Adding.{one_and_others}
use Rattle.element_entries.proofs.making.bubbled.Goals as goal

pub returns : goal.returns
returns c =
    let left = c.in_ok-leave_out.ensures in
    record {
      all = c.add_required.new.cacheability.contexts;
      stand_ins = left.stand_ins;
      all_are = c.in_ok-add_required.ensures.contexts;
      leaves_out = left.leaves_out;
      tags_are = one_and_others c.args.cacheability.tags c.add_required.new.cacheability.tags c.leave_out.new.said.tags left.stand_ins tag.Rendered c.in_ok-add_required.ensures.tags left.tags_are;
      age = left.age ∙ c.in_ok-add_required.ensures.age;
    }
