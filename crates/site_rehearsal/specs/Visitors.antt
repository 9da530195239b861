-- Who visits a page.
use Rattle.content_state.specs.Context.{Visit}
use Rattle.cache_contexts.specs.Values.{visit_on}
use Rattle.site_rehearsal.specs.declared.visitor.Visitor.{Visitor}

-- a visitor's visit of its state
abbrev pub visit : Visitor → Visit
visit v = visit_on v.state.now v.viewer.now v.ask.now v.moment
