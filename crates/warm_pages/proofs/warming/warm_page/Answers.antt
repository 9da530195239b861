use Rattle.warm_pages.specs.Asked.{reader_of}
use Rattle.warm_pages.proofs.Warmed.{renders_of}
use Rattle.warm_pages.proofs.warming.warm_page.Goals as goal

pub returns-clause-renders : goal.returns-clause-renders
returns-clause-renders g c =
    renders_of (reader_of c.args.state.now c.args.now c.args.target.now) _ _ _ (rw c.in_ok-ask.ensures at c.in_ok-render_page.ensures.built)
