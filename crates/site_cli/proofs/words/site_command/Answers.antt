use Rattle.std.proofs.Common.{◌∙◌, ap, codes}
use Rattle.clap.specs.Words.{App, with_subcommand}
use Rattle.site_cli.specs.Words.{drill_app, store_app}
use Rattle.site_cli.proofs.words.site_command.Goals as goal

pub returns : goal.returns
returns c =
    let imports = c.in_ok-importing.ensures ∙ ap (λ (a : App). with_subcommand a (store_app (codes "import")).top) c.in_ok-serving.ensures in
    let exports = c.in_ok-exporting.ensures ∙ ap (λ (a : App). with_subcommand a (store_app (codes "export")).top) imports in
    let checks = c.in_ok-checking.ensures ∙ ap (λ (a : App). with_subcommand a (store_app (codes "check")).top) exports in
    let lists = c.in_ok-listing.ensures ∙ ap (λ (a : App). with_subcommand a (store_app (codes "targets")).top) checks in
    c.in_ok-drilling.ensures ∙ ap (λ (a : App). with_subcommand a drill_app.top) lists
