use Rattle.std.proofs.Common.{◌≡◌, ap, ◌∙◌, rules}
use Rattle.std.specs.Prelude.{◌&&◌, if◌then◌else◌}
use Rattle.std.specs.Str.{bytes_eq}
use Rattle.content_state.specs.declared.route.Route.TheVariants as route
use Rattle.content_state.specs.Entities.{is_json}
use Rattle.content_state.specs.Forms.{led_by, named_by, tags_by}
use Rattle.content_state.specs.Route.{path_tags, root_path, route_of, route_tags}
use Rattle.content_state.proofs.Named.{routed, tags_as_named}
use Rattle.content_state.proofs.There.{is_led_there}
use Rattle.content_state.proofs.route.route_of.Goals as goal

pub returns-clause-leads : goal.returns-clause-leads
unfolding path_tags root_path
returns-clause-leads c =
    let rows = c.args.state.now.rows in
    let path = c.args.path.now in
    let at = c.meant-meant.result.now in
    let named = c.named_by-named.ensures in
    let led : c.led_from-route.result ≡ route_of rows path =
    c.led_from-route.ensures
    ∙ ap (λ n. if bytes_eq path root_path && is_json at then route.Nothing else led_by rows at n) named
    ∙ ap (λ m. if bytes_eq path root_path && is_json m then route.Nothing else led_by rows m (named_by m)) c.meant-meant.ensures
    ∙ routed rows path in
    let tags : c.in_ok-tags.tags.items ≡ route_tags c.led_from-route.result at =
    c.in_ok-tags.ensures ∙ ap (tags_by c.led_from-route.result) named ∙ tags_as_named c.led_from-route.result at in
    search rules

pub returns-clause-there : goal.returns-clause-there
returns-clause-there c =
    let rows = c.args.state.now.rows in
    let path = c.args.path.now in
    let at = c.meant-meant.result.now in
    is_led_there rows path c.led_from-route.result
    (c.led_from-route.ensures
    ∙ ap (λ n. if bytes_eq path root_path && is_json at then route.Nothing else led_by rows at n) c.named_by-named.ensures
    ∙ ap (λ m. if bytes_eq path root_path && is_json m then route.Nothing else led_by rows m (named_by m)) c.meant-meant.ensures
    ∙ routed rows path)
