use Rattle.std.proofs.Common.{rules, ◌++◌, inl}
use Rattle.site_http.proofs.Again.{again_until}
use Rattle.site_http.proofs.reply.page_reply.Goals as goal

pub returns-clause-says : goal.returns-clause-says
returns-clause-says g c =
    let n = c.in_ok-page.ensures.built_for in
    record {
      needs = n.needs;
      holds = record {
        status = c.in_ok-page.page.status;
        body = c.in_ok-page.page.parts;
        page = c.in_ok-page.ensures.page;
        built_for = inl n.holds;
        built_at_most = c.in_ok-page.ensures.at_most;
        text_is = search rules;
      };
      kept = n.kept;
    }

pub returns-clause-again : goal.returns-clause-again
returns-clause-again g c =
    again_until c.until-last.result c.args.state.now c.args.ask.now c.args.now c.in_ok-page.page.last c.in_ok-page.page.status c.args.closing c.in_ok-page.page.parts (c.in_ok-head.head.items ++ c.in_ok-page.page.parts)
    c.until-last.ensures c.in_ok-page.ensures.lasts (search rules)
