use Rattle.render_array.proofs.nodes.node_in_mode.Goals as goal

pub returns-in-Full : goal.returns-in-Full
returns-in-Full c = rw c.in-Full.is c.node_full.ensures

pub returns-in-Teaser : goal.returns-in-Teaser
returns-in-Teaser c = rw c.in-Teaser.is c.node_teaser.ensures

pub returns-in-Embed : goal.returns-in-Embed
returns-in-Embed c = rw c.in-Embed.is c.node_embed.ensures
