use Rattle.content_rows.specs.StarterRows.{starter_rows}
use Rattle.content_rows.proofs.starting.written.Goals as goal

pub returns : goal.returns
unfolding starter_rows
returns c = rw (c.name.ensures, c.name-2.ensures, c.name-3.ensures, c.name-4.ensures) at
    (c.with_row.ensures _ _
    (c.with_row-rows-7.ensures _ _
    (c.with_row-rows-6.ensures _ _
    (c.with_row-rows-5.ensures _ _
    (c.with_row-rows-4.ensures _ _
    (c.with_row-rows-3.ensures _ _
    (c.with_row-rows-2.ensures _ _
    (c.with_row-rows.ensures _ _
    c.with_capacity-rows.ensures.items c.site.ensures)
    c.seq.ensures)
    c.page_type.ensures)
    c.role.ensures)
    c.role-2.ensures)
    c.admin.ensures)
    c.node.ensures)
    c.frontpage.ensures)
